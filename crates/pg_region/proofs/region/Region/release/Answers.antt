use Rattle.std.proofs.Common.{◌≡◌, ◌≤◌, ◌∷◌, List, ℕ, length, get_or, refl, arith, ap, ◌∙◌}
use Rattle.std.proofs.lemmas.List.{length-take}
use Rattle.pg_region.specs.Pieces.{pieces}
use Rattle.pg_region.proofs.Pieces.{length-pieces, ends-before, pieces-take, pieces-total}
use Rattle.pg_region.proofs.Tables.{same_table, region-cut, cut-total}
use Rattle.pg_region.proofs.region.Region.release.Goals as goal

within : (c : goal.After-truncate-2) → c.mark.inside.length ≤ length c.self.inside.ends.items
within c =
    let h : c.args.mark ≤ length c.args.self.now.clauses = c.requires in
    let h2 = rw (← c.self.view_is) at h in
    omega (arith, h2, c.mark.view_is, length-pieces c.self.inside.words.items 0 c.self.inside.ends.items)

end : (c : goal.After-truncate-2) → c.end_of-end.result ≡ get_or (0 ∷ c.self.inside.ends.items) c.mark.inside.length 0
end c = c.end_of-end.ensures ∙ ap (λ (l : List ℕ). get_or (0 ∷ l) c.mark.inside.length 0) c.deref.ensures.value

pub end_of-end-requires : goal.end_of-end-requires
end_of-end-requires c =
    rw c.deref.ensures.value
    (let h : c.args.mark ≤ length c.args.self.now.clauses = c.requires in
    let h2 = rw (← c.self.view_is) at h in
    omega (arith, h2, length-pieces c.self.inside.words.items 0 c.self.inside.ends.items))

pub invariant_of-self : goal.invariant_of-self
invariant_of-self c =
    rw (c.truncate.ensures.items, c.truncate-2.ensures.items, c.truncate.ensures.capacity, c.truncate-2.ensures.capacity, end c)
    (region-cut _ _ _ _ _ c.self.invariant (within c))

pub returns : goal.returns
returns c =
    let ws = c.self.inside.words.items in
    let ends = c.self.inside.ends.items in
    let k = c.mark.inside.length in
    let inv = c.self.invariant in
    let le = within c in
    let b = ends-before 0 ends (length ws) k inv.pieces_end le in
    let whole = pieces-total ws 0 ends (length ws) inv.pieces_end (omega arith) in
    let cut = cut-total ws ends _ _ k inv le in
    let e = end c in
    rw (← c.self.view_is, ← c.mark.view_is)
    (same_table _ _ _ _ _ _ _ _
    (rw (c.truncate.ensures.items, c.truncate-2.ensures.items, e) (pieces-take ws 0 ends (length ws) k _ inv.pieces_end le (omega arith)))
    (omega (arith, whole, cut, b.1, e, c.truncate.ensures.len, c.truncate.ensures.capacity))
    (omega (arith, length-take k (pieces ws 0 ends), length-pieces ws 0 ends, c.truncate-2.ensures.len, c.truncate-2.ensures.capacity))
    refl)
