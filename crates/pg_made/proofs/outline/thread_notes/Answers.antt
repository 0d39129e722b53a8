use Rattle.std.proofs.Common.{◌≡◌, ℕ, ◌+◌, ◌-◌, [], ◌∷◌, ◌++◌, map, sym, ap, ◌∙◌, arith}
use Rattle.std.specs.List.{range_with_len}
use Rattle.std.proofs.lemmas.List.{map-append}
use Rattle.pg_assertion.specs.declared.atom.RawAtom.{RawAtom}
use Rattle.pg_assertion.specs.Formula.{Plain, plain, with_atoms}
use Rattle.pg_assertion.specs.Atom.{raw_of}
use Rattle.pg_made.specs.Made.{note}
use Rattle.pg_made.proofs.Turns.{one_more, twice}
use Rattle.pg_made.proofs.outline.thread_notes.Goals as goal

pub points-preserved : goal.points-preserved
points-preserved c =
    let f : ℕ → Plain RawAtom = λ k. with_atoms raw_of (note c.args.t k) in
    let made = map plain c.points.notes.items in
    one_more f c.points.k made (map plain c.push.new.self.items) (omega arith) c.points.invariant
    (ap (map plain) c.in_ok-push.ensures.items
    ∙ (map-append plain c.points.notes.items (c.in_ok-assertion.assertion ∷ []) ∙ ap (λ (g : Plain RawAtom). made ++ g ∷ []) c.in_ok-assertion.ensures))

pub returns : goal.returns
returns c =
    let count : c.points.k - 1 ≡ c.args.n + 1 = omega arith in
    c.points.invariant
    ∙ (ap (λ (m : ℕ). map (λ k. with_atoms raw_of (note c.args.t k)) (range_with_len 1 m)) count
    ∙ sym (twice (with_atoms raw_of) (note c.args.t) (range_with_len 1 (c.args.n + 1))))
