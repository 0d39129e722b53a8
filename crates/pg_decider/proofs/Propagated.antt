use Rattle.std.proofs.Common.{◌≡◌, ℕ, zero, suc, ◌+◌, ◌<◌, ◌≤◌, Bool, true, false, List, [], ◌∷◌, ◌++◌, length, take, refl, sym, ap, subst, ◌∙◌, arith, inl, inr}
use Rattle.std.proofs.lemmas.Bool.{false_from_ne_true, or_cases, or_left, or_right}
use Rattle.std.proofs.lemmas.List.{take_more, take_all, take-take}
use Rattle.pg_region.specs.Literal.{Literal, same, negated}
use Rattle.pg_region.specs.Pieces.{total}
use Rattle.pg_decider.specs.Assignment.{on, added, Within, IsClosed, HasConflict}
use Rattle.pg_decider.specs.Chains.{chain, ChainTable, AreChains}
use Rattle.pg_decider.specs.Counted.{false_count, met_in}
use Rattle.pg_decider.specs.Trail.{lit, none, TrailTable, IsTrail}
use Rattle.pg_decider.specs.Watch.{place, Placed, Shape, Grown, Watching, Watched, KeepsWatched, Propagating}
use Rattle.pg_decider.proofs.Literals.{negated-negated, on-push}
use Rattle.pg_decider.proofs.Watching.{watched-closed, watched-calm}
use Rattle.pg_decider.proofs.Visits.{on-at, grown-trans}
use Rattle.pg_decider.proofs.Counting.{chain-met, false_count-more, false_count-le}

pub watching-less : (cs : List (List Literal)) (ws : List Literal) (late : List ℕ) (p q s : Literal → Bool) (but : ℕ) → Within q p → Watching cs ws late p s but → Watching cs ws late q s but
watching-less cs ws late p q s but sub w = record {
  one = w.one;
  held = λ x lt ne out h. w.held x lt ne out (sub (negated (lit ws x)) h);
}

pub on-take : (k : ℕ) (t : List Literal) → Within (on (take k t)) (on t)
on-take zero t l h = absurd (both h)
  where
    both : false ≡ true → ⊥
    both e = cc
on-take (suc k) [] l h = h
on-take (suc k) (m ∷ t) l h = elim (or_cases (same m l) (on (take k t) l) h) [
  | inl e ↦ or_left (same m l) (on t l) e
  | inr e ↦ or_right (same m l) (on t l) (on-take k t l e)
]

-- the trail up to the literal at q, also when it grew
pub trail-more : (cs : List (List Literal)) (t u : TrailTable) (q : ℕ) → Grown cs t u → q < length t.literals → take (q + 1) u.literals ≡ take q t.literals ++ lit t.literals q ∷ []
trail-more cs t u q g lt =
    sym (take-take (q + 1) (length t.literals) u.literals (omega arith)) ∙ (ap (take (q + 1)) g.before ∙ take_more t.literals q none lt)

pub fresh-at : (n : ℕ) (t : List Literal) (q : ℕ) → IsTrail n t → q < length t → on (take q t) (lit t q) ≡ false
fresh-at n t q r lt = false_from_ne_true (on (take q t) (lit t q)) (λ h. r.fresh q (lit t q) lt h refl)

pub propagating-step : (cs : List (List Literal)) (ws0 : List Literal) (t0 : TrailTable) (looks0 : ℕ) (ws ws' : List Literal) (ct ct' : ChainTable) (t t' : TrailTable) (looks looks' q : ℕ) (f : Literal) →
    Propagating cs ws0 t0 looks0 ws ct t looks q → q < length t.literals → f ≡ negated (lit t.literals q) → IsTrail t.atoms t.literals → AreChains ct.lists ct.slots →
    looks' ≤ looks + length (chain ct.lists (place f)) → Shape cs ws' ct' t' → Placed cs ws' ct'.lists 0 (length ws') → chain ct'.lists 0 ≡ [] → Grown cs t t' →
    ((p : Literal → Bool) → Within p (on t.literals) → Watching cs ws [] p (on t.literals) (length ws) → Watching cs ws' [] (added (negated f) p) (on t'.literals) (length ws')) →
    KeepsWatched cs ws ws' (on t.literals) →
    Propagating cs ws0 t0 looks0 ws' ct' t' looks' (q + 1)
propagating-step cs ws0 t0 looks0 ws ws' ct ct' t t' looks looks' q f d lt is trail chains lk sh r empty g w kp =
    let l = lit t.literals q in
    let more = trail-more cs t t' q g lt in
    let back : negated f ≡ l = ap negated is ∙ negated-negated l in
    let wrong : on t.literals (negated f) ≡ true = subst (λ (m : Literal). on t.literals m ≡ true) (sym back) (on-at t.literals q none lt) in
    let chain-le = chain-met cs ws ct.lists ct.slots 0 (length ws) [] (on (take q t.literals)) (on t.literals) (length ws) f d.placed d.shape.size chains d.watching trail.calm wrong (omega arith) in
    let count = false_count-more (take q t.literals) l cs (fresh-at t.atoms t.literals q trail lt) in
    record {
      shape = sh;
      placed = r;
      empty = empty;
      grown = grown-trans cs t0 t t' d.grown g;
      within = omega (arith, g.longer);
      watching = watching-less cs ws' [] (added (negated f) (on (take q t.literals))) (on (take (q + 1) t'.literals)) (on t'.literals) (length ws')
          (λ m h. subst (λ (y : Literal). added y (on (take q t.literals)) m ≡ true) (sym back) (sym (on-push (take q t.literals) l m) ∙ subst (λ (ls : List Literal). on ls m ≡ true) more h))
          (w (on (take q t.literals)) (on-take q t.literals) d.watching);
      keeps = λ u uv wu. kp u (λ m h. d.grown.reached.above m (uv m h)) (d.keeps u uv wu);
      looked = omega (arith, d.looked, lk, chain-le, count, ap (λ (m : Literal). met_in m cs) is, ap (λ (ls : List Literal). false_count (on ls) cs) more);
    }

-- the looks up to a literal at q, after its chain
pub looked-once : (cs : List (List Literal)) (ws0 : List Literal) (t0 : TrailTable) (looks0 : ℕ) (ws : List Literal) (ct : ChainTable) (t : TrailTable) (looks looks' q : ℕ) (f : Literal) →
    Propagating cs ws0 t0 looks0 ws ct t looks q → q < length t.literals → f ≡ negated (lit t.literals q) → IsTrail t.atoms t.literals → AreChains ct.lists ct.slots →
    looks' ≤ looks + length (chain ct.lists (place f)) → looks' ≤ looks0 + total cs
looked-once cs ws0 t0 looks0 ws ct t looks looks' q f d lt is trail chains lk =
    let l = lit t.literals q in
    let back : negated f ≡ l = ap negated is ∙ negated-negated l in
    let wrong : on t.literals (negated f) ≡ true = subst (λ (m : Literal). on t.literals m ≡ true) (sym back) (on-at t.literals q none lt) in
    let chain-le = chain-met cs ws ct.lists ct.slots 0 (length ws) [] (on (take q t.literals)) (on t.literals) (length ws) f d.placed d.shape.size chains d.watching trail.calm wrong (omega arith) in
    let count = false_count-more (take q t.literals) l cs (fresh-at t.atoms t.literals q trail lt) in
    omega (arith, d.looked, lk, chain-le, count, ap (λ (m : Literal). met_in m cs) is, false_count-le (on (take q t.literals ++ l ∷ [])) cs)

pub calm-closed : (cs : List (List Literal)) (ws0 : List Literal) (t0 : TrailTable) (looks0 : ℕ) (ws : List Literal) (ct : ChainTable) (t : TrailTable) (looks q : ℕ) →
    Propagating cs ws0 t0 looks0 ws ct t looks q → length t.literals ≤ q → IsTrail t.atoms t.literals →
    (Watched cs ws (on t.literals)) × (IsClosed cs (on t.literals)) × (HasConflict cs (on t.literals) → ⊥)
calm-closed cs ws0 t0 looks0 ws ct t looks q d le trail =
    let w : Watched cs ws (on t.literals) = subst (λ (ls : List Literal). Watching cs ws [] (on ls) (on t.literals) (length ws)) (take_all q t.literals le) d.watching in (
      w,
      watched-closed cs ws (on t.literals) w trail.calm d.shape.size d.placed.has,
      λ h. watched-calm cs ws (on t.literals) h.place w trail.calm d.shape.size d.placed.has h.within h.false_there,
    )
