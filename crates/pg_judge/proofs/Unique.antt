-- An outline has at most one outcome.
use Rattle.std.proofs.Common.{◌≡◌, ℕ, zero, suc, ◌-◌, ◌<◌, ◌≤◌, Bool, List, [], sym, ap, ap₂, subst, ◌∙◌, arith, inl, inr}
use Rattle.std.proofs.lemmas.Bool.{both_ways, cases_order, cases_eq}
use Rattle.pg_decider.specs.Assignment.{on}
use Rattle.pg_decider.specs.Tree.{Tree, has_model, model_of, visited}
use Rattle.pg_decider.proofs.Sound.{tree-unique}
use Rattle.pg_outline.specs.Outline.{OutlineTable}
use Rattle.pg_layers.specs.Clauses.{obligation, obligation_clauses, obligation_atoms}
use Rattle.pg_judge.specs.Outcome.{IsTreeOf, IsClosed, AreClosed, IsNext, truths_of, IsAccepted, IsRejected, IsSpent, accepted, rejected, spent}
use Rattle.pg_judge.specs.Laws.{OutcomeIsUnique}
use Rattle.pg_judge.proofs.Models.{has-model, some-alike}

module _ (o : OutlineTable) (budget : ℕ) where
  one-tree : (i : ℕ) (t u : Tree) → IsTreeOf o i t → IsTreeOf o i u → t ≡ u
  one-tree i t u h g = tree-unique (obligation_clauses o (obligation o i)) (on []) t u h g

  closed-alike : (i n m : ℕ) → IsClosed o budget i n → IsClosed o budget i m → n ≡ m
  closed-alike i n m h g = sym h.visited ∙ (ap visited (one-tree i h.tree g.tree h.is g.is) ∙ g.visited)

  pub nodes-alike : (k n m : ℕ) → AreClosed o budget k n → AreClosed o budget k m → n ≡ m
  nodes-alike zero n m h g = h ∙ sym g
  nodes-alike (suc k) n m h g =
      let before = nodes-alike k h.before g.before h.first g.first in
      let here = closed-alike (suc k) h.here g.here h.next g.next in
      omega (arith, h.sum, g.sum, before, here)

  -- each of those that are closed
  pub closed-at : (k n i : ℕ) → AreClosed o budget k n → 1 ≤ i → i ≤ k → (m : ℕ) × IsClosed o budget i m
  closed-at zero n i h from to = absurd (omega (arith, from, to))
  closed-at (suc k) n i h from to = elim (cases_eq i (suc k)) [
    | inl e ↦ (h.here, subst (λ (j : ℕ). IsClosed o budget j h.here) (sym e) h.next)
    | inr ne ↦ closed-at k h.before i h.first from (less ne)
  ]
    where
      less : (i ≡ suc k → ⊥) → i ≤ k
      less ne = omega (arith, to, ne)

  -- ---- an obligation that is not closed

  abbrev not-closed : ℕ → Type 0
  not-closed i = (n : ℕ) → IsClosed o budget i n → ⊥

  met-open : (i : ℕ) (truths : List Bool) → IsRejected o budget i truths → not-closed i
  met-open i truths r n h =
      both_ways (has_model h.tree) h.closed (ap has_model (one-tree i h.tree r.tree h.is r.is) ∙ has-model r.tree r.model r.meets)

  spent-open : (i : ℕ) → IsSpent o budget i → not-closed i
  spent-open i s n h = absurd (omega (arith, s.more, h.visited, h.within, ap visited (one-tree i h.tree s.tree h.is s.is)))

  first-open : (i j : ℕ) → IsNext o budget i → not-closed i → IsNext o budget j → i < j → ⊥
  first-open i j h not g lt = let c = closed-at (j - 1) g.nodes i g.closed h.from (omega (arith, lt)) in not c.0 c.1

  same-place : (i j : ℕ) → IsNext o budget i → not-closed i → IsNext o budget j → not-closed j → i ≡ j
  same-place i j h p g q = elim (cases_order i j) [
    | inl e ↦ e
    | inr (inl lt) ↦ absurd (first-open i j h p g lt)
    | inr (inr gt) ↦ absurd (first-open j i g q h gt)
  ]

  all-closed : (i count n : ℕ) → IsAccepted o budget count n → IsNext o budget i → not-closed i → ⊥
  all-closed i count n a h not = let c = closed-at count n i a.closed h.from (omega (arith, a.all, h.to)) in not c.0 c.1

  -- ---- two outcomes

  met-alike : (i : ℕ) (p q : List Bool) → IsRejected o budget i p → IsRejected o budget i q → p ≡ q
  met-alike i p q a b =
      let models = some-alike a.model b.model (sym a.meets ∙ (ap model_of (one-tree i a.tree b.tree a.is b.is) ∙ b.meets)) in
      a.truths_are ∙ (ap (truths_of (obligation_atoms o (obligation o i))) models ∙ sym b.truths_are)

  two-met : (i j : ℕ) (p q : List Bool) → IsRejected o budget i p → IsRejected o budget j q → rejected i p ≡ rejected j q
  two-met i j p q a b =
      let e = same-place i j a.next (met-open i p a) b.next (met-open j q b) in
      ap₂ rejected e (met-alike j p q (subst (λ (k : ℕ). IsRejected o budget k p) e a) b)

  met-spent : (i j : ℕ) (p : List Bool) → IsRejected o budget i p → IsSpent o budget j → ⊥
  met-spent i j p a s =
      let e = same-place i j a.next (met-open i p a) s.next (spent-open j s) in
      let b = subst (λ (k : ℕ). IsRejected o budget k p) e a in
      absurd (omega (arith, s.more, b.within, ap visited (one-tree j b.tree s.tree b.is s.is)))

  two-accepted : (c n d m : ℕ) → IsAccepted o budget c n → IsAccepted o budget d m → accepted c n ≡ accepted d m
  two-accepted c n d m a b =
      let e = a.all ∙ sym b.all in
      ap₂ accepted e (nodes-alike d n m (subst (λ (k : ℕ). AreClosed o budget k n) e a.closed) b.closed)

pub outcome-unique : OutcomeIsUnique
outcome-unique o budget (accepted c n) (accepted d m) a b = two-accepted o budget c n d m a b
outcome-unique o budget (accepted c n) (rejected i p) a b = absurd (all-closed o budget i c n a b.next (met-open o budget i p b))
outcome-unique o budget (accepted c n) (spent i) a b = absurd (all-closed o budget i c n a b.next (spent-open o budget i b))
outcome-unique o budget (rejected i p) (accepted c n) a b = absurd (all-closed o budget i c n b a.next (met-open o budget i p a))
outcome-unique o budget (rejected i p) (rejected j q) a b = two-met o budget i j p q a b
outcome-unique o budget (rejected i p) (spent j) a b = absurd (met-spent o budget i j p a b)
outcome-unique o budget (spent i) (accepted c n) a b = absurd (all-closed o budget i c n b a.next (spent-open o budget i a))
outcome-unique o budget (spent i) (rejected j q) a b = absurd (met-spent o budget j i q b a)
outcome-unique o budget (spent i) (spent j) a b = ap spent (same-place o budget i j a.next (spent-open o budget i a) b.next (spent-open o budget j b))
