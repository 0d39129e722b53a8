-- Assignments of the decider as truths of atoms, and back.
use Rattle.std.proofs.Common.{◌≡◌, ℕ, zero, suc, ◌+◌, ◌<◌, ◌≤◌, Bool, true, false, not, cond, List, [], ◌∷◌, length, map, refl, ap, ◌∙◌, arith, inl, inr}
use Rattle.std.specs.Prelude.{slice_index_or}
use Rattle.std.specs.List.{range_with_len}
use Rattle.std.proofs.lemmas.Bool.{both_ways, and_parts, and_from, or_left, or_right, or_cases}
use Rattle.pg_region.specs.Literal.{Literal, same}
use Rattle.pg_region.specs.Region.{clause_at}
use Rattle.pg_decider.specs.Assignment.{Assignment, on}
use Rattle.pg_decider.specs.Laws.{AreOver, IsWhole}
use Rattle.pg_decider.specs.Split.{any_true, AllMet}
use Rattle.pg_decider.proofs.Literals.{same-refl}
use Rattle.pg_clauses.specs.Truth.{literal_true, clause_true, all_true}
use Rattle.pg_judge.specs.Outcome.{truths_of}
use Rattle.pg_judge.specs.Laws.{truth_in}
use Rattle.pg_judge.proofs.Models.{IsConsistent, IsModel}

-- ---- the truths of a model

nth : (f : ℕ → Bool) (a n i : ℕ) → i < n → slice_index_or (map f (range_with_len a n)) i false ≡ f (a + i)
nth f a zero i lt = absurd (omega (arith, lt))
nth f a (suc n) zero lt = ap f (omega arith)
nth f a (suc n) (suc i) lt = nth f (a + 1) n i (omega (arith, lt)) ∙ ap f (omega arith)

module _ (n : ℕ) (u : Assignment) (fine : IsConsistent u) where
  abbrev truths : ℕ → Bool
  truths a = truth_in (truths_of n u) a

  truth-at : (a : ℕ) → 1 ≤ a → a ≤ n → truths a ≡ u (record { atom = a; positive = true })
  truth-at zero from to = absurd (omega (arith, from))
  truth-at (suc i) from to = nth (λ (k : ℕ). u (record { atom = k; positive = true })) 1 n i (omega (arith, to)) ∙ ap (λ (k : ℕ). u (record { atom = k; positive = true })) (omega arith)

  literal-so : (a : ℕ) (p : Bool) → 1 ≤ a → a ≤ n → u (record { atom = a; positive = p }) ≡ true → literal_true truths (record { atom = a; positive = p }) ≡ true
  literal-so a true from to h = truth-at a from to ∙ h
  literal-so a false from to h = ap not (truth-at a from to ∙ fine.each (record { atom = a; positive = false }) h)

  clause-so : (c : List Literal) → ((l : Literal) → on c l ≡ true → (1 ≤ l.atom) × (l.atom ≤ n)) → any_true u c ≡ true → clause_true truths c ≡ true
  clause-so [] over h = absurd (both_ways false refl h)
  clause-so (m ∷ c) over h = elim (or_cases (u m) (any_true u c) h) [
    | inl e ↦
        let here = over m (or_left (same m m) (on c m) (same-refl m)) in
        or_left (literal_true truths m) (clause_true truths c) (literal-so m.atom m.positive here.0 here.1 e)
    | inr e ↦ or_right (literal_true truths m) (clause_true truths c) (clause-so c (λ l i. over l (or_right (same m l) (on c l) i)) e)
  ]

  clauses-so : (cs : List (List Literal)) → ((k : ℕ) (l : Literal) → on (clause_at cs k) l ≡ true → (1 ≤ l.atom) × (l.atom ≤ n))
      → ((k : ℕ) → k < length cs → any_true u (clause_at cs k) ≡ true) → all_true truths cs ≡ true
  clauses-so [] over h = refl
  clauses-so (c ∷ cs) over h =
      and_from (clause_true truths c) (all_true truths cs) (clause-so c (over 0) (h 0 (omega arith)))
      (clauses-so cs (λ k. over (suc k)) (λ k lt. h (suc k) (omega (arith, lt))))

pub truths-meet : (n : ℕ) (u : Assignment) (cs : List (List Literal)) → AreOver n cs → IsModel cs u → all_true (truth_in (truths_of n u)) cs ≡ true
truths-meet n u cs over m = clauses-so n u m.consistent cs over.each m.met.each

-- ---- truths as an assignment

module _ (val : ℕ → Bool) where
  pub whole : IsWhole (literal_true val)
  whole = record { each = λ l. go l.positive (val l.atom) }
    where
      go : (p b : Bool) → cond (not p) b (not b) ≡ not (cond p b (not b))
      go true b = refl
      go false true = refl
      go false false = refl

  any-so : (c : List Literal) → clause_true val c ≡ true → any_true (literal_true val) c ≡ true
  any-so [] h = h
  any-so (m ∷ c) h = elim (or_cases (literal_true val m) (clause_true val c) h) [
    | inl e ↦ or_left (literal_true val m) (any_true (literal_true val) c) e
    | inr e ↦ or_right (literal_true val m) (any_true (literal_true val) c) (any-so c e)
  ]

  each-so : (cs : List (List Literal)) → all_true val cs ≡ true → (k : ℕ) → k < length cs → any_true (literal_true val) (clause_at cs k) ≡ true
  each-so [] h k lt = absurd (omega (arith, lt))
  each-so (c ∷ cs) h zero lt = any-so c (and_parts (clause_true val c) (all_true val cs) h).0
  each-so (c ∷ cs) h (suc k) lt = each-so cs (and_parts (clause_true val c) (all_true val cs) h).1 k (omega (arith, lt))

  pub all-met : (cs : List (List Literal)) → all_true val cs ≡ true → AllMet (literal_true val) cs
  all-met cs h = record { each = each-so cs h }
