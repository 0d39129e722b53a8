-- How many axioms a side has at most, and how many literals in them. A clause of n literals weighs g n.
use Rattle.std.proofs.Common.{◌≡◌, ℕ, ◌+◌, ◌*◌, ◌≤◌, List, [], ◌∷◌, map, length, refl, arith, length-append}
use Rattle.std.proofs.lemmas.List.{length-map}
use Rattle.std.proofs.lemmas.List.FromFn.{length-range_with_len}
use Rattle.std.proofs.Math.Nat.{mul-le-mul_right}
use Rattle.std.specs.List.{flat_map}
use Rattle.pg_assertion.specs.declared.atom.ViewAtom.TheVariants.{Scalar, Last}
use Rattle.pg_assertion.specs.declared.layout.Side.{Side}
use Rattle.pg_assertion.specs.declared.step_atom.StepAtom.TheVariants.{On}
use Rattle.pg_assertion.specs.Layout.{Sizes, threads}
use Rattle.pg_views.specs.Laws.{readable, persistent, pending, is_in}
use Rattle.pg_tables.specs.declared.clause.StepLiteral.{StepLiteral}
use Rattle.pg_tables.specs.Table.{when, per_thread, per_location, per_value, per_scalar}
use Rattle.pg_tables.specs.Bound.{AreWithin, largest}
use Rattle.pg_tables.proofs.Bounds.{IsAtMost, are-few, pairs, pairs-up, apart, most-none, most-cons, most-append, most-threads, most-locations, most-values, most-scalars, most-values_other}
use Rattle.pg_tables.proofs.OneValue.{most-exactly_one}
use Rattle.pg_axioms.specs.Axioms.{rule, each_pair, value_sets, not_both_apart, axioms}
use Rattle.pg_axioms.specs.Bound.{HasAtMost, LargestHas, SmallestHas, most_axioms_1, most_axiom_literals_1, most_axioms_2, most_axiom_literals_2}

module _ (g : ℕ → ℕ) where
  most-over : {A : Type 0} (f : A → List (List StepLiteral)) (xs : List A) (m : ℕ) → ((x : A) → IsAtMost g (f x) m) → IsAtMost g (flat_map f xs) (length xs * m)
  most-over f [] m h = record { bound = omega arith }
  most-over f (x ∷ xs) m h = let t = most-append g (f x) (flat_map f xs) m (length xs * m) (h x) (most-over f xs m h) in record { bound = omega (arith, t.bound) }

  most-each_pair : {A : Type 0} (xs : List A) (f : A → A → List (List StepLiteral)) (m : ℕ) → ((x y : A) → IsAtMost g (f x y) m) → IsAtMost g (each_pair xs f) (pairs (length xs) * m)
  most-each_pair [] f m h = record { bound = omega arith }
  most-each_pair (x ∷ xs) f m h =
      let t = most-append g (flat_map (f x) xs) (each_pair xs f) (length xs * m) (pairs (length xs) * m) (most-over (f x) xs m (h x)) (most-each_pair xs f m h) in
      record { bound = omega (arith, t.bound) }

set_count : (l : Sizes) → length (value_sets l) ≡ 2 * l.threads + 1
set_count l = omega (arith, length-append (map readable (threads l)) (persistent ∷ map pending (threads l)), length-map (threads l) readable, length-map (threads l) pending, length-range_with_len 1 l.threads)

module _ (g : ℕ → ℕ) (up : (m n : ℕ) → m ≤ n → g m ≤ g n) (l m : Sizes) (w : AreWithin l m) (side : Side) where
  -- clauses of two, three and four literals
  one : (c : List StepLiteral) → IsAtMost g (c ∷ []) (g (length c))
  one c = let t = most-cons g c [] 0 (most-none g) in record { bound = omega (arith, t.bound) }

  two : (c d : List StepLiteral) → IsAtMost g (c ∷ d ∷ []) (g (length c) + g (length d))
  two c d = most-cons g c (d ∷ []) (g (length d)) (one d)

  abbrev sets_bound : ℕ
  sets_bound = m.locations * (pairs (2 * m.threads + 1) * apart m.domain (g 4))

  abbrev pub bound : ℕ
  bound =
      (m.locations * (g m.domain + pairs m.domain * g 2) + m.scalars * (g m.domain + pairs m.domain * g 2))
      + (m.locations * (m.domain * (g 2 + m.threads * (g 2 + g 2)))
      + (m.threads * (m.locations * (m.domain * g 2))
      + (m.threads * (m.locations * (m.domain * g 3))
      + (m.threads * (m.locations * (g 2 + g 2))
      + (m.threads * (m.locations * (m.domain * (m.locations * (m.domain * (g 2 + g 2)))))
      + ((m.threads * (m.locations * (m.domain * (m.locations * (m.domain * g 3)))) + m.threads * (m.locations * (m.domain * g 2)))
      + (m.threads * (m.locations * (m.domain * (m.locations * (m.domain * g 4))))
      + sets_bound)))))))

  few_sets : (x : ℕ) → IsAtMost g (each_pair (value_sets l) (not_both_apart l side x)) (pairs (2 * m.threads + 1) * apart m.domain (g 4))
  few_sets x =
      let t = most-each_pair g (value_sets l) (not_both_apart l side x) (apart m.domain (g 4)) (λ a b.
      most-values_other g w (λ v k. rule side (is_in a x v ∷ is_in b x k ∷ []) (is_in a x k ∷ is_in b x v ∷ []) ∷ []) (g 4) (λ v k. one _)) in
      let n : length (value_sets l) ≤ 2 * m.threads + 1 = omega (arith, set_count l, w.threads) in
      record { bound = omega (arith, t.bound, mul-le-mul_right (apart m.domain (g 4)) (pairs-up n)) }

  pub few : IsAtMost g (axioms l side) bound
  few = most-append g _ _ _ _ (most-append g _ _ _ _ (most-locations g w (λ x. most-exactly_one g up w (λ v. On (Last x v) side))) (most-scalars g w (λ r. most-exactly_one g up w (λ k. On (Scalar r k) side))))
      (most-append g _ _ _ _ (most-locations g w (λ x. most-values g w (λ v. most-append g _ _ _ _ (one _) (most-threads g w (λ t. two _ _)))))
      (most-append g _ _ _ _ (most-threads g w (λ t. most-locations g w (λ x. most-values g w (λ v. one _))))
      (most-append g _ _ _ _ (most-threads g w (λ t. most-locations g w (λ x. most-values g w (λ v. one _))))
      (most-append g _ _ _ _ (most-threads g w (λ t. most-locations g w (λ x. two _ _)))
      (most-append g _ _ _ _ (most-threads g w (λ t. most-locations g w (λ x. most-values g w (λ v. most-locations g w (λ y. most-values g w (λ k. two _ _))))))
      (most-append g _ _ _ _ (most-append g _ _ _ _ (most-threads g w (λ t. most-locations g w (λ x. most-values g w (λ v. most-locations g w (λ y. most-values g w (λ k. one _)))))) (most-threads g w (λ t. most-locations g w (λ x. most-values g w (λ v. one _)))))
      (most-append g _ _ _ _ (most-threads g w (λ t. most-locations g w (λ x. most-values g w (λ v. most-locations g w (λ y. most-values g w (λ k. one _))))))
      (most-locations g w few_sets))))))))

pub few_1 : HasAtMost 1 most_axioms_1 most_axiom_literals_1
few_1 l side w = are-few _ _ _ (few (λ n. 1) (λ m n h. omega arith) l (largest 1) w side) (few (λ n. n) (λ m n h. h) l (largest 1) w side)

pub few_2 : HasAtMost 2 most_axioms_2 most_axiom_literals_2
few_2 l side w = are-few _ _ _ (few (λ n. 1) (λ m n h. omega arith) l (largest 2) w side) (few (λ n. n) (λ m n h. h) l (largest 2) w side)

-- these are computed, and are the same on either side

pub largest_1 : LargestHas 1 most_axioms_1 most_axiom_literals_1
unfolding per_thread per_location per_value per_scalar when
largest_1 side = (refl, refl)

pub largest_2 : LargestHas 2 most_axioms_2 most_axiom_literals_2
unfolding per_thread per_location per_value per_scalar when
largest_2 side = (refl, refl)

pub smallest_has : SmallestHas 38
unfolding per_thread per_location per_value per_scalar when
smallest_has side = refl
