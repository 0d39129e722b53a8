-- The axioms of a side are over its layout.
use Rattle.std.proofs.Common.{ℕ, zero, suc, ◌+◌, ◌<◌, List, [], ◌∷◌, map, arith}
use Rattle.std.specs.List.{All, flat_map, range_with_len}
use Rattle.std.proofs.lemmas.List.Elements.{All-nil, All-cons, All-head, All-tail, All-append}
use Rattle.pg_assertion.specs.declared.layout.Side.{Side}
use Rattle.pg_assertion.specs.declared.step_atom.StepAtom.TheVariants.{On}
use Rattle.pg_assertion.specs.declared.atom.ViewAtom.TheVariants.{Scalar, Last, Persist}
use Rattle.pg_assertion.specs.Layout.{Sizes, IsAtom, IsThreadNumber, threads}
use Rattle.pg_views.specs.Laws.{ValueSet, readable, persistent, pending, is_in}
use Rattle.pg_tables.specs.Table.{IsOneOf}
use Rattle.pg_axioms.specs.Axioms.{rule, each_pair, value_sets, not_both_apart, axioms}
use Rattle.pg_layers.proofs.Over.{IsOver, written_out, over-none, over-append, over-when, over-threads, over-locations, over-values, over-scalars, over-exactly_one}

pub is_thread : (l : Sizes) (t : ℕ) → IsOneOf 1 l.threads t → IsThreadNumber l t
is_thread l t o = record { first = o.from; last = omega (arith, o.to) }

pub is_below : (n k : ℕ) → IsOneOf 0 n k → k < n
is_below n k o = omega (arith, o.to)

module _ (l : Sizes) (side : Side) where
  -- a set of values, whose thread is one of the layout's
  IsSet : ValueSet → Type 0
  IsSet a = (x v : ℕ) → x < l.locations → v < l.domain → IsAtom l (is_in a x v)

  threads_are : (f : ℕ → ValueSet) → ((t : ℕ) → IsThreadNumber l t → IsSet (f t)) → (a n : ℕ) → ((t : ℕ) → IsOneOf a n t → IsThreadNumber l t)
      → All IsSet (map f (range_with_len a n))
  threads_are f h a zero is = All-nil IsSet
  threads_are f h a (suc n) is =
      All-cons IsSet (f a) (map f (range_with_len (a + 1) n)) (h a (is a (record { from = omega arith; to = omega arith })))
      (threads_are f h (a + 1) n (λ t o. is t (record { from = omega (arith, o.from); to = omega (arith, o.to) })))

  sets_are : All IsSet (value_sets l)
  unfolding IsSet
  sets_are =
      All-append IsSet (map readable (threads l)) (persistent ∷ map pending (threads l))
      (threads_are readable (λ t h x v a b. (h, a, b)) 1 l.threads (is_thread l))
      (All-cons IsSet persistent (map pending (threads l)) (λ x v a b. (a, b))
      (threads_are pending (λ t h x v a b. (h, a, b)) 1 l.threads (is_thread l)))

  apart_over : (x : ℕ) → x < l.locations → (a b : ValueSet) → IsSet a → IsSet b → IsOver l (not_both_apart l side x a b)
  unfolding IsSet
  apart_over x here a b h k =
      over-values l (λ v o. over-values l (λ w p.
      let low = is_below l.domain v o in
      let under = is_below l.domain w p in
      over-when l _ (written_out l ((h x v here low, (k x w here under, (h x w here under, (k x v here low, tt)))), tt))))

  with_each : (x : ℕ) → x < l.locations → (a : ValueSet) → IsSet a → (rest : List ValueSet) → All IsSet rest → IsOver l (flat_map (not_both_apart l side x a) rest)
  with_each x here a h [] all = over-none l
  with_each x here a h (b ∷ rest) all =
      over-append l (apart_over x here a b h (All-head IsSet b rest all)) (with_each x here a h rest (All-tail IsSet b rest all))

  pairs_over : (x : ℕ) → x < l.locations → (sets : List ValueSet) → All IsSet sets → IsOver l (each_pair sets (not_both_apart l side x))
  pairs_over x here [] all = over-none l
  pairs_over x here (a ∷ rest) all =
      over-append l (with_each x here a (All-head IsSet a rest all) rest (All-tail IsSet a rest all)) (pairs_over x here rest (All-tail IsSet a rest all))

  abbrev T : (t : ℕ) → IsOneOf 1 l.threads t → IsThreadNumber l t
  T t o = is_thread l t o

  abbrev X : (x : ℕ) → IsOneOf 0 l.locations x → x < l.locations
  X x o = is_below l.locations x o

  abbrev V : (v : ℕ) → IsOneOf 0 l.domain v → v < l.domain
  V v o = is_below l.domain v o

  pub axioms_over : IsOver l (axioms l side)
  axioms_over =
      over-append l
      (over-append l
      (over-locations l (λ x o. over-exactly_one l (λ v. On (Last x v) side) (λ v low. (X x o, low))))
      (over-scalars l (λ r o. over-exactly_one l (λ v. On (Scalar r v) side) (λ v low. (is_below l.scalars r o, low)))))
      (over-append l
      (over-locations l (λ x o. over-values l (λ v p. let c : (x < l.locations) × (v < l.domain) = (X x o, V v p) in over-append l {cs = rule side (Last x v ∷ []) (Persist x v ∷ []) ∷ []} (written_out l ((c, (c, tt)), tt))
      (over-threads l (λ t q. written_out l ((c, ((T t q, c.0, c.1), tt)), ((c, ((T t q, c.0, c.1), tt)), tt)))))))
      (over-append l
      (over-threads l (λ t q. over-locations l (λ x o. over-values l (λ v p. let c : (x < l.locations) × (v < l.domain) = (X x o, V v p) in written_out l (((T t q, c.0, c.1), (c, tt)), tt)))))
      (over-append l
      (over-threads l (λ t q. over-locations l (λ x o. over-values l (λ v p. let c : (x < l.locations) × (v < l.domain) = (X x o, V v p) in written_out l (((T t q, X x o), ((T t q, c.0, c.1), (c, tt))), tt)))))
      (over-append l
      (over-threads l (λ t q. over-locations l (λ x o. let c : IsThreadNumber l t × (x < l.locations) = (T t q, X x o) in written_out l ((c, (c, tt)), ((c, (c, tt)), tt)))))
      (over-append l
      (over-threads l (λ t q. over-locations l (λ x o. over-values l (λ v p. over-locations l (λ y m. over-values l (λ w n.
      let c : (x < l.locations) × (v < l.domain) = (X x o, V v p) in let d : (y < l.locations) × (w < l.domain) = (X y m, V w n) in
      written_out l (((T t q, X x o, V v p, d.0, d.1), ((T t q, c.0, c.1), tt)), (((T t q, X x o, V v p, d.0, d.1), ((T t q, d.0, d.1), tt)), tt))))))))
      (over-append l
      (over-append l
      (over-threads l (λ t q. over-locations l (λ x o. over-values l (λ v p. over-locations l (λ y m. over-values l (λ w n.
      let c : (x < l.locations) × (v < l.domain) = (X x o, V v p) in let d : (y < l.locations) × (w < l.domain) = (X y m, V w n) in
      written_out l (((T t q, c.0, c.1), (d, ((T t q, X x o, V v p, d.0, d.1), tt))), tt)))))))
      (over-threads l (λ t q. over-locations l (λ x o. over-values l (λ v p. let c : (x < l.locations) × (v < l.domain) = (X x o, V v p) in written_out l (((T t q, c.0, c.1), ((T t q, X x o, V v p, c.0, c.1), tt)), tt))))))
      (over-append l
      (over-threads l (λ t q. over-locations l (λ x o. over-values l (λ v p. over-locations l (λ y m. over-values l (λ w n.
      let c : (x < l.locations) × (v < l.domain) = (X x o, V v p) in let d : (y < l.locations) × (w < l.domain) = (X y m, V w n) in
      written_out l (((T t q, X x o), (c, ((T t q, d.0, d.1), ((T t q, X x o, V v p, d.0, d.1), tt)))), tt)))))))
      (over-locations l (λ x o. pairs_over x (X x o) (value_sets l) sets_are)))))))))
