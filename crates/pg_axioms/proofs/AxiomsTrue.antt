-- The axioms are true in every well-formed state.
use Rattle.std.proofs.Common.{◌≡◌, ℕ, Bool, true, false, not, ◌||◌, ◌==◌, List, [], ◌∷◌, length, ◌⊎◌, inl, inr, refl, sym, ap, ◌∙◌, arith}
use Rattle.std.specs.List.{flat_map, list_any}
use Rattle.pg_program.specs.Program.{ProgramTable, IsProgram}
use Rattle.pg_assertion.specs.declared.atom.ViewAtom.{ViewAtom}
use Rattle.pg_assertion.specs.declared.atom.ViewAtom.TheVariants.{Scalar, Last, Read, Persist, Async, Then, Newest, Ordered, Fenced}
use Rattle.pg_assertion.specs.declared.layout.Side.{Side}
use Rattle.pg_assertion.specs.declared.step_atom.StepAtom.{StepAtom}
use Rattle.pg_assertion.specs.declared.step_atom.StepAtom.TheVariants.{On}
use Rattle.pg_assertion.specs.Layout.{Sizes, sizes}
use Rattle.pg_machine.specs.State.{State, IsWellFormed}
use Rattle.pg_views.specs.Atom.{atom_holds}
use Rattle.pg_views.specs.Axioms.{IsFormedWith, IsTheValue}
use Rattle.pg_views.specs.Laws.{ValueSet, is_in}
use Rattle.pg_views.proofs.Axioms as law
use Rattle.pg_views.proofs.Nested.{value_sets_nest}
use Rattle.pg_tables.specs.declared.clause.StepLiteral.{StepLiteral}
use Rattle.pg_tables.specs.Table.{exactly_one, IsOneOf}
use Rattle.pg_tables.specs.Truth.{AllTrue, clause_true}
use Rattle.pg_tables.proofs.Truth.{all-none, all-cons, all-one, all-append, all-when, all-threads, all-locations, all-values, all-scalars, AllOf, ruled}
use Rattle.pg_tables.proofs.OneValue.{all-exactly_one}
use Rattle.pg_axioms.specs.Axioms.{rule, one_value, last_is_shown, pending_may_persist, newest_read_is_last, newest_is_covered, then_was_readable, last_is_read_then, newest_load_keeps, each_pair, value_sets, not_both_apart, sets_nest, axioms}
use Rattle.pg_axioms.specs.Truth.{IsTruthIn, AxiomsAreTrue}

first : (b c : Bool) → b ≡ true → (b || c) ≡ true
first b c h = ap (λ x. x || c) h

second : (b c : Bool) → c ≡ true → (b || c) ≡ true
second true c h = refl
second false c h = h

module _ (val : StepAtom → Bool) where
  all-over : {A : Type 0} (f : A → List (List StepLiteral)) (xs : List A) → ((x : A) → AllTrue val (f x)) → AllTrue val (flat_map f xs)
  all-over f [] h = all-none val
  all-over f (x ∷ xs) h = all-append val (f x) (flat_map f xs) (h x) (all-over f xs h)

  all-pairs : {A : Type 0} (xs : List A) (f : A → A → List (List StepLiteral)) → ((x y : A) → AllTrue val (f x y)) → AllTrue val (each_pair xs f)
  all-pairs [] f h = all-none val
  all-pairs (x ∷ xs) f h = all-append val (flat_map (f x) xs) (each_pair xs f) (all-over (f x) xs (h x)) (all-pairs xs f h)

module _ (p : ProgramTable) (s : State) (side : Side) (val : StepAtom → Bool) (built : IsProgram p) (formed : IsWellFormed p s) (r : IsTruthIn s side val) where
  abbrev pub l : Sizes
  l = sizes p.names (length p.threads)

  thread : (t : ℕ) → IsOneOf 1 (length p.threads) t → IsFormedWith p s t
  thread t i = record { formed = formed; first = i.from; last = omega (arith, i.to) }

  -- the rule `ls => rs`, and the rule `ls => a`
  some_of : (ls rs : List ViewAtom) → (AllOf (atom_holds s) ls → list_any (atom_holds s) rs ≡ true) → clause_true val (rule side ls rs) ≡ true
  some_of ls rs h = ruled (atom_holds s) val (λ a. On a side) r.is ls rs h

  gives : (ls : List ViewAtom) (a : ViewAtom) → (AllOf (atom_holds s) ls → atom_holds s a ≡ true) → clause_true val (rule side ls (a ∷ [])) ≡ true
  gives ls a h = some_of ls (a ∷ []) (λ t. first (atom_holds s a) false (h t))

  true_one : (a : ℕ → ViewAtom) (v : ℕ) → IsTheValue s p.names.domain a v → AllTrue val (exactly_one l (λ w. On (a w) side))
  true_one a v is = all-exactly_one val l (λ w. On (a w) side) v is.inside (r.is (a v) ∙ is.holds) (λ w h. is.one w (sym (r.is (a w)) ∙ h))

  true_one_value : AllTrue val (one_value l side)
  true_one_value =
      all-append val _ _
      (all-locations val l (λ x ix. let v = law.has_one_last_value p s x formed (omega (arith, ix.to)) in true_one (Last x) v.0 v.1))
      (all-scalars val l (λ q iq. let v = law.has_one_scalar_value p s q formed (omega (arith, iq.to)) in true_one (Scalar q) v.0 v.1))

  true_last : AllTrue val (last_is_shown l side)
  true_last = all-locations val l (λ x ix. all-values val l (λ v iv. all-append val _ _
      (all-one val _ (gives (Last x v ∷ []) (Persist x v) (λ h. (law.last_is_shown p s 1 x v (thread 1 some) h.0).0)))
      (all-threads val l (λ t it.
      all-cons val _ _ (gives (Last x v ∷ []) (Read t x v) (λ h. (law.last_is_shown p s t x v (thread t it) h.0).1))
      (all-one val _ (gives (Last x v ∷ []) (Async t x v) (λ h. (law.last_is_shown p s t x v (thread t it) h.0).2)))))))
    where
      some : IsOneOf 1 (length p.threads) 1
      some = record { from = omega arith; to = omega (arith, built.threads.some) }

  true_pending : AllTrue val (pending_may_persist l side)
  true_pending = all-threads val l (λ t it. all-locations val l (λ x ix. all-values val l (λ v iv.
      all-one val _ (gives (Async t x v ∷ []) (Persist x v) (λ h. law.pending_may_persist s t x v h.0)))))

  true_newest_read : AllTrue val (newest_read_is_last l side)
  true_newest_read = all-threads val l (λ t it. all-locations val l (λ x ix. all-values val l (λ v iv.
      all-one val _ (gives (Newest t x ∷ Read t x v ∷ []) (Last x v) (λ h. law.newest_read_is_last s t x v h.0 h.1.0)))))

  true_covered : AllTrue val (newest_is_covered l side)
  true_covered = all-threads val l (λ t it. all-locations val l (λ x ix.
      all-cons val _ _ (gives (Newest t x ∷ []) (Ordered t x) (λ h. law.newest_is_ordered p s t x (thread t it) h.0))
      (all-one val _ (gives (Ordered t x ∷ []) (Fenced t x) (λ h. law.ordered_is_fenced p s t x (thread t it) h.0)))))

  true_then : AllTrue val (then_was_readable l side)
  true_then = all-threads val l (λ t it. all-locations val l (λ x ix. all-values val l (λ v iv. all-locations val l (λ y iy. all-values val l (λ w iw.
      all-cons val _ _ (gives (Then t x v y w ∷ []) (Read t x v) (λ h. (law.then_was_readable s t x v y w h.0).0))
      (all-one val _ (gives (Then t x v y w ∷ []) (Read t y w) (λ h. (law.then_was_readable s t x v y w h.0).1))))))))

  true_read_then : AllTrue val (last_is_read_then l side)
  true_read_then = all-append val _ _
      (all-threads val l (λ t it. all-locations val l (λ x ix. all-values val l (λ v iv. all-locations val l (λ y iy. all-values val l (λ w iw.
      all-one val _ (gives (Read t x v ∷ Last y w ∷ []) (Then t x v y w) (λ h. law.last_is_read_then p s t x v y w (thread t it) h.0 h.1.0))))))))
      (all-threads val l (λ t it. all-locations val l (λ x ix. all-values val l (λ v iv.
      all-one val _ (gives (Read t x v ∷ []) (Then t x v x v) (λ h. law.read_is_read_again s t x v h.0))))))

  true_keeps : AllTrue val (newest_load_keeps l side)
  true_keeps = all-threads val l (λ t it. all-locations val l (λ x ix. all-values val l (λ v iv. all-locations val l (λ y iy. all-values val l (λ w iw.
      all-one val _ (gives (Newest t x ∷ Last x v ∷ Read t y w ∷ []) (Then t x v y w) (λ h. law.newest_load_keeps_then p s t x v y w (thread t it) h.0 h.1.0 h.1.1.0)))))))

  nested : (x v w : ℕ) (a b : ValueSet) → clause_true val (rule side (is_in a x v ∷ is_in b x w ∷ []) (is_in a x w ∷ is_in b x v ∷ [])) ≡ true
  nested x v w a b = some_of (is_in a x v ∷ is_in b x w ∷ []) (is_in a x w ∷ is_in b x v ∷ []) (λ h. either (value_sets_nest s x v w a b h.0 h.1.0))
    where
      either : (atom_holds s (is_in a x w) ≡ true) ⊎ (atom_holds s (is_in b x v) ≡ true) → list_any (atom_holds s) (is_in a x w ∷ is_in b x v ∷ []) ≡ true
      either (inl h) = first (atom_holds s (is_in a x w)) _ h
      either (inr h) = second (atom_holds s (is_in a x w)) _ (first (atom_holds s (is_in b x v)) false h)

  true_nest : AllTrue val (sets_nest l side)
  true_nest = all-locations val l (λ x ix. all-pairs val (value_sets l) (not_both_apart l side x) (λ a b. all-values val l (λ v iv. all-values val l (λ w iw.
      all-when val (not (v == w)) (λ c. all-one val _ (nested x v w a b))))))

  pub all_true : AllTrue val (axioms l side)
  all_true =
      all-append val _ _ true_one_value (all-append val _ _ true_last (all-append val _ _ true_pending (all-append val _ _ true_newest_read
      (all-append val _ _ true_covered (all-append val _ _ true_then (all-append val _ _ true_read_then (all-append val _ _ true_keeps true_nest)))))))

pub axioms_are_true : AxiomsAreTrue
axioms_are_true p s side val built formed r = all_true p s side val built formed r
