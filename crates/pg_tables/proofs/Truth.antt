-- When a clause is true, and when each clause of a table is.
use Rattle.std.proofs.Common.{◌≡◌, ℕ, zero, suc, ◌+◌, Bool, true, false, not, ◌||◌, ◌&&◌, List, [], ◌∷◌, ◌++◌, map, refl, sym, ap, ◌∙◌, arith}
use Rattle.std.proofs.lemmas.List.Folds.{list_all-append}
use Rattle.std.proofs.lemmas.Bool.{and_from, true≢false, false≢true}
use Rattle.std.specs.List.{flat_map, range_with_len, list_any, list_all}
use Rattle.pg_assertion.specs.Layout.{Sizes}
use Rattle.pg_assertion.specs.declared.step_atom.StepAtom.{StepAtom}
use Rattle.pg_assertion.specs.declared.step_atom.StepAtom.TheVariants.{Success}
use Rattle.pg_tables.specs.declared.clause.StepLiteral.{StepLiteral}
use Rattle.pg_tables.specs.declared.clause.Case.TheVariants.{Succeeds, Fails}
use Rattle.pg_tables.specs.Clause.{yes, no, implies}
use Rattle.pg_tables.specs.Table.{when, under, per_thread, per_location, per_value, per_scalar, IsOneOf}
use Rattle.pg_tables.specs.Shapes.{only_where, always, never, becomes, becomes_both, gains, gains_both}
use Rattle.pg_tables.specs.Truth.{clause_true, literal_true, AllTrue, RowShapesAreTrue}

pub by_truth : (b : Bool) {C : Type 0} → (b ≡ true → C) → (b ≡ false → C) → C
by_truth true f g = f refl
by_truth false f g = g refl

module _ (val : StepAtom → Bool) where
  pub all-none : AllTrue val []
  all-none = record { all = refl }

  pub all-cons : (c : List StepLiteral) (cs : List (List StepLiteral)) → clause_true val c ≡ true → AllTrue val cs → AllTrue val (c ∷ cs)
  all-cons c cs h t = record { all = and_from _ _ h t.all }

  pub all-one : (c : List StepLiteral) → clause_true val c ≡ true → AllTrue val (c ∷ [])
  all-one c h = all-cons c [] h all-none

  pub all-append : (cs ds : List (List StepLiteral)) → AllTrue val cs → AllTrue val ds → AllTrue val (cs ++ ds)
  all-append cs ds h t = record { all = list_all-append (clause_true val) cs ds ∙ and_from _ _ h.all t.all }

  pub all-each : (f : ℕ → List (List StepLiteral)) (a n : ℕ) → ((k : ℕ) → IsOneOf a n k → AllTrue val (f k)) → AllTrue val (flat_map f (range_with_len a n))
  all-each f a zero h = all-none
  all-each f a (suc n) h =
      all-append (f a) (flat_map f (range_with_len (a + 1) n)) (h a (record { from = omega arith; to = omega arith }))
      (all-each f (a + 1) n (λ k i. h k (record { from = omega (arith, i.from); to = omega (arith, i.to) })))

  pub all-when : (b : Bool) {cs : List (List StepLiteral)} → (b ≡ true → AllTrue val cs) → AllTrue val (when b cs)
  unfolding when
  all-when true h = h refl
  all-when false h = all-none

  pub all-threads : (l : Sizes) {f : ℕ → List (List StepLiteral)} → ((k : ℕ) → IsOneOf 1 l.threads k → AllTrue val (f k)) → AllTrue val (per_thread l f)
  unfolding per_thread
  all-threads l {f} h = all-each f 1 l.threads h

  pub all-locations : (l : Sizes) {f : ℕ → List (List StepLiteral)} → ((k : ℕ) → IsOneOf 0 l.locations k → AllTrue val (f k)) → AllTrue val (per_location l f)
  unfolding per_location
  all-locations l {f} h = all-each f 0 l.locations h

  pub all-values : (l : Sizes) {f : ℕ → List (List StepLiteral)} → ((k : ℕ) → IsOneOf 0 l.domain k → AllTrue val (f k)) → AllTrue val (per_value l f)
  unfolding per_value
  all-values l {f} h = all-each f 0 l.domain h

  pub all-scalars : (l : Sizes) {f : ℕ → List (List StepLiteral)} → ((k : ℕ) → IsOneOf 0 l.scalars k → AllTrue val (f k)) → AllTrue val (per_scalar l f)
  unfolding per_scalar
  all-scalars l {f} h = all-each f 0 l.scalars h

  -- a literal that is true makes each clause true which it stands in front of
  all-behind : (x : StepLiteral) → literal_true val x ≡ true → (cs : List (List StepLiteral)) → AllTrue val (map (λ c. x ∷ c) cs)
  all-behind x h [] = all-none
  all-behind x h (c ∷ cs) = all-cons (x ∷ c) (map (λ d. x ∷ d) cs) (ap (λ b. b || clause_true val c) h) (all-behind x h cs)

  all-longer : (x : StepLiteral) (cs : List (List StepLiteral)) → AllTrue val cs → AllTrue val (map (λ c. x ∷ c) cs)
  all-longer x cs h = record { all = longer cs h.all }
    where
      one : (a b c d : Bool) → (b && c) ≡ true → (c ≡ true → d ≡ true) → ((a || b) && d) ≡ true
      one true true true d is t = t refl
      one false true true d is t = t refl
      one a true false d is t = absurd (false≢true is)
      one a false c d is t = absurd (false≢true is)

      longer : (ds : List (List StepLiteral)) → list_all (clause_true val) ds ≡ true → list_all (clause_true val) (map (λ c. x ∷ c) ds) ≡ true
      longer [] is = refl
      longer (d ∷ ds) is = one (literal_true val x) (clause_true val d) (list_all (clause_true val) ds) _ is (λ t. longer ds t)

  -- a table under a case need be true in that case alone
  pub all-succeeds : (cs : List (List StepLiteral)) → (val Success ≡ true → AllTrue val cs) → AllTrue val (under Succeeds cs)
  all-succeeds cs h = by_truth (val Success) (λ is. all-longer (no Success) cs (h is)) (λ is. all-behind (no Success) (ap not is) cs)

  pub all-fails : (cs : List (List StepLiteral)) → (val Success ≡ false → AllTrue val cs) → AllTrue val (under Fails cs)
  all-fails cs h = by_truth (val Success) (λ is. all-behind (yes Success) is cs) (λ is. all-longer (yes Success) cs (h is))

-- each atom is true
abbrev pub AllOf : {A : Type 0} → (A → Bool) → List A → Type 0
AllOf val [] = Unit {0}
AllOf val (a ∷ as') = (val a ≡ true) × AllOf val as'

any_yes : {A : Type 0} (v : A → Bool) (val : StepAtom → Bool) (at : A → StepAtom) → ((a : A) → val (at a) ≡ v a)
    → (rs : List A) → list_any v rs ≡ true → list_any (literal_true val) (map yes (map at rs)) ≡ true
any_yes v val at e [] h = h
any_yes v val at e (r ∷ rs) h = by_truth (v r)
    (λ is. ap (λ b. b || list_any (literal_true val) (map yes (map at rs))) (e r ∙ is))
    (λ is. ap (λ b. b || list_any (literal_true val) (map yes (map at rs))) (e r ∙ is) ∙ any_yes v val at e rs (sym (ap (λ b. b || list_any v rs) is) ∙ h))

-- A clause is true where, if all of its left side hold, some of its right side does. Its atoms are given as some `at`, and their
-- truth by v.
pub ruled : {A : Type 0} (v : A → Bool) (val : StepAtom → Bool) (at : A → StepAtom) → ((a : A) → val (at a) ≡ v a)
    → (ls rs : List A) → (AllOf v ls → list_any v rs ≡ true) → clause_true val (implies (map at ls) (map at rs)) ≡ true
ruled v val at e [] rs h = any_yes v val at e rs (h tt)
ruled v val at e (l ∷ ls) rs h = by_truth (v l)
    (λ is. ap (λ b. not b || clause_true val (implies (map at ls) (map at rs))) (e l ∙ is) ∙ ruled v val at e ls rs (λ t. h (is, t)))
    (λ is. ap (λ b. not b || clause_true val (implies (map at ls) (map at rs))) (e l ∙ is))

-- ---- shapes

-- what is equal holds where the other does
same : (a b : Bool) → a ≡ b → ((not a || (b || false)) && ((not b || (a || false)) && true)) ≡ true
same true true h = refl
same false false h = refl
same true false h = absurd (true≢false h)
same false true h = absurd (false≢true h)

where_holds : (a b : Bool) → (a ≡ true → b ≡ true) → ((not a || (b || false)) && true) ≡ true
where_holds true b h = ap (λ c. (c || false) && true) (h refl)
where_holds false b h = refl

both : (a b c : Bool) → a ≡ (b && c)
    → ((not a || (b || false)) && ((not a || (c || false)) && ((not b || (not c || (a || false))) && true))) ≡ true
both a true true h = rw h
both a true false h = rw h
both a false c h = rw h

gained : (a o b : Bool) → a ≡ (o || b)
    → ((not a || (o || (b || false))) && ((not o || (a || false)) && ((not b || (a || false)) && true))) ≡ true
gained a true true h = rw h
gained a true false h = rw h
gained a false true h = rw h
gained a false false h = rw h

gained_both : (a o b c : Bool) → a ≡ (o || (b && c))
    → ((not a || (o || (b || false))) && ((not a || (o || (c || false))) && ((not o || (a || false)) && ((not b || (not c || (a || false))) && true)))) ≡ true
gained_both a true true true h = rw h
gained_both a true true false h = rw h
gained_both a true false c h = rw h
gained_both a false true true h = rw h
gained_both a false true false h = rw h
gained_both a false false c h = rw h

module _ (val : StepAtom → Bool) where
  pub all-only_where : (a b : StepAtom) → (val a ≡ true → val b ≡ true) → AllTrue val (only_where a b)
  all-only_where a b h = record { all = where_holds (val a) (val b) h }

  pub all-always : (a : StepAtom) → val a ≡ true → AllTrue val (always a)
  all-always a h = record { all = ap (λ b. (b || false) && true) h }

  pub all-never : (a : StepAtom) → val a ≡ false → AllTrue val (never a)
  all-never a h = record { all = ap (λ b. (not b || false) && true) h }

  pub all-becomes : (a b : StepAtom) → val a ≡ val b → AllTrue val (becomes a b)
  all-becomes a b h = record { all = same (val a) (val b) h }

  pub all-becomes_both : (a b c : StepAtom) → val a ≡ (val b && val c) → AllTrue val (becomes_both a b c)
  all-becomes_both a b c h = record { all = both (val a) (val b) (val c) h }

  pub all-gains : (a old b : StepAtom) → val a ≡ (val old || val b) → AllTrue val (gains a old b)
  all-gains a old b h = record { all = gained (val a) (val old) (val b) h }

  pub all-gains_both : (a old b c : StepAtom) → val a ≡ (val old || (val b && val c)) → AllTrue val (gains_both a old b c)
  all-gains_both a old b c h = record { all = gained_both (val a) (val old) (val b) (val c) h }

pub row_shapes_are_true : RowShapesAreTrue
row_shapes_are_true = (λ val a h. all-becomes val _ _ h, all-becomes, all-becomes_both, all-gains, all-gains_both)
