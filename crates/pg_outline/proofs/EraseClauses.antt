-- An erased statement meets each clause that the statement meets.
use Rattle.std.proofs.Common.{◌≡◌, ℕ, ◌<◌, ◌≤◌, ◌==◌, Bool, true, false, cond, ◌||◌, nat_le, List, [], ◌∷◌, ◌++◌, length, map, Option, Some, None, option_map, refl, sym, ap, ap₂, subst, ◌∙◌, arith}
use Rattle.std.specs.List.{All, find, list_any}
use Rattle.std.proofs.lemmas.Bool.{ltb-false, le-ltb, eqb-true, eq-eqb}
use Rattle.std.proofs.lemmas.List.{append-nil}
use Rattle.std.proofs.lemmas.List.Elements.{All-nil, All-cons, All-head, All-tail}
use Rattle.pg_program.specs.declared.syntax.AuxAssign.{AuxAssign}
use Rattle.pg_program.specs.declared.syntax.Stmt.{Stmt, out-Stmt}
use Rattle.pg_program.specs.declared.syntax.Act.{Act, out-Act}
use Rattle.pg_program.specs.declared.syntax.Act.TheOpen.{Act-F}
use Rattle.pg_program.specs.declared.point.PointId.{PointId}
use Rattle.pg_program.specs.NameTable.{NameTable, is_foreign, is_foreign_kind, is_auxiliary, scalar_name}
use Rattle.pg_program.specs.Expr.{reads}
use Rattle.pg_program.specs.Fault.{Fault, foreign_register, aux_in_program, aux_twice, value_out_of_domain, expression_names, first_outside, own_registers, no_auxiliaries, distinct_targets, numbers_inside, few_names}
use Rattle.pg_program.specs.Words.{outside, outside_in, scalars_of, bracket_scalars, targets, numbers_in, numbers_of, bracket_numbers, groups, groups_in, locations_in, locations_of, repeated, is_in, different, is_wide}
use Rattle.pg_program.specs.Program.{IsStmt}
use Rattle.pg_program.proofs.ExprLemmas.{All-front}
use Rattle.pg_outline.specs.Erasure.{erased_names, erased_stmt, new_place}
use Rattle.pg_outline.proofs.EraseNames.{stays_at, place_within, none_auxiliary}
use Rattle.pg_outline.proofs.EraseStmts.{act_is, no_bracket, outside_moved, numbers_stay, groups_moved, locations_stay}

-- ---- lists

none_of : {X Y : Type 0} (f : X → Y) (o : Option X) → option_map f o ≡ None → o ≡ None
none_of f None h = refl
none_of f (Some x) h = cc

found_parts : (p : ℕ → Bool) (r : ℕ) (rs : List ℕ) → find p (r ∷ rs) ≡ None → (p r ≡ false) × (find p rs ≡ None)
found_parts p r rs h = by (p r) h
  where
    by : (b : Bool) → cond b (Some r) (find p rs) ≡ None → (b ≡ false) × (find p rs ≡ None)
    by true e = cc
    by false e = (refl, e)

found_none : (p : ℕ → Bool) (r : ℕ) (rs : List ℕ) → p r ≡ false → find p rs ≡ None → find p (r ∷ rs) ≡ None
found_none p r rs differs rest = ap (λ (b : Bool). cond b (Some r) (find p rs)) differs ∙ rest

found_front : (p : ℕ → Bool) (xs ys : List ℕ) → find p (xs ++ ys) ≡ None → find p xs ≡ None
found_front p [] ys h = refl
found_front p (x ∷ xs) ys h = let parts = found_parts p x (xs ++ ys) h in found_none p x xs parts.0 (found_front p xs ys parts.1)

outside_front : (d : ℕ) (xs ys : List ℕ) → first_outside d (xs ++ ys) ≡ None → first_outside d xs ≡ None
outside_front d [] ys h = refl
outside_front d (x ∷ xs) ys h = by (nat_le d x) (outside_front d xs ys) h
  where
    by : (b : Bool) → (first_outside d (xs ++ ys) ≡ None → first_outside d xs ≡ None) → cond b (Some x) (first_outside d (xs ++ ys)) ≡ None → cond b (Some x) (first_outside d xs) ≡ None
    by true rest e = cc
    by false rest e = rest e

any_parts : {X : Type 0} (p : X → Bool) (x : X) (xs : List X) → list_any p (x ∷ xs) ≡ false → (p x ≡ false) × (list_any p xs ≡ false)
any_parts p x xs h = by (p x) h
  where
    by : (b : Bool) → (b || list_any p xs) ≡ false → (b ≡ false) × (list_any p xs ≡ false)
    by true e = cc
    by false e = (refl, e)

-- ---- scalars

module _ (names : NameTable) where
  abbrev place : ℕ → ℕ
  place = new_place names

  abbrev erase : Stmt → Stmt
  erase = erased_stmt place

  no_auxiliary : (rs : List ℕ) → find (is_auxiliary (erased_names names)) rs ≡ None
  no_auxiliary [] = refl
  no_auxiliary (r ∷ rs) = found_none (is_auxiliary (erased_names names)) r rs (none_auxiliary names.scalars r) (no_auxiliary rs)

  own_moved : (t : ℕ) (rs : List ℕ) → find (is_auxiliary names) rs ≡ None → find (is_foreign names t) rs ≡ None → find (is_foreign (erased_names names) t) (map place rs) ≡ None
  own_moved t [] aux own = refl
  own_moved t (r ∷ rs) aux own =
      let a = found_parts (is_auxiliary names) r rs aux in
      let o = found_parts (is_foreign names t) r rs own in
      found_none (is_foreign (erased_names names) t) (place r) (map place rs) (ap (is_foreign_kind t) (stays_at names.scalars r a.0) ∙ o.0) (own_moved t rs a.1 o.1)

  within : (rs : List ℕ) → find (is_auxiliary names) rs ≡ None → All (λ r. r < length names.scalars) rs → All (λ r. r < length (erased_names names).scalars) (map place rs)
  within [] aux all = All-nil (λ (r : ℕ). r < length (erased_names names).scalars)
  within (r ∷ rs) aux all =
      let a = found_parts (is_auxiliary names) r rs aux in
      All-cons (λ (q : ℕ). q < length (erased_names names).scalars) (place r) (map place rs)
      (place_within names.scalars r a.0 (All-head (λ (q : ℕ). q < length names.scalars) r rs all))
      (within rs a.1 (All-tail (λ (q : ℕ). q < length names.scalars) r rs all))

  -- ---- the parts of an erased statement

  outside_is : (s : Stmt) → outside (erase s) ≡ map place (outside s)
  outside_is s = ap (λ (x : Act-F Act Stmt). outside_in x) (act_is place s) ∙ outside_moved place (out-Act (out-Stmt s).act)

  scalars_is : (s : Stmt) → scalars_of (erase s) ≡ map place (outside s)
  scalars_is s = ap₂ (λ (l : List ℕ) (b : List AuxAssign). l ++ bracket_scalars b) (outside_is s) (no_bracket place s) ∙ append-nil (map place (outside s))

  numbers_is : (s : Stmt) → numbers_of (erase s) ≡ numbers_in (out-Act (out-Stmt s).act)
  numbers_is s =
      let act = out-Act (out-Stmt s).act in
      ap₂ (λ (l : List ℕ) (b : List AuxAssign). l ++ bracket_numbers b) (ap (λ (x : Act-F Act Stmt). numbers_in x) (act_is place s) ∙ numbers_stay place act) (no_bracket place s)
      ∙ append-nil (numbers_in act)

  groups_is : (s : Stmt) → groups (erase s) ≡ map (map place) (groups_in (out-Act (out-Stmt s).act))
  groups_is s =
      let act = out-Act (out-Stmt s).act in
      ap₂ (λ (l : List (List ℕ)) (b : List AuxAssign). l ++ map (λ a. reads a.expr) b) (ap (λ (x : Act-F Act Stmt). groups_in x) (act_is place s) ∙ groups_moved place act) (no_bracket place s)
      ∙ append-nil (map (map place) (groups_in act))

  locations_is : (s : Stmt) → locations_of (erase s) ≡ locations_of s
  locations_is s = ap (λ (x : Act-F Act Stmt). locations_in x) (act_is place s) ∙ locations_stay place (out-Act (out-Stmt s).act)

  targets_is : (s : Stmt) → targets (erase s) ≡ []
  targets_is s = ap (λ (b : List AuxAssign). map (λ a. a.target) b) (no_bracket place s)

  -- ---- different names

  -- a number among others is moved among them
  is_in_moved : (f : ℕ → ℕ) (r : ℕ) (rs : List ℕ) → is_in r rs ≡ true → is_in (f r) (map f rs) ≡ true
  is_in_moved f r [] h = cc
  is_in_moved f r (q ∷ rs) h = by (is_in_moved f r rs) (q == r) refl h
    where
      by : (is_in r rs ≡ true → is_in (f r) (map f rs) ≡ true) → (b : Bool) → (q == r) ≡ b → (b || is_in r rs) ≡ true → ((f q == f r) || is_in (f r) (map f rs)) ≡ true
      by rest true is e = ap (λ (b : Bool). b || is_in (f r) (map f rs)) (eq-eqb (f q) (f r) (ap f (eqb-true q r is)))
      by rest false is e = or_true (f q == f r) (is_in (f r) (map f rs)) (rest e)
        where
          or_true : (a b : Bool) → b ≡ true → (a || b) ≡ true
          or_true true b h = refl
          or_true false b h = h

  -- so there are no more of them
  no_more : (f : ℕ → ℕ) (rs : List ℕ) → length (different (map f rs)) ≤ length (different rs)
  no_more f [] = omega arith
  no_more f (r ∷ rs) = by (is_in r rs) (is_in (f r) (map f rs)) (is_in_moved f r rs) (no_more f rs)
    where
      by : (a b : Bool) → (a ≡ true → b ≡ true) → length (different (map f rs)) ≤ length (different rs)
          → length (cond b (different (map f rs)) (f r ∷ different (map f rs))) ≤ length (cond a (different rs) (r ∷ different rs))
      by true true h few = few
      by true false h few = let e = h refl in cc
      by false true h few = omega arith
      by false false h few = omega arith

  not_wide : (f : ℕ → ℕ) (rs : List ℕ) → is_wide rs ≡ false → is_wide (map f rs) ≡ false
  not_wide f rs h =
      let few = ltb-false 4 (length (different rs)) h in
      let fewer = no_more f rs in
      le-ltb 4 (length (different (map f rs))) (omega arith)

  none_wide : (f : ℕ → ℕ) (gs hs : List (List ℕ)) → list_any is_wide (gs ++ hs) ≡ false → list_any is_wide (map (map f) gs) ≡ false
  none_wide f [] hs h = refl
  none_wide f (g ∷ gs) hs h =
      let parts = any_parts is_wide g (gs ++ hs) h in
      ap (λ (b : Bool). b || list_any is_wide (map (map f) gs)) (not_wide f g parts.0) ∙ none_wide f gs hs parts.1

  -- ---- the clauses

  pub own : (at : PointId) (s : Stmt) → own_registers names at s ≡ None → no_auxiliaries names at s ≡ None → own_registers (erased_names names) at (erase s) ≡ None
  own at s h aux =
      let mine = found_front (is_foreign names at.thread) (outside s) (bracket_scalars (out-Stmt s).aux) (none_of (λ r. foreign_register (scalar_name names r)) (find (is_foreign names at.thread) (scalars_of s)) h) in
      let none = none_of (λ r. aux_in_program (scalar_name names r)) (find (is_auxiliary names) (outside s)) aux in
      ap (λ (rs : List ℕ). option_map (λ r. foreign_register (scalar_name (erased_names names) r)) (find (is_foreign (erased_names names) at.thread) rs)) (scalars_is s)
      ∙ ap (option_map (λ r. foreign_register (scalar_name (erased_names names) r))) (own_moved at.thread (outside s) none mine)

  pub bare : (at : PointId) (s : Stmt) → no_auxiliaries names at s ≡ None → no_auxiliaries names at s ≡ None → no_auxiliaries (erased_names names) at (erase s) ≡ None
  bare at s h aux = ap (option_map (λ r. aux_in_program (scalar_name (erased_names names) r))) (no_auxiliary (outside (erase s)))

  pub apart : (at : PointId) (s : Stmt) → distinct_targets names at s ≡ None → no_auxiliaries names at s ≡ None → distinct_targets (erased_names names) at (erase s) ≡ None
  apart at s h aux = ap (λ (rs : List ℕ). option_map (λ r. aux_twice (scalar_name (erased_names names) r)) (repeated [] rs)) (targets_is s)

  pub inside : (at : PointId) (s : Stmt) → numbers_inside names at s ≡ None → no_auxiliaries names at s ≡ None → numbers_inside (erased_names names) at (erase s) ≡ None
  inside at s h aux =
      let act = numbers_in (out-Act (out-Stmt s).act) in
      let mine = outside_front names.domain act (bracket_numbers (out-Stmt s).aux) (none_of value_out_of_domain (first_outside names.domain (numbers_of s)) h) in
      ap (λ (vs : List ℕ). option_map value_out_of_domain (first_outside names.domain vs)) (numbers_is s) ∙ ap (option_map value_out_of_domain) mine

  narrow : (b : Bool) (f : Fault) → cond b (Some f) None ≡ None → b ≡ false
  narrow true f h = cc
  narrow false f h = refl

  pub few : (at : PointId) (s : Stmt) → few_names names at s ≡ None → no_auxiliaries names at s ≡ None → few_names (erased_names names) at (erase s) ≡ None
  few at s h aux =
      let act = groups_in (out-Act (out-Stmt s).act) in
      let mine = none_wide place act (map (λ a. reads a.expr) (out-Stmt s).aux) (narrow (list_any is_wide (groups s)) (expression_names at) h) in
      ap (λ (gs : List (List ℕ)). cond (list_any is_wide gs) (Some (expression_names at)) None) (groups_is s) ∙ ap (λ (b : Bool). cond b (Some (expression_names at)) None) mine

  -- ---- over the names

  pub is_stmt : (at : PointId) (s : Stmt) → IsStmt names s → no_auxiliaries names at s ≡ None → IsStmt (erased_names names) (erase s)
  is_stmt at s h aux =
      let none = none_of (λ r. aux_in_program (scalar_name names r)) (find (is_auxiliary names) (outside s)) aux in
      let mine = All-front (λ (r : ℕ). r < length names.scalars) (outside s) (bracket_scalars (out-Stmt s).aux) h.scalars in
      record {
        scalars = subst (All (λ (r : ℕ). r < length (erased_names names).scalars)) (sym (scalars_is s)) (within (outside s) none mine);
        locations = subst (All (λ (x : ℕ). x < length names.locations)) (sym (locations_is s)) h.locations;
        targets = subst (All (λ (r : ℕ). is_auxiliary (erased_names names) r ≡ true)) (sym (targets_is s)) (All-nil (λ (r : ℕ). is_auxiliary (erased_names names) r ≡ true));
        bare = λ test. no_bracket place s;
      }
