-- When the rows of a cas are true: those of the case that it took, and no other.
use Rattle.std.proofs.Common.{◌≡◌, ℕ, Bool, true, false, not, ◌||◌, List, [], ◌∷◌, ◌++◌, refl, sym, ap, ◌∙◌}
use Rattle.std.proofs.lemmas.Bool.{true≢false}
use Rattle.pg_program.specs.NameTable.{NameTable}
use Rattle.pg_assertion.specs.declared.atom.ViewAtom.{ViewAtom}
use Rattle.pg_assertion.specs.declared.step_atom.StepAtom.{StepAtom}
use Rattle.pg_assertion.specs.declared.step_atom.StepAtom.TheVariants.{Success}
use Rattle.pg_tables.specs.declared.clause.StepLiteral.{StepLiteral}
use Rattle.pg_tables.specs.declared.clause.Case.TheVariants.{Succeeds, Fails}
use Rattle.pg_tables.specs.Clause.{implies}
use Rattle.pg_tables.specs.Table.{under}
use Rattle.pg_tables.specs.Shapes.{frame}
use Rattle.pg_tables.specs.Truth.{AllTrue, clause_true}
use Rattle.pg_tables.proofs.Truth.{all-append, all-succeeds, all-fails}
use Rattle.pg_rules_access.specs.Store.{store}
use Rattle.pg_rules_access.specs.Cas.{if_stored}

module _ (val : StepAtom → Bool) where
  -- ---- clauses with two atoms on the left

  pub two_give : (a b c : StepAtom) → (val a ≡ true → val b ≡ true → val c ≡ true) → clause_true val (implies (a ∷ b ∷ []) (c ∷ [])) ≡ true
  two_give a b c h = table (val a) (val b) (val c) h
    where
      table : (a b c : Bool) → (a ≡ true → b ≡ true → c ≡ true) → (not a || (not b || (c || false))) ≡ true
      table true true c h = ap (λ (d : Bool). d || false) (h refl refl)
      table true false c h = refl
      table false b c h = refl

  pub two_exclude : (a b : StepAtom) → (val a ≡ true → val b ≡ true → ⊥) → clause_true val (implies (a ∷ b ∷ []) []) ≡ true
  two_exclude a b h = table (val a) (val b) h
    where
      table : (a b : Bool) → (a ≡ true → b ≡ true → ⊥) → (not a || (not b || false)) ≡ true
      table true true h = absurd (h refl refl)
      table true false h = refl
      table false b h = refl

  -- ---- where the cas succeeds

  pub succeeded : (cs ds : List (List StepLiteral)) → val Success ≡ true → AllTrue val cs → AllTrue val (under Succeeds cs ++ under Fails ds)
  succeeded cs ds is h =
      all-append val (under Succeeds cs) (under Fails ds) (all-succeeds val cs (λ e. h)) (all-fails val ds (λ e. absurd (true≢false (sym is ∙ e))))

  pub stored_if : (names : NameTable) (s x : ℕ) (a : ViewAtom) (b : Bool) → val Success ≡ true → AllTrue val (store names s x a) → (b ≡ false → AllTrue val (frame a))
      → AllTrue val (if_stored b names s x a)
  stored_if names s x a true is h k = succeeded (store names s x a) (frame a) is h
  stored_if names s x a false is h k = k refl

  -- ---- where it fails

  pub failed : (cs ds : List (List StepLiteral)) → val Success ≡ false → AllTrue val ds → AllTrue val (under Succeeds cs ++ under Fails ds)
  failed cs ds is h =
      all-append val (under Succeeds cs) (under Fails ds) (all-succeeds val cs (λ e. absurd (true≢false (sym e ∙ is)))) (all-fails val ds (λ e. h))

  pub kept_if : (names : NameTable) (s x : ℕ) (a : ViewAtom) (b : Bool) → val Success ≡ false → AllTrue val (frame a) → AllTrue val (if_stored b names s x a)
  kept_if names s x a true is h = failed (store names s x a) (frame a) is h
  kept_if names s x a false is h = h
