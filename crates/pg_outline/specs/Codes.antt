-- Codes of formulas, by which values that hold formulas are told apart: a formula is coded as the formula of the code's own type.
--
-- `plain_formula` is a proof, and the one in this folder: the member `coded` of `impl Model for Outline` is a value that holds it,
-- and what a contract speaks of may name `specs/` alone. No statement rests on which code it is.
use Rattle.std.proofs.Common.{◌≡◌, sym, ap, ap₂, ◌∙◌}
use Rattle.std.specs.Coded.{Coded, code_by}
use Rattle.pg_assertion.specs.declared.atom.ViewAtom.{ViewAtom}
use Rattle.pg_assertion.specs.declared.atom.CrashAtom.{CrashAtom}
use Rattle.pg_assertion.specs.declared.formula.Formula.{Formula, fold-roll-Formula}
use Rattle.pg_assertion.specs.declared.formula.Formula.TheVariants as f
use Rattle.pg_assertion.specs.declared.formula.Formula.TheOpen as layer
use Rattle.pg_assertion.specs.contracts.formula.Formula as formula
use Rattle.pg_assertion.specs.contracts.atom.ViewAtom as view
use Rattle.pg_assertion.specs.contracts.atom.CrashAtom as crash
use Rattle.pg_assertion.specs.Formula.{Plain, top, bottom, atom, neg, both, either, implies, plain, plain_layer}

module _ {T : Type 0} where
  abbrev formula_of : Plain T → Formula T
  formula_of top = f.True
  formula_of bottom = f.False
  formula_of (atom a) = f.Atom a
  formula_of (neg g) = f.Not (formula_of g)
  formula_of (both g h) = f.And (formula_of g) (formula_of h)
  formula_of (either g h) = f.Or (formula_of g) (formula_of h)
  formula_of (implies g h) = f.Implies (formula_of g) (formula_of h)

  pub plain_formula : (g : Plain T) → plain (formula_of g) ≡ g
  plain_formula top = ap (λ (x : Formula T). plain x) (sym f.rolls-True) ∙ fold-roll-Formula T (Plain T) plain_layer layer.True
  plain_formula bottom = ap (λ (x : Formula T). plain x) (sym f.rolls-False) ∙ fold-roll-Formula T (Plain T) plain_layer layer.False
  plain_formula (atom a) = ap (λ (x : Formula T). plain x) (sym (f.rolls-Atom a)) ∙ fold-roll-Formula T (Plain T) plain_layer (layer.Atom a)
  plain_formula (neg g) =
      ap (λ (x : Formula T). plain x) (sym (f.rolls-Not (formula_of g)))
      ∙ fold-roll-Formula T (Plain T) plain_layer (layer.Not (formula_of g)) ∙ ap neg (plain_formula g)
  plain_formula (both g h) =
      ap (λ (x : Formula T). plain x) (sym (f.rolls-And (formula_of g) (formula_of h)))
      ∙ fold-roll-Formula T (Plain T) plain_layer (layer.And (formula_of g) (formula_of h)) ∙ ap₂ both (plain_formula g) (plain_formula h)
  plain_formula (either g h) =
      ap (λ (x : Formula T). plain x) (sym (f.rolls-Or (formula_of g) (formula_of h)))
      ∙ fold-roll-Formula T (Plain T) plain_layer (layer.Or (formula_of g) (formula_of h)) ∙ ap₂ either (plain_formula g) (plain_formula h)
  plain_formula (implies g h) =
      ap (λ (x : Formula T). plain x) (sym (f.rolls-Implies (formula_of g) (formula_of h)))
      ∙ fold-roll-Formula T (Plain T) plain_layer (layer.Implies (formula_of g) (formula_of h)) ∙ ap₂ implies (plain_formula g) (plain_formula h)

abbrev pub view_code : Coded (Plain ViewAtom)
view_code = code_by (Formula ViewAtom) (formula.the_row view.the_row).coded formula_of plain plain_formula

abbrev pub crash_code : Coded (Plain CrashAtom)
crash_code = code_by (Formula CrashAtom) (formula.the_row crash.the_row).coded formula_of plain plain_formula
