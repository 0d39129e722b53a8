-- Formulas as plain data: what contracts see of a `Formula`.
use Rattle.std.specs.Prelude.{ℕ, ◌+◌}
use Rattle.pg_assertion.specs.declared.formula.Formula.{Formula, fold-Formula}
use Rattle.pg_assertion.specs.declared.formula.Formula.TheOpen.{Formula-F}

pub data Plain (T : Type 0) : Type 0 where
  top : Plain T
  bottom : Plain T
  atom : T → Plain T
  neg : Plain T → Plain T
  both : Plain T → Plain T → Plain T
  either : Plain T → Plain T → Plain T
  implies : Plain T → Plain T → Plain T

-- one layer of a formula, whose parts are plain already
abbrev pub plain_layer : {T : Type 0} → Formula-F T (Plain T) → Plain T
plain_layer Formula-F.True = top
plain_layer Formula-F.False = bottom
plain_layer (Formula-F.Atom a) = atom a
plain_layer (Formula-F.Not f) = neg f
plain_layer (Formula-F.And f g) = both f g
plain_layer (Formula-F.Or f g) = either f g
plain_layer (Formula-F.Implies f g) = implies f g

abbrev pub plain : {T : Type 0} → Formula T → Plain T
plain {T} = fold-Formula T (Plain T) plain_layer

-- The number of nodes: each constant, atom and connective is one.
abbrev pub nodes : {T : Type 0} → Plain T → ℕ
nodes top = 1
nodes bottom = 1
nodes (atom a) = 1
nodes (neg f) = 1 + nodes f
nodes (both f g) = 1 + (nodes f + nodes g)
nodes (either f g) = 1 + (nodes f + nodes g)
nodes (implies f g) = 1 + (nodes f + nodes g)

-- each atom of the formula meets P
abbrev pub AllAtoms : {T : Type 0} → (T → Type 0) → Plain T → Type 0
AllAtoms P top = Unit {0}
AllAtoms P bottom = Unit {0}
AllAtoms P (atom a) = P a
AllAtoms P (neg f) = AllAtoms P f
AllAtoms P (both f g) = AllAtoms P f × AllAtoms P g
AllAtoms P (either f g) = AllAtoms P f × AllAtoms P g
AllAtoms P (implies f g) = AllAtoms P f × AllAtoms P g

-- the formula with other atoms
unfoldable pub with_atoms : {T U : Type 0} → (T → U) → Plain T → Plain U
with_atoms f top = top
with_atoms f bottom = bottom
with_atoms f (atom a) = atom (f a)
with_atoms f (neg g) = neg (with_atoms f g)
with_atoms f (both g h) = both (with_atoms f g) (with_atoms f h)
with_atoms f (either g h) = either (with_atoms f g) (with_atoms f h)
with_atoms f (implies g h) = implies (with_atoms f g) (with_atoms f h)
