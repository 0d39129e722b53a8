-- What an outline's formulas speak of is declared.
use Rattle.std.proofs.Common.{length}
use Rattle.pg_program.specs.Program.{ProgramTable}
use Rattle.pg_program.specs.NameTable.{NameTable}
use Rattle.pg_assertion.specs.declared.atom.ViewAtom.{ViewAtom}
use Rattle.pg_assertion.specs.declared.atom.ViewAtom.TheVariants as view
use Rattle.pg_assertion.specs.declared.atom.CrashAtom.{CrashAtom}
use Rattle.pg_assertion.specs.declared.atom.CrashAtom.TheVariants as crash
use Rattle.pg_assertion.specs.Formula.{Plain, top, bottom, atom, neg, both, either, implies, AllAtoms}
use Rattle.pg_assertion.specs.Atom.{NamesDeclared, CrashDeclared}
use Rattle.pg_assertion.specs.Layout.{sizes, IsAtom}
use Rattle.pg_assertion.specs.Expansion.{IsAtomOf}
use Rattle.pg_outline.specs.Speaks.{IsOver, IsCrashOver}

weaker : {T : Type 0} (P Q : T → Type 0) → ((a : T) → P a → Q a) → (f : Plain T) → AllAtoms P f → AllAtoms Q f
weaker P Q g top h = tt
weaker P Q g bottom h = tt
weaker P Q g (atom a) h = g a h
weaker P Q g (neg f) h = weaker P Q g f h
weaker P Q g (both f k) h = (weaker P Q g f h.0, weaker P Q g k h.1)
weaker P Q g (either f k) h = (weaker P Q g f h.0, weaker P Q g k h.1)
weaker P Q g (implies f k) h = (weaker P Q g f h.0, weaker P Q g k h.1)

pub atom_declared : (p : ProgramTable) (a : ViewAtom) → IsAtom (sizes p.names (length p.threads)) a → NamesDeclared p.names a
atom_declared p (view.Scalar r k) h = h.0
atom_declared p (view.Last x v) h = h.0
atom_declared p (view.Read t x v) h = h.1
atom_declared p (view.Persist x v) h = h.0
atom_declared p (view.Async t x v) h = h.1
atom_declared p (view.Then t x v y w) h = (h.1, h.3)
atom_declared p (view.Newest t x) h = h.1
atom_declared p (view.Ordered t x) h = h.1
atom_declared p (view.Fenced t x) h = h.1

pub assertion_declared : (p : ProgramTable) (f : Plain ViewAtom) → IsOver p f → AllAtoms (NamesDeclared p.names) f
assertion_declared p f h = weaker (IsAtom (sizes p.names (length p.threads))) (NamesDeclared p.names) (atom_declared p) f h

crash_atom_declared : (names : NameTable) (a : CrashAtom) → IsAtomOf names a → CrashDeclared names a
crash_atom_declared names (crash.Scalar r k) h = h.0
crash_atom_declared names (crash.Location x v) h = h.0

pub crash_declared : (p : ProgramTable) (f : Plain CrashAtom) → IsCrashOver p f → AllAtoms (CrashDeclared p.names) f
crash_declared p f h = weaker (IsAtomOf p.names) (CrashDeclared p.names) (crash_atom_declared p.names) f h
