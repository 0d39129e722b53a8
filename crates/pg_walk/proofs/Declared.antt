-- A formula that was read speaks of declared names.
use Rattle.pg_lex.specs.Lex.{Cursor}
use Rattle.pg_program.specs.NameTable.{NameTable}
use Rattle.pg_assertion.specs.declared.atom.RawAtom.{RawAtom}
use Rattle.pg_assertion.specs.Atom.{RawDeclared}
use Rattle.pg_assertion.specs.Formula.{Plain, AllAtoms}
use Rattle.pg_assertion_text.specs.Within.{FormulasAreWithin, IsWritableRaw}
use Rattle.pg_assertion_text.specs.Atoms.{IsRaw}
use Rattle.pg_assertion_text.specs.Parsing.{IsFormula}
use Rattle.pg_assertion_text.proofs.Spelling.{each_mapped}

pub names_declared : (names : NameTable) (from to : Cursor) (f : Plain RawAtom) → FormulasAreWithin → IsFormula IsRaw names from f to → AllAtoms (RawDeclared names) f
names_declared names from to f within is = each_mapped (λ (a : RawAtom) (writable : IsWritableRaw names a). writable.0) f (within names from to f is).atoms
