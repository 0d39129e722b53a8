-- The made outline of n statements: an outline of any length for trying the checker out. Two threads take the same turns over the
-- values 0 and 1: each stores 1 in x, flushes x, and stores 1 in y, and so on. Nobody depends on memory that is new, so that each of
-- its obligations follows.
use Rattle.std.specs.Prelude.{ℕ, ◌+◌, ◌%◌, ◌==◌, if◌then◌else◌, List, [], ◌∷◌, map, codes}
use Rattle.std.specs.List.{range_with_len}
use Rattle.pg_program.specs.declared.syntax.Expr.{Expr, roll-Expr}
use Rattle.pg_program.specs.declared.syntax.Expr.TheOpen.{Value}
use Rattle.pg_program.specs.declared.syntax.Stmt.{Stmt, roll-Stmt}
use Rattle.pg_program.specs.declared.syntax.Act.{Act, roll-Act}
use Rattle.pg_program.specs.declared.syntax.Act.TheOpen.{Act-F, Store, Flush}
use Rattle.pg_program.specs.NameTable.{NameTable}
use Rattle.pg_program.specs.Program.{ProgramTable}
use Rattle.pg_assertion.specs.declared.atom.ViewAtom.{ViewAtom}
use Rattle.pg_assertion.specs.declared.atom.ViewAtom.TheVariants as view
use Rattle.pg_assertion.specs.declared.atom.CrashAtom.{CrashAtom}
use Rattle.pg_assertion.specs.declared.atom.CrashAtom.TheVariants as crash
use Rattle.pg_assertion.specs.Formula.{Plain, top, atom, neg, implies}
use Rattle.pg_outline.specs.Outline.{OutlineTable}

-- ---- names

-- the numbers of the two locations
abbrev pub x : ℕ
x = 0

abbrev pub y : ℕ
y = 1

-- version 1; the values 0 and 1; x and y, which are 0 at first, each on a line of its own; no scalars
abbrev pub names : NameTable
names = record {
  version = 1;
  domain = 2;
  locations = record { name = codes "x"; init = 0; line = 0 } ∷ record { name = codes "y"; init = 0; line = 1 } ∷ [];
  scalars = [];
}

-- ---- statements

abbrev pub one : Expr
one = roll-Expr (Value 1)

-- statement j, from 1: `x := 1`, then `flush x`, then `y := 1`, in turns
abbrev pub act : ℕ → Act-F Act Stmt
act j = if j % 3 == 1 then Store x one else (if j % 3 == 2 then Flush x else Store y one)

abbrev pub statement : ℕ → Stmt
statement j = roll-Stmt (record { act = roll-Act (act j); aux = [] })

abbrev pub statements : ℕ → List Stmt
statements n = map statement (range_with_len 1 n)

abbrev pub program : ℕ → ProgramTable
program n = record { names = names; threads = statements n ∷ statements n ∷ [] }

-- ---- formulas

-- at point k of thread t, from 1: first `true`; then that the thread can no longer read 0 in x; and behind the first flush that 0 may
-- not persist in x
abbrev pub note : ℕ → ℕ → Plain ViewAtom
note t k = if k == 1 then top else (if k == 2 then neg (atom (view.Read t x 0)) else neg (atom (view.Persist x 0)))

abbrev pub notes : ℕ → ℕ → List (Plain ViewAtom)
notes t n = map (note t) (range_with_len 1 (n + 1))

-- `!P(y,1)`
abbrev pub pre : Plain ViewAtom
pre = neg (atom (view.Persist y 1))

-- `y = 1 -> x = 1`
abbrev pub crash_formula : Plain CrashAtom
crash_formula = implies (atom (crash.Location y 1)) (atom (crash.Location x 1))

-- ---- the outline

abbrev pub made_outline : ℕ → OutlineTable
made_outline n = record { program = program n; pre = pre; crash = crash_formula; notes = notes 1 n ∷ notes 2 n ∷ [] }
