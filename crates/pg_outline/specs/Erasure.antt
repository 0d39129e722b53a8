-- The erasure of a program: the same program without auxiliaries and brackets. Its version, its domain and its locations with their
-- initial values and lines stay, and its registers keep their order.
use Rattle.std.specs.Prelude.{◌≡◌, ℕ, ◌+◌, Bool, true, false, List, [], length, map, take, Some, slice_get}
use Rattle.std.specs.List.{filter}
use Rattle.pg_program.specs.declared.name_table.NameKind.{NameKind}
use Rattle.pg_program.specs.declared.name_table.ScalarKind.{ScalarKind}
use Rattle.pg_program.specs.declared.name_table.ScalarKind.TheVariants.{Register, Auxiliary}
use Rattle.pg_program.specs.declared.syntax.Expr.{Expr, fold-Expr, roll-Expr}
use Rattle.pg_program.specs.declared.syntax.Expr.TheOpen.{Expr-F, Scalar}
use Rattle.pg_program.specs.declared.syntax.Cond.{Cond}
use Rattle.pg_program.specs.declared.syntax.Stmt.{Stmt, fold-Stmt, roll-Stmt}
use Rattle.pg_program.specs.declared.syntax.Act.{Act, fold-Act, roll-Act}
use Rattle.pg_program.specs.declared.syntax.Act.TheOpen.{Act-F, Stmt-F, Assign, Store, Load, Cas, If, While}
use Rattle.pg_program.specs.NameTable.{NameTable, Location, is_full, with_name, MayJoin}
use Rattle.pg_program.specs.Program.{ProgramTable}

-- ---- names

abbrev pub is_register : ScalarKind → Bool
is_register (Register owner) = true
is_register Auxiliary = false

-- the registers among these scalars, in their order
abbrev pub registers : List (List ℕ × ScalarKind) → List (List ℕ × ScalarKind)
registers scalars = filter (λ e. is_register e.1) scalars

-- the scalars without the auxiliaries
abbrev pub erased_names : NameTable → NameTable
erased_names names = record names { scalars = registers names.scalars }

-- the new place of a register: the number of registers that stand before it
abbrev pub new_place : NameTable → ℕ → ℕ
new_place names r = length (registers (take r names.scalars))

-- the table with the first n locations alone
abbrev pub first_locations : ℕ → NameTable → NameTable
first_locations n names = record names { locations = take n names.locations; scalars = [] }

-- The location x, declared as this behind the locations before it, is again what it was.
pub record DeclaresAgain (names : NameTable) (x : ℕ) (kind : NameKind) : Type 0 where
  pub room : is_full kind (first_locations x names) ≡ false
  pub joins : MayJoin kind (first_locations x names)
  pub same : (l : Location) → slice_get names.locations x ≡ Some l → with_name l.name kind (first_locations x names) ≡ first_locations (x + 1) names

-- ---- statements, where `place` gives the new place of each register

-- an expression with each register at its new place
abbrev pub moved_step : (ℕ → ℕ) → Expr-F Expr → Expr
moved_step place (Scalar r) = roll-Expr (Scalar (place r))
moved_step place e = roll-Expr e

abbrev pub moved : (ℕ → ℕ) → Expr → Expr
moved place = fold-Expr Expr (moved_step place)

abbrev pub moved_test : (ℕ → ℕ) → Cond → Cond
moved_test place c = record { left = moved place c.left; right = moved place c.right; equal = c.equal }

-- what a statement does, with each register at its new place; the blocks within it are erased
abbrev pub act_step : (ℕ → ℕ) → Act-F Act Stmt → Act
act_step place (Assign r e) = roll-Act (Assign (place r) (moved place e))
act_step place (Store x e) = roll-Act (Store x (moved place e))
act_step place (Load r x) = roll-Act (Load (place r) x)
act_step place (Cas r x e d) = roll-Act (Cas (place r) x (moved place e) (moved place d))
act_step place (If test a b) = roll-Act (If (moved_test place test) a b)
act_step place (While test a) = roll-Act (While (moved_test place test) a)
act_step place act = roll-Act act

-- its bracket is empty
abbrev pub stmt_step : Stmt-F Act Stmt → Stmt
stmt_step s = roll-Stmt (record { act = s.act; aux = [] })

abbrev pub erased_act : (ℕ → ℕ) → Act → Act
erased_act place = fold-Act Act Stmt (act_step place) stmt_step

abbrev pub erased_stmt : (ℕ → ℕ) → Stmt → Stmt
erased_stmt place = fold-Stmt Act Stmt (act_step place) stmt_step

-- ---- programs

abbrev pub erased : ProgramTable → ProgramTable
erased p = record { names = erased_names p.names; threads = map (map (erased_stmt (new_place p.names))) p.threads }
