-- The access rules of a step: how its values, its scalars, the last values of locations and what threads may read after it come
-- of what was before it. They are given as clauses, in their order.
use Rattle.std.specs.Prelude.{◌≡◌, ℕ, ◌<◌, List, [], ◌++◌, Option, Some, None, length, map}
use Rattle.pg_assertion.specs.declared.atom.ViewAtom.{ViewAtom}
use Rattle.pg_assertion.specs.declared.step_atom.StepAtom.TheVariants.{Value, Expected}
use Rattle.pg_assertion.specs.Layout.{Sizes, sizes, IsThreadNumber}
use Rattle.pg_program.specs.declared.point.Branch.{Branch}
use Rattle.pg_program.specs.declared.point.Step.{Step}
use Rattle.pg_program.specs.declared.syntax.AuxAssign.{AuxAssign}
use Rattle.pg_program.specs.declared.syntax.Stmt.{Stmt, out-Stmt}
use Rattle.pg_program.specs.declared.syntax.Act.{Act, out-Act}
use Rattle.pg_program.specs.declared.syntax.Act.TheOpen.{Act-F, Assign, Store, Load, Cas, Mfence, Sfence, Flush, Flushopt, If, While}
use Rattle.pg_program.specs.Expr.{reads}
use Rattle.pg_program.specs.NameTable.{NameTable}
use Rattle.pg_program.specs.Program.{ProgramTable, stmt_at}
use Rattle.pg_tables.specs.declared.clause.StepLiteral.{StepLiteral}
use Rattle.pg_tables.specs.Shapes.{frame}
use Rattle.pg_rules_access.specs.Atoms.{scalar_rows, access_rows}
use Rattle.pg_rules_access.specs.Values.{value_rules, expects_last, test_rules, bracket_rules, AreScalars, AreFew, AreAssigns}
use Rattle.pg_rules_access.specs.Store.{store}
use Rattle.pg_rules_access.specs.Load.{assign, load}
use Rattle.pg_rules_access.specs.Fence.{mfence, sfence}
use Rattle.pg_rules_access.specs.Cas.{cas}

-- what the expressions of an act say
abbrev pub act_values : Sizes → Branch → Act-F Act Stmt → List (List StepLiteral)
act_values l branch (Assign r e) = value_rules l e Value
act_values l branch (Store x e) = value_rules l e Value
act_values l branch (Cas r x e d) = value_rules l e Expected ++ (value_rules l d Value ++ expects_last l x)
act_values l branch (If test a b) = test_rules l test branch
act_values l branch (While test a) = test_rules l test branch
act_values l branch _ = []

-- the row of each atom at an act of thread s
abbrev pub act_row : Sizes → NameTable → ℕ → Act-F Act Stmt → ViewAtom → List (List StepLiteral)
act_row l names s (Assign r e) = assign r
act_row l names s (Store x e) = store names s x
act_row l names s (Load r x) = load l s r x
act_row l names s (Cas r x e d) = cas l names s r x
act_row l names s Mfence = mfence s
act_row l names s Sfence = sfence s
act_row l names s (Flush x) = frame
act_row l names s (Flushopt x) = frame
act_row l names s (If test a b) = frame
act_row l names s (While test a) = frame

-- What the expressions say; the rows of the scalars; the assignments of the bracket; and then the rows of the atoms of memory.
abbrev pub rules : Sizes → NameTable → List AuxAssign → List (List StepLiteral) → (ViewAtom → List (List StepLiteral)) → List (List StepLiteral)
rules l names aux values row =
    values
    ++ (scalar_rows l (map (λ a. a.target) aux) row
    ++ (bracket_rules l names aux
    ++ access_rows l row))

-- the rules of a statement of thread s, on a branch
abbrev pub stmt_rules : Sizes → NameTable → ℕ → Branch → Stmt → List (List StepLiteral)
stmt_rules l names s branch stmt =
    let act = out-Act (out-Stmt stmt).act in
    rules l names (out-Stmt stmt).aux (act_values l branch act) (act_row l names s act)

-- those of the statement at a point, and none at the end of a thread
abbrev pub rules_of : Sizes → NameTable → ℕ → Branch → Option Stmt → List (List StepLiteral)
rules_of l names s branch (Some stmt) = stmt_rules l names s branch stmt
rules_of l names s branch None = []

-- the access rules of a step of a program
abbrev pub access : ProgramTable → Step → List (List StepLiteral)
access p step = rules_of (sizes p.names (length p.threads)) p.names step.thread step.branch (stmt_at p step.thread step.point)

-- ---- what a step of a program has

-- the names and locations of an act are those of the layout, and no expression reads many
abbrev pub IsActOver : Sizes → Act-F Act Stmt → Type 0
IsActOver l (Assign r e) = (r < l.scalars) × AreScalars (reads e) × AreFew l (reads e)
IsActOver l (Store x e) = (x < l.locations) × AreScalars (reads e) × AreFew l (reads e)
IsActOver l (Load r x) = (r < l.scalars) × (x < l.locations)
IsActOver l (Cas r x e d) =
    (r < l.scalars) × (x < l.locations) × AreScalars (reads e) × AreFew l (reads e) × AreScalars (reads d) × AreFew l (reads d)
IsActOver l (If test a b) = AreScalars (reads test.left) × AreScalars (reads test.right) × AreFew l (reads test.left ++ reads test.right)
IsActOver l (While test a) = AreScalars (reads test.left) × AreScalars (reads test.right) × AreFew l (reads test.left ++ reads test.right)
IsActOver l _ = Unit {0}

abbrev pub IsStmtOver : Sizes → Stmt → Type 0
IsStmtOver l s = IsActOver l (out-Act (out-Stmt s).act) × AreAssigns l (out-Stmt s).aux

-- the layout is that of these names, and has the thread and what the bracket speaks of
pub record IsContext (l : Sizes) (names : NameTable) (s : ℕ) (aux : List AuxAssign) : Type 0 where
  pub scalars : l.scalars ≡ length names.scalars
  pub locations : l.locations ≡ length names.locations
  pub thread : IsThreadNumber l s
  pub assigns : AreAssigns l aux
