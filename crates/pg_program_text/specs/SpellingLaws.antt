-- The laws of spelling: the canonical text is in the grammar, and stands for what it was made of.
use Rattle.pg_program_text.specs.Limits.{text_limits}
use Rattle.std.specs.Prelude.{◌≡◌, ℕ, ◌+◌, ◌<◌, ◌≤◌, true, List, [], ◌++◌, length, map, All}
use Rattle.pg_lex.specs.Lex.{Cursor, behind_gap}
use Rattle.pg_program.specs.NameTable.{NameTable, IsNameTable, is_auxiliary}
use Rattle.pg_program.specs.declared.syntax.Expr.{Expr}
use Rattle.pg_program.specs.declared.syntax.Cond.{Cond}
use Rattle.pg_program.specs.declared.syntax.AuxAssign.{AuxAssign}
use Rattle.pg_program.specs.declared.syntax.Stmt.{Stmt, out-Stmt}
use Rattle.pg_program.specs.declared.syntax.Act.{Act, out-Act}
use Rattle.pg_program.specs.declared.syntax.Act.TheOpen.{Act-F, Assign, Store, Load, Cas, Mfence, Sfence, Flush, Flushopt, If, While}
use Rattle.pg_program.specs.Block.{block}
use Rattle.pg_program.specs.Graph.{size, statements, is_test}
use Rattle.pg_assertion.specs.declared.atom.ViewAtom.{ViewAtom}
use Rattle.pg_assertion.specs.Formula.{Plain, with_atoms}
use Rattle.pg_assertion_text.specs.Spelling.{AreNames, Ends}
use Rattle.pg_assertion.specs.Atom.{raw_of}
use Rattle.pg_assertion_text.specs.SpellingLaws as formulas
use Rattle.pg_assertion_text.specs.SpellingLaws.{cursor}
use Rattle.pg_assertion_text.specs.ReadAgain.{IsWhole}
use Rattle.pg_program_text.specs.Limits.{most_expression_nodes, most_open_brackets, most_assignments, most_open_blocks}
use Rattle.pg_program_text.specs.Expr as grammar
use Rattle.pg_program_text.specs.Expr.{Is}
use Rattle.pg_program_text.specs.Grammar.{IsBody}
use Rattle.pg_program_text.specs.Spelling.{Tree, tree, spell_expr, spell_thread}
use Rattle.pg_program_text.specs.DeclaredNames.{Declared}
use Rattle.pg_program_text.specs.Measures.{opens, nodes, NumbersFit, nesting}

-- what can be read again: its names are declared, and its numbers fit
abbrev pub IsWritable : NameTable → Tree → Type 0
IsWritable names t = Declared names t × NumbersFit t

-- After the spelling there may stand what no word goes on with.
abbrev pub ExpressionsStand : Type 0
ExpressionsStand =
    (names : NameTable) (e : Expr) (m at : ℕ) (more : List ℕ)
    → IsNameTable names → AreNames names → IsWritable names (tree e) → opens (tree e) ≤ m → Ends more
    → Is names grammar.expr m (nodes (tree e)) (cursor at (spell_expr names e ++ more)) e (cursor (at + length (spell_expr names e)) more)

-- ---- statements within the limits of a text

pub record WholeExpr (names : NameTable) (e : Expr) : Type 0 where
  pub writable : IsWritable names (tree e)
  pub shallow : opens (tree e) ≤ most_open_brackets
  pub few : nodes (tree e) ≤ most_expression_nodes

abbrev pub WholeTest : NameTable → Cond → Type 0
WholeTest names c = WholeExpr names c.left × WholeExpr names c.right

abbrev pub WholeAct : NameTable → Act-F Act Stmt → Type 0
WholeAct names (Assign r e) = (r < length names.scalars) × WholeExpr names e
WholeAct names (Store x e) = (x < length names.locations) × WholeExpr names e
WholeAct names (Load r x) = (r < length names.scalars) × (x < length names.locations)
WholeAct names (Cas r x e d) = (r < length names.scalars) × (x < length names.locations) × WholeExpr names e × WholeExpr names d
WholeAct names Mfence = Unit {0}
WholeAct names Sfence = Unit {0}
WholeAct names (Flush x) = x < length names.locations
WholeAct names (Flushopt x) = x < length names.locations
WholeAct names (If c a b) = WholeTest names c
WholeAct names (While c a) = WholeTest names c

pub record WholeAssignment (names : NameTable) (a : AuxAssign) : Type 0 where
  pub target : a.target < length names.scalars
  pub auxiliary : is_auxiliary names a.target ≡ true
  pub expr_is : WholeExpr names a.expr

-- a statement, but for those of its blocks; a test has an empty bracket
pub record WholeStmt (names : NameTable) (s : Stmt) : Type 0 where
  pub act : WholeAct names (out-Act (out-Stmt s).act)
  pub assignments : All (WholeAssignment names) (out-Stmt s).aux
  pub few : length (out-Stmt s).aux ≤ most_assignments
  pub bare : is_test s ≡ true → (out-Stmt s).aux ≡ []

-- a thread within the limits of a text, with a note for each of its points
pub record WholeThread (names : NameTable) (ss : List Stmt) (notes : List (Plain ViewAtom)) : Type 0 where
  pub table : IsNameTable names
  pub names_are : AreNames names
  pub stmts : All (WholeStmt names) (statements (block ss))
  pub shallow : nesting (block ss) ≤ most_open_blocks
  pub points : length notes ≡ size (block ss) + 1
  pub formulas : All (IsWhole formulas.IsWritable names) notes

-- The body of a thread stands at a place. It ends where only blanks are left of its text.
pub record BodyStands (names : NameTable) (ss : List Stmt) (notes : List (Plain ViewAtom)) (from behind : Cursor) : Type 0 where
  pub to : Cursor
  pub body : IsBody text_limits names from ss (map (with_atoms raw_of) notes) to
  pub ends : behind_gap to ≡ behind_gap behind

-- the text of a thread, at any place and with anything after it
abbrev pub ThreadStands : NameTable → List Stmt → List (Plain ViewAtom) → Type 0
ThreadStands names ss notes =
    (at : ℕ) (more : List ℕ) → WholeThread names ss notes
    → BodyStands names ss notes (cursor at (spell_thread names ss notes ++ more)) (cursor (at + length (spell_thread names ss notes)) more)

abbrev pub ThreadsStand : Type 0
ThreadsStand = (names : NameTable) (ss : List Stmt) (notes : List (Plain ViewAtom)) → ThreadStands names ss notes
