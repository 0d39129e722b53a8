-- The canonical text of a thread. Each line is indented by two blanks for each brace that is open. A note stands on a
-- line of its own, before its statement. Binary signs have one blank on each side, and brackets stand just where the
-- expression would be read otherwise.
use Rattle.std.specs.Prelude.{ℕ, zero, suc, ◌+◌, Bool, true, false, if◌then◌else◌, List, [], ◌∷◌, ◌++◌, drop, codes, decimal}
use Rattle.pg_program.specs.NameTable.{NameTable}
use Rattle.pg_program.specs.declared.syntax.Expr.{Expr, fold-Expr}
use Rattle.pg_program.specs.declared.syntax.Expr.TheOpen.{Expr-F, Value, Scalar, Add, Sub, Mul}
use Rattle.pg_program.specs.declared.syntax.Cond.{Cond}
use Rattle.pg_program.specs.declared.syntax.AuxAssign.{AuxAssign}
use Rattle.pg_program.specs.declared.syntax.Stmt.{Stmt, out-Stmt}
use Rattle.pg_program.specs.declared.syntax.Act.{Act, out-Act}
use Rattle.pg_program.specs.declared.syntax.Act.TheOpen.{Act-F, Assign, Store, Load, Cas, Mfence, Sfence, Flush, Flushopt, If, While}
use Rattle.pg_program.specs.Block.{Block, done, node, block}
use Rattle.pg_program.specs.Graph.{size, is_test}
use Rattle.pg_assertion.specs.declared.atom.ViewAtom.{ViewAtom}
use Rattle.pg_assertion.specs.Formula.{Plain}
use Rattle.pg_assertion_text.specs.Spelling.{location_name, scalar_name, in_brackets, spell_atom}
use Rattle.pg_assertion_text.specs.Spelling as formulas

-- ---- expressions

-- an expression as a tree
pub data Tree : Type 0 where
  number : ℕ → Tree
  name : ℕ → Tree
  sum : Tree → Tree → Tree
  difference : Tree → Tree → Tree
  product : Tree → Tree → Tree

abbrev pub tree_step : Expr-F Tree → Tree
tree_step (Value v) = number v
tree_step (Scalar r) = name r
tree_step (Add a b) = sum a b
tree_step (Sub a b) = difference a b
tree_step (Mul a b) = product a b

abbrev pub tree : Expr → Tree
tree = fold-Expr Tree tree_step

-- it is a sum or a difference
abbrev pub is_sum : Tree → Bool
is_sum (number v) = false
is_sum (name r) = false
is_sum (sum a b) = true
is_sum (difference a b) = true
is_sum (product a b) = false

-- it has a sign with two sides
abbrev pub is_binary : Tree → Bool
is_binary (number v) = false
is_binary (name r) = false
is_binary (sum a b) = true
is_binary (difference a b) = true
is_binary (product a b) = true

-- brackets stand round a right operand of `+` or `-` that is a sum or a difference, round a left operand of `*` that is one,
-- and round a right operand of `*` that has a sign
unfoldable pub spell : NameTable → Tree → List ℕ
spell names (number v) = decimal v
spell names (name r) = scalar_name names r
spell names (sum a b) = spell names a ++ (codes " + " ++ in_brackets (is_sum b) (spell names b))
spell names (difference a b) = spell names a ++ (codes " - " ++ in_brackets (is_sum b) (spell names b))
spell names (product a b) = in_brackets (is_sum a) (spell names a) ++ (codes " * " ++ in_brackets (is_binary b) (spell names b))

abbrev pub spell_expr : NameTable → Expr → List ℕ
spell_expr names e = spell names (tree e)

-- ---- tests, acts and brackets

abbrev pub equality : Bool → List ℕ
equality true = codes " = "
equality false = codes " != "

abbrev pub spell_test : NameTable → Cond → List ℕ
spell_test names c = spell_expr names c.left ++ (equality c.equal ++ spell_expr names c.right)

abbrev pub spell_act : NameTable → Act-F Act Stmt → List ℕ
spell_act names (Assign r e) = scalar_name names r ++ (codes " := " ++ spell_expr names e)
spell_act names (Store x e) = location_name names x ++ (codes " := " ++ spell_expr names e)
spell_act names (Load r x) = scalar_name names r ++ (codes " := " ++ location_name names x)
spell_act names (Cas r x e d) =
    scalar_name names r ++ (codes " := cas(" ++ (location_name names x ++ (codes ", " ++ (spell_expr names e ++ (codes ", " ++ (spell_expr names d ++ codes ")"))))))
spell_act names Mfence = codes "mfence"
spell_act names Sfence = codes "sfence"
spell_act names (Flush x) = codes "flush " ++ location_name names x
spell_act names (Flushopt x) = codes "flushopt " ++ location_name names x
spell_act names (If c a b) = codes "if " ++ spell_test names c
spell_act names (While c a) = codes "while " ++ spell_test names c

-- `a := e`
abbrev pub spell_assignment : NameTable → AuxAssign → List ℕ
spell_assignment names a = scalar_name names a.target ++ (codes " := " ++ spell_expr names a.expr)

-- the assignments after the first one, and the end of the bracket
abbrev pub further : NameTable → List AuxAssign → List ℕ
further names [] = codes " >"
further names (a ∷ rest) = codes ", " ++ (spell_assignment names a ++ further names rest)

-- ` < a := e, b := e >`, or nothing
abbrev pub spell_bracket : NameTable → List AuxAssign → List ℕ
spell_bracket names [] = []
spell_bracket names (a ∷ rest) = codes " < " ++ (spell_assignment names a ++ further names rest)

-- ---- lines

abbrev pub indent : ℕ → List ℕ
indent zero = []
indent (suc n) = codes "  " ++ indent n

-- a line where so many braces are open
abbrev pub line : ℕ → List ℕ → List ℕ
line depth text = indent depth ++ (text ++ codes "\n")

-- the line of the first note, if there is one
abbrev pub note_line : NameTable → ℕ → List (Plain ViewAtom) → List ℕ
note_line names depth [] = []
note_line names depth (f ∷ fs) = line depth (codes "[" ++ (formulas.spell (spell_atom names) f ++ codes "]"))

-- a test opens a block, and any other statement ends on its line
abbrev pub ending : NameTable → Stmt → List ℕ
ending names s = if is_test s then codes " {" else spell_bracket names (out-Stmt s).aux ++ codes ";"

abbrev pub stmt_line : NameTable → ℕ → Stmt → List ℕ
stmt_line names depth s = line depth (spell_act names (out-Act (out-Stmt s).act) ++ ending names s)

-- an empty else part is not printed
abbrev pub else_line : ℕ → Block → List ℕ
else_line depth done = []
else_line depth (node s a b rest) = line depth (codes "} else {")

abbrev pub last_line : ℕ → Stmt → List ℕ
last_line depth s = if is_test s then line depth (codes "}") else []

-- The lines of a block, where so many braces are open: before each statement the note of its point, and within it those of
-- its two blocks. The notes are in the order of the points.
unfoldable pub spell_block : NameTable → ℕ → Block → List (Plain ViewAtom) → List ℕ
spell_block names depth done notes = []
spell_block names depth (node s a b rest) notes =
    note_line names depth notes
    ++ (stmt_line names depth s
    ++ (spell_block names (depth + 1) a (drop 1 notes)
    ++ (else_line depth b
    ++ (spell_block names (depth + 1) b (drop (size a) (drop 1 notes))
    ++ (last_line depth s
    ++ spell_block names depth rest (drop (size b) (drop (size a) (drop 1 notes))))))))

-- the lines of one statement, with those of its two blocks
abbrev pub stmt_lines : NameTable → ℕ → Stmt → Block → Block → List (Plain ViewAtom) → List ℕ
stmt_lines names depth s a b notes =
    note_line names depth notes
    ++ (stmt_line names depth s
    ++ (spell_block names (depth + 1) a (drop 1 notes)
    ++ (else_line depth b
    ++ (spell_block names (depth + 1) b (drop (size a) (drop 1 notes))
    ++ last_line depth s))))

-- the body of a thread, and the note of its end
abbrev pub spell_thread : NameTable → List Stmt → List (Plain ViewAtom) → List ℕ
spell_thread names ss notes = spell_block names 1 (block ss) notes ++ note_line names 1 (drop (size (block ss)) notes)
