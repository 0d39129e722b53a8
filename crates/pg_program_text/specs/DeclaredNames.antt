-- The names in expressions and statements are declared.
use Rattle.std.specs.Prelude.{◌<◌, length, All}
use Rattle.pg_program.specs.NameTable.{NameTable}
use Rattle.pg_program.specs.declared.syntax.Expr.{Expr}
use Rattle.pg_program.specs.declared.syntax.Cond.{Cond}
use Rattle.pg_program.specs.declared.syntax.AuxAssign.{AuxAssign}
use Rattle.pg_program.specs.declared.syntax.Stmt.{Stmt, out-Stmt}
use Rattle.pg_program.specs.declared.syntax.Act.{Act, out-Act}
use Rattle.pg_program.specs.declared.syntax.Act.TheOpen.{Act-F, Assign, Store, Load, Cas, Mfence, Sfence, Flush, Flushopt, If, While}
use Rattle.pg_program.specs.Block.{Block, done, node}
use Rattle.pg_program_text.specs.Spelling.{Tree, number, name, sum, difference, product, tree}

unfoldable pub Declared : NameTable → Tree → Type 0
Declared names (number v) = Unit {0}
Declared names (name r) = r < length names.scalars
Declared names (sum a b) = Declared names a × Declared names b
Declared names (difference a b) = Declared names a × Declared names b
Declared names (product a b) = Declared names a × Declared names b

abbrev pub IsDeclared : NameTable → Expr → Type 0
IsDeclared names e = Declared names (tree e)

abbrev pub TestDeclared : NameTable → Cond → Type 0
TestDeclared names c = IsDeclared names c.left × IsDeclared names c.right

abbrev pub ActDeclared : NameTable → Act-F Act Stmt → Type 0
ActDeclared names (Assign r e) = (r < length names.scalars) × IsDeclared names e
ActDeclared names (Store x e) = (x < length names.locations) × IsDeclared names e
ActDeclared names (Load r x) = (r < length names.scalars) × (x < length names.locations)
ActDeclared names (Cas r x e d) = (r < length names.scalars) × (x < length names.locations) × IsDeclared names e × IsDeclared names d
ActDeclared names Mfence = Unit {0}
ActDeclared names Sfence = Unit {0}
ActDeclared names (Flush x) = x < length names.locations
ActDeclared names (Flushopt x) = x < length names.locations
ActDeclared names (If c a b) = TestDeclared names c
ActDeclared names (While c a) = TestDeclared names c

abbrev pub AssignmentDeclared : NameTable → AuxAssign → Type 0
AssignmentDeclared names a = (a.target < length names.scalars) × IsDeclared names a.expr

abbrev pub StmtDeclared : NameTable → Stmt → Type 0
StmtDeclared names s = ActDeclared names (out-Act (out-Stmt s).act) × All (AssignmentDeclared names) (out-Stmt s).aux

unfoldable pub BlockDeclared : NameTable → Block → Type 0
BlockDeclared names done = Unit {0}
BlockDeclared names (node s a b rest) = StmtDeclared names s × BlockDeclared names a × BlockDeclared names b × BlockDeclared names rest
