-- In statements over names all that is spelled is declared.
use Rattle.std.proofs.Common.{ℕ, ◌<◌, List, [], ◌∷◌, ◌++◌, length}
use Rattle.std.specs.List.{All}
use Rattle.std.proofs.lemmas.List.Elements.{All-nil, All-cons, All-head, All-tail}
use Rattle.pg_program.specs.declared.syntax.Stmt.{Stmt, out-Stmt}
use Rattle.pg_program.specs.declared.syntax.Act.{Act, out-Act}
use Rattle.pg_program.specs.declared.syntax.Act.TheOpen.{Act-F, Assign, Store, Load, Cas, Mfence, Sfence, Flush, Flushopt, If, While}
use Rattle.pg_program.specs.declared.syntax.AuxAssign.{AuxAssign}
use Rattle.pg_program.specs.declared.syntax.Cond.{Cond}
use Rattle.pg_program.specs.NameTable.{NameTable}
use Rattle.pg_program.specs.Expr.{reads}
use Rattle.pg_program.specs.Words.{outside, outside_in, bracket_scalars, locations_in}
use Rattle.pg_program.specs.Block.{Block, done, node}
use Rattle.pg_program.specs.Graph.{statements}
use Rattle.pg_program.specs.Program.{IsStmt}
use Rattle.pg_program.proofs.ExprLemmas.{All-front, All-behind}
use Rattle.pg_program_text.specs.DeclaredNames.{TestDeclared, ActDeclared, AssignmentDeclared, StmtDeclared, BlockDeclared}
use Rattle.pg_program_text.proofs.SpellingTrees.{expr_declared}

module _ (names : NameTable) where
  abbrev IsScalar : ℕ → Type 0
  IsScalar r = r < length names.scalars

  abbrev IsLocation : ℕ → Type 0
  IsLocation x = x < length names.locations

  test_declared : (c : Cond) → All IsScalar (reads c.left ++ reads c.right) → TestDeclared names c
  test_declared c h =
      (expr_declared names c.left (All-front IsScalar (reads c.left) (reads c.right) h), expr_declared names c.right (All-behind IsScalar (reads c.left) (reads c.right) h))

  act_declared : (x : Act-F Act Stmt) → All IsScalar (outside_in x) → All IsLocation (locations_in x) → ActDeclared names x
  act_declared (Assign r a) h k = (All-head IsScalar r (reads a) h, expr_declared names a (All-tail IsScalar r (reads a) h))
  act_declared (Store x a) h k = (All-head IsLocation x [] k, expr_declared names a h)
  act_declared (Load r x) h k = (All-head IsScalar r [] h, All-head IsLocation x [] k)
  act_declared (Cas r x a b) h k =
      let both = All-tail IsScalar r (reads a ++ reads b) h in
      (All-head IsScalar r (reads a ++ reads b) h, All-head IsLocation x [] k, expr_declared names a (All-front IsScalar (reads a) (reads b) both), expr_declared names b (All-behind IsScalar (reads a) (reads b) both))
  act_declared Mfence h k = tt
  act_declared Sfence h k = tt
  act_declared (Flush x) h k = All-head IsLocation x [] k
  act_declared (Flushopt x) h k = All-head IsLocation x [] k
  act_declared (If c a b) h k = test_declared c h
  act_declared (While c a) h k = test_declared c h

  bracket_declared : (b : List AuxAssign) → All IsScalar (bracket_scalars b) → All (AssignmentDeclared names) b
  bracket_declared [] h = All-nil (AssignmentDeclared names)
  bracket_declared (a ∷ rest) h =
      let behind = All-tail IsScalar a.target (reads a.expr ++ bracket_scalars rest) h in
      All-cons (AssignmentDeclared names) a rest
      (All-head IsScalar a.target (reads a.expr ++ bracket_scalars rest) h, expr_declared names a.expr (All-front IsScalar (reads a.expr) (bracket_scalars rest) behind))
      (bracket_declared rest (All-behind IsScalar (reads a.expr) (bracket_scalars rest) behind))

  pub stmt_declared : (s : Stmt) → IsStmt names s → StmtDeclared names s
  stmt_declared s h = (
    act_declared (out-Act (out-Stmt s).act) (All-front IsScalar (outside s) (bracket_scalars (out-Stmt s).aux) h.scalars) h.locations,
    bracket_declared (out-Stmt s).aux (All-behind IsScalar (outside s) (bracket_scalars (out-Stmt s).aux) h.scalars),
  )

  pub block_declared : (b : Block) → All (IsStmt names) (statements b) → BlockDeclared names b
  unfolding BlockDeclared
  block_declared done h = tt
  block_declared (node s a b rest) h =
      let within = statements a in
      let second = statements b in
      let behind = statements rest in
      let inner = All-tail (IsStmt names) s (within ++ (second ++ behind)) h in
      let others = All-behind (IsStmt names) within (second ++ behind) inner in
      (stmt_declared s (All-head (IsStmt names) s (within ++ (second ++ behind)) h), block_declared a (All-front (IsStmt names) within (second ++ behind) inner), block_declared b (All-front (IsStmt names) second behind others), block_declared rest (All-behind (IsStmt names) second behind others))
