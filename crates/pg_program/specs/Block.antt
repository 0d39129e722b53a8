-- Blocks of statements, by their nesting.
use Rattle.std.specs.Prelude.{◌≡◌, List, [], ◌∷◌}
use Rattle.pg_program.specs.declared.syntax.Stmt.{Stmt, out-Stmt, roll-Stmt, fold-Stmt}
use Rattle.pg_program.specs.declared.syntax.Act.{Act, out-Act, roll-Act}
use Rattle.pg_program.specs.declared.syntax.Act.TheOpen.{Act-F, Stmt-F, If, While}
use Rattle.pg_program.specs.declared.syntax.Act.TheFolds.{map-Act, map-Stmt}

-- A block is empty, or has a statement first: then come that statement's own two blocks, and the rest of the block.
-- The two blocks of an `if` are its yes and its no block, those of a `while` are its body and an empty one, and those
-- of any other statement are empty.
pub data Block : Type 0 where
  done : Block
  node : Stmt → Block → Block → Block → Block

-- the first and the second list of statements within a statement's act
abbrev pub first_in : {A S : Type 0} → Act-F A S → List S
first_in (If test a b) = a
first_in (While test a) = a
first_in _ = []

abbrev pub second_in : {A S : Type 0} → Act-F A S → List S
second_in (If test a b) = b
second_in _ = []

-- the first and the second list of statements within a statement
abbrev pub first_list : Stmt → List Stmt
first_list s = first_in (out-Act (out-Stmt s).act)

abbrev pub second_list : Stmt → List Stmt
second_list s = second_in (out-Act (out-Stmt s).act)

-- A recursion on the nesting: each act, and each statement, beside its two blocks.
abbrev pub ActBlocks : Type 0
ActBlocks = Act × (Block × Block)

abbrev pub StmtBlocks : Type 0
StmtBlocks = Stmt × (Block × Block)

abbrev pub joined : List StmtBlocks → Block
joined [] = done
joined (s ∷ ss) = node s.0 s.1.0 s.1.1 (joined ss)

abbrev pub act_step : Act-F ActBlocks StmtBlocks → ActBlocks
act_step a = (roll-Act (map-Act ActBlocks StmtBlocks Act Stmt (λ e. e.0) (λ e. e.0) a), (joined (first_in a), joined (second_in a)))

abbrev pub stmt_step : Stmt-F ActBlocks StmtBlocks → StmtBlocks
stmt_step s = (roll-Stmt (map-Stmt ActBlocks StmtBlocks Act Stmt (λ e. e.0) (λ e. e.0) s), s.act.1)

abbrev pub blocks_of : Stmt → Block × Block
blocks_of s = (fold-Stmt ActBlocks StmtBlocks act_step stmt_step s).1

-- the block of these statements
abbrev pub block : List Stmt → Block
block [] = done
block (s ∷ ss) = node s (blocks_of s).0 (blocks_of s).1 (block ss)

-- a block that is not empty is its first statement, the blocks of the two lists within it, and the block of the others
abbrev pub BlocksNest : Type 0
BlocksNest = (s : Stmt) (ss : List Stmt) → block (s ∷ ss) ≡ node s (block (first_list s)) (block (second_list s)) (block ss)
