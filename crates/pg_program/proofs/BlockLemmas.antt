-- A block's recursion goes by its statements.
use Rattle.std.proofs.Common.{◌≡◌, List, [], ◌∷◌, map, ap, ap₂, subst, ◌∙◌, refl, sym}
use Rattle.pg_program.specs.declared.syntax.Stmt.{Stmt, out-Stmt, fold-Stmt}
use Rattle.pg_program.specs.declared.syntax.Act.{Act, out-Act, fold-Act, roll-Act}
use Rattle.pg_program.specs.declared.syntax.Act.TheOpen.{Act-F, Stmt-F, Assign, Store, Load, Cas, Mfence, Sfence, Flush, Flushopt, If, While}
use Rattle.pg_program.specs.declared.syntax.Act.TheFolds.{map-Act, ind-Stmt, fold-roll-Act, fold-roll-Stmt, fold_out-Act, fold_out-Stmt}
use Rattle.pg_program.specs.Block.{Block, node, BlocksNest, ActBlocks, StmtBlocks, act_step, stmt_step, joined, blocks_of, block, first_in, second_in, first_list, second_list}

abbrev act_of : Act → ActBlocks
act_of = fold-Act ActBlocks StmtBlocks act_step stmt_step

abbrev stmt_of : Stmt → StmtBlocks
stmt_of = fold-Stmt ActBlocks StmtBlocks act_step stmt_step

abbrev KeepsAct : Act → Type 0
KeepsAct a = (act_of a).0 ≡ a

abbrev KeepsStmt : Stmt → Type 0
KeepsStmt s = (stmt_of s).0 ≡ s

abbrev KeptAct : Type 0
KeptAct = (a : Act) × KeepsAct a

abbrev KeptStmt : Type 0
KeptStmt = (s : Stmt) × KeepsStmt s

-- the recursion gives each statement back
kept_list : (es : List KeptStmt) → map (λ (e : StmtBlocks). e.0) (map stmt_of (map (λ (e : KeptStmt). e.0) es)) ≡ map (λ (e : KeptStmt). e.0) es
kept_list [] = refl
kept_list (e ∷ es) = ap₂ (λ (s : Stmt) (l : List Stmt). s ∷ l) e.1 (kept_list es)

kept_layer : (y : Act-F KeptAct KeptStmt)
    → map-Act ActBlocks StmtBlocks Act Stmt (λ e. e.0) (λ e. e.0) (map-Act Act Stmt ActBlocks StmtBlocks act_of stmt_of (map-Act KeptAct KeptStmt Act Stmt (λ e. e.0) (λ e. e.0) y))
    ≡ map-Act KeptAct KeptStmt Act Stmt (λ e. e.0) (λ e. e.0) y
kept_layer (Assign t e) = refl
kept_layer (Store x e) = refl
kept_layer (Load t x) = refl
kept_layer (Cas t x e d) = refl
kept_layer Mfence = refl
kept_layer Sfence = refl
kept_layer (Flush x) = refl
kept_layer (Flushopt x) = refl
kept_layer (If test a b) = ap₂ (λ (l m : List Stmt). If test l m) (kept_list a) (kept_list b)
kept_layer (While test a) = ap (λ (l : List Stmt). While test l) (kept_list a)

keeps_stmt : (s : Stmt) → KeepsStmt s
keeps_stmt = ind-Stmt KeepsAct KeepsStmt
    (λ x y is.
    ap (λ (e : ActBlocks). e.0) (fold-roll-Act ActBlocks StmtBlocks act_step stmt_step x)
    ∙ ap roll-Act (subst (λ (z : Act-F Act Stmt). map-Act ActBlocks StmtBlocks Act Stmt (λ e. e.0) (λ e. e.0) (map-Act Act Stmt ActBlocks StmtBlocks act_of stmt_of z) ≡ z) is (kept_layer y)))
    (λ x y is.
    ap (λ (e : StmtBlocks). e.0) (fold-roll-Stmt ActBlocks StmtBlocks act_step stmt_step x)
    ∙ subst (λ (z : Stmt-F Act Stmt). let w : Stmt = record { act = (act_of z.act).0; aux = z.aux } in w ≡ record { act = z.act; aux = z.aux }) is
    (ap (λ (a : Act). let w : Stmt = record { act = a; aux = y.aux } in w) y.act.1))

-- the blocks of a list's statements, joined, are its block
joined_block : (ss : List Stmt) → joined (map stmt_of ss) ≡ block ss
joined_block [] = refl
joined_block (s ∷ ss) = ap₂ (λ (t : Stmt) (b : Block). node t (blocks_of s).0 (blocks_of s).1 b) (keeps_stmt s) (joined_block ss)

first_block : (a : Act-F Act Stmt) → joined (first_in (map-Act Act Stmt ActBlocks StmtBlocks act_of stmt_of a)) ≡ block (first_in a)
first_block (Assign t e) = refl
first_block (Store x e) = refl
first_block (Load t x) = refl
first_block (Cas t x e d) = refl
first_block Mfence = refl
first_block Sfence = refl
first_block (Flush x) = refl
first_block (Flushopt x) = refl
first_block (If test a b) = joined_block a
first_block (While test a) = joined_block a

second_block : (a : Act-F Act Stmt) → joined (second_in (map-Act Act Stmt ActBlocks StmtBlocks act_of stmt_of a)) ≡ block (second_in a)
second_block (Assign t e) = refl
second_block (Store x e) = refl
second_block (Load t x) = refl
second_block (Cas t x e d) = refl
second_block Mfence = refl
second_block Sfence = refl
second_block (Flush x) = refl
second_block (Flushopt x) = refl
second_block (If test a b) = joined_block b
second_block (While test a) = refl

pub blocks-are : (s : Stmt) → blocks_of s ≡ (block (first_list s), block (second_list s))
blocks-are s =
    let opened = out-Act (out-Stmt s).act in
    ap (λ (e : StmtBlocks). e.1) (fold_out-Stmt ActBlocks StmtBlocks act_step stmt_step s)
    ∙ (ap (λ (e : ActBlocks). e.1) (fold_out-Act ActBlocks StmtBlocks act_step stmt_step (out-Stmt s).act)
    ∙ ap₂ (λ (a b : Block). let w : Block × Block = (a, b) in w) (first_block opened) (second_block opened))

pub block-nests : BlocksNest
block-nests s ss = ap (λ (w : Block × Block). node s w.0 w.1 (block ss)) (blocks-are s)

-- the same, as the code finds the parts
pub split-block : (ss a b rest : List Stmt) (s : Stmt) → ss ≡ s ∷ rest → a ≡ first_list s → b ≡ second_list s → block ss ≡ node s (block a) (block b) (block rest)
split-block ss a b rest s is first second =
    ap block is ∙ (block-nests s rest ∙ ap₂ (λ (l m : List Stmt). node s (block l) (block m) (block rest)) (sym first) (sym second))
