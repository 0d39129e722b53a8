-- What the printer's loops and calls need of the spelling of blocks.
use Rattle.std.proofs.Common.{◌≡◌, ℕ, zero, suc, ◌+◌, ◌-◌, ◌<◌, ◌≤◌, List, [], ◌∷◌, ◌++◌, length, drop, get_or, refl, sym, ap, ◌∙◌, subst, arith, append_assoc}
use Rattle.std.specs.Prelude.{codes}
use Rattle.std.specs.List.{All}
use Rattle.std.proofs.lemmas.List.{drop_more, drop-drop}
use Rattle.std.proofs.lemmas.List.Elements.{All-tail}
use Rattle.pg_program.specs.declared.syntax.AuxAssign.{AuxAssign}
use Rattle.pg_program.specs.declared.syntax.Stmt.{Stmt}
use Rattle.pg_program.specs.NameTable.{NameTable}
use Rattle.pg_program.specs.Block.{Block, node, block, first_list, second_list}
use Rattle.pg_program.specs.Graph.{size}
use Rattle.pg_program.proofs.BlockLemmas.{block-nests}
use Rattle.pg_assertion.specs.declared.atom.ViewAtom.{ViewAtom}
use Rattle.pg_assertion.specs.Formula.{Plain}
use Rattle.pg_program_text.specs.Spelling.{spell_assignment, further, indent, line, note_line, stmt_line, else_line, last_line, stmt_lines, spell_block}
use Rattle.pg_program_text.specs.DeclaredNames.{StmtDeclared, BlockDeclared}

-- one more brace
pub indent_turn : (depth i : ℕ) → i < depth → indent (depth - i) ≡ codes "  " ++ indent (depth - (i + 1))
indent_turn depth i h = ap indent (let q : depth - i ≡ suc (depth - (i + 1)) = omega arith in q)

-- one more assignment of a bracket, behind its comma
pub further_turn : (names : NameTable) (assigns : List AuxAssign) (i : ℕ) (a : AuxAssign) → i < length assigns → a ≡ get_or assigns i a
    → (into behind next whole : List ℕ) → behind ≡ into ++ codes ", " → next ≡ behind ++ spell_assignment names a → into ++ further names (drop i assigns) ≡ whole
    → next ++ further names (drop (i + 1) assigns) ≡ whole
further_turn names assigns i a below is into behind next whole behind_is next_is invariant =
    let one = spell_assignment names a in
    let left = further names (drop (i + 1) assigns) in
    let turn : further names (drop i assigns) ≡ codes ", " ++ (one ++ left) =
    ap (further names) (drop_more assigns i a below ∙ ap (λ (b : AuxAssign). b ∷ drop (i + 1) assigns) (sym is))
    in
    ap (λ (t : List ℕ). t ++ left) (next_is ∙ ap (λ (t : List ℕ). t ++ one) behind_is ∙ append_assoc into (codes ", ") one)
    ∙ append_assoc into (codes ", " ++ one) left
    ∙ ap (λ (t : List ℕ). into ++ t) (append_assoc (codes ", ") one left ∙ sym turn)
    ∙ invariant

-- where the second block is not empty
pub else_some : (depth : ℕ) (ss : List Stmt) → 1 ≤ length ss → else_line depth (block ss) ≡ line depth (codes "} else {")
else_some depth [] h = absurd (omega arith)
else_some depth (s ∷ ss) h = refl

pub all_drop : {X : Type 0} (P : X → Type 0) (n : ℕ) (xs : List X) → All P xs → All P (drop n xs)
all_drop P zero xs h = h
all_drop P (suc n) [] h = h
all_drop P (suc n) (x ∷ xs) h = all_drop P n xs (All-tail P x xs h)

moved : (x y g t : List ℕ) → t ≡ y ++ g → x ++ t ≡ (x ++ y) ++ g
moved x y g t h = ap (λ (t : List ℕ). x ++ t) h ∙ sym (append_assoc x y g)

drops : {X : Type 0} (a b c : ℕ) (xs : List X) → drop (1 + (a + (b + c))) xs ≡ drop c (drop b (drop a (drop 1 xs)))
drops a b c xs =
    let sum : 1 + (a + (b + c)) ≡ 1 + a + b + c = omega arith in
    ap (λ (n : ℕ). drop n xs) sum
    ∙ sym (ap (λ t. drop c (drop b t)) (drop-drop a 1 xs) ∙ ap (drop c) (drop-drop b (1 + a) xs) ∙ drop-drop c (1 + a + b) xs)

-- what is left of a block begins with this statement
module _ (ss : List Stmt) (i : ℕ) (s : Stmt) (below : i < length ss) (is : s ≡ get_or ss i s) where
  pub block_turn : block (drop i ss) ≡ node s (block (first_list s)) (block (second_list s)) (block (drop (i + 1) ss))
  block_turn = ap block (drop_more ss i s below ∙ ap (λ (t : Stmt). t ∷ drop (i + 1) ss) (sym is)) ∙ block-nests s (drop (i + 1) ss)

  pub size_turn : size (block (drop i ss)) ≡ 1 + (size (block (first_list s)) + (size (block (second_list s)) + size (block (drop (i + 1) ss))))
  size_turn = ap size block_turn

  pub notes_turn : {X : Type 0} (xs : List X)
      → drop (size (block (drop i ss))) xs ≡ drop (size (block (drop (i + 1) ss))) (drop (size (block (second_list s))) (drop (size (block (first_list s))) (drop 1 xs)))
  notes_turn xs = ap (λ (n : ℕ). drop n xs) size_turn ∙ drops (size (block (first_list s))) (size (block (second_list s))) (size (block (drop (i + 1) ss))) xs

  pub text_turn : (names : NameTable) (depth : ℕ) (notes : List (Plain ViewAtom))
      → spell_block names depth (block (drop i ss)) notes
      ≡ stmt_lines names depth s (block (first_list s)) (block (second_list s)) notes
      ++ spell_block names depth (block (drop (i + 1) ss)) (drop (size (block (second_list s))) (drop (size (block (first_list s))) (drop 1 notes)))
  unfolding spell_block
  text_turn names depth notes =
      let first = block (first_list s) in
      let second = block (second_list s) in
      let behind = spell_block names depth (block (drop (i + 1) ss)) (drop (size second) (drop (size first) (drop 1 notes))) in
      ap (λ (b : Block). spell_block names depth b notes) block_turn
      ∙ moved (note_line names depth notes) _ behind _
      (moved (stmt_line names depth s) _ behind _
      (moved (spell_block names (depth + 1) first (drop 1 notes)) _ behind _
      (moved (else_line depth second) _ behind _ (sym (append_assoc (spell_block names (depth + 1) second (drop (size first) (drop 1 notes))) (last_line depth s) behind)))))

  pub declared_turn : (names : NameTable) → BlockDeclared names (block (drop i ss))
      → StmtDeclared names s × BlockDeclared names (block (first_list s)) × BlockDeclared names (block (second_list s)) × BlockDeclared names (block (drop (i + 1) ss))
  unfolding BlockDeclared
  declared_turn names h = subst (BlockDeclared names) block_turn h
