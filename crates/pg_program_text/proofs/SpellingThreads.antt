-- What the lines of a thread are spelled with stands for its statements and notes.
use Rattle.pg_program_text.specs.Limits.{text_limits}
use Rattle.std.proofs.Common.{◌≡◌, ℕ, zero, suc, ◌+◌, ◌≤◌, true, false, max, List, [], ◌∷◌, ◌++◌, length, take, drop, map, refl, sym, ap, subst, ◌∙◌, arith, append_assoc}
use Rattle.std.specs.Prelude.{codes, if◌then◌else◌}
use Rattle.std.specs.List.{All}
use Rattle.std.proofs.lemmas.List.{append-nil, map-append, length-drop}
use Rattle.std.proofs.lemmas.List.Elements.{All-head, All-tail}
use Rattle.pg_lex.specs.declared.token.Sign.TheVariants as s
use Rattle.pg_lex.specs.Lex.{Cursor}
use Rattle.pg_program.specs.NameTable.{NameTable, IsNameTable}
use Rattle.pg_program.specs.declared.syntax.Cond.{Cond}
use Rattle.pg_program.specs.declared.syntax.AuxAssign.{AuxAssign}
use Rattle.pg_program.specs.declared.syntax.Stmt.{Stmt, out-Stmt, roll-Stmt}
use Rattle.pg_program.specs.declared.syntax.Act.{Act, out-Act, roll-Act, roll-out-Act}
use Rattle.pg_program.specs.declared.syntax.Act.TheOpen.{Act-F, Assign, Store, Load, Cas, Mfence, Sfence, Flush, Flushopt, If, While}
use Rattle.pg_program.specs.declared.syntax.Act.TheVariants as act
use Rattle.pg_program.specs.Block.{Block, node, block, first_in, second_in, first_list, second_list}
use Rattle.pg_program.specs.Graph.{size, statements, is_test_in}
use Rattle.pg_program.proofs.BlockLemmas.{block-nests}
use Rattle.pg_program.proofs.ExprLemmas.{All-front, All-behind}
use Rattle.pg_assertion.specs.declared.atom.ViewAtom.{ViewAtom}
use Rattle.pg_assertion.specs.declared.atom.RawAtom.{RawAtom}
use Rattle.pg_assertion.specs.Formula.{Plain, with_atoms}
use Rattle.pg_assertion_text.specs.Words.{Stands, sign, word}
use Rattle.pg_assertion_text.specs.Spelling.{AreNames}
use Rattle.pg_assertion.specs.Atom.{raw_of}
use Rattle.pg_assertion_text.specs.SpellingLaws as formula_laws
use Rattle.pg_assertion_text.specs.SpellingLaws.{cursor}
use Rattle.pg_assertion_text.specs.ReadAgain.{IsWhole}
use Rattle.pg_assertion_text.proofs.SpellingTokens.{Then, joined, blank, mapped, here}
use Rattle.pg_program_text.specs.declared.keyword.Keyword.TheVariants as k
use Rattle.pg_program_text.specs.Limits.{most_open_blocks, most_assignments}
use Rattle.pg_program_text.specs.Keywords.{spelling}
use Rattle.pg_program_text.specs.Thread.{bare}
use Rattle.pg_program_text.specs.Grammar.{IsNote, IsTest, stmt, lines, IsPart, a_simple, an_if, a_while, an_else, no_else, in_braces, no_lines, a_line, IsBody, last_note, body_line}
use Rattle.pg_program_text.specs.Spelling.{spell_act, spell_bracket, spell_test, line, note_line, stmt_line, else_line, last_line, spell_block, spell_thread}
use Rattle.pg_program_text.specs.SpellingLaws.{WholeTest, WholeAct, WholeAssignment, WholeStmt, WholeThread, ThreadsStand}
use Rattle.pg_program_text.specs.Measures.{nesting}
use Rattle.pg_program_text.proofs.Spelling.{all_drop}
use Rattle.pg_program_text.proofs.SpellingSigns.{open_brace_stands, close_brace_stands, if_stands, else_stands, while_stands}
use Rattle.pg_program_text.proofs.SpellingLines.{Written, empty, followed, changed, lined}
use Rattle.pg_program_text.proofs.SpellingStmts.{note_spells, test_spells, act_spells, ending_spells, ending_ends}

abbrev Notes : Type 0
Notes = List (Plain ViewAtom)

-- the notes as a text has them
abbrev raws : Notes → List (Plain RawAtom)
raws fs = map (with_atoms raw_of) fs

take_nil : {X : Type 0} (n : ℕ) → take {A = X} n [] ≡ []
take_nil zero = refl
take_nil (suc n) = refl

take_both : {X : Type 0} (m n : ℕ) (xs : List X) → take (m + n) xs ≡ take m xs ++ take n (drop m xs)
take_both zero n xs = ap (λ (k : ℕ). take k xs) (let q : 0 + n ≡ n = omega arith in q)
take_both (suc m) n [] = take_nil (suc m + n) ∙ sym (take_nil n)
take_both (suc m) n (x ∷ xs) =
    let q : suc m + n ≡ suc (m + n) = omega arith in
    ap (λ (k : ℕ). take k (x ∷ xs)) q ∙ ap (λ t. x ∷ t) (take_both m n xs)

module _ (names : NameTable) (table : IsNameTable names) (are : AreNames names) where
  abbrev WholeNote : Plain ViewAtom → Type 0
  WholeNote f = IsWhole formula_laws.IsWritable names f

  -- from one place to another there stand lines, or a statement
  abbrev LinesAt : ℕ → List Stmt → List (Plain RawAtom) → Cursor → Cursor → Type 0
  LinesAt n ss ns from to = IsPart text_limits names lines n from ss ns to

  abbrev StmtAt : ℕ → Stmt → List (Plain RawAtom) → Cursor → Cursor → Type 0
  StmtAt n s ns from to = IsPart text_limits names stmt n from (s ∷ []) ns to

  abbrev stmt_of : Act-F Act Stmt → List AuxAssign → Stmt
  stmt_of x aux = roll-Stmt (record { act = roll-Act x; aux = aux })

  simple_written : (x : Act-F Act Stmt) (aux : List AuxAssign) (n depth : ℕ) → is_test_in x ≡ false → WholeAct names x → All (WholeAssignment names) aux → length aux ≤ most_assignments
      → Written (StmtAt n (stmt_of x aux) []) (line depth (spell_act names x ++ (spell_bracket names aux ++ codes ";")))
  simple_written x aux n depth plain w assigned few =
      lined depth
      (mapped (joined (act_spells names table are x w plain) (ending_spells names table are aux assigned few) (λ more ok. ending_ends names table are aux more))
      (λ from to way. a_simple n (roll-Act x) aux from way.0 way.2.0 to way.1 way.2.1 way.2.2))
      (λ more. tt)

  -- the same, where two empty blocks follow
  alone : {X : Cursor → Cursor → Type 0} {w : List ℕ} → Written X w → Written X (w ++ [])
  alone {X} {w} a = subst (Written X) (sym (append-nil w)) a

  close_line : (depth : ℕ) → Written (Stands names (sign s.CloseBrace)) (line depth (codes "}"))
  close_line depth = lined depth (close_brace_stands names) (λ more. tt)

  else_written : (depth : ℕ) → Written (Then (Stands names (sign s.CloseBrace)) (Then (Stands names (word (spelling k.Else))) (Stands names (sign s.OpenBrace)))) (line depth (codes "} else {"))
  else_written depth =
      lined depth (joined (close_brace_stands names) (blank (joined (else_stands names) (blank (open_brace_stands names)) (λ more ok. refl))) (λ more ok. tt)) (λ more. tt)

  if_line : (c : Cond) (depth : ℕ) → WholeTest names c
      → Written (Then (Then (Stands names (word (spelling k.If))) (λ from to. IsTest text_limits names from c to)) (Stands names (sign s.OpenBrace))) (line depth ((codes "if " ++ spell_test names c) ++ codes " {"))
  if_line c depth w =
      lined depth
      (joined (joined (if_stands names) (blank (test_spells names table are c w)) (λ more ok. refl)) (blank (open_brace_stands names)) (λ more ok. refl))
      (λ more. tt)

  while_line : (c : Cond) (depth : ℕ) → WholeTest names c
      → Written (Then (Then (Stands names (word (spelling k.While))) (λ from to. IsTest text_limits names from c to)) (Stands names (sign s.OpenBrace))) (line depth ((codes "while " ++ spell_test names c) ++ codes " {"))
  while_line c depth w =
      lined depth
      (joined (joined (while_stands names) (blank (test_spells names table are c w)) (λ more ok. refl)) (blank (open_brace_stands names)) (λ more ok. refl))
      (λ more. tt)

  if_alone : (c : Cond) (ones : List Stmt) (n depth : ℕ) (ns : List (Plain RawAtom)) (w : List ℕ) → WholeTest names c → Written (LinesAt n ones ns) w
      → Written (StmtAt (suc n) (stmt_of (If c ones []) []) (ns ++ [])) (line depth ((codes "if " ++ spell_test names c) ++ codes " {") ++ (w ++ line depth (codes "}")))
  if_alone c ones n depth ns w whole inner =
      changed (followed (if_line c depth whole) (followed inner (close_line depth)))
      (λ from to way.
      subst (λ (a : Act). IsPart text_limits names stmt (suc n) from (roll-Stmt (record { act = a; aux = [] }) ∷ []) (ns ++ []) to) (sym (act.rolls-If c ones []))
      (an_if (suc n) c ones [] ns [] from way.1.1.0 way.1.0 to to way.1.1.1 way.1.1.2 (in_braces n ones ns way.1.0 way.0 way.2.0 to way.1.2 way.2.1 way.2.2) (no_else (suc n) to)))

  if_both : (c : Cond) (ones twos : List Stmt) (n depth : ℕ) (ns ms : List (Plain RawAtom)) (w v : List ℕ) → WholeTest names c → Written (LinesAt n ones ns) w → Written (LinesAt n twos ms) v
      → Written (StmtAt (suc n) (stmt_of (If c ones twos) []) (ns ++ ms)) (line depth ((codes "if " ++ spell_test names c) ++ codes " {") ++ (w ++ (line depth (codes "} else {") ++ (v ++ line depth (codes "}")))))
  if_both c ones twos n depth ns ms w v whole inner others =
      changed (followed (if_line c depth whole) (followed inner (followed (else_written depth) (followed others (close_line depth)))))
      (λ from to way.
      let head = way.1 in
      let a = way.2 in
      let b = a.2 in
      let mid = b.1 in
      let d = b.2 in
      subst (λ (a : Act). IsPart text_limits names stmt (suc n) from (roll-Stmt (record { act = a; aux = [] }) ∷ []) (ns ++ ms) to) (sym (act.rolls-If c ones twos))
      (an_if (suc n) c ones twos ns ms from head.1.0 head.0 mid.0 to head.1.1 head.1.2 (in_braces n ones ns head.0 way.0 a.0 mid.0 head.2 a.1 mid.1)
      (an_else (suc n) twos ms mid.0 mid.2.0 to mid.2.1 (in_braces n twos ms mid.2.0 b.0 d.0 to mid.2.2 d.1 d.2))))

  while_written : (c : Cond) (body : List Stmt) (n depth : ℕ) (ns : List (Plain RawAtom)) (w : List ℕ) → WholeTest names c → Written (LinesAt n body ns) w
      → Written (StmtAt (suc n) (stmt_of (While c body) []) (ns ++ [])) (line depth ((codes "while " ++ spell_test names c) ++ codes " {") ++ (w ++ line depth (codes "}")))
  while_written c body n depth ns w whole inner =
      changed (followed (while_line c depth whole) (followed inner (close_line depth)))
      (λ from to way.
      subst (λ (ms : List (Plain RawAtom)). IsPart text_limits names stmt (suc n) from (stmt_of (While c body) [] ∷ []) ms to) (sym (append-nil ns))
      (subst (λ (a : Act). IsPart text_limits names stmt (suc n) from (roll-Stmt (record { act = a; aux = [] }) ∷ []) ns to) (sym (act.rolls-While c body))
      (a_while (suc n) c body ns from way.1.1.0 way.1.0 to way.1.1.1 way.1.1.2 (in_braces n body ns way.1.0 way.0 way.2.0 to way.1.2 way.2.1 way.2.2))))

  -- ---- a statement with its blocks

  stmt_written : (x : Act-F Act Stmt) (aux : List AuxAssign) (n depth : ℕ) (fs : Notes)
      → ((m : ℕ) → nesting (block (first_in x)) ≤ m → Written (LinesAt m (first_in x) (raws (take (size (block (first_in x))) fs))) (spell_block names (depth + 1) (block (first_in x)) fs))
      → ((m : ℕ) → nesting (block (second_in x)) ≤ m
      → Written (LinesAt m (second_in x) (raws (take (size (block (second_in x))) (drop (size (block (first_in x))) fs)))) (spell_block names (depth + 1) (block (second_in x)) (drop (size (block (first_in x))) fs)))
      → (if is_test_in x then 1 + max (nesting (block (first_in x))) (nesting (block (second_in x))) else 0) ≤ n
      → WholeAct names x → All (WholeAssignment names) aux → length aux ≤ most_assignments → (is_test_in x ≡ true → aux ≡ [])
      → Written (StmtAt n (stmt_of x aux) (raws (take (size (block (first_in x))) fs) ++ raws (take (size (block (second_in x))) (drop (size (block (first_in x))) fs))))
      (line depth (spell_act names x ++ (if is_test_in x then codes " {" else spell_bracket names aux ++ codes ";"))
      ++ (spell_block names (depth + 1) (block (first_in x)) fs
      ++ (else_line depth (block (second_in x))
      ++ (spell_block names (depth + 1) (block (second_in x)) (drop (size (block (first_in x))) fs)
      ++ (if is_test_in x then line depth (codes "}") else [])))))
  unfolding spell_block
  stmt_written (Assign r e) aux n depth fs one two low w assigned few bare = alone (simple_written (Assign r e) aux n depth refl w assigned few)
  stmt_written (Store y e) aux n depth fs one two low w assigned few bare = alone (simple_written (Store y e) aux n depth refl w assigned few)
  stmt_written (Load r y) aux n depth fs one two low w assigned few bare = alone (simple_written (Load r y) aux n depth refl w assigned few)
  stmt_written (Cas r y e d) aux n depth fs one two low w assigned few bare = alone (simple_written (Cas r y e d) aux n depth refl w assigned few)
  stmt_written Mfence aux n depth fs one two low w assigned few bare = alone (simple_written Mfence aux n depth refl w assigned few)
  stmt_written Sfence aux n depth fs one two low w assigned few bare = alone (simple_written Sfence aux n depth refl w assigned few)
  stmt_written (Flush y) aux n depth fs one two low w assigned few bare = alone (simple_written (Flush y) aux n depth refl w assigned few)
  stmt_written (Flushopt y) aux n depth fs one two low w assigned few bare = alone (simple_written (Flushopt y) aux n depth refl w assigned few)
  stmt_written (If c a b) aux zero depth fs one two low w assigned few bare = absurd (omega arith)
  stmt_written (If c a []) aux (suc n) depth fs one two low w assigned few bare =
      let inner = raws (take (size (block a)) fs) in
      let text = spell_block names (depth + 1) (block a) fs in
      subst (λ (bracket : List AuxAssign). Written (StmtAt (suc n) (stmt_of (If c a []) bracket) (inner ++ [])) (line depth ((codes "if " ++ spell_test names c) ++ codes " {") ++ (text ++ line depth (codes "}")))) (sym (bare refl))
      (if_alone c a n depth inner text w (one n (omega arith)))
  stmt_written (If c a (t ∷ ts)) aux (suc n) depth fs one two low w assigned few bare =
      let inner = raws (take (size (block a)) fs) in
      let others = raws (take (size (block (t ∷ ts))) (drop (size (block a)) fs)) in
      let text = spell_block names (depth + 1) (block a) fs in
      let behind = spell_block names (depth + 1) (block (t ∷ ts)) (drop (size (block a)) fs) in
      subst (λ (bracket : List AuxAssign). Written (StmtAt (suc n) (stmt_of (If c a (t ∷ ts)) bracket) (inner ++ others)) (line depth ((codes "if " ++ spell_test names c) ++ codes " {") ++ (text ++ (line depth (codes "} else {") ++ (behind ++ line depth (codes "}")))))) (sym (bare refl))
      (if_both c a (t ∷ ts) n depth inner others text behind w (one n (omega arith)) (two n (omega arith)))
  stmt_written (While c a) aux zero depth fs one two low w assigned few bare = absurd (omega arith)
  stmt_written (While c a) aux (suc n) depth fs one two low w assigned few bare =
      let inner = raws (take (size (block a)) fs) in
      let text = spell_block names (depth + 1) (block a) fs in
      subst (λ (bracket : List AuxAssign). Written (StmtAt (suc n) (stmt_of (While c a) bracket) (inner ++ [])) (line depth ((codes "while " ++ spell_test names c) ++ codes " {") ++ (text ++ line depth (codes "}")))) (sym (bare refl))
      (while_written c a n depth inner text w (one n (omega arith)))

  -- ---- lines

  assoc : (a b c d e g : List ℕ) → (a ++ (b ++ (c ++ (d ++ e)))) ++ g ≡ a ++ (b ++ (c ++ (d ++ (e ++ g))))
  assoc a b c d e g =
      append_assoc a (b ++ (c ++ (d ++ e))) g
      ∙ ap (λ (t : List ℕ). a ++ t) (append_assoc b (c ++ (d ++ e)) g ∙ ap (λ (t : List ℕ). b ++ t) (append_assoc c (d ++ e) g ∙ ap (λ (t : List ℕ). c ++ t) (append_assoc d e g)))

  -- the notes within a statement, and those after it
  notes_are : (a b c : ℕ) (f : Plain ViewAtom) (fs : Notes)
      → with_atoms raw_of f ∷ ((raws (take a fs) ++ raws (take b (drop a fs))) ++ raws (take c (drop b (drop a fs)))) ≡ raws (take (1 + (a + (b + c))) (f ∷ fs))
  notes_are a b c f fs =
      let one : 1 + (a + (b + c)) ≡ suc (a + (b + c)) = omega arith in
      let within = take a fs in
      let second = take b (drop a fs) in
      let behind = take c (drop b (drop a fs)) in
      let split : take (a + (b + c)) fs ≡ within ++ (second ++ behind) = take_both a (b + c) fs ∙ ap (λ (t : Notes). within ++ t) (take_both b c (drop a fs)) in
      sym
      (ap (λ (k : ℕ). raws (take k (f ∷ fs))) one
      ∙ ap (λ (t : List (Plain RawAtom)). with_atoms raw_of f ∷ t)
      (ap raws split
      ∙ map-append (with_atoms raw_of) within (second ++ behind)
      ∙ ap (λ (t : List (Plain RawAtom)). raws within ++ t) (map-append (with_atoms raw_of) second behind)
      ∙ sym (append_assoc (raws within) (raws second) (raws behind))))

  -- what is shown of the lines of fewer statements
  abbrev Below : ℕ → Type 0
  Below k =
      (ss : List Stmt) (n depth : ℕ) (fs : Notes) → size (block ss) ≤ k → All (WholeStmt names) (statements (block ss)) → nesting (block ss) ≤ n
      → size (block ss) ≤ length fs → All WholeNote fs → Written (LinesAt n ss (raws (take (size (block ss)) fs))) (spell_block names depth (block ss) fs)

  abbrev LineOf : Stmt → List Stmt → Block
  LineOf s ss = node s (block (first_list s)) (block (second_list s)) (block ss)

  node_written : (k : ℕ) → Below k → (s : Stmt) (ss : List Stmt) (n depth : ℕ) (fs : Notes) → size (LineOf s ss) ≤ suc k → All (WholeStmt names) (statements (LineOf s ss))
      → nesting (LineOf s ss) ≤ n → size (LineOf s ss) ≤ length fs → All WholeNote fs
      → Written (LinesAt n (s ∷ ss) (raws (take (size (LineOf s ss)) fs))) (spell_block names depth (LineOf s ss) fs)
  unfolding spell_block nesting
  node_written k below s ss n depth [] small whole low enough are_notes = absurd (omega arith)
  node_written k below s ss n depth (f ∷ fs) small whole low enough are_notes =
      let x = out-Act (out-Stmt s).act in
      let aux = (out-Stmt s).aux in
      let a = block (first_list s) in
      let b = block (second_list s) in
      let r = block ss in
      let P = WholeStmt names in
      let w = All-head P s (statements a ++ (statements b ++ statements r)) whole in
      let inner = All-tail P s (statements a ++ (statements b ++ statements r)) whole in
      let others = All-behind P (statements a) (statements b ++ statements r) inner in
      let each = All-tail WholeNote f fs are_notes in
      let behind_first = drop (size a) fs in
      let behind = drop (size b) behind_first in
      let len_first = length-drop (size a) fs in
      let len_behind = length-drop (size b) behind_first in
      let ms = raws (take (size a) fs) ++ raws (take (size b) behind_first) in
      let A = spell_block names (depth + 1) a fs in
      let B = spell_block names (depth + 1) b behind_first in
      let R = spell_block names depth r behind in
      let text = stmt_line names depth s ++ (A ++ (else_line depth b ++ (B ++ last_line depth s))) in
      let of_x : Written (StmtAt n (stmt_of x aux) ms) text =
      stmt_written x aux n depth fs
      (λ m h. below (first_list s) m (depth + 1) fs (omega arith) (All-front P (statements a) (statements b ++ statements r) inner) h (omega arith) each)
      (λ m h. below (second_list s) m (depth + 1) behind_first (omega arith) (All-front P (statements b) (statements r) others) h (omega arith) (all_drop WholeNote (size a) fs each))
      (omega arith) w.act w.assignments w.few w.bare
      in
      let of_s : Written (StmtAt n s ms) text = subst (λ (y : Act). Written (StmtAt n (roll-Stmt (record { act = y; aux = aux })) ms) text) (roll-out-Act (out-Stmt s).act) of_x in
      let rest : Written (LinesAt n ss (raws (take (size r) behind))) R =
      below ss n depth behind (omega arith) (All-behind P (statements b) (statements r) others) (omega arith) (omega arith) (all_drop WholeNote (size b) behind_first (all_drop WholeNote (size a) fs each))
      in
      let note = lined depth (note_spells names table are f (All-head WholeNote f fs are_notes)) (λ more. tt) in
      let X = LinesAt n (s ∷ ss) (raws (take (size (LineOf s ss)) (f ∷ fs))) in
      let together : Written X (note_line names depth (f ∷ fs) ++ (text ++ R)) =
      changed (followed note (followed of_s rest))
      (λ from to way.
      subst (λ (ns : List (Plain RawAtom)). IsPart text_limits names lines n from (s ∷ ss) ns to) (notes_are (size a) (size b) (size r) f fs)
      (a_line n (with_atoms raw_of f) s ss ms (raws (take (size r) behind)) from way.0 way.2.0 to way.1 way.2.1 way.2.2))
      in
      subst (λ (t : List ℕ). Written X (note_line names depth (f ∷ fs) ++ t)) (assoc (stmt_line names depth s) A (else_line depth b) B (last_line depth s) R) together

  lines_written : (k : ℕ) → Below k
  unfolding spell_block
  lines_written k [] n depth fs small whole low enough are_notes = empty (λ from. no_lines n from)
  lines_written zero (s ∷ ss) n depth fs small whole low enough are_notes = absurd (let is = ap size (block-nests s ss) in omega arith)
  lines_written (suc k) (s ∷ ss) n depth fs small whole low enough are_notes =
      subst
      (λ (b : Block). size b ≤ suc k → All (WholeStmt names) (statements b) → nesting b ≤ n → size b ≤ length fs → Written (LinesAt n (s ∷ ss) (raws (take (size b) fs))) (spell_block names depth b fs))
      (sym (block-nests s ss)) (λ small whole low enough. node_written k (lines_written k) s ss n depth fs small whole low enough are_notes)
      small whole low enough

-- ---- threads

ended_body : {names : NameTable} {n : ℕ} {ss : List Stmt} {ns : List (Plain RawAtom)} {from mid : Cursor} (g : Plain RawAtom) (to : Cursor)
    → n ≡ most_open_blocks → IsPart text_limits names lines n from ss ns mid → IsNote text_limits names mid g to → IsBody text_limits names from ss (ns ++ g ∷ []) to
ended_body g to is (no_lines n from) last = last_note g from to last
ended_body {names} g to is (a_line n f a ss ms ns from mid end behind note part rest) last =
    subst (λ (fs : List (Plain RawAtom)). IsBody text_limits names from (a ∷ ss) (f ∷ fs) to) (sym (append_assoc ms ns (g ∷ [])))
    (body_line f a ss ms (ns ++ g ∷ []) from mid end to note (subst (λ (m : ℕ). IsPart text_limits names stmt m mid (a ∷ []) ms end) is part) (ended_body g to is rest last))

-- the last of the notes
record Last (n : ℕ) (fs : Notes) : Type 0 where
  note : Plain ViewAtom
  behind : drop n fs ≡ note ∷ []
  whole : fs ≡ take n fs ++ note ∷ []

last_of : (n : ℕ) (fs : Notes) → length fs ≡ n + 1 → Last n fs
last_of n [] h = absurd (omega arith)
last_of zero (f ∷ []) h = record { note = f; behind = refl; whole = refl }
last_of zero (f ∷ g ∷ fs) h = absurd (omega arith)
last_of (suc n) (f ∷ fs) h =
    let l = last_of n fs (omega arith) in
    record { note = l.note; behind = l.behind; whole = ap (λ (t : Notes). f ∷ t) l.whole }

-- the canonical text of a thread is its body, at each place that leads there
pub body_written : (names : NameTable) (ss : List Stmt) (notes : Notes) → WholeThread names ss notes → Written (λ from to. IsBody text_limits names from ss (raws notes) to) (spell_thread names ss notes)
body_written names ss notes w =
    let n = size (block ss) in
    let l = last_of n notes w.points in
    let WholeOne = IsWhole formula_laws.IsWritable names in
    let last_whole : WholeOne l.note = All-head WholeOne l.note [] (subst (All WholeOne) l.behind (all_drop WholeOne n notes w.formulas)) in
    let len = w.points in
    let before = lines_written names w.table w.names_are n ss most_open_blocks 1 notes (omega arith) w.stmts w.shallow (omega arith) w.formulas in
    let last = lined 1 (note_spells names w.table w.names_are l.note last_whole) (λ more. tt) in
    let last_line : Written (λ from to. IsNote text_limits names from (with_atoms raw_of l.note) to) (note_line names 1 (drop n notes)) =
    subst (λ (fs : Notes). Written (λ from to. IsNote text_limits names from (with_atoms raw_of l.note) to) (note_line names 1 fs)) (sym l.behind) last
    in
    let are : raws (take n notes) ++ with_atoms raw_of l.note ∷ [] ≡ raws notes = sym (ap raws l.whole ∙ map-append (with_atoms raw_of) (take n notes) (l.note ∷ [])) in
    changed (followed before last_line)
    (λ from to way. subst (λ (ns : List (Plain RawAtom)). IsBody text_limits names from ss ns to) are (ended_body (with_atoms raw_of l.note) to refl way.1 way.2))

pub threads_stand : ThreadsStand
threads_stand names ss notes at more w =
    let from = cursor at (spell_thread names ss notes ++ more) in
    let got = (body_written names ss notes w).stands from at more (here from) in
    record { to = got.0; body = got.1; ends = got.2.same }
