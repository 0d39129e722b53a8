-- Statements with their blocks, and bodies of threads, that are in the grammar are read.
use Rattle.std.proofs.Common.{◌≡◌, ◌≢◌, ℕ, zero, suc, ◌+◌, ◌-◌, ◌<◌, ◌≤◌, true, false, Ok, Err, Some, None, List, [], ◌∷◌, ◌++◌, length, refl, ap, sym, ◌∙◌, arith, append_assoc, length-append}
use Rattle.std.proofs.lemmas.List.{append-nil}
use Rattle.std.specs.Prelude.{Option, Result, is_ok, IfOk}
use Rattle.pg_lex.specs.declared.token.Sign.{Sign}
use Rattle.pg_lex.specs.declared.token.Sign.TheVariants as s
use Rattle.pg_lex.specs.declared.fault.TextFault.{TextFault}
use Rattle.pg_lex.specs.declared.fault.TextFault.TheVariants.{At, NoMemory}
use Rattle.pg_lex.specs.Lex.{Cursor, Lexeme, token}
use Rattle.pg_program.specs.NameTable.{NameTable}
use Rattle.pg_program.specs.declared.name_table.NameRef.{NameRef}
use Rattle.pg_program.specs.declared.name_table.NameRef.TheVariants as place
use Rattle.pg_program.specs.declared.syntax.Stmt.{Stmt, roll-Stmt}
use Rattle.pg_program.specs.declared.syntax.Act.{Act}
use Rattle.pg_program.specs.declared.syntax.Act.TheVariants as act
use Rattle.pg_program.specs.declared.syntax.AuxAssign.{AuxAssign}
use Rattle.pg_program.specs.declared.syntax.Cond.{Cond}
use Rattle.pg_assertion.specs.declared.atom.RawAtom.{RawAtom}
use Rattle.pg_assertion.specs.Formula.{Plain}
use Rattle.pg_assertion_text.specs.Words.{Stands, sign, word}
use Rattle.pg_assertion_text.specs.Input.{Input, Parser, and_then, pure, peek, is_sign, named}
use Rattle.pg_assertion_text.specs.Parsing.{placed}
use Rattle.pg_assertion_text.proofs.Steps.{bind_value, peek_reads, stands_token, expect_reads, named_reads, sign_is_same}
use Rattle.pg_program_text.specs.declared.keyword.Keyword.{Keyword}
use Rattle.pg_program_text.specs.declared.keyword.Keyword.TheVariants as k
use Rattle.pg_program_text.specs.declared.thread.ThreadText.{ThreadText}
use Rattle.pg_program_text.specs.Limits.{Limits, text_limits, most_points}
use Rattle.pg_program_text.specs.Keywords.{spelling, keyword}
use Rattle.pg_program_text.specs.Stmt.{a_test, an_act, bracket}
use Rattle.pg_program_text.specs.Thread.{Lines, Noted, no_lines, bare, with_note, with_stmt, ending, simple, ends_by, ends, line, line_or_end, lines_on, lines, block, else_by, else_part, joined, branch, repeat, statement_by, statement_in, statement, begins, begins_by, stmt_or_end, line_of_body, body_goes_on, body_on, thread_at}
use Rattle.pg_program_text.specs.Text.{lines as lines_of, ReadsAt, Answers, HasOneReading}
use Rattle.pg_program_text.specs.Grammar as g
use Rattle.pg_program_text.specs.Grammar.{Part, IsPart, a_simple, an_if, a_while, an_else, no_else, in_braces, no_lines as none, a_line, IsAct, an_assign, a_store, a_load, a_cas, an_mfence, an_sfence, a_flush, a_flushopt, IsBracket, IsTest, IsNote, IsBody, last_note, body_line, BeginsNone, IsThreadText}
use Rattle.pg_program_text.proofs.ExprComplete.{at, ends_before}
use Rattle.pg_program_text.proofs.PartsComplete.{note_reads, test_reads, act_reads, bracket_reads, bracket_ends, keyword_reads, sign_no_keyword, name_no_keyword}
use Rattle.pg_assertion_text.proofs.Whole.{same_result}
use Rattle.pg_program_text.proofs.ThreadSound.{thread_found}

-- the next token is no keyword
pub record NoKeyword (c : Cursor) : Type 0 where
  pub lexeme : Lexeme
  pub read : token c ≡ Ok lexeme
  pub is_none : keyword lexeme ≡ None

sign_stands : (names : NameTable) (z : Sign) (from to : Cursor) → Stands names (sign z) from to → NoKeyword from
sign_stands names z from to st = record { lexeme = st.lexeme; read = st.read; is_none = sign_no_keyword st.lexeme z st.matches }

note_stands : (limits : Limits) (names : NameTable) (f : Plain RawAtom) (from to : Cursor) → IsNote limits names from f to → NoKeyword from
note_stands limits names f from to is = sign_stands names s.OpenSquare from is.mid is.open_square

minus_none : (r : ℕ) → r ≡ r - 0
minus_none r = omega arith

-- what a statement's blocks are read by at its number of levels
abbrev pub below_of : Limits → NameTable → ℕ → Option (Parser Noted)
below_of limits names zero = None
below_of limits names (suc n) = Some (statement limits names n)

statement_is : (limits : Limits) (names : NameTable) (n : ℕ) → statement limits names n ≡ statement_in limits names (below_of limits names n)
unfolding statement
statement_is limits names zero = refl
statement_is limits names (suc n) = refl

-- ---- simple statements

simple_reads : (limits : Limits) (names : NameTable) (a : Act) (b : List AuxAssign) (room : ℕ) (from mid end to : Cursor) → IsAct limits names from a mid → IsBracket limits names mid b end → Stands names (sign s.Semicolon) end to
    → simple limits names (at from room) ≡ Ok (record { stmt = roll-Stmt (record { act = a; aux = b }); notes = [] }, at to room)
unfolding simple ending
simple_reads limits names a b room from mid end to is br semi =
    bind_value (an_act limits names (at from room)) _ a (at mid room) (act_reads limits names room from a mid is (bracket_ends limits names mid b end to br semi))
    ∙ ap (λ o. and_then o (λ b. pure (record { stmt = roll-Stmt (record { act = a; aux = b }); notes = [] })))
    (bind_value (bracket limits names (at mid room)) _ b (at end room) (bracket_reads limits names room mid b end to br semi)
    ∙ ap (λ o. and_then o (λ u. pure b)) (expect_reads names s.Semicolon (at end room) to semi))

-- a statement begins with the next token
pub record Begun (names : NameTable) (c : Cursor) : Type 0 where
  pub lexeme : Lexeme
  pub read : token c ≡ Ok lexeme
  pub begins_one : begins names lexeme ≡ true

-- the first token of an act: it is no `if` and no `while`, and a statement begins with it
record FirstOfAct (limits : Limits) (names : NameTable) (c : Cursor) : Type 0 where
  lexeme : Lexeme
  read : token c ≡ Ok lexeme
  is_simple : (below : Option (Parser Noted)) → statement_by limits names below (keyword lexeme) ≡ simple limits names
  begins_one : begins names lexeme ≡ true

by_keyword : (limits : Limits) (names : NameTable) (x : Keyword) (from to : Cursor) → Stands names (word (spelling x)) from to → ((below : Option (Parser Noted)) → statement_by limits names below (Some x) ≡ simple limits names)
    → ((t : Lexeme) → begins_by names t (Some x) ≡ true) → FirstOfAct limits names from
unfolding begins
by_keyword limits names x from to st simply starts =
    let is = keyword_reads st.lexeme x st.matches.0 st.matches.1 in
    record {
      lexeme = st.lexeme;
      read = st.read;
      is_simple = λ below. ap (statement_by limits names below) is ∙ simply below;
      begins_one = ap (begins_by names st.lexeme) is ∙ starts st.lexeme;
    }

by_name : (limits : Limits) (names : NameTable) (from : Cursor) (t : Lexeme) (q : NameRef) → token from ≡ Ok t → keyword t ≡ None → named names t ≡ Ok q → FirstOfAct limits names from
unfolding begins
by_name limits names from t q read no_word is = record {
  lexeme = t;
  read = read;
  is_simple = λ below. ap (statement_by limits names below) no_word;
  begins_one = ap (begins_by names t) no_word ∙ ap (λ r. is_ok r) is;
}

act_first : (limits : Limits) (names : NameTable) (a : Act) (from to : Cursor) → IsAct limits names from a to → FirstOfAct limits names from
act_first limits names _ _ _ (an_assign r a from mid to st is) = by_name limits names from st.1.lexeme (place.Scalar r) st.1.read (name_no_keyword st.1.lexeme st.1.matches.1) (named_reads names st.1.lexeme (place.Scalar r) st.1.matches.0 st.1.matches.1 st.1.matches.2)
act_first limits names _ _ _ (a_store x a from mid to st is) = by_name limits names from st.1.lexeme (place.Location x) st.1.read (name_no_keyword st.1.lexeme st.1.matches.1) (named_reads names st.1.lexeme (place.Location x) st.1.matches.0 st.1.matches.1 st.1.matches.2)
act_first limits names _ _ _ (a_load r x from to st) = by_name limits names from st.1.lexeme (place.Scalar r) st.1.read (name_no_keyword st.1.lexeme st.1.matches.1) (named_reads names st.1.lexeme (place.Scalar r) st.1.matches.0 st.1.matches.1 st.1.matches.2)
act_first limits names _ _ _ (a_cas r x a b from mid end behind last to st e1 comma e2 close) = by_name limits names from st.1.lexeme (place.Scalar r) st.1.read (name_no_keyword st.1.lexeme st.1.matches.1) (named_reads names st.1.lexeme (place.Scalar r) st.1.matches.0 st.1.matches.1 st.1.matches.2)
act_first limits names _ _ _ (an_mfence from to st) = by_keyword limits names k.Mfence from to st (λ below. refl) (λ t. refl)
act_first limits names _ _ _ (an_sfence from to st) = by_keyword limits names k.Sfence from to st (λ below. refl) (λ t. refl)
act_first limits names _ _ _ (a_flush x from to st) = by_keyword limits names k.Flush from st.0 st.1 (λ below. refl) (λ t. refl)
act_first limits names _ _ _ (a_flushopt x from to st) = by_keyword limits names k.Flushopt from st.0 st.1 (λ below. refl) (λ t. refl)

-- a statement that begins so is read by this
begun : (limits : Limits) (names : NameTable) (below : Option (Parser Noted)) (i : Input) (t : Lexeme) (o : Option Keyword) → token i.cursor ≡ Ok t → keyword t ≡ o → statement_in limits names below i ≡ statement_by limits names below o i
unfolding statement_in
begun limits names below i t o read is = bind_value (peek i) (λ t. statement_by limits names below (keyword t)) t i (peek_reads i t read) ∙ ap (λ o. statement_by limits names below o i) is

-- ---- each part

-- what is owed of a part
abbrev pub Claim : Limits → NameTable → Part → ℕ → Cursor → List Stmt → List (Plain RawAtom) → Cursor → Type 0
Claim limits names g.stmt n from [] ns to = Unit {0}
Claim limits names g.stmt n from (a ∷ ss) ns to =
    NoKeyword to → (r : ℕ) → length ns ≤ r → statement limits names n (at from r) ≡ Ok (record { stmt = a; notes = ns }, at to (r - length ns))
Claim limits names g.lines n from ss ns to =
    (end : Cursor) → Stands names (sign s.CloseBrace) to end → (r : ℕ) → length ns ≤ r → (k : ℕ) → r < k → (before : Lines)
    → lines_on limits names (statement limits names n) k before (at from r) ≡ Ok (record { stmts = before.stmts ++ ss; notes = before.notes ++ ns }, at end (r - length ns))
Claim limits names g.block n from ss ns to = (r : ℕ) → length ns ≤ r → block limits names (below_of limits names n) (at from r) ≡ Ok (record { stmts = ss; notes = ns }, at to (r - length ns))
Claim limits names g.other n from ss ns to =
    NoKeyword to → (r : ℕ) → length ns ≤ r → else_part limits names (below_of limits names n) (at from r) ≡ Ok (record { stmts = ss; notes = ns }, at to (r - length ns))

-- ---- blocks

ends_reads : (names : NameTable) (room : ℕ) (from to : Cursor) → Stands names (sign s.CloseBrace) from to → ends (at from room) ≡ Ok (true, at to room)
unfolding ends
ends_reads names room from to st =
    bind_value (peek (at from room)) (λ t. ends_by (is_sign s.CloseBrace t.kind)) st.lexeme (at from room) (peek_reads (at from room) st.lexeme st.read)
    ∙ ap (λ z. ends_by (is_sign s.CloseBrace z) (at from room)) st.matches
    ∙ ap (λ b. ends_by b (at from room)) (sign_is_same s.CloseBrace)
    ∙ ap (λ o. and_then o (λ u. pure true)) (stands_token names (sign s.CloseBrace) (at from room) to st)

note_goes_on : (limits : Limits) (names : NameTable) (room : ℕ) (f : Plain RawAtom) (from to : Cursor) → IsNote limits names from f to → ends (at from room) ≡ Ok (false, at from room)
unfolding ends
note_goes_on limits names room f from to is =
    let st = is.open_square in
    bind_value (peek (at from room)) (λ t. ends_by (is_sign s.CloseBrace t.kind)) st.lexeme (at from room) (peek_reads (at from room) st.lexeme st.read)
    ∙ ap (λ z. ends_by (is_sign s.CloseBrace z) (at from room)) st.matches

-- where lines stand, a note stands or the brace that ends them
lines_stand : (limits : Limits) (names : NameTable) (n : ℕ) (from to end : Cursor) (ss : List Stmt) (ns : List (Plain RawAtom)) → IsPart limits names g.lines n from ss ns to → Stands names (sign s.CloseBrace) to end → NoKeyword from
lines_stand limits names n from to end _ _ (none _ from2) close = sign_stands names s.CloseBrace from end close
lines_stand limits names n from to end _ _ (a_line _ f a ss ms ns from2 mid end2 to2 noted stmt rest) close = note_stands limits names f from mid noted

end_lines : (limits : Limits) (names : NameTable) (stmt : Parser Noted) (k r : ℕ) (before : Lines) (from end : Cursor) → Stands names (sign s.CloseBrace) from end → r < k → lines_on limits names stmt k before (at from r) ≡ Ok (before, at end r)
unfolding lines_on
end_lines limits names stmt zero r before from end close turns = absurd (omega arith)
end_lines limits names stmt (suc k) r before from end close turns = ap (λ o. and_then o (line_or_end limits names stmt (lines_on limits names stmt k) before)) (ends_reads names r from end close)

line_reads : (limits : Limits) (names : NameTable) (stmt : Parser Noted) (k r : ℕ) (before : Lines) (f : Plain RawAtom) (a : Noted) (from mid end : Cursor) → IsNote limits names from f mid → 0 < r → 0 < k
    → stmt (at mid (r - 1)) ≡ Ok (a, at end (r - 1 - length a.notes))
    → lines_on limits names stmt k before (at from r) ≡ lines_on limits names stmt (k - 1) (with_stmt (with_note before f) a) (at end (r - 1 - length a.notes))
unfolding lines_on line
line_reads limits names stmt zero r before f a from mid end noted some turns reads = absurd (omega arith)
line_reads limits names stmt (suc k) r before f a from mid end noted some turns reads =
    ap (λ o. and_then o (line_or_end limits names stmt (lines_on limits names stmt k) before)) (note_goes_on limits names r f from mid noted)
    ∙ ap (λ o. and_then o (lines_on limits names stmt k))
    (ap (λ o. and_then o (λ f u. and_then (stmt u) (λ a. pure (with_stmt (with_note before f) a)))) (note_reads limits names (at from r) f mid noted some)
    ∙ ap (λ o. and_then o (λ a. pure (with_stmt (with_note before f) a))) reads)
    ∙ ap (λ n. lines_on limits names stmt n (with_stmt (with_note before f) a) (at end (r - 1 - length a.notes))) (omega arith)

block_reads : (limits : Limits) (names : NameTable) (n : ℕ) (from mid end to : Cursor) (ss : List Stmt) (ns : List (Plain RawAtom)) → Stands names (sign s.OpenBrace) from mid → Claim limits names g.lines n mid ss ns end
    → Stands names (sign s.CloseBrace) end to → Claim limits names g.block (suc n) from ss ns to
unfolding lines
block_reads limits names n from mid end to ss ns st claim close = λ r room.
    ap (λ o. and_then o (λ u. lines limits names (statement limits names n))) (expect_reads names s.OpenBrace (at from r) mid st)
    ∙ claim to close r room (r + 1) (omega arith) no_lines

-- ---- branches and loops

else_reads : (limits : Limits) (names : NameTable) (n : ℕ) (from mid to : Cursor) (ss : List Stmt) (ns : List (Plain RawAtom)) → Stands names (word (spelling k.Else)) from mid → Claim limits names g.block n mid ss ns to → Claim limits names g.other n from ss ns to
unfolding else_part
else_reads limits names n from mid to ss ns st claim = λ stops r room.
    let below = below_of limits names n in
    bind_value (peek (at from r)) (λ t. else_by limits names below (keyword t)) st.lexeme (at from r) (peek_reads (at from r) st.lexeme st.read)
    ∙ ap (λ o. else_by limits names below o (at from r)) (keyword_reads st.lexeme k.Else st.matches.0 st.matches.1)
    ∙ ap (λ o. and_then o (λ u. block limits names below)) (stands_token names (word (spelling k.Else)) (at from r) mid st)
    ∙ claim r room

no_else_reads : (limits : Limits) (names : NameTable) (n : ℕ) (from : Cursor) → Claim limits names g.other n from [] [] from
unfolding else_part
no_else_reads limits names n from = λ stops r room.
    let below = below_of limits names n in
    bind_value (peek (at from r)) (λ t. else_by limits names below (keyword t)) stops.lexeme (at from r) (peek_reads (at from r) stops.lexeme stops.read)
    ∙ ap (λ o. else_by limits names below o (at from r)) stops.is_none
    ∙ ap (λ q. Ok (no_lines, at from q)) (minus_none r)

if_reads : (limits : Limits) (names : NameTable) (n : ℕ) (c : Cond) (ss ts : List Stmt) (ns ms : List (Plain RawAtom)) (from mid end behind to : Cursor) → Stands names (word (spelling k.If)) from mid → IsTest limits names mid c end
    → (brace : Cursor) → Stands names (sign s.OpenBrace) end brace → Claim limits names g.block n end ss ns behind → Claim limits names g.other n behind ts ms to
    → Claim limits names g.stmt n from (bare (act.If c ss ts) ∷ []) (ns ++ ms) to
unfolding branch
if_reads limits names n c ss ts ns ms from mid end behind to st tested brace opens yes_claim no_claim = λ stops r room.
    let below = below_of limits names n in
    let many = length-append ns ms in
    ap (λ (p : Parser Noted). p (at from r)) (statement_is limits names n)
    ∙ begun limits names below (at from r) st.lexeme (Some k.If) st.read (keyword_reads st.lexeme k.If st.matches.0 st.matches.1)
    ∙ ap (λ o. and_then o (λ u. branch limits names below)) (stands_token names (word (spelling k.If)) (at from r) mid st)
    ∙ bind_value (a_test limits names (at mid r)) _ c (at end r) (test_reads limits names (at mid r) c end tested (ends_before names s.OpenBrace end brace opens refl refl refl))
    ∙ bind_value (block limits names below (at end r)) _ (record { stmts = ss; notes = ns }) (at behind (r - length ns)) (yes_claim r (omega arith))
    ∙ bind_value (else_part limits names below (at behind (r - length ns))) _ (record { stmts = ts; notes = ms }) (at to (r - length ns - length ms)) (no_claim stops (r - length ns) (omega arith))
    ∙ ap (λ q. Ok (joined c (record { stmts = ss; notes = ns }) (record { stmts = ts; notes = ms }), at to q)) (omega arith)

while_reads : (limits : Limits) (names : NameTable) (n : ℕ) (c : Cond) (ss : List Stmt) (ns : List (Plain RawAtom)) (from mid end to : Cursor) → Stands names (word (spelling k.While)) from mid → IsTest limits names mid c end
    → (brace : Cursor) → Stands names (sign s.OpenBrace) end brace → Claim limits names g.block n end ss ns to → Claim limits names g.stmt n from (bare (act.While c ss) ∷ []) ns to
unfolding repeat
while_reads limits names n c ss ns from mid end to st tested brace opens claim = λ stops r room.
    let below = below_of limits names n in
    ap (λ (p : Parser Noted). p (at from r)) (statement_is limits names n)
    ∙ begun limits names below (at from r) st.lexeme (Some k.While) st.read (keyword_reads st.lexeme k.While st.matches.0 st.matches.1)
    ∙ ap (λ o. and_then o (λ u. repeat limits names below)) (stands_token names (word (spelling k.While)) (at from r) mid st)
    ∙ bind_value (a_test limits names (at mid r)) _ c (at end r) (test_reads limits names (at mid r) c end tested (ends_before names s.OpenBrace end brace opens refl refl refl))
    ∙ ap (λ o. and_then o (λ (a : Lines). pure (record { stmt = bare (act.While c a.stmts); notes = a.notes }))) (claim r room)

-- a block begins with its brace
record OpensBrace (names : NameTable) (c : Cursor) : Type 0 where
  mid : Cursor
  stands : Stands names (sign s.OpenBrace) c mid

block_opens : (limits : Limits) (names : NameTable) (n : ℕ) (from to : Cursor) (ss : List Stmt) (ns : List (Plain RawAtom)) → IsPart limits names g.block n from ss ns to → OpensBrace names from
block_opens limits names _ _ _ _ _ (in_braces n ss ns from mid end to st is close) = record { mid = mid; stands = st }

-- lines after one more line
line_joined : (before : Lines) (f : Plain RawAtom) (a : Stmt) (ms : List (Plain RawAtom)) (ss : List Stmt) (ns : List (Plain RawAtom))
    → ◌≡◌ {A = Lines} (record { stmts = (before.stmts ++ a ∷ []) ++ ss; notes = ((before.notes ++ f ∷ []) ++ ms) ++ ns }) (record { stmts = before.stmts ++ a ∷ ss; notes = before.notes ++ f ∷ (ms ++ ns) })
line_joined before f a ms ss ns =
    ap (λ l. record { stmts = l; notes = ((before.notes ++ f ∷ []) ++ ms) ++ ns }) (append_assoc before.stmts (a ∷ []) ss)
    ∙ ap (λ l. record { stmts = before.stmts ++ a ∷ ss; notes = l }) (append_assoc (before.notes ++ f ∷ []) ms ns ∙ append_assoc before.notes (f ∷ []) (ms ++ ns))

-- nothing after lines
both_nil : (l : Lines) → l ≡ record { stmts = l.stmts ++ []; notes = l.notes ++ [] }
both_nil l = ap (λ ss. record { stmts = ss; notes = l.notes }) (sym (append-nil l.stmts)) ∙ ap (λ ns. record { stmts = l.stmts ++ []; notes = ns }) (sym (append-nil l.notes))

-- ---- the whole grammar of parts

pub claims : (limits : Limits) (names : NameTable) (part : Part) (n : ℕ) (from to : Cursor) (ss : List Stmt) (ns : List (Plain RawAtom)) → IsPart limits names part n from ss ns to → Claim limits names part n from ss ns to
claims limits names _ _ _ _ _ _ (a_simple n a b from mid end to is br semi) = λ stops r room.
    let f = act_first limits names a from mid is in
    ap (λ (p : Parser Noted). p (at from r)) (statement_is limits names n)
    ∙ begun limits names (below_of limits names n) (at from r) f.lexeme (keyword f.lexeme) f.read refl
    ∙ ap (λ (p : Parser Noted). p (at from r)) (f.is_simple (below_of limits names n))
    ∙ simple_reads limits names a b r from mid end to is br semi
    ∙ ap (λ q. Ok (record { stmt = roll-Stmt (record { act = a; aux = b }); notes = [] }, at to q)) (minus_none r)
claims limits names _ _ _ _ _ _ (an_if n c ss ts ns ms from mid end behind to st tested yes_part no_part) =
    let b = block_opens limits names n end behind ss ns yes_part in
    if_reads limits names n c ss ts ns ms from mid end behind to st tested b.mid b.stands (claims limits names g.block n end behind ss ns yes_part) (claims limits names g.other n behind to ts ms no_part)
claims limits names _ _ _ _ _ _ (a_while n c ss ns from mid end to st tested is) =
    let b = block_opens limits names n end to ss ns is in
    while_reads limits names n c ss ns from mid end to st tested b.mid b.stands (claims limits names g.block n end to ss ns is)
claims limits names _ _ _ _ _ _ (an_else n ss ns from mid to st is) = else_reads limits names n from mid to ss ns st (claims limits names g.block n mid to ss ns is)
claims limits names _ _ _ _ _ _ (no_else n from) = no_else_reads limits names n from
claims limits names _ _ _ _ _ _ (in_braces n ss ns from mid end to st is close) = block_reads limits names n from mid end to ss ns st (claims limits names g.lines n mid end ss ns is) close
claims limits names _ _ _ _ _ _ (none n from) = λ end close r room k turns before.
    end_lines limits names (statement limits names n) k r before from end close turns
    ∙ ap (λ (l : Lines). Ok (l, at end r)) (both_nil before)
    ∙ ap (λ q. Ok (record { stmts = before.stmts ++ []; notes = before.notes ++ [] }, at end q)) (minus_none r)
claims limits names _ _ _ _ _ _ (a_line n f a ss ms ns from mid end to noted is rest) = λ last close r room k turns before.
    let many = length-append ms ns in
    line_reads limits names (statement limits names n) k r before f (record { stmt = a; notes = ms }) from mid end noted (omega arith) (omega arith)
    (claims limits names g.stmt n mid end (a ∷ []) ms is (lines_stand limits names n end to last ss ns rest close) (r - 1) (omega arith))
    ∙ claims limits names g.lines n end to ss ns rest last close (r - 1 - length ms) (omega arith) (k - 1) (omega arith) (with_stmt (with_note before f) (record { stmt = a; notes = ms }))
    ∙ ap (λ (l : Lines). Ok (l, at last (r - 1 - length ms - length ns))) (line_joined before f a ms ss ns)
    ∙ ap (λ q. Ok (record { stmts = before.stmts ++ a ∷ ss; notes = before.notes ++ f ∷ (ms ++ ns) }, at last q)) (omega arith)

-- ---- bodies

-- a statement begins with its first token
pub stmt_begins : (limits : Limits) (names : NameTable) (n : ℕ) (from to : Cursor) (ss : List Stmt) (ns : List (Plain RawAtom)) → IsPart limits names g.stmt n from ss ns to → Begun names from
unfolding begins
stmt_begins limits names _ _ _ _ _ (a_simple n a b from mid end to is br semi) = let f = act_first limits names a from mid is in record { lexeme = f.lexeme; read = f.read; begins_one = f.begins_one }
stmt_begins limits names _ _ _ _ _ (an_if n c ss ts ns ms from mid end behind to st tested yes_part no_part) = record {
  lexeme = st.lexeme;
  read = st.read;
  begins_one = ap (begins_by names st.lexeme) (keyword_reads st.lexeme k.If st.matches.0 st.matches.1);
}
stmt_begins limits names _ _ _ _ _ (a_while n c ss ns from mid end to st tested is) = record {
  lexeme = st.lexeme;
  read = st.read;
  begins_one = ap (begins_by names st.lexeme) (keyword_reads st.lexeme k.While st.matches.0 st.matches.1);
}

last_reads : (limits : Limits) (names : NameTable) (k r : ℕ) (before : Lines) (f : Plain RawAtom) (from to : Cursor) → IsNote limits names from f to → BeginsNone names to → 0 < r → 0 < k
    → body_on limits names k before (at from r) ≡ Ok (record { stmts = before.stmts; notes = before.notes ++ f ∷ [] }, at to (r - 1))
unfolding body_on line_of_body
last_reads limits names zero r before f from to noted stops some turns = absurd (omega arith)
last_reads limits names (suc k) r before f from to noted stops some turns =
    ap (λ o. and_then o (body_goes_on (body_on limits names k)))
    (ap (λ o. and_then o (λ f l. and_then (peek l) (λ t. stmt_or_end limits names (with_note before f) (begins names t)))) (note_reads limits names (at from r) f to noted some)
    ∙ ap (λ o. and_then o (λ t. stmt_or_end limits names (with_note before f) (begins names t))) (peek_reads (at to (r - 1)) stops.lexeme stops.read)
    ∙ ap (λ b. stmt_or_end limits names (with_note before f) b (at to (r - 1))) stops.begins_none)

pub body_line_reads : (limits : Limits) (names : NameTable) (k r : ℕ) (before : Lines) (f : Plain RawAtom) (a : Noted) (from mid end : Cursor) → IsNote limits names from f mid → Begun names mid → 0 < r → 0 < k
    → statement limits names limits.blocks (at mid (r - 1)) ≡ Ok (a, at end (r - 1 - length a.notes))
    → body_on limits names k before (at from r) ≡ body_on limits names (k - 1) (with_stmt (with_note before f) a) (at end (r - 1 - length a.notes))
unfolding body_on line_of_body
body_line_reads limits names zero r before f a from mid end noted begun some turns reads = absurd (omega arith)
body_line_reads limits names (suc k) r before f a from mid end noted begun some turns reads =
    ap (λ o. and_then o (body_goes_on (body_on limits names k)))
    (ap (λ o. and_then o (λ f l. and_then (peek l) (λ t. stmt_or_end limits names (with_note before f) (begins names t)))) (note_reads limits names (at from r) f mid noted some)
    ∙ ap (λ o. and_then o (λ t. stmt_or_end limits names (with_note before f) (begins names t))) (peek_reads (at mid (r - 1)) begun.lexeme begun.read)
    ∙ ap (λ b. stmt_or_end limits names (with_note before f) b (at mid (r - 1))) begun.begins_one
    ∙ ap (λ o. and_then o (λ a. pure (with_stmt (with_note before f) a, true))) reads)
    ∙ ap (λ n. body_on limits names n (with_stmt (with_note before f) a) (at end (r - 1 - length a.notes))) (omega arith)

pub body_stands : (limits : Limits) (names : NameTable) (from to : Cursor) (ss : List Stmt) (ns : List (Plain RawAtom)) → IsBody limits names from ss ns to → NoKeyword from
body_stands limits names _ _ _ _ (last_note f from to noted) = note_stands limits names f from to noted
body_stands limits names _ _ _ _ (body_line f a ss ms ns from mid end to noted is rest) = note_stands limits names f from mid noted

pub body_reads : (limits : Limits) (names : NameTable) (from to : Cursor) (ss : List Stmt) (ns : List (Plain RawAtom)) → IsBody limits names from ss ns to → BeginsNone names to
    → (r : ℕ) → length ns ≤ r → (k : ℕ) → r < k → (before : Lines)
    → body_on limits names k before (at from r) ≡ Ok (record { stmts = before.stmts ++ ss; notes = before.notes ++ ns }, at to (r - length ns))
body_reads limits names _ _ _ _ (last_note f from to noted) stops r room k turns before =
    last_reads limits names k r before f from to noted stops (omega arith) (omega arith)
    ∙ ap (λ ss. Ok (record { stmts = ss; notes = before.notes ++ f ∷ [] }, at to (r - 1))) (sym (append-nil before.stmts))
body_reads limits names _ _ _ _ (body_line f a ss ms ns from mid end to noted is rest) stops r room k turns before =
    let many = length-append ms ns in
    body_line_reads limits names k r before f (record { stmt = a; notes = ms }) from mid end noted (stmt_begins limits names limits.blocks mid end (a ∷ []) ms is) (omega arith) (omega arith)
    (claims limits names g.stmt limits.blocks mid end (a ∷ []) ms is (body_stands limits names end to ss ns rest) (r - 1) (omega arith))
    ∙ body_reads limits names end to ss ns rest stops (r - 1 - length ms) (omega arith) (k - 1) (omega arith) (with_stmt (with_note before f) (record { stmt = a; notes = ms }))
    ∙ ap (λ (l : Lines). Ok (l, at to (r - 1 - length ms - length ns))) (line_joined before f a ms ss ns)
    ∙ ap (λ q. Ok (record { stmts = before.stmts ++ a ∷ ss; notes = before.notes ++ f ∷ (ms ++ ns) }, at to q)) (omega arith)

-- a body of the grammar is read
pub thread_reads : (names : NameTable) (c to : Cursor) (l : Lines) → IsThreadText names c l to → thread_at names c ≡ Ok (l, to)
unfolding thread_at
thread_reads names c to l is = ap placed (body_reads text_limits names c to l.stmts l.notes is.body is.stops most_points is.few (most_points + 1) (omega arith) no_lines)

-- ---- answers

pub one_reading : HasOneReading
one_reading names from a b l m first second =
    let same = same_result (l, a) (m, b) (sym (thread_reads names from a l first) ∙ thread_reads names from b m second) in
    (ap (λ (q : Lines × Cursor). q.0) same, ap (λ (q : Lines × Cursor). q.1) same)

pub answer_found : (names : NameTable) (old new : Cursor) (r : Result ThreadText TextFault) → ReadsAt (thread_at names old) r new → IfOk r (λ t. IsThreadText names old (lines_of t) new)
answer_found names old new (Ok t) reads = thread_found names old new (lines_of t) reads
answer_found names old new (Err e) reads = tt

only_memory : (names : NameTable) (old to : Cursor) (l : Lines) (e : TextFault) → (e ≢ NoMemory → thread_at names old ≡ Err e) → IsThreadText names old l to → e ≡ NoMemory
only_memory names old to l NoMemory reads is = refl
only_memory names old to l (At p q) reads is = let fails = reads (λ (e : At p q ≡ NoMemory). cc) in let gives = thread_reads names old to l is in cc

pub answer_only : (names : NameTable) (old new : Cursor) (r : Result ThreadText TextFault) → ReadsAt (thread_at names old) r new → (l : Lines) (to : Cursor) → IsThreadText names old l to → Answers l to r new
answer_only names old new (Ok t) reads l to is =
    let same = same_result (lines_of t, new) (l, to) (sym reads ∙ thread_reads names old to l is) in
    (ap (λ (q : Lines × Cursor). q.0) same, ap (λ (q : Lines × Cursor). q.1) same)
answer_only names old new (Err e) reads l to is = only_memory names old to l e reads is
