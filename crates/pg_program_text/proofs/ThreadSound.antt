-- Statements with their blocks, and bodies of threads, that are read are in the grammar.
use Rattle.pg_program_text.specs.Limits.{text_limits}
use Rattle.std.proofs.Common.{◌≡◌, ℕ, zero, suc, ◌+◌, Bool, true, false, Ok, Some, None, List, [], ◌∷◌, ◌++◌, length, refl, ap, sym, ◌∙◌, subst, arith, append_assoc, length-append}
use Rattle.std.proofs.lemmas.List.{append-nil}
use Rattle.std.specs.Prelude.{Option}
use Rattle.pg_lex.specs.declared.token.Sign.TheVariants as s
use Rattle.pg_lex.specs.Lex.{Cursor, Lexeme, token, after}
use Rattle.pg_program.specs.NameTable.{NameTable}
use Rattle.pg_program.specs.declared.syntax.Stmt.{Stmt, roll-Stmt}
use Rattle.pg_program.specs.declared.syntax.Act.TheVariants as act
use Rattle.pg_program.specs.declared.syntax.AuxAssign.{AuxAssign}
use Rattle.pg_assertion.specs.declared.atom.RawAtom.{RawAtom}
use Rattle.pg_assertion.specs.Formula.{Plain}
use Rattle.pg_assertion_text.specs.Words.{Stands, sign, word}
use Rattle.pg_assertion_text.specs.Input.{Input, Outcome, Parser, pure, peek, next, expect, is_sign}
use Rattle.pg_assertion_text.proofs.Steps.{ok_same, bind_then, next_found, peek_found, is_sign_found, expect_found}
use Rattle.pg_assertion_text.proofs.Whole.{placed_then}
use Rattle.pg_program_text.specs.declared.keyword.Keyword.{Keyword}
use Rattle.pg_program_text.specs.declared.keyword.Keyword.TheVariants as k
use Rattle.pg_program_text.specs.Limits.{most_points, most_open_blocks}
use Rattle.pg_program_text.specs.Keywords.{spelling, keyword}
use Rattle.pg_program_text.specs.Stmt.{note, a_test, an_act, bracket}
use Rattle.pg_program_text.specs.Thread.{Lines, Noted, no_lines, bare, with_note, with_stmt, ending, simple, ends_by, ends, line, line_or_end, lines_on, lines, refuse_block, block, else_by, else_part, joined, branch, repeat, statement_by, statement_in, statement, begins, stmt_or_end, line_of_body, body_goes_on, body_on, body, thread_at}
use Rattle.pg_program_text.specs.Grammar as g
use Rattle.pg_program_text.specs.Grammar.{Part, IsPart, IsNote, IsBody, BeginsNone, IsThreadText}
use Rattle.pg_program_text.proofs.PartsSound.{note_found, test_found, act_found, bracket_found, keyword_found}

-- lines that were read: what stands there, and as many points as notes
pub record Found (names : NameTable) (part : Part) (m : ℕ) (i : Input) (l : Lines) (j : Input) : Type 0 where
  pub is : IsPart text_limits names part m i.cursor l.stmts l.notes j.cursor
  pub room : i.room ≡ j.room + length l.notes

-- a statement as lines
abbrev pub alone : Noted → Lines
alone n = record { stmts = n.stmt ∷ []; notes = n.notes }

simple_found : (names : NameTable) (m : ℕ) (i j : Input) (n : Noted) → simple text_limits names i ≡ Ok (n, j) → Found names g.stmt m i (alone n) j
unfolding simple ending
simple_found names m i j n h =
    bind_then (an_act text_limits names i) _ (n, j) h (λ a l first rest.
    bind_then (ending text_limits names l) _ (n, j) rest (λ b p second end.
    bind_then (bracket text_limits names l) _ (b, p) second (λ d o third rest2.
    bind_then (expect s.Semicolon o) _ (b, p) rest2 (λ u v semi last.
    let one = act_found names i l a first in
    let two = bracket_found names l o d third in
    let c = expect_found names s.Semicolon o v u semi in
    let simple_of : List AuxAssign → Noted = λ aux. record { stmt = roll-Stmt (record { act = a; aux = aux }); notes = [] } in
    subst (λ (q : Noted × Input). Found names g.stmt m i (alone q.0) q.1) (ok_same (simple_of b, p) (n, j) end)
    (subst (λ (q : List AuxAssign × Input). Found names g.stmt m i (alone (simple_of q.0)) q.1) (ok_same (d, v) (b, p) last)
    (record {
      is = g.a_simple m a d i.cursor l.cursor o.cursor v.cursor one.is two.is (subst (Stands names (sign s.Semicolon) o.cursor) (sym c.stand.2) c.stand.1);
      room = let r1 = one.room in let r2 = two.room in let r3 = c.room in omega arith;
    }))))))

-- ---- blocks

-- the end of a block: its brace was taken, or nothing
EndsAt : NameTable → Bool → Input → Input → Type 0
EndsAt names true i j = Stands names (sign s.CloseBrace) i.cursor j.cursor × (i.room ≡ j.room)
EndsAt names false i j = j ≡ i

ends_found : (names : NameTable) (b : Bool) (i j : Input) → ends i ≡ Ok (b, j) → EndsAt names b i j
unfolding ends EndsAt
ends_found names b i j h =
    bind_then (peek i) _ (b, j) h (λ t l sees rest.
    let p = peek_found i l t sees in
    by t p.0 (is_sign s.CloseBrace t.kind) refl (subst (λ q. ends_by (is_sign s.CloseBrace t.kind) q ≡ Ok (b, j)) p.1 rest))
  where
    by : (t : Lexeme) → token i.cursor ≡ Ok t → (c : Bool) → is_sign s.CloseBrace t.kind ≡ c → ends_by c i ≡ Ok (b, j) → EndsAt names b i j
    by t read true e rest =
        bind_then (next i) (λ u. pure true) (b, j) rest (λ w m takes end.
        let found = next_found i m w takes in
        subst (λ (q : Bool × Input). EndsAt names q.0 i q.1) (ok_same (true, m) (b, j) end)
        (record { lexeme = t; read = read; matches = is_sign_found s.CloseBrace t.kind e; behind = ap (λ q. q.cursor) found.1 }, sym (ap (λ q. q.room) found.1)))
    by t read false e rest = subst (λ (q : Bool × Input). EndsAt names q.0 i q.1) (ok_same (false, i) (b, j) rest) refl

-- lines of a block that were read after others, and its brace
record Behind (names : NameTable) (m : ℕ) (before : Lines) (i : Input) (all : Lines) (j : Input) : Type 0 where
  stmts : List Stmt
  notes : List (Plain RawAtom)
  stmts_are : all.stmts ≡ before.stmts ++ stmts
  notes_are : all.notes ≡ before.notes ++ notes
  mid : Cursor
  is : IsPart text_limits names g.lines m i.cursor stmts notes mid
  close : Stands names (sign s.CloseBrace) mid j.cursor
  room : i.room ≡ j.room + length notes

-- one more line in front
line_behind : (names : NameTable) (m : ℕ) (before : Lines) (f : Plain RawAtom) (a : Noted) (i u v j : Input) (all : Lines)
    → IsNote text_limits names i.cursor f u.cursor → i.room ≡ u.room + 1 → Found names g.stmt m u (alone a) v → Behind names m (with_stmt (with_note before f) a) v all j → Behind names m before i all j
line_behind names m before f a i u v j all noted room stmt b = record {
  stmts = a.stmt ∷ b.stmts;
  notes = f ∷ (a.notes ++ b.notes);
  stmts_are = b.stmts_are ∙ append_assoc before.stmts (a.stmt ∷ []) b.stmts;
  notes_are = b.notes_are ∙ append_assoc (before.notes ++ f ∷ []) a.notes b.notes ∙ append_assoc before.notes (f ∷ []) (a.notes ++ b.notes);
  mid = b.mid;
  is = g.a_line m f a.stmt b.stmts a.notes b.notes i.cursor u.cursor v.cursor b.mid noted stmt.is b.is;
  close = b.close;
  room = let sr = stmt.room in let br = b.room in let many = length-append a.notes b.notes in omega arith;
}

lines_on_found : (names : NameTable) (m : ℕ) (stmt : Parser Noted) → ((i j : Input) (n : Noted) → stmt i ≡ Ok (n, j) → Found names g.stmt m i (alone n) j)
    → (n : ℕ) (before all : Lines) (i j : Input) → lines_on text_limits names stmt n before i ≡ Ok (all, j) → Behind names m before i all j
unfolding lines_on line EndsAt
lines_on_found names m stmt part zero before all i j h = cc
lines_on_found names m stmt part (suc n) before all i j h =
    bind_then (ends i) _ (all, j) h (λ b l end rest. by b l (ends_found names b i l end) (λ l i h. lines_on_found names m stmt part n l all i j h) rest)
  where
    by : (b : Bool) (l : Input) → EndsAt names b i l → ((l : Lines) (i : Input) → lines_on text_limits names stmt n l i ≡ Ok (all, j) → Behind names m l i all j)
        → line_or_end text_limits names stmt (lines_on text_limits names stmt n) before b l ≡ Ok (all, j) → Behind names m before i all j
    by true l end behind rest =
        let same = ok_same (before, l) (all, j) rest in
        subst (λ (q : Lines × Input). Behind names m before i q.0 q.1) same (record {
          stmts = [];
          notes = [];
          stmts_are = sym (append-nil before.stmts);
          notes_are = sym (append-nil before.notes);
          mid = i.cursor;
          is = g.no_lines m i.cursor;
          close = end.0;
          room = let er = end.1 in omega arith;
        })
    by false l at behind rest =
        bind_then (line text_limits names stmt before l) _ (all, j) rest (λ b w one rest2.
        bind_then (note text_limits names l) _ (b, w) one (λ f u notes two.
        bind_then (stmt u) _ (b, w) two (λ a v reads end.
        let noted = note_found names l u f notes in
        let same = ok_same (with_stmt (with_note before f) a, v) (b, w) end in
        line_behind names m before f a i u v j all
        (subst (λ q. IsNote text_limits names q.cursor f u.cursor) at noted.0) (sym (ap (λ q. q.room) at) ∙ noted.1) (part u v a reads)
        (behind (with_stmt (with_note before f) a) v (ap (λ (q : Lines × Input). lines_on text_limits names stmt n q.0 q.1) same ∙ rest2)))))

-- what is read one level further in
abbrev pub Below : NameTable → ℕ → Option (Parser Noted) → Type 0
Below names m None = Unit {0}
Below names m (Some stmt) = (n : ℕ) × (m ≡ suc n) × ((i j : Input) (a : Noted) → stmt i ≡ Ok (a, j) → Found names g.stmt n i (alone a) j)

block_found : (names : NameTable) (m : ℕ) (below : Option (Parser Noted)) → Below names m below → (i j : Input) (l : Lines) → block text_limits names below i ≡ Ok (l, j) → Found names g.block m i l j
unfolding lines
block_found names m None claim i j l h = bind_then (next i) refuse_block (l, j) h (λ t k takes rest. cc)
block_found names m (Some stmt) claim i j l h =
    bind_then (expect s.OpenBrace i) (λ u. lines text_limits names stmt) (l, j) h (λ u t takes rest.
    let o = expect_found names s.OpenBrace i t u takes in
    let b = lines_on_found names claim.0 stmt claim.2 (t.room + 1) no_lines l t j rest in
    subst (λ m. Found names g.block m i l j) (sym claim.1) (record {
      is = subst (λ ns. IsPart text_limits names g.block (suc claim.0) i.cursor l.stmts ns j.cursor) (sym b.notes_are)
          (subst (λ ss. IsPart text_limits names g.block (suc claim.0) i.cursor ss b.notes j.cursor) (sym b.stmts_are)
          (g.in_braces claim.0 b.stmts b.notes i.cursor t.cursor b.mid j.cursor (subst (Stands names (sign s.OpenBrace) i.cursor) (sym o.stand.2) o.stand.1) b.is b.close));
      room = let orr = o.room in let br = b.room in let many = ap length b.notes_are in omega arith;
    }))

-- ---- branches and loops

else_found : (names : NameTable) (m : ℕ) (below : Option (Parser Noted)) → Below names m below → (i j : Input) (l : Lines) → else_part text_limits names below i ≡ Ok (l, j) → Found names g.other m i l j
unfolding else_part
else_found names m below claim i j l h =
    bind_then (peek i) _ (l, j) h (λ t q sees rest.
    let p = peek_found i q t sees in
    by t p.0 (keyword t) refl (subst (λ q. else_by text_limits names below (keyword t) q ≡ Ok (l, j)) p.1 rest))
  where
    none : ◌≡◌ {A = Outcome Lines} (Ok (no_lines, i)) (Ok (l, j)) → Found names g.other m i l j
    none rest = subst (λ (q : Lines × Input). Found names g.other m i q.0 q.1) (ok_same (no_lines, i) (l, j) rest) (record { is = g.no_else m i.cursor; room = omega arith })

    by : (t : Lexeme) → token i.cursor ≡ Ok t → (o : Option Keyword) → keyword t ≡ o → else_by text_limits names below o i ≡ Ok (l, j) → Found names g.other m i l j
    by t read (Some k.Else) is rest =
        bind_then (next i) (λ u. block text_limits names below) (l, j) rest (λ w n takes rest2.
        let found = next_found i n w takes in
        let b = block_found names m below claim n j l rest2 in
        record {
          is = g.an_else m l.stmts l.notes i.cursor n.cursor j.cursor (record { lexeme = t; read = read; matches = keyword_found t k.Else is; behind = ap (λ q. q.cursor) found.1 }) b.is;
          room = let br = b.room in let fr = ap (λ q. q.room) found.1 in omega arith;
        })
    by t read None is rest = none rest
    by t read (Some k.Mfence) is rest = none rest
    by t read (Some k.Sfence) is rest = none rest
    by t read (Some k.Flush) is rest = none rest
    by t read (Some k.Flushopt) is rest = none rest
    by t read (Some k.Cas) is rest = none rest
    by t read (Some k.If) is rest = none rest
    by t read (Some k.While) is rest = none rest

branch_found : (names : NameTable) (m : ℕ) (below : Option (Parser Noted)) → Below names m below → (i l j : Input) (n : Noted)
    → Stands names (word (spelling k.If)) i.cursor l.cursor → i.room ≡ l.room → branch text_limits names below l ≡ Ok (n, j) → Found names g.stmt m i (alone n) j
unfolding branch
branch_found names m below claim i l j n st room h =
    bind_then (a_test text_limits names l) _ (n, j) h (λ c o first rest.
    bind_then (block text_limits names below o) _ (n, j) rest (λ a p second rest2.
    bind_then (else_part text_limits names below p) _ (n, j) rest2 (λ b q third end.
    let tested = test_found names l o c first in
    let yes_part = block_found names m below claim o p a second in
    let no_part = else_found names m below claim p q b third in
    subst (λ (q : Noted × Input). Found names g.stmt m i (alone q.0) q.1) (ok_same (joined c a b, q) (n, j) end) (record {
      is = g.an_if m c a.stmts b.stmts a.notes b.notes i.cursor l.cursor o.cursor p.cursor q.cursor st tested.is yes_part.is no_part.is;
      room = let r1 = tested.room in let r2 = yes_part.room in let r3 = no_part.room in let many = length-append a.notes b.notes in omega arith;
    }))))

repeat_found : (names : NameTable) (m : ℕ) (below : Option (Parser Noted)) → Below names m below → (i l j : Input) (n : Noted)
    → Stands names (word (spelling k.While)) i.cursor l.cursor → i.room ≡ l.room → repeat text_limits names below l ≡ Ok (n, j) → Found names g.stmt m i (alone n) j
unfolding repeat
repeat_found names m below claim i l j n st room h =
    bind_then (a_test text_limits names l) _ (n, j) h (λ c o first rest.
    bind_then (block text_limits names below o) _ (n, j) rest (λ a p second end.
    let tested = test_found names l o c first in
    let inner = block_found names m below claim o p a second in
    subst (λ (q : Noted × Input). Found names g.stmt m i (alone q.0) q.1) (ok_same (record { stmt = bare (act.While c a.stmts); notes = a.notes }, p) (n, j) end) (record {
      is = g.a_while m c a.stmts a.notes i.cursor l.cursor o.cursor p.cursor st tested.is inner.is;
      room = let r1 = tested.room in let r2 = inner.room in omega arith;
    })))

-- ---- statements

statement_in_found : (names : NameTable) (m : ℕ) (below : Option (Parser Noted)) → Below names m below → (i j : Input) (n : Noted) → statement_in text_limits names below i ≡ Ok (n, j) → Found names g.stmt m i (alone n) j
unfolding statement_in
statement_in_found names m below claim i j n h =
    bind_then (peek i) _ (n, j) h (λ t q sees rest.
    let p = peek_found i q t sees in
    by t p.0 (keyword t) refl (subst (λ q. statement_by text_limits names below (keyword t) q ≡ Ok (n, j)) p.1 rest))
  where
    stands : (t : Lexeme) (x : Keyword) (l : Input) → token i.cursor ≡ Ok t → keyword t ≡ Some x → l ≡ record i { cursor = after i.cursor } → Stands names (word (spelling x)) i.cursor l.cursor
    stands t x l read is at = record { lexeme = t; read = read; matches = keyword_found t x is; behind = ap (λ q. q.cursor) at }

    by : (t : Lexeme) → token i.cursor ≡ Ok t → (o : Option Keyword) → keyword t ≡ o → statement_by text_limits names below o i ≡ Ok (n, j) → Found names g.stmt m i (alone n) j
    by t read (Some k.If) is rest =
        bind_then (next i) (λ u. branch text_limits names below) (n, j) rest (λ w l takes rest2.
        let at = (next_found i l w takes).1 in
        branch_found names m below claim i l j n (stands t k.If l read is at) (sym (ap (λ q. q.room) at)) rest2)
    by t read (Some k.While) is rest =
        bind_then (next i) (λ u. repeat text_limits names below) (n, j) rest (λ w l takes rest2.
        let at = (next_found i l w takes).1 in
        repeat_found names m below claim i l j n (stands t k.While l read is at) (sym (ap (λ q. q.room) at)) rest2)
    by t read None is rest = simple_found names m i j n rest
    by t read (Some k.Mfence) is rest = simple_found names m i j n rest
    by t read (Some k.Sfence) is rest = simple_found names m i j n rest
    by t read (Some k.Flush) is rest = simple_found names m i j n rest
    by t read (Some k.Flushopt) is rest = simple_found names m i j n rest
    by t read (Some k.Cas) is rest = simple_found names m i j n rest
    by t read (Some k.Else) is rest = simple_found names m i j n rest

statement_found : (names : NameTable) (m : ℕ) (i j : Input) (n : Noted) → statement text_limits names m i ≡ Ok (n, j) → Found names g.stmt m i (alone n) j
unfolding statement
statement_found names zero i j n h = statement_in_found names zero None tt i j n h
statement_found names (suc m) i j n h = statement_in_found names (suc m) (Some (statement text_limits names m)) (m, refl, statement_found names m) i j n h

-- ---- bodies

-- a body that was read after other lines
record Rest (names : NameTable) (before : Lines) (i : Input) (all : Lines) (j : Input) : Type 0 where
  stmts : List Stmt
  notes : List (Plain RawAtom)
  stmts_are : all.stmts ≡ before.stmts ++ stmts
  notes_are : all.notes ≡ before.notes ++ notes
  is : IsBody text_limits names i.cursor stmts notes j.cursor
  room : i.room ≡ j.room + length notes
  stops : BeginsNone names j.cursor

line_rest : (names : NameTable) (before : Lines) (f : Plain RawAtom) (a : Noted) (i u v j : Input) (all : Lines)
    → IsNote text_limits names i.cursor f u.cursor → i.room ≡ u.room + 1 → Found names g.stmt most_open_blocks u (alone a) v → Rest names (with_stmt (with_note before f) a) v all j → Rest names before i all j
line_rest names before f a i u v j all noted room stmt b = record {
  stmts = a.stmt ∷ b.stmts;
  notes = f ∷ (a.notes ++ b.notes);
  stmts_are = b.stmts_are ∙ append_assoc before.stmts (a.stmt ∷ []) b.stmts;
  notes_are = b.notes_are ∙ append_assoc (before.notes ++ f ∷ []) a.notes b.notes ∙ append_assoc before.notes (f ∷ []) (a.notes ++ b.notes);
  is = g.body_line f a.stmt b.stmts a.notes b.notes i.cursor u.cursor v.cursor j.cursor noted stmt.is b.is;
  room = let sr = stmt.room in let br = b.room in let many = length-append a.notes b.notes in omega arith;
  stops = b.stops;
}

body_on_found : (names : NameTable) (n : ℕ) (before all : Lines) (i j : Input) → body_on text_limits names n before i ≡ Ok (all, j) → Rest names before i all j
unfolding body_on line_of_body
body_on_found names zero before all i j h = cc
body_on_found names (suc n) before all i j h =
    bind_then (line_of_body text_limits names before i) _ (all, j) h (λ p w one rest.
    bind_then (note text_limits names i) _ (p, w) one (λ f l notes two.
    bind_then (peek l) _ (p, w) two (λ t u sees three.
    let noted = note_found names i l f notes in
    let q = peek_found l u t sees in
    by f l t noted.0 noted.1 q.0 (λ b i h. body_on_found names n b all i j h) p w rest (begins names t) refl
    (subst (λ u. stmt_or_end text_limits names (with_note before f) (begins names t) u ≡ Ok (p, w)) q.1 three))))
  where
    by : (f : Plain RawAtom) (l : Input) (t : Lexeme) → IsNote text_limits names i.cursor f l.cursor → i.room ≡ l.room + 1 → token l.cursor ≡ Ok t
        → ((b : Lines) (i : Input) → body_on text_limits names n b i ≡ Ok (all, j) → Rest names b i all j)
        → (p : Lines × Bool) (w : Input) → body_goes_on (body_on text_limits names n) p w ≡ Ok (all, j)
        → (b : Bool) → begins names t ≡ b → stmt_or_end text_limits names (with_note before f) b l ≡ Ok (p, w) → Rest names before i all j
    by f l t noted room read behind p w rest true is one =
        bind_then (statement text_limits names most_open_blocks l) _ (p, w) one (λ a v reads end.
        let same = ok_same ((with_stmt (with_note before f) a, true), v) (p, w) end in
        line_rest names before f a i l v j all noted room (statement_found names most_open_blocks l v a reads)
        (behind (with_stmt (with_note before f) a) v (ap (λ (q : (Lines × Bool) × Input). body_goes_on (body_on text_limits names n) q.0 q.1) same ∙ rest)))
    by f l t noted room read behind p w rest false is one =
        let ends = ok_same ((with_note before f, false), l) (p, w) one in
        let same = ok_same (with_note before f, l) (all, j) (ap (λ (q : (Lines × Bool) × Input). body_goes_on (body_on text_limits names n) q.0 q.1) ends ∙ rest) in
        subst (λ (q : Lines × Input). Rest names before i q.0 q.1) same (record {
          stmts = [];
          notes = f ∷ [];
          stmts_are = sym (append-nil before.stmts);
          notes_are = refl;
          is = g.last_note f i.cursor l.cursor noted;
          room = room;
          stops = record { lexeme = t; read = read; begins_none = is };
        })

-- a body that is read is in the grammar
pub thread_found : (names : NameTable) (c to : Cursor) (l : Lines) → thread_at names c ≡ Ok (l, to) → IsThreadText names c l to
unfolding thread_at
thread_found names c to l h =
    placed_then (body text_limits names (record { cursor = c; room = most_points })) l to h (λ j reads at.
    let r = body_on_found names (most_points + 1) no_lines l (record { cursor = c; room = most_points }) j reads in
    subst (IsThreadText names c l) at (record {
      body = subst (λ ns. IsBody text_limits names c l.stmts ns j.cursor) (sym r.notes_are) (subst (λ ss. IsBody text_limits names c ss r.notes j.cursor) (sym r.stmts_are) r.is);
      few = let room = r.room in let many = ap length r.notes_are in omega arith;
      stops = r.stops;
    }))
