-- The same of the readers of statements with their blocks, and of bodies of threads.
use Rattle.std.proofs.Common.{◌≡◌, ℕ, zero, suc, ◌+◌, ◌<◌, ◌≤◌, Bool, true, false, Ok, Err, Some, None, List, [], refl, ap, arith, inl, inr}
use Rattle.std.specs.Prelude.{◌⊎◌, if◌then◌else◌, Option}
use Rattle.pg_lex.specs.declared.token.Sign.TheVariants as s
use Rattle.pg_lex.specs.declared.fault.TextKind.TheVariants.{TooDeep, Unexpected}
use Rattle.pg_lex.specs.Lex.{Cursor, Lexeme, token, after}
use Rattle.pg_program.specs.NameTable.{NameTable}
use Rattle.pg_program.specs.declared.syntax.Stmt.{roll-Stmt}
use Rattle.pg_program.specs.declared.syntax.Cond.{Cond}
use Rattle.pg_program.specs.declared.syntax.Act.{Act}
use Rattle.pg_program.specs.declared.syntax.Act.TheVariants as act
use Rattle.pg_program.specs.declared.syntax.AuxAssign.{AuxAssign}
use Rattle.pg_assertion_text.specs.Input.{Input, Outcome, Parser, and_then, ◌>>=◌, ◌>>◌, pure, refuse, peek, next, expect, is_sign}
use Rattle.pg_assertion_text.proofs.Steps.{ok_same, bind_then}
use Rattle.pg_assertion_text.proofs.Local.{Grown, grown_less, Same, Local, known, refused, limited, token_local, peek_local, local_behind, local_then, local_pure, turns_on, onwards, Turns, Spends, loop_free, loop_local, no_rise}
use Rattle.pg_assertion_text.proofs.LocalFormula.{local_made, local_closed, local_opened}
use Rattle.pg_program_text.specs.Limits.{Limits}
use Rattle.pg_program_text.specs.declared.keyword.Keyword.{Keyword}
use Rattle.pg_program_text.specs.declared.keyword.Keyword.TheVariants as k
use Rattle.pg_program_text.specs.Keywords.{keyword}
use Rattle.pg_program_text.specs.Stmt.{note, a_test, an_act, bracket}
use Rattle.pg_program_text.specs.Thread.{Lines, Noted, no_lines, bare, with_note, with_stmt, ending, simple, ends_by, ends, line, line_or_end, lines_on, lines, refuse_block, block, else_by, else_part, joined, branch, repeat, statement_by, statement_in, statement, begins, stmt_or_end, line_of_body, body_goes_on, body_on, body}
use Rattle.pg_program_text.proofs.ExprComplete.{at}
use Rattle.pg_program_text.proofs.LocalExpr.{Sinks, Both, grown_below}
use Rattle.pg_program_text.proofs.LocalParts.{AllGrown, none_grown, local_note, local_test, local_act, local_bracket, note_spends}

-- ---- simple statements

local_ending : (X : Type 0) (L M : Limits) (names : NameTable) → AllGrown X L M → Local X (ending L names) (ending M names)
unfolding ending
local_ending X L M names grown = local_then X (bracket L names) (bracket M names) (λ b. expect s.Semicolon >> pure b) (λ b. expect s.Semicolon >> pure b) (local_bracket X L M names grown) (λ b. local_closed X s.Semicolon b)

abbrev plain_stmt : Act → List AuxAssign → Noted
plain_stmt a b = record { stmt = roll-Stmt (record { act = a; aux = b }); notes = [] }

local_simple : (X : Type 0) (L M : Limits) (names : NameTable) → AllGrown X L M → Local X (simple L names) (simple M names)
unfolding simple
local_simple X L M names grown =
    local_then X (an_act L names) (an_act M names) (λ a. ending L names >>= (λ b. pure (plain_stmt a b))) (λ a. ending M names >>= (λ b. pure (plain_stmt a b))) (local_act X L M names grown) (λ a.
    local_made X (ending L names) (ending M names) (λ b. plain_stmt a b) (local_ending X L M names grown))

-- ---- lines of a block

local_ends : (X : Type 0) → Local X ends ends
unfolding ends
local_ends X = peek_local X (λ t. ends_by (is_sign s.CloseBrace t.kind)) (λ t. ends_by (is_sign s.CloseBrace t.kind)) (λ c r t is. by (is_sign s.CloseBrace t.kind) c r)
  where
    by : (b : Bool) → Local X (ends_by b) (ends_by b)
    by true = local_behind X (pure true) (pure true) (local_pure X true)
    by false = local_pure X false

local_line : (X : Type 0) (L M : Limits) (names : NameTable) → AllGrown X L M → (p q : Parser Noted) → Local X p q → (l : Lines) → Local X (line L names p l) (line M names q l)
unfolding line
local_line X L M names grown p q same l =
    local_then X (note L names) (note M names) (λ f. p >>= (λ a. pure (with_stmt (with_note l f) a))) (λ f. q >>= (λ a. pure (with_stmt (with_note l f) a))) (local_note X L M names grown) (λ f.
    local_made X p q (λ a. with_stmt (with_note l f) a) same)

lines_go : Limits → NameTable → Parser Noted → Lines → Bool → Parser (Lines ⊎ Lines)
lines_go limits names stmt l true = pure (inr l)
lines_go limits names stmt l false = line limits names stmt l >>= (λ m. pure (inl m))

lines_turn : Limits → NameTable → Parser Noted → Lines → Parser (Lines ⊎ Lines)
lines_turn limits names stmt l = ends >>= lines_go limits names stmt l

lines_is : (limits : Limits) (names : NameTable) (stmt : Parser Noted) → Turns (lines_turn limits names stmt) (lines_on limits names stmt)
unfolding lines_on turns_on lines_turn lines_go
lines_is limits names stmt zero l i = refl
lines_is limits names stmt (suc n) l i = by (λ l j. lines_is limits names stmt n l j) (ends i)
  where
    on : ((l : Lines) (j : Input) → lines_on limits names stmt n l j ≡ turns_on (lines_turn limits names stmt) n l j) → (o : Outcome Lines)
        → and_then o (lines_on limits names stmt n) ≡ and_then (and_then o (λ m. pure {A = Lines ⊎ Lines} (inl m))) (onwards (turns_on (lines_turn limits names stmt) n))
    on same (Ok p) = same p.0 p.1
    on same (Err e) = refl

    go : ((l : Lines) (j : Input) → lines_on limits names stmt n l j ≡ turns_on (lines_turn limits names stmt) n l j) → (b : Bool) (j : Input)
        → line_or_end limits names stmt (lines_on limits names stmt n) l b j ≡ and_then (lines_go limits names stmt l b j) (onwards (turns_on (lines_turn limits names stmt) n))
    go same true j = refl
    go same false j = on same (line limits names stmt l j)

    by : ((l : Lines) (j : Input) → lines_on limits names stmt n l j ≡ turns_on (lines_turn limits names stmt) n l j) → (o : Outcome Bool)
        → and_then o (line_or_end limits names stmt (lines_on limits names stmt n) l) ≡ and_then (and_then o (lines_go limits names stmt l)) (onwards (turns_on (lines_turn limits names stmt) n))
    by same (Ok p) = go same p.0 p.1
    by same (Err e) = refl

-- a line takes the point of its note
line_spends : (limits : Limits) (names : NameTable) (stmt : Parser Noted) → Sinks stmt → (l m : Lines) (i j : Input) → line limits names stmt l i ≡ Ok (m, j) → j.room < i.room
unfolding line
line_spends limits names stmt sinks l m i j h =
    bind_then (note limits names i) (λ f. stmt >>= (λ a. pure (with_stmt (with_note l f) a))) (m, j) h (λ f k noted rest.
    bind_then (stmt k) (λ a. pure (with_stmt (with_note l f) a)) (m, j) rest (λ a n read last.
    let one = note_spends limits names i k f noted in
    let two = sinks k n a read in
    let same = ap (λ (p : Lines × Input). p.1.room) (ok_same (with_stmt (with_note l f) a, n) (m, j) last) in
    omega (arith, one, two, same)))

lines_spends : (limits : Limits) (names : NameTable) (stmt : Parser Noted) → Sinks stmt → Spends (lines_turn limits names stmt)
unfolding lines_turn lines_go
lines_spends limits names stmt sinks l b i j h = bind_then (ends i) (lines_go limits names stmt l) (inl b, j) h by
  where
    by : (v : Bool) (k : Input) → ends i ≡ Ok (v, k) → lines_go limits names stmt l v k ≡ Ok (inl b, j) → j.room < i.room
    by true k is rest = let same = ap (λ (p : (Lines ⊎ Lines) × Input). p.0) (ok_same (inr l, k) (inl b, j) rest) in cc
    by false k is rest = bind_then (line limits names stmt l k) (λ m. pure (inl m)) (inl b, j) rest (λ m n read last.
        let one = no_rise ⊥ ends ends (local_ends ⊥) i k false is in
        let two = line_spends limits names stmt sinks l m k n read in
        let same = ap (λ (p : (Lines ⊎ Lines) × Input). p.1.room) (ok_same (inl m, n) (inl b, j) last) in
        omega (arith, one, two, same))

-- the turns of the lines of a block are never spent
pub lines_free : (limits : Limits) (names : NameTable) (stmt : Parser Noted) → Sinks stmt → (n : ℕ) (l : Lines) (i : Input) → i.room < n → lines_on limits names stmt n l i ≡ lines_on limits names stmt (i.room + 1) l i
lines_free limits names stmt sinks n l i less = loop_free (lines_turn limits names stmt) (lines_on limits names stmt) (lines_is limits names stmt) (lines_spends limits names stmt sinks) n l i less

lines_go_local : (X : Type 0) (L M : Limits) (names : NameTable) → AllGrown X L M → (p q : Parser Noted) → Local X p q → (l : Lines) (b : Bool) → Local X (lines_go L names p l b) (lines_go M names q l b)
unfolding lines_go
lines_go_local X L M names grown p q same l true = local_pure X (inr l)
lines_go_local X L M names grown p q same l false = local_made X (line L names p l) (line M names q l) (λ m. inl m) (local_line X L M names grown p q same l)

local_lines : (X : Type 0) (L M : Limits) (names : NameTable) → AllGrown X L M → (p q : Parser Noted) → Both X p q → Local X (lines L names p) (lines M names q)
unfolding lines lines_turn
local_lines X L M names grown p q both =
    loop_local X (lines_turn L names p) (lines_turn M names q) (lines_on L names p) (lines_on M names q) (lines_is L names p) (lines_is M names q) (lines_spends L names p (no_rise X p q both.0)) (lines_spends M names q (no_rise ⊥ q q both.1))
    (λ l. local_then X ends ends (lines_go L names p l) (lines_go M names q l) (local_ends X) (λ b. lines_go_local X L M names grown p q both.0 l b)) no_lines

-- ---- blocks

abbrev BelowLocal : Type 0 → Option (Parser Noted) → Option (Parser Noted) → Type 0
BelowLocal X None None = Unit {0}
BelowLocal X None (Some q) = X
BelowLocal X (Some p) None = ⊥
BelowLocal X (Some p) (Some q) = Both X p q

-- a brace, as what it is tells
abbrev brace : Lexeme → Bool → Parser (Unit {0})
brace t b = if b then pure tt else refuse t.place Unexpected

abbrev opens : Limits → NameTable → Parser Noted → Lexeme → Parser Lines
opens limits names q t = brace t (is_sign s.OpenBrace t.kind) >> lines limits names q

-- a block where the other reader may open one more
deep_block : (X : Type 0) (L M : Limits) (names : NameTable) → AllGrown X L M → (q : Parser Noted) → X → Local X (block L names None) (block M names (Some q))
unfolding expect
deep_block X L M names grown q x c r =
    known X c r ((next >>= refuse_block) (at c r)) (λ d t. (next >>= opens M names q) (at d t)) (λ d t. block M names (Some q) (at d t)) (λ d t first. apart (next (at d t)))
    (token_local X refuse_block (opens M names q) (λ c r t is. by c r t is (is_sign s.OpenBrace t.kind)) c r)
  where
    apart : (o : Outcome Lexeme) → and_then (and_then o (λ t. brace t (is_sign s.OpenBrace t.kind))) (λ u. lines M names q) ≡ and_then o (opens M names q)
    apart (Ok p) = refl
    apart (Err e) = refl

    by : (c : Cursor) (r : ℕ) (t : Lexeme) → token c ≡ Ok t → (b : Bool) → Same {A = Lines} X c r (refuse t.place (if b then TooDeep else Unexpected) (at (after c) r)) (λ d s. (brace t b >> lines M names q) (at (after d) s))
    by c r t is true = limited X Lines x c r t TooDeep is (t.place, inr refl) (λ d s. lines M names q (at (after d) s))
    by c r t is false = refused X Lines c r t Unexpected is

local_block : (X : Type 0) (L M : Limits) (names : NameTable) → AllGrown X L M → (a b : Option (Parser Noted)) → BelowLocal X a b → Local X (block L names a) (block M names b)
local_block X L M names grown None None below = token_local X refuse_block refuse_block (λ c r t is. refused X Lines c r t (if is_sign s.OpenBrace t.kind then TooDeep else Unexpected) is)
local_block X L M names grown None (Some q) below = deep_block X L M names grown q below
local_block X L M names grown (Some p) None below = absurd below
local_block X L M names grown (Some p) (Some q) below = local_opened X s.OpenBrace (lines L names p) (lines M names q) (local_lines X L M names grown p q below)

-- ---- branches, loops, statements

local_else_by : (X : Type 0) (L M : Limits) (names : NameTable) → AllGrown X L M → (a b : Option (Parser Noted)) → BelowLocal X a b → (o : Option Keyword) → Local X (else_by L names a o) (else_by M names b o)
local_else_by X L M names grown a b below (Some k.Else) = local_behind X (block L names a) (block M names b) (local_block X L M names grown a b below)
local_else_by X L M names grown a b below (Some k.Mfence) = local_pure X no_lines
local_else_by X L M names grown a b below (Some k.Sfence) = local_pure X no_lines
local_else_by X L M names grown a b below (Some k.Flush) = local_pure X no_lines
local_else_by X L M names grown a b below (Some k.Flushopt) = local_pure X no_lines
local_else_by X L M names grown a b below (Some k.Cas) = local_pure X no_lines
local_else_by X L M names grown a b below (Some k.If) = local_pure X no_lines
local_else_by X L M names grown a b below (Some k.While) = local_pure X no_lines
local_else_by X L M names grown a b below None = local_pure X no_lines

local_else : (X : Type 0) (L M : Limits) (names : NameTable) → AllGrown X L M → (a b : Option (Parser Noted)) → BelowLocal X a b → Local X (else_part L names a) (else_part M names b)
unfolding else_part
local_else X L M names grown a b below = peek_local X (λ t. else_by L names a (keyword t)) (λ t. else_by M names b (keyword t)) (λ c r t is. local_else_by X L M names grown a b below (keyword t) c r)

local_branch : (X : Type 0) (L M : Limits) (names : NameTable) → AllGrown X L M → (a b : Option (Parser Noted)) → BelowLocal X a b → Local X (branch L names a) (branch M names b)
unfolding branch
local_branch X L M names grown a b below =
    local_then X (a_test L names) (a_test M names) (λ c. block L names a >>= (λ l. else_part L names a >>= (λ m. pure (joined c l m)))) (λ c. block M names b >>= (λ l. else_part M names b >>= (λ m. pure (joined c l m)))) (local_test X L M names grown) (λ c.
    local_then X (block L names a) (block M names b) (λ l. else_part L names a >>= (λ m. pure (joined c l m))) (λ l. else_part M names b >>= (λ m. pure (joined c l m))) (local_block X L M names grown a b below) (λ l.
    local_made X (else_part L names a) (else_part M names b) (λ m. joined c l m) (local_else X L M names grown a b below)))

abbrev repeated : Cond → Lines → Noted
repeated c a = record { stmt = bare (act.While c a.stmts); notes = a.notes }

local_repeat : (X : Type 0) (L M : Limits) (names : NameTable) → AllGrown X L M → (a b : Option (Parser Noted)) → BelowLocal X a b → Local X (repeat L names a) (repeat M names b)
unfolding repeat
local_repeat X L M names grown a b below =
    local_then X (a_test L names) (a_test M names) (λ c. block L names a >>= (λ l. pure (repeated c l))) (λ c. block M names b >>= (λ l. pure (repeated c l))) (local_test X L M names grown) (λ c.
    local_made X (block L names a) (block M names b) (λ l. repeated c l) (local_block X L M names grown a b below))

local_statement_by : (X : Type 0) (L M : Limits) (names : NameTable) → AllGrown X L M → (a b : Option (Parser Noted)) → BelowLocal X a b → (o : Option Keyword) → Local X (statement_by L names a o) (statement_by M names b o)
local_statement_by X L M names grown a b below (Some k.If) = local_behind X (branch L names a) (branch M names b) (local_branch X L M names grown a b below)
local_statement_by X L M names grown a b below (Some k.While) = local_behind X (repeat L names a) (repeat M names b) (local_repeat X L M names grown a b below)
local_statement_by X L M names grown a b below (Some k.Else) = local_simple X L M names grown
local_statement_by X L M names grown a b below (Some k.Mfence) = local_simple X L M names grown
local_statement_by X L M names grown a b below (Some k.Sfence) = local_simple X L M names grown
local_statement_by X L M names grown a b below (Some k.Flush) = local_simple X L M names grown
local_statement_by X L M names grown a b below (Some k.Flushopt) = local_simple X L M names grown
local_statement_by X L M names grown a b below (Some k.Cas) = local_simple X L M names grown
local_statement_by X L M names grown a b below None = local_simple X L M names grown

local_statement_in : (X : Type 0) (L M : Limits) (names : NameTable) → AllGrown X L M → (a b : Option (Parser Noted)) → BelowLocal X a b → Local X (statement_in L names a) (statement_in M names b)
unfolding statement_in
local_statement_in X L M names grown a b below = peek_local X (λ t. statement_by L names a (keyword t)) (λ t. statement_by M names b (keyword t)) (λ c r t is. local_statement_by X L M names grown a b below (keyword t) c r)

statement_self : (limits : Limits) (names : NameTable) (n : ℕ) → Local ⊥ (statement limits names n) (statement limits names n)
unfolding statement
statement_self limits names zero = local_statement_in ⊥ limits limits names (none_grown ⊥ limits) None None tt
statement_self limits names (suc n) =
    local_statement_in ⊥ limits limits names (none_grown ⊥ limits) (Some (statement limits names n)) (Some (statement limits names n)) (statement_self limits names n, statement_self limits names n)

pub local_statement : (X : Type 0) (L M : Limits) (names : NameTable) → AllGrown X L M → (n m : ℕ) → Grown X n m → Local X (statement L names n) (statement M names m)
unfolding statement
local_statement X L M names grown zero zero more = local_statement_in X L M names grown None None tt
local_statement X L M names grown zero (suc m) (inl equal) = absurd (omega (arith, equal))
local_statement X L M names grown zero (suc m) (inr more) = local_statement_in X L M names grown None (Some (statement M names m)) more.0
local_statement X L M names grown (suc n) zero more = absurd (let less = grown_less X (suc n) zero more in omega (arith, less))
local_statement X L M names grown (suc n) (suc m) more =
    local_statement_in X L M names grown (Some (statement L names n)) (Some (statement M names m)) (local_statement X L M names grown n m (grown_below X n m more), statement_self M names m)

-- ---- bodies

local_stmt_or_end : (X : Type 0) (L M : Limits) (names : NameTable) → AllGrown X L M → (l : Lines) (b : Bool) → Local X (stmt_or_end L names l b) (stmt_or_end M names l b)
local_stmt_or_end X L M names grown l true = local_made X (statement L names L.blocks) (statement M names M.blocks) (λ a. (with_stmt l a, true)) (local_statement X L M names grown L.blocks M.blocks grown.blocks)
local_stmt_or_end X L M names grown l false = local_pure X (l, false)

-- what comes after a note
abbrev pub after_note : Limits → NameTable → Lines → Parser (Lines × Bool)
after_note limits names l = peek >>= (λ t. stmt_or_end limits names l (begins names t))

pub local_after_note : (X : Type 0) (L M : Limits) (names : NameTable) → AllGrown X L M → (l : Lines) → Local X (after_note L names l) (after_note M names l)
local_after_note X L M names grown l = peek_local X (λ t. stmt_or_end L names l (begins names t)) (λ t. stmt_or_end M names l (begins names t)) (λ c r t is. local_stmt_or_end X L M names grown l (begins names t) c r)

local_line_of_body : (X : Type 0) (L M : Limits) (names : NameTable) → AllGrown X L M → (l : Lines) → Local X (line_of_body L names l) (line_of_body M names l)
unfolding line_of_body
local_line_of_body X L M names grown l = local_then X (note L names) (note M names) (λ f. after_note L names (with_note l f)) (λ f. after_note M names (with_note l f)) (local_note X L M names grown) (λ f. local_after_note X L M names grown (with_note l f))

body_go : Lines × Bool → Parser (Lines ⊎ Lines)
body_go p = if p.1 then pure (inl p.0) else pure (inr p.0)

body_turn : Limits → NameTable → Lines → Parser (Lines ⊎ Lines)
body_turn limits names l = line_of_body limits names l >>= body_go

body_is : (limits : Limits) (names : NameTable) → Turns (body_turn limits names) (body_on limits names)
unfolding body_on turns_on body_turn body_go
body_is limits names zero l i = refl
body_is limits names (suc n) l i = by (λ l j. body_is limits names n l j) (line_of_body limits names l i)
  where
    go : ((l : Lines) (j : Input) → body_on limits names n l j ≡ turns_on (body_turn limits names) n l j) → (m : Lines) (b : Bool) (j : Input)
        → (if b then body_on limits names n m else pure m) j ≡ and_then ((if b then pure {A = Lines ⊎ Lines} (inl m) else pure (inr m)) j) (onwards (turns_on (body_turn limits names) n))
    go same m true j = same m j
    go same m false j = refl

    by : ((l : Lines) (j : Input) → body_on limits names n l j ≡ turns_on (body_turn limits names) n l j) → (o : Outcome (Lines × Bool))
        → and_then o (body_goes_on (body_on limits names n)) ≡ and_then (and_then o body_go) (onwards (turns_on (body_turn limits names) n))
    by same (Ok p) = go same p.0.0 p.0.1 p.1
    by same (Err e) = refl

body_spends : (limits : Limits) (names : NameTable) → Spends (body_turn limits names)
unfolding body_turn body_go line_of_body
body_spends limits names l b i j h =
    bind_then (and_then (note limits names i) (λ f. after_note limits names (with_note l f))) body_go (inl b, j) h (λ p k first rest.
    bind_then (note limits names i) (λ f. after_note limits names (with_note l f)) (p, k) first (λ f n noted behind.
    let one = note_spends limits names i n f noted in
    let two = no_rise ⊥ (after_note limits names (with_note l f)) (after_note limits names (with_note l f)) (local_after_note ⊥ limits limits names (none_grown ⊥ limits) (with_note l f)) n k p behind in
    let three = goes p.0 p.1 k rest in
    omega (arith, one, two, three)))
  where
    goes : (m : Lines) (v : Bool) (k : Input) → (if v then pure {A = Lines ⊎ Lines} (inl m) else pure (inr m)) k ≡ Ok (inl b, j) → j.room ≤ k.room
    goes m true k rest = let same = ap (λ (p : (Lines ⊎ Lines) × Input). p.1.room) (ok_same (inl m, k) (inl b, j) rest) in omega (arith, same)
    goes m false k rest = let same = ap (λ (p : (Lines ⊎ Lines) × Input). p.0) (ok_same (inr m, k) (inl b, j) rest) in cc

-- the turns of a body are never spent
pub body_free : (limits : Limits) (names : NameTable) (n : ℕ) (l : Lines) (i : Input) → i.room < n → body_on limits names n l i ≡ body_on limits names (i.room + 1) l i
body_free limits names n l i less = loop_free (body_turn limits names) (body_on limits names) (body_is limits names) (body_spends limits names) n l i less

local_body_turn : (X : Type 0) (L M : Limits) (names : NameTable) → AllGrown X L M → (l : Lines) → Local X (body_turn L names l) (body_turn M names l)
unfolding body_turn body_go
local_body_turn X L M names grown l = local_then X (line_of_body L names l) (line_of_body M names l) body_go body_go (local_line_of_body X L M names grown l) (λ p. by p.0 p.1)
  where
    by : (m : Lines) (b : Bool) → Local {A = Lines ⊎ Lines} X (if b then pure (inl m) else pure (inr m)) (if b then pure (inl m) else pure (inr m))
    by m true = local_pure X (inl m)
    by m false = local_pure X (inr m)

-- the rest of a body behind some lines
pub local_rest : (X : Type 0) (L M : Limits) (names : NameTable) → AllGrown X L M → (l : Lines) → Local X (λ i. body_on L names (i.room + 1) l i) (λ i. body_on M names (i.room + 1) l i)
local_rest X L M names grown l =
    loop_local X (body_turn L names) (body_turn M names) (body_on L names) (body_on M names) (body_is L names) (body_is M names) (body_spends L names) (body_spends M names) (local_body_turn X L M names grown) l

pub local_body : (X : Type 0) (L M : Limits) (names : NameTable) → AllGrown X L M → Local X (body L names) (body M names)
local_body X L M names grown = local_rest X L M names grown no_lines
