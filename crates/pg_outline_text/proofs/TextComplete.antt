-- A text of the grammar is read as what it is the text of.
use Rattle.std.proofs.Common.{◌≡◌, ℕ, zero, suc, ◌+◌, ◌-◌, ◌<◌, ◌≤◌, false, Ok, Err, List, [], ◌∷◌, ◌++◌, length, refl, ap, sym, ◌∙◌, subst, arith, append_assoc}
use Rattle.std.specs.Prelude.{if◌then◌else◌}
use Rattle.std.specs.Str.{bytes_eq}
use Rattle.std.proofs.lemmas.Bool.{eq-eqb}
use Rattle.std.proofs.lemmas.List.{length_push}
use Rattle.pg_lex.specs.declared.token.Sign.TheVariants as s
use Rattle.pg_lex.specs.declared.token.TokenKind.TheVariants as kind
use Rattle.pg_lex.specs.declared.fault.TextKind.TheVariants.{Unexpected}
use Rattle.pg_lex.specs.Lex.{Cursor, Lexeme, token, start}
use Rattle.pg_program.specs.NameTable.{NameTable, empty_table}
use Rattle.pg_assertion.specs.declared.atom.RawAtom.{RawAtom}
use Rattle.pg_assertion.specs.declared.atom.CrashAtom.{CrashAtom}
use Rattle.pg_assertion.specs.Formula.{Plain}
use Rattle.pg_assertion_text.specs.Words.{Stands, Stand, sign, number}
use Rattle.pg_assertion_text.specs.Input.{Input, and_then, pure, refuse, allowed, peek, next, node, expect, is_sign, named}
use Rattle.pg_assertion_text.specs.Atoms.{raw_atom, crash_atom, IsRaw, IsCrash}
use Rattle.pg_assertion_text.proofs.AtomLaws.{raw_found, raw_again, raw_begins, crash_found, crash_again, crash_begins}
use Rattle.pg_assertion_text.proofs.Steps.{bind_value, peek_reads, stands_token, node_reads, expect_reads, sign_is_same, stand-split}
use Rattle.pg_program_text.specs.Stmt.{behind}
use Rattle.pg_program_text.specs.Thread.{Lines, thread_at}
use Rattle.pg_program_text.specs.Grammar.{IsThreadText}
use Rattle.pg_program_text.proofs.ThreadComplete.{thread_reads}
use Rattle.pg_outline_text.specs.declared.word.Keyword.{Keyword}
use Rattle.pg_outline_text.specs.declared.word.Keyword.TheVariants as w
use Rattle.pg_outline_text.specs.Limits.{known_version, most_threads, declaration_turns}
use Rattle.pg_outline_text.specs.Word.{spelling}
use Rattle.pg_outline_text.specs.Declaration.{declarations}
use Rattle.pg_outline_text.specs.Reading.{precondition, crash_formula, opens_thread, opened, own_number_in, own_number, end_fault, close, thread, is_end, threads_on, threads, domain, outline_over, outline, whole}
use Rattle.pg_outline_text.specs.Source.{Source}
use Rattle.pg_outline_text.specs.Fault.{source_in, behind_version, source_of}
use Rattle.pg_outline_text.specs.Grammar.{keyword, IsGiven, left_out, written, IsThreadOfText, AreThreads, last_one, one_thread, IsSourceText}
use Rattle.pg_outline_text.proofs.Keywords.{keyword_told, keyword_is}
use Rattle.pg_outline_text.proofs.HeadComplete.{version_reads, domain_reads, DeclaresNone, declarations_read, IsNot, given_reads}

abbrev at : Cursor → ℕ → Input
at c r = record { cursor = c; room = r }

-- ---- threads

opened_reads : (names : NameTable) (r : ℕ) (from to : Cursor) → Stands names (keyword w.Thread) from to → 0 < r → opened (at from r) ≡ Ok (tt, at to (r - 1))
unfolding opened
opened_reads names r from to st some =
    bind_value (next (at from r)) opens_thread st.lexeme (at to r) (stands_token names (keyword w.Thread) (at from r) to st)
    ∙ ap (λ b. (if b then node st.lexeme.place else refuse st.lexeme.place Unexpected) (at to r)) (keyword_is w.Thread st.lexeme st.matches)
    ∙ node_reads st.lexeme.place (at to r) some

own_number_reads : (names : NameTable) (k r : ℕ) (from to : Cursor) → Stands names (number k) from to → own_number k (at from r) ≡ Ok (tt, at to r)
unfolding own_number
own_number_reads names k r from to st =
    bind_value (next (at from r)) (λ t. allowed t.place (own_number_in k t.kind)) st.lexeme (at to r) (stands_token names (number k) (at from r) to st)
    ∙ ap (λ z. allowed st.lexeme.place (own_number_in k z) (at to r)) st.matches
    ∙ ap (λ b. allowed st.lexeme.place (if b then Ok tt else Err Unexpected) (at to r)) (eq-eqb k k refl)

close_reads : (names : NameTable) (r : ℕ) (from to : Cursor) → Stands names (sign s.CloseBrace) from to → close names (at from r) ≡ Ok (tt, at to r)
unfolding close
close_reads names r from to st =
    bind_value (next (at from r)) (λ t. if is_sign s.CloseBrace t.kind then pure tt else refuse t.place (end_fault (named names t))) st.lexeme (at to r) (stands_token names (sign s.CloseBrace) (at from r) to st)
    ∙ ap (λ z. (if is_sign s.CloseBrace z then pure tt else refuse st.lexeme.place (end_fault (named names st.lexeme))) (at to r)) st.matches
    ∙ ap (λ b. (if b then pure tt else refuse st.lexeme.place (end_fault (named names st.lexeme))) (at to r)) (sign_is_same s.CloseBrace)

thread_is_read : (names : NameTable) (k r : ℕ) (from to : Cursor) (l : Lines) → IsThreadOfText names k from l to → 0 < r → thread names k (at from r) ≡ Ok (l, at to (r - 1))
unfolding thread
thread_is_read names k r from to l is some =
    let head = is.head in
    bind_value (and_then (and_then (and_then (opened (at from r)) (λ u. own_number k)) (λ u. expect s.OpenBrace)) (λ u q. behind q (thread_at names q.cursor))) (λ l. (λ i. and_then (close names i) (λ u. pure l))) l (at is.end (r - 1))
    (ap (λ o. and_then (and_then (and_then o (λ u. own_number k)) (λ u. expect s.OpenBrace)) (λ u q. behind q (thread_at names q.cursor))) (opened_reads names r from head.0 head.1 some)
    ∙ ap (λ o. and_then (and_then o (λ u. expect s.OpenBrace)) (λ u q. behind q (thread_at names q.cursor))) (own_number_reads names k (r - 1) head.0 head.2.0 head.2.1)
    ∙ ap (λ o. and_then o (λ u q. behind q (thread_at names q.cursor))) (expect_reads names s.OpenBrace (at head.2.0 (r - 1)) head.2.2.0 head.2.2.1)
    ∙ ap (behind (at head.2.2.0 (r - 1))) (thread_reads names head.2.2.0 is.end l (subst (λ c. IsThreadText names c l is.end) head.2.2.2 is.body)))
    ∙ ap (λ o. and_then o (λ u. pure l)) (close_reads names (r - 1) is.end to is.close)

-- the next token is this word
record Opens (k : Keyword) (c : Cursor) : Type 0 where
  lexeme : Lexeme
  read : token c ≡ Ok lexeme
  is : (lexeme.kind ≡ kind.Word) × (lexeme.text ≡ spelling k)

word_opens : (names : NameTable) (k : Keyword) (from to : Cursor) → Stands names (keyword k) from to → Opens k from
word_opens names k from to st = record { lexeme = st.lexeme; read = st.read; is = st.matches }

threads_open : (names : NameTable) (k : ℕ) (from : Cursor) (ls : List Lines) → AreThreads names k from ls → Opens w.Thread from
threads_open names _ _ _ (last_one k l from to is end) = word_opens names w.Thread from is.head.0 is.head.1
threads_open names _ _ _ (one_thread k l ls from to is rest) = word_opens names w.Thread from is.head.0 is.head.1

-- a thread, by the token behind it
turn_reads : (names : NameTable) (n r : ℕ) (found : List Lines) (l : Lines) (from to : Cursor) (t : Lexeme) → IsThreadOfText names (length found + 1) from l to → 0 < r → token to ≡ Ok t
    → threads_on names (suc n) found (at from r) ≡ (if is_end t.kind then pure (found ++ l ∷ []) else threads_on names n (found ++ l ∷ [])) (at to (r - 1))
unfolding threads_on
turn_reads names n r found l from to t is some read =
    ap (λ o. and_then o (λ l u. and_then (peek u) (λ t. if is_end t.kind then pure (found ++ l ∷ []) else threads_on names n (found ++ l ∷ [])))) (thread_is_read names (length found + 1) r from to l is some)
    ∙ ap (λ o. and_then o (λ t. if is_end t.kind then pure (found ++ l ∷ []) else threads_on names n (found ++ l ∷ []))) (peek_reads (at to (r - 1)) t read)

threads_read : (names : NameTable) (k : ℕ) (from : Cursor) (ls : List Lines) → AreThreads names k from ls → (n r : ℕ) → length ls ≤ r → r < n → (found : List Lines) → k ≡ length found + 1
    → (end : Input) × (threads_on names n found (at from r) ≡ Ok (found ++ ls, end))
threads_read names _ _ _ (last_one k l from to is end) zero r many turns found same = absurd (omega arith)
threads_read names _ _ _ (last_one k l from to is end) (suc n) r many turns found same = (
  at to (r - 1),
  turn_reads names n r found l from to end.lexeme (subst (λ k. IsThreadOfText names k from l to) same is) (omega arith) end.read
      ∙ ap (λ z. (if is_end z then pure (found ++ l ∷ []) else threads_on names n (found ++ l ∷ [])) (at to (r - 1))) end.is_end,
)
threads_read names _ _ _ (one_thread k l ls from to is rest) zero r many turns found same = absurd (omega arith)
threads_read names _ _ _ (one_thread k l ls from to is rest) (suc n) r many turns found same =
    let next = threads_open names (k + 1) to ls rest in
    let others = threads_read names (k + 1) to ls rest n (r - 1) (omega arith) (omega arith) (found ++ l ∷ []) (ap (λ k. k + 1) (same ∙ sym (length_push found l))) in (
      others.0,
      turn_reads names n r found l from to next.lexeme (subst (λ k. IsThreadOfText names k from l to) same is) (omega arith) next.read
          ∙ ap (λ z. (if is_end z then pure (found ++ l ∷ []) else threads_on names n (found ++ l ∷ [])) (at to (r - 1))) next.is.0
          ∙ others.1
          ∙ ap (λ ls. Ok (ls, others.0)) (append_assoc found (l ∷ []) ls),
    )

-- ---- what stands where a formula is left out

is_not : (k l : Keyword) (c : Cursor) → bytes_eq (spelling k) (spelling l) ≡ false → Opens k c → IsNot l c
is_not k l c differs o = record { lexeme = o.lexeme; read = o.read; differs = keyword_told l o.lexeme (spelling k) false o.is differs }

declares_none : (k : Keyword) (c : Cursor) → bytes_eq (spelling k) (spelling w.Location) ≡ false → bytes_eq (spelling k) (spelling w.Register) ≡ false → bytes_eq (spelling k) (spelling w.Auxiliary) ≡ false
    → Opens k c → DeclaresNone c
declares_none k c x y z o = record {
  lexeme = o.lexeme;
  read = o.read;
  no_location = keyword_told w.Location o.lexeme (spelling k) false o.is x;
  no_register = keyword_told w.Register o.lexeme (spelling k) false o.is y;
  no_auxiliary = keyword_told w.Auxiliary o.lexeme (spelling k) false o.is z;
}

-- no declaration and no precondition stands in front of the crash formula, or of the threads
record BehindPre (c : Cursor) : Type 0 where
  declares_none : DeclaresNone c
  no_pre : IsNot w.Pre c

crash_behind : (names : NameTable) (from to : Cursor) (f : Plain CrashAtom) → IsGiven IsCrash names w.Crash from f to → Opens w.Thread to → BehindPre from
crash_behind names _ _ _ (left_out from) opens = record { declares_none = declares_none w.Thread from refl refl refl opens; no_pre = is_not w.Thread w.Pre from refl opens }
crash_behind names _ _ _ (written f from mid end to st is semi) opens =
    let crash = word_opens names w.Crash from mid st in
    record { declares_none = declares_none w.Crash from refl refl refl crash; no_pre = is_not w.Crash w.Pre from refl crash }

pre_behind : (names : NameTable) (from to : Cursor) (f : Plain RawAtom) → IsGiven IsRaw names w.Pre from f to → DeclaresNone to → DeclaresNone from
pre_behind names _ _ _ (left_out from) none = none
pre_behind names _ _ _ (written f from mid end to st is semi) none = declares_none w.Pre from refl refl refl (word_opens names w.Pre from mid st)

-- ---- whole texts

precondition_reads : (names : NameTable) (r : ℕ) (from to : Cursor) (f : Plain RawAtom) → IsGiven IsRaw names w.Pre from f to → IsNot w.Pre to → precondition names (at from r) ≡ Ok (f, at to r)
unfolding precondition
precondition_reads names r from to f is other = given_reads raw_atom IsRaw raw_found raw_again raw_begins names w.Pre (at from r) f to is other

crash_formula_reads : (names : NameTable) (r : ℕ) (from to : Cursor) (f : Plain CrashAtom) → IsGiven IsCrash names w.Crash from f to → IsNot w.Crash to → crash_formula names (at from r) ≡ Ok (f, at to r)
unfolding crash_formula
crash_formula_reads names r from to f is other = given_reads crash_atom IsCrash crash_found crash_again crash_begins names w.Crash (at from r) f to is other

over_reads : (o : Source) (r : ℕ) (from crash_at threads_at : Cursor) → IsGiven IsRaw o.names w.Pre from o.pre crash_at → IsGiven IsCrash o.names w.Crash crash_at o.crash threads_at → AreThreads o.names 1 threads_at o.threads
    → length o.threads ≤ r → (end : Input) × (outline_over o.names (at from r) ≡ Ok (o, end))
unfolding outline_over threads
over_reads o r from crash_at threads_at pre crash threads few =
    let opens = threads_open o.names 1 threads_at o.threads threads in
    let behind = crash_behind o.names crash_at threads_at o.crash crash opens in
    let all = threads_read o.names 1 threads_at o.threads threads (r + 1) r few (omega arith) [] refl in (
      all.0,
      bind_value (precondition o.names (at from r)) _ o.pre (at crash_at r) (precondition_reads o.names r from crash_at o.pre pre behind.no_pre)
          ∙ bind_value (crash_formula o.names (at crash_at r)) _ o.crash (at threads_at r) (crash_formula_reads o.names r crash_at threads_at o.crash crash (is_not w.Thread w.Crash threads_at refl opens))
          ∙ ap (λ p. and_then p (λ ts. pure (record { names = o.names; pre = o.pre; crash = o.crash; threads = ts }))) all.1,
    )

outline_reads : (bytes : List ℕ) (o : Source) (is : IsSourceText bytes o) (mid : Cursor)
    → Stand (empty_table is.domain known_version) (sign s.Semicolon ∷ keyword w.Values ∷ number is.domain ∷ sign s.Semicolon ∷ []) mid is.decls → (end : Input) × (outline (at mid most_threads) ≡ Ok (o, end))
unfolding outline
outline_reads bytes o is mid head =
    let opens = threads_open o.names 1 is.threads_at o.threads is.threads in
    let behind = crash_behind o.names is.crash_at is.threads_at o.crash is.crash opens in
    let none = pre_behind o.names is.pre_at is.crash_at o.pre is.pre behind.declares_none in
    let over = over_reads o most_threads is.pre_at is.crash_at is.threads_at is.pre is.crash is.threads is.few in
    let empty = empty_table is.domain known_version in (
      over.0,
      bind_value (and_then (expect s.Semicolon (at mid most_threads)) (λ u. domain)) (λ d. (λ i. and_then (declarations (empty_table d known_version) i) outline_over)) is.domain (at is.decls most_threads)
          (ap (λ p. and_then p (λ u. domain)) (expect_reads empty s.Semicolon (at mid most_threads) head.0 head.1) ∙ domain_reads empty (at head.0 most_threads) is.domain is.decls head.2)
          ∙ bind_value (declarations empty (at is.decls most_threads)) outline_over o.names (at is.pre_at most_threads)
          (declarations_read empty o.names (at is.decls most_threads) is.decls is.pre_at refl is.declared none (record { version = refl; locations = omega arith; scalars = omega arith }) declaration_turns (omega arith))
          ∙ over.1,
    )

-- what stands there is read
pub source_reads : (bytes : List ℕ) (o : Source) → IsSourceText bytes o → source_of bytes ≡ Ok o
unfolding source_of
source_reads bytes o is =
    let empty = empty_table is.domain known_version in
    let head = stand-split empty (keyword w.Pierogi ∷ number 1 ∷ []) (sign s.Semicolon ∷ keyword w.Values ∷ number is.domain ∷ sign s.Semicolon ∷ []) (start bytes) is.decls is.head in
    let rest = outline_reads bytes o is head.0 head.2 in
    ap behind_version (version_reads empty (whole bytes) 1 head.0 head.1) ∙ ap source_in rest.1
