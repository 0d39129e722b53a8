-- What a text is read as is in the grammar.
use Rattle.std.proofs.Common.{◌≡◌, ℕ, zero, suc, ◌+◌, ◌≤◌, Bool, true, false, Ok, Err, List, [], ◌∷◌, ◌++◌, length, refl, ap, sym, ◌∙◌, subst, arith, append_assoc}
use Rattle.std.specs.Prelude.{◌==◌, if◌then◌else◌, Result}
use Rattle.std.specs.Result.{result_unwrap_or}
use Rattle.std.proofs.lemmas.Bool.{eqb-true}
use Rattle.std.proofs.lemmas.List.{length_push}
use Rattle.pg_lex.specs.declared.token.Sign.TheVariants as s
use Rattle.pg_lex.specs.declared.token.TokenKind.{TokenKind}
use Rattle.pg_lex.specs.declared.token.TokenKind.TheVariants as kind
use Rattle.pg_lex.specs.declared.fault.TextKind.{TextKind}
use Rattle.pg_lex.specs.declared.fault.TextKind.TheVariants.{Unexpected}
use Rattle.pg_lex.specs.Lex.{Cursor, Lexeme, token, after}
use Rattle.pg_program.specs.NameTable.{NameTable, empty_table}
use Rattle.pg_assertion.specs.declared.atom.RawAtom.{RawAtom}
use Rattle.pg_assertion.specs.declared.atom.CrashAtom.{CrashAtom}
use Rattle.pg_assertion.specs.Formula.{Plain}
use Rattle.pg_assertion_text.specs.Words.{Stands, sign, number}
use Rattle.pg_assertion_text.specs.Input.{Input, Outcome, and_then, pure, refuse, peek, next, node, expect, is_sign, named}
use Rattle.pg_assertion_text.specs.Atoms.{raw_atom, crash_atom, IsRaw, IsCrash}
use Rattle.pg_assertion_text.proofs.AtomLaws.{raw_found, raw_again, raw_begins, crash_found, crash_again, crash_begins}
use Rattle.pg_assertion_text.proofs.Steps.{ok_same, bind_then, allowed_then, next_found, peek_found, Takes, takes_one, takes_then, node_takes, expect_found, is_sign_found}
use Rattle.pg_program_text.specs.Stmt.{behind}
use Rattle.pg_program_text.specs.Thread.{Lines, thread_at}
use Rattle.pg_program_text.specs.Grammar.{IsThreadText}
use Rattle.pg_program_text.proofs.ThreadSound.{thread_found}
use Rattle.pg_outline_text.specs.declared.word.Keyword.TheVariants as w
use Rattle.pg_outline_text.specs.Limits.{known_version, declaration_turns}
use Rattle.pg_outline_text.specs.Word.{is_keyword}
use Rattle.pg_outline_text.specs.Declaration.{declarations}
use Rattle.pg_outline_text.specs.Reading.{precondition, crash_formula, opens_thread, opened, own_number_in, own_number, end_fault, close, thread, is_end, threads_on, threads, domain, outline_over, outline, version, whole}
use Rattle.pg_outline_text.specs.Source.{Source}
use Rattle.pg_outline_text.specs.Fault.{Fault, other_version, source_in, behind_version, source_of}
use Rattle.pg_outline_text.specs.Grammar as g
use Rattle.pg_outline_text.specs.Grammar.{keyword, AreDeclarations, IsGiven, IsEnd, IsThreadOfText, AreThreads, IsSourceText}
use Rattle.pg_outline_text.proofs.Keywords.{keyword_found}
use Rattle.pg_outline_text.proofs.HeadSound.{Passed, version_found, domain_found, declarations_found, behind_then, given_found}

precondition_found : (names : NameTable) (i j : Input) (f : Plain RawAtom) → precondition names i ≡ Ok (f, j) → Passed (IsGiven IsRaw names w.Pre) i f j
unfolding precondition
precondition_found names i j f h = given_found raw_atom IsRaw raw_found raw_again raw_begins names w.Pre i j f h

crash_formula_found : (names : NameTable) (i j : Input) (f : Plain CrashAtom) → crash_formula names i ≡ Ok (f, j) → Passed (IsGiven IsCrash names w.Crash) i f j
unfolding crash_formula
crash_formula_found names i j f h = given_found crash_atom IsCrash crash_found crash_again crash_begins names w.Crash i j f h

-- ---- threads

opened_found : (names : NameTable) (i j : Input) (u : Unit {0}) → opened i ≡ Ok (u, j) → Takes names (keyword w.Thread ∷ []) 1 i j
unfolding opened
opened_found names i j u h =
    bind_then (next i) opens_thread (u, j) h (λ t l read rest. let found = next_found i l t read in by t l found.0 found.1 (is_keyword w.Thread t) refl rest)
  where
    by : (t : Lexeme) (l : Input) → token i.cursor ≡ Ok t → l ≡ record i { cursor = after i.cursor } → (b : Bool) → is_keyword w.Thread t ≡ b
        → ◌≡◌ {A = Outcome (Unit {0})} ((if b then node t.place else refuse t.place Unexpected) l) (Ok (u, j)) → Takes names (keyword w.Thread ∷ []) 1 i j
    by t l read at true e g = takes_then (takes_one names (keyword w.Thread) i l t read (keyword_found w.Thread t e) at) (node_takes names t.place l j u g)
    by t l read at false e g = cc

own_number_in_found : (k : ℕ) (z : TokenKind) (u : Unit {0}) → own_number_in k z ≡ Ok u → z ≡ kind.Number k
own_number_in_found k (kind.Number n) u h = by (n == k) refl h
  where
    by : (b : Bool) → n == k ≡ b → ◌≡◌ {A = Result (Unit {0}) TextKind} (if b then Ok tt else Err Unexpected) (Ok u) → kind.Number n ≡ kind.Number k
    by true e g = ap kind.Number (eqb-true n k e)
    by false e g = cc
own_number_in_found k kind.Word u h = cc
own_number_in_found k (kind.Letter b) u h = cc
own_number_in_found k (kind.Sign z) u h = cc
own_number_in_found k kind.End u h = cc

own_number_found : (names : NameTable) (k : ℕ) (i j : Input) (u : Unit {0}) → own_number k i ≡ Ok (u, j) → Takes names (number k ∷ []) 0 i j
unfolding own_number
own_number_found names k i j u h =
    bind_then (next i) _ (u, j) h (λ t l read rest.
    allowed_then t.place (own_number_in k t.kind) l (u, j) rest (λ v fine same.
    let found = next_found i l t read in
    takes_one names (number k) i j t found.0 (own_number_in_found k t.kind v fine) (sym (ap (λ (q : Unit {0} × Input). q.1) same) ∙ found.1)))

close_found : (names : NameTable) (i j : Input) (u : Unit {0}) → close names i ≡ Ok (u, j) → Takes names (sign s.CloseBrace ∷ []) 0 i j
unfolding close
close_found names i j u h =
    bind_then (next i) _ (u, j) h (λ t l read rest. let found = next_found i l t read in by t l found.0 found.1 (is_sign s.CloseBrace t.kind) refl rest)
  where
    by : (t : Lexeme) (l : Input) → token i.cursor ≡ Ok t → l ≡ record i { cursor = after i.cursor } → (b : Bool) → is_sign s.CloseBrace t.kind ≡ b
        → ◌≡◌ {A = Outcome (Unit {0})} ((if b then pure tt else refuse t.place (end_fault (named names t))) l) (Ok (u, j)) → Takes names (sign s.CloseBrace ∷ []) 0 i j
    by t l read at true e g =
        takes_one names (sign s.CloseBrace) i j t read (is_sign_found s.CloseBrace t.kind e) (sym (ap (λ (q : Unit {0} × Input). q.1) (ok_same (tt, l) (u, j) g)) ∙ at)
    by t l read at false e g = cc

pub thread_is_found : (names : NameTable) (k : ℕ) (i j : Input) (l : Lines) → thread names k i ≡ Ok (l, j) → IsThreadOfText names k i.cursor l j.cursor × (i.room ≡ j.room + 1)
unfolding thread
thread_is_found names k i j l h =
    bind_then (and_then (and_then (and_then (opened i) (λ u. own_number k)) (λ u. expect s.OpenBrace)) (λ u q. behind q (thread_at names q.cursor))) _ (l, j) h (λ a p body rest.
    bind_then (and_then (and_then (opened i) (λ u. own_number k)) (λ u. expect s.OpenBrace)) (λ u q. behind q (thread_at names q.cursor)) (a, p) body (λ u q head reads.
    bind_then (and_then (opened i) (λ u. own_number k)) (λ u. expect s.OpenBrace) (u, q) head (λ v m two brace.
    bind_then (opened i) (λ u. own_number k) (v, m) two (λ x o opens owns.
    bind_then (close names p) _ (l, j) rest (λ y n ends end.
    behind_then q (thread_at names q.cursor) a p reads (λ c found at.
    let items = takes_then (takes_then (opened_found names i o x opens) (own_number_found names k o m v owns)) (expect_found names s.OpenBrace m q u brace) in
    let last = close_found names p n y ends in
    subst (λ (z : Lines × Input). IsThreadOfText names k i.cursor z.0 z.1.cursor × (i.room ≡ z.1.room + 1)) (ok_same (a, n) (l, j) end) (
      record {
        mid = q.cursor;
        end = p.cursor;
        head = items.stand;
        body = subst (λ z. IsThreadText names q.cursor a z.cursor) (sym at) (thread_found names q.cursor c a found);
        close = subst (Stands names (sign s.CloseBrace) p.cursor) (sym last.stand.2) last.stand.1;
      },
      (let ir = items.room in let ar = ap (λ z. z.room) at in let lr = last.room in omega arith),
    )))))))

is_end_found : (z : TokenKind) → is_end z ≡ true → z ≡ kind.End
is_end_found kind.End h = refl
is_end_found kind.Word h = cc
is_end_found (kind.Number n) h = cc
is_end_found (kind.Letter b) h = cc
is_end_found (kind.Sign z) h = cc

-- threads that were read behind others
record Rest (names : NameTable) (found : List Lines) (i : Input) (all : List Lines) : Type 0 where
  rest : List Lines
  are : all ≡ found ++ rest
  is : AreThreads names (length found + 1) i.cursor rest
  few : length rest ≤ i.room

threads_on_found : (names : NameTable) (n : ℕ) (found all : List Lines) (i j : Input) → threads_on names n found i ≡ Ok (all, j) → Rest names found i all
unfolding threads_on
threads_on_found names zero found all i j h = cc
threads_on_found names (suc n) found all i j h =
    bind_then (thread names (length found + 1) i) _ (all, j) h (λ l m reads rest.
    bind_then (peek m) _ (all, j) rest (λ t q sees rest2.
    let p = peek_found m q t sees in
    by l m t (thread_is_found names (length found + 1) i m l reads) p.0 (λ found i h. threads_on_found names n found all i j h) (is_end t.kind) refl
    (subst (λ q. (if is_end t.kind then pure (found ++ l ∷ []) else threads_on names n (found ++ l ∷ [])) q ≡ Ok (all, j)) p.1 rest2)))
  where
    by : (l : Lines) (m : Input) (t : Lexeme) → IsThreadOfText names (length found + 1) i.cursor l m.cursor × (i.room ≡ m.room + 1) → token m.cursor ≡ Ok t
        → ((found : List Lines) (i : Input) → threads_on names n found i ≡ Ok (all, j) → Rest names found i all)
        → (b : Bool) → is_end t.kind ≡ b → (if b then pure (found ++ l ∷ []) else threads_on names n (found ++ l ∷ [])) m ≡ Ok (all, j) → Rest names found i all
    by l m t one read others true ends rest =
        let same = ok_same (found ++ l ∷ [], m) (all, j) rest in
        record {
          rest = l ∷ [];
          are = sym (ap (λ (q : List Lines × Input). q.0) same);
          is = g.last_one (length found + 1) l i.cursor m.cursor one.0 (record { lexeme = t; read = read; is_end = is_end_found t.kind ends });
          few = let room = one.1 in omega arith;
        }
    by l m t one read others false goes rest =
        let more = others (found ++ l ∷ []) m rest in
        record {
          rest = l ∷ more.rest;
          are = more.are ∙ append_assoc found (l ∷ []) more.rest;
          is = g.one_thread (length found + 1) l more.rest i.cursor m.cursor one.0 (subst (λ k. AreThreads names (k + 1) m.cursor more.rest) (length_push found l) more.is);
          few = let room = one.1 in let few = more.few in omega arith;
        }

-- ---- whole texts

-- what stands behind the declarations
record Over (names : NameTable) (i : Input) (o : Source) : Type 0 where
  names_are : o.names ≡ names
  crash_at : Cursor
  threads_at : Cursor
  pre : IsGiven IsRaw names w.Pre i.cursor o.pre crash_at
  crash : IsGiven IsCrash names w.Crash crash_at o.crash threads_at
  threads : AreThreads names 1 threads_at o.threads
  few : length o.threads ≤ i.room

over_found : (names : NameTable) (i j : Input) (o : Source) → outline_over names i ≡ Ok (o, j) → Over names i o
unfolding outline_over threads
over_found names i j o h =
    bind_then (precondition names i) _ (o, j) h (λ f k one rest.
    bind_then (crash_formula names k) _ (o, j) rest (λ c l two rest2.
    bind_then (threads_on names (l.room + 1) [] l) _ (o, j) rest2 (λ ts m three end.
    let pre = precondition_found names i k f one in
    let crash = crash_formula_found names k l c two in
    let found = threads_on_found names (l.room + 1) [] ts l m three in
    subst (λ (q : Source × Input). Over names i q.0) (ok_same (record { names = names; pre = f; crash = c; threads = ts }, m) (o, j) end) (record {
      names_are = refl;
      crash_at = k.cursor;
      threads_at = l.cursor;
      pre = pre.is;
      crash = crash.is;
      threads = subst (AreThreads names 1 l.cursor) (sym found.are) found.is;
      few = let one = pre.room in let two = crash.room in let few = found.few in let many = ap length found.are in omega arith;
    }))))

outline_found : (bytes : List ℕ) (i j : Input) (o : Source) → ((names : NameTable) → Takes names (keyword w.Pierogi ∷ number 1 ∷ []) 0 (whole bytes) i) → outline i ≡ Ok (o, j) → IsSourceText bytes o
unfolding outline
outline_found bytes i j o head h =
    bind_then (and_then (expect s.Semicolon i) (λ u. domain)) _ (o, j) h (λ d k one rest.
    bind_then (expect s.Semicolon i) (λ u. domain) (d, k) one (λ u m semi reads.
    bind_then (declarations (empty_table d known_version) k) outline_over (o, j) rest (λ names l declares over.
    let items = takes_then (head (empty_table d known_version)) (takes_then (expect_found (empty_table d known_version) s.Semicolon i m u semi) (domain_found (empty_table d known_version) m k d reads)) in
    let decls = declarations_found declaration_turns (empty_table d known_version) names k l declares in
    let is = over_found names l j o over in
    let same = sym is.names_are in
    record {
      decls = k.cursor;
      pre_at = l.cursor;
      crash_at = is.crash_at;
      threads_at = is.threads_at;
      domain = d;
      head = items.stand;
      declared = subst (λ n. AreDeclarations (empty_table d known_version) k.cursor n l.cursor) same decls.is;
      pre = subst (λ n. IsGiven IsRaw n w.Pre l.cursor o.pre is.crash_at) same is.pre;
      crash = subst (λ n. IsGiven IsCrash n w.Crash is.crash_at o.crash is.threads_at) same is.crash;
      threads = subst (λ n. AreThreads n 1 is.threads_at o.threads) same is.threads;
      few = let one = items.room in let two = decls.room in let few = is.few in omega arith;
    })))

source_then : {X : Type 0} (r : Outcome Source) (o : Source) → ◌≡◌ {A = Result Source Fault} (source_in r) (Ok o) → ((j : Input) → r ≡ Ok (o, j) → X) → X
source_then (Ok p) o h use_it =
    let value : Result Source Fault → Source = λ r. result_unwrap_or r p.0 in
    use_it p.1 (ap (λ o. Ok (o, p.1)) (ap value h))
source_then (Err e) o h use_it = cc

version_then : {X : Type 0} (r : Outcome ℕ) (o : Source) → behind_version r ≡ Ok o → ((n : ℕ) (i : Input) → r ≡ Ok (n, i) → n ≡ known_version → source_in (outline i) ≡ Ok o → X) → X
version_then {X} (Ok p) o h use_it = by (p.0 == known_version) refl h
  where
    by : (b : Bool) → p.0 == known_version ≡ b → ◌≡◌ {A = Result Source Fault} (if b then source_in (outline p.1) else Err (other_version p.0)) (Ok o) → X
    by true e h = use_it p.0 p.1 refl (eqb-true p.0 known_version e) h
    by false e h = cc
version_then (Err e) o h use_it = cc

-- what is read stands there
pub source_found : (bytes : List ℕ) (o : Source) → source_of bytes ≡ Ok o → IsSourceText bytes o
unfolding source_of
source_found bytes o h =
    version_then (version (whole bytes)) o h (λ n i first is rest.
    source_then (outline i) o rest (λ j reads.
    outline_found bytes i j o (λ names. subst (λ n. Takes names (keyword w.Pierogi ∷ number n ∷ []) 0 (whole bytes) i) is (version_found names (whole bytes) i n first)) reads))
