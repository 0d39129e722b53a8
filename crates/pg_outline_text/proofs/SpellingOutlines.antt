-- The canonical text of an outline is in the grammar, and stands for the outline.
use Rattle.std.proofs.Common.{◌≡◌, ℕ, suc, ◌+◌, ◌≤◌, Bool, true, false, List, [], ◌∷◌, ◌++◌, length, drop, map, refl, sym, ap, ap₂, subst, ◌∙◌, arith, append_assoc}
use Rattle.std.specs.Prelude.{codes, if◌then◌else◌}
use Rattle.std.proofs.lemmas.List.{append-nil, length-map}
use Rattle.pg_lex.specs.declared.token.Sign.TheVariants as s
use Rattle.pg_lex.specs.declared.token.TokenKind.TheVariants as kind
use Rattle.pg_lex.specs.Piece.{piece}
use Rattle.pg_lex.specs.Lex.{Cursor, Lexeme, token, lexeme_at, start}
use Rattle.pg_lex.proofs.Cursors.{token_at_end}
use Rattle.pg_program.specs.declared.syntax.Stmt.{Stmt}
use Rattle.pg_program.specs.NameTable.{NameTable, IsNameTable, empty_table}
use Rattle.pg_program.specs.Program.{ProgramTable}
use Rattle.pg_program.specs.Fault as program_fault
use Rattle.pg_assertion.specs.declared.atom.ViewAtom.{ViewAtom}
use Rattle.pg_assertion.specs.declared.atom.RawAtom.{RawAtom}
use Rattle.pg_assertion.specs.declared.atom.CrashAtom.{CrashAtom}
use Rattle.pg_assertion.specs.Formula.{Plain, top, bottom, atom, neg, both, either, implies, nodes, AllAtoms, with_atoms}
use Rattle.pg_assertion.specs.Atom.{raw_of}
use Rattle.pg_assertion_text.specs.declared.parse.TheConstants.{MAX_NODES, MAX_OPEN}
use Rattle.pg_assertion_text.specs.Words.{Stands, sign, number}
use Rattle.pg_assertion_text.specs.Input as input
use Rattle.pg_assertion_text.specs.Input.{is_sign}
use Rattle.pg_assertion_text.specs.Follows.{Stops}
use Rattle.pg_assertion_text.specs.Atoms.{IsRaw, IsCrash}
use Rattle.pg_assertion_text.specs.Grammar.{Is, formula}
use Rattle.pg_assertion_text.specs.Spelling.{Ends, spell, spell_atom, spell_crash, opens, rule_of}
use Rattle.pg_assertion_text.specs.SpellingLaws.{cursor}
use Rattle.pg_assertion_text.proofs.SpellingTokens.{Spells, Then, Leads, mapped}
use Rattle.pg_assertion_text.proofs.SpellingAtoms.{IsSpelled, number_spells, raw_spelled, crash_spelled}
use Rattle.pg_assertion_text.proofs.Spelling.{spells, loosened, at_most, each_mapped, nodes-with_atoms, same_atoms}
use Rattle.pg_program_text.specs.declared.thread.TheConstants.{MAX_POINTS}
use Rattle.pg_program_text.specs.Keywords as keywords
use Rattle.pg_program_text.specs.Thread.{Lines, begins}
use Rattle.pg_program_text.specs.Grammar.{BeginsNone}
use Rattle.pg_program_text.specs.ReadAgain.{lines_of}
use Rattle.pg_program_text.proofs.SpellingLines.{Written, empty, followed, changed, blank_in_front}
use Rattle.pg_program_text.proofs.SpellingThreads.{body_written}
use Rattle.pg_outline.specs.Outline.{OutlineTable, Draft, draft_of}
use Rattle.pg_outline.specs.Made.{IsOutline}
use Rattle.pg_outline.specs.Fault as outline_fault
use Rattle.pg_outline_text.specs.declared.word.Keyword.{Keyword}
use Rattle.pg_outline_text.specs.declared.word.Keyword.TheVariants as w
use Rattle.pg_outline_text.specs.Limits.{known_version}
use Rattle.pg_outline_text.specs.Word.{spelling}
use Rattle.pg_outline_text.specs.Source.{Source, draft, IsMadeOf}
use Rattle.pg_outline_text.specs.Grammar.{keyword, AreDeclarations, IsGiven, left_out, written, IsEnd, IsThreadOfText, AreThreads, last_one, one_thread}
use Rattle.pg_outline_text.specs.Spelling.{is_top, given_line, thread_lines, first_notes, threads_lines, version_line, domain_line, head_lines, spell_outline}
use Rattle.pg_outline_text.specs.SpellingLaws.{FitsThread, FitThreads, IsWritableOutline, CanonicalTextStands}
use Rattle.pg_outline_text.proofs.SpellingLines.{before, keyword_stands, one_stands, semicolon_line, open_line, close_line}
use Rattle.pg_outline_text.proofs.SpellingNumbers.{Small, domain_small, initial_small, owners_fit}
use Rattle.pg_outline_text.proofs.SpellingNames.{names_written}

-- ---- the first lines

abbrev VersionAt : NameTable → Cursor → Cursor → Type 0
VersionAt names = Then (Stands names (keyword w.Pierogi)) (Then (Stands names (number 1)) (Stands names (sign s.Semicolon)))

abbrev DomainAt : NameTable → ℕ → Cursor → Cursor → Type 0
DomainAt names d = Then (Stands names (keyword w.Values)) (Then (Stands names (number d)) (Stands names (sign s.Semicolon)))

version_written : (names : NameTable) → Written (VersionAt names) version_line
unfolding version_line
version_written names = before (keyword_stands names w.Pierogi) (blank_in_front (before (one_stands names) (semicolon_line names) (λ more. refl))) (λ more. refl)

domain_written : (names : NameTable) (d : ℕ) → Small d → Written (DomainAt names d) (domain_line d)
unfolding domain_line
domain_written names d small = before (keyword_stands names w.Values) (blank_in_front (before (number_spells names d small) (semicolon_line names) (λ more. refl))) (λ more. refl)

-- ---- formulas

-- what the spelling of a formula stands for, within the limits
formula_spells : {T U : Type 0} (names : NameTable) (IsAtom : Cursor → U → Cursor → Type 0) (image : T → U) (of_atom : T → List ℕ) (f : Plain T)
    → AllAtoms (IsSpelled IsAtom image of_atom) f → opens f ≤ MAX_OPEN → Spells Ends (λ from to. Is names IsAtom formula MAX_OPEN from (with_atoms image f) to) (spell of_atom f)
formula_spells names IsAtom image of_atom f each low =
    mapped (spells names IsAtom image of_atom f MAX_OPEN each low)
    (λ from to phrase. loosened names IsAtom image of_atom (rule_of f) formula MAX_OPEN from to (with_atoms image f) (at_most (rule_of f)) phrase)

-- no formula goes on at a semicolon
semicolon_stops : (names : NameTable) (c to : Cursor) → Stands names (sign s.Semicolon) c to → Stops c
semicolon_stops names c to h = record {
  lexeme = h.lexeme;
  read = h.read;
  and = ap (is_sign s.And) h.matches;
  or = ap (is_sign s.Or) h.matches;
  arrow = ap (is_sign s.Arrow) h.matches;
}

given_written : {T U : Type 0} (stands : NameTable → Cursor → U → Cursor → Type 0) (names : NameTable) (k : Keyword) (of_atom : T → List ℕ) (f : Plain T) (g : Plain U)
    → (is_top f ≡ true → g ≡ top) → nodes g ≤ MAX_NODES → Spells Ends (λ from to. Is names (stands names) formula MAX_OPEN from g to) (spell of_atom f)
    → Written (λ from to. IsGiven stands names k from g to) (given_line (spelling k ++ codes " ") of_atom f)
unfolding given_line
given_written {T} {U} stands names k of_atom f g top_is few phrase = by (is_top f) refl
  where
    behind : List ℕ
    behind = spell of_atom f ++ codes ";\n"

    by : (b : Bool) → is_top f ≡ b → Written (λ from to. IsGiven stands names k from g to) (if b then [] else (spelling k ++ codes " ") ++ behind)
    by true is = subst (λ (h : Plain U). Written (λ from to. IsGiven stands names k from h to) []) (sym (top_is is)) (empty (λ from. left_out from))
    by false is =
        subst (Written (λ from to. IsGiven stands names k from g to)) (sym (append_assoc (spelling k) (codes " ") behind))
        (changed (before (keyword_stands names k) (blank_in_front (before phrase (semicolon_line names) (λ more. refl))) (λ more. refl))
        (λ from to way.
        written g from way.0 way.2.0 to way.1 (record { is = way.2.1; few = few; stops = semicolon_stops names way.2.0 to way.2.2 }) way.2.2))

raw_top : (f : Plain ViewAtom) → is_top f ≡ true → with_atoms raw_of f ≡ top
unfolding with_atoms
raw_top top h = refl
raw_top bottom h = cc
raw_top (atom a) h = cc
raw_top (neg f) h = cc
raw_top (both f g) h = cc
raw_top (either f g) h = cc
raw_top (implies f g) h = cc

only_top : {T : Type 0} (f : Plain T) → is_top f ≡ true → f ≡ top
only_top top h = refl
only_top bottom h = cc
only_top (atom a) h = cc
only_top (neg f) h = cc
only_top (both f g) h = cc
only_top (either f g) h = cc
only_top (implies f g) h = cc

-- ---- threads

brace_begins_none : (names : NameTable) (c to : Cursor) → Stands names (sign s.CloseBrace) c to → BeginsNone names c
unfolding begins keywords.keyword input.named
brace_begins_none names c to h = record { lexeme = h.lexeme; read = h.read; begins_none = rw h.matches refl }

thread_written : (names : NameTable) (k : ℕ) (ss : List Stmt) (notes : List (Plain ViewAtom)) → Small k → FitsThread names ss notes
    → Written (λ from to. IsThreadOfText names k from (lines_of ss notes) to) (thread_lines names k ss notes)
thread_written names k ss notes small fits =
    changed
    (before (keyword_stands names w.Thread)
    (blank_in_front (before (number_spells names k small)
    (blank_in_front (followed (open_line names) (followed (body_written names ss notes fits.whole) (close_line names))))
    (λ more. refl))) (λ more. refl))
    (λ from to way.
    let a = way.2 in
    let b = a.2 in
    let c = b.2 in
    record {
      mid = b.0;
      end = c.0;
      head = (way.0, way.1, (a.0, a.1, (b.0, b.1, refl)));
      body = record {
        body = c.1;
        few = subst (λ (n : ℕ). n ≤ MAX_POINTS) (sym (length-map notes (with_atoms raw_of))) fits.few;
        stops = brace_begins_none names c.0 to c.2;
      };
      close = c.2;
    })

-- the bodies of the threads, as a text has them
abbrev bodies : List (List Stmt) → List (List (Plain ViewAtom)) → List Lines
bodies [] notes = []
bodies (ss ∷ threads) notes = lines_of ss (first_notes notes) ∷ bodies threads (drop 1 notes)

threads_written : (names : NameTable) (k : ℕ) (threads : List (List Stmt)) (notes : List (List (Plain ViewAtom))) → 1 ≤ length threads → Small (k + length threads) → FitThreads names threads notes
    → Written (λ from to. IsEnd to → AreThreads names k from (bodies threads notes)) (threads_lines names k threads notes)
threads_written names k [] notes some small fit = absurd (omega arith)
threads_written names k (ss ∷ threads) [] some small fit = absurd fit
threads_written names k (ss ∷ []) (ns ∷ []) some small fit =
    subst (Written (λ from to. IsEnd to → AreThreads names k from (lines_of ss ns ∷ []))) (sym (append-nil (thread_lines names k ss ns)))
    (changed (thread_written names k ss ns (omega arith) fit.0) (λ from to is end. last_one k (lines_of ss ns) from to is end))
threads_written names k (ss ∷ []) (ns ∷ ms ∷ notes) some small fit = absurd fit.1
threads_written names k (ss ∷ ts ∷ threads) (ns ∷ notes) some small fit =
    changed (followed (thread_written names k ss ns (omega arith) fit.0) (threads_written names (k + 1) (ts ∷ threads) notes (omega arith) (omega arith) fit.1))
    (λ from to way end. one_thread k (lines_of ss ns) (bodies (ts ∷ threads) notes) from way.0 way.1 (way.2 end))

table_of : (names : NameTable) (threads : List (List Stmt)) (notes : List (List (Plain ViewAtom))) → 1 ≤ length threads → FitThreads names threads notes → IsNameTable names
table_of names [] notes some fit = absurd (omega arith)
table_of names (ss ∷ threads) [] some fit = absurd fit
table_of names (ss ∷ threads) (ns ∷ notes) some fit = fit.0.whole.table

bodies_count : (threads : List (List Stmt)) (notes : List (List (Plain ViewAtom))) → length (bodies threads notes) ≡ length threads
bodies_count [] notes = refl
bodies_count (ss ∷ threads) notes = ap suc (bodies_count threads (drop 1 notes))

bodies_stmts : (threads : List (List Stmt)) (notes : List (List (Plain ViewAtom))) → map (λ l. l.stmts) (bodies threads notes) ≡ threads
bodies_stmts [] notes = refl
bodies_stmts (ss ∷ threads) notes = ap (λ t. ss ∷ t) (bodies_stmts threads (drop 1 notes))

bodies_notes : (names : NameTable) (threads : List (List Stmt)) (notes : List (List (Plain ViewAtom))) → FitThreads names threads notes
    → map (λ l. l.notes) (bodies threads notes) ≡ map (map (with_atoms raw_of)) notes
bodies_notes names [] [] fit = refl
bodies_notes names [] (ns ∷ notes) fit = absurd fit
bodies_notes names (ss ∷ threads) [] fit = absurd fit
bodies_notes names (ss ∷ threads) (ns ∷ notes) fit = ap (λ t. map (with_atoms raw_of) ns ∷ t) (bodies_notes names threads notes fit.1)

-- ---- outlines

-- the outline as a text has it
abbrev source : OutlineTable → Source
source o = record { names = o.program.names; pre = with_atoms raw_of o.pre; crash = o.crash; threads = bodies o.program.threads o.notes }

abbrev HeadAt : OutlineTable → Cursor → Cursor → Type 0
HeadAt o =
    let names = empty_table o.program.names.domain known_version in
    Then (VersionAt names) (Then (DomainAt names o.program.names.domain) (λ from to. AreDeclarations names from o.program.names to))

abbrev BodyAt : OutlineTable → Cursor → Cursor → Type 0
BodyAt o =
    Then (λ from to. IsGiven IsRaw o.program.names w.Pre from (with_atoms raw_of o.pre) to)
    (Then (λ from to. IsGiven IsCrash o.program.names w.Crash from o.crash to) (λ from to. IsEnd to → AreThreads o.program.names 1 from (bodies o.program.threads o.notes)))

head_written : (o : OutlineTable) → IsOutline o → IsWritableOutline o → Written (HeadAt o) (head_lines o.program.names)
unfolding head_lines
head_written o is fit =
    let names = empty_table o.program.names.domain known_version in
    let program = is.draft.program in
    let table = table_of o.program.names o.program.threads o.notes program.threads.some fit.threads in
    followed (version_written names) (followed (domain_written names o.program.names.domain (domain_small o.program program))
    (names_written o.program.names table fit.version fit.names_are.locations fit.names_are.scalars (initial_small o.program program) (owners_fit o.program program)))

outline_written : (o : OutlineTable) → IsOutline o → IsWritableOutline o → Written (Then (HeadAt o) (BodyAt o)) (spell_outline o)
unfolding spell_outline
outline_written o is fit =
    let names = o.program.names in
    let threads = is.draft.program.threads in
    let table = table_of names o.program.threads o.notes threads.some fit.threads in
    let low = threads.few in
    let pre =
    given_written IsRaw names w.Pre (spell_atom names) o.pre (with_atoms raw_of o.pre) (raw_top o.pre) (subst (λ (n : ℕ). n ≤ MAX_NODES) (sym (nodes-with_atoms raw_of o.pre)) fit.pre.few)
    (formula_spells names (IsRaw names) raw_of (spell_atom names) o.pre (each_mapped (λ a h. raw_spelled names a table fit.names_are h) o.pre fit.pre.atoms) fit.pre.shallow)
    in
    let crash =
    given_written IsCrash names w.Crash (spell_crash names) o.crash o.crash (only_top o.crash) fit.crash.few
    (subst (λ (f : Plain CrashAtom). Spells Ends (λ from to. Is names (IsCrash names) formula MAX_OPEN from f to) (spell (spell_crash names) o.crash)) (same_atoms o.crash)
    (formula_spells names (IsCrash names) (λ a. a) (spell_crash names) o.crash (each_mapped (λ a h. crash_spelled names a table fit.names_are h) o.crash fit.crash.atoms) fit.crash.shallow))
    in
    followed (head_written o is fit) (followed pre (followed crash (threads_written names 1 o.program.threads o.notes threads.some (omega arith) fit.threads)))

-- where nothing is left, the text ends
end_at : (c : Cursor) (n : ℕ) → Leads c (cursor n []) → IsEnd c
unfolding token
end_at c n leads = record {
  lexeme = record { kind = kind.End; place = n; text = [] };
  read = ap (λ (g : Cursor). lexeme_at g (piece g.rest)) leads.same ∙ token_at_end n;
  is_end = refl;
}

same_draft : (o : OutlineTable) → IsWritableOutline o → draft_of o ≡ draft (source o)
same_draft o fit =
    let one : Draft = draft_of o in
    ap₂
    (λ (threads : List (List Stmt)) (notes : List (List (Plain RawAtom))).
    let p : ProgramTable = record { names = o.program.names; threads = threads } in
    let d : Draft = record { program = p; pre = with_atoms raw_of o.pre; crash = o.crash; notes = notes } in
    d)
    (sym (bodies_stmts o.program.threads o.notes)) (sym (bodies_notes o.program.names o.program.threads o.notes fit.threads))

made_of : (o : OutlineTable) → IsOutline o → IsWritableOutline o → IsMadeOf (source o) o
made_of o is fit = record {
  parts = same_draft o fit;
  program = ap (program_fault.first_fault o.program.names) (bodies_stmts o.program.threads o.notes) ∙ is.draft.program.faultless;
  outline = ap outline_fault.first_fault (sym (same_draft o fit)) ∙ is.faultless;
}

pub canonical_text_stands : CanonicalTextStands
canonical_text_stands o is fit =
    let text = spell_outline o in
    let begin : Leads (start text) (cursor 0 (text ++ [])) = record { same = ap (λ t. Rattle.pg_lex.specs.Lex.behind_gap (cursor 0 t)) (sym (append-nil text)) } in
    let got = (outline_written o is fit).stands (start text) 0 [] begin in
    let way = got.1 in
    let head = way.1 in
    let body = way.2 in
    let version = head.1 in
    let domain = head.2.1 in
    let few = is.draft.program.threads.few in
    let count = bodies_count o.program.threads o.notes in
    record {
      source = source o;
      text = record {
        decls = head.2.0;
        pre_at = way.0;
        crash_at = body.0;
        threads_at = body.2.0;
        domain = o.program.names.domain;
        head = (version.0, version.1, (version.2.0, version.2.1, (head.0, version.2.2, (domain.0, domain.1, (domain.2.0, domain.2.1, (head.2.0, domain.2.2, refl))))));
        declared = head.2.2;
        pre = body.1;
        crash = body.2.1;
        threads = body.2.2 (end_at got.0 (0 + length text) got.2);
        few = omega arith;
      };
      made = made_of o is fit;
    }
