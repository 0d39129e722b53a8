-- Each outline that a text stands for is within the limits of a text: its names are names of the grammar, since each was a word
-- of the text, and its formulas and threads are what stands in the text.
use Rattle.std.proofs.Common.{◌≡◌, ℕ, ◌+◌, ◌≤◌, List, [], ◌∷◌, ◌++◌, length, map, refl, sym, ap, subst, ◌∙◌, inl, arith, lit≤}
use Rattle.std.specs.Prelude.{Result, Ok, Err, IfOk}
use Rattle.std.specs.List.{All}
use Rattle.std.proofs.lemmas.Bool.{leb-false}
use Rattle.std.proofs.lemmas.List.{length-map}
use Rattle.std.proofs.lemmas.List.Elements.{All-nil, All-cons, All-append}
use Rattle.pg_lex.specs.declared.token.TokenKind.{TokenKind}
use Rattle.pg_lex.specs.Piece.{is_lower, is_word}
use Rattle.pg_lex.specs.Lex.{Cursor, after}
use Rattle.pg_lex.specs.Grammar.{AllIn, Begins, IsToken}
use Rattle.pg_lex.proofs.Cursors.{munches_most}
use Rattle.pg_program.specs.declared.name_table.NameKind.{NameKind}
use Rattle.pg_program.specs.declared.name_table.ScalarKind.{ScalarKind}
use Rattle.pg_program.specs.declared.name_table.ScalarKind.TheVariants.{Register, Auxiliary}
use Rattle.pg_program.specs.declared.syntax.Stmt.{Stmt}
use Rattle.pg_program.specs.Limits.{most_locations, most_scalars}
use Rattle.pg_program.specs.NameTable.{NameTable, Location, IsNameTable, empty_table, lines, line_count}
use Rattle.pg_program.proofs.NameLemmas.{IsNameTable-location, IsNameTable-scalar, own_lines}
use Rattle.pg_assertion.specs.declared.atom.ViewAtom.{ViewAtom}
use Rattle.pg_assertion.specs.declared.atom.RawAtom.{RawAtom}
use Rattle.pg_assertion.specs.declared.atom.CrashAtom.{CrashAtom}
use Rattle.pg_assertion.specs.Formula.{Plain, with_atoms}
use Rattle.pg_assertion.specs.Atom.{raw_of}
use Rattle.pg_assertion_text.specs.Atoms.{IsRaw, IsCrash}
use Rattle.pg_assertion_text.specs.Spelling.{IsName, AreNames, opens}
use Rattle.pg_assertion_text.specs.SpellingLaws.{IsWritable, IsWritableCrash}
use Rattle.pg_assertion_text.specs.Within.{IsWithin, IsWritableRaw}
use Rattle.pg_assertion_text.proofs.Within.{formulas_are_within, crash_formulas_are_within, assertions_are_within}
use Rattle.pg_program_text.specs.declared.thread.TheConstants.{MAX_POINTS}
use Rattle.pg_program_text.specs.Thread.{Lines}
use Rattle.pg_program_text.proofs.Whole.{bodies_are_whole}
use Rattle.pg_outline_text.specs.declared.word.Keyword.{Keyword}
use Rattle.pg_outline.specs.Outline.{OutlineTable}
use Rattle.pg_outline_text.specs.declared.fault.FileFault.{FileFault}
use Rattle.pg_outline_text.specs.Limits.{known_version}
use Rattle.pg_outline_text.specs.Grammar.{IsNewName, IsDeclaration, a_location, a_register, an_auxiliary, AreDeclarations, no_more, one_more, IsGiven, left_out, written, IsThreadOfText, AreThreads, last_one, one_thread}
use Rattle.pg_outline_text.specs.Text.{StandsFor}
use Rattle.pg_outline_text.specs.SpellingLaws.{FitsThread, FitThreads, WhatStandsIsWritable}

-- ---- names

-- a word of a text that is not reserved is a name
new_is_name : (names : NameTable) (k : NameKind) (from : Cursor) (text : List ℕ) (to : Cursor) → IsNewName names k from text to → IsName text
new_is_name names k from text to h =
    let is = subst (λ (kind : TokenKind). IsToken kind h.lexeme.text (after from).rest) h.is_word (munches_most from h.lexeme h.read) in
    record {
      begins = subst (Begins is_lower) h.text_is is.0;
      word = subst (AllIn is_word) h.text_is is.1.0;
      short = subst (λ (w : List ℕ). length w ≤ 32) h.text_is is.2;
      free = h.free;
    }

-- a table whose names are told apart, and are names of the grammar
record WellNamed (t : NameTable) : Type 0 where
  version : t.version ≡ known_version
  table : IsNameTable t
  are : AreNames t

empty_named : (d : ℕ) → WellNamed (empty_table d known_version)
empty_named d = record {
  version = refl;
  table = record {
    version = inl refl;
    few_locations = lit≤ tt;
    few_scalars = lit≤ tt;
    own_location = λ x l h. cc;
    own_scalar = λ r k w h. cc;
    grouped = tt;
    apart = λ one x l h. cc;
  };
  are = record { locations = All-nil (λ (l : Location). IsName l.name); scalars = All-nil (λ (e : List ℕ × ScalarKind). IsName e.0) };
}

one_behind : {X : Type 0} (called : X → List ℕ) (xs : List X) (x : X) → All (λ y. IsName (called y)) xs → IsName (called x) → All (λ y. IsName (called y)) (xs ++ x ∷ [])
one_behind {X} called xs x are is =
    let P = λ (y : X). IsName (called y) in
    All-append P xs (x ∷ []) are (All-cons P x [] is (All-nil P))

scalar_behind : (es : List (List ℕ × ScalarKind)) (w : List ℕ) (k : ScalarKind) → All (λ e. IsName e.0) es → IsName w → All (λ e. IsName e.0) (es ++ (w, k) ∷ [])
scalar_behind es w k are is = one_behind (λ (e : List ℕ × ScalarKind). e.0) es (w, k) are is

one_named : (names more : NameTable) (from to : Cursor) → IsDeclaration names from more to → WellNamed names → WellNamed more
one_named names _ _ _ (a_location x v from mid end to st is rest) well =
    let l : Location = record { name = x; init = v; line = line_count (lines names) } in
    record {
      version = well.version;
      table = IsNameTable-location names x well.table is.new l refl (leb-false (most_locations names.version) (length names.locations) is.room) (omega arith) (omega arith) (own_lines names well.table);
      are = record { locations = one_behind (λ (m : Location). m.name) names.locations l well.are.locations (new_is_name names _ mid x end is); scalars = well.are.scalars };
    }
one_named names _ _ _ (a_register r t from mid end to st is rest) well = record {
  version = well.version;
  table = IsNameTable-scalar names r well.table is.new (Register t) (leb-false most_scalars (length names.scalars) is.room);
  are = record { locations = well.are.locations; scalars = scalar_behind names.scalars r (Register t) well.are.scalars (new_is_name names _ mid r end is) };
}
one_named names _ _ _ (an_auxiliary a from mid end to st is rest) well = record {
  version = well.version;
  table = IsNameTable-scalar names a well.table is.new Auxiliary (leb-false most_scalars (length names.scalars) is.room);
  are = record { locations = well.are.locations; scalars = scalar_behind names.scalars a Auxiliary well.are.scalars (new_is_name names _ mid a end is) };
}

all_named : (names all : NameTable) (from to : Cursor) → AreDeclarations names from all to → WellNamed names → WellNamed all
all_named _ _ _ _ (no_more names from) well = well
all_named _ _ _ _ (one_more names more all from mid to one rest) well = all_named more all mid to rest (one_named names more from mid one well)

-- ---- formulas

pre_within : (names : NameTable) (k : Keyword) (from : Cursor) (f : Plain RawAtom) (to : Cursor) → IsGiven IsRaw names k from f to → IsWithin IsWritableRaw names f
unfolding opens
pre_within names k _ _ _ (left_out from) = record { atoms = tt; shallow = omega arith; few = omega arith }
pre_within names k _ _ _ (written f from mid end to st is rest) = formulas_are_within names mid end f is

crash_within : (names : NameTable) (k : Keyword) (from : Cursor) (f : Plain CrashAtom) (to : Cursor) → IsGiven IsCrash names k from f to → IsWithin IsWritableCrash names f
unfolding opens
crash_within names k _ _ _ (left_out from) = record { atoms = tt; shallow = omega arith; few = omega arith }
crash_within names k _ _ _ (written f from mid end to st is rest) = crash_formulas_are_within names mid end f is

-- ---- threads

abbrev raws : List (Plain ViewAtom) → List (Plain RawAtom)
raws ns = map (with_atoms raw_of) ns

thread_fits : (names : NameTable) (k : ℕ) (from : Cursor) (l : Lines) (to : Cursor) (ns : List (Plain ViewAtom)) → WellNamed names → IsThreadOfText names k from l to → raws ns ≡ l.notes
    → FitsThread names l.stmts ns
thread_fits names k from l to ns well is same =
    let long : length ns ≡ length l.notes = sym (length-map ns (with_atoms raw_of)) ∙ ap length same in
    record {
      whole = bodies_are_whole names is.mid is.end l ns well.table well.are is.body same;
      few = subst (λ (n : ℕ). n ≤ MAX_POINTS) (sym long) is.body.few;
    }

threads_fit : (names : NameTable) (k : ℕ) (from : Cursor) (ls : List Lines) (notes : List (List (Plain ViewAtom))) → WellNamed names → AreThreads names k from ls
    → map raws notes ≡ map (λ l. l.notes) ls → FitThreads names (map (λ l. l.stmts) ls) notes
threads_fit names _ _ _ [] well (last_one k l from to is end) same = cc
threads_fit names _ _ _ (ns ∷ []) well (last_one k l from to is end) same = let one : raws ns ≡ l.notes = cc in (thread_fits names k from l to ns well is one, tt)
threads_fit names _ _ _ (ns ∷ ms ∷ notes) well (last_one k l from to is end) same = cc
threads_fit names _ _ _ [] well (one_thread k l ls from to is rest) same = cc
threads_fit names _ _ _ (ns ∷ notes) well (one_thread k l ls from to is rest) same =
    let one : raws ns ≡ l.notes = cc in
    let others : map raws notes ≡ map (λ l. l.notes) ls = cc in
    (thread_fits names k from l to ns well is one, threads_fit names (k + 1) to ls notes well rest others)

-- ---- outlines

pub what_stands_is_writable : WhatStandsIsWritable
what_stands_is_writable bytes o h =
    let s = h.source in
    let is = h.text in
    let well = all_named (empty_table is.domain known_version) s.names is.decls is.pre_at is.declared (empty_named is.domain) in
    let names_are : s.names ≡ o.program.names = sym (ap (λ d. d.program.names) h.made.parts) in
    let pre_is : with_atoms raw_of o.pre ≡ s.pre = ap (λ d. d.pre) h.made.parts in
    let crash_is : s.crash ≡ o.crash = sym (ap (λ d. d.crash) h.made.parts) in
    let threads_are : map (λ l. l.stmts) s.threads ≡ o.program.threads = sym (ap (λ d. d.program.threads) h.made.parts) in
    let notes_are : map raws o.notes ≡ map (λ l. l.notes) s.threads = ap (λ d. d.notes) h.made.parts in
    let pre = assertions_are_within s.names s.pre o.pre pre_is (pre_within s.names _ is.pre_at s.pre is.crash_at is.pre) in
    let crash = subst (IsWithin IsWritableCrash s.names) crash_is (crash_within s.names _ is.crash_at s.crash is.threads_at is.crash) in
    let threads = subst (λ (ts : List (List Stmt)). FitThreads s.names ts o.notes) threads_are (threads_fit s.names 1 is.threads_at s.threads o.notes well is.threads notes_are) in
    record {
      version = sym (ap (λ (t : NameTable). t.version) names_are) ∙ well.version;
      names_are = subst AreNames names_are well.are;
      pre = subst (λ (t : NameTable). IsWithin IsWritable t o.pre) names_are pre;
      crash = subst (λ (t : NameTable). IsWithin IsWritableCrash t o.crash) names_are crash;
      threads = subst (λ (t : NameTable). FitThreads t o.program.threads o.notes) names_are threads;
    }

-- so an answer that a text stands for is of the version of a text
pub version_found : (bytes : List ℕ) (r : Result OutlineTable FileFault) → IfOk r (λ o. StandsFor bytes o) → IfOk r (λ o. o.program.names.version ≡ known_version)
version_found bytes (Ok o) h = (what_stands_is_writable bytes o h).version
version_found bytes (Err e) h = tt
