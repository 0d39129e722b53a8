-- What a text is read as may be made a program, and then an outline.
use Rattle.std.proofs.Common.{◌≡◌, ℕ, ◌+◌, ◌≤◌, List, [], ◌∷◌, length, map, refl, ap₂, arith}
use Rattle.std.specs.List.{All}
use Rattle.std.proofs.lemmas.List.{length-map}
use Rattle.std.proofs.lemmas.List.Elements.{All-nil, All-cons, All-head, All-tail}
use Rattle.pg_lex.specs.Lex.{Cursor}
use Rattle.pg_program.specs.NameTable.{NameTable}
use Rattle.pg_program.specs.Block.{block}
use Rattle.pg_program.specs.Graph.{size}
use Rattle.pg_program.specs.Program as program
use Rattle.pg_assertion.specs.declared.atom.RawAtom.{RawAtom}
use Rattle.pg_assertion.specs.declared.atom.CrashAtom.{CrashAtom}
use Rattle.pg_assertion.specs.Atom.{RawDeclared, CrashDeclared}
use Rattle.pg_assertion.specs.Formula.{Plain, AllAtoms, nodes}
use Rattle.pg_assertion_text.specs.declared.parse.TheConstants.{MAX_NODES}
use Rattle.pg_assertion_text.specs.Atoms.{IsRaw, IsCrash}
use Rattle.pg_assertion_text.specs.Parsing.{IsFormula}
use Rattle.pg_assertion_text.specs.SpellingLaws.{IsWritableCrash}
use Rattle.pg_assertion_text.specs.Within.{IsWritableRaw}
use Rattle.pg_assertion_text.proofs.Spelling.{each_mapped}
use Rattle.pg_assertion_text.proofs.Within.{formulas_are_within, crash_formulas_are_within}
use Rattle.pg_program_text.specs.Thread.{Lines}
use Rattle.pg_program_text.proofs.Declared.{bodies_are_threads}
use Rattle.pg_program_text.proofs.Whole.{texts_speak_of_names}
use Rattle.pg_outline.specs.Outline.{IsSmall}
use Rattle.pg_outline_text.specs.declared.word.Keyword.{Keyword}
use Rattle.pg_outline_text.specs.Source.{Source}
use Rattle.pg_outline_text.specs.Ready.{IsReady}
use Rattle.pg_outline_text.specs.Grammar.{IsGiven, left_out, written, IsThreadOfText, AreThreads, last_one, one_thread, IsSourceText}

-- ---- formulas

raw_small : (names : NameTable) (from to : Cursor) (f : Plain RawAtom) → IsFormula IsRaw names from f to → IsSmall (RawDeclared names) f
raw_small names from to f is = record { atoms = each_mapped (λ (a : RawAtom) (k : IsWritableRaw names a). k.0) f (formulas_are_within names from to f is).atoms; few = is.few }

crash_small : (names : NameTable) (from to : Cursor) (f : Plain CrashAtom) → IsFormula IsCrash names from f to → IsSmall (CrashDeclared names) f
crash_small names from to f is = record { atoms = each_mapped (λ (a : CrashAtom) (k : IsWritableCrash names a). k.0) f (crash_formulas_are_within names from to f is).atoms; few = is.few }

given_small : {T : Type 0} (stands : NameTable → Cursor → T → Cursor → Type 0) (P : T → Type 0) (names : NameTable) (k : Keyword) (from to : Cursor) (f : Plain T)
    → ((from to : Cursor) (f : Plain T) → IsFormula stands names from f to → IsSmall P f) → IsGiven stands names k from f to → IsSmall P f
given_small stands P names k _ _ _ small (left_out from) = record { atoms = tt; few = omega arith }
given_small stands P names k _ _ _ small (written f from mid end to st is semi) = small mid end f is

notes_small : (names : NameTable) (ns : List (Plain RawAtom)) → All (AllAtoms (RawDeclared names)) ns → All (λ (f : Plain RawAtom). nodes f ≤ MAX_NODES) ns → All (IsSmall (RawDeclared names)) ns
notes_small names [] declared few = All-nil (IsSmall (RawDeclared names))
notes_small names (f ∷ fs) declared few =
    let small : Plain RawAtom → Type 0 = λ f. nodes f ≤ MAX_NODES in
    All-cons (IsSmall (RawDeclared names)) f fs (record { atoms = All-head (AllAtoms (RawDeclared names)) f fs declared; few = All-head small f fs few })
    (notes_small names fs (All-tail (AllAtoms (RawDeclared names)) f fs declared) (All-tail small f fs few))

-- ---- threads

record Ready (names : NameTable) (ls : List Lines) : Type 0 where
  some : 1 ≤ length ls
  each : All (program.IsThread names) (map (λ l. l.stmts) ls)
  notes : All (All (IsSmall (RawDeclared names))) (map (λ l. l.notes) ls)
  points : map length (map (λ (l : Lines). l.notes) ls) ≡ map (λ ss. size (block ss) + 1) (map (λ (l : Lines). l.stmts) ls)

no_threads : (names : NameTable) → (All (program.IsThread names) []) × (All (All (IsSmall (RawDeclared names))) [])
no_threads names = (All-nil (program.IsThread names), All-nil (All (IsSmall (RawDeclared names))))

one_ready : (names : NameTable) (k : ℕ) (from to : Cursor) (l : Lines) (ls : List Lines) → IsThreadOfText names k from l to
    → All (program.IsThread names) (map (λ l. l.stmts) ls) → All (All (IsSmall (RawDeclared names))) (map (λ l. l.notes) ls)
    → map length (map (λ (l : Lines). l.notes) ls) ≡ map (λ ss. size (block ss) + 1) (map (λ (l : Lines). l.stmts) ls) → Ready names (l ∷ ls)
one_ready names k from to l ls is each notes points =
    let body = bodies_are_threads names is.mid is.end l is.body in
    let speaks = texts_speak_of_names names is.mid is.end l is.body in
    record {
      some = omega arith;
      each = All-cons (program.IsThread names) l.stmts (map (λ l. l.stmts) ls) body.thread each;
      notes = All-cons (All (IsSmall (RawDeclared names))) l.notes (map (λ l. l.notes) ls) (notes_small names l.notes speaks.declared speaks.few) notes;
      points = ap₂ (λ n ns. n ∷ ns) body.notes points;
    }

threads_ready : (names : NameTable) (k : ℕ) (from : Cursor) (ls : List Lines) → AreThreads names k from ls → Ready names ls
threads_ready names _ _ _ (last_one k l from to is end) = let none = no_threads names in one_ready names k from to l [] is none.0 none.1 refl
threads_ready names _ _ _ (one_thread k l ls from to is rest) =
    let others = threads_ready names (k + 1) to ls rest in
    one_ready names k from to l ls is others.each others.notes others.points

pub source_ready : (bytes : List ℕ) (s : Source) → IsSourceText bytes s → IsReady s
source_ready bytes s is =
    let ready = threads_ready s.names 1 is.threads_at s.threads is.threads in
    record {
      threads = record {
        some = let some = ready.some in let many = length-map s.threads (λ (l : Lines). l.stmts) in omega arith;
        few = let few = is.few in let many = length-map s.threads (λ (l : Lines). l.stmts) in omega arith;
        each = ready.each;
      };
      pre = given_small IsRaw (RawDeclared s.names) s.names _ is.pre_at is.crash_at s.pre (raw_small s.names) is.pre;
      crash = given_small IsCrash (CrashDeclared s.names) s.names _ is.crash_at is.threads_at s.crash (crash_small s.names) is.crash;
      notes = ready.notes;
      points = ready.points;
    }
