-- The made outline is one, and keeps the limits of a text.
use Rattle.std.proofs.Common.{◌≡◌, ℕ, ◌+◌, ◌==◌, ◌≤◌, Bool, true, false, cond, List, [], ◌∷◌, length, map, None, refl, sym, ap, ap₂, subst, ◌∙◌, arith}
use Rattle.std.specs.List.{All, range_with_len}
use Rattle.std.proofs.lemmas.List.{length-map}
use Rattle.std.proofs.lemmas.List.FromFn.{length-map-range_with_len}
use Rattle.std.proofs.lemmas.List.Elements.{All-nil, All-cons}
use Rattle.pg_program.specs.NameTable.{Location}
use Rattle.pg_program.specs.Block.{block}
use Rattle.pg_program.specs.Graph.{size}
use Rattle.pg_program.specs.Program.{ProgramTable}
use Rattle.pg_assertion.specs.declared.atom.ViewAtom.{ViewAtom}
use Rattle.pg_assertion.specs.declared.atom.ViewAtom.TheVariants as view
use Rattle.pg_assertion.specs.declared.atom.RawAtom.{RawAtom}
use Rattle.pg_assertion.specs.declared.atom.CrashAtom.{CrashAtom}
use Rattle.pg_assertion.specs.Formula.{Plain, top, atom, neg, with_atoms}
use Rattle.pg_assertion.specs.Atom.{raw_of, RawDeclared}
use Rattle.pg_assertion_text.specs.Spelling.{IsName, AreNames, opens}
use Rattle.pg_assertion_text.specs.Words.{is_reserved}
use Rattle.pg_assertion_text.specs.SpellingLaws.{IsWritable}
use Rattle.pg_assertion_text.specs.ReadAgain.{IsWhole}
use Rattle.pg_program_text.specs.SpellingLaws.{WholeStmt}
use Rattle.pg_outline.specs.Outline.{OutlineTable, Draft, IsSmall, IsDraft, draft_of}
use Rattle.pg_outline.specs.Fault.{Fault, first_of, first_in, in_formula, atom_fault, first_fault}
use Rattle.pg_outline_text.specs.SpellingLaws.{FitsThread, IsWritableOutline}
use Rattle.pg_made.specs.Made.{x, names, statements, program, note, notes, pre, crash_formula, made_outline}
use Rattle.pg_made.proofs.Statements.{is_whole, statements_are, not_nested, each}
use Rattle.pg_made.proofs.Drafts.{one_outline}
use Rattle.pg_made.proofs.Programs.{is_table, size_of, is_program}

-- ---- the three assertions

by_point : (P : Plain ViewAtom → Type 0) → (t : ℕ) → P top → P (neg (atom (view.Read t x 0))) → P (neg (atom (view.Persist x 0))) → (k : ℕ) → P (note t k)
by_point P t first second later k = by (k == 1) (k == 2)
  where
    by : (b c : Bool) → P (cond b top (cond c (neg (atom (view.Read t x 0))) (neg (atom (view.Persist x 0)))))
    by true c = first
    by false true = second
    by false false = later

note_small : (t k : ℕ) → IsSmall (RawDeclared names) (with_atoms raw_of (note t k))
unfolding with_atoms
note_small t =
    by_point (λ f. IsSmall (RawDeclared names) (with_atoms raw_of f)) t
    (record { atoms = tt; few = omega arith })
    (record { atoms = omega arith; few = omega arith })
    (record { atoms = omega arith; few = omega arith })

note_faultless : (t k : ℕ) → 1 ≤ t → t ≤ 2 → in_formula (atom_fault 2 2) (with_atoms raw_of (note t k)) ≡ None
unfolding with_atoms
note_faultless t k low high = by_point (λ f. in_formula (atom_fault 2 2) (with_atoms raw_of f) ≡ None) t refl (grind (arith, low, high)) refl k

note_whole : (t k : ℕ) → 1 ≤ t → t ≤ 2 → AreNames names → IsWhole IsWritable names (note t k)
unfolding opens
note_whole t k low high are =
    by_point (IsWhole IsWritable names) t
    (record { table = is_table; names_are = are; atoms = tt; shallow = omega arith; few = omega arith })
    (record { table = is_table; names_are = are; atoms = (omega arith, (omega (arith, high), omega arith)); shallow = omega arith; few = omega arith })
    (record { table = is_table; names_are = are; atoms = (omega arith, omega arith); shallow = omega arith; few = omega arith })
    k

-- ---- the draft

each_note : (P : Plain ViewAtom → Type 0) → (t : ℕ) → ((k : ℕ) → P (note t k)) → (ks : List ℕ) → All P (map (note t) ks)
each_note P t h [] = All-nil P
each_note P t h (k ∷ ks) = All-cons P (note t k) (map (note t) ks) (h k) (each_note P t h ks)

each_raw : (t : ℕ) (ks : List ℕ) → All (IsSmall (RawDeclared names)) (map (with_atoms raw_of) (map (note t) ks))
each_raw t [] = All-nil (IsSmall (RawDeclared names))
each_raw t (k ∷ ks) =
    All-cons (IsSmall (RawDeclared names)) (with_atoms raw_of (note t k)) (map (with_atoms raw_of) (map (note t) ks)) (note_small t k) (each_raw t ks)

none_faulty : (t : ℕ) → 1 ≤ t → t ≤ 2 → (ks : List ℕ) → first_in (in_formula (atom_fault 2 2)) (map (with_atoms raw_of) (map (note t) ks)) ≡ None
none_faulty t low high [] = refl
none_faulty t low high (k ∷ ks) =
    ap₂ (λ (f g : Fault). first_of f g) (note_faultless t k low high) (none_faulty t low high ks)

long : (t n : ℕ) → length (map (with_atoms raw_of) (notes t n)) ≡ size (block (statements n)) + 1
long t n =
    length-map (notes t n) (with_atoms raw_of)
    ∙ (length-map-range_with_len (note t) 1 (n + 1) ∙ ap (λ (m : ℕ). m + 1) (sym (size_of n)))

pub is_draft : (n : ℕ) → n ≤ 15 → IsDraft (draft_of (made_outline n))
unfolding with_atoms
is_draft n few =
    let all = All (IsSmall (RawDeclared names)) in
    record {
      program = is_program n few;
      pre = record { atoms = omega arith; few = omega arith };
      crash = record { atoms = (omega arith, omega arith); few = omega arith };
      notes =
          All-cons all (map (with_atoms raw_of) (notes 1 n)) (map (with_atoms raw_of) (notes 2 n) ∷ []) (each_raw 1 (range_with_len 1 (n + 1)))
          (All-cons all (map (with_atoms raw_of) (notes 2 n)) [] (each_raw 2 (range_with_len 1 (n + 1))) (All-nil all));
      points = ap₂ (λ (a b : ℕ). a ∷ b ∷ []) (long 1 n) (long 2 n);
    }

pub is_faultless : (n : ℕ) → first_fault (draft_of (made_outline n)) ≡ None
unfolding with_atoms
is_faultless n =
    ap₂ (λ (f g : Fault). first_of (first_of f (first_of g None)) None)
    (none_faulty 1 (omega arith) (omega arith) (range_with_len 1 (n + 1)))
    (none_faulty 2 (omega arith) (omega arith) (range_with_len 1 (n + 1)))

-- ---- the limits of a text

x_named : IsName (120 ∷ [])
unfolding is_reserved
x_named = record { begins = refl; word = (refl, tt); short = omega arith; free = refl }

y_named : IsName (121 ∷ [])
unfolding is_reserved
y_named = record { begins = refl; word = (refl, tt); short = omega arith; free = refl }

are_names : AreNames names
are_names = record {
  locations =
      All-cons (λ (l : Location). IsName l.name) (record { name = 120 ∷ []; init = 0; line = 0 }) (record { name = 121 ∷ []; init = 0; line = 1 } ∷ []) x_named
      (All-cons (λ (l : Location). IsName l.name) (record { name = 121 ∷ []; init = 0; line = 1 }) [] y_named (All-nil (λ (l : Location). IsName l.name)));
  scalars = All-nil _;
}

fits : (t n : ℕ) → 1 ≤ t → t ≤ 2 → n ≤ 15 → FitsThread names (statements n) (notes t n)
fits t n low high few =
    let js = range_with_len 1 n in
    let count = length-map-range_with_len (note t) 1 (n + 1) in
    record {
      whole = record {
        table = is_table;
        names_are = are_names;
        stmts = subst (All (WholeStmt names)) (sym (statements_are js)) (each (WholeStmt names) is_whole js);
        shallow = let flat = not_nested js in omega (arith, flat);
        points = count ∙ ap (λ (m : ℕ). m + 1) (sym (size_of n));
        formulas = each_note (IsWhole IsWritable names) t (λ k. note_whole t k low high are_names) (range_with_len 1 (n + 1));
      };
      few = omega (arith, count, few);
    }

pub is_writable : (n : ℕ) → n ≤ 15 → IsWritableOutline (made_outline n)
unfolding opens
is_writable n few = record {
  version = refl;
  names_are = are_names;
  pre = record { atoms = (omega arith, omega arith); shallow = omega arith; few = omega arith };
  crash = record { atoms = ((omega arith, omega arith), (omega arith, omega arith)); shallow = omega arith; few = omega arith };
  threads = (fits 1 n (omega arith) (omega arith) few, (fits 2 n (omega arith) (omega arith) few, tt));
}

-- ---- what the code makes

module _ (n : ℕ) (p : ProgramTable) (f : Plain RawAtom) (g : Plain CrashAtom) (ns : List (List (Plain RawAtom))) (p_is : p ≡ program n) (f_is : f ≡ with_atoms raw_of pre) (g_is : g ≡ crash_formula) (ns_are : ns ≡ map (map (with_atoms raw_of)) (notes 1 n ∷ notes 2 n ∷ [])) where
  abbrev pub made_draft : Draft
  made_draft = record { program = p; pre = f; crash = g; notes = ns }

  same : made_draft ≡ draft_of (made_outline n)
  same =
      let draft : ProgramTable → Plain RawAtom → Plain CrashAtom → List (List (Plain RawAtom)) → Draft = λ q e c l. record { program = q; pre = e; crash = c; notes = l } in
      ap₂ (λ q e. draft q e g ns) p_is f_is ∙ ap₂ (λ c l. draft (program n) (with_atoms raw_of pre) c l) g_is ns_are

  pub ready : n ≤ 15 → IsDraft made_draft × (first_fault made_draft ≡ None)
  ready few = (subst IsDraft (sym same) (is_draft n few), ap first_fault same ∙ is_faultless n)

  pub told : (o : OutlineTable) → draft_of o ≡ made_draft → o ≡ made_outline n
  told o h = one_outline o (made_outline n) (h ∙ same)
