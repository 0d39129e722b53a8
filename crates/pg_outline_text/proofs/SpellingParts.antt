-- What printing an outline needs of its parts: the entries of the table one by one, the threads one by one, and that each
-- formula speaks of declared names alone.
use Rattle.std.proofs.Common.{◌≡◌, ℕ, zero, suc, ◌+◌, ◌<◌, ◌≤◌, List, [], ◌∷◌, ◌++◌, length, drop, map, get_or, Some, None, refl, sym, ap, ap₂, ◌∙◌, arith, append_assoc}
use Rattle.std.specs.Prelude.{Result, Ok, Err, OnOk, Option, IfSome, option_map, slice_get, unwrap_or, codes, decimal}
use Rattle.std.specs.List.{All, flat_map}
use Rattle.std.proofs.lemmas.Option.{unwrap_or-slice_get}
use Rattle.std.proofs.lemmas.List.{append-nil, drop_more, drop_all}
use Rattle.std.proofs.lemmas.List.Elements.{All-nil, All-cons, All-head, All-tail}
use Rattle.pg_program.specs.declared.name_table.NameKind.TheVariants as name
use Rattle.pg_program.specs.declared.name_table.ScalarKind.{ScalarKind}
use Rattle.pg_program.specs.declared.name_table.ScalarKind.TheVariants as scalar
use Rattle.pg_program.specs.declared.syntax.Stmt.{Stmt}
use Rattle.pg_program.specs.NameTable.{NameTable, Location, kind_of}
use Rattle.pg_assertion.specs.declared.atom.ViewAtom.{ViewAtom}
use Rattle.pg_assertion.specs.declared.atom.ViewAtom.TheVariants as view
use Rattle.pg_assertion.specs.Formula.{Plain, top, bottom, atom, neg, both, either, implies, AllAtoms, with_atoms}
use Rattle.pg_assertion.specs.Atom.{raw_of, RawDeclared, NamesDeclared}
use Rattle.pg_assertion_text.specs.Spelling.{spell_atom, spell_crash}
use Rattle.pg_outline.specs.Outline.{OutlineTable, IsSmall}
use Rattle.pg_outline_text.specs.Spelling.{location_line, location_lines, scalar_line, given_line, first_notes, thread_lines, threads_lines, head_lines, spell_outline}

-- ---- entries

-- the line of a location by its name and its initial value
pub location_entry : (o : Option Location) (n : List ℕ) (v : ℕ) (old new : List ℕ) → option_map (λ l. l.name) o ≡ Some n → option_map (λ l. l.init) o ≡ Some v
    → new ≡ old ++ (codes "location " ++ (n ++ (codes " = " ++ (decimal v ++ codes ";\n")))) → IfSome o (λ l. new ≡ old ++ location_line l.name l.init)
unfolding location_line
location_entry None n v old new h k is = tt
location_entry (Some l) n v old new h k is =
    let called : n ≡ l.name = cc in
    let value : v ≡ l.init = cc in
    is ∙ ap₂ (λ (a : List ℕ) (b : ℕ). old ++ location_line a b) called value

-- the lines of the locations from one of them on are its own and those behind it
pub locations_more : (ls : List Location) (x : ℕ) (old new : List ℕ) → x < length ls → IfSome (slice_get ls x) (λ l. new ≡ old ++ location_line l.name l.init)
    → new ++ location_lines (drop (x + 1) ls) ≡ old ++ location_lines (drop x ls)
locations_more [] x old new below is = absurd (omega arith)
locations_more (l ∷ ls) zero old new below is = ap (λ (t : List ℕ). t ++ location_lines ls) is ∙ append_assoc old (location_line l.name l.init) (location_lines ls)
locations_more (l ∷ ls) (suc x) old new below is =
    let next : suc x + 1 ≡ suc (x + 1) = omega arith in
    ap (λ (k : ℕ). new ++ location_lines (drop k (l ∷ ls))) next ∙ locations_more ls x old new (omega arith) is

scalar_of : (o : Option (List ℕ × ScalarKind)) (n : List ℕ) (k : ScalarKind) → option_map (λ e. e.0) o ≡ Some n → option_map (λ e. kind_of e.1) o ≡ Some (kind_of k)
    → unwrap_or o ([], scalar.Auxiliary) ≡ (n, k)
scalar_of None n k h is = cc
scalar_of (Some (m, scalar.Register t)) n (scalar.Register u) h is = let first : m ≡ n = cc in let second : t ≡ u = cc in ap₂ (λ x y. (x, scalar.Register y)) first second
scalar_of (Some (m, scalar.Auxiliary)) n scalar.Auxiliary h is = let first : m ≡ n = cc in ap (λ x. (x, scalar.Auxiliary)) first
scalar_of (Some (m, scalar.Register t)) n scalar.Auxiliary h is = cc
scalar_of (Some (m, scalar.Auxiliary)) n (scalar.Register u) h is = cc

entry_line : (es : List (List ℕ × ScalarKind)) (r : ℕ) (n : List ℕ) (k : ScalarKind) → option_map (λ e. e.0) (slice_get es r) ≡ Some n
    → option_map (λ e. kind_of e.1) (slice_get es r) ≡ Some (kind_of k) → scalar_line (get_or es r ([], scalar.Auxiliary)) ≡ scalar_line (n, k)
entry_line es r n k h is = ap scalar_line (sym (unwrap_or-slice_get es r ([], scalar.Auxiliary)) ∙ scalar_of (slice_get es r) n k h is)

pub register_line : (es : List (List ℕ × ScalarKind)) (r : ℕ) (n : List ℕ) (t : ℕ) → option_map (λ e. e.0) (slice_get es r) ≡ Some n
    → option_map (λ e. kind_of e.1) (slice_get es r) ≡ Some (name.Register t)
    → scalar_line (get_or es r ([], scalar.Auxiliary)) ≡ codes "register " ++ (n ++ (codes " of " ++ (decimal t ++ codes ";\n")))
register_line es r n t h is = entry_line es r n (scalar.Register t) h is

pub auxiliary_line : (es : List (List ℕ × ScalarKind)) (r : ℕ) (n : List ℕ) → option_map (λ e. e.0) (slice_get es r) ≡ Some n
    → option_map (λ e. kind_of e.1) (slice_get es r) ≡ Some name.Auxiliary → scalar_line (get_or es r ([], scalar.Auxiliary)) ≡ codes "auxiliary " ++ (n ++ codes ";\n")
auxiliary_line es r n h is = entry_line es r n scalar.Auxiliary h is

pub scalar_printed : (es : List (List ℕ × ScalarKind)) (r : ℕ) (old new whole : List ℕ) → r < length es → new ≡ old ++ scalar_line (get_or es r ([], scalar.Auxiliary))
    → old ++ flat_map scalar_line (drop r es) ≡ whole → new ++ flat_map scalar_line (drop (r + 1) es) ≡ whole
scalar_printed es r old new whole below is so_far =
    let line = scalar_line (get_or es r ([], scalar.Auxiliary)) in
    let rest = flat_map scalar_line (drop (r + 1) es) in
    ap (λ (t : List ℕ). t ++ rest) is ∙ append_assoc old line rest ∙ ap (λ t. old ++ flat_map scalar_line t) (sym (drop_more es r ([], scalar.Auxiliary) below)) ∙ so_far

pub scalars_printed : (es : List (List ℕ × ScalarKind)) (r : ℕ) (text whole : List ℕ) → length es ≤ r → text ++ flat_map scalar_line (drop r es) ≡ whole → text ≡ whole
scalars_printed es r text whole past so_far = sym (append-nil text) ∙ ap (λ t. text ++ flat_map scalar_line t) (sym (drop_all r es past)) ∙ so_far

-- ---- threads

first_notes-drop : (notes : List (List (Plain ViewAtom))) (i : ℕ) → first_notes (drop i notes) ≡ get_or notes i []
first_notes-drop [] zero = refl
first_notes-drop [] (suc i) = refl
first_notes-drop (ns ∷ notes) zero = refl
first_notes-drop (ns ∷ notes) (suc i) = first_notes-drop notes i

drop_next : {A : Type 0} (xs : List A) (i : ℕ) → drop 1 (drop i xs) ≡ drop (i + 1) xs
drop_next [] zero = refl
drop_next {A} [] (suc i) = let one : suc (i + 1) ≡ suc i + 1 = omega arith in ap (λ (k : ℕ). drop {A = A} k []) one
drop_next (x ∷ xs) zero = refl
drop_next (x ∷ xs) (suc i) = let one : suc (i + 1) ≡ suc i + 1 = omega arith in drop_next xs i ∙ ap (λ (k : ℕ). drop k (x ∷ xs)) one

-- the lines of the threads from one of them on are its own and those behind it
pub threads_more : (names : NameTable) (threads : List (List Stmt)) (notes : List (List (Plain ViewAtom))) (i : ℕ) → i < length threads
    → threads_lines names (i + 1) (drop i threads) (drop i notes)
    ≡ thread_lines names (i + 1) (get_or threads i []) (get_or notes i []) ++ threads_lines names (i + 1 + 1) (drop (i + 1) threads) (drop (i + 1) notes)
threads_more names threads notes i below =
    ap (λ t. threads_lines names (i + 1) t (drop i notes)) (drop_more threads i [] below)
    ∙ ap₂ (λ ns rest. thread_lines names (i + 1) (get_or threads i []) ns ++ threads_lines names (i + 1 + 1) (drop (i + 1) threads) rest) (first_notes-drop notes i) (drop_next notes i)

pub thread_printed : (names : NameTable) (threads : List (List Stmt)) (notes : List (List (Plain ViewAtom))) (i k : ℕ) (old new whole : List ℕ) → k ≡ i → i < length threads
    → new ≡ old ++ thread_lines names (i + 1) (get_or threads k []) (get_or notes k []) → old ++ threads_lines names (i + 1) (drop i threads) (drop i notes) ≡ whole
    → new ++ threads_lines names (i + 1 + 1) (drop (i + 1) threads) (drop (i + 1) notes) ≡ whole
thread_printed names threads notes i k old new whole at below is so_far =
    let lines = thread_lines names (i + 1) (get_or threads i []) (get_or notes i []) in
    let rest = threads_lines names (i + 1 + 1) (drop (i + 1) threads) (drop (i + 1) notes) in
    ap (λ (t : List ℕ). t ++ rest) (is ∙ ap (λ (j : ℕ). old ++ thread_lines names (i + 1) (get_or threads j []) (get_or notes j [])) at)
    ∙ append_assoc old lines rest ∙ ap (λ (t : List ℕ). old ++ t) (sym (threads_more names threads notes i below)) ∙ so_far

pub threads_printed : (names : NameTable) (threads : List (List Stmt)) (notes : List (List (Plain ViewAtom))) (i k : ℕ) (text whole : List ℕ) → length threads ≤ i
    → text ++ threads_lines names k (drop i threads) notes ≡ whole → text ≡ whole
threads_printed names threads notes i k text whole past so_far = sym (append-nil text) ∙ ap (λ t. text ++ threads_lines names k t notes) (sym (drop_all i threads past)) ∙ so_far

-- ---- names of formulas

raw_names : (names : NameTable) (a : ViewAtom) → RawDeclared names (raw_of a) → NamesDeclared names a
raw_names names (view.Scalar r k) h = h
raw_names names (view.Last x v) h = h
raw_names names (view.Read t x v) h = h
raw_names names (view.Persist x v) h = h
raw_names names (view.Async t x v) h = h
raw_names names (view.Then t x v y w) h = h
raw_names names (view.Newest t x) h = h
raw_names names (view.Ordered t x) h = h
raw_names names (view.Fenced t x) h = h

pub formula_names : (names : NameTable) (f : Plain ViewAtom) → AllAtoms (RawDeclared names) (with_atoms raw_of f) → AllAtoms (NamesDeclared names) f
unfolding with_atoms
formula_names names top h = tt
formula_names names bottom h = tt
formula_names names (atom a) h = raw_names names a h
formula_names names (neg f) h = formula_names names f h
formula_names names (both f g) h = (formula_names names f h.0, formula_names names g h.1)
formula_names names (either f g) h = (formula_names names f h.0, formula_names names g h.1)
formula_names names (implies f g) h = (formula_names names f h.0, formula_names names g h.1)

notes_names : (names : NameTable) (fs : List (Plain ViewAtom)) → All (IsSmall (RawDeclared names)) (map (with_atoms raw_of) fs) → All (AllAtoms (NamesDeclared names)) fs
notes_names names [] h = All-nil (AllAtoms (NamesDeclared names))
notes_names names (f ∷ fs) h =
    let raws = map (with_atoms raw_of) fs in
    All-cons (AllAtoms (NamesDeclared names)) f fs (formula_names names f (All-head (IsSmall (RawDeclared names)) (with_atoms raw_of f) raws h).atoms)
    (notes_names names fs (All-tail (IsSmall (RawDeclared names)) (with_atoms raw_of f) raws h))

pub thread_names : (names : NameTable) (notes : List (List (Plain ViewAtom))) (i : ℕ) → All (All (IsSmall (RawDeclared names))) (map (map (with_atoms raw_of)) notes)
    → All (AllAtoms (NamesDeclared names)) (get_or notes i [])
thread_names names [] zero h = All-nil (AllAtoms (NamesDeclared names))
thread_names names [] (suc i) h = All-nil (AllAtoms (NamesDeclared names))
thread_names names (ns ∷ notes) zero h = notes_names names ns (All-head (All (IsSmall (RawDeclared names))) (map (with_atoms raw_of) ns) (map (map (with_atoms raw_of)) notes) h)
thread_names names (ns ∷ notes) (suc i) h = thread_names names notes i (All-tail (All (IsSmall (RawDeclared names))) (map (with_atoms raw_of) ns) (map (map (with_atoms raw_of)) notes) h)

-- ---- outlines

-- the text, by what is appended one behind the other
pub outline_spelled : (o : OutlineTable) (start head pre crash whole : List ℕ) → head ≡ start ++ head_lines o.program.names
    → pre ≡ head ++ given_line (codes "pre ") (spell_atom o.program.names) o.pre → crash ≡ pre ++ given_line (codes "crash ") (spell_crash o.program.names) o.crash
    → whole ≡ crash ++ threads_lines o.program.names 1 o.program.threads o.notes → whole ≡ start ++ spell_outline o
unfolding spell_outline
outline_spelled o start head pre crash whole a b c d =
    let A = head_lines o.program.names in
    let B = given_line (codes "pre ") (spell_atom o.program.names) o.pre in
    let C = given_line (codes "crash ") (spell_crash o.program.names) o.crash in
    let D = threads_lines o.program.names 1 o.program.threads o.notes in
    d ∙ ap (λ t. t ++ D) (c ∙ ap (λ t. t ++ C) (b ∙ ap (λ t. t ++ B) a))
    ∙ append_assoc ((start ++ A) ++ B) C D ∙ append_assoc (start ++ A) B (C ++ D) ∙ append_assoc start A (B ++ (C ++ D))

pub on_ok : {A E P Q : Type 0} (r : Result A E) → (P → Q) → OnOk r P → OnOk r Q
on_ok (Ok a) f h = f h
on_ok (Err e) f h = h
