-- The formulas of an outline speak of its program.
use Rattle.std.proofs.Common.{◌≡◌, ℕ, zero, suc, ◌+◌, ◌<◌, ◌≤◌, ◌==◌, Bool, true, false, ◌&&◌, if◌then◌else◌, nat_le, List, [], ◌∷◌, length, map, get_or, None, Some, Result, Ok, Err, IfOk, refl, sym, ap, subst, ◌∙◌, arith}
use Rattle.std.specs.List.{All, flat_map, fold, range_with_len}
use Rattle.std.proofs.lemmas.Bool.{leb-true}
use Rattle.std.proofs.lemmas.List.Elements.{All-nil, All-cons, All-head, All-tail, All-append, All-map, All-weaker, All-filter}
use Rattle.pg_program.specs.NameTable.{NameTable}
use Rattle.pg_assertion.specs.declared.atom.ViewAtom.{ViewAtom}
use Rattle.pg_assertion.specs.declared.atom.ViewAtom.TheVariants as view
use Rattle.pg_assertion.specs.declared.atom.CrashAtom.{CrashAtom}
use Rattle.pg_assertion.specs.declared.atom.CrashAtom.TheVariants as crash
use Rattle.pg_assertion.specs.declared.atom.RawAtom.{RawAtom}
use Rattle.pg_assertion.specs.declared.formula.Formula.{Formula}
use Rattle.pg_assertion.specs.Formula.{Plain, plain, top, bottom, atom, neg, both, either, implies, AllAtoms, with_atoms}
use Rattle.pg_assertion.specs.Atom.{raw_of, RawDeclared}
use Rattle.pg_assertion.specs.Layout.{sizes, IsAtom, IsThreadNumber}
use Rattle.pg_assertion.specs.Expansion.{mentions, named, vectors, constant, fill, conjunction, can_persist, term, expansion_over, expansion, IsAtomOf, value_in}
use Rattle.pg_program.specs.Program.{ProgramTable}
use Rattle.pg_outline.specs.declared.fault.OutlineFault.{OutlineFault}
use Rattle.pg_outline.specs.declared.fault.OutlineFault.TheVariants.{UnknownThread}
use Rattle.pg_outline.specs.Outline.{OutlineTable, IsSmall, draft_of}
use Rattle.pg_outline.specs.Speaks.{IsOver, IsCrashOver}
use Rattle.pg_outline.specs.Fault.{Fault, first_of, first_in, in_formula, atom_fault, crash_atom_fault, value_fault, thread_fault, locations_fault, size_fault, numbers_fault, assertion_fault}
use Rattle.pg_outline.specs.Made.{IsOutline, Makes}
use Rattle.pg_outline.proofs.Parts.{both_none, value_inside, atoms_inside}

-- ---- over names and n threads

module _ (names : NameTable) (n : ℕ) where
  abbrev Speaks : Plain ViewAtom → Type 0
  Speaks f = AllAtoms (IsAtom (sizes names n)) f

  thread_inside : (t : ℕ) → thread_fault n t ≡ None → IsThreadNumber (sizes names n) t
  thread_inside t h = by (nat_le 1 t) (nat_le t n) refl refl h
    where
      by : (a b : Bool) → nat_le 1 t ≡ a → nat_le t n ≡ b → ◌≡◌ {A = Fault} (if a && b then None else Some (UnknownThread t)) None → IsThreadNumber (sizes names n) t
      by true true e f g = record { first = leb-true 1 t e; last = leb-true t n f }
      by true false e f g = cc
      by false b e f g = cc

  value : (v : ℕ) → value_fault names.domain v ≡ None → v < names.domain
  value = value_inside names.domain

  two : (f g : Fault) → first_of f g ≡ None → (f ≡ None) × (g ≡ None)
  two = both_none

  atom_inside : (a : ViewAtom) → RawDeclared names (raw_of a) → atom_fault names.domain n (raw_of a) ≡ None → IsAtom (sizes names n) a
  atom_inside (view.Scalar r k) h e = (h, value k e)
  atom_inside (view.Last x v) h e = (h, value v e)
  atom_inside (view.Read t x v) h e = let p = two (thread_fault n t) (value_fault names.domain v) e in (thread_inside t p.0, h, value v p.1)
  atom_inside (view.Persist x v) h e = (h, value v e)
  atom_inside (view.Async t x v) h e = let p = two (thread_fault n t) (value_fault names.domain v) e in (thread_inside t p.0, h, value v p.1)
  atom_inside (view.Then t x v y w) h e =
      let p = two (thread_fault n t) (first_of (value_fault names.domain v) (value_fault names.domain w)) e in
      let q = two (value_fault names.domain v) (value_fault names.domain w) p.1 in
      (thread_inside t p.0, h.0, value v q.0, h.1, value w q.1)
  atom_inside (view.Newest t x) h e = (thread_inside t e, h)
  atom_inside (view.Ordered t x) h e = (thread_inside t e, h)
  atom_inside (view.Fenced t x) h e = (thread_inside t e, h)

  abbrev fault_of : Plain RawAtom → Fault
  fault_of f = in_formula (atom_fault names.domain n) f

  formula_inside : (f : Plain ViewAtom) → AllAtoms (RawDeclared names) (with_atoms raw_of f) → fault_of (with_atoms raw_of f) ≡ None → Speaks f
  unfolding with_atoms
  formula_inside top h e = tt
  formula_inside bottom h e = tt
  formula_inside (atom a) h e = atom_inside a h e
  formula_inside (neg f) h e = formula_inside f h e
  formula_inside (both f g) h e =
      let p = two (fault_of (with_atoms raw_of f)) (fault_of (with_atoms raw_of g)) e in
      (formula_inside f h.0 p.0, formula_inside g h.1 p.1)
  formula_inside (either f g) h e =
      let p = two (fault_of (with_atoms raw_of f)) (fault_of (with_atoms raw_of g)) e in
      (formula_inside f h.0 p.0, formula_inside g h.1 p.1)
  formula_inside (implies f g) h e =
      let p = two (fault_of (with_atoms raw_of f)) (fault_of (with_atoms raw_of g)) e in
      (formula_inside f h.0 p.0, formula_inside g h.1 p.1)

  abbrev raw : List (Plain ViewAtom) → List (Plain RawAtom)
  raw = map (with_atoms raw_of)

  row_inside : (fs : List (Plain ViewAtom)) → All (IsSmall (RawDeclared names)) (raw fs) → first_in fault_of (raw fs) ≡ None → All Speaks fs
  row_inside [] small e = All-nil Speaks
  row_inside (f ∷ fs) small e =
      let p = two (fault_of (with_atoms raw_of f)) (first_in fault_of (raw fs)) e in
      All-cons Speaks f fs
      (formula_inside f (All-head (IsSmall (RawDeclared names)) (with_atoms raw_of f) (raw fs) small).atoms p.0)
      (row_inside fs (All-tail (IsSmall (RawDeclared names)) (with_atoms raw_of f) (raw fs) small) p.1)

  -- each row of the assertions, and the empty one where there is no such thread
  rows_inside : (rows : List (List (Plain ViewAtom))) → All (All (IsSmall (RawDeclared names))) (map raw rows) → first_in (first_in fault_of) (map raw rows) ≡ None
      → (i : ℕ) → All Speaks (get_or rows i [])
  rows_inside [] small e i = All-nil Speaks
  rows_inside (fs ∷ rows) small e zero =
      row_inside fs (All-head (All (IsSmall (RawDeclared names))) (raw fs) (map raw rows) small) (two (first_in fault_of (raw fs)) (first_in (first_in fault_of) (map raw rows)) e).0
  rows_inside (fs ∷ rows) small e (suc i) =
      rows_inside rows (All-tail (All (IsSmall (RawDeclared names))) (raw fs) (map raw rows) small) (two (first_in fault_of (raw fs)) (first_in (first_in fault_of) (map raw rows)) e).1 i

  -- ---- an expansion

  constant_inside : (b : Bool) → Speaks (constant b)
  constant_inside true = tt
  constant_inside false = tt

  fill_inside : (w : List (ℕ × ℕ)) (f : Plain CrashAtom) → AllAtoms (IsAtomOf names) f → Speaks (fill w f)
  fill_inside w top h = tt
  fill_inside w bottom h = tt
  fill_inside w (atom (crash.Scalar r k)) h = h
  fill_inside w (atom (crash.Location x v)) h = constant_inside (value_in w x == v)
  fill_inside w (neg f) h = fill_inside w f h
  fill_inside w (both f g) h = (fill_inside w f h.0, fill_inside w g h.1)
  fill_inside w (either f g) h = (fill_inside w f h.0, fill_inside w g h.1)
  fill_inside w (implies f g) h = (fill_inside w f h.0, fill_inside w g h.1)

  fold_inside : (f : Plain ViewAtom) (fs : List (Plain ViewAtom)) → Speaks f → All Speaks fs → Speaks (fold both f fs)
  fold_inside f [] h all = h
  fold_inside f (g ∷ gs) h all = fold_inside (both f g) gs (h, All-head Speaks g gs all) (All-tail Speaks g gs all)

  conjunction_inside : (fs : List (Plain ViewAtom)) → All Speaks fs → Speaks (conjunction fs)
  conjunction_inside [] all = tt
  conjunction_inside (f ∷ fs) all = fold_inside f fs (All-head Speaks f fs all) (All-tail Speaks f fs all)

  -- a location and a value of the program
  abbrev Place : ℕ × ℕ → Type 0
  Place e = (e.0 < length names.locations) × (e.1 < names.domain)

  abbrev Below : ℕ → Type 0
  Below x = x < length names.locations

  persist_inside : (w : List (ℕ × ℕ)) → All Place w → All Speaks (map can_persist w)
  persist_inside w all = All-map Speaks can_persist w all

  term_inside : (f : Plain CrashAtom) → AllAtoms (IsAtomOf names) f → (w : List (ℕ × ℕ)) → All Place w → Speaks (term f w)
  term_inside f h w all = (conjunction_inside (map can_persist w) (persist_inside w all), fill_inside w f h)

  put_inside : (x : ℕ) (ws : List (List (ℕ × ℕ))) → Below x → All (All Place) ws → (a k : ℕ) → a + k ≤ names.domain
      → All (All Place) (flat_map (λ v. map (λ w. (x, v) ∷ w) ws) (range_with_len a k))
  put_inside x ws low h a zero few = All-nil (All Place)
  put_inside x ws low h a (suc k) few =
      let here : a < names.domain = omega arith in
      let rest : a + 1 + k ≤ names.domain = omega arith in
      All-append (All Place) (map (λ w. (x, a) ∷ w) ws) (flat_map (λ v. map (λ w. (x, v) ∷ w) ws) (range_with_len (a + 1) k))
      (All-map (All Place) (λ w. (x, a) ∷ w) ws (All-weaker (All Place) (λ w. All Place ((x, a) ∷ w)) (λ w all. All-cons Place (x, a) w (low, here) all) ws h))
      (put_inside x ws low h (a + 1) k rest)

  vectors_inside : (xs : List ℕ) → All Below xs → All (All Place) (vectors names.domain xs)
  vectors_inside [] all = All-cons (All Place) [] [] (All-nil Place) (All-nil (All Place))
  vectors_inside (x ∷ xs) all =
      put_inside x (vectors names.domain xs) (All-head Below x xs all) (vectors_inside xs (All-tail Below x xs all)) 0 names.domain (omega arith)

  range_below : (a k : ℕ) → a + k ≤ length names.locations → All Below (range_with_len a k)
  range_below a zero few = All-nil Below
  range_below a (suc k) few = All-cons Below a (range_with_len (a + 1) k) (omega arith) (range_below (a + 1) k (omega arith))

  over_inside : (xs : List ℕ) (f : Plain CrashAtom) → All Below xs → AllAtoms (IsAtomOf names) f → Speaks (expansion_over names.domain xs f)
  over_inside [] f all h = fill_inside [] f h
  over_inside (x ∷ xs) f all h =
      let ws = vectors names.domain (x ∷ xs) in
      conjunction_inside (map (term f) ws)
      (All-map Speaks (term f) ws (All-weaker (All Place) (λ w. Speaks (term f w)) (term_inside f h) ws (vectors_inside (x ∷ xs) all)))

  expansion_inside : (f : Plain CrashAtom) → AllAtoms (IsAtomOf names) f → Speaks (expansion names f)
  expansion_inside f h =
      over_inside (named (length names.locations) f) f
      (All-filter (λ x. mentions x f) Below (range_with_len 0 (length names.locations)) (range_below 0 (length names.locations) (omega arith))) h

-- ---- one formula over a program

pub made_speaks : (p : ProgramTable) (f : Plain RawAtom) (made : Result (Formula ViewAtom) OutlineFault)
    → Makes (λ g. with_atoms raw_of (plain g)) f (assertion_fault p f) made → AllAtoms (RawDeclared p.names) f → IfOk made (λ g. IsOver p (plain g))
made_speaks p f (Ok g) is declared =
    formula_inside p.names (length p.threads) (plain g) (subst (AllAtoms (RawDeclared p.names)) (sym is.0) declared) (ap (assertion_fault p) is.0 ∙ is.1)
made_speaks p f (Err e) is declared = tt

-- ---- the formulas of an outline

record NoFaults (o : OutlineTable) : Type 0 where
  pre : in_formula (atom_fault o.program.names.domain (length o.program.threads)) (draft_of o).pre ≡ None
  crash : in_formula (crash_atom_fault o.program.names.domain) o.crash ≡ None
  notes : first_in (first_in (in_formula (atom_fault o.program.names.domain (length o.program.threads)))) (draft_of o).notes ≡ None

no_faults : (o : OutlineTable) → IsOutline o → NoFaults o
no_faults o made =
    let names = o.program.names in
    let n = length o.program.threads in
    let d = draft_of o in
    let notes_fault = first_in (first_in (in_formula (atom_fault names.domain n))) in
    let numbers = both_none (numbers_fault names.domain n d) (first_of (locations_fault names o.crash) (size_fault names o.crash)) made.faultless in
    let pre = both_none (in_formula (atom_fault names.domain n) d.pre) (first_of (in_formula (crash_atom_fault names.domain) d.crash) (notes_fault d.notes)) numbers.0 in
    let rest = both_none (in_formula (crash_atom_fault names.domain) d.crash) (notes_fault d.notes) pre.1 in
    record { pre = pre.0; crash = rest.0; notes = rest.1 }

pub pre_speaks : (o : OutlineTable) → IsOutline o → IsOver o.program o.pre
pre_speaks o made = formula_inside o.program.names (length o.program.threads) o.pre made.draft.pre.atoms (no_faults o made).pre

pub crash_speaks : (o : OutlineTable) → IsOutline o → IsCrashOver o.program o.crash
crash_speaks o made = atoms_inside o.program.names.domain o.program.names o.crash refl made.draft.crash.atoms (no_faults o made).crash

pub notes_speak : (o : OutlineTable) → IsOutline o → (i : ℕ) → All (IsOver o.program) (get_or o.notes i [])
notes_speak o made i = rows_inside o.program.names (length o.program.threads) o.notes made.draft.notes (no_faults o made).notes i

pub expansion_speaks : (o : OutlineTable) → IsOutline o → IsOver o.program (expansion o.program.names o.crash)
expansion_speaks o made = expansion_inside o.program.names (length o.program.threads) o.crash (crash_speaks o made)
