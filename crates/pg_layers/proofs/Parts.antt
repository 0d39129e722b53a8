-- The formulas of an outline: they are over its layout, and small; and so is what an obligation says.
use Rattle.std.proofs.Common.{◌≡◌, ℕ, zero, suc, ◌+◌, ◌-◌, ◌<◌, ◌≤◌, ◌==◌, Bool, true, false, not, cond, List, [], ◌∷◌, length, map, get_or, Some, None, refl, sym, arith}
use Rattle.std.specs.List.{All, flat_map, filter, range_with_len}
use Rattle.std.specs.Prelude.{nat_le}
use Rattle.std.proofs.lemmas.Bool.{leb-true}
use Rattle.std.proofs.lemmas.Option.{none-some}
use Rattle.std.proofs.lemmas.List.Elements.{All-nil, All-cons, All-head, All-tail, All-append, All-map, All-weaker}
use Rattle.pg_program.specs.declared.point.Step.{Step}
use Rattle.pg_program.specs.NameTable.{initial}
use Rattle.pg_program.proofs.ProgramLemmas.{has_values, initial_inside}
use Rattle.pg_tables.specs.Steps.{IsStepOf}
use Rattle.pg_assertion.specs.declared.atom.ViewAtom.{ViewAtom}
use Rattle.pg_assertion.specs.declared.atom.ViewAtom.TheVariants.{Scalar, Last, Persist, Newest}
use Rattle.pg_assertion.specs.declared.layout.Side.{Side}
use Rattle.pg_assertion.specs.declared.layout.Side.TheVariants.{Before, After}
use Rattle.pg_assertion.specs.declared.step_atom.StepAtom.{StepAtom}
use Rattle.pg_assertion.specs.declared.step_atom.StepAtom.TheVariants.{On}
use Rattle.pg_assertion.specs.Atom.{raw_of, RawDeclared}
use Rattle.pg_assertion.specs.Expansion.{expansion}
use Rattle.pg_assertion.specs.Formula.{Plain, atom, neg, bottom, nodes, AllAtoms, with_atoms}
use Rattle.pg_assertion.specs.Layout.{Sizes, IsAtom, values, locations}
use Rattle.pg_assertion.specs.StepAtom.{IsStepAtom}
use Rattle.pg_outline.specs.Outline.{OutlineTable, note_at, draft_of, IsSmall}
use Rattle.pg_outline.specs.declared.fault.OutlineFault.TheVariants.{CrashNodes}
use Rattle.pg_outline.specs.Fault.{locations_fault, size_fault, numbers_fault, first_of}
use Rattle.pg_outline.specs.Limits.{most_expansion_nodes, most_nodes}
use Rattle.pg_outline.specs.Made.{IsOutline}
use Rattle.pg_outline.proofs.Parts.{both_none}
use Rattle.pg_outline.proofs.Speaks.{pre_speaks, notes_speak, expansion_speaks}
use Rattle.pg_obligations.specs.declared.obligation.Obligation.{Obligation}
use Rattle.pg_obligations.specs.declared.obligation.Obligation.TheVariants.{Fresh, Entry, EntryCrash, Local, Crash, Interfere}
use Rattle.pg_obligations.specs.Follow.{on, crash_of, fresh_values, of_state, across}
use Rattle.pg_layers.specs.Clauses.{layout_of, rules_of, entailment_of}
use Rattle.pg_layers.specs.Members.{IsObligationOf}
use Rattle.pg_layers.specs.Top.{IsPart}
use Rattle.pg_layers.proofs.Formulas.{nodes-with, all-with}
use Rattle.pg_layers.proofs.Over as table
use Rattle.pg_layers.proofs.OverAxioms.{axioms_over}
use Rattle.pg_layers.proofs.OverPersist.{persist_over}
use Rattle.pg_layers.proofs.OverAccess.{access_over}
use Rattle.pg_layers.proofs.Decides.{IsEntailmentOver}

get_any : {A : Type 0} (P : A → Type 0) (xs : List A) (d : A) (i : ℕ) → All P xs → P d → P (get_or xs i d)
get_any P [] d i h k = k
get_any P (x ∷ xs) d zero h k = All-head P x xs h
get_any P (x ∷ xs) d (suc i) h k = get_any P xs d i (All-tail P x xs h) k

-- an expansion without a fault is not too large
not_large : (n : ℕ) (b : Bool) → nat_le n most_expansion_nodes ≡ b → cond b None (Some (CrashNodes n)) ≡ None → n ≤ most_expansion_nodes
not_large n true is h = leb-true n most_expansion_nodes is
not_large n false is h = absurd (none-some (CrashNodes n) (sym h))

module _ (o : OutlineTable) (made : IsOutline o) where
  abbrev l : Sizes
  l = layout_of o

  small : (f : Plain ViewAtom) → AllAtoms (IsAtom l) f → nodes (with_atoms raw_of f) ≤ most_nodes → IsPart l f
  small f over few = let same = nodes-with raw_of f in record { over = over; few = omega (arith, few, same) }

  pub pre_small : nodes o.pre ≤ most_nodes
  pre_small = let same = nodes-with raw_of o.pre in let few = made.draft.pre.few in omega (arith, same, few)

  pub pre_part : IsPart l o.pre
  pre_part = small o.pre (pre_speaks o made) made.draft.pre.few

  pub crash_part : IsPart l (crash_of o)
  crash_part =
      let names = o.program.names in
      let rest = both_none (numbers_fault names.domain (length o.program.threads) (draft_of o)) (first_of (locations_fault names o.crash) (size_fault names o.crash)) made.faultless in
      let none = both_none (locations_fault names o.crash) (size_fault names o.crash) rest.1 in
      record { over = expansion_speaks o made; few = not_large (nodes (expansion names o.crash)) _ refl none.1 }

  -- the assertion at a point, and `false` where there is none
  few_in : (fs : List (Plain ViewAtom)) → All (IsSmall (RawDeclared o.program.names)) (map (with_atoms raw_of) fs) → (i : ℕ) → nodes (get_or fs i bottom) ≤ most_nodes
  few_in [] h i = omega arith
  few_in (f ∷ fs) h zero =
      let it = All-head (IsSmall (RawDeclared o.program.names)) (with_atoms raw_of f) (map (with_atoms raw_of) fs) h in
      let same = nodes-with raw_of f in
      omega (arith, it.few, same)
  few_in (f ∷ fs) h (suc i) = few_in fs (All-tail (IsSmall (RawDeclared o.program.names)) (with_atoms raw_of f) (map (with_atoms raw_of) fs) h) i

  few_at : (rows : List (List (Plain ViewAtom))) → All (All (IsSmall (RawDeclared o.program.names))) (map (map (with_atoms raw_of)) rows) → (j i : ℕ)
      → nodes (get_or (get_or rows j []) i bottom) ≤ most_nodes
  few_at [] h j i = omega arith
  few_at (fs ∷ rows) h zero i = few_in fs (All-head (All (IsSmall (RawDeclared o.program.names))) (map (with_atoms raw_of) fs) (map (map (with_atoms raw_of)) rows) h) i
  few_at (fs ∷ rows) h (suc j) i = few_at rows (All-tail (All (IsSmall (RawDeclared o.program.names))) (map (with_atoms raw_of) fs) (map (map (with_atoms raw_of)) rows) h) j i

  pub note_few : (t k : ℕ) → nodes (note_at o t k) ≤ most_nodes
  note_few t k = few_at o.notes made.draft.notes (t - 1) (k - 1)

  pub note_part : (t k : ℕ) → IsPart l (note_at o t k)
  note_part t k =
      let few = note_few t k in
      record { over = get_any (AllAtoms (IsAtom l)) (get_or o.notes (t - 1) []) bottom (k - 1) (notes_speak o made (t - 1)) tt; few = omega (arith, few) }

  -- ---- what is given of the fresh state

  flat_over : (P : Plain ViewAtom → Type 0) (f : ℕ → List (Plain ViewAtom)) (a n : ℕ) → ((k : ℕ) → a ≤ k → k < a + n → All P (f k)) → All P (flat_map f (range_with_len a n))
  flat_over P f a zero h = All-nil P
  flat_over P f a (suc n) h = All-append P (f a) (flat_map f (range_with_len (a + 1) n)) (h a (omega arith) (omega arith)) (flat_over P f (a + 1) n (λ k from to. h k (omega (arith, from)) (omega (arith, to))))

  mapped_over : (P : Plain ViewAtom → Type 0) (f : ℕ → Plain ViewAtom) (a n : ℕ) → ((k : ℕ) → a ≤ k → k < a + n → P (f k)) → All P (map f (range_with_len a n))
  mapped_over P f a zero h = All-nil P
  mapped_over P f a (suc n) h = All-cons P (f a) (map f (range_with_len (a + 1) n)) (h a (omega arith) (omega arith)) (mapped_over P f (a + 1) n (λ k from to. h k (omega (arith, from)) (omega (arith, to))))

  filtered_over : (P : Plain ViewAtom → Type 0) (test : ℕ → Bool) (f : ℕ → Plain ViewAtom) (a n : ℕ) → ((k : ℕ) → a ≤ k → k < a + n → P (f k)) → All P (map f (filter test (range_with_len a n)))
  filtered_over P test f a zero h = All-nil P
  filtered_over P test f a (suc n) h = by (test a) (filtered_over P test f (a + 1) n (λ k from to. h k (omega (arith, from)) (omega (arith, to))))
    where
      by : (b : Bool) → All P (map f (filter test (range_with_len (a + 1) n))) → All P (map f (cond b (a ∷ filter test (range_with_len (a + 1) n)) (filter test (range_with_len (a + 1) n))))
      by true rest = All-cons P (f a) (map f (filter test (range_with_len (a + 1) n))) (h a (omega arith) (omega arith)) rest
      by false rest = rest

  -- the initial value of a location is one of the domain
  pub initial_low : (x : ℕ) → get_or (initial o.program.names) x 0 < l.domain
  initial_low x = get_any (λ v. v < l.domain) (initial o.program.names) 0 x (initial_inside o.program made.draft.program) (has_values o.program made.draft.program)

  fresh_over : All (AllAtoms (IsAtom l)) (fresh_values o.program)
  fresh_over =
      let P : Plain ViewAtom → Type 0 = AllAtoms (IsAtom l) in
      let some = has_values o.program made.draft.program in
      All-append P _ _ (mapped_over P (λ r. atom (Scalar r 0)) 0 l.scalars (λ r from to. (omega (arith, to), some)))
      (All-append P _ _ (mapped_over P (λ x. atom (Last x (get_or (initial o.program.names) x 0))) 0 l.locations (λ x from to. (omega (arith, to), initial_low x)))
      (All-append P _ _ (flat_over P (λ t. map (λ x. atom (Newest t x)) (locations l)) 1 l.threads (λ t low high.
      mapped_over P (λ x. atom (Newest t x)) 0 l.locations (λ x from to. (record { first = low; last = omega (arith, high) }, omega (arith, to)))))
      (flat_over P (λ x. map (λ v. neg (atom (Persist x v))) (filter (λ v. not (v == get_or (initial o.program.names) x 0)) (values l))) 0 l.locations (λ x low high.
      filtered_over P (λ v. not (v == get_or (initial o.program.names) x 0)) (λ v. neg (atom (Persist x v))) 0 l.domain (λ v from to. (omega (arith, high), omega (arith, to)))))))

  -- ---- what an obligation says

  abbrev S : Plain StepAtom → Type 0
  S = AllAtoms (IsStepAtom l)

  side_over : (side : Side) (f : Plain ViewAtom) → AllAtoms (IsAtom l) f → S (on side f)
  side_over side f h = all-with (λ (a : ViewAtom). On a side) (IsStepAtom l) f h

  sides_over : (side : Side) (fs : List (Plain ViewAtom)) → All (AllAtoms (IsAtom l)) fs → All S (map (on side) fs)
  sides_over side fs h = All-map S (on side) fs (All-weaker (AllAtoms (IsAtom l)) (λ f. S (on side f)) (side_over side) fs h)

  one : (f : Plain ViewAtom) → AllAtoms (IsAtom l) f → All (AllAtoms (IsAtom l)) (f ∷ [])
  one f h = All-cons (AllAtoms (IsAtom l)) f [] h (All-nil (AllAtoms (IsAtom l)))

  two : (f g : Plain ViewAtom) → AllAtoms (IsAtom l) f → AllAtoms (IsAtom l) g → All (AllAtoms (IsAtom l)) (f ∷ g ∷ [])
  two f g h k = All-cons (AllAtoms (IsAtom l)) f (g ∷ []) h (one g k)

  of_state_over : (givens : List (Plain ViewAtom)) (goal : Plain ViewAtom) → All (AllAtoms (IsAtom l)) givens → AllAtoms (IsAtom l) goal → IsEntailmentOver l (of_state o.program givens goal)
  of_state_over givens goal h k = record { clauses = axioms_over l Before; givens = sides_over Before givens h; goal = side_over Before goal k }

  pub rules_over : (step : Step) → IsStepOf o.program step → table.IsOver l (rules_of o.program step)
  rules_over step is = table.over-append l (access_over o.program step made.draft.program is) (persist_over o.program step is)

  across_over : (step : Step) (givens : List (Plain ViewAtom)) (goal : Plain ViewAtom) → IsStepOf o.program step → All (AllAtoms (IsAtom l)) givens → AllAtoms (IsAtom l) goal
      → IsEntailmentOver l (across o.program (rules_of o.program step) givens goal)
  across_over step givens goal is h k = record {
    clauses = table.over-append l (rules_over step is) (table.over-append l (axioms_over l Before) (axioms_over l After));
    givens = sides_over Before givens h;
    goal = side_over After goal k;
  }

  pub entailment_over : (ob : Obligation) → IsObligationOf o.program ob → IsEntailmentOver l (entailment_of o ob)
  entailment_over Fresh is = of_state_over (fresh_values o.program) o.pre fresh_over pre_part.over
  entailment_over (Entry t) is = of_state_over (o.pre ∷ []) (note_at o t 1) (one o.pre pre_part.over) (note_part t 1).over
  entailment_over EntryCrash is = of_state_over (o.pre ∷ []) (crash_of o) (one o.pre pre_part.over) crash_part.over
  entailment_over (Local step) is =
      across_over step (note_at o step.thread step.point ∷ crash_of o ∷ []) (note_at o step.thread step.target) is.is
      (two (note_at o step.thread step.point) (crash_of o) (note_part step.thread step.point).over crash_part.over) (note_part step.thread step.target).over
  entailment_over (Crash step) is =
      across_over step (note_at o step.thread step.point ∷ crash_of o ∷ []) (crash_of o) is.is
      (two (note_at o step.thread step.point) (crash_of o) (note_part step.thread step.point).over crash_part.over) crash_part.over
  entailment_over (Interfere step at) is =
      across_over step (note_at o step.thread step.point ∷ note_at o at.thread at.point ∷ crash_of o ∷ []) (note_at o at.thread at.point) is.0.is
      (All-cons (AllAtoms (IsAtom l)) (note_at o step.thread step.point) (note_at o at.thread at.point ∷ crash_of o ∷ []) (note_part step.thread step.point).over
      (two (note_at o at.thread at.point) (crash_of o) (note_part at.thread at.point).over crash_part.over)) (note_part at.thread at.point).over
