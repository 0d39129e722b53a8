-- The top part of an obligation: its clauses, its size, and the new atoms that it takes.
use Rattle.std.proofs.Common.{◌≡◌, ℕ, zero, suc, ◌+◌, ◌-◌, ◌*◌, ◌≤◌, ◌==◌, Bool, true, false, not, cond, List, [], ◌∷◌, ◌++◌, length, map, get_or, refl, sym, ap, ◌∙◌, arith, append_assoc, length-append}
use Rattle.std.specs.List.{flat_map, filter, range_with_len}
use Rattle.std.proofs.lemmas.List.{append-nil, map-append}
use Rattle.pg_program.specs.NameTable.{initial}
use Rattle.pg_program.specs.Program.{ProgramTable}
use Rattle.pg_assertion.specs.declared.atom.ViewAtom.{ViewAtom}
use Rattle.pg_assertion.specs.declared.atom.ViewAtom.TheVariants.{Scalar, Last, Persist, Newest}
use Rattle.pg_assertion.specs.declared.layout.Side.{Side}
use Rattle.pg_assertion.specs.declared.layout.Side.TheVariants.{Before, After}
use Rattle.pg_assertion.specs.declared.step_atom.StepAtom.{StepAtom}
use Rattle.pg_assertion.specs.declared.step_atom.StepAtom.TheVariants.{On}
use Rattle.pg_assertion.specs.Formula.{Plain, atom, neg, nodes, with_atoms}
use Rattle.pg_assertion.specs.Layout.{Sizes, sizes, values, locations}
use Rattle.pg_assertion.specs.StepAtom.{step_number, step_atoms}
use Rattle.pg_outline.specs.Outline.{OutlineTable, note_at}
use Rattle.pg_region.specs.Literal.{Literal, negated}
use Rattle.pg_region.specs.Pieces.{total}
use Rattle.pg_tables.specs.declared.clause.StepLiteral.{StepLiteral}
use Rattle.pg_tables.specs.Shapes.{before, always, never}
use Rattle.pg_tables.specs.Table.{when, per_thread, per_location, per_value, per_scalar}
use Rattle.pg_clauses.specs.Definitional.{after, literal, clauses}
use Rattle.pg_obligations.specs.declared.obligation.Obligation.{Obligation}
use Rattle.pg_obligations.specs.declared.obligation.Obligation.TheVariants.{Fresh, Entry, EntryCrash, Local, Crash, Interfere}
use Rattle.pg_obligations.specs.Follow.{on, crash_of, fresh_values}
use Rattle.pg_layers.specs.Clauses.{top_part, after_top, by_number, by_numbers, first_new, top_of, layout_of, entailment_of, obligation_atoms}
use Rattle.pg_layers.specs.Top.{taken, new_in, fresh_units}
use Rattle.pg_layers.proofs.Formulas.{after-taken, taken-with, nodes-with, clauses-few, literals-few, total-append}

-- ---- what is given of the fresh state is given by units alone

module _ (l : Sizes) (n : ℕ) where
  -- these formulas, as givens, are these clauses and take no new atom
  record Says (fs : List (Plain ViewAtom)) (cs : List (List StepLiteral)) : Type 0 where
    parts : (gs : List (Plain ℕ)) (g : Plain ℕ) → top_part n (map (by_number l) (map (on Before) fs) ++ gs) g ≡ by_numbers l cs ++ top_part n gs g
    next : (gs : List (Plain ℕ)) (g : Plain ℕ) → after_top n (map (by_number l) (map (on Before) fs) ++ gs) g ≡ after_top n gs g

  says-none : Says [] []
  says-none = record { parts = λ gs g. refl; next = λ gs g. refl }

  says-append : (fs hs : List (Plain ViewAtom)) (cs ds : List (List StepLiteral)) → Says fs cs → Says hs ds → Says (fs ++ hs) (cs ++ ds)
  says-append fs hs cs ds p q = record {
    parts = λ gs g.
        ap (λ (x : List (Plain ℕ)). top_part n x g) (in_two gs) ∙ p.parts (map (by_number l) (map (on Before) hs) ++ gs) g
        ∙ ap (λ (x : List (List Literal)). by_numbers l cs ++ x) (q.parts gs g)
        ∙ sym (append_assoc (by_numbers l cs) (by_numbers l ds) (top_part n gs g))
        ∙ ap (λ (x : List (List Literal)). x ++ top_part n gs g) (sym (map-append _ cs ds));
    next = λ gs g. ap (λ (x : List (Plain ℕ)). after_top n x g) (in_two gs) ∙ p.next (map (by_number l) (map (on Before) hs) ++ gs) g ∙ q.next gs g;
  }
    where
      in_two : (gs : List (Plain ℕ)) → map (by_number l) (map (on Before) (fs ++ hs)) ++ gs ≡ map (by_number l) (map (on Before) fs) ++ (map (by_number l) (map (on Before) hs) ++ gs)
      in_two gs =
          ap (λ (x : List (Plain StepAtom)). map (by_number l) x ++ gs) (map-append (on Before) fs hs)
          ∙ ap (λ (x : List (Plain ℕ)). x ++ gs) (map-append (by_number l) (map (on Before) fs) (map (on Before) hs))
          ∙ append_assoc (map (by_number l) (map (on Before) fs)) (map (by_number l) (map (on Before) hs)) gs

  says-atom : (a : ViewAtom) → Says (atom a ∷ []) (always (before a))
  unfolding with_atoms
  says-atom a = record { parts = λ gs g. refl; next = λ gs g. refl }

  says-not : (a : ViewAtom) → Says (neg (atom a) ∷ []) (never (before a))
  unfolding with_atoms
  says-not a = record { parts = λ gs g. refl; next = λ gs g. refl }

  says-mapped : (f : ℕ → Plain ViewAtom) (t : ℕ → List (List StepLiteral)) → ((k : ℕ) → Says (f k ∷ []) (t k)) → (a m : ℕ) → Says (map f (range_with_len a m)) (flat_map t (range_with_len a m))
  says-mapped f t h a zero = says-none
  says-mapped f t h a (suc m) = says-append (f a ∷ []) (map f (range_with_len (a + 1) m)) (t a) (flat_map t (range_with_len (a + 1) m)) (h a) (says-mapped f t h (a + 1) m)

  says-flat : (f : ℕ → List (Plain ViewAtom)) (t : ℕ → List (List StepLiteral)) → ((k : ℕ) → Says (f k) (t k)) → (a m : ℕ) → Says (flat_map f (range_with_len a m)) (flat_map t (range_with_len a m))
  says-flat f t h a zero = says-none
  says-flat f t h a (suc m) = says-append (f a) (flat_map f (range_with_len (a + 1) m)) (t a) (flat_map t (range_with_len (a + 1) m)) (h a) (says-flat f t h (a + 1) m)

  says-filtered : (test : ℕ → Bool) (f : ℕ → Plain ViewAtom) (t : ℕ → List (List StepLiteral)) → ((k : ℕ) → Says (f k ∷ []) (t k)) → (a m : ℕ)
      → Says (map f (filter test (range_with_len a m))) (flat_map (λ k. when (test k) (t k)) (range_with_len a m))
  unfolding when
  says-filtered test f t h a zero = says-none
  says-filtered test f t h a (suc m) = by (test a) (says-filtered test f t h (a + 1) m)
    where
      by : (b : Bool) → Says (map f (filter test (range_with_len (a + 1) m))) (flat_map (λ k. when (test k) (t k)) (range_with_len (a + 1) m))
          → Says (map f (cond b (a ∷ filter test (range_with_len (a + 1) m)) (filter test (range_with_len (a + 1) m)))) (when b (t a) ++ flat_map (λ k. when (test k) (t k)) (range_with_len (a + 1) m))
      by true rest = says-append (f a ∷ []) (map f (filter test (range_with_len (a + 1) m))) (t a) (flat_map (λ k. when (test k) (t k)) (range_with_len (a + 1) m)) (h a) rest
      by false rest = rest

says-fresh : (p : ProgramTable) (n : ℕ) → Says (sizes p.names (length p.threads)) n (fresh_values p) (fresh_units (sizes p.names (length p.threads)) p.names)
unfolding per_scalar per_location per_thread per_value
says-fresh p n =
    let l = sizes p.names (length p.threads) in
    says-append l n _ _ _ _ (says-mapped l n (λ r. atom (Scalar r 0)) (λ r. always (before (Scalar r 0))) (λ r. says-atom l n (Scalar r 0)) 0 l.scalars)
    (says-append l n _ _ _ _
    (says-mapped l n (λ x. atom (Last x (get_or (initial p.names) x 0))) (λ x. always (before (Last x (get_or (initial p.names) x 0)))) (λ x. says-atom l n (Last x (get_or (initial p.names) x 0))) 0 l.locations)
    (says-append l n _ _ _ _
    (says-flat l n (λ t. map (λ x. atom (Newest t x)) (locations l)) (λ t. flat_map (λ x. always (before (Newest t x))) (locations l))
    (λ t. says-mapped l n (λ x. atom (Newest t x)) (λ x. always (before (Newest t x))) (λ x. says-atom l n (Newest t x)) 0 l.locations) 1 l.threads)
    (says-flat l n (λ x. map (λ v. neg (atom (Persist x v))) (filter (λ v. not (v == get_or (initial p.names) x 0)) (values l)))
    (λ x. flat_map (λ v. when (not (v == get_or (initial p.names) x 0)) (never (before (Persist x v)))) (values l))
    (λ x. says-filtered l n (λ v. not (v == get_or (initial p.names) x 0)) (λ v. neg (atom (Persist x v))) (λ v. never (before (Persist x v))) (λ v. says-not l n (Persist x v)) 0 l.domain) 0 l.locations)))

-- ---- size

abbrev pub nodes_of : List (Plain ℕ) → ℕ
nodes_of [] = 0
nodes_of (f ∷ fs) = nodes f + nodes_of fs

pub top-few : (n : ℕ) (fs : List (Plain ℕ)) (g : Plain ℕ) → length (top_part n fs g) ≤ 2 * (nodes_of fs + nodes g)
top-few n [] g = let few = clauses-few n g in let all = length-append (clauses n g) ((negated (literal n g) ∷ []) ∷ []) in omega (arith, few, all)
top-few n (f ∷ fs) g =
    let few = clauses-few n f in
    let rest = top-few (after n f) fs g in
    let all = length-append (clauses n f) ((literal n f ∷ []) ∷ top_part (after n f) fs g) in
    omega (arith, few, rest, all)

pub top-words : (n : ℕ) (fs : List (Plain ℕ)) (g : Plain ℕ) → total (top_part n fs g) ≤ 4 * (nodes_of fs + nodes g)
top-words n [] g = let few = literals-few n g in let all = total-append (clauses n g) ((negated (literal n g) ∷ []) ∷ []) in omega (arith, few, all)
top-words n (f ∷ fs) g =
    let few = literals-few n f in
    let rest = top-words (after n f) fs g in
    let all = total-append (clauses n f) ((literal n f ∷ []) ∷ top_part (after n f) fs g) in
    omega (arith, few, rest, all)

-- ---- new atoms

abbrev taken_all : List (Plain ℕ) → ℕ
taken_all [] = 0
taken_all (f ∷ fs) = taken f + taken_all fs

after_top-taken : (n : ℕ) (fs : List (Plain ℕ)) (g : Plain ℕ) → after_top n fs g ≡ n + (taken_all fs + taken g)
after_top-taken n [] g = let t = after-taken n g in omega (arith, t)
after_top-taken n (f ∷ fs) g = let rest = after_top-taken (after n f) fs g in let one = after-taken n f in omega (arith, rest, one)

taken-on : (l : Sizes) (side : Side) (f : Plain ViewAtom) → taken (by_number l (on side f)) ≡ taken f
taken-on l side f = taken-with (step_number l) (on side f) ∙ taken-with (λ (a : ViewAtom). On a side) f

pub nodes-on : (l : Sizes) (side : Side) (f : Plain ViewAtom) → nodes (by_number l (on side f)) ≡ nodes f
nodes-on l side f = nodes-with (step_number l) (on side f) ∙ nodes-with (λ (a : ViewAtom). On a side) f

module _ (o : OutlineTable) where
  abbrev l : Sizes
  l = layout_of o

  abbrev B : Plain ViewAtom → Plain ℕ
  B f = by_number l (on Before f)

  pub fresh_top : top_of l (entailment_of o Fresh) ≡ by_numbers l (fresh_units l o.program.names) ++ top_part (first_new l) [] (B o.pre)
  fresh_top =
      let fs = map (by_number l) (map (on Before) (fresh_values o.program)) in
      ap (λ (x : List (Plain ℕ)). top_part (first_new l) x (B o.pre)) (sym (append-nil fs)) ∙ (says-fresh o.program (first_new l)).parts [] (B o.pre)

  atoms-fresh : obligation_atoms o Fresh ≡ step_atoms l + new_in o Fresh
  atoms-fresh =
      let fs = map (by_number l) (map (on Before) (fresh_values o.program)) in
      let e = ap (λ (x : List (Plain ℕ)). after_top (first_new l) x (B o.pre)) (sym (append-nil fs)) ∙ (says-fresh o.program (first_new l)).next [] (B o.pre) in
      let t = after-taken (first_new l) (B o.pre) in
      let u = taken-on l Before o.pre in
      omega (arith, e, t, u)

  -- an obligation has the atoms of a step, and the new ones that its formulas take
  atoms-one : (f g : Plain ViewAtom) (side : Side) → after_top (first_new l) (B f ∷ []) (by_number l (on side g)) - 1 ≡ step_atoms l + (taken f + taken g)
  atoms-one f g side =
      let t = after_top-taken (first_new l) (B f ∷ []) (by_number l (on side g)) in
      let u = taken-on l Before f in
      let v = taken-on l side g in
      omega (arith, t, u, v)

  atoms-two : (f h g : Plain ViewAtom) (side : Side) → after_top (first_new l) (B f ∷ B h ∷ []) (by_number l (on side g)) - 1 ≡ step_atoms l + (taken f + taken h + taken g)
  atoms-two f h g side =
      let t = after_top-taken (first_new l) (B f ∷ B h ∷ []) (by_number l (on side g)) in
      let u = taken-on l Before f in
      let w = taken-on l Before h in
      let v = taken-on l side g in
      omega (arith, t, u, v, w)

  atoms-three : (f h k g : Plain ViewAtom) (side : Side) → after_top (first_new l) (B f ∷ B h ∷ B k ∷ []) (by_number l (on side g)) - 1 ≡ step_atoms l + (taken f + taken h + taken k + taken g)
  atoms-three f h k g side =
      let t = after_top-taken (first_new l) (B f ∷ B h ∷ B k ∷ []) (by_number l (on side g)) in
      let u = taken-on l Before f in
      let w = taken-on l Before h in
      let x = taken-on l Before k in
      let v = taken-on l side g in
      omega (arith, t, u, v, w, x)

  pub atoms-are : (ob : Obligation) → obligation_atoms o ob ≡ step_atoms l + new_in o ob
  atoms-are Fresh = atoms-fresh
  atoms-are (Entry t) = atoms-one o.pre (note_at o t 1) Before
  atoms-are EntryCrash = atoms-one o.pre (crash_of o) Before
  atoms-are (Local step) = atoms-two (note_at o step.thread step.point) (crash_of o) (note_at o step.thread step.target) After
  atoms-are (Crash step) = atoms-two (note_at o step.thread step.point) (crash_of o) (crash_of o) After
  atoms-are (Interfere step at) = atoms-three (note_at o step.thread step.point) (note_at o at.thread at.point) (crash_of o) (note_at o at.thread at.point) After
