-- What a load leaves, from what its parts leave.
use Rattle.std.proofs.Common.{◌≡◌, ◌⊎◌, inl, inr, ℕ, zero, suc, ◌+◌, ◌-◌, ◌<◌, ◌≤◌, ◌^◌, List, [], ◌∷◌, ◌++◌, Option, None, Some, length, map, take, drop, get_or, refl, sym, ap, ap₂, ◌∙◌, subst, append_assoc, arith, length-append}
use Rattle.std.specs.List.{All, slice_get}
use Rattle.std.specs.Prelude.{slice_range}
use Rattle.std.proofs.lemmas.List.{append-nil, map-append}
use Rattle.std.proofs.lemmas.List.Elements.{All-head, All-tail, All-append, All-map, All-weaker}
use Rattle.std.proofs.lemmas.Option.{none-some}
use Rattle.pg_program.specs.declared.point.Step.{Step}
use Rattle.pg_assertion.specs.declared.layout.Side.TheVariants.{Before, After}
use Rattle.pg_assertion.specs.declared.step_atom.StepAtom.{StepAtom}
use Rattle.pg_assertion.specs.Formula.{Plain, AllAtoms}
use Rattle.pg_assertion.specs.Layout.{Sizes}
use Rattle.pg_assertion.specs.StepAtom.{IsStepAtom, step_number}
use Rattle.pg_assertion.proofs.StepNumbers.{step_numbers_have_no_gap}
use Rattle.pg_outline.specs.Outline.{OutlineTable}
use Rattle.pg_outline.specs.Made.{IsOutline}
use Rattle.pg_region.specs.Literal.{Literal}
use Rattle.pg_region.specs.Region.{RegionTable}
use Rattle.pg_region.specs.Range.{listed, IsRange, IsWithin, Fits}
use Rattle.pg_region.specs.declared.range.ClauseRange.{ClauseRange}
use Rattle.pg_region.specs.declared.range.Loaded.{Loaded}
use Rattle.pg_obligations.specs.declared.obligation.Obligation.{Obligation}
use Rattle.pg_obligations.specs.declared.obligation.Obligation.TheVariants.{Fresh, Entry, EntryCrash, Local, Crash, Interfere}
use Rattle.pg_obligations.specs.Obligations.{obligations}
use Rattle.pg_obligations.specs.Follow.{Entailment, axioms_of}
use Rattle.pg_layers.specs.Clauses.{layout_of, rules_of, by_number, by_numbers, first_new, after_top, top_of, clauses_of, entailment_of, obligation_clauses, obligation_atoms, obligation}
use Rattle.pg_layers.specs.Members.{IsObligationOf, step_in}
use Rattle.pg_layers.specs.Layers.{side_axioms, base_of, rules_if, top_for, or_before, loaded_with, Loading, IsLoaded, HasPlaces}
use Rattle.pg_layers.specs.Laid.{IsStepIf, Lies, IsBased, IsRuled, IsTopped, range_by, ruled_in, last_in}
use Rattle.pg_layers.specs.declared.layers.Layers.{Layers}
use Rattle.pg_layers.specs.declared.layers.Laid.{Laid}
use Rattle.pg_layers.proofs.Formulas.{all-with, all-weaker}
use Rattle.pg_layers.proofs.Below.{Below, AllBelow, wider, top-below, table-below, after_top-later}
use Rattle.pg_layers.proofs.Decides.{IsEntailmentOver}
use Rattle.pg_layers.proofs.Members.{obligations_are}
use Rattle.pg_layers.proofs.Parts.{entailment_over}

-- ---- the obligation with a number

get_is : {A : Type 0} (P : A → Type 0) (xs : List A) (k : ℕ) (x : A) → All P xs → slice_get xs k ≡ Some x → P x
get_is P [] k x h e = cc
get_is P (y ∷ xs) zero x h e = let same : y ≡ x = cc in subst P same (All-head P y xs h)
get_is P (y ∷ xs) (suc k) x h e = get_is P xs k x (All-tail P y xs h) e

pub numbered_is : (o : OutlineTable) (k : ℕ) (ob : Obligation) → slice_get (obligations o.program) k ≡ Some ob → IsObligationOf o.program ob
numbered_is o k ob e = get_is (IsObligationOf o.program) (obligations o.program) k ob (obligations_are o.program) e

index_is : {A : Type 0} (xs : List A) (k : ℕ) (x d : A) → slice_get xs k ≡ Some x → x ≡ get_or xs k d
index_is [] k x d e = cc
index_is (y ∷ xs) zero x d e = cc
index_is (y ∷ xs) (suc k) x d e = index_is xs k x d e

pub step_is : (o : OutlineTable) (ob : Obligation) → IsObligationOf o.program ob → IsStepIf o (step_in ob)
step_is o Fresh h = tt
step_is o (Entry t) h = tt
step_is o EntryCrash h = tt
step_is o (Local step) h = h.is
step_is o (Crash step) h = h.is
step_is o (Interfere step at) h = h.0.is

-- ---- the clauses of an obligation, in their parts

after_if : OutlineTable → Option Step → List (List Literal)
after_if o None = []
after_if o (Some step) = (side_axioms o).1

module _ (o : OutlineTable) where
  abbrev l : Sizes
  l = layout_of o

  abbrev parted : Obligation → Type 0
  parted ob = obligation_clauses o ob ≡ top_for o ob ++ (rules_if o (step_in ob) ++ ((side_axioms o).0 ++ after_if o (step_in ob)))

  without : (top : List (List Literal)) → top ++ (side_axioms o).0 ≡ top ++ ([] ++ ((side_axioms o).0 ++ []))
  without top = ap (λ (x : List (List Literal)). top ++ x) (sym (append-nil (side_axioms o).0))

  with_step : (top : List (List Literal)) (step : Step)
      → top ++ by_numbers l (rules_of o.program step ++ (axioms_of o.program Before ++ axioms_of o.program After)) ≡ top ++ (rules_if o (Some step) ++ ((side_axioms o).0 ++ (side_axioms o).1))
  with_step top step =
      ap (λ (x : List (List Literal)). top ++ x)
      (map-append _ (rules_of o.program step) (axioms_of o.program Before ++ axioms_of o.program After)
      ∙ ap (λ (x : List (List Literal)). by_numbers l (rules_of o.program step) ++ x) (map-append _ (axioms_of o.program Before) (axioms_of o.program After)))

  in_parts : (ob : Obligation) → parted ob
  unfolding after_if
  in_parts Fresh = without (top_for o Fresh)
  in_parts (Entry t) = without (top_for o (Entry t))
  in_parts EntryCrash = without (top_for o EntryCrash)
  in_parts (Local step) = with_step (top_for o (Local step)) step
  in_parts (Crash step) = with_step (top_for o (Crash step)) step
  in_parts (Interfere step at) = with_step (top_for o (Interfere step at)) step

-- ---- slices

take_all : (xs ys : List (List Literal)) (n : ℕ) → n ≡ length xs → take n (xs ++ ys) ≡ xs
take_all [] ys zero h = refl
take_all [] ys (suc n) h = absurd (omega arith)
take_all (x ∷ xs) ys zero h = absurd (omega arith)
take_all (x ∷ xs) ys (suc n) h = ap (λ l. x ∷ l) (take_all xs ys n (omega arith))

drop_all : (xs ys : List (List Literal)) (n : ℕ) → n ≡ length xs → drop n (xs ++ ys) ≡ ys
drop_all [] ys zero h = refl
drop_all [] ys (suc n) h = absurd (omega arith)
drop_all (x ∷ xs) ys zero h = absurd (omega arith)
drop_all (x ∷ xs) ys (suc n) h = drop_all xs ys n (omega arith)

slice_part : (xs ys zs : List (List Literal)) (a b : ℕ) → a ≡ length xs → b ≡ length xs + length ys → slice_range (xs ++ (ys ++ zs)) a b ≡ ys
slice_part xs ys zs a b p q = ap (take (b - a)) (drop_all xs (ys ++ zs) a p) ∙ take_all ys zs (b - a) (omega arith)

no_part : (list : List (List Literal)) (n : ℕ) → slice_range list n n ≡ []
no_part list n = let e : n - n ≡ 0 = omega arith in ap (λ m. take m (drop n list)) e

module _ (o : OutlineTable) (ob : Obligation) (k : Layers) (list : List (List Literal)) (lies : Lies o k (top_for o ob) list) where
  abbrev rules : List (List Literal)
  rules = rules_if o k.ruled

  abbrev top : List (List Literal)
  top = top_for o ob

  long : length list ≡ length (base_of o) + (length rules + length top)
  long = ap (λ (x : List (List Literal)). length x) lies.is ∙ length-append (base_of o) (rules ++ top) ∙ ap (λ (n : ℕ). length (base_of o) + n) (length-append rules top)

  top_slice : slice_range list k.rules_to (length list) ≡ top
  top_slice =
      let e : list ≡ (base_of o ++ rules) ++ (top ++ []) =
      lies.is ∙ sym (append_assoc (base_of o) rules top) ∙ ap (λ (x : List (List Literal)). (base_of o ++ rules) ++ x) (sym (append-nil top)) in
      let m = length-append (base_of o) rules in
      let r = lies.layers.marks.rules_to in
      ap (λ (x : List (List Literal)). slice_range x k.rules_to (length list)) e
      ∙ slice_part (base_of o ++ rules) top [] k.rules_to (length list) (omega (arith, r, m)) (omega (arith, long, m))

  rules_slice : slice_range list k.base_to k.rules_to ≡ rules
  rules_slice = ap (λ (x : List (List Literal)). slice_range x k.base_to k.rules_to) lies.is
      ∙ slice_part (base_of o) rules top k.base_to k.rules_to lies.layers.marks.base_to lies.layers.marks.rules_to

  base_slice : slice_range list 0 k.base_to ≡ base_of o
  base_slice =
      let b = lies.layers.marks.base_to in
      ap (λ (x : List (List Literal)). slice_range x 0 k.base_to) lies.is ∙ slice_part [] (base_of o) (rules ++ top) 0 k.base_to refl (omega (arith, b))

  before_slice : slice_range list 0 k.middle ≡ (side_axioms o).0
  before_slice =
      let m = lies.layers.marks.middle in
      let e : list ≡ (side_axioms o).0 ++ ((side_axioms o).1 ++ (rules ++ top)) = lies.is ∙ append_assoc (side_axioms o).0 (side_axioms o).1 (rules ++ top) in
      ap (λ (x : List (List Literal)). slice_range x 0 k.middle) e ∙ slice_part [] (side_axioms o).0 ((side_axioms o).1 ++ (rules ++ top)) 0 k.middle refl (omega (arith, m))

  parts_listed : (s : Option Step) → (s ≡ None) ⊎ (k.ruled ≡ s) → listed list (range_by k (length list) s) ≡ top ++ (rules_if o s ++ ((side_axioms o).0 ++ after_if o s))
  unfolding after_if
  parts_listed None h =
      ap₂ (λ (x y : List (List Literal)). x ++ y) top_slice
      (ap₂ (λ (x y : List (List Literal)). x ++ y) (no_part list k.middle) (before_slice ∙ sym (append-nil (side_axioms o).0)))
  parts_listed (Some step) (inl h) = absurd (none-some step (sym h))
  parts_listed (Some step) (inr h) =
      ap₂ (λ (x y : List (List Literal)). x ++ y) top_slice (ap₂ (λ (x y : List (List Literal)). x ++ y) (rules_slice ∙ ap (rules_if o) h) base_slice)

  -- where the layers end, in order
  in_order : (k.middle ≤ k.base_to) × (k.base_to ≤ k.rules_to) × (k.rules_to ≤ length list)
  in_order =
      let m = lies.layers.marks in
      let a = m.middle in
      let b = m.base_to in
      let r = m.rules_to in
      let s = length-append (side_axioms o).0 (side_axioms o).1 in
      (omega (arith, a, b, s), omega (arith, b, r), omega (arith, r, long))

  is_range : (s : Option Step) → length list < 2 ^ 32 → IsRange (range_by k (length list) s)
  is_range None few = let h = in_order in record { top = h.2; rules = omega arith; axioms = omega arith; few = omega (arith, few, h.0, h.1, h.2) }
  is_range (Some step) few = let h = in_order in record { top = h.2; rules = h.1; axioms = omega arith; few = omega (arith, few, h.0, h.1, h.2) }

  is_within : (s : Option Step) → IsWithin (range_by k (length list) s) (length list)
  is_within None = let h = in_order in record { top = omega arith; rules = omega (arith, h.0, h.1, h.2); axioms = omega (arith, h.0, h.1, h.2) }
  is_within (Some step) = let h = in_order in record { top = omega arith; rules = h.2; axioms = omega (arith, h.1, h.2) }

-- ---- no literal has an atom above the greatest

number_low : (l : Sizes) (f : Plain StepAtom) → AllAtoms (IsStepAtom l) f → AllAtoms (λ n. n < first_new l) (by_number l f)
number_low l f h =
    all-with (step_number l) (λ n. n < first_new l) f
    (all-weaker (IsStepAtom l) (λ a. step_number l a < first_new l) (λ a p. let low = step_numbers_have_no_gap.0 l a p in omega (arith, low.1)) f h)

pub clauses_low : (l : Sizes) (e : Entailment) → IsEntailmentOver l e → AllBelow (after_top (first_new l) (map (by_number l) e.givens) (by_number l e.goal)) (clauses_of l e)
clauses_low l e over =
    let gs = map (by_number l) e.givens in
    let g = by_number l e.goal in
    let m = after_top (first_new l) gs g in
    let lows : All (AllAtoms (λ n. n < first_new l)) gs =
    All-map (AllAtoms (λ n. n < first_new l)) (by_number l) e.givens
    (All-weaker (AllAtoms (IsStepAtom l)) (λ f. AllAtoms (λ n. n < first_new l) (by_number l f)) (number_low l) e.givens over.givens) in
    All-append (Below m) (top_of l e) (by_numbers l e.clauses) (top-below (first_new l) gs g lows (number_low l e.goal over.goal))
    (wider (first_new l) m (by_numbers l e.clauses) (after_top-later (first_new l) gs g) (table-below l e.clauses over.clauses))

low_atoms : (m n : ℕ) (cs : List (List Literal)) → n ≡ m - 1 → AllBelow m cs → All (All (λ (x : Literal). x.atom ≤ n)) cs
low_atoms m n cs e h = All-weaker (Below m) (All (λ (x : Literal). x.atom ≤ n)) (λ c. All-weaker (λ (x : Literal). x.atom < m) (λ (x : Literal). x.atom ≤ n) (λ x lt. omega (arith, lt, e)) c) cs h

-- ---- the whole load

module _ (o : OutlineTable) (laid : Option Laid) (i : ℕ) (ob : Obligation) (b k : Layers) (r0 r1 r2 r3 : RegionTable) (loaded : Loaded) where
  abbrev before : Loading
  before = record { outline = o; ruled = ruled_in laid; last = last_in laid }

  abbrev kept_now : Option Laid
  kept_now = let x : Laid = record { layers = k; last = ob } in Some x

  ruled_by : (s : Option Step) → k.ruled ≡ or_before s b.ruled → (s ≡ None) ⊎ (k.ruled ≡ s)
  ruled_by None h = inl refl
  ruled_by (Some step) h = inr h

  starts : (s : Option Step) → (range_by k (length r3.clauses) s).axioms_from ≡ 0
  starts None = refl
  starts (Some step) = refl

  ends : (s : Option Step) → (range_by k (length r3.clauses) s).top_to ≡ length r3.clauses
  ends None = refl
  ends (Some step) = refl

  placed : (s : Option Step) → HasPlaces s (range_by k (length r3.clauses) s)
  placed None = tt
  placed (Some step) = (refl, refl)

  module _ (made : IsOutline o) (is : IsObligationOf o.program ob) (based : IsBased o laid b r0 r1) (ruled : IsRuled o (step_in ob) b k r1 r2) (topped : IsTopped o ob k r2 r3)
      (range : loaded.range ≡ range_by k (length r3.clauses) (step_in ob)) (atoms : loaded.atoms ≡ obligation_atoms o ob) (few_atoms : loaded.atoms < 2 ^ 31) (few : length r3.clauses < 2 ^ 32) where
    same : k.ruled ≡ or_before (step_in ob) (ruled_in laid)
    same = ruled.ruled ∙ ap (or_before (step_in ob)) based.ruled

    whole : listed r3.clauses loaded.range ≡ obligation_clauses o ob
    whole = ap (listed r3.clauses) range ∙ parts_listed o ob k r3.clauses topped.lies (step_in ob) (ruled_by (step_in ob) ruled.ruled) ∙ sym (in_parts o ob)

    fits : Fits loaded r3.clauses
    fits = record {
      range = subst IsRange (sym range) (is_range o ob k r3.clauses topped.lies (step_in ob) few);
      within = subst (λ (x : ClauseRange). IsWithin x (length r3.clauses)) (sym range) (is_within o ob k r3.clauses topped.lies (step_in ob));
      few_atoms = few_atoms;
      atoms = subst (λ (cs : List (List Literal)). All (All (λ (x : Literal). x.atom ≤ loaded.atoms)) cs) (sym whole)
          (low_atoms _ loaded.atoms (obligation_clauses o ob) atoms (clauses_low (layout_of o) (entailment_of o ob) (entailment_over o made ob is)));
    }

    loads_it : (let now : Loading = record { outline = o; ruled = ruled_in kept_now; last = last_in kept_now } in now ≡ loaded_with before ob) × IsLoaded before ob r0 r3 loaded
    loads_it = (
      ap (λ (s : Option Step). let now : Loading = record { outline = o; ruled = s; last = Some ob } in now) same,
      record {
        laid = topped.lies.is ∙ ap (λ (s : Option Step). base_of o ++ (rules_if o s ++ top_for o ob)) same;
        clauses = whole;
        atoms = atoms;
        fits = fits;
        axioms_from = ap (λ (x : ClauseRange). x.axioms_from) range ∙ starts (step_in ob);
        top_to = ap (λ (x : ClauseRange). x.top_to) range ∙ ends (step_in ob);
        places = subst (HasPlaces (step_in ob)) (sym range) (placed (step_in ob));
        capacity = topped.capacity ∙ ruled.capacity ∙ based.capacity;
        pushes = let p = topped.pushes in let q = ruled.pushes in let s = based.pushes in omega (arith, p, q, s);
        pushes_same = λ h. let p = topped.pushes in let q = ruled.pushes_same (h ∙ sym based.ruled) in let s = based.pushes in omega (arith, p, q, s);
      },
    )

    -- the obligation is the one with this number
    pub loads : slice_get (obligations o.program) (i - 1) ≡ Some ob
        → (let now : Loading = record { outline = o; ruled = ruled_in kept_now; last = last_in kept_now } in now ≡ loaded_with before (obligation o i)) × IsLoaded before (obligation o i) r0 r3 loaded
    loads at =
        subst (λ (x : Obligation). (let now : Loading = record { outline = o; ruled = ruled_in kept_now; last = last_in kept_now } in now ≡ loaded_with before x) × IsLoaded before x r0 r3 loaded)
        (index_is (obligations o.program) (i - 1) ob Fresh at) loads_it
