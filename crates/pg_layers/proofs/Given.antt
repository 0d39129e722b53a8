-- What the emitters of the top part leave in a sink.
use Rattle.std.proofs.Common.{◌≡◌, ℕ, ◌<◌, Bool, List, [], ◌∷◌, ◌++◌, length, map, get_or, Result, refl, sym, ap, ap₂, subst, ◌∙◌, arith, append_assoc}
use Rattle.std.proofs.lemmas.List.{map-append}
use Rattle.pg_program.specs.declared.point.Step.{Step}
use Rattle.pg_program.specs.NameTable.{NameTable}
use Rattle.pg_program.specs.NameTable as table
use Rattle.pg_program.specs.Program.{ProgramTable}
use Rattle.pg_assertion.specs.declared.atom.ViewAtom.{ViewAtom}
use Rattle.pg_assertion.specs.declared.atom.ViewAtom.TheVariants.{Scalar, Last}
use Rattle.pg_assertion.specs.declared.layout.Side.{Side}
use Rattle.pg_assertion.specs.declared.layout.Side.TheVariants.{Before}
use Rattle.pg_assertion.specs.Formula.{Plain}
use Rattle.pg_assertion.specs.Layout.{Sizes, IsAtom}
use Rattle.pg_outline.specs.Outline.{OutlineTable}
use Rattle.pg_outline.specs.Made.{IsOutline}
use Rattle.pg_region.specs.Literal.{Literal, negated}
use Rattle.pg_region.specs.Sink.{Capacity, SinkView, IsTaken, IsRefused, Takes, Appended, Stopped, Emitted}
use Rattle.pg_tables.proofs.Sinks.{Appended-then, Appended-one, Stopped-first, Stopped-later, Stopped-one, Emitted-one}
use Rattle.pg_program.proofs.ProgramLemmas.{has_values}
use Rattle.pg_clauses.specs.Definitional.{after, literal, clauses}
use Rattle.pg_clauses.specs.Made.{IsClausified, IsLeft}
use Rattle.pg_clauses.proofs.Emitted.{Emitted-later}
use Rattle.pg_clauses.proofs.Numbers.{later}
use Rattle.pg_rules_access.specs.Access.{access}
use Rattle.pg_rules_persist.specs.Persist.{persist}
use Rattle.pg_obligations.specs.declared.obligation.Obligation.{Obligation}
use Rattle.pg_obligations.specs.declared.obligation.Obligation.TheVariants.{Fresh}
use Rattle.pg_obligations.specs.Follow.{on}
use Rattle.pg_layers.specs.Clauses.{top_part, by_number, by_numbers, first_new, top_of, layout_of, rules_of, entailment_of}
use Rattle.pg_layers.specs.Top.{placed, IsPart, given_part, IsGiven, fresh_units}
use Rattle.pg_layers.proofs.Formulas.{placed-on, after-few}
use Rattle.pg_layers.proofs.Parts.{initial_low}
use Rattle.pg_layers.proofs.Tops.{fresh_top}

module _ (takes : List (List Literal) → Capacity → List Literal → Bool) where
  pub given : (a b c : SinkView) (l : Sizes) (n next : ℕ) (f : Plain ViewAtom) (x : Literal) → IsPart l f → IsClausified a b n next (placed l Before f) x → IsTaken takes b c (x ∷ [])
      → IsGiven a c n (placed l Before f) next
  given a b c l n next f x part k t =
      let g = placed l Before f in
      let few = after-few l Before n f part in
      record {
        told = k.then;
        few = omega (arith, few, k.then);
        appended = Appended-then a b c (clauses n g) ((literal n g ∷ []) ∷ []) k.appended (subst (λ (y : Literal). Appended b c ((y ∷ []) ∷ [])) k.told (Appended-one takes b c (x ∷ []) t));
      }

  pub definitions-stop : (a b : SinkView) (n next : ℕ) (f : Plain ℕ) → IsLeft takes a b n next f → Stopped takes a b (given_part n f)
  definitions-stop a b n next f h = Stopped-first takes a b (clauses n f) ((literal n f ∷ []) ∷ []) h.stopped

  pub literal-stops : (a b c : SinkView) (n next : ℕ) (f : Plain ℕ) (x : Literal) → IsClausified a b n next f x → IsRefused takes b c (x ∷ []) → Stopped takes a c (given_part n f)
  literal-stops a b c n next f x k r =
      Stopped-later takes a b c (clauses n f) ((literal n f ∷ []) ∷ []) k.appended (subst (λ (y : Literal). Stopped takes b c ((y ∷ []) ∷ [])) k.told (Stopped-one takes b c (x ∷ []) r))

  pub goal-stops : (a b : SinkView) (n next : ℕ) (g : Plain ℕ) → IsLeft takes a b n next g → Stopped takes a b (top_part n [] g)
  goal-stops a b n next g h = Stopped-first takes a b (clauses n g) ((negated (literal n g) ∷ []) ∷ []) h.stopped

  pub goal-then : {F : Type 0} (r : Result (Unit {0}) F) (a b c : SinkView) (n next : ℕ) (g : Plain ℕ) (x y : Literal) → IsClausified a b n next g x → y ≡ negated x → Takes takes r b c (y ∷ [])
      → Emitted takes r a c (top_part n [] g)
  goal-then r a b c n next g x y k e t =
      Emitted-later takes r a b c (clauses n g) ((negated (literal n g) ∷ []) ∷ []) k.appended
      (Emitted-one takes r b c (negated (literal n g) ∷ []) (y ∷ []) (ap (λ (z : Literal). z ∷ []) (e ∙ ap negated k.told)) t)

  pub still_new : (a b : SinkView) (n next m : ℕ) (f : Plain ℕ) → IsGiven a b n f next → m < n → m < next
  still_new a b n next m f k h = let t = later n f in omega (arith, t, k.told, h)

  module _ (n : ℕ) (f : Plain ℕ) (fs : List (Plain ℕ)) (g : Plain ℕ) where
    in_parts : given_part n f ++ top_part (after n f) fs g ≡ top_part n (f ∷ fs) g
    in_parts = append_assoc (clauses n f) ((literal n f ∷ []) ∷ []) (top_part (after n f) fs g)

    pub given-stops : (a b : SinkView) → Stopped takes a b (given_part n f) → Stopped takes a b (top_part n (f ∷ fs) g)
    given-stops a b h = subst (λ (cs : List (List Literal)). Stopped takes a b cs) in_parts (Stopped-first takes a b (given_part n f) (top_part (after n f) fs g) h)

    pub given-then : {F : Type 0} (r : Result (Unit {0}) F) (a b c : SinkView) (next : ℕ) → IsGiven a b n f next → Emitted takes r b c (top_part next fs g) → Emitted takes r a c (top_part n (f ∷ fs) g)
    given-then r a b c next k h =
        subst (λ (cs : List (List Literal)). Emitted takes r a c cs) in_parts
        (Emitted-later takes r a b c (given_part n f) (top_part (after n f) fs g) k.appended (subst (λ (m : ℕ). Emitted takes r b c (top_part m fs g)) k.told h))

  -- ---- the rules of a step

  pub rules_then : {F : Type 0} (r : Result (Unit {0}) F) (a b c : SinkView) (l m : Sizes) (p q : ProgramTable) (step : Step) → l ≡ m → p ≡ q
      → Appended a b (by_numbers l (access p step)) → Emitted takes r b c (by_numbers l (persist p step)) → Emitted takes r a c (by_numbers m (rules_of q step))
  rules_then r a b c l m p q step e f h k =
      subst (λ (z : Sizes). Emitted takes r a c (by_numbers z (rules_of q step))) e
      (subst (λ (u : ProgramTable). Emitted takes r a c (by_numbers l (rules_of u step))) f
      (subst (λ (cs : List (List Literal)). Emitted takes r a c cs) (sym (map-append _ (access p step) (persist p step)))
      (Emitted-later takes r a b c (by_numbers l (access p step)) (by_numbers l (persist p step)) h k)))

  pub rules_stop : (a b : SinkView) (l m : Sizes) (p q : ProgramTable) (step : Step) → l ≡ m → p ≡ q → Stopped takes a b (by_numbers l (access p step)) → Stopped takes a b (by_numbers m (rules_of q step))
  rules_stop a b l m p q step e f h =
      subst (λ (z : Sizes). Stopped takes a b (by_numbers z (rules_of q step))) e
      (subst (λ (u : ProgramTable). Stopped takes a b (by_numbers l (rules_of u step))) f
      (subst (λ (cs : List (List Literal)). Stopped takes a b cs) (sym (map-append _ (access p step) (persist p step)))
      (Stopped-first takes a b (by_numbers l (access p step)) (by_numbers l (persist p step)) h)))

  -- ---- a top part over the atoms of a step

  all_placed : (l : Sizes) (fs : List (Plain ViewAtom)) → map (placed l Before) fs ≡ map (by_number l) (map (on Before) fs)
  all_placed l [] = refl
  all_placed l (f ∷ fs) = ap₂ (λ (x : Plain ℕ) (xs : List (Plain ℕ)). x ∷ xs) (placed-on l Before f) (all_placed l fs)

  pub top_is : {F : Type 0} (r : Result (Unit {0}) F) (a b : SinkView) (o : OutlineTable) (l : Sizes) (n : ℕ) (fs gs : List (Plain ViewAtom)) (g h : Plain ViewAtom) (side : Side)
      → l ≡ layout_of o → n ≡ first_new l → fs ≡ gs → g ≡ h
      → Emitted takes r a b (top_part n (map (placed l Before) fs) (placed l side g))
      → Emitted takes r a b (top_part (first_new (layout_of o)) (map (by_number (layout_of o)) (map (on Before) gs)) (by_number (layout_of o) (on side h)))
  top_is r a b o l n fs gs g h side e k m q given =
      subst (λ (z : Sizes). Emitted takes r a b (top_part (first_new z) (map (by_number z) (map (on Before) gs)) (by_number z (on side h)))) e
      (subst (λ (x : Plain ViewAtom). Emitted takes r a b (top_part (first_new l) (map (by_number l) (map (on Before) gs)) (by_number l (on side x)))) q
      (subst (λ (xs : List (Plain ViewAtom)). Emitted takes r a b (top_part (first_new l) (map (by_number l) (map (on Before) xs)) (by_number l (on side g)))) m
      (subst (λ (x : Plain ℕ). Emitted takes r a b (top_part (first_new l) (map (by_number l) (map (on Before) fs)) x)) (placed-on l side g)
      (subst (λ (xs : List (Plain ℕ)). Emitted takes r a b (top_part (first_new l) xs (placed l side g))) (all_placed l fs)
      (subst (λ (i : ℕ). Emitted takes r a b (top_part i (map (placed l Before) fs) (placed l side g))) k given)))))

  -- the same, by the obligation's kind
  pub top_of_kind : {F : Type 0} (r : Result (Unit {0}) F) (a b : SinkView) (o : OutlineTable) (ob kind : Obligation) → ob ≡ kind
      → Emitted takes r a b (top_of (layout_of o) (entailment_of o kind)) → Emitted takes r a b (top_of (layout_of o) (entailment_of o ob))
  top_of_kind r a b o ob kind is h = subst (λ (k : Obligation). Emitted takes r a b (top_of (layout_of o) (entailment_of o k))) (sym is) h

  -- ---- the first obligation

  module _ (o : OutlineTable) (l : Sizes) (names : NameTable) (e : l ≡ layout_of o) (f : names ≡ o.program.names) where
    units_are : by_numbers l (fresh_units l names) ≡ by_numbers (layout_of o) (fresh_units (layout_of o) o.program.names)
    units_are = ap₂ (λ (z : Sizes) (t : NameTable). by_numbers z (fresh_units z t)) e f

    pub fresh-stops : (a b : SinkView) → Stopped takes a b (by_numbers l (fresh_units l names)) → Stopped takes a b (top_of (layout_of o) (entailment_of o Fresh))
    fresh-stops a b h =
        subst (λ (cs : List (List Literal)). Stopped takes a b cs) (sym (fresh_top o))
        (Stopped-first takes a b (by_numbers (layout_of o) (fresh_units (layout_of o) o.program.names)) _ (subst (λ (cs : List (List Literal)). Stopped takes a b cs) units_are h))

    pub fresh-then : {F : Type 0} (r : Result (Unit {0}) F) (a b c : SinkView) (n : ℕ) (g : Plain ViewAtom) → n ≡ first_new l → g ≡ o.pre
        → Appended a b (by_numbers l (fresh_units l names)) → Emitted takes r b c (top_part n [] (placed l Before g)) → Emitted takes r a c (top_of (layout_of o) (entailment_of o Fresh))
    fresh-then r a b c n g k m h given =
        subst (λ (cs : List (List Literal)). Emitted takes r a c cs) (sym (fresh_top o))
        (Emitted-later takes r a b c (by_numbers (layout_of o) (fresh_units (layout_of o) o.program.names)) _
        (subst (λ (cs : List (List Literal)). Appended a b cs) units_are h) (top_is r b c o l n [] [] g o.pre Before e k refl m given))

-- what a table of the fresh state asks of the layout
pub record FreshFits (l : Sizes) (names : NameTable) : Type 0 where
  pub zero : (r : ℕ) → r < l.scalars → IsAtom l (Scalar r 0)
  pub initial : (x : ℕ) → x < l.locations → IsAtom l (Last x (get_or (table.initial names) x 0))
  pub inside : (x : ℕ) → get_or (table.initial names) x 0 < l.domain
  pub declared : l.locations ≡ length names.locations

pub fresh_fits : (o : OutlineTable) (l : Sizes) (names : NameTable) → IsOutline o → l ≡ layout_of o → names ≡ o.program.names → FreshFits l names
fresh_fits o l names made e f =
    subst (λ (z : Sizes). FreshFits z names) (sym e) (subst (λ (t : NameTable). FreshFits (layout_of o) t) (sym f) (record {
      zero = λ r h. (h, has_values o.program made.draft.program);
      initial = λ x h. (h, initial_low o made x);
      inside = λ x. initial_low o made x;
      declared = refl;
    }))

-- three equal formulas
pub three : (f g h i j k : Plain ViewAtom) → f ≡ i → g ≡ j → h ≡ k → (f ∷ g ∷ h ∷ []) ≡ i ∷ j ∷ k ∷ []
three f g h i j k p q r = ap₂ (λ (x : Plain ViewAtom) (xs : List (Plain ViewAtom)). x ∷ xs) p (ap₂ (λ (x y : Plain ViewAtom). x ∷ y ∷ []) q r)

-- and a formula over the same layout
pub part_in : (l m : Sizes) (f : Plain ViewAtom) → l ≡ m → IsPart m f → IsPart l f
part_in l m f e h = subst (λ (z : Sizes). IsPart z f) (sym e) h
