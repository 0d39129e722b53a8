-- Where every obligation follows, an outline's predicates are kept.
use Rattle.std.proofs.Common.{◌≡◌, ℕ, Bool, true, false, not, ◌&&◌, ◌||◌, List, [], ◌∷◌, ◌++◌, map, refl, sym, ap, ap₂, ◌∙◌}
use Rattle.std.specs.List.{All, Contains}
use Rattle.std.proofs.lemmas.List.Elements.{All-nil, All-cons, All-head, All-tail, All-contains}
use Rattle.pg_program.specs.declared.point.Step.{Step}
use Rattle.pg_program.specs.Program.{IsProgram}
use Rattle.pg_assertion.specs.declared.atom.ViewAtom.{ViewAtom}
use Rattle.pg_assertion.specs.declared.layout.Side.{Side}
use Rattle.pg_assertion.specs.declared.layout.Side.TheVariants.{Before, After}
use Rattle.pg_assertion.specs.declared.step_atom.StepAtom.{StepAtom}
use Rattle.pg_assertion.specs.declared.step_atom.StepAtom.TheVariants.{On}
use Rattle.pg_assertion.specs.Formula.{Plain, top, bottom, atom, neg, both, either, implies, with_atoms}
use Rattle.pg_machine.specs.declared.event.Event.{Event}
use Rattle.pg_machine.specs.State.{State, IsWellFormed, point_of, fresh}
use Rattle.pg_machine.specs.Step.{IsStepThrough}
use Rattle.pg_machine.proofs.WellFormed.{step_keeps, fresh_is_well_formed, All-constant}
use Rattle.pg_views.specs.Atom.{atom_holds}
use Rattle.pg_views.specs.Formula.{true_in, holds}
use Rattle.pg_views.specs.Valuation.{valuation, valuation_at}
use Rattle.pg_outline.specs.Outline.{OutlineTable, note_at}
use Rattle.pg_tables.specs.declared.clause.StepLiteral.{StepLiteral}
use Rattle.pg_tables.specs.Truth.{AllTrue}
use Rattle.pg_tables.proofs.Truth.{all-append}
use Rattle.pg_axioms.proofs.AxiomsTrue.{axioms_are_true}
use Rattle.pg_obligations.specs.declared.obligation.Obligation.{Obligation}
use Rattle.pg_obligations.specs.declared.obligation.Obligation.TheVariants.{Fresh, Entry, EntryCrash, Local, Crash, Interfere}
use Rattle.pg_obligations.specs.Obligations.{obligations}
use Rattle.pg_obligations.specs.Kept.{IsThread, IsGoodStep}
use Rattle.pg_obligations.specs.Safe.{claims_of}
use Rattle.pg_obligations.specs.Follow.{Follows, on, axioms_of, crash_of, fresh_values, of_state, across, entailment, AllFollow, AreTrue, FollowIsSafe}
use Rattle.pg_obligations.proofs.Along.{kept_is_safe}
use Rattle.pg_obligations.proofs.Members.{has_fresh, has_entry, has_entry_crash, has_local, has_crash, has_interfere}
use Rattle.pg_obligations.proofs.FreshValues.{fresh_values_hold}
use Rattle.pg_obligations.proofs.Taken.{Takes, taken}

-- a formula on a side is true just where it holds in that side's state
on_side : (val : StepAtom → Bool) (side : Side) (s : State) → ((a : ViewAtom) → val (On a side) ≡ atom_holds s a) → (f : Plain ViewAtom) → true_in val (on side f) ≡ holds s f
unfolding with_atoms
on_side val side s e top = refl
on_side val side s e bottom = refl
on_side val side s e (atom a) = e a
on_side val side s e (neg f) = ap not (on_side val side s e f)
on_side val side s e (both f g) = ap₂ ◌&&◌ (on_side val side s e f) (on_side val side s e g)
on_side val side s e (either f g) = ap₂ ◌||◌ (on_side val side s e f) (on_side val side s e g)
on_side val side s e (implies f g) = ap₂ ◌||◌ (ap not (on_side val side s e f)) (on_side val side s e g)

all_on : (val : StepAtom → Bool) (side : Side) (s : State) → ((a : ViewAtom) → val (On a side) ≡ atom_holds s a) → (fs : List (Plain ViewAtom))
    → All (λ f. holds s f ≡ true) fs → All (λ f. true_in val f ≡ true) (map (on side) fs)
all_on val side s e [] h = All-nil (λ f. true_in val f ≡ true)
all_on val side s e (f ∷ fs) h =
    All-cons (λ g. true_in val g ≡ true) (on side f) (map (on side) fs)
    (on_side val side s e f ∙ All-head (λ g. holds s g ≡ true) f fs h)
    (all_on val side s e fs (All-tail (λ g. holds s g ≡ true) f fs h))

one_holds : (s : State) (f : Plain ViewAtom) → holds s f ≡ true → All (λ g. holds s g ≡ true) (f ∷ [])
one_holds s f h = All-cons (λ g. holds s g ≡ true) f [] h (All-nil (λ g. holds s g ≡ true))

two_hold : (s : State) (f g : Plain ViewAtom) → holds s f ≡ true → holds s g ≡ true → All (λ g. holds s g ≡ true) (f ∷ g ∷ [])
two_hold s f g h k = All-cons (λ g. holds s g ≡ true) f (g ∷ []) h (one_holds s g k)

three_hold : (s : State) (f g i : Plain ViewAtom) → holds s f ≡ true → holds s g ≡ true → holds s i ≡ true → All (λ g. holds s g ≡ true) (f ∷ g ∷ i ∷ [])
three_hold s f g i h k m = All-cons (λ g. holds s g ≡ true) f (g ∷ i ∷ []) h (two_hold s g i k m)

-- a valuation that has the truth of a state before the step
still : State → StepAtom → Bool
still s (On a Before) = atom_holds s a
still s a = false

module _ (o : OutlineTable) (rules : Step → List (List StepLiteral)) (built : IsProgram o.program) (sound : AreTrue o.program rules) (follow : AllFollow o rules) where
  follows : (ob : Obligation) → Contains (obligations o.program) ob → Follows (entailment o rules ob)
  follows ob one = All-contains (λ b. Follows (entailment o rules b)) (obligations o.program) ob follow one

  in_state : (s : State) (givens : List (Plain ViewAtom)) (goal : Plain ViewAtom) → IsWellFormed o.program s → All (λ f. holds s f ≡ true) givens
      → Follows (of_state o.program givens goal) → holds s goal ≡ true
  unfolding still
  in_state s givens goal formed h f =
      sym (on_side (still s) Before s (λ a. refl) goal)
      ∙ f (still s) (axioms_are_true o.program s Before (still s) built formed (record { is = λ a. refl })) (all_on (still s) Before s (λ a. refl) givens h)

  module _ (s : State) (e : Event) (step : Step) (next : State) (formed : IsWellFormed o.program s) (through : IsStepThrough o.program s e step next) where
    before : (a : ViewAtom) → valuation o.program e s next (On a Before) ≡ atom_holds s a
    before a = ap (λ stmt. valuation_at o.program stmt e s next (On a Before)) through.stands

    behind : (a : ViewAtom) → valuation o.program e s next (On a After) ≡ atom_holds next a
    behind a = ap (λ stmt. valuation_at o.program stmt e s next (On a After)) through.stands

    clauses_true : AllTrue (valuation o.program e s next) (rules step ++ (axioms_of o.program Before ++ axioms_of o.program After))
    clauses_true =
        all-append _ (rules step) _ (sound.each s e step next formed through)
        (all-append _ (axioms_of o.program Before) (axioms_of o.program After)
        (axioms_are_true o.program s Before _ built formed (record { is = before }))
        (axioms_are_true o.program next After _ built (step_keeps o.program s e next built formed (step, through)) (record { is = behind })))

    at_step : (givens : List (Plain ViewAtom)) (goal : Plain ViewAtom) → All (λ f. holds s f ≡ true) givens → Follows (across o.program (rules step) givens goal) → holds next goal ≡ true
    at_step givens goal h f =
        sym (on_side (valuation o.program e s next) After next behind goal)
        ∙ f (valuation o.program e s next) clauses_true (all_on (valuation o.program e s next) Before s before givens h)

  module _ (s : State) (e : Event) (next : State) (good : IsGoodStep o.program (claims_of o) s e next) where
    takes : Takes o.program s e good.step.0 next
    takes = taken o.program s e good.step.0 next good.formed good.step.1

    own : holds s (note_at o good.step.0.thread good.step.0.point) ≡ true
    own = ap₂ (λ (t k : ℕ). holds s (note_at o t k)) takes.thread takes.point ∙ good.at

    two : All (λ f. holds s f ≡ true) (note_at o good.step.0.thread good.step.0.point ∷ crash_of o ∷ [])
    two = two_hold s (note_at o good.step.0.thread good.step.0.point) (crash_of o) own good.always

    local_kept : holds next (note_at o e.thread (point_of next e.thread)) ≡ true
    local_kept =
        let at = good.formed.points e.thread good.step.1.thread.0 good.step.1.thread.1 in
        sym (ap₂ (λ (t k : ℕ). holds next (note_at o t k)) takes.thread takes.target)
        ∙ at_step s e good.step.0 next good.formed good.step.1 (note_at o good.step.0.thread good.step.0.point ∷ crash_of o ∷ []) (note_at o good.step.0.thread good.step.0.target) two
        (follows (Local good.step.0) (has_local o.program e.thread (point_of s e.thread) good.step.0 good.step.1.thread.0 good.step.1.thread.1 at.0 at.1 takes.one))

    crash_kept : holds next (crash_of o) ≡ true
    crash_kept =
        let at = good.formed.points e.thread good.step.1.thread.0 good.step.1.thread.1 in
        at_step s e good.step.0 next good.formed good.step.1 (note_at o good.step.0.thread good.step.0.point ∷ crash_of o ∷ []) (crash_of o) two
        (follows (Crash good.step.0) (has_crash o.program e.thread (point_of s e.thread) good.step.0 good.step.1.thread.0 good.step.1.thread.1 at.0 at.1 takes.one))

    other_kept : (t : ℕ) → IsThread o.program t → (t ≡ e.thread → ⊥) → holds s (note_at o t (point_of s t)) ≡ true → holds next (note_at o t (point_of s t)) ≡ true
    other_kept t is other h =
        let at = good.formed.points e.thread good.step.1.thread.0 good.step.1.thread.1 in
        let there = good.formed.points t is.from is.to in
        at_step s e good.step.0 next good.formed good.step.1
        (note_at o good.step.0.thread good.step.0.point ∷ note_at o t (point_of s t) ∷ crash_of o ∷ []) (note_at o t (point_of s t))
        (three_hold s (note_at o good.step.0.thread good.step.0.point) (note_at o t (point_of s t)) (crash_of o) own h good.always)
        (follows (Interfere good.step.0 (record { thread = t; point = point_of s t }))
        (has_interfere o.program e.thread (point_of s e.thread) good.step.0 good.step.1.thread.0 good.step.1.thread.1 at.0 at.1 takes.one
        t (point_of s t) is.from is.to (λ q. other (q ∙ takes.thread)) there.0 there.1))

pub follow_is_safe : FollowIsSafe
follow_is_safe o rules built sound follow = (
  kept_is_safe o built
      (record {
        entry = λ s t first is. in_state o rules built sound follow s (o.pre ∷ []) (note_at o t 1) first.formed (one_holds s o.pre first.meets)
            (follows o rules built sound follow (Entry t) (has_entry o.program t is.from is.to));
        crash = λ s first. in_state o rules built sound follow s (o.pre ∷ []) (crash_of o) first.formed (one_holds s o.pre first.meets)
            (follows o rules built sound follow EntryCrash (has_entry_crash o.program));
      })
      (record {
        local = λ s e next good. local_kept o rules built sound follow s e next good;
        crash = λ s e next good. crash_kept o rules built sound follow s e next good;
        interfere = λ s e next t good is other h. other_kept o rules built sound follow s e next good t is other h;
      }),
  record {
    formed = fresh_is_well_formed o.program built;
    first = All-constant (λ (k : ℕ). k ≡ 1) 1 o.program.threads refl;
    meets = in_state o rules built sound follow (fresh o.program) (fresh_values o.program) o.pre (fresh_is_well_formed o.program built) (fresh_values_hold o.program)
        (follows o rules built sound follow Fresh (has_fresh o.program));
  },
)
