-- The induction over executions.
use Rattle.std.proofs.Common.{◌≡◌, ℕ, ◌-◌, true, List, [], ◌∷◌, ◌⊎◌, inl, inr, sym, ap, ◌∙◌, subst, arith}
use Rattle.std.specs.List.{All}
use Rattle.std.proofs.lemmas.Bool.{cases_eq}
use Rattle.std.proofs.lemmas.List.Elements.{All-nil, All-cons, All-get_or, All-weaker}
use Rattle.pg_program.specs.Program.{ProgramTable, IsProgram}
use Rattle.pg_machine.specs.declared.event.Event.{Event}
use Rattle.pg_machine.specs.State.{State, point_of}
use Rattle.pg_machine.specs.Step.{IsStep, bracket_done, bracket_of}
use Rattle.pg_machine.proofs.WellFormed.{step_keeps}
use Rattle.pg_machine.proofs.Moved.{other-point}
use Rattle.pg_views.specs.Execution.{Leads}
use Rattle.pg_views.proofs.CrashLaw.{expansion_is_enough}
use Rattle.pg_obligations.specs.Kept.{Claims, IsThread, IsGoodStep, AreKept, Hold, HoldAlong}
use Rattle.pg_obligations.specs.Safe.{IsSafeIn, claims_of, KeptIsSafe}

module _ (p : ProgramTable) (c : Claims) (built : IsProgram p) (kept : AreKept p c) where
  at_point : (s : State) (e : Event) (next : State) (t : ℕ) → Hold p c s → IsGoodStep p c s e next → IsThread p t → (t ≡ e.thread) ⊎ (t ≡ e.thread → ⊥)
      → c.at t (point_of next t) next ≡ true
  at_point s e next t h good is (inl same) = subst (λ (u : ℕ). c.at u (point_of next u) next ≡ true) (sym same) (kept.local s e next good)
  at_point s e next t h good is (inr other) =
      let through = good.step.1 in
      let left = record through.left { scalars = bracket_done p.names.domain (bracket_of through.stmt) through.left.scalars } in
      let stays : point_of next t ≡ point_of s t = ap (λ n. point_of n t) through.becomes ∙ other-point s e.thread t good.step.0.target left through.thread.0 is.from other in
      subst (λ (k : ℕ). c.at t k next ≡ true) (sym stays) (kept.interfere s e next t good is other (h.at t is))

  stepped : (s : State) (e : Event) (next : State) → Hold p c s → IsStep p s e next → Hold p c next
  stepped s e next h step =
      let thread = step.1.thread in
      let good : IsGoodStep p c s e next = record { formed = h.formed; step = step; at = h.at e.thread (record { from = thread.0; to = thread.1 }); always = h.always } in
      record {
        formed = step_keeps p s e next built h.formed step;
        at = λ t is. at_point s e next t h good is (cases_eq t e.thread);
        always = kept.crash s e next good;
      }

  along : (s : State) (events : List Event) (states : List State) → Hold p c s → Leads p s events states → All (Hold p c) (s ∷ states)
  along s [] [] h leads = All-cons (Hold p c) s [] h (All-nil (Hold p c))
  along s [] (next ∷ states) h leads = absurd leads
  along s (e ∷ events) [] h leads = absurd leads
  along s (e ∷ events) (next ∷ states) h leads =
      All-cons (Hold p c) s (next ∷ states) h (along next events states (stepped s e next h leads.0) leads.1)

pub hold_along : HoldAlong
hold_along p c built entered kept first events states begins leads =
    let formed = begins.formed in
    let at_first : (t : ℕ) → IsThread p t → point_of first t ≡ 1 =
    λ t is. All-get_or (λ (k : ℕ). k ≡ 1) first.points (t - 1) 0 (omega (arith, formed.pointed, is.from, is.to)) begins.points in
    along p c built kept first events states
    (record {
      formed = formed;
      at = λ t is. subst (λ (k : ℕ). c.at t k first ≡ true) (sym (at_first t is)) (entered.entry first t begins is);
      always = entered.crash first begins;
    })
    leads

pub kept_is_safe : KeptIsSafe
kept_is_safe o built entered kept first events states run =
    let start = run.start in
    All-weaker (Hold o.program (claims_of o)) (IsSafeIn o)
    (λ s h. record { assertions = λ t from to. h.at t (record { from = from; to = to }); crash = expansion_is_enough o.program s o.crash h.formed h.always })
    (first ∷ states)
    (hold_along o.program (claims_of o) built entered kept first events states (record { formed = start.formed; points = start.first; meets = start.meets }) run.steps)
