use Rattle.std.proofs.Common.{◌≡◌, [], ◌∷◌, arith, ap, ap₂}
use Rattle.pg_assertion.specs.declared.atom.ViewAtom.{ViewAtom}
use Rattle.pg_assertion.specs.declared.layout.Side.TheVariants.{Before, After}
use Rattle.pg_assertion.specs.Formula.{Plain, plain}
use Rattle.pg_outline.specs.Outline.{note_at}
use Rattle.pg_obligations.specs.declared.obligation.Obligation.TheVariants.{Entry, EntryCrash, Local, Crash, Interfere}
use Rattle.pg_obligations.specs.Follow.{crash_of}
use Rattle.pg_layers.specs.Clauses.{first_new}
use Rattle.pg_layers.proofs.Given.{top_is, top_of_kind, three, part_in}
use Rattle.pg_layers.proofs.obligation.offer_top.Goals as goal

pub note-goal-requires : goal.note-goal-requires
note-goal-requires g c = rw c.in-Entry.is at c.requires.ob

pub offer_one-requires : goal.offer_one-requires
offer_one-requires g c =
    let next = c.from-next.ensures in
    record {
      part = part_in _ _ _ c.requires.layout c.pre.ensures.part;
      goal = part_in _ _ _ c.requires.layout c.note-goal.ensures.part;
      new = omega (arith, next, c.step_atoms.ensures.count);
      few = omega (arith, next, c.step_atoms.ensures.few);
    }

pub returns-in-Entry : goal.returns-in-Entry
returns-in-Entry g c =
    let o = c.args.o.now in
    let k : c.from-next.result ≡ first_new c.args.layout.now = omega (arith, c.from-next.ensures, c.step_atoms.ensures.count) in
    top_of_kind g.S.ClauseSink.takes _ _ _ o c.args.ob (Entry c.in-Entry.t) c.in-Entry.is
    (top_is g.S.ClauseSink.takes _ _ _ o c.args.layout.now c.from-next.result (plain c.pre.result.now ∷ []) (o.pre ∷ [])
    (plain c.note-goal.result.now) (note_at o c.in-Entry.t 1) Before c.requires.layout k
    (ap (λ (f : Plain ViewAtom). f ∷ []) c.pre.ensures.formula) c.note-goal.ensures.formula c.offer_one.ensures)

pub offer_one-requires-in-EntryCrash : goal.offer_one-requires-in-EntryCrash
offer_one-requires-in-EntryCrash g c =
    let next = c.from-next.ensures in
    record {
      part = part_in _ _ _ c.requires.layout c.pre-in-EntryCrash.ensures.part;
      goal = part_in _ _ _ c.requires.layout c.crash.ensures.part;
      new = omega (arith, next, c.step_atoms.ensures.count);
      few = omega (arith, next, c.step_atoms.ensures.few);
    }

pub returns-in-EntryCrash : goal.returns-in-EntryCrash
returns-in-EntryCrash g c =
    let o = c.args.o.now in
    let k : c.from-next.result ≡ first_new c.args.layout.now = omega (arith, c.from-next.ensures, c.step_atoms.ensures.count) in
    top_of_kind g.S.ClauseSink.takes _ _ _ o c.args.ob EntryCrash c.in-EntryCrash.is
    (top_is g.S.ClauseSink.takes _ _ _ o c.args.layout.now c.from-next.result (plain c.pre-in-EntryCrash.result.now ∷ []) (o.pre ∷ [])
    (plain c.crash.result.now) (crash_of o) Before c.requires.layout k
    (ap (λ (f : Plain ViewAtom). f ∷ []) c.pre-in-EntryCrash.ensures.formula) c.crash.ensures.formula c.offer_one-in-EntryCrash.ensures)

pub note-given-requires : goal.note-given-requires
note-given-requires g c =
    let leads = rw c.in-Local.is at c.requires.ob in
    record { thread = leads.is.thread; point = leads.is.point }

pub note-goal-requires-in-Local : goal.note-goal-requires-in-Local
note-goal-requires-in-Local g c =
    let leads = rw c.in-Local.is at c.requires.ob in leads.target

pub offer_two-requires : goal.offer_two-requires
offer_two-requires g c =
    let next = c.from-next.ensures in
    record {
      first = part_in _ _ _ c.requires.layout c.note-given.ensures.part;
      second = part_in _ _ _ c.requires.layout c.crash-in-Local.ensures.part;
      goal = part_in _ _ _ c.requires.layout c.note-goal-in-Local.ensures.part;
      new = omega (arith, next, c.step_atoms.ensures.count);
      few = omega (arith, next, c.step_atoms.ensures.few);
    }

pub returns-in-Local : goal.returns-in-Local
returns-in-Local g c =
    let o = c.args.o.now in
    let step = c.in-Local.step in
    let k : c.from-next.result ≡ first_new c.args.layout.now = omega (arith, c.from-next.ensures, c.step_atoms.ensures.count) in
    top_of_kind g.S.ClauseSink.takes _ _ _ o c.args.ob (Local step) c.in-Local.is
    (top_is g.S.ClauseSink.takes _ _ _ o c.args.layout.now c.from-next.result (plain c.note-given.result.now ∷ plain c.crash-in-Local.result.now ∷ [])
    (note_at o step.thread step.point ∷ crash_of o ∷ [])
    (plain c.note-goal-in-Local.result.now) (note_at o step.thread step.target) After c.requires.layout k
    (ap₂ (λ (f h : Plain ViewAtom). f ∷ h ∷ []) c.note-given.ensures.formula c.crash-in-Local.ensures.formula) c.note-goal-in-Local.ensures.formula c.offer_two.ensures)

pub note-given-requires-in-Crash : goal.note-given-requires-in-Crash
note-given-requires-in-Crash g c =
    let leads = rw c.in-Crash.is at c.requires.ob in
    record { thread = leads.is.thread; point = leads.is.point }

pub offer_two-requires-in-Crash : goal.offer_two-requires-in-Crash
offer_two-requires-in-Crash g c =
    let next = c.from-next.ensures in
    record {
      first = part_in _ _ _ c.requires.layout c.note-given-in-Crash.ensures.part;
      second = part_in _ _ _ c.requires.layout c.crash-in-Crash.ensures.part;
      goal = part_in _ _ _ c.requires.layout c.crash-in-Crash-2.ensures.part;
      new = omega (arith, next, c.step_atoms.ensures.count);
      few = omega (arith, next, c.step_atoms.ensures.few);
    }

pub returns-in-Crash : goal.returns-in-Crash
returns-in-Crash g c =
    let o = c.args.o.now in
    let step = c.in-Crash.step in
    let k : c.from-next.result ≡ first_new c.args.layout.now = omega (arith, c.from-next.ensures, c.step_atoms.ensures.count) in
    top_of_kind g.S.ClauseSink.takes _ _ _ o c.args.ob (Crash step) c.in-Crash.is
    (top_is g.S.ClauseSink.takes _ _ _ o c.args.layout.now c.from-next.result (plain c.note-given-in-Crash.result.now ∷ plain c.crash-in-Crash.result.now ∷ [])
    (note_at o step.thread step.point ∷ crash_of o ∷ [])
    (plain c.crash-in-Crash-2.result.now) (crash_of o) After c.requires.layout k
    (ap₂ (λ (f h : Plain ViewAtom). f ∷ h ∷ []) c.note-given-in-Crash.ensures.formula c.crash-in-Crash.ensures.formula) c.crash-in-Crash-2.ensures.formula c.offer_two-in-Crash.ensures)

pub note-given-requires-in-Interfere : goal.note-given-requires-in-Interfere
note-given-requires-in-Interfere g c =
    let both = rw c.in-Interfere.is at c.requires.ob in
    record { thread = both.0.is.thread; point = both.0.is.point }

pub note-stable-requires : goal.note-stable-requires
note-stable-requires g c =
    let both = rw c.in-Interfere.is at c.requires.ob in both.1

pub offer_three-requires : goal.offer_three-requires
offer_three-requires g c =
    let next = c.from-next.ensures in
    record {
      first = part_in _ _ _ c.requires.layout c.note-given-in-Interfere.ensures.part;
      second = part_in _ _ _ c.requires.layout c.note-stable.ensures.part;
      third = part_in _ _ _ c.requires.layout c.crash-in-Interfere.ensures.part;
      goal = part_in _ _ _ c.requires.layout c.note-stable.ensures.part;
      new = omega (arith, next, c.step_atoms.ensures.count);
      few = omega (arith, next, c.step_atoms.ensures.few);
    }

pub returns-in-Interfere : goal.returns-in-Interfere
returns-in-Interfere g c =
    let o = c.args.o.now in
    let step = c.in-Interfere.step in
    let at = c.in-Interfere.at in
    let k : c.from-next.result ≡ first_new c.args.layout.now = omega (arith, c.from-next.ensures, c.step_atoms.ensures.count) in
    top_of_kind g.S.ClauseSink.takes _ _ _ o c.args.ob (Interfere step at) c.in-Interfere.is
    (top_is g.S.ClauseSink.takes _ _ _ o c.args.layout.now c.from-next.result
    (plain c.note-given-in-Interfere.result.now ∷ plain c.note-stable.result.now ∷ plain c.crash-in-Interfere.result.now ∷ [])
    (note_at o step.thread step.point ∷ note_at o at.thread at.point ∷ crash_of o ∷ [])
    (plain c.note-stable.result.now) (note_at o at.thread at.point) After c.requires.layout k
    (three _ _ _ _ _ _ c.note-given-in-Interfere.ensures.formula c.note-stable.ensures.formula c.crash-in-Interfere.ensures.formula) c.note-stable.ensures.formula c.offer_three.ensures)
