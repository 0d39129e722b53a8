use Rattle.pg_schedule.proofs.Kept.{one_held, pushed_few}
use Rattle.pg_schedule.proofs.schedule.Schedule.push_step.Goals as goal

pub invariant_of-self-2 : goal.invariant_of-self-2
invariant_of-self-2 c =
    rw c.in_ok-push.ensures.items (record {
      few = pushed_few c.self.inside.positions.items c.self.inside.entries.items _ _ c.self.view_is c.requires.few;
      positions = c.self.invariant.positions;
      each = one_held _ _ _ c.self.invariant.each c.requires.numbers;
    })
