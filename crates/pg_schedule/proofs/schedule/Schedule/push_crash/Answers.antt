use Rattle.std.proofs.Common.{sym, refl}
use Rattle.pg_schedule.proofs.Kept.{crash_held, each_number, more_numbers, pushed_few, crash_added, wider_more}
use Rattle.pg_schedule.proofs.schedule.Schedule.push_crash.Goals as goal

pub invariant_of-self-in_err-push : goal.invariant_of-self-in_err-push
invariant_of-self-in_err-push c =
    rw (c.in_ok-extend_from_slice.ensures.items, c.in_err-push.ensures.items) (record {
      few = c.self.invariant.few;
      positions = more_numbers _ _ c.self.invariant.positions (each_number _ c.type_inv.at);
      each = wider_more _ _ _ c.self.invariant.each;
    })

pub invariant_of-self-2 : goal.invariant_of-self-2
invariant_of-self-2 c =
    rw (c.in_ok-extend_from_slice.ensures.items, c.in_ok-push.ensures.items, c.as_slice-from.ensures.value) (record {
      few = pushed_few c.self.inside.positions.items c.self.inside.entries.items _ _ c.self.view_is c.requires.few;
      positions = more_numbers _ _ c.self.invariant.positions (each_number _ c.type_inv.at);
      each = crash_held c.self.inside.positions.items c.args.at.now _ _ c.self.invariant.each c.requires.short;
    })

pub returns : goal.returns
returns c = rw (c.in_ok-extend_from_slice.ensures.items, c.in_ok-push.ensures.items, sym c.self.view_is, c.as_slice-from.ensures.value) (crash_added _ _ _ _ _ c.self.invariant.each refl)
