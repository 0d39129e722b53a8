use Rattle.std.proofs.Common.{◌<◌, length, sym, refl}
use Rattle.pg_schedule.proofs.Kept.{act_kept, is_held_at, lines_count, short_range}
use Rattle.pg_schedule.proofs.schedule.Schedule.act.Goals as goal

pub returns-in-Step-clause-act : goal.returns-in-Step-clause-act
returns-in-Step-clause-act c =
    let within : c.args.k < length c.self.inside.entries.items = lines_count _ _ _ _ c.self.view_is c.requires in
    rw (sym c.self.view_is, act_kept c.self.inside.positions.items c.self.inside.entries.items c.args.k c.index-entry.result.now within c.index-entry.ensures, c.in-Step.is) refl

pub part-requires : goal.part-requires
part-requires c =
    let within : c.args.k < length c.self.inside.entries.items = lines_count _ _ _ _ c.self.view_is c.requires in
    let fits = is_held_at _ _ _ _ c.self.invariant.each within c.index-entry.ensures in
    rw c.deref.ensures.value (rw c.in-Crash.is at fits).0

pub returns-in-Crash-clause-act : goal.returns-in-Crash-clause-act
returns-in-Crash-clause-act c =
    let within : c.args.k < length c.self.inside.entries.items = lines_count _ _ _ _ c.self.view_is c.requires in
    rw (sym c.self.view_is, act_kept c.self.inside.positions.items c.self.inside.entries.items c.args.k c.index-entry.result.now within c.index-entry.ensures, c.in-Crash.is, c.part.ensures, c.deref.ensures.value) refl

pub returns-in-Crash-clause-short : goal.returns-in-Crash-clause-short
returns-in-Crash-clause-short c =
    let within : c.args.k < length c.self.inside.entries.items = lines_count _ _ _ _ c.self.view_is c.requires in
    let fits = is_held_at _ _ _ _ c.self.invariant.each within c.index-entry.ensures in
    short_range _ _ _ _ _ c.part.ensures (rw c.in-Crash.is at fits).1
