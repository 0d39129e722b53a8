use Rattle.std.proofs.Common.{◌<◌, length, sym}
use Rattle.pg_schedule.proofs.Kept.{number_kept, lines_count}
use Rattle.pg_schedule.proofs.schedule.Schedule.line.Goals as goal

pub returns : goal.returns
returns c =
    let within : c.args.k < length c.self.inside.entries.items = lines_count _ _ _ _ c.self.view_is c.requires in
    rw (sym c.self.view_is) (sym (number_kept c.self.inside.positions.items c.self.inside.entries.items c.args.k c.index.result.now within c.index.ensures))
