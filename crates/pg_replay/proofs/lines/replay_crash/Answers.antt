use Rattle.pg_replay.proofs.LineParts.{crash_shown}
use Rattle.pg_replay.proofs.lines.replay_crash.Goals as goal

pub returns-in-Ok-clause-line : goal.returns-in-Ok-clause-line
returns-in-Ok-clause-line g c =
    crash_shown c.args.o.now c.args.line c.args.at.now c.args.found c.args.state.now.state _ c.show_crash.result (g.K.Sink.written c.args.out.now) (g.K.Sink.written c.show_crash.new.out)
    (g.K.Sink.faults c.args.out.now) (g.K.Sink.faults c.show_crash.new.out) c.in-Ok.ensures.ok.0 c.in-Ok.ensures.ok.1 c.show_crash.ensures.line
