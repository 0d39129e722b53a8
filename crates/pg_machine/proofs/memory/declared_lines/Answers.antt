use Rattle.std.proofs.Common.{◌∙◌}
use Rattle.pg_program.specs.NameTable.{Location}
use Rattle.pg_machine.proofs.Made.{next_number}
use Rattle.pg_machine.proofs.memory.declared_lines.Goals as goal

pub loop-location-preserved : goal.loop-location-preserved
loop-location-preserved c =
    c.in_ok-push.ensures.items
    ∙ next_number (λ (l : Location). l.line) c.args.names.now.locations c.loop-location.lines.items c.loop-location.location c.line.result c.loop-location.invariant c.line.ensures.line
