use Rattle.std.proofs.Common.{◌<◌, get_or, ◌∙◌, arith}
use Rattle.pg_program.specs.NameTable.{Location, initial}
use Rattle.pg_machine.proofs.Made.{number_at, next_number}
use Rattle.pg_machine.proofs.memory.declared_values.Goals as goal

pub overflow_cast-init : goal.overflow_cast-init
overflow_cast-init c =
    let x = c.loop-location.location in
    let found = number_at (λ (l : Location). l.init) c.args.names.now.locations x c.init.result c.init.ensures in
    let is = found.is in
    let low : get_or (initial c.args.names.now) x 0 < 256 = c.requires x 0 found.inside in
    omega (arith, is, low)

pub loop-location-preserved : goal.loop-location-preserved
loop-location-preserved c =
    c.in_ok-push.ensures.items
    ∙ next_number (λ (l : Location). l.init) c.args.names.now.locations c.loop-location.values.items c.loop-location.location c.init.result c.loop-location.invariant c.init.ensures
