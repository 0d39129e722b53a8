use Rattle.pg_program_text.proofs.Spelling.{further_turn}
use Rattle.pg_program_text.proofs.print.further.Goals as goal

pub loop-assign-preserved : goal.loop-assign-preserved
loop-assign-preserved c =
    further_turn c.args.names.now c.args.aux.now c.loop-assign.assign-index c.assign-item.result c.loop-assign-test.true c.assign-item.is c.loop-assign.into.items c.extend_from_slice.new.self.items
    c.spell_assignment.new.into.items _ c.in_ok-extend_from_slice.ensures.items c.in_ok-spell_assignment.ensures c.loop-assign.invariant
