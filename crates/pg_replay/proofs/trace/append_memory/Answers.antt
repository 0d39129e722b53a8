-- The next location's text is appended.
use Rattle.std.proofs.Common.{◌++◌, length, arith}
use Rattle.pg_replay.specs.Trace.{location_text, memory_text}
use Rattle.pg_replay.proofs.Ranges.{text-next}
use Rattle.pg_replay.proofs.trace.append_memory.Goals as goal

pub locations-preserved : goal.locations-preserved
locations-preserved c =
    let names = c.args.names.now in
    let memory = c.args.memory.now in
    let count = c.locations-x-end.ensures.count in
    let less = c.locations-test.true in
    text-next (location_text names memory) c.locations.x (length names.locations) c.locations.text.items c.append_location.new.text.items (c.args.text.now.items ++ memory_text names memory)
    (omega (arith, count, less)) c.locations.invariant c.in_ok-append_location.ensures
