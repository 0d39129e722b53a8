use Rattle.std.proofs.Common.{◌≡◌, ◌-◌, ◌++◌, length}
use Rattle.std.specs.List.{flat_map, range_with_len}
use Rattle.pg_replay.specs.Trace.{location_text, memory_text}
use Rattle.pg_replay.proofs.trace.append_memory.Given as goal

-- the text of the locations from x on is still to be appended
abbrev pub invariant-locations : goal.invariant-locations
invariant-locations l =
    l.text.items ++ flat_map (location_text l.names l.memory) (range_with_len l.x (length l.names.locations - l.x)) ≡ l.initial.text.items ++ memory_text l.names l.memory
