use Rattle.std.proofs.Common.{◌≡◌, ◌++◌}
use Rattle.pg_walk.specs.Told.{locations_text}
use Rattle.pg_walk.proofs.walk.tell_locations.Given as goal

-- the first x locations were told
abbrev pub invariant-locations : goal.invariant-locations
invariant-locations l = l.told.items ≡ l.initial.told.items ++ locations_text l.names l.memory l.x
