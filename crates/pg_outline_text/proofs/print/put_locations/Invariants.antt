use Rattle.std.proofs.Common.{◌≡◌, ◌++◌, drop}
use Rattle.pg_outline_text.specs.Spelling.{location_lines}
use Rattle.pg_outline_text.proofs.print.put_locations.Given as goal

-- with the lines that are left the text is whole
abbrev pub invariant-locations : goal.invariant-locations
invariant-locations l = l.into.items ++ location_lines (drop l.x l.names.locations) ≡ l.initial.into.items ++ location_lines l.names.locations
