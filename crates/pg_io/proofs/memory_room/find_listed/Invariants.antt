-- No entry so far has the name, so the first one with it is the first of those that are left.
use Rattle.std.proofs.Common.{◌≡◌, drop}
use Rattle.pg_io.specs.Shelf.{first_listed, entries}
use Rattle.pg_io.proofs.memory_room.find_listed.Given as goal

abbrev pub invariant-loop-listed : goal.invariant-loop-listed
invariant-loop-listed l =
    first_listed (entries l.files) l.name ≡ first_listed (entries (drop l.listed-index l.files)) l.name
