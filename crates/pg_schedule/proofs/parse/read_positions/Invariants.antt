use Rattle.std.proofs.Common.{◌≡◌, ◌+◌, length}
use Rattle.pg_schedule.specs.Reading.{numbers}
use Rattle.pg_schedule.specs.Held.{AreNumbers}
use Rattle.pg_schedule.proofs.Turns.{numbers_after}
use Rattle.pg_schedule.proofs.parse.read_positions.Given as goal

abbrev pub invariant-positions : goal.invariant-positions
invariant-positions l =
    (numbers_after l.into.items (numbers l.words.left l.words.end) ≡ numbers l.fn.words.left l.fn.words.end)
    × (length l.into.items + length l.words.left ≡ length l.fn.words.left)
    × AreNumbers l.into.items

abbrev pub decreases-positions : goal.decreases-positions
decreases-positions l = length l.words.left
