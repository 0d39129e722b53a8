use Rattle.std.proofs.Common.{◌≡◌, ◌+◌, ◌-◌, ◌*◌, ◌≤◌, length, vec_capacity}
use Rattle.pg_region.specs.Pieces.{total}
use Rattle.pg_decider.specs.Assignment.{on}
use Rattle.pg_decider.specs.Progress.{Says}
use Rattle.pg_decider.specs.Search.{Searching}
use Rattle.pg_decider.specs.Tree.{Tree, IsTree}
use Rattle.pg_decider.proofs.search.search.Given as goal

abbrev pub invariant-nodes : goal.invariant-nodes
invariant-nodes l =
    (l.reader.clauses ≡ l.fn.reader.clauses) × (l.reader.atoms ≡ l.fn.reader.atoms)
    × Searching l.fn.reader.clauses l.watches.slots.items l.watches.chains l.trail l.branches.items l.from
    × (l.trail.atoms + 1 ≤ vec_capacity l.branches)
    × (length l.log.lines + l.left ≡ l.budget)
    × (l.budget ≤ l.log.room)
    × ((w : Tree) → IsTree l.fn.reader.clauses (on l.fn.trail.literals) w → Says l.fn.reader.clauses l.trail.literals l.branches.items (l.budget - l.left) l.log.lines w)
    × (l.reader.looks ≤ l.fn.reader.looks + (l.budget - l.left) * (length l.fn.reader.clauses + total l.fn.reader.clauses))
    × ((vec_capacity l.watches.slots ≡ vec_capacity l.fn.watches.slots) × (length l.watches.chains.lists ≡ length l.fn.watches.chains.lists) × (l.watches.chains.slots ≡ l.fn.watches.chains.slots))
    × ((vec_capacity l.branches ≡ vec_capacity l.fn.branches) × (l.log.room ≡ l.fn.log.room) × (l.trail.atoms ≡ l.fn.trail.atoms))

abbrev pub decreases-nodes : goal.decreases-nodes
decreases-nodes l = l.left
