use Rattle.std.proofs.Common.{◌≡◌, ◌+◌, ◌-◌, length, vec_capacity}
use Rattle.pg_decider.specs.Watch.{Propagating}
use Rattle.pg_decider.proofs.watches.Watches.propagate.Given as goal

abbrev pub invariant-literals : goal.invariant-literals
invariant-literals l =
    (l.reader.clauses ≡ l.fn.reader.clauses) × (l.reader.atoms ≡ l.fn.reader.atoms)
    × (l.trail.atoms ≡ l.fn.trail.atoms)
    × ((vec_capacity l.self.slots ≡ vec_capacity l.fn.self.slots) × (length l.self.chains.lists ≡ length l.fn.self.chains.lists) × (l.self.chains.slots ≡ l.fn.self.chains.slots))
    × Propagating l.fn.reader.clauses l.fn.self.slots.items l.fn.trail l.fn.reader.looks l.self.slots.items l.self.chains l.trail l.reader.looks l.next

abbrev pub decreases-literals : goal.decreases-literals
decreases-literals l = (l.trail.atoms + 2) - l.next
