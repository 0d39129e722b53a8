use Rattle.std.proofs.Common.{◌≡◌, ◌+◌, ◌*◌, ◌≤◌, length, vec_capacity}
use Rattle.pg_decider.specs.Watch.{Attaching, Grown}
use Rattle.pg_decider.proofs.watches.Watches.attach.Given as goal

abbrev pub invariant-clauses : goal.invariant-clauses
invariant-clauses l =
    (l.reader.clauses ≡ l.fn.reader.clauses) × (l.reader.atoms ≡ l.fn.reader.atoms)
    × (l.reader.looks ≤ l.fn.reader.looks + l.k)
    × ((vec_capacity l.self.slots ≡ vec_capacity l.fn.self.slots) × (length l.self.chains.lists ≡ length l.fn.self.chains.lists) × (l.self.chains.slots ≡ l.fn.self.chains.slots))
    × (2 * length l.fn.reader.clauses ≤ vec_capacity l.self.slots)
    × Grown l.fn.reader.clauses l.fn.trail l.trail
    × Attaching l.fn.reader.clauses l.self.slots.items l.self.chains l.trail l.trail l.k
