use Rattle.std.proofs.Common.{◌≡◌, length, vec_capacity}
use Rattle.pg_decider.specs.Chains.{chain}
use Rattle.pg_decider.specs.Watch.{Draining}
use Rattle.pg_decider.proofs.watches.Watches.drain.Given as goal

abbrev pub invariant-slots : goal.invariant-slots
invariant-slots l =
    (l.reader.clauses ≡ l.fn.reader.clauses) × (l.reader.atoms ≡ l.fn.reader.atoms)
    × ((vec_capacity l.self.slots ≡ vec_capacity l.fn.self.slots) × (length l.self.chains.lists ≡ length l.fn.self.chains.lists) × (l.self.chains.slots ≡ l.fn.self.chains.slots))
    × Draining l.fn.reader.clauses l.fn.self.slots.items l.fn.self.chains.lists l.fn.trail l.fn.reader.looks l.f l.self.slots.items l.self.chains l.trail l.reader.looks l.calm

abbrev pub decreases-slots : goal.decreases-slots
decreases-slots l = length (chain l.self.chains.lists 0)
