use Rattle.std.proofs.Common.{◌≡◌, ℕ, ◌<◌, ◌==◌, ◌||◌, not, true}
use Rattle.pg_machine.specs.Memory.{last}
use Rattle.pg_machine.specs.Moves.{can_read}
use Rattle.pg_machine.specs.Step.{seen_by}
use Rattle.pg_views.proofs.atom.reads_newest.Given as goal

abbrev pub invariant-loop-position : goal.invariant-loop-position
invariant-loop-position l =
    (q : ℕ) → q < l.position → (not (can_read (seen_by l.s.state l.t) l.x q) || (q == last l.s.state.memory.messages l.x)) ≡ true
