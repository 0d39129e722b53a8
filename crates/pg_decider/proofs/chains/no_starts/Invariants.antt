use Rattle.std.proofs.Common.{◌≡◌, length}
use Rattle.pg_decider.specs.Weigh.{weigh}
use Rattle.pg_decider.proofs.chains.no_starts.Given as goal

abbrev pub invariant-lists : goal.invariant-lists
invariant-lists l = (length l.starts.items ≡ l.counter) × (weigh (λ s. s.size) l.starts.items ≡ 0)
