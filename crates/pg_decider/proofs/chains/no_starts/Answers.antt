use Rattle.std.proofs.Common.{ap, arith, length}
use Rattle.std.proofs.lemmas.List.{length_push}
use Rattle.pg_decider.specs.declared.chains.Start.{Start}
use Rattle.pg_decider.proofs.Weighing.{weigh-push}
use Rattle.pg_decider.proofs.chains.no_starts.Goals as goal

pub lists-preserved : goal.lists-preserved
lists-preserved c = (
  omega (arith, ap length c.in_ok-push.ensures.items, length_push c.lists.starts.items (record { head = 0; size = 0 }), c.lists.invariant.0),
  rw c.in_ok-push.ensures.items (omega (arith, weigh-push (λ (s : Start). s.size) c.lists.starts.items (record { head = 0; size = 0 }), c.lists.invariant.1)),
)
