use Rattle.std.proofs.Common.{arith, length}
use Rattle.std.proofs.lemmas.List.FromFn.{length-map-range_with_len}
use Rattle.pg_obligations.specs.declared.obligation.Obligation.TheVariants.{Entry}
use Rattle.pg_obligations.proofs.Places.{get_map_range}
use Rattle.pg_obligations.proofs.place.in_entries.Goals as goal

pub returns-then-place-from : goal.returns-then-place-from
returns-then-place-from c = get_map_range (λ t. Entry t) (length c.args.p.now.threads) c.args.place (omega arith)

pub returns-else-place-from : goal.returns-else-place-from
returns-else-place-from c = omega (arith, length-map-range_with_len (λ t. Entry t) 1 (length c.args.p.now.threads))
