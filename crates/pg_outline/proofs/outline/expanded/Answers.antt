-- The number of the locations that are named is small, and the size of the expansion is answered.
use Rattle.std.proofs.Common.{◌≡◌, ◌≤◌, length, Err, arith, ap, ◌∙◌}
use Rattle.std.specs.List.{range_with_len}
use Rattle.std.proofs.lemmas.List.FromFn.{length-range_with_len}
use Rattle.pg_assertion.specs.declared.expansion.ExpandFault.TheVariants.{TooLarge}
use Rattle.pg_assertion.specs.Formula.{plain}
use Rattle.pg_assertion.specs.Expansion.{mentions, named}
use Rattle.pg_outline.specs.Limits.{most_crash_locations}
use Rattle.pg_outline.proofs.CrashSize.{fewer_filtered, too_large}
use Rattle.pg_outline.proofs.outline.expanded.Goals as goal

pub overflow_cast-result : goal.overflow_cast-result
overflow_cast-result c =
    let fewer = fewer_filtered (λ x. mentions x (plain c.args.crash.now)) (range_with_len 0 c.locations.result) in
    let all = length-range_with_len 0 c.locations.result in
    let count = c.named_count-locations.ensures in
    let few = c.locations.ensures.few in
    omega (arith, fewer, all, count, few)

pub returns-in-Err-TooLarge : goal.returns-in-Err-TooLarge
returns-in-Err-TooLarge c = λ _.
    let f = plain c.args.crash.now in
    let n = c.in-Err-TooLarge.n in
    let answer : c.expand.result ≡ Err (TooLarge n) = c.in-Err-TooLarge.is ∙ ap Err c.in-Err-TooLarge.field-0-is in
    let size = (c.expand.ensures.too_large n).0 answer in
    let count = c.named_count-locations.ensures in
    let few : length (named (length c.args.names.now.locations) f) ≤ most_crash_locations = rw (← c.locations.ensures.count) (rw (← count) c.if-locations-gt-MAX_CRASH_LOCATIONS.false) in
    too_large c.args.names.now f n few size.0 size.1
