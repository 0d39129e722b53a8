-- A value above the greatest stays above it.
use Rattle.std.proofs.Common.{◌+◌, ◌-◌, ◌*◌, get_or, drop, arith}
use Rattle.std.proofs.lemmas.List.{drop_more}
use Rattle.pg_app.proofs.Numbers.{above}
use Rattle.pg_app.proofs.command.value_of.Goals as goal

pub returns-then-value-from : goal.returns-then-value-from
returns-then-value-from c =
    let digits = c.args.digits.now in
    let i = c.loop-digit.digit-index in
    let digit = get_or digits i 0 in
    let more = drop_more digits i 0 (omega arith) in
    let none = above c.args.most (c.loop-digit.value * 10 + (digit - 48)) (drop (i + 1) digits) (omega arith) in
    grind (arith, more, none)
