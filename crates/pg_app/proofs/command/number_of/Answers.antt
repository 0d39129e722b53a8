-- A number that is read is from 1 to the greatest.
use Rattle.std.proofs.Common.{rules, ◌≡◌, ◌≤◌, ℕ, Option, IfSome, sym, subst}
use Rattle.pg_app.specs.Number.{number_up_to}
use Rattle.pg_app.proofs.Numbers.{number_within}
use Rattle.pg_app.proofs.command.number_of.Goals as goal

pub returns-in_default-clause-within : goal.returns-in_default-clause-within
returns-in_default-clause-within c =
    let e : c.value_of.result ≡ number_up_to c.args.most c.args.word.now = search rules in
    subst (λ (o : Option ℕ). IfSome o (λ n. (1 ≤ n) × (n ≤ c.args.most))) (sym e) (number_within c.args.most c.args.word.now)
