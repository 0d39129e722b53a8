use Rattle.std.proofs.Common.{ℕ, sym, subst}
use Rattle.pg_assertion.specs.Formula.{plain, with_atoms}
use Rattle.pg_clauses.specs.Made.{Fits}
use Rattle.pg_clauses.proofs.Numbers.{fits}
use Rattle.pg_clauses.proofs.definitional.clausify.Goals as goal

pub defined-requires-clause-fits : goal.defined-requires-clause-fits
defined-requires-clause-fits g c =
    let f = with_atoms (λ (a : g.row.T.Denot). g.M.Numbering.number_on c.args.numbers.now a c.args.side) (plain c.args.f.now) in
    subst (λ (n : ℕ). Fits n f) (sym c.next.ensures) (fits c.args.fresh.now f c.requires.some c.requires.below c.requires.few)
