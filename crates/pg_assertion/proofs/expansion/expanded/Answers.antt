use Rattle.std.proofs.Common.{◌∙◌, arith}
use Rattle.std.proofs.lemmas.Grind.{common_steps}
use Rattle.pg_assertion.specs.Formula.{plain}
use Rattle.pg_assertion.specs.Expansion.{named}
use Rattle.pg_assertion.proofs.ExpansionTerms.{expansion_over-joined}
use Rattle.pg_assertion.proofs.expansion.expanded.Goals as goal

pub returns : goal.returns
returns c =
    let f = plain c.args.f.now in
    expansion_over-joined c.all_terms.result c.args.domain (named c.args.locations f) c.deref.result.now f (c.deref.ensures.value ∙ c.in_ok-named.ensures)
    (grind (arith, common_steps))
    c.all_terms.ensures
