use Rattle.pg_assertion.proofs.ExpansionChoices.{vectors_are_the_choices}
use Rattle.pg_assertion.proofs.expansion.vectors_are_the_choices.Goals as goal

pub returns : goal.returns
returns c = vectors_are_the_choices
