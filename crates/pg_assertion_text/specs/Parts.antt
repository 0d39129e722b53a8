-- What a part of a formula has to be in the grammar.
use Rattle.pg_assertion_text.specs.Grammar.{Rule, unary, conj, disj}
use Rattle.pg_assertion_text.specs.declared.print.Part.{Part}
use Rattle.pg_assertion_text.specs.declared.print.Part.TheVariants as part

abbrev pub rule : Part → Rule
rule part.Unary = unary
rule part.Conj = conj
rule part.Disj = disj
