use Rattle.pg_outline_text.specs.Parts.{as_source}
use Rattle.pg_outline_text.proofs.Answered.{answer_found, answer_only, reading_only}
use Rattle.pg_outline_text.proofs.ReadyTexts.{source_ready}
use Rattle.pg_outline_text.proofs.SpellingWritable.{version_found}
use Rattle.pg_outline_text.proofs.TextSound.{source_found}
use Rattle.pg_outline_text.proofs.parse.parse_outline.Goals as goal

pub made-requires : goal.made-requires
made-requires c = source_ready c.args.text.now (as_source c.in-Ok.source) (source_found c.args.text.now (as_source c.in-Ok.source) c.in-Ok.ensures.source)

pub returns-in-Ok-clause-found : goal.returns-in-Ok-clause-found
returns-in-Ok-clause-found c = answer_found c.args.text.now (as_source c.in-Ok.source) c.made.result c.in-Ok.ensures.source c.made.ensures.outline

pub returns-in-Ok-clause-version : goal.returns-in-Ok-clause-version
returns-in-Ok-clause-version c = version_found c.args.text.now c.made.result (returns-in-Ok-clause-found c)

pub returns-in-Ok-clause-only : goal.returns-in-Ok-clause-only
returns-in-Ok-clause-only c = answer_only c.args.text.now (as_source c.in-Ok.source) c.made.result c.in-Ok.ensures.source c.made.ensures.outline c.made.ensures.memory

pub returns-in-Err-clause-only : goal.returns-in-Err-clause-only
returns-in-Err-clause-only c = reading_only c.args.text.now c.in-Err.fault c.in-Err.ensures.source c.in-Err.ensures.memory
