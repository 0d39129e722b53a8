use Rattle.std.proofs.Common.{◌∙◌}
use Rattle.pg_assertion_text.specs.Words.{is_reserved, reserved}
use Rattle.pg_assertion_text.proofs.Reserved.{any_turned}
use Rattle.pg_assertion_text.proofs.tokens.is_reserved.Goals as goal

pub returns : goal.returns
unfolding is_reserved
returns c = c.contains.ensures.value ∙ any_turned c.args.word.now reserved
