use Rattle.std.proofs.Common.{length}
use Rattle.pg_rules_access.proofs.values.+offer_bracket.Given as goal

abbrev pub decreases-offer_bracket : goal.decreases-offer_bracket
decreases-offer_bracket g l = length l.aux.now
