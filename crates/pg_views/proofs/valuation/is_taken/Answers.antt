use Rattle.std.proofs.Common.{length, sym, ◌∙◌}
use Rattle.pg_machine.proofs.Uses.{if_uses, while_uses}
use Rattle.pg_views.proofs.Acts.{if_taken, while_taken}
use Rattle.pg_views.proofs.valuation.is_taken.Goals as goal

pub holds_cond-requires-clause-left : goal.holds_cond-requires-clause-left
holds_cond-requires-clause-left c = (if_uses (length c.args.scalars.now) c.args.act.now c.in-If.test c.in-If.yes c.in-If.no c.in-If.is c.requires.scalars).left

pub holds_cond-requires-clause-right : goal.holds_cond-requires-clause-right
holds_cond-requires-clause-right c = (if_uses (length c.args.scalars.now) c.args.act.now c.in-If.test c.in-If.yes c.in-If.no c.in-If.is c.requires.scalars).right

pub holds_cond-requires-in-While-clause-left : goal.holds_cond-requires-in-While-clause-left
holds_cond-requires-in-While-clause-left c = (while_uses (length c.args.scalars.now) c.args.act.now c.in-While.test c.in-While.body c.in-While.is c.requires.scalars).left

pub holds_cond-requires-in-While-clause-right : goal.holds_cond-requires-in-While-clause-right
holds_cond-requires-in-While-clause-right c = (while_uses (length c.args.scalars.now) c.args.act.now c.in-While.test c.in-While.body c.in-While.is c.requires.scalars).right

pub returns-in-If : goal.returns-in-If
returns-in-If c = c.holds_cond.ensures ∙ sym (if_taken c.args.domain c.args.scalars.now c.args.act.now c.in-If.test c.in-If.yes c.in-If.no c.in-If.is)

pub returns-in-While : goal.returns-in-While
returns-in-While c = c.holds_cond-in-While.ensures ∙ sym (while_taken c.args.domain c.args.scalars.now c.args.act.now c.in-While.test c.in-While.body c.in-While.is)
