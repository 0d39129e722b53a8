use Rattle.std.proofs.Common.{◌∙◌}
use Rattle.pg_views.proofs.Below.{shown-by}
use Rattle.pg_views.proofs.window.Window.is_shown.Goals as goal

pub returns : goal.returns
returns c =
    c.is_some.ensures ∙ shown-by c.args.memory.now.memory c.args.self.location c.args.self.from c.args.self.upto c.args.value c.first.result c.first.ensures
