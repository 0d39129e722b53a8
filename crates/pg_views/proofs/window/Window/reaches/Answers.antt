use Rattle.std.proofs.Common.{sym, ◌∙◌}
use Rattle.pg_views.proofs.Below.{reached-by}
use Rattle.pg_views.proofs.window.Window.reaches.Goals as goal

pub returns-then-self-position : goal.returns-then-self-position
returns-then-self-position c =
    reached-by c.args.memory.now.memory.messages c.args.self.location c.args.self.from c.args.self.upto c.args.position c.hiding.result c.is_none.result (sym c.is_at.ensures ∙ c.if-not-is_at.false) c.if-self-position.true c.hiding.ensures c.is_none.ensures
