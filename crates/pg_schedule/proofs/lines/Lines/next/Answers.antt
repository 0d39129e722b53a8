use Rattle.std.proofs.Common.{◌+◌, refl, sym, ◌∙◌}
use Rattle.pg_schedule.proofs.Cuts.{line_taken, the_rest, is_something}
use Rattle.pg_schedule.proofs.lines.Lines.next.Goals as goal

pub returns : goal.returns
returns c =
    let some = is_something _ (sym c.is_empty.ensures ∙ c.if-is_empty.false) in
    rw (sym c.self.view_is, c.of.ensures) (line_taken (c.self.inside.passed + 1) c.self.inside.at c.self.inside.rest.now c.line_len-len.result c.min-behind.result _ _ c.line_len-len.ensures.value c.min-behind.ensures refl (the_rest c.min-behind.result c.self.inside.rest.now) some)
