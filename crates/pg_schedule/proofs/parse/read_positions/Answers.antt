use Rattle.std.proofs.Common.{sym, ◌∙◌}
use Rattle.pg_schedule.proofs.Turns.{number_taken, count_taken}
use Rattle.pg_schedule.proofs.Kept.{more_numbers}
use Rattle.pg_schedule.proofs.parse.read_positions.Goals as goal

pub positions-preserved : goal.positions-preserved
positions-preserved c =
    let one = number_taken c.positions.into.items c.in-Some.word.place c.in_ok-number.field-0 c.in-Some.word.text.now c.positions.words c.next.new.self c.in-Some.ensures.word.0 c.in-Some.ensures.word.1 c.in_ok-number.ensures.value in
    rw c.in_ok-push.ensures.items (sym one ∙ c.positions.invariant.0, count_taken c.positions.into.items c.in_ok-number.field-0 _ _ c.positions.words.left c.next.new.self.left c.in-Some.ensures.word.0 c.positions.invariant.1, more_numbers _ _ c.positions.invariant.2 (c.in_ok-number.ensures.small, tt))
