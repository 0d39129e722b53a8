use Rattle.std.proofs.Common.{◌-◌, drop, take, length, refl, sym, ◌∙◌, arith}
use Rattle.pg_schedule.proofs.Cuts.{word_taken, none_left, the_rest, is_nothing, is_something, left_few, taken_end, taken_few}
use Rattle.pg_schedule.proofs.words.Words.next.Goals as goal

pub returns-then-is_empty-clause-few : goal.returns-then-is_empty-clause-few
returns-then-is_empty-clause-few c = rw (sym c.self.view_is) (omega (arith, left_few c.self.inside.at c.self.inside.rest.now, c.self.invariant))

pub returns-then-is_empty-clause-word : goal.returns-then-is_empty-clause-word
returns-then-is_empty-clause-word c =
    let none = is_nothing _ (sym c.is_empty.ensures ∙ c.if-is_empty.true) in
    let rest = the_rest c.blanks_len-blanks.result c.self.inside.rest.now in
    (rw (sym c.self.view_is) (none_left c.self.inside.at c.self.inside.rest.now c.blanks_len-blanks.result c.blanks_len-blanks.ensures.value (sym rest ∙ none)), refl)

pub returns-clause-few : goal.returns-clause-few
returns-clause-few c =
    taken_few c.self.inside.at c.self.inside.rest.now c.blanks_len-blanks.result c.word_len-len.result c.blanks_len-blanks.ensures.within c.word_len-len.ensures.within c.self.invariant

pub returns-clause-word : goal.returns-clause-word
returns-clause-word c =
    let k = c.blanks_len-blanks.result in
    let n = c.word_len-len.result in
    let xs = c.self.inside.rest.now in
    let rest = take (length xs - k) (drop k xs) in
    let some = is_something _ (sym c.is_empty.ensures ∙ c.if-is_empty.false) in (
      rw (sym c.self.view_is) (word_taken c.self.inside.at xs k n rest (take n rest) (take (length rest - n) (drop n rest)) c.blanks_len-blanks.ensures.value (the_rest k xs) c.word_len-len.ensures.value refl (the_rest n rest) some),
      rw (sym c.self.view_is) (taken_end c.self.inside.at xs k n c.blanks_len-blanks.ensures.within c.word_len-len.ensures.within),
    )
