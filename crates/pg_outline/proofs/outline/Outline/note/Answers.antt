use Rattle.std.proofs.Common.{◌-◌, ◌<◌, ◌∙◌, ap, sym, subst, map, length, arith}
use Rattle.std.proofs.lemmas.List.{length-map, get_or-map}
use Rattle.std.proofs.lemmas.List.Elements.{All-get_or}
use Rattle.pg_assertion.specs.Formula.{plain}
use Rattle.pg_outline.specs.Speaks.{IsOver}
use Rattle.pg_outline.proofs.outline.Outline.note.Goals as goal

pub returns-clause-speaks : goal.returns-clause-speaks
returns-clause-speaks c =
    let fs = c.thread_notes.result.now in
    let f = c.index-thread_notes-from.result in
    let i = c.from.result - 1 in
    let from = c.from.ensures in
    let low = c.requires.point.0 in
    let high = c.requires.point.1 in
    let count = c.thread_notes.ensures.one_a_point in
    let same = length-map fs plain in
    let here : i < length fs = omega (arith, from, low, high, count) in
    let within : i < length (map plain fs) = omega (arith, here, same) in
    subst (IsOver c.args.self.now.program) (get_or-map plain fs i f (plain f) here ∙ ap plain (sym c.index-thread_notes-from.is))
    (All-get_or (IsOver c.args.self.now.program) (map plain fs) i (plain f) within c.thread_notes.ensures.speaks)
