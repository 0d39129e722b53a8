use Rattle.std.proofs.Common.{◌≡◌, ◌+◌, ◌-◌, ◌<◌, ◌∙◌, ap, sym, arith, length, drop, take, get_or, length-drop, true, false}
use Rattle.pg_program.specs.Words.{is_in}
use Rattle.pg_program.proofs.ClauseLemmas.{different-drop, take-rest}
use Rattle.pg_program.proofs.words.different.Goals as goal
use Rattle.pg_program.proofs.words.different.Goals.{then-not-stands_in, else-not-stands_in}

pub loop-i-preserved : goal.loop-i-preserved
loop-i-preserved c =
    let ns = c.args.numbers.now in
    let i = c.loop-i.i in
    let rest : take (length ns - (i + 1)) (drop (i + 1) ns) ≡ drop (i + 1) ns = take-rest (drop (i + 1) ns) (length ns - (i + 1)) (omega (arith, length-drop (i + 1) ns)) in
    let here : i < length ns = c.loop-i-test.true in
    let kept = c.loop-i.invariant.0 in
    let few = c.loop-i.invariant.1 in
    let answer : c.stands_in.result ≡ is_in (get_or ns i 0) (drop (i + 1) ns) = c.stands_in.ensures ∙ ap (is_in (get_or ns i 0)) rest in
    elim c.if-not-stands_in.branch [
      | then-not-stands_in w ↦
          let step = different-drop ns i false here (sym w.if-not-stands_in.true ∙ answer) in
          let count = w.count-is in
          (omega arith, omega arith)
      | else-not-stands_in w ↦
          let step = different-drop ns i true here (sym w.if-not-stands_in.false ∙ answer) in
          let count = w.count-is in
          (omega arith, omega arith)
    ]
