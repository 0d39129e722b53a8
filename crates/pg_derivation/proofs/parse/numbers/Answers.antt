use Rattle.std.proofs.Common.{◌≡◌, ◌∷◌, [], true, false, length, sym, ◌∙◌, arith}
use Rattle.std.proofs.lemmas.Grind.{common_steps}
use Rattle.std.proofs.lemmas.Result.{err_from_is_err_and, IfOk-weaker}
use Rattle.pg_derivation.specs.Derivation.{IsNumber}
use Rattle.pg_derivation.specs.Place.{cursor}
use Rattle.pg_derivation.proofs.Lists.{each-append, on_ok}
use Rattle.pg_derivation.proofs.Turns.{number-fault, number-more, number-ends, numbers-out, further}
use Rattle.pg_derivation.proofs.parse.numbers.Goals as goal

pub returns-in_err-first-clause-said : goal.returns-in_err-first-clause-said
returns-in_err-first-clause-said c =
    let p = err_from_is_err_and c.from_residual.result c.from_residual.ensures.1 in
    rw (p.1, p.2) (λ _. number-fault c.words.into.items (length c.args.from.now.rest.now) c.words.counter (cursor c.words.place) _ _ c.words-test.true c.in_err-first.ensures.said c.words.invariant.said)

pub returns-then-not-has_more-clause-said : goal.returns-then-not-has_more-clause-said
returns-then-not-has_more-clause-said c =
    let no : c.has_more.result ≡ false = grind (arith, common_steps) in
    rw c.in_ok-push.ensures.items
    (number-ends c.words.into.items (length c.args.from.now.rest.now) c.words.counter (cursor c.words.place) c.in_ok-first.first (cursor c.in_ok-first.after) c.newline.result _ c.words-test.true c.in_ok-first.ensures.said (sym c.has_more.ensures.value ∙ no) c.newline.ensures.said c.words.invariant.said)

pub returns-then-not-has_more-clause-moves : goal.returns-then-not-has_more-clause-moves
returns-then-not-has_more-clause-moves c =
    IfOk-weaker c.newline.result _ _ (λ p h. omega (arith, h, c.in_ok-push.ensures.len, c.words.invariant.moves, c.in_ok-first.ensures.moves)) c.newline.ensures.moves

pub returns-then-not-has_more-clause-fits : goal.returns-then-not-has_more-clause-fits
returns-then-not-has_more-clause-fits c =
    on_ok c.newline.result (λ h. rw c.in_ok-push.ensures.items (each-append IsNumber c.words.into.items (c.in_ok-first.first ∷ []) (c.words.invariant.fits h) (c.in_ok-first.ensures.fits, tt)))

pub words-preserved : goal.words-preserved
words-preserved c =
    let yes : c.has_more.result ≡ true = grind (arith, common_steps) in
    record {
      said = rw (c.in_ok-push.ensures.items, c.advance-place.ensures)
          (number-more c.words.into.items (length c.args.from.now.rest.now) c.words.counter (cursor c.words.place) c.in_ok-first.first (cursor c.in_ok-first.after) _ c.words-test.true c.in_ok-first.ensures.said (sym c.has_more.ensures.value ∙ yes) c.words.invariant.said);
      moves = omega (arith, c.in_ok-push.ensures.len, c.words.invariant.moves, c.in_ok-first.ensures.moves, further _ (cursor c.in_ok-first.after) 1 c.advance-place.ensures);
      longer = omega (arith, c.in_ok-push.ensures.len, c.words.invariant.longer);
      fits = λ h. rw c.in_ok-push.ensures.items (each-append IsNumber c.words.into.items (c.in_ok-first.first ∷ []) (c.words.invariant.fits h) (c.in_ok-first.ensures.fits, tt));
    }

pub returns-clause-said : goal.returns-clause-said
returns-clause-said c = rw c.fault.ensures (λ _. numbers-out c.words.into.items (length c.args.from.now.rest.now) c.words.counter (cursor c.words.place) _ c.words-test.false c.words.invariant.said)
