use Rattle.std.proofs.Common.{◌-◌, length, take, drop, refl, arith}
use Rattle.std.specs.Prelude.{option_map, slice_index_or}
use Rattle.std.specs.Vec.{vec_len}
use Rattle.pg_program.proofs.AppendLemmas.{owes_nothing}
use Rattle.pg_assertion.specs.Formula.{plain}
use Rattle.pg_assertion.proofs.ExpansionTerms.{owes_less, joined_all-last, joined_all-whole, joined_all-more, popped}
use Rattle.pg_assertion.proofs.expansion.+join_terms.Goals as goal

pub returns-in_err-term-clause-kept : goal.returns-in_err-term-clause-kept
returns-in_err-term-clause-kept t c = owes_nothing c.from_residual.result _ c.from_residual.ensures.0

pub returns-in_err-term-clause-all : goal.returns-in_err-term-clause-all
returns-in_err-term-clause-all t c = owes_nothing c.from_residual.result _ c.from_residual.ensures.0

pub returns-in_default-clause-kept : goal.returns-in_default-clause-kept
returns-in_default-clause-kept t c = owes_less c.join.result _ _ (λ h. refl) c.join.ensures

pub returns-in_default-clause-all : goal.returns-in_default-clause-all
returns-in_default-clause-all t c =
    let f = plain c.args.f.now in
    owes_less c.join.result _ _
    (joined_all-last c.args.domain c.args.others.now c.args.chosen.now.items c.deref.result.now f (option_map plain c.args.whole.now) (option_map plain c.join.new.whole)
    (plain c.in_ok-term.field-0) c.in_default.len_below c.deref.ensures.value c.in_ok-term.ensures)
    c.join.ensures

pub returns-in_err-push-clause-kept : goal.returns-in_err-push-clause-kept
returns-in_err-push-clause-kept t c = owes_nothing c.from_residual-in_err-push.result _ c.from_residual-in_err-push.ensures.0

pub returns-in_err-push-clause-all : goal.returns-in_err-push-clause-all
returns-in_err-push-clause-all t c = owes_nothing c.from_residual-in_err-push.result _ c.from_residual-in_err-push.ensures.0

pub returns-in_err-join_terms-clause-kept : goal.returns-in_err-join_terms-clause-kept
returns-in_err-join_terms-clause-kept t c = owes_nothing c.from_residual-in_err-join_terms.result _ c.from_residual-in_err-join_terms.ensures.0

pub returns-in_err-join_terms-clause-all : goal.returns-in_err-join_terms-clause-all
returns-in_err-join_terms-clause-all t c = owes_nothing c.from_residual-in_err-join_terms.result _ c.from_residual-in_err-join_terms.ensures.0

pub returns-clause-kept : goal.returns-clause-kept
returns-clause-kept t c = c.loop-v.invariant.kept

pub returns-clause-all : goal.returns-clause-all
returns-clause-all t c =
    joined_all-whole c.args.domain c.loop-v.v c.args.others.now c.args.chosen.now.items (plain c.args.f.now) (option_map plain c.args.whole.now) (option_map plain c.loop-v.whole)
    c.in-len1-up.len_at_least c.loop-v-test.false c.loop-v.auto.v-end c.loop-v.invariant.all

pub loop-v-preserved : goal.loop-v-preserved
loop-v-preserved t c =
    let x = slice_index_or c.args.others.now 0 0 in
    let rest = take (length c.args.others.now - 1) (drop 1 c.args.others.now) in
    let f = plain c.args.f.now in
    let chosen = c.loop-v.chosen.items in
    let pushed = c.push.new.self.items in
    record {
      kept = popped c.args.chosen.now.items chosen pushed c.join_terms.new.chosen.items c.pop.new.self.items (x, c.loop-v.v) (vec_len c.join_terms.new.chosen)
          c.loop-v.invariant.kept
          c.in_ok-push.ensures.items
          c.in_ok-join_terms.ensures.kept
          (omega (arith, c.join_terms.new.chosen.ok.0))
          c.pop.ensures.rest;
      all = joined_all-more c.args.domain c.loop-v.v x rest c.args.chosen.now.items pushed chosen f (option_map plain c.args.whole.now)
          (option_map plain c.loop-v.whole)
          (option_map plain c.join_terms.new.whole)
          c.loop-v.invariant.kept
          c.in_ok-push.ensures.items
          c.loop-v.invariant.all
          c.in_ok-join_terms.ensures.all;
    }
