use Rattle.std.proofs.Common.{◌≡◌, ◌+◌, Some, None, subst, arith}
use Rattle.pg_outline.specs.Outline.{OutlineTable}
use Rattle.pg_derive.specs.Desk.{IsSet}
use Rattle.pg_derive.specs.Verified.{fault_for, AreFirstValid}
use Rattle.pg_derive.proofs.Desks.{none-valid, valid-more, fault-at}
use Rattle.pg_derive.proofs.checking.check_trees.Goals as goal

pub trees-init : goal.trees-init
trees-init c = (c.requires.set, none-valid c.args.desk.now.loader.outline c.args.d.now)

pub returns-in-Err : goal.returns-in-Err
returns-in-Err c =
    let o = c.args.desk.now.loader.outline in
    let tree = c.tree.result in
    let same = c.trees.invariant.0.outline in
    fault-at o c.args.d.now c.trees.i tree c.in-Err.fault c.trees.invariant.1 (omega (arith, c.trees-test.true, c.requires.trees)) (omega (arith, c.trees-test.true, c.requires.obligations)) c.tree.ensures
    (subst (λ (q : OutlineTable). fault_for q (c.trees.i + 1) tree ≡ Some c.in-Err.fault) same c.in-Err.ensures.fault)

pub trees-preserved : goal.trees-preserved
trees-preserved c =
    let o = c.args.desk.now.loader.outline in
    let tree = c.tree.result in
    let same = c.trees.invariant.0.outline in
    let new = c.check.new.self in (
      subst (λ (q : OutlineTable). IsSet q new.loader new.region new.trail) same c.in-Ok.ensures.set,
      valid-more o c.args.d.now c.trees.i tree c.trees.invariant.1 c.tree.ensures
          (subst (λ (q : OutlineTable). fault_for q (c.trees.i + 1) tree ≡ None) same c.in-Ok.ensures.fault),
    )

pub returns : goal.returns
returns c =
    subst (AreFirstValid c.args.desk.now.loader.outline c.args.d.now) (omega (arith, c.trees.auto.i-end, c.trees-test.false)) c.trees.invariant.1
