use Rattle.pg_derive.specs.Desk.{IsSet}
use Rattle.pg_derive.specs.Verified.{AreFirstValid}
use Rattle.pg_derive.proofs.checking.check_trees.Given as goal

abbrev pub invariant-trees : goal.invariant-trees
invariant-trees l =
    let o = l.fn.desk.loader.outline in
    IsSet o l.desk.loader l.desk.region l.desk.trail × AreFirstValid o l.d l.i
