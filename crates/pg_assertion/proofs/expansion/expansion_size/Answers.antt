use Rattle.std.proofs.Common.{arith}
use Rattle.std.proofs.Math.Nat.{one-le-pow}
use Rattle.pg_assertion.proofs.ExpansionSizes.{terms_few, products_few}
use Rattle.pg_assertion.proofs.expansion.expansion_size.Goals as goal

pub pow-terms-requires : goal.pow-terms-requires
pow-terms-requires c = omega (arith, terms_few c.from.result c.named_count-named.result (omega arith) (omega arith))

pub overflow_mul-result-2 : goal.overflow_mul-result-2
overflow_mul-result-2 c =
    let few = terms_few c.from.result c.named_count-named.result (omega arith) (omega arith) in
    omega (arith, products_few c.pow-terms.result c.nodes-nodes.result c.from-2.result (omega arith) (omega arith) (omega arith))

pub overflow_add-result-2 : goal.overflow_add-result-2
overflow_add-result-2 c =
    let few = terms_few c.from.result c.named_count-named.result (omega arith) (omega arith) in
    omega (arith, products_few c.pow-terms.result c.nodes-nodes.result c.from-2.result (omega arith) (omega arith) (omega arith))

pub overflow_sub-result : goal.overflow_sub-result
overflow_sub-result c = omega (arith, one-le-pow c.named_count-named.result c.from.result (omega arith))
