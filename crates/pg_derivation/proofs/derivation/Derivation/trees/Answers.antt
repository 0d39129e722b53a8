use Rattle.std.proofs.Common.{arith}
use Rattle.pg_derivation.proofs.Trees.{derivation-length, is_derivation}
use Rattle.pg_derivation.proofs.derivation.Derivation.trees.Goals as goal

pub returns-clause-count : goal.returns-clause-count
returns-clause-count c = rw (← c.self.view_is) (omega (arith, derivation-length c.self.inside.numbers.items c.self.inside.nodes.items c.self.inside.ends.items))

pub returns-clause-derivation : goal.returns-clause-derivation
returns-clause-derivation c = rw (← c.self.view_is) (is_derivation _ _ _ c.self.invariant)
