use Rattle.std.proofs.Common.{◌≡◌, ◌<◌, false, ◌||◌, get_or, take, length}
use Rattle.pg_region.specs.Literal.{Literal, negated}
use Rattle.pg_decider.specs.Assignment.{on}
use Rattle.pg_decider.specs.Watch.{place}
use Rattle.pg_decider.proofs.leaf.mark.Given as goal

abbrev pub invariant-loop-literal : goal.invariant-loop-literal
invariant-loop-literal l = (m : Literal) → place m < length l.marks → get_or l.marks (place m) false ≡ (get_or l.initial.marks (place m) false || on (take l.literal-index l.clause) (negated m))
