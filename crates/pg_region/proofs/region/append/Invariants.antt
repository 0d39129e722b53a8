use Rattle.std.proofs.Common.{◌≡◌, ◌++◌, take, vec_capacity}
use Rattle.pg_region.proofs.region.append.Given as goal

abbrev pub invariant-loop-literal : goal.invariant-loop-literal
invariant-loop-literal l = (l.words.items ≡ l.initial.words.items ++ take l.literal-index l.literals) × (vec_capacity l.words ≡ vec_capacity l.initial.words)
