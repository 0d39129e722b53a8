use Rattle.std.proofs.Common.{◌≡◌, vec_capacity}
use Rattle.pg_decider.specs.Walk.{Walking}
use Rattle.pg_decider.proofs.walk.walk.Given as goal

abbrev pub invariant-lines : goal.invariant-lines
invariant-lines l = (l.trail.atoms ≡ l.fn.trail.atoms) × (vec_capacity l.branches ≡ vec_capacity l.fn.branches) × Walking l.trail l.branches.items l.log.lines l.k
