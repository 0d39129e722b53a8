use Rattle.std.proofs.Common.{◌≡◌, ◌-◌, map}
use Rattle.std.specs.List.{range_with_len}
use Rattle.pg_assertion.specs.Formula.{plain, with_atoms}
use Rattle.pg_assertion.specs.Atom.{raw_of}
use Rattle.pg_made.specs.Made.{note}
use Rattle.pg_made.proofs.outline.thread_notes.Given as goal

abbrev pub invariant-points : goal.invariant-points
invariant-points l = map plain l.notes.items ≡ map (λ k. with_atoms raw_of (note l.t k)) (range_with_len 1 (l.k - 1))
