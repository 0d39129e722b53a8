use Rattle.std.proofs.Common.{◌≡◌, ◌≤◌}
use Rattle.pg_outline.specs.Erasure.{new_place}
use Rattle.pg_outline.proofs.erasure.new_place.Given as goal

-- the registers so far are counted
abbrev pub invariant-loop-q : goal.invariant-loop-q
invariant-loop-q l = (l.place ≡ new_place l.names l.q) × (l.place ≤ l.q)
