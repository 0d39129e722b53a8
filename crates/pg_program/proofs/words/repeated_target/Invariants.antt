use Rattle.std.proofs.Common.{◌≡◌, [], drop, map, take}
use Rattle.pg_program.specs.Words.{repeated}
use Rattle.pg_program.proofs.words.repeated_target.Given as goal

-- the targets so far differ
abbrev pub invariant-loop-i : goal.invariant-loop-i
invariant-loop-i l = repeated (map (λ a. a.target) (take l.i l.aux)) (map (λ a. a.target) (drop l.i l.aux)) ≡ repeated [] (map (λ a. a.target) l.aux)
