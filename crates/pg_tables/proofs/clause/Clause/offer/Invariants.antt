use Rattle.std.proofs.Common.{◌≡◌, ◌+◌, ◌++◌, map, take, length}
use Rattle.pg_tables.specs.Clause.{in_front, numbered}
use Rattle.pg_tables.proofs.clause.Clause.offer.Given as goal

abbrev pub invariant-loop-i : goal.invariant-loop-i
invariant-loop-i g l =
    (length l.lits ≡ 7)
    × (take (l.len + l.i) l.lits ≡ map (numbered l.setting.layout) (in_front l.setting.case) ++ map (numbered l.setting.layout) (take l.i l.self-inside.literals))
