use Rattle.std.proofs.Common.{◌≡◌, map, take}
use Rattle.pg_outline.specs.Erasure.{erased_stmt, new_place}
use Rattle.pg_outline.proofs.erasure.+erased.Given as goal

-- the statements so far are erased
abbrev pub invariant-erased_block-stmts : goal.invariant-erased_block-stmts
invariant-erased_block-stmts l = l.block.items ≡ map (erased_stmt (new_place l.names)) (take l.stmt-index l.stmts)
