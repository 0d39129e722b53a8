use Rattle.std.proofs.Common.{◌≡◌, ◌++◌, ◌+◌, ◌*◌, ◌≤◌, drop, map}
use Rattle.std.specs.List.{All}
use Rattle.pg_program.specs.Block.{block, first_list, second_list}
use Rattle.pg_program.specs.Graph.{size}
use Rattle.pg_assertion.specs.Formula.{plain, AllAtoms}
use Rattle.pg_assertion.specs.Atom.{NamesDeclared}
use Rattle.pg_program_text.specs.Spelling as spec
use Rattle.pg_program_text.specs.DeclaredNames.{BlockDeclared}
use Rattle.pg_program_text.proofs.print.+lines.Given as goal

-- each call has fewer statements
abbrev pub decreases-spell_block : goal.decreases-spell_block
decreases-spell_block l = 2 * size (block l.stmts.now) + 1

abbrev pub decreases-spell_stmt : goal.decreases-spell_stmt
decreases-spell_stmt l = 2 * (size (block (first_list l.stmt.now)) + size (block (second_list l.stmt.now))) + 2

-- the statements so far are appended, and their notes are passed
abbrev pub invariant-spell_block-stmts : goal.invariant-spell_block-stmts
invariant-spell_block-stmts l =
    let left = block (drop l.stmt-index l.stmts) in
    (l.into.items ++ spec.spell_block l.names l.depth left (map plain l.rest) ≡ l.initial.into.items ++ spec.spell_block l.names l.depth (block l.stmts) (map plain l.notes))
    × (drop (size left) (map plain l.rest) ≡ drop (size (block l.stmts)) (map plain l.notes))
    × BlockDeclared l.names left
    × All (AllAtoms (NamesDeclared l.names)) (map plain l.rest)
    × (size left ≤ size (block l.stmts))
