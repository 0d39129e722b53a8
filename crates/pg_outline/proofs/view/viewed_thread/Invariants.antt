use Rattle.std.proofs.Common.{◌≡◌, map, take, drop}
use Rattle.pg_assertion.specs.Formula.{plain, with_atoms}
use Rattle.pg_assertion.specs.Atom.{raw_of}
use Rattle.pg_outline.specs.Fault.{atom_fault, in_formula, first_in}
use Rattle.pg_outline.proofs.view.viewed_thread.Given as goal

-- the notes before the index are made, and the first fault is that of the others
abbrev pub invariant-loop-note : goal.invariant-loop-note
invariant-loop-note l =
    (map (with_atoms raw_of) (map plain l.viewed_notes.items) ≡ map plain (take l.note-index l.notes))
    × (first_in (in_formula (atom_fault l.scope.domain l.scope.threads)) (map plain l.notes) ≡ first_in (in_formula (atom_fault l.scope.domain l.scope.threads)) (map plain (drop l.note-index l.notes)))
