use Rattle.std.proofs.Common.{◌≡◌, map, take, drop}
use Rattle.pg_assertion.specs.Formula.{plain, with_atoms}
use Rattle.pg_assertion.specs.Atom.{raw_of}
use Rattle.pg_outline.specs.Fault.{atom_fault, in_formula, first_in}
use Rattle.pg_outline.proofs.view.viewed_threads.Given as goal

-- the threads before the index are made, and the first fault is that of the others
abbrev pub invariant-loop-thread : goal.invariant-loop-thread
invariant-loop-thread l =
    (map (map (with_atoms raw_of)) (map (λ t. map plain t.items) l.threads.items) ≡ map (λ t. map plain t.items) (take l.thread-index l.notes))
    × (first_in (first_in (in_formula (atom_fault l.scope.domain l.scope.threads))) (map (λ t. map plain t.items) l.notes)
    ≡ first_in (first_in (in_formula (atom_fault l.scope.domain l.scope.threads))) (map (λ t. map plain t.items) (drop l.thread-index l.notes)))
