use Rattle.std.proofs.Common.{ℕ, ◌+◌, sym, ap, ap₂, ◌∙◌}
use Rattle.pg_assertion.specs.StepAtom.{step_atoms}
use Rattle.pg_layers.proofs.Tops.{atoms-are}
use Rattle.pg_layers.proofs.atoms.atoms_of.Goals as goal

pub returns-clause-atoms : goal.returns-clause-atoms
returns-clause-atoms c =
    ap₂ (λ (a b : ℕ). a + b) (c.step_atoms.ensures.count ∙ ap step_atoms c.requires.layout) c.new_atoms.ensures.count
    ∙ sym (atoms-are c.args.o.now c.args.ob)
