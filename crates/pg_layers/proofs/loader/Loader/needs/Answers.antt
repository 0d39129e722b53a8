use Rattle.std.proofs.Common.{subst}
use Rattle.pg_layers.specs.Layers.{Loading}
use Rattle.pg_layers.specs.Needs.{IsMostAtoms}
use Rattle.pg_layers.proofs.loader.Loader.needs.Goals as goal

pub returns-clause-atoms : goal.returns-clause-atoms
returns-clause-atoms c = subst (λ (k : Loading). IsMostAtoms k.outline c.most_atoms.result) c.self.view_is c.most_atoms.ensures
