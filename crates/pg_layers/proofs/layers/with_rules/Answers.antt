use Rattle.std.proofs.Common.{Option, sym, ap}
use Rattle.pg_program.specs.declared.point.Step.{Step}
use Rattle.pg_layers.specs.Layers.{or_before}
use Rattle.pg_layers.proofs.Laying.{marks_within, kept}
use Rattle.pg_layers.proofs.layers.with_rules.Goals as goal

pub release-requires : goal.release-requires
release-requires c = (marks_within c.args.o.now c.args.k c.requires.lies.0 c.args.region.now.clauses c.requires.lies.1).0

pub returns-in-None : goal.returns-in-None
returns-in-None c =
    kept c.args.o.now c.args.step c.args.k c.args.region.now c.release.new.self c.requires.lies.0 c.requires.lies.1 c.release.ensures
    (sym (ap (λ (s : Option Step). or_before s c.args.k.ruled) c.in-None.is))
