use Rattle.std.proofs.Common.{length, sym, ap, ◌∙◌}
use Rattle.pg_machine.specs.State.{Views}
use Rattle.pg_machine.proofs.PositionLists.{greater-length}
use Rattle.pg_machine.proofs.views.Views.miss.Goals as goal

pub mfence-requires-2 : goal.mfence-requires-2
mfence-requires-2 c =
    let vpc = ap (λ (w : Views). length w.vpc) c.load.ensures ∙ ap (λ (w : Views). length w.vpc) c.mfence.ensures in
    let vpa = ap (λ (w : Views). length w.vpa) c.load.ensures ∙ ap (λ (w : Views). length w.vpa) c.mfence.ensures in
    vpc ∙ (greater-length c.args.self.now.vpc c.args.self.now.vpa ∙ (c.requires.sizes ∙ sym vpa))
