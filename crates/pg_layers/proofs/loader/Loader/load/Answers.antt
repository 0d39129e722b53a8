use Rattle.std.proofs.Common.{◌≡◌, ℕ, ◌-◌, ◌<◌, ◌^◌, length, Option, Some, sym, ap, subst, ◌∙◌, arith}
use Rattle.std.specs.List.{slice_get}
use Rattle.pg_program.specs.declared.point.Step.{Step}
use Rattle.pg_outline.specs.Outline.{OutlineTable}
use Rattle.pg_region.specs.declared.range.Loaded.{Loaded}
use Rattle.pg_obligations.specs.Obligations.{obligations}
use Rattle.pg_layers.specs.Clauses.{obligation}
use Rattle.pg_layers.specs.Members.{step_in}
use Rattle.pg_layers.specs.Layers.{Loading, loaded_with, IsLoaded}
use Rattle.pg_layers.specs.Laid.{IsStepIf, IsRuled, range_by}
use Rattle.pg_layers.proofs.Loads.{numbered_is, step_is, loads}
use Rattle.pg_layers.proofs.loader.Loader.load.Goals as goal

pub with_rules-layers-requires-clause-step : goal.with_rules-layers-requires-clause-step
with_rules-layers-requires-clause-step c =
    let o = c.self.inside.outline.now in
    let at = ap (λ (t : OutlineTable). slice_get (obligations t.program) (c.args.i - 1)) (sym c.of.ensures) ∙ c.shape-ob.ensures in
    subst (λ (s : Option Step). IsStepIf o s) (sym c.step_of.ensures) (step_is o c.shape-ob.result (numbered_is o (c.args.i - 1) c.shape-ob.result at))

pub with_top-requires-clause-ob : goal.with_top-requires-clause-ob
with_top-requires-clause-ob c =
    let at = ap (λ (t : OutlineTable). slice_get (obligations t.program) (c.args.i - 1)) (sym c.of.ensures) ∙ c.shape-ob.ensures in
    numbered_is c.self.inside.outline.now (c.args.i - 1) c.shape-ob.result at

pub atoms_of-requires-clause-ob : goal.atoms_of-requires-clause-ob
atoms_of-requires-clause-ob c =
    let at = ap (λ (t : OutlineTable). slice_get (obligations t.program) (c.args.i - 1)) (sym c.of.ensures) ∙ c.shape-ob.ensures in
    numbered_is c.self.inside.outline.now (c.args.i - 1) c.shape-ob.result at

pub returns : goal.returns
returns c =
    let o = c.self.inside.outline.now in
    let ob = c.shape-ob.result in
    let k = c.with_rules-layers.result in
    let at = ap (λ (t : OutlineTable). slice_get (obligations t.program) (c.args.i - 1)) (sym c.of.ensures) ∙ c.shape-ob.ensures in
    let told : Loaded = record { range = c.range_of.result; atoms = c.atoms_of.result } in
    let now : Loading = record { outline = o; ruled = k.ruled; last = Some ob } in
    let range = c.range_of.ensures.range ∙ ap (λ (n : ℕ). range_by k n (step_in ob)) c.clauses.ensures in
    let few : length c.with_top.new.region.clauses < 2 ^ 32 = omega (arith, c.range_of.ensures.few, c.clauses.ensures) in
    let ruled = subst (λ (s : Option Step). IsRuled o s c.with_axioms-based.result k c.with_axioms-based.new.region c.with_rules-layers.new.region) c.step_of.ensures c.with_rules-layers.ensures in
    subst (λ (before : Loading). (now ≡ loaded_with before (obligation before.outline c.args.i)) × IsLoaded before (obligation before.outline c.args.i) c.args.region.now c.with_top.new.region told)
    c.self.view_is
    (loads o c.self.inside.laid c.args.i ob c.with_axioms-based.result k c.args.region.now c.with_axioms-based.new.region c.with_rules-layers.new.region c.with_top.new.region told
    c.program-made.ensures.made (numbered_is o (c.args.i - 1) ob at) c.with_axioms-based.ensures ruled c.with_top.ensures range c.atoms_of.ensures.atoms c.atoms_of.ensures.few few at)
