use Rattle.std.proofs.Common.{List, ap, sym, ◌∙◌, refl, arith}
use Rattle.std.proofs.lemmas.List.{take_all}
use Rattle.pg_decider.specs.Weigh.{weigh}
use Rattle.pg_decider.specs.declared.chains.Start.{Start}
use Rattle.pg_decider.proofs.Weighing.{weigh-more_set}
use Rattle.pg_decider.proofs.chains.empty_all.Goals as goal

pub loop-i-preserved : goal.loop-i-preserved
loop-i-preserved c = weigh-more_set (λ (s : Start). s.size) c.loop-i.starts c.loop-i.i (record { head = 0; size = 0 }) (omega arith) refl c.loop-i.invariant

pub returns : goal.returns
returns c = ap (λ (l : List Start). weigh (λ (s : Start). s.size) l) (sym (take_all c.loop-i.i c.loop-i.starts (omega arith))) ∙ c.loop-i.invariant
