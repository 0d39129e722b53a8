use Rattle.std.proofs.Common.{◌∙◌, sym}
use Rattle.pg_program.proofs.ClauseLemmas.{slice_get-read, repeated_here, repeated_later}
use Rattle.pg_program.proofs.words.repeated_target.Goals as goal

pub returns-then-is_target : goal.returns-then-is_target
returns-then-is_target c =
    let aux = c.args.aux.now in
    let i = c.loop-i.i in
    repeated_here aux i c.index-aux-i.result (slice_get-read aux i c.index-aux-i.result c.loop-i-test.true c.index-aux-i.is)
    (sym c.if-is_target.true ∙ c.is_target.ensures) ∙ c.loop-i.invariant

pub loop-i-preserved : goal.loop-i-preserved
loop-i-preserved c =
    let aux = c.args.aux.now in
    let i = c.loop-i.i in
    sym (repeated_later aux i c.index-aux-i.result (slice_get-read aux i c.index-aux-i.result c.loop-i-test.true c.index-aux-i.is)
    (sym c.if-is_target.false ∙ c.is_target.ensures)) ∙ c.loop-i.invariant
