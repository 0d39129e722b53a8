use Rattle.std.proofs.Common.{◌∙◌, ap, sym, option_map}
use Rattle.pg_program.specs.Fault.{unknown_thread}
use Rattle.pg_program.proofs.ClauseLemmas.{owner_found, owner_is_thread, owner_of_none}
use Rattle.pg_program.proofs.clause.check_owners.Goals as goal
use Rattle.pg_program.proofs.clause.check_owners.Goals.{in-Register+else-owner-lt1+else-threads-owner, in_default}

pub returns-then-owner-lt1 : goal.returns-then-owner-lt1
returns-then-owner-lt1 c =
    ap (option_map unknown_thread)
    (sym c.loop-r.invariant ∙ owner_found c.args.threads c.args.names.now.scalars c.loop-r.r c.in-Register.owner c.in-Register.ensures c.then-owner-lt1.either)

pub loop-r-preserved : goal.loop-r-preserved
loop-r-preserved c =
    let es = c.args.names.now.scalars in
    elim c.match-kind.branch [
      | in-Register+else-owner-lt1+else-threads-owner w ↦
          sym (owner_is_thread c.args.threads es c.loop-r.r w.in-Register.owner w.in-Register.ensures w.if-owner-lt1.false w.if-threads-owner.false) ∙ c.loop-r.invariant
      | in_default w ↦ sym (owner_of_none c.args.threads es c.loop-r.r c.kind.result c.kind.ensures w.in_default.not-Register) ∙ c.loop-r.invariant
    ]
