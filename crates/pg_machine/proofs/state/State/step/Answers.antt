use Rattle.std.proofs.Common.{rules, ◌≡◌, Some, ap, sym, ◌∙◌, arith}
use Rattle.pg_program.specs.Program.{stmt_at}
use Rattle.pg_machine.specs.State.{point_of}
use Rattle.pg_machine.proofs.Faults.{Answered, answers_exactly, answers_steps, answers_fault}
use Rattle.pg_machine.proofs.WellFormed.{answered_kept}
use Rattle.pg_machine.proofs.state.State.step.Goals as goal

pub returns-in-Some : goal.returns-in-Some
returns-in-Some c =
    let p = c.args.p.now in
    let s = c.args.self.now.state in
    let e = c.args.event in
    let new = c.take.new.self.state in
    let spare = c.args.self.now.spare in
    let r = c.take.result in
    let low = c.if-event-lt1.false in
    let high = c.if-event-from.false in
    let count = c.from.ensures in
    let threads = c.threads.ensures in
    let at : stmt_at p e.thread (point_of s e.thread) ≡ Some c.in-Some.stmt.now = ap (stmt_at p e.thread) (sym c.point.ensures) ∙ sym c.in-Some.ensures in
    let answered : Answered p s e new spare r = record {
      thread = (omega arith, omega (arith, high, count, threads));
      stmt = c.in-Some.stmt.now;
      stands = at;
      ok = c.take.ensures.ok;
      few = c.take.ensures.within;
      err = c.take.ensures.err;
    } in
    record {
      ok = c.take.ensures.ok;
      err = answers_fault p s e new spare r answered;
      kept = answered_kept p s e new r c.take.ensures.built c.requires c.take.ensures.ok c.take.ensures.unchanged;
      within = search rules;
      exact = answers_exactly p s e new spare r answered;
      complete = answers_steps p s e new spare r answered;
      unchanged = c.take.ensures.unchanged;
      spare = c.take.ensures.spare;
    }
