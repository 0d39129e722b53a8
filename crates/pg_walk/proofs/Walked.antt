-- One line more is walked.
use Rattle.std.proofs.Common.{◌≡◌, ℕ, suc, ◌+◌, List, ◌++◌, subst, arith}
use Rattle.pg_program.specs.Program.{ProgramTable}
use Rattle.pg_assertion.specs.declared.atom.ViewAtom.{ViewAtom}
use Rattle.pg_assertion.specs.Formula.{Plain}
use Rattle.pg_machine.specs.State.{State}
use Rattle.pg_schedule.specs.Schedule.{Act, ScheduleTable, act_at, number_at}
use Rattle.pg_walk.specs.Told.{Takes, Walks, line_text}

-- the line is given by its number and its act, as they are lent
pub walks-next : (p : ProgramTable) (f : Plain ViewAtom) (lines : ScheduleTable) (k n : ℕ) (act : Act) (s next : State) (earlier told : List ℕ)
    → n ≡ number_at lines k → act ≡ act_at lines k → Walks p f lines k s earlier → Takes p s act next → told ≡ earlier ++ line_text p.names f n act next
    → Walks p f lines (k + 1) next told
walks-next p f lines k n act s next earlier told number is walked takes adds =
    let one : suc k ≡ k + 1 = omega arith in
    subst (λ (m : ℕ). Walks p f lines m next told) one (s, earlier, walked, subst (λ (a : Act). Takes p s a next) is takes, rw (number, is) at adds)
