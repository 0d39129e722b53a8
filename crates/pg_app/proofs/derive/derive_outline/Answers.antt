-- The judgement is put behind the derivation, unless that could not be written.
use Rattle.std.proofs.Common.{◌≤◌, length, ap, arith}
use Rattle.pg_program.specs.Limits.{most_scalars}
use Rattle.pg_program.specs.NameTable.{NameTable}
use Rattle.pg_program.specs.Program.{ProgramTable}
use Rattle.pg_judge.specs.Outcome.{outcome_of}
use Rattle.pg_app.proofs.Derived.{derived_puts, unwritten_puts, memoryless_puts}
use Rattle.pg_app.proofs.derive.derive_outline.Goals as goal

pub returns-in-Ok : goal.returns-in-Ok
returns-in-Ok g c =
    derived_puts c.args.outline.now c.args.budget (outcome_of c.in-Ok.judgement) _ c.in-Ok.ensures.outcome c.in-Ok.ensures.says
    (rw c.in-Ok.is at c.derive.ensures.derivation) c.derive.ensures.faults c.put_rest.ensures

pub returns-in-Err-Write : goal.returns-in-Err-Write
returns-in-Err-Write g c =
    let o = c.args.outline.now in
    let few : length o.program.names.scalars ≤ most_scalars = omega (arith, ap (λ (p : ProgramTable). length p.names.scalars) c.program.ensures.program, ap (λ (n : NameTable). length n.scalars) c.names.ensures.names, c.scalars-scalars.ensures.count, c.scalars-scalars.ensures.few) in
    unwritten_puts o c.args.budget c.outcomes_are_true.ensures c.program.ensures.made few _ _ _ _ (rw (c.in-Err-Write.is, c.in-Err-Write.field-0-is) at c.derive.ensures.derivation)

pub returns-in-Err-NoMemory : goal.returns-in-Err-NoMemory
returns-in-Err-NoMemory g c =
    let o = c.args.outline.now in
    let few : length o.program.names.scalars ≤ most_scalars = omega (arith, ap (λ (p : ProgramTable). length p.names.scalars) c.program.ensures.program, ap (λ (n : NameTable). length n.scalars) c.names.ensures.names, c.scalars-scalars.ensures.count, c.scalars-scalars.ensures.few) in
    memoryless_puts o c.args.budget c.outcomes_are_true.ensures c.program.ensures.made few _ _ _ _ (rw (c.in-Err-NoMemory.is, c.in-Err-NoMemory.field-0-is) at c.derive.ensures.derivation)
