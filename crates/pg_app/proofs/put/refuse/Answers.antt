-- The line of the fault is the answer to each file with this first fault.
use Rattle.pg_app.proofs.Faults.{tells_some, fault_put, fault_cut}
use Rattle.pg_outline_text.specs.Fault.{plain_fault}
use Rattle.pg_app.proofs.put.refuse.Goals as goal

pub returns-in-Ok : goal.returns-in-Ok
returns-in-Ok g c = λ bytes tells memory.
    let e = c.args.fault.now in
    fault_put bytes (plain_fault e) (tells_some e c.requires memory) tells (rw c.in-Ok.is at c.report_file_fault.ensures)

pub returns-in-Err-Write : goal.returns-in-Err-Write
returns-in-Err-Write g c = λ bytes tells memory.
    let e = c.args.fault.now in
    let cut = rw (c.in-Err-Write.is, c.in-Err-Write.field-0-is) at c.report_file_fault.ensures in
    fault_cut bytes (plain_fault e) (tells_some e c.requires memory) tells cut.0 cut.1
