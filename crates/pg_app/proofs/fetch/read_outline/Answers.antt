-- The line of the first fault is put.
use Rattle.pg_app.proofs.fetch.read_outline.Goals as goal

pub returns-in-Err-clause-refused : goal.returns-in-Err-clause-refused
returns-in-Err-clause-refused g c = c.refuse_outline.ensures c.args.bytes.now c.in-Err.ensures.first_fault c.in-Err.ensures.memory
