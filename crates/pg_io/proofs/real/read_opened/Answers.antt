-- What the reading of the file says of one that is too long, without its bytes.
use Rattle.pg_io.proofs.real.read_opened.Goals as goal

pub returns-in-Ok-clause-too_long : goal.returns-in-Ok-clause-too_long
returns-in-Ok-clause-too_long g c = λ n is_long.
    let said = c.read_within.ensures.too_long n is_long in (said.0, said.1)
