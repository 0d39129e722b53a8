use Rattle.pg_views.proofs.Axioms.{last_is_read_then, newest_load_keeps_then, read_is_read_again}
use Rattle.pg_views.proofs.laws.what_may_be_read_then.Goals as goal

pub returns : goal.returns
returns c = record { again = read_is_read_again; last = last_is_read_then; newest = newest_load_keeps_then }
