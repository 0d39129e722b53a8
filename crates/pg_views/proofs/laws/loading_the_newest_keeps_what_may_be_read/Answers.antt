use Rattle.pg_views.proofs.Readable.{newest_load_keeps_reads, newest_load_keeps_values}
use Rattle.pg_views.proofs.laws.loading_the_newest_keeps_what_may_be_read.Goals as goal

pub returns : goal.returns
returns c = record { reads = newest_load_keeps_reads; values = newest_load_keeps_values }
