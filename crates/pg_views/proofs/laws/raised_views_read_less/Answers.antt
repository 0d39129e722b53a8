use Rattle.pg_views.proofs.Readable.{raises_views, raised_reaches_less, raised_reads_less}
use Rattle.pg_views.proofs.laws.raised_views_read_less.Goals as goal

pub returns : goal.returns
returns c = record { raises = raises_views; positions = raised_reaches_less; less = raised_reads_less }
