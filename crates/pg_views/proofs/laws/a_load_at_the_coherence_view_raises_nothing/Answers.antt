use Rattle.pg_views.proofs.Readable.{load_at_coherence}
use Rattle.pg_views.proofs.laws.a_load_at_the_coherence_view_raises_nothing.Goals as goal

pub returns : goal.returns
returns c = load_at_coherence
