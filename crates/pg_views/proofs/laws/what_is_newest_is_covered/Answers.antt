use Rattle.pg_views.proofs.Axioms.{newest_is_ordered, ordered_is_fenced}
use Rattle.pg_views.proofs.laws.what_is_newest_is_covered.Goals as goal

pub returns : goal.returns
returns c = record { ordered = newest_is_ordered; fenced = ordered_is_fenced }
