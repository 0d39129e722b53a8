use Rattle.std.proofs.Common.{◌≡◌, length}
use Rattle.std.specs.Prelude.{option_map}
use Rattle.pg_assertion.specs.Formula.{plain}
use Rattle.pg_assertion.specs.Expansion.{joined_all}
use Rattle.pg_assertion.proofs.ExpansionTerms.{terms_below}
use Rattle.pg_assertion.proofs.expansion.+join_terms.Given as goal

abbrev pub decreases-join_terms : goal.decreases-join_terms
decreases-join_terms l = length l.others.now

-- the choice is as it was, and the terms of the values so far are joined
abbrev pub invariant-loop-v : goal.invariant-loop-v
invariant-loop-v l =
    record {
      kept : l.chosen.items ≡ l.fn.chosen.items;
      all : option_map plain l.whole ≡ joined_all (option_map plain l.fn.whole) (terms_below l.domain l.v l.x l.rest l.fn.chosen.items (plain l.f));
    }
