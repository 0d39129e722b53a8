use Rattle.pg_axioms.proofs.AxiomsFew.{few_1, few_2, largest_1, largest_2, smallest_has}
use Rattle.pg_axioms.proofs.laws.axioms_are_counted.Goals as goal

pub returns : goal.returns
returns c = record { most_1 = few_1; most_2 = few_2; largest_1 = largest_1; largest_2 = largest_2; smallest = smallest_has }
