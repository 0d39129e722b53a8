-- The text of the judgement of a made outline: how many statements each of its threads has, the lines of the judgement, and, where it is
-- accepted, how many nodes were visited.
use Rattle.std.specs.Prelude.{ℕ, List, [], ◌++◌, codes, decimal}
use Rattle.pg_outline.specs.Outline.{OutlineTable}
use Rattle.pg_judge.specs.Outcome.{Outcome, accepted, rejected, spent}
use Rattle.pg_report.specs.Judged.{judgement_text}

abbrev pub nodes_line : Outcome → List ℕ
nodes_line (accepted count nodes) = codes "nodes " ++ (decimal nodes ++ codes "\n")
nodes_line (rejected i truths) = []
nodes_line (spent i) = []

abbrev pub made_text : ℕ → OutlineTable → Outcome → List ℕ
made_text n o outcome = codes "made " ++ (decimal n ++ (codes "\n" ++ (judgement_text o outcome ++ nodes_line outcome)))
