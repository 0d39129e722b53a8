use Rattle.std.proofs.Common.{◌≡◌, ◌++◌, take}
use Rattle.pg_derivation.specs.Derivation.{nodes_of}
use Rattle.pg_derivation.specs.Text.{nodes_text}
use Rattle.pg_derivation.proofs.print.append_tree.Given as goal

abbrev pub invariant-loop-k : goal.invariant-loop-k
invariant-loop-k l = l.text.items ≡ l.initial.text.items ++ nodes_text (take l.k (nodes_of l.tree))
