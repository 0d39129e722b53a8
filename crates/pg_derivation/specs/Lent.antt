-- What a line of a tree says, as it is lent.
use Rattle.pg_derivation.specs.declared.derivation.DocNode.{DocNode}
use Rattle.pg_derivation.specs.declared.derivation.DocNode.TheVariants as lent
use Rattle.pg_derivation.specs.Derivation.{Node, split, leaf}

abbrev pub node_of : DocNode → Node
node_of (lent.Split l) = split l
node_of (lent.Leaf ns) = leaf ns.now
