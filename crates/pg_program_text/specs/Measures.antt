-- What the limits of a text are compared with: how much a spelling has of each, and how deep it goes.
use Rattle.std.specs.Prelude.{ℕ, ◌+◌, ◌<◌, ◌^◌, max, if◌then◌else◌}
use Rattle.pg_program.specs.Block.{Block, done, node}
use Rattle.pg_program.specs.Graph.{is_test}
use Rattle.pg_assertion_text.specs.Spelling.{bracket}
use Rattle.pg_program_text.specs.Spelling.{Tree, number, name, sum, difference, product, is_sum, is_binary}

-- how many brackets are open at once in the spelling
unfoldable pub opens : Tree → ℕ
opens (number v) = 0
opens (name r) = 0
opens (sum a b) = max (opens a) (bracket (is_sum b) + opens b)
opens (difference a b) = max (opens a) (bracket (is_sum b) + opens b)
opens (product a b) = max (bracket (is_sum a) + opens a) (bracket (is_binary b) + opens b)

-- the numbers, names and signs
unfoldable pub nodes : Tree → ℕ
nodes (number v) = 1
nodes (name r) = 1
nodes (sum a b) = 1 + (nodes a + nodes b)
nodes (difference a b) = 1 + (nodes a + nodes b)
nodes (product a b) = 1 + (nodes a + nodes b)

-- the numbers can be read
unfoldable pub NumbersFit : Tree → Type 0
NumbersFit (number v) = v < 2 ^ 32
NumbersFit (name r) = Unit {0}
NumbersFit (sum a b) = NumbersFit a × NumbersFit b
NumbersFit (difference a b) = NumbersFit a × NumbersFit b
NumbersFit (product a b) = NumbersFit a × NumbersFit b

-- how many blocks of branches and loops are open at once
unfoldable pub nesting : Block → ℕ
nesting done = 0
nesting (node s a b rest) = max (if is_test s then 1 + max (nesting a) (nesting b) else 0) (nesting rest)
