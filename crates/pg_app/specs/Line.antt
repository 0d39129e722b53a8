-- The lines that are no report's.
use Rattle.std.specs.Prelude.{ℕ, List, ◌++◌, codes}

-- the words are not a command
abbrev pub usage : List ℕ
usage = codes "usage: check NAME [BUDGET] | obligations NAME | derive NAME [BUDGET] | verify NAME NAME | replay NAME NAME | made N [BUDGET]\n"

-- the file of this name is longer than its limit
abbrev pub too_long : List ℕ → List ℕ
too_long name = codes "too long " ++ name ++ codes "\n"
