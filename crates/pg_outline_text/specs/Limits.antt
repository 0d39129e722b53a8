-- The limits of a text of an outline, and its version.
use Rattle.std.specs.Prelude.{ℕ, ◌+◌}
use Rattle.pg_program.specs.Limits.{most_locations_1, most_scalars}
use Rattle.pg_program.specs.Limits as names

-- the version that a text has
abbrev pub known_version : ℕ
known_version = 1

-- the most threads
abbrev pub most_threads : ℕ
most_threads = names.most_threads

-- the most declarations: so many names there is room for
abbrev pub most_declarations : ℕ
most_declarations = most_locations_1 + most_scalars

-- the turns of the declarations: one more, for the token after the last
abbrev pub declaration_turns : ℕ
declaration_turns = most_declarations + 1
