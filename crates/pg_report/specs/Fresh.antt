-- What is given of the fresh state, line by line, as the code goes through it.
use Rattle.std.specs.Prelude.{ℕ, ◌==◌, not, if◌then◌else◌, List, [], ◌++◌, length, slice_index}
use Rattle.std.specs.List.{flat_map, range_with_len}
use Rattle.pg_program.specs.NameTable.{NameTable, initial}
use Rattle.pg_program.specs.Program.{ProgramTable}
use Rattle.pg_assertion.specs.declared.atom.ViewAtom.{ViewAtom}
use Rattle.pg_assertion.specs.declared.atom.ViewAtom.TheVariants.{Scalar, Last, Persist, Newest}
use Rattle.pg_assertion.specs.Formula.{atom, neg}
use Rattle.pg_report.specs.Obligations.{assertion, given_line}

-- that an atom is true, and that it is not
abbrev pub true_line : NameTable → ViewAtom → List ℕ
true_line names a = given_line names (assertion (atom a))

abbrev pub false_line : NameTable → ViewAtom → List ℕ
false_line names a = given_line names (assertion (neg (atom a)))

abbrev pub scalar_lines : NameTable → List ℕ
scalar_lines names = flat_map (λ r. true_line names (Scalar r 0)) (range_with_len 0 (length names.scalars))

abbrev pub last_lines : NameTable → List ℕ
last_lines names = flat_map (λ x. true_line names (Last x (slice_index (initial names) x))) (range_with_len 0 (length names.locations))

-- each location for thread t, and for all threads
abbrev pub own_newest_lines : NameTable → ℕ → List ℕ
own_newest_lines names t = flat_map (λ x. true_line names (Newest t x)) (range_with_len 0 (length names.locations))

abbrev pub newest_lines : ProgramTable → List ℕ
newest_lines p = flat_map (own_newest_lines p.names) (range_with_len 1 (length p.threads))

-- one value of location x, unless that is its first one; each of its values; and those of all locations
abbrev pub absent_line : NameTable → ℕ → ℕ → List ℕ
absent_line names x v = if not (v == slice_index (initial names) x) then false_line names (Persist x v) else []

abbrev pub absent_lines_of : NameTable → ℕ → List ℕ
absent_lines_of names x = flat_map (absent_line names x) (range_with_len 0 names.domain)

abbrev pub absent_lines : NameTable → List ℕ
absent_lines names = flat_map (absent_lines_of names) (range_with_len 0 (length names.locations))

abbrev pub fresh_lines : ProgramTable → List ℕ
fresh_lines p = scalar_lines p.names ++ (last_lines p.names ++ (newest_lines p ++ absent_lines p.names))
