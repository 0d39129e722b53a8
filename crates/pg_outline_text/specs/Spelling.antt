-- The canonical text of an outline: one item on each line, the version, the domain, the locations and the scalars in their order,
-- the precondition and the crash formula unless they are `true`, and then the threads.
use Rattle.std.specs.Prelude.{ℕ, ◌+◌, Bool, true, false, if◌then◌else◌, List, [], ◌∷◌, ◌++◌, codes, decimal, drop}
use Rattle.std.specs.List.{flat_map}
use Rattle.pg_program.specs.declared.name_table.ScalarKind.{ScalarKind}
use Rattle.pg_program.specs.declared.name_table.ScalarKind.TheVariants.{Register, Auxiliary}
use Rattle.pg_program.specs.declared.syntax.Stmt.{Stmt}
use Rattle.pg_program.specs.NameTable.{NameTable, Location}
use Rattle.pg_assertion.specs.declared.atom.ViewAtom.{ViewAtom}
use Rattle.pg_assertion.specs.Formula.{Plain, top, bottom, atom, neg, both, either, implies}
use Rattle.pg_assertion_text.specs.Spelling.{spell, spell_atom, spell_crash}
use Rattle.pg_program_text.specs.Spelling.{spell_thread}
use Rattle.pg_outline.specs.Outline.{OutlineTable}

-- ---- names

-- the line of a location, by its name and its initial value
unfoldable pub location_line : List ℕ → ℕ → List ℕ
location_line name init = codes "location " ++ (name ++ (codes " = " ++ (decimal init ++ codes ";\n")))

abbrev pub location_lines : List Location → List ℕ
location_lines ls = flat_map (λ l. location_line l.name l.init) ls

abbrev pub scalar_line : List ℕ × ScalarKind → List ℕ
scalar_line (name, Register owner) = codes "register " ++ (name ++ (codes " of " ++ (decimal owner ++ codes ";\n")))
scalar_line (name, Auxiliary) = codes "auxiliary " ++ (name ++ codes ";\n")

-- ---- formulas

abbrev pub is_top : {T : Type 0} → Plain T → Bool
is_top top = true
is_top bottom = false
is_top (atom a) = false
is_top (neg f) = false
is_top (both f g) = false
is_top (either f g) = false
is_top (implies f g) = false

-- a formula on a line of its own, behind its word; none for `true`
unfoldable pub given_line : {T : Type 0} → List ℕ → (T → List ℕ) → Plain T → List ℕ
given_line word of_atom f = if is_top f then [] else word ++ (spell of_atom f ++ codes ";\n")

-- ---- threads

abbrev pub thread_lines : NameTable → ℕ → List Stmt → List (Plain ViewAtom) → List ℕ
thread_lines names k ss notes = codes "thread " ++ (decimal k ++ (codes " {\n" ++ (spell_thread names ss notes ++ codes "}\n")))

-- the notes of the first thread
abbrev pub first_notes : List (List (Plain ViewAtom)) → List (Plain ViewAtom)
first_notes [] = []
first_notes (ns ∷ more) = ns

-- the threads from thread k on, with the notes of each
abbrev pub threads_lines : NameTable → ℕ → List (List Stmt) → List (List (Plain ViewAtom)) → List ℕ
threads_lines names k [] notes = []
threads_lines names k (ss ∷ threads) notes = thread_lines names k ss (first_notes notes) ++ threads_lines names (k + 1) threads (drop 1 notes)

-- ---- outlines

unfoldable pub version_line : List ℕ
version_line = codes "pierogi 1;\n"

unfoldable pub domain_line : ℕ → List ℕ
domain_line size = codes "values " ++ (decimal size ++ codes ";\n")

unfoldable pub head_lines : NameTable → List ℕ
head_lines names = version_line ++ (domain_line names.domain ++ (location_lines names.locations ++ flat_map scalar_line names.scalars))

unfoldable pub spell_outline : OutlineTable → List ℕ
spell_outline o =
    head_lines o.program.names
    ++ (given_line (codes "pre ") (spell_atom o.program.names) o.pre
    ++ (given_line (codes "crash ") (spell_crash o.program.names) o.crash
    ++ threads_lines o.program.names 1 o.program.threads o.notes))
