-- The text of the obligations of an outline. Each has a line with its number and its kind, a line for each formula that is given,
-- and a line for its goal.
use Rattle.std.specs.Prelude.{ℕ, ◌+◌, List, [], ◌∷◌, ◌++◌, map, codes, decimal}
use Rattle.std.specs.List.{flat_map}
use Rattle.pg_program.specs.declared.point.Branch.{Branch}
use Rattle.pg_program.specs.declared.point.Branch.TheVariants.{Plain, Yes, No}
use Rattle.pg_program.specs.declared.point.Step.{Step}
use Rattle.pg_program.specs.NameTable.{NameTable}
use Rattle.pg_assertion.specs.declared.atom.ViewAtom.{ViewAtom}
use Rattle.pg_assertion.specs.declared.atom.CrashAtom.{CrashAtom}
use Rattle.pg_assertion.specs.Formula as formula
use Rattle.pg_assertion_text.specs.Spelling.{spell, spell_atom, spell_crash}
use Rattle.pg_outline.specs.Outline.{OutlineTable, note_at}
use Rattle.pg_obligations.specs.declared.obligation.Obligation.{Obligation}
use Rattle.pg_obligations.specs.declared.obligation.Obligation.TheVariants.{Fresh, Entry, EntryCrash, Local, Crash, Interfere}
use Rattle.pg_obligations.specs.Obligations.{obligations}
use Rattle.pg_obligations.specs.Follow.{fresh_values}

-- ---- kinds

abbrev pub point_text : ℕ → ℕ → List ℕ
point_text t k = decimal t ++ (codes "." ++ decimal k)

-- `t` for the step that a test takes where it holds, and `f` for the other one
abbrev pub branch_text : Branch → List ℕ
branch_text Plain = []
branch_text Yes = codes "t"
branch_text No = codes "f"

-- a step is named by its point
abbrev pub step_text : Step → List ℕ
step_text s = point_text s.thread s.point ++ branch_text s.branch

abbrev pub obligation_kind : Obligation → List ℕ
obligation_kind Fresh = codes "fresh"
obligation_kind (Entry t) = codes "entry " ++ decimal t
obligation_kind EntryCrash = codes "entry crash"
obligation_kind (Local s) = codes "local " ++ step_text s
obligation_kind (Crash s) = codes "crash " ++ step_text s
obligation_kind (Interfere s at) = codes "interfere " ++ (step_text s ++ (codes " on " ++ point_text at.thread at.point))

-- ---- givens and goal

-- an assertion, or the crash formula as the outline has it, before its expansion
pub data Statement : Type 0 where
  assertion : formula.Plain ViewAtom → Statement
  crash : formula.Plain CrashAtom → Statement

-- what is given before the step, if there is one
abbrev pub givens : OutlineTable → Obligation → List Statement
givens o Fresh = map assertion (fresh_values o.program)
givens o (Entry t) = assertion o.pre ∷ []
givens o EntryCrash = assertion o.pre ∷ []
givens o (Local s) = assertion (note_at o s.thread s.point) ∷ crash o.crash ∷ []
givens o (Crash s) = assertion (note_at o s.thread s.point) ∷ crash o.crash ∷ []
givens o (Interfere s at) = assertion (note_at o s.thread s.point) ∷ assertion (note_at o at.thread at.point) ∷ crash o.crash ∷ []

-- what is to be shown, after the step if there is one
abbrev pub goal : OutlineTable → Obligation → Statement
goal o Fresh = assertion o.pre
goal o (Entry t) = assertion (note_at o t 1)
goal o EntryCrash = crash o.crash
goal o (Local s) = assertion (note_at o s.thread s.target)
goal o (Crash s) = crash o.crash
goal o (Interfere s at) = assertion (note_at o at.thread at.point)

-- ---- lines

abbrev pub assertion_text : NameTable → formula.Plain ViewAtom → List ℕ
assertion_text names f = spell (spell_atom names) f ++ codes "\n"

abbrev pub crash_text : NameTable → formula.Plain CrashAtom → List ℕ
crash_text names f = codes "crash " ++ (spell (spell_crash names) f ++ codes "\n")

abbrev pub statement_text : NameTable → Statement → List ℕ
statement_text names (assertion f) = assertion_text names f
statement_text names (crash f) = crash_text names f

abbrev pub given_line : NameTable → Statement → List ℕ
given_line names s = codes "given " ++ statement_text names s

abbrev pub goal_line : NameTable → Statement → List ℕ
goal_line names s = codes "goal " ++ statement_text names s

abbrev pub heading : ℕ → Obligation → List ℕ
heading i ob = decimal i ++ (codes " " ++ (obligation_kind ob ++ codes "\n"))

-- the lines of obligation i
abbrev pub obligation_text : OutlineTable → ℕ → Obligation → List ℕ
obligation_text o i ob =
    heading i ob ++ (flat_map (given_line o.program.names) (givens o ob) ++ goal_line o.program.names (goal o ob))

-- those of these obligations, numbered from i on
abbrev pub numbered_text : OutlineTable → ℕ → List Obligation → List ℕ
numbered_text o i [] = []
numbered_text o i (ob ∷ obs) = obligation_text o i ob ++ numbered_text o (i + 1) obs

-- and those of all
abbrev pub obligations_text : OutlineTable → List ℕ
obligations_text o = numbered_text o 1 (obligations o.program)
