-- What a contract sees of an `Outline`, and of the parts that one is made of.
use Rattle.std.specs.Prelude.{◌≡◌, ℕ, ◌+◌, ◌-◌, ◌≤◌, List, [], length, map, All, slice_index_or}
use Rattle.pg_program.specs.Block.{block}
use Rattle.pg_program.specs.Graph.{size}
use Rattle.pg_program.specs.Program.{ProgramTable, IsProgram}
use Rattle.pg_assertion.specs.declared.atom.ViewAtom.{ViewAtom}
use Rattle.pg_assertion.specs.declared.atom.RawAtom.{RawAtom}
use Rattle.pg_assertion.specs.declared.atom.CrashAtom.{CrashAtom}
use Rattle.pg_assertion.specs.Formula.{Plain, bottom, nodes, AllAtoms, with_atoms}
use Rattle.pg_assertion.specs.Atom.{raw_of, RawDeclared, CrashDeclared}
use Rattle.pg_outline.specs.Limits.{most_nodes}

-- a program with its precondition, its crash formula, and the assertion of each point of each thread
pub record OutlineTable : Type 0 where
  pub program : ProgramTable
  pub pre : Plain ViewAtom
  pub crash : Plain CrashAtom
  pub notes : List (List (Plain ViewAtom))

-- the assertion at a point of a thread, which both are numbered from 1; `false`, which holds nowhere, at a point that is not there
abbrev pub note_at : OutlineTable → ℕ → ℕ → Plain ViewAtom
note_at o t k = slice_index_or (slice_index_or o.notes (t - 1) []) (k - 1) bottom

-- An outline as a text has it: the atoms of its assertions may speak of any values and threads.
pub record Draft : Type 0 where
  pub program : ProgramTable
  pub pre : Plain RawAtom
  pub crash : Plain CrashAtom
  pub notes : List (List (Plain RawAtom))

-- an outline as a text has it
abbrev pub draft_of : OutlineTable → Draft
draft_of o = record {
  program = o.program;
  pre = with_atoms raw_of o.pre;
  crash = o.crash;
  notes = map (map (with_atoms raw_of)) o.notes;
}

-- a formula of few nodes, each of whose atoms meets P
pub record IsSmall {T : Type 0} (P : T → Type 0) (f : Plain T) : Type 0 where
  pub atoms : AllAtoms P f
  pub few : nodes f ≤ most_nodes

-- What an outline may be made of: formulas over the declared names, and one for each point of the program.
pub record IsDraft (d : Draft) : Type 0 where
  pub program : IsProgram d.program
  pub pre : IsSmall (RawDeclared d.program.names) d.pre
  pub crash : IsSmall (CrashDeclared d.program.names) d.crash
  pub notes : All (All (IsSmall (RawDeclared d.program.names))) d.notes
  pub points : map length d.notes ≡ map (λ ss. size (block ss) + 1) d.program.threads
