-- What was read may be made a program, and then an outline.
use Rattle.std.specs.Prelude.{◌≡◌, ◌+◌, length, map, All}
use Rattle.pg_program.specs.Block.{block}
use Rattle.pg_program.specs.Graph.{size}
use Rattle.pg_program.specs.Program.{AreThreads}
use Rattle.pg_assertion.specs.Atom.{RawDeclared, CrashDeclared}
use Rattle.pg_outline.specs.Outline.{IsSmall}
use Rattle.pg_outline_text.specs.Source.{Source, program_of, draft}

-- threads over the names, formulas over the names, and a note for each point
pub record IsReady (s : Source) : Type 0 where
  pub threads : AreThreads s.names (program_of s).threads
  pub pre : IsSmall (RawDeclared s.names) s.pre
  pub crash : IsSmall (CrashDeclared s.names) s.crash
  pub notes : All (All (IsSmall (RawDeclared s.names))) (draft s).notes
  pub points : map length (draft s).notes ≡ map (λ ss. size (block ss) + 1) (program_of s).threads
