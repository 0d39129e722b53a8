-- The parts of a step, as the code takes them: what each part finds, and what it leaves.
use Rattle.std.specs.Prelude.{◌≡◌, ℕ, ◌<◌, Bool, true, false, List, Option, All}
use Rattle.pg_program.specs.declared.syntax.Stmt.{Stmt}
use Rattle.pg_program.specs.declared.syntax.Act.{Act}
use Rattle.pg_program.specs.declared.syntax.Act.TheOpen.{Act-F, Load, Store, Cas}
use Rattle.pg_machine.specs.State.{Views}
use Rattle.pg_machine.specs.Moves.{Seen}
use Rattle.pg_machine.specs.Step.{Left, Row, act_of, bracket_of, bracket_done}
use Rattle.pg_machine.specs.Held.{HeldMemory}

-- a memory, and the views of a thread that acts on it
abbrev pub seen_in : HeldMemory → Views → Seen
seen_in m w = record { memory = m.memory; views = w }

-- each value of the memory is below d
pub record AreBelow (d : ℕ) (m : HeldMemory) : Type 0 where
  pub initial : All (λ v. v < d) m.memory.initial
  pub messages : All (λ s. s.1 < d) m.memory.messages

-- the acts that read or write a location
abbrev pub needs_memory : Act-F Act Stmt → Bool
needs_memory (Load q x) = true
needs_memory (Store x e) = true
needs_memory (Cas q x e f) = true
needs_memory act = false

-- what a statement leaves: its act leaves what its row says, and then its bracket takes effect
pub record Does (d : ℕ) (n : Seen) (r : List ℕ) (stmt : Stmt) (choice : Option ℕ) (after : Left) : Type 0 where
  pub left : Left
  pub row : Row d n r (act_of stmt) choice left
  pub becomes : after ≡ record left { scalars = bracket_done d (bracket_of stmt) left.scalars }
