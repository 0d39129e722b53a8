-- What a contract sees of the machine's own types: beside a memory or a state, for how many more messages there is room.
use Rattle.std.specs.Prelude.{ℕ}
use Rattle.pg_machine.specs.Memory.{Memory}
use Rattle.pg_machine.specs.State.{State}

pub record HeldMemory : Type 0 where
  pub memory : Memory
  pub spare : ℕ

pub record Held : Type 0 where
  pub state : State
  pub spare : ℕ
