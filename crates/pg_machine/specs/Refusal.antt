-- What a call may refuse: an event with a fault, or, without a fault, one that appends a message for which memory is wanting.
use Rattle.std.specs.Prelude.{◌≡◌, ℕ, ◌≤◌, ◌⊎◌, Result, IfErr, length}
use Rattle.pg_program.specs.Program.{ProgramTable}
use Rattle.pg_machine.specs.declared.event.Event.{Event}
use Rattle.pg_machine.specs.declared.fault.StepFault.{StepFault}
use Rattle.pg_machine.specs.declared.fault.StepFault.TheVariants.{NoMemory}
use Rattle.pg_machine.specs.Limits.{most_messages}
use Rattle.pg_machine.specs.State.{State}
use Rattle.pg_machine.specs.Step.{IsStep}

-- a refusal is one of these faults, or, where there is none, want of memory without a spare message
abbrev pub IsRefusal : (StepFault → Type 0) → ℕ → StepFault → Type 0
IsRefusal Faults spare fault = Faults fault ⊎ ((fault ≡ NoMemory) × (spare ≡ 0) × ((f : StepFault) → Faults f → ⊥))

-- an answer to an event that leads to a state within the limit of messages is no fault: where it refuses, memory was wanting
abbrev pub IsTaken : ProgramTable → State → Event → Result (Unit {0}) StepFault → Type 0
IsTaken p s e answer =
    (next : State) → IsStep p s e next → length next.memory.messages ≤ most_messages → IfErr answer (λ f. f ≡ NoMemory)
