-- The commands: what the words of the command line ask for, and the files that a command reads.
use Rattle.std.specs.Prelude.{ℕ, ◌≤◌, List, [], ◌∷◌, bytes_eq, codes, Option, None, Some, option_map, option_and_then, String, string_bytes, if◌then◌else◌}
use Rattle.std.specs.declared.alloc.Global.{Global}
use Rattle.pg_made.specs.Limits.{most_statements}
use Rattle.pg_judge.specs.Limits.{most_budget}
use Rattle.pg_app.specs.declared.command.Command as code
use Rattle.pg_app.specs.declared.command.Command.TheVariants as variant
use Rattle.pg_app.specs.declared.command.Work.{Work}
use Rattle.pg_app.specs.declared.command.Work.TheVariants as work
use Rattle.pg_app.specs.File.{File, outline_file, derivation_file, schedule_file}
use Rattle.pg_app.specs.Number.{number_up_to}

-- to judge the outline in the file of this name under a budget of nodes, to print its obligations, or to judge it and write its
-- derivation; to check a derivation in a second file, or to replay a schedule there; or to judge the made outline with so many
-- statements in each thread
pub data Command : Type 0 where
  check : (name : List ℕ) (budget : ℕ) → Command
  obligations : (name : List ℕ) → Command
  derive : (name : List ℕ) (budget : ℕ) → Command
  verify : (name derivation : List ℕ) → Command
  replay : (name schedule : List ℕ) → Command
  made : (statements budget : ℕ) → Command

-- ---- words

-- a NAME is any text that is not empty
abbrev pub name_in : List ℕ → Option (List ℕ)
name_in [] = None
name_in (b ∷ bs) = Some (b ∷ bs)

-- the BUDGET where none is given
abbrev pub default_budget : ℕ
default_budget = 100000

-- `[BUDGET]`
abbrev pub budget_in : List (String Global) → Option ℕ
budget_in [] = Some default_budget
budget_in (word ∷ []) = number_up_to most_budget (string_bytes word)
budget_in (word ∷ other ∷ more) = None

-- `NAME [BUDGET]`
abbrev pub name_and_budget : List (String Global) → Option (List ℕ × ℕ)
name_and_budget [] = None
name_and_budget (word ∷ rest) =
    option_and_then (λ name. option_map (λ budget. (name, budget)) (budget_in rest)) (name_in (string_bytes word))

-- `check NAME [BUDGET]`
abbrev pub check_of : List (String Global) → Option Command
check_of words = option_map (λ said. check said.0 said.1) (name_and_budget words)

-- `obligations NAME`
abbrev pub obligations_of : List (String Global) → Option Command
obligations_of [] = None
obligations_of (word ∷ []) = option_map obligations (name_in (string_bytes word))
obligations_of (word ∷ other ∷ more) = None

-- `derive NAME [BUDGET]`
abbrev pub derive_of : List (String Global) → Option Command
derive_of words = option_map (λ said. derive said.0 said.1) (name_and_budget words)

-- `NAME NAME`
abbrev pub two_names : List (String Global) → Option (List ℕ × List ℕ)
two_names [] = None
two_names (word ∷ []) = None
two_names (word ∷ other ∷ []) =
    option_and_then (λ name. option_map (λ second. (name, second)) (name_in (string_bytes other))) (name_in (string_bytes word))
two_names (word ∷ other ∷ third ∷ more) = None

-- `verify NAME NAME`
abbrev pub verify_of : List (String Global) → Option Command
verify_of words = option_map (λ said. verify said.0 said.1) (two_names words)

-- `replay NAME NAME`
abbrev pub replay_of : List (String Global) → Option Command
replay_of words = option_map (λ said. replay said.0 said.1) (two_names words)

-- `N [BUDGET]`
abbrev pub number_and_budget : List (String Global) → Option (ℕ × ℕ)
number_and_budget [] = None
number_and_budget (word ∷ rest) =
    option_and_then (λ n. option_map (λ budget. (n, budget)) (budget_in rest)) (number_up_to most_statements (string_bytes word))

-- `made N [BUDGET]`
abbrev pub made_of : List (String Global) → Option Command
made_of words = option_map (λ said. made said.0 said.1) (number_and_budget words)

-- the command that begins with this word
abbrev pub begun : List ℕ → List (String Global) → Option Command
begun word rest =
    if bytes_eq word (codes "check") then check_of rest
    else (if bytes_eq word (codes "obligations") then obligations_of rest
    else (if bytes_eq word (codes "derive") then derive_of rest
    else (if bytes_eq word (codes "verify") then verify_of rest
    else (if bytes_eq word (codes "replay") then replay_of rest
    else (if bytes_eq word (codes "made") then made_of rest else None)))))

-- what the words ask for, unless they have none of these shapes
abbrev pub command_of : List (String Global) → Option Command
command_of [] = None
command_of (word ∷ rest) = begun (string_bytes word) rest

-- work on the outline in the file of this name, as the code has it
abbrev pub asked_on : List ℕ → Work → Command
asked_on name (work.Check budget) = check name budget
asked_on name work.Obligations = obligations name
asked_on name (work.Derive budget) = derive name budget
asked_on name (work.Verify derivation) = verify name derivation.now
asked_on name (work.Replay schedule) = replay name schedule.now

-- and a command
abbrev pub asked : code.Command → Command
asked (variant.On name work) = asked_on name.now work
asked (variant.Made statements budget) = made statements budget

-- a budget that may be given
abbrev pub IsBudget : ℕ → Type 0
IsBudget budget = (1 ≤ budget) × (budget ≤ most_budget)

-- a number of statements that may be given
abbrev pub IsStatements : ℕ → Type 0
IsStatements n = (1 ≤ n) × (n ≤ most_statements)

-- the budget of work may be given
abbrev pub HasWorkBudget : Work → Type 0
HasWorkBudget (work.Check budget) = IsBudget budget
HasWorkBudget work.Obligations = Unit {0}
HasWorkBudget (work.Derive budget) = IsBudget budget
HasWorkBudget (work.Verify derivation) = Unit {0}
HasWorkBudget (work.Replay schedule) = Unit {0}

-- the numbers of a command may be given
abbrev pub HasBudget : code.Command → Type 0
HasBudget (variant.On name work) = HasWorkBudget work
HasBudget (variant.Made statements budget) = IsStatements statements × IsBudget budget

-- the words ask for a derivation
abbrev pub AsksForDerivation : Option Command → Type 0
AsksForDerivation None = ⊥
AsksForDerivation (Some (check name budget)) = ⊥
AsksForDerivation (Some (obligations name)) = ⊥
AsksForDerivation (Some (derive name budget)) = Unit {0}
AsksForDerivation (Some (verify name derivation)) = ⊥
AsksForDerivation (Some (replay name schedule)) = ⊥
AsksForDerivation (Some (made statements budget)) = ⊥

-- ---- files

-- the files that a command reads, in the order in which they are fetched
abbrev pub files_of : Command → List File
files_of (check name budget) = outline_file name ∷ []
files_of (obligations name) = outline_file name ∷ []
files_of (derive name budget) = outline_file name ∷ []
files_of (verify name derivation) = outline_file name ∷ derivation_file derivation ∷ []
files_of (replay name schedule) = outline_file name ∷ schedule_file schedule ∷ []
files_of (made statements budget) = []

abbrev pub files_for : Option Command → List File
files_for None = []
files_for (Some command) = files_of command

-- those of the words
abbrev pub files_in : List (String Global) → List File
files_in words = files_for (command_of words)
