-- What status 0 claims of the files of a command, and what a violation denies.
use Rattle.std.specs.Prelude.{ℕ, List, Option, IfSome}
use Rattle.pg_outline.specs.Outline.{OutlineTable}
use Rattle.pg_outline_text.specs.Text.{StandsFor}
use Rattle.pg_made.specs.Made.{made_outline}
use Rattle.pg_judge.specs.Laws.{IsProved}
use Rattle.pg_app.specs.File.{IsOutlineText}
use Rattle.pg_app.specs.Command.{Command, check, obligations, derive, verify, replay, made}
use Rattle.pg_app.specs.Answer.{Answers, Tells}

-- The bytes stand for an outline that is safe: in every execution of the machine, of any length and from any well-formed state in which
-- the precondition holds, each thread's assertion holds at its current point, and each memory that a crash may leave satisfies the
-- crash formula. There are executions: one begins in the fresh state.
pub record IsSafeText (bytes : List ℕ) : Type 0 where
  pub outline : OutlineTable
  pub stands : StandsFor bytes outline
  pub proved : IsProved outline

-- what status 0 claims, where the bytes of the files are told: of `check`, `derive` and `verify`, that the outline is safe; of
-- `obligations` and `replay`, that there is one; and of `made`, that the made outline is safe
abbrev pub Claims : Command → (List ℕ → Option (List ℕ)) → Type 0
Claims (check name budget) told = IfSome (told name) IsSafeText
Claims (obligations name) told = IfSome (told name) IsOutlineText
Claims (derive name budget) told = IfSome (told name) IsSafeText
Claims (verify name derivation) told = IfSome (told name) IsSafeText
Claims (replay name schedule) told = IfSome (told name) IsOutlineText
Claims (made statements budget) told = IsProved (made_outline statements)

-- Of an outline that the bytes stand for not every obligation follows, and `check` accepts the file under no budget.
pub record IsNeverAccepted (name : List ℕ) (told : List ℕ → Option (List ℕ)) : Type 0 where
  pub unproved : IfSome (told name) (λ bytes. (o : OutlineTable) → StandsFor bytes o → IsProved o → ⊥)
  pub unaccepted : (budget : ℕ) (text : List ℕ) → Answers (Tells told) (check name budget) 0 text → ⊥

-- what status 1 of `replay` denies, where the bytes of the files are told
abbrev pub Denies : Command → (List ℕ → Option (List ℕ)) → Type 0
Denies (check name budget) told = Unit {0}
Denies (obligations name) told = Unit {0}
Denies (derive name budget) told = Unit {0}
Denies (verify name derivation) told = Unit {0}
Denies (replay name schedule) told = IsNeverAccepted name told
Denies (made statements budget) told = Unit {0}
