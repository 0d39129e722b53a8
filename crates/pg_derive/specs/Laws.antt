-- What holds of derivations and of what they are answered.
use Rattle.std.specs.Prelude.{◌≡◌, ℕ, ◌≤◌, List, Result, Ok, Err, length}
use Rattle.pg_program.specs.Limits.{most_scalars}
use Rattle.pg_program.specs.NameTable.{IsNameTable}
use Rattle.pg_derivation.specs.Derivation.{Node, DerivationTable, trees_of}
use Rattle.pg_derivation.specs.Fault.{derivation_of}
use Rattle.pg_derivation.specs.Text.{text_of}
use Rattle.pg_outline.specs.Outline.{OutlineTable}
use Rattle.pg_outline.specs.Made.{IsOutline}
use Rattle.pg_judge.specs.Outcome.{obligation_count, accepted}
use Rattle.pg_judge.specs.Laws.{IsProved}
use Rattle.pg_derive.specs.declared.fault.VerifyFault.{VerifyFault}
use Rattle.pg_derive.specs.declared.fault.VerifyFault.TheVariants.{NoMemory}
use Rattle.pg_derive.specs.Derived.{IsDerivation}
use Rattle.pg_derive.specs.Verified.{IsVerified, IsAnswer}

-- A derivation has at most one answer but for want of memory.
abbrev pub AnswerIsUnique : Type 0
AnswerIsUnique =
    (o : OutlineTable) (d : DerivationTable) (a b : Result ℕ VerifyFault) → IsAnswer o d a → IsAnswer o d b → (a ≡ Err NoMemory → ⊥) → (b ≡ Err NoMemory → ⊥)
    → a ≡ b

-- Where a derivation is verified each obligation follows, by its tree alone; so the outline is safe, and it has executions.
abbrev pub VerifiedIsProved : Type 0
VerifiedIsProved =
    (o : OutlineTable) (d : DerivationTable) (n : ℕ) → IsOutline o → length o.program.names.scalars ≤ most_scalars → IsVerified o d n → IsProved o

-- What is derived of an outline that is accepted spells trees. They are found in it again, and every derivation with these trees is
-- verified.
pub record SpellsVerified (o : OutlineTable) (text : List ℕ) (count : ℕ) : Type 0 where
  pub trees : List (List Node)
  pub spelled : text ≡ text_of trees
  pub found : derivation_of text ≡ Ok trees
  pub verified : (d : DerivationTable) → trees_of d ≡ trees → IsVerified o d count

abbrev pub DerivedIsVerified : Type 0
DerivedIsVerified =
    (o : OutlineTable) (count nodes : ℕ) (text : List ℕ) → IsOutline o → IsNameTable o.program.names → count ≡ obligation_count o → IsDerivation o (accepted count nodes) text
    → SpellsVerified o text count
