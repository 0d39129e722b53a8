-- A derivation, and the text of its judgement put behind it, are the answer to their outline.
use Rattle.std.proofs.Common.{◌≡◌, ℕ, ◌≤◌, ◌⊎◌, inl, inr, Bool, Vec, List, [], ◌++◌, length, Option, refl, sym, subst}
use Rattle.std.specs.declared.alloc.Global.{Global}
use Rattle.pg_io.specs.Counts.{Rose}
use Rattle.pg_outline.specs.Outline.{OutlineTable}
use Rattle.pg_outline.specs.Made.{IsOutline}
use Rattle.pg_program.specs.Limits.{most_scalars}
use Rattle.pg_judge.specs.declared.judgement.Judgement.{Judgement}
use Rattle.pg_judge.specs.declared.judgement.Judgement.TheVariants.{Rejected, Spent}
use Rattle.pg_judge.specs.Outcome.{Outcome, IsOutcome, outcome_of}
use Rattle.pg_judge.specs.Laws.{OutcomeIsTrue, Says}
use Rattle.pg_derive.specs.Puts.{PutsText, PutsPart}
use Rattle.pg_derive.specs.Derived.{IsDerivation, IsDerivationUnder}
use Rattle.pg_report.specs.Judged.{judgement_text}
use Rattle.pg_app.specs.Answer.{IsJudged, IsDerived, rest_of, status_of}
use Rattle.pg_app.specs.Put.{IsPart, Puts}
use Rattle.pg_app.proofs.Behind.{appended_nothing, part_front, behind_puts}

-- nothing is put behind the derivation of an outline that is accepted
pub nothing_puts : (o : Option (List ℕ)) (before now : ℕ) → Puts (λ due text. (due ≡ 0) × (text ≡ [])) 0 o o before now
nothing_puts o before now = inl (record { text = []; due = (refl, refl); written = sym (appended_nothing o) })

-- and behind that of another the text of its judgement
told_behind : (o : OutlineTable) (j : Judgement) → ((i : ℕ) × (truths : Vec Bool Global) × (j ≡ Rejected i truths)) ⊎ ((i : ℕ) × (j ≡ Spent i))
    → rest_of o (outcome_of j) ≡ judgement_text o (outcome_of j)
told_behind o j (inl is) = rw is.2 refl
told_behind o j (inr is) = rw is.1 refl

pub judgement_puts : {status : ℕ} {old new : Option (List ℕ)} {before now : ℕ} (o : OutlineTable) (j : Judgement)
    → ((i : ℕ) × (truths : Vec Bool Global) × (j ≡ Rejected i truths)) ⊎ ((i : ℕ) × (j ≡ Spent i))
    → Puts (λ due text. (due ≡ status_of (outcome_of j)) × (text ≡ judgement_text o (outcome_of j))) status old new before now
    → Puts (λ due text. (due ≡ status_of (outcome_of j)) × (text ≡ rest_of o (outcome_of j))) status old new before now
judgement_puts {status} {old} {new} {before} {now} o j is puts =
    subst (λ (rest : List ℕ). Puts (λ due text. (due ≡ status_of (outcome_of j)) × (text ≡ rest)) status old new before now) (sym (told_behind o j is)) puts

-- ---- a derivation

module _ (o : OutlineTable) (budget : ℕ) where
  derived : (a : Outcome) (s : ℕ) (derivation : List ℕ) → IsOutcome o budget a → Says o a → IsDerivation o a derivation → s ≡ status_of a → IsJudged IsDerived budget o s (derivation ++ rest_of o a)
  derived a s derivation is says spells status_is =
      record { outcome = a; is = is; says = says; status_is = status_is; text_is = record { derivation = derivation; is = spells; spelled = refl } }

  -- and what is put behind it
  pub derived_puts : {old mid new : Option (List ℕ)} {before between now : ℕ} (a : Outcome) (status : ℕ) → IsOutcome o budget a → Says o a → PutsText (IsDerivation o a) old mid → before ≤ between
      → Puts (λ due text. (due ≡ status_of a) × (text ≡ rest_of o a)) status mid new between now → Puts (IsJudged IsDerived budget o) status old new before now
  derived_puts a status is says put le puts =
      behind_puts put.text (rest_of o a) (status_of a) (derived a (status_of a) put.text is says put.is refl) put.written status le puts

  -- where nothing is put behind it, as it could not be written
  module _ (true_ : OutcomeIsTrue) (made : IsOutline o) (few : length o.program.names.scalars ≤ most_scalars) (old new : Option (List ℕ)) (before now : ℕ) where
    front_part : PutsPart (IsDerivationUnder o budget) old new → IsPart (IsJudged IsDerived budget o) old new
    front_part put =
        let under = put.is in
        let a = under.outcome in
        record {
          status = status_of a;
          text = put.text ++ rest_of o a;
          due = derived a (status_of a) put.text under.is (true_ o budget a made few under.is) under.derivation refl;
          written = part_front old new put.text (rest_of o a) put.part;
        }

    pub unwritten_puts : PutsPart (IsDerivationUnder o budget) old new × Rose before now → Puts (IsJudged IsDerived budget o) 7 old new before now
    unwritten_puts put = inr (inl (record { status_is = refl; rose = put.1; part = front_part put.0 }))

    pub memoryless_puts : PutsPart (IsDerivationUnder o budget) old new → Puts (IsJudged IsDerived budget o) 9 old new before now
    memoryless_puts put = inr (inr (record { status_is = refl; part = inr (front_part put) }))
