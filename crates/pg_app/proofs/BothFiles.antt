-- Answers on two files: the second is fetched where the first is passed, and the counts go on from there.
use Rattle.std.proofs.Common.{◌≡◌, ℕ, ◌+◌, ◌≤◌, ◌⊎◌, inl, inr, List, [], ◌∷◌, Option, IfSome, IsSome, subst, arith}
use Rattle.std.proofs.lemmas.List.Elements.{All-head, All-tail}
use Rattle.pg_io.specs.Counts.{RoseBy}
use Rattle.pg_io.specs.Told.{IsTold, IsTooLong}
use Rattle.pg_outline.specs.Outline.{OutlineTable}
use Rattle.pg_outline_text.specs.Text.{StandsFor}
use Rattle.pg_app.specs.File.{File, outline_file, limit}
use Rattle.pg_app.specs.Answer.{Found, whole, longer, AsOutline, OnFile, OnBoth, Tells}
use Rattle.pg_app.specs.Put.{Puts}
use Rattle.pg_app.specs.Run.{AreTold, IsPassed, IsUnfetched, Reached, Fetches}
use Rattle.pg_app.specs.Stops.{IsFetched, EndsOn}
use Rattle.pg_app.proofs.Puts.{puts_map}
use Rattle.pg_app.proofs.Files.{on_file_map, fetched_told, told_so}
use Rattle.pg_app.proofs.Statuses.{TakesLow}

-- ---- the end of a call

-- what a later fetch finds is found by the call
later_finds : (told later : List ℕ → Option (List ℕ)) (taken between taken_now : ℕ) (file : File) → later file.name ≡ told file.name → taken ≤ between → (found : Found)
    → Fetches later between taken_now file found → Fetches told taken taken_now file found
later_finds told later taken between taken_now file same le (whole bytes) finds = (subst (λ (o : Option (List ℕ)). IsTold o bytes) same finds.0, finds.1)
later_finds told later taken between taken_now file same le longer finds =
    let rose = finds.1 in (subst (λ (o : Option (List ℕ)). IsTooLong o (limit file)) same finds.0, omega (arith, le, rose))

-- a file that was fetched as an outline is passed
passed : (told : List ℕ → Option (List ℕ)) (taken taken_now : ℕ) (name : List ℕ) (o : OutlineTable) → IsFetched told taken taken_now (outline_file name) o
    → IfSome (told name) (IsPassed (outline_file name))
passed told taken taken_now name o fetched =
    told_so (IsPassed (outline_file name)) (told name) fetched.bytes fetched.finds.0 (record { within = fetched.finds.1; is = record { outline = o; stands = fetched.stands } })

module _ {told : List ℕ → Option (List ℕ)} (later : List ℕ → Option (List ℕ)) {taken between taken_now status : ℕ} {old new : Option (List ℕ)} {before now : ℕ}
    (name : List ℕ) (second : File) (Takes : OutlineTable → List ℕ → ℕ → List ℕ → Type 0) (o : OutlineTable) (same : later second.name ≡ told second.name) (le : taken ≤ between)
    (fetched : IsFetched told taken between (outline_file name) o) where
  -- what was put of the second file is the answer on both
  second_puts : Puts (OnFile (Fetches later between taken_now) second (Takes o)) status old new before now → Puts (OnBoth (Fetches told taken taken_now) name second Takes) status old new before now
  second_puts puts =
      puts_map (OnFile (Fetches later between taken_now) second (Takes o)) (OnBoth (Fetches told taken taken_now) name second Takes)
      (λ s text answers.
      inr (record {
        bytes = fetched.bytes;
        finds = fetched.finds;
        answers = inr (record {
          outline = o;
          stands = fetched.stands;
          work =
              on_file_map (Fetches later between taken_now) (Fetches told taken taken_now) second (Takes o) (Takes o)
              (later_finds told later taken between taken_now second same le) (λ bytes n line takes. takes) s text answers;
        });
      }))
      status old new before now puts

  -- the second file ends the call; `mid` is its count of faults when it is fetched
  pub both_end : {faults faults_now : List ℕ → ℕ} (mid : ℕ) → faults second.name ≤ mid
      → EndsOn (Takes o) later second mid (faults_now second.name) between taken_now status old new before now
      → Puts (OnBoth (Fetches told taken taken_now) name second Takes) status old new before now
      ⊎ IsUnfetched told (outline_file name ∷ second ∷ []) faults faults_now status old new
  both_end mid grown ends =
      elim ends.how [
        | inl puts ↦ inl (second_puts puts)
        | inr failed ↦ inr (record {
          status_is = failed.status_is;
          rose = let rose = failed.rose in inr (passed told taken between name o fetched, inl (omega (arith, grown, rose)));
          kept = failed.kept;
        })
      ]

-- ---- what is due

module _ (told : List ℕ → Option (List ℕ)) (taken taken_now : ℕ) (name : List ℕ) (second : File) (Takes : OutlineTable → List ℕ → ℕ → List ℕ → Type 0) where
  -- it is defined, where the bytes of both files are told
  told_beside : (bytes : List ℕ) (n : ℕ) (line : List ℕ) → IsSome (told second.name) → AsOutline (λ o. OnFile (Fetches told taken taken_now) second (Takes o)) bytes n line
      → AsOutline (λ o. OnFile (Tells told) second (Takes o)) bytes n line
  told_beside bytes n line some (inl refusal) = inl refusal
  told_beside bytes n line some (inr done) = inr (record {
    outline = done.outline;
    stands = done.stands;
    work =
        on_file_map (Fetches told taken taken_now) (Tells told) second (Takes done.outline) (Takes done.outline) (fetched_told told taken taken_now second some)
        (λ all m rest takes. takes) n line done.work;
  })

  pub on_both_defined : (s : ℕ) (text : List ℕ) → AreTold (outline_file name ∷ second ∷ []) told → OnBoth (Fetches told taken taken_now) name second Takes s text
      → OnBoth (Tells told) name second Takes s text
  on_both_defined s text known due =
      let first_some = All-head (λ (f : File). IsSome (told f.name)) (outline_file name) (second ∷ []) known in
      let second_some = All-head (λ (f : File). IsSome (told f.name)) second [] (All-tail (λ (f : File). IsSome (told f.name)) (outline_file name) (second ∷ []) known) in
      on_file_map (Fetches told taken taken_now) (Tells told) (outline_file name) (AsOutline (λ o. OnFile (Fetches told taken taken_now) second (Takes o)))
      (AsOutline (λ o. OnFile (Tells told) second (Takes o))) (fetched_told told taken taken_now (outline_file name) first_some)
      (λ bytes n line answers. told_beside bytes n line second_some answers) s text due

  -- a file is too long: the first, or the second behind it
  pub on_both_long : ((o : OutlineTable) → TakesLow (Takes o)) → (s : ℕ) (text : List ℕ) → OnBoth (Fetches told taken taken_now) name second Takes s text → s ≡ 10
      → Reached told (outline_file name ∷ second ∷ []) (λ f. RoseBy (limit f + 1) taken taken_now)
  on_both_long low s text (inl long) is = inl long.finds.1
  on_both_long low s text (inr read) is =
      elim read.answers [
        | inl refusal ↦ let e = refusal.status_is in absurd (omega (arith, e, is))
        | inr done ↦ elim done.work [
          | inl long ↦ inr (passed told taken taken_now name done.outline (record { bytes = read.bytes; finds = read.finds; stands = done.stands }), inl long.finds.1)
          | inr beside ↦ let small = low done.outline beside.bytes s text beside.answers in absurd (omega (arith, small, is))
        ]
      ]

  -- what work with one of these statuses says of the outline holds of the bytes that are told
  pub on_both_says : (Is : ℕ → Type 0) → (Is 3 → ⊥) → (Is 10 → ⊥) → (P : List ℕ → Type 0)
      → ((bytes : List ℕ) (o : OutlineTable) (all : List ℕ) (s : ℕ) (text : List ℕ) → StandsFor bytes o → Takes o all s text → Is s → P bytes) → (s : ℕ) (text : List ℕ)
      → OnBoth (Fetches told taken taken_now) name second Takes s text → Is s → IfSome (told name) P
  on_both_says Is not_refused not_long P says s text (inl long) is = absurd (not_long (rw long.status_is at is))
  on_both_says Is not_refused not_long P says s text (inr read) is =
      elim read.answers [
        | inl refusal ↦ absurd (not_refused (rw refusal.status_is at is))
        | inr done ↦ elim done.work [
          | inl long ↦ absurd (not_long (rw long.status_is at is))
          | inr beside ↦ told_so P (told name) read.bytes read.finds.0 (says read.bytes done.outline beside.bytes s text done.stands beside.answers is)
        ]
      ]
