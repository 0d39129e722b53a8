-- Answers on a file: by what is found of it, and by how its bytes are taken.
use Rattle.std.proofs.Common.{◌≡◌, ℕ, ◌<◌, ◌≤◌, ◌⊎◌, inl, inr, List, length, Option, None, Some, IfSome, IsSome, IsSomeAnd, sym, ap, subst, ◌∙◌, arith}
use Rattle.pg_io.specs.Told.{IsTold, IsTooLong}
use Rattle.pg_outline.specs.Outline.{OutlineTable}
use Rattle.pg_app.specs.File.{File, limit}
use Rattle.pg_app.specs.Answer.{Found, whole, longer, OnFile, IsDone, AsOutline, Tells}
use Rattle.pg_app.specs.Run.{Fetches}

-- ---- what is found

-- what is found so is also found thus, and bytes that are taken so are also taken thus
pub on_file_map : (Finds Knows : File → Found → Type 0) (file : File) (Takes Gives : List ℕ → ℕ → List ℕ → Type 0) → ((found : Found) → Finds file found → Knows file found)
    → ((bytes : List ℕ) (s : ℕ) (text : List ℕ) → Takes bytes s text → Gives bytes s text) → (s : ℕ) (text : List ℕ) → OnFile Finds file Takes s text → OnFile Knows file Gives s text
on_file_map Finds Knows file Takes Gives f g s text (inl long) = inl (record { finds = f longer long.finds; status_is = long.status_is; text_is = long.text_is })
on_file_map Finds Knows file Takes Gives f g s text (inr read) =
    inr (record { bytes = read.bytes; finds = f (whole read.bytes) read.finds; answers = g read.bytes s text read.answers })

whole_told : (o : Option (List ℕ)) (bytes : List ℕ) → IsSome o → IsTold o bytes → o ≡ Some bytes
whole_told None bytes some told = cc
whole_told (Some all) bytes some told = ap Some (sym told)

long_told : (o : Option (List ℕ)) (most : ℕ) → IsSome o → IsTooLong o most → IsSomeAnd o (λ bytes. most < length bytes)
long_told None most some long = cc
long_told (Some all) most some long = long

-- what is fetched of a file whose bytes are told is what is told
pub fetched_told : (told : List ℕ → Option (List ℕ)) (taken taken_now : ℕ) (file : File) → IsSome (told file.name) → (found : Found) → Fetches told taken taken_now file found → Tells told file found
fetched_told told taken taken_now file some (whole bytes) finds = (whole_told (told file.name) bytes some finds.0, finds.1)
fetched_told told taken taken_now file some longer finds = long_told (told file.name) (limit file) some finds.0

-- ---- one answer

-- two answers have the same status, and the same text unless that is free
abbrev pub AreSame : Type 0 → ℕ → ℕ → List ℕ → List ℕ → Type 0
AreSame Free s t a b = (s ≡ t) × (Free ⊎ (a ≡ b))

-- bytes are taken in one way
abbrev pub HasOneTaking : Type 0 → (List ℕ → ℕ → List ℕ → Type 0) → Type 0
HasOneTaking Free Takes = (bytes : List ℕ) (s t : ℕ) (a b : List ℕ) → Takes bytes s a → Takes bytes t b → AreSame Free s t a b

not_longer : {A : Type 0} (o : Option (List ℕ)) (bytes : List ℕ) (most : ℕ) → o ≡ Some bytes → length bytes ≤ most → IsSomeAnd o (λ all. most < length all) → A
not_longer None bytes most e within long = absurd long
not_longer (Some all) bytes most e within long =
    let same : all ≡ bytes = cc in
    let count = ap length same in
    absurd (omega (arith, count, within, long))

pub on_file_once : {Free : Type 0} (told : List ℕ → Option (List ℕ)) (file : File) (Takes : List ℕ → ℕ → List ℕ → Type 0) → HasOneTaking Free Takes → (s t : ℕ) (a b : List ℕ)
    → OnFile (Tells told) file Takes s a → OnFile (Tells told) file Takes t b → AreSame Free s t a b
on_file_once told file Takes once s t a b (inl h) (inl k) = (h.status_is ∙ sym k.status_is, inr (h.text_is ∙ sym k.text_is))
on_file_once told file Takes once s t a b (inl h) (inr k) = not_longer (told file.name) k.bytes (limit file) k.finds.0 k.finds.1 h.finds
on_file_once told file Takes once s t a b (inr h) (inl k) = not_longer (told file.name) h.bytes (limit file) h.finds.0 h.finds.1 k.finds
on_file_once told file Takes once s t a b (inr h) (inr k) =
    let same : Some h.bytes ≡ Some k.bytes = sym h.finds.0 ∙ k.finds.0 in
    let bytes : h.bytes ≡ k.bytes = cc in
    once k.bytes s t a b (subst (λ (l : List ℕ). Takes l s a) bytes h.answers) k.answers

-- ---- what is claimed

-- what holds of the bytes that were fetched holds of those that are told
pub told_so : (P : List ℕ → Type 0) (told : Option (List ℕ)) (bytes : List ℕ) → IsTold told bytes → P bytes → IfSome told P
told_so P None bytes same so = tt
told_so P (Some all) bytes same so = subst P same so

pub on_file_claims : (told : List ℕ → Option (List ℕ)) (taken taken_now : ℕ) (file : File) (Takes : List ℕ → ℕ → List ℕ → Type 0) (P : List ℕ → Type 0)
    → ((bytes : List ℕ) (s : ℕ) (text : List ℕ) → Takes bytes s text → s ≡ 0 → P bytes) → (s : ℕ) (text : List ℕ) → OnFile (Fetches told taken taken_now) file Takes s text → s ≡ 0
    → IfSome (told file.name) P
on_file_claims told taken taken_now file Takes P claims s text (inl long) zero = let e = long.status_is in absurd (omega (arith, e, zero))
on_file_claims told taken taken_now file Takes P claims s text (inr read) zero = told_so P (told file.name) read.bytes read.finds.0 (claims read.bytes s text read.answers zero)

pub as_outline_claims : (Work : OutlineTable → ℕ → List ℕ → Type 0) (P : List ℕ → Type 0)
    → ((bytes : List ℕ) (s : ℕ) (text : List ℕ) → IsDone Work bytes s text → s ≡ 0 → P bytes) → (bytes : List ℕ) (s : ℕ) (text : List ℕ) → AsOutline Work bytes s text → s ≡ 0 → P bytes
as_outline_claims Work P claims bytes s text (inl refusal) zero = let e = refusal.status_is in absurd (omega (arith, e, zero))
as_outline_claims Work P claims bytes s text (inr done) zero = claims bytes s text done zero
