-- Texts that are put piece by piece: what was put, and what is still to come.
use Rattle.std.proofs.Common.{◌≡◌, ℕ, zero, suc, ◌≤◌, List, [], ◌∷◌, ◌++◌, take, drop, Option, None, Some, refl, sym, ap, ap₂, subst, ◌∙◌, arith, append_assoc}
use Rattle.std.specs.Prelude.{Result, Ok, Err}
use Rattle.std.proofs.lemmas.List.{append-nil, take-append-drop}
use Rattle.pg_io.specs.Written.{appended, AppendsPart}
use Rattle.pg_report.specs.declared.fault.ReportFault.{ReportFault}
use Rattle.pg_report.specs.declared.fault.ReportFault.TheVariants.{Write, NoMemory}
use Rattle.pg_report.specs.Reported.{Reports, ReportsLines}

pub appended-nothing : (o : Option (List ℕ)) → appended o [] ≡ o
appended-nothing None = refl
appended-nothing (Some xs) = ap Some (append-nil xs)

appended-twice : (o : Option (List ℕ)) (a b : List ℕ) → appended (appended o a) b ≡ appended o (a ++ b)
appended-twice None a b = refl
appended-twice (Some xs) a b = ap Some (append_assoc xs a b)

-- nothing is a part of each text
pub nothing_put : (o : Option (List ℕ)) (text : List ℕ) → AppendsPart o o text
nothing_put o text = (0, sym (appended-nothing o))

-- ---- parts of texts

take-part : (k : ℕ) (xs ys : List ℕ) → (j : ℕ) × (take j (xs ++ ys) ≡ take k xs)
take-part zero xs ys = (0, refl)
take-part (suc k) [] ys = (0, refl)
take-part (suc k) (x ∷ xs) ys = let h = take-part k xs ys in (suc h.0, ap (λ (l : List ℕ). x ∷ l) h.1)

take-behind : (j : ℕ) (xs ys : List ℕ) → (i : ℕ) × (take i (xs ++ ys) ≡ xs ++ take j ys)
take-behind j [] ys = (j, refl)
take-behind j (x ∷ xs) ys = let h = take-behind j xs ys in (suc h.0, ap (λ (l : List ℕ). x ∷ l) h.1)

part_within : (old mid new : Option (List ℕ)) (done piece rest whole : List ℕ) → mid ≡ appended old done → done ++ (piece ++ rest) ≡ whole
    → AppendsPart mid new piece → AppendsPart old new whole
part_within old mid new done piece rest whole before parts part =
    let within = take-part part.0 piece rest in
    let behind = take-behind within.0 done (piece ++ rest) in (
      behind.0,
      part.1
          ∙ ap (λ (o : Option (List ℕ)). appended o (take part.0 piece)) before
          ∙ appended-twice old done (take part.0 piece)
          ∙ ap (λ (l : List ℕ). appended old (done ++ l)) (sym within.1)
          ∙ ap (appended old) (sym behind.1)
          ∙ ap (λ (l : List ℕ). appended old (take behind.0 l)) parts,
    )

-- ---- one piece after another

-- of the whole text this rest is still to be put
pub record IsAhead (old mid : Option (List ℕ)) (before now : ℕ) (rest whole : List ℕ) : Type 0 where
  pub done : List ℕ
  pub parts : done ++ rest ≡ whole
  pub written : mid ≡ appended old done
  pub faults : before ≤ now

pub ahead-first : (old : Option (List ℕ)) (before : ℕ) (whole : List ℕ) → IsAhead old old before before whole whole
ahead-first old before whole = record { done = []; parts = refl; written = sym (appended-nothing old); faults = omega arith }

-- the rest is its first part, and what is behind that
pub ahead-split : {old mid : Option (List ℕ)} {before now : ℕ} {whole : List ℕ} (n : ℕ) (rest front behind : List ℕ) → IsAhead old mid before now rest whole
    → front ≡ take n rest → behind ≡ drop n rest → IsAhead old mid before now (front ++ behind) whole
ahead-split {old} {mid} {before} {now} {whole} n rest front behind h first later =
    subst (λ (l : List ℕ). IsAhead old mid before now l whole) (sym (take-append-drop n rest) ∙ ap₂ (λ (a b : List ℕ). a ++ b) (sym first) (sym later)) h

pub ahead-next : {old mid new : Option (List ℕ)} {before between now : ℕ} {whole : List ℕ} (piece rest : List ℕ) → IsAhead old mid before between (piece ++ rest) whole
    → new ≡ appended mid piece → between ≤ now → IsAhead old new before now rest whole
ahead-next {old} {mid} {new} {before} {between} {now} {whole} piece rest h is later =
    let faults = h.faults in
    record {
      done = h.done ++ piece;
      parts = append_assoc h.done piece rest ∙ h.parts;
      written = is ∙ ap (λ (o : Option (List ℕ)). appended o piece) h.written ∙ appended-twice old h.done piece;
      faults = omega (arith, faults, later);
    }

pub ahead-last : {old mid : Option (List ℕ)} {before now : ℕ} {whole : List ℕ} → IsAhead old mid before now [] whole → mid ≡ appended old whole
ahead-last {old} h = h.written ∙ ap (appended old) (sym (append-nil h.done) ∙ h.parts)

-- a fault in the next piece is one in the whole text
pub ahead-fault : (old mid new : Option (List ℕ)) (before between now : ℕ) (whole : List ℕ) (e : ReportFault) (piece rest : List ℕ)
    → IsAhead old mid before between (piece ++ rest) whole → ReportsLines piece (Err e) mid new between now → ReportsLines whole (Err e) old new before now
ahead-fault old mid new before between now whole Write piece rest h said =
    let faults = h.faults in
    let rose = said.1 in
    (part_within old mid new h.done piece rest whole h.written h.parts said.0, omega (arith, faults, rose))
ahead-fault old mid new before between now whole NoMemory piece rest h said =
    part_within old mid new h.done piece rest whole h.written h.parts said

-- what is said of one line is said of it as a text of lines
pub line_of_lines : (old new : Option (List ℕ)) (before now : ℕ) (text : List ℕ) (r : Result (Unit {0}) ReportFault) → Reports text r old new before now → ReportsLines text r old new before now
line_of_lines old new before now text (Ok u) said = said
line_of_lines old new before now text (Err Write) said = said
line_of_lines old new before now text (Err NoMemory) said = (0, said ∙ sym (appended-nothing old))
