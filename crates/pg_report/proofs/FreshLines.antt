-- The lines of the fresh state are those of its givens.
use Rattle.std.proofs.Common.{◌≡◌, ℕ, ◌+◌, ◌-◌, ◌<◌, ◌≤◌, Bool, true, false, not, cond, List, [], ◌∷◌, ◌++◌, length, map, Some, option_map, refl, sym, ap, ap₂, ◌∙◌, arith, append_assoc}
use Rattle.std.specs.List.{flat_map, range_with_len, filter, slice_get}
use Rattle.std.specs.Prelude.{◌==◌, slice_index}
use Rattle.std.proofs.lemmas.Grind.{flat_map-append}
use Rattle.std.proofs.lemmas.List.{append-nil}
use Rattle.std.proofs.lemmas.List.Folds.{flat_map-map}
use Rattle.std.proofs.lemmas.List.Elements.{All-get_or}
use Rattle.pg_program.specs.Program.{ProgramTable, IsProgram}
use Rattle.pg_program.specs.NameTable.{NameTable, Location, initial}
use Rattle.pg_machine.proofs.Made.{number_at}
use Rattle.pg_machine.proofs.Formed.{initial_fits}
use Rattle.pg_assertion.specs.declared.atom.ViewAtom.{ViewAtom}
use Rattle.pg_assertion.specs.declared.atom.ViewAtom.TheVariants.{Scalar, Last, Persist, Newest}
use Rattle.pg_assertion.specs.Formula.{Plain, atom, neg}
use Rattle.pg_tables.proofs.Lists.{range-split}
use Rattle.pg_obligations.specs.Follow.{fresh_values}
use Rattle.pg_report.specs.Obligations.{assertion, given_line}
use Rattle.pg_report.specs.Fresh.{false_line, absent_lines_of, absent_lines, own_newest_lines, newest_lines, fresh_lines}

-- ---- lists of lists

same_lists : {A B : Type 0} (f g : A → List B) → ((x : A) → f x ≡ g x) → (xs : List A) → flat_map f xs ≡ flat_map g xs
same_lists f g e [] = refl
same_lists f g e (x ∷ xs) = ap₂ (λ (l m : List _). l ++ m) (e x) (same_lists f g e xs)

flat-flat : {A B C : Type 0} (f : B → List C) (g : A → List B) (xs : List A) → flat_map f (flat_map g xs) ≡ flat_map (λ x. flat_map f (g x)) xs
flat-flat f g [] = refl
flat-flat f g (x ∷ xs) = flat_map-append f (g x) (flat_map g xs) ∙ ap (λ l. flat_map f (g x) ++ l) (flat-flat f g xs)

one_filtered : {A B : Type 0} (f : A → List B) (q : A → Bool) (x : A) (xs : List A) (rest : List B) (b : Bool) → flat_map f (filter q xs) ≡ rest
    → flat_map f (cond b (x ∷ filter q xs) (filter q xs)) ≡ cond b (f x) [] ++ rest
one_filtered f q x xs rest true h = ap (λ l. f x ++ l) h
one_filtered f q x xs rest false h = h

flat-filter : {A B : Type 0} (f : A → List B) (q : A → Bool) (xs : List A) → flat_map f (filter q xs) ≡ flat_map (λ x. cond (q x) (f x) []) xs
flat-filter f q [] = refl
flat-filter f q (x ∷ xs) = one_filtered f q x xs (flat_map (λ y. cond (q y) (f y) []) xs) (q x) (flat-filter f q xs)

-- ---- loops

-- what is appended for each number so far, and then for one more
one_more : (f : ℕ → List ℕ) (before after : List ℕ) (k : ℕ) (old mid new : List ℕ) → after ≡ before ++ (k ∷ []) → mid ≡ old ++ flat_map f before → new ≡ mid ++ f k
    → new ≡ old ++ flat_map f after
one_more f before after k old mid new more so is =
    is ∙ ap (λ l. l ++ f k) so ∙ append_assoc old (flat_map f before) (f k)
    ∙ ap (λ l. old ++ (flat_map f before ++ l)) (sym (append-nil (f k)))
    ∙ ap (λ l. old ++ l) (sym (flat_map-append f before (k ∷ [])))
    ∙ ap (λ l. old ++ flat_map f l) (sym more)

-- from 0 on, and from 1 on
pub append-from_0 : (f : ℕ → List ℕ) (k : ℕ) (old mid new : List ℕ) → mid ≡ old ++ flat_map f (range_with_len 0 k) → new ≡ mid ++ f k
    → new ≡ old ++ flat_map f (range_with_len 0 (k + 1))
append-from_0 f k old mid new so is =
    let d : 0 + k ≡ k = omega arith in
    one_more f (range_with_len 0 k) (range_with_len 0 (k + 1)) k old mid new (range-split 0 k 1 ∙ ap (λ r. range_with_len 0 k ++ range_with_len r 1) d) so is

pub append-from_1 : (f : ℕ → List ℕ) (k : ℕ) (old mid new : List ℕ) → 1 ≤ k → mid ≡ old ++ flat_map f (range_with_len 1 (k - 1)) → new ≡ mid ++ f k
    → new ≡ old ++ flat_map f (range_with_len 1 (k + 1 - 1))
append-from_1 f k old mid new h so is =
    let e : k + 1 - 1 ≡ (k - 1) + 1 = omega arith in
    let d : 1 + (k - 1) ≡ k = omega arith in
    one_more f (range_with_len 1 (k - 1)) (range_with_len 1 (k + 1 - 1)) k old mid new
    (ap (range_with_len 1) e ∙ range-split 1 (k - 1) 1 ∙ ap (λ r. range_with_len 1 (k - 1) ++ range_with_len r 1) d) so is

-- ---- values

-- a location's declared value is one of the initial ones, and fits a byte
pub record IsFirst (p : ProgramTable) (x v : ℕ) : Type 0 where
  pub fits : v < 256
  pub is : v ≡ slice_index (initial p.names) x

pub first_at : (p : ProgramTable) (names : NameTable) (x v : ℕ) → IsProgram p → names ≡ p.names → option_map (λ l. l.init) (slice_get names.locations x) ≡ Some v → IsFirst p x v
first_at p names x v built same at =
    let found = number_at (λ (l : Location). l.init) p.names.locations x v (ap (λ (n : NameTable). option_map (λ (l : Location). l.init) (slice_get n.locations x)) (sym same) ∙ at) in
    let fits = All-get_or (λ (n : ℕ). n < 256) (initial p.names) x 0 found.inside (initial_fits p built) in
    let is = found.is in
    record { fits = omega (arith, fits, is); is = is }

-- ---- the fresh state

module _ (p : ProgramTable) where
  line : Plain ViewAtom → List ℕ
  line f = given_line p.names (assertion f)

  newest_are : flat_map line (flat_map (λ t. map (λ x. atom (Newest t x)) (range_with_len 0 (length p.names.locations))) (range_with_len 1 (length p.threads))) ≡ newest_lines p
  unfolding line
  newest_are =
      flat-flat line (λ t. map (λ x. atom (Newest t x)) (range_with_len 0 (length p.names.locations))) (range_with_len 1 (length p.threads))
      ∙ same_lists (λ t. flat_map line (map (λ x. atom (Newest t x)) (range_with_len 0 (length p.names.locations)))) (own_newest_lines p.names)
      (λ t. flat_map-map line (λ x. atom (Newest t x)) (range_with_len 0 (length p.names.locations))) (range_with_len 1 (length p.threads))

  others : ℕ → List (Plain ViewAtom)
  others x = map (λ v. neg (atom (Persist x v))) (filter (λ v. not (v == slice_index (initial p.names) x)) (range_with_len 0 p.names.domain))

  absent_of : (x : ℕ) → flat_map line (others x) ≡ absent_lines_of p.names x
  unfolding line others
  absent_of x =
      flat_map-map line (λ v. neg (atom (Persist x v))) (filter (λ v. not (v == slice_index (initial p.names) x)) (range_with_len 0 p.names.domain))
      ∙ flat-filter (λ v. false_line p.names (Persist x v)) (λ v. not (v == slice_index (initial p.names) x)) (range_with_len 0 p.names.domain)

  absent_are : flat_map line (flat_map others (range_with_len 0 (length p.names.locations))) ≡ absent_lines p.names
  absent_are =
      flat-flat line others (range_with_len 0 (length p.names.locations))
      ∙ same_lists (λ x. flat_map line (others x)) (absent_lines_of p.names) absent_of (range_with_len 0 (length p.names.locations))

  pub fresh_are : flat_map (given_line p.names) (map assertion (fresh_values p)) ≡ fresh_lines p
  unfolding line others
  fresh_are =
      let sca = map (λ r. atom (Scalar r 0)) (range_with_len 0 (length p.names.scalars)) in
      let las = map (λ x. atom (Last x (slice_index (initial p.names) x))) (range_with_len 0 (length p.names.locations)) in
      let new = flat_map (λ t. map (λ x. atom (Newest t x)) (range_with_len 0 (length p.names.locations))) (range_with_len 1 (length p.threads)) in
      let oth = flat_map others (range_with_len 0 (length p.names.locations)) in
      flat_map-map (given_line p.names) assertion (fresh_values p)
      ∙ flat_map-append line sca (las ++ (new ++ oth))
      ∙ ap₂ (λ (a b : List ℕ). a ++ b) (flat_map-map line (λ r. atom (Scalar r 0)) (range_with_len 0 (length p.names.scalars)))
      (flat_map-append line las (new ++ oth)
      ∙ ap₂ (λ (a b : List ℕ). a ++ b) (flat_map-map line (λ x. atom (Last x (slice_index (initial p.names) x))) (range_with_len 0 (length p.names.locations)))
      (flat_map-append line new oth ∙ ap₂ (λ (a b : List ℕ). a ++ b) newest_are absent_are))
