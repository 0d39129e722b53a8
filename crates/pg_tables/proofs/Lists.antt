-- A table for each of some numbers, one after the other.
use Rattle.std.proofs.Common.{◌≡◌, ℕ, zero, suc, ◌+◌, ◌-◌, ◌<◌, ◌≤◌, Bool, List, [], ◌∷◌, ◌++◌, length, map, refl, sym, ap, ◌∙◌, append_assoc, arith, take, drop, get_or, Option, None, Some}
use Rattle.std.proofs.lemmas.Grind.{flat_map-append}
use Rattle.std.proofs.lemmas.List.{append-nil, map-append}
use Rattle.std.proofs.lemmas.Option.{none-some}
use Rattle.std.specs.List.{flat_map, range_with_len}
use Rattle.pg_region.specs.Literal.{Literal}
use Rattle.pg_region.specs.Sink.{Capacity, SinkView, Appended, Stopped}
use Rattle.pg_tables.specs.declared.clause.StepLiteral.{StepLiteral}
use Rattle.pg_tables.specs.declared.clause.Setting.{Setting}
use Rattle.pg_tables.specs.Clause.{written, premise, in_front, numbered}
use Rattle.pg_tables.specs.declared.clause.Case.{Case}
use Rattle.pg_tables.specs.Table.{under}
use Rattle.pg_tables.proofs.Sinks.{Appended-then, Stopped-first, Stopped-later}

pub range-split : (a i j : ℕ) → range_with_len a (i + j) ≡ range_with_len a i ++ range_with_len (a + i) j
range-split a zero j = let e : zero + j ≡ j = omega arith in let f : a + zero ≡ a = omega arith in rw (e, f)
range-split a (suc i) j =
    let e : suc i + j ≡ suc (i + j) = omega arith in
    let f : a + suc i ≡ a + 1 + i = omega arith in
    rw (e, f) (ap (λ l. a ∷ l) (range-split (a + 1) i j))

module _ (s : Setting) (f : ℕ → List (List StepLiteral)) where
  -- the clauses for n numbers, from a on
  abbrev pub each_of : ℕ → ℕ → List (List Literal)
  each_of a n = written s (flat_map f (range_with_len a n))

  pub each_of-split : (a i j : ℕ) → each_of a (i + j) ≡ each_of a i ++ each_of (a + i) j
  each_of-split a i j =
      ap (λ r. written s (flat_map f r)) (range-split a i j)
      ∙ ap (written s) (flat_map-append f (range_with_len a i) (range_with_len (a + i) j))
      ∙ map-append _ (flat_map f (range_with_len a i)) (flat_map f (range_with_len (a + i) j))

  one_of : (a : ℕ) → each_of a 1 ≡ written s (f a)
  one_of a = ap (written s) (append-nil (f a))

  pub each_of-more : (a k : ℕ) → a ≤ k → each_of a (k + 1 - a) ≡ each_of a (k - a) ++ written s (f k)
  each_of-more a k h =
      let e : k + 1 - a ≡ (k - a) + 1 = omega arith in
      let d : a + (k - a) ≡ k = omega arith in
      ap (each_of a) e ∙ each_of-split a (k - a) 1 ∙ ap (λ r. each_of a (k - a) ++ each_of r 1) d ∙ ap (λ r. each_of a (k - a) ++ r) (one_of k)

  pub each_of-whole : (a n k : ℕ) → a ≤ k → k < a + n
      → each_of a n ≡ (each_of a (k - a) ++ written s (f k)) ++ each_of (k + 1) (a + n - (k + 1))
  each_of-whole a n k h t =
      let e : n ≡ (k + 1 - a) + (a + n - (k + 1)) = omega arith in
      let d : a + (k + 1 - a) ≡ k + 1 = omega arith in
      ap (each_of a) e ∙ each_of-split a (k + 1 - a) (a + n - (k + 1)) ∙ ap (λ r. each_of a (k + 1 - a) ++ each_of r (a + n - (k + 1))) d
      ∙ ap (λ r. r ++ each_of (k + 1) (a + n - (k + 1))) (each_of-more a k h)

  pub Each-goes_on : (a b c : SinkView) (from k : ℕ) → from ≤ k
      → Appended a b (each_of from (k - from)) → Appended b c (written s (f k)) → Appended a c (each_of from (k + 1 - from))
  Each-goes_on a b c from k h p q = rw each_of-more (Appended-then a b c (each_of from (k - from)) (written s (f k)) p q)

  pub Each-stops : (takes : List (List Literal) → Capacity → List Literal → Bool) (a b c : SinkView) (from n k : ℕ) → from ≤ k → k < from + n
      → Appended a b (each_of from (k - from)) → Stopped takes b c (written s (f k)) → Stopped takes a c (each_of from n)
  Each-stops takes a b c from n k h t p q =
      let e = each_of-whole from n k h t in
      rw e (Stopped-first takes a c (each_of from (k - from) ++ written s (f k)) _ (Stopped-later takes a b c (each_of from (k - from)) (written s (f k)) p q))

list_split : {A : Type 0} (xs : List A) (i : ℕ) (d : A) → i < length xs → xs ≡ take i xs ++ (get_or xs i d ∷ drop (suc i) xs)
list_split [] i d h = absurd (omega arith)
list_split (y ∷ xs) zero d h = refl
list_split (y ∷ xs) (suc i) d h = ap (λ l. y ∷ l) (list_split xs i d (omega arith))

pub List-stops : (s : Setting) (takes : List (List Literal) → Capacity → List Literal → Bool) (a b c : SinkView) (cs : List (List StepLiteral)) (i : ℕ) (d : List StepLiteral)
    → i < length cs → Appended a b (written s (take i cs)) → Stopped takes b c (written s (get_or cs i d ∷ [])) → Stopped takes a c (written s cs)
List-stops s takes a b c cs i d h p q =
    let x = get_or cs i d in
    let e : written s cs ≡ (written s (take i cs) ++ written s (x ∷ [])) ++ written s (drop (suc i) cs) =
    ap (written s) (list_split cs i d h) ∙ map-append _ (take i cs) (x ∷ drop (suc i) cs) ∙ sym (append_assoc (written s (take i cs)) (written s (x ∷ [])) _) in
    rw e (Stopped-first takes a c (written s (take i cs) ++ written s (x ∷ [])) _ (Stopped-later takes a b c (written s (take i cs)) (written s (x ∷ [])) p q))

-- a table under a case is written as the table itself is in a setting under that case
pub under-written : (s : Setting) (case : Case) (cs : List (List StepLiteral)) → s.case ≡ None
    → written (record s { case = Some case }) cs ≡ written s (under case cs)
under-written s case cs h = each cs
  where
    one : (o : Option Case) → o ≡ None → (c : List StepLiteral) → map (numbered s.layout) (premise case ∷ c) ≡ map (numbered s.layout) (in_front o ++ (premise case ∷ c))
    one None e c = refl
    one (Some a) e c = absurd (none-some a (sym e))

    each : (ds : List (List StepLiteral)) → written (record s { case = Some case }) ds ≡ written s (under case ds)
    each [] = refl
    each (d ∷ ds) = ap (λ x. x ∷ written (record s { case = Some case }) ds) (one s.case h d) ∙ ap (λ x. map (numbered s.layout) (in_front s.case ++ (premise case ∷ d)) ∷ x) (each ds)

-- what was put behind what stands in front is the whole clause, once the last literal is there
pub whole_clause : (f : StepLiteral → Literal) (lits : List Literal) (front own c : List StepLiteral) (n i k : ℕ)
    → take (n + i) lits ≡ map f front ++ map f (take i own) → i ≡ k → take k own ≡ c → take (n + k) lits ≡ map f (front ++ c)
whole_clause f lits front own c n i k h e g =
    ap (λ j. take (n + j) lits) (sym e) ∙ h ∙ ap (λ j. map f front ++ map f (take j own)) e ∙ ap (λ l. map f front ++ map f l) g ∙ sym (map-append f front c)
