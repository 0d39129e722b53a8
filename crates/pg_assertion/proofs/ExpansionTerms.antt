-- Conjunctions that are made conjunct by conjunct, and the terms of the choices that are made value by value.
use Rattle.std.proofs.Common.{◌≡◌, ◌∙◌, sym, ap, refl, ℕ, zero, suc, ◌+◌, ◌-◌, ◌<◌, ◌≤◌, Bool, cond, List, [], ◌∷◌, ◌++◌, map, take, drop, length, append_assoc, zero-add, add-one, arith}
use Rattle.std.specs.Prelude.{Option, Some, None, Result, Ok, Err, IfOk, OnOk, slice_index_or}
use Rattle.std.specs.List.{filter, fold, flat_map, range_with_len}
use Rattle.std.proofs.lemmas.List.{map-append, append-nil, take_at, take_all, length-append}
use Rattle.std.proofs.lemmas.List.Concat.{flat_map-append}
use Rattle.std.proofs.lemmas.List.Elements.{filter-append}
use Rattle.pg_assertion.specs.declared.atom.ViewAtom.{ViewAtom}
use Rattle.pg_assertion.specs.declared.atom.CrashAtom.{CrashAtom}
use Rattle.pg_assertion.specs.declared.formula.Formula.{Formula}
use Rattle.pg_assertion.specs.Formula.{Plain, plain, both}
use Rattle.pg_assertion.specs.Expansion.{mentions, named, conjunction, joined, joined_all, or_true, term, terms, vectors, expansion_over}

pub joined_all-some : (f : Plain ViewAtom) (fs : List (Plain ViewAtom)) → joined_all (Some f) fs ≡ Some (fold both f fs)
joined_all-some f [] = refl
joined_all-some f (g ∷ fs) = joined_all-some (both f g) fs

pub joined_all_none : (fs : List (Plain ViewAtom)) → or_true (joined_all None fs) ≡ conjunction fs
joined_all_none [] = refl
joined_all_none (f ∷ fs) = ap or_true (joined_all-some f fs)

pub joined_all-append : (b : Option (Plain ViewAtom)) (fs gs : List (Plain ViewAtom)) → joined_all b (fs ++ gs) ≡ joined_all (joined_all b fs) gs
joined_all-append b [] gs = refl
joined_all-append b (f ∷ fs) gs = joined_all-append (Some (joined b f)) fs gs

-- the choices for x and then xs whose value for x is below n
abbrev pub vectors_below : ℕ → ℕ → ℕ → List ℕ → List (List (ℕ × ℕ))
vectors_below d n x xs = flat_map (λ v. map (λ w. (x, v) ∷ w) (vectors d xs)) (range_with_len 0 n)

-- their terms, after the choice c
abbrev pub terms_below : ℕ → ℕ → ℕ → List ℕ → List (ℕ × ℕ) → Plain CrashAtom → List (Plain ViewAtom)
terms_below d n x xs c f = map (λ w. term f (c ++ w)) (vectors_below d n x xs)

range-suc : (a n : ℕ) → range_with_len a (suc n) ≡ range_with_len a n ++ (a + n) ∷ []
range-suc a zero =
    let e : a ≡ a + 0 = omega arith in
    ap (λ (k : ℕ). k ∷ []) e
range-suc a (suc n) =
    let e : a + 1 + n ≡ a + suc n = omega arith in
    ap (λ (l : List ℕ). a ∷ l) (range-suc (a + 1) n ∙ ap (λ (k : ℕ). range_with_len (a + 1) n ++ k ∷ []) e)

range_more : (n : ℕ) → range_with_len 0 (n + 1) ≡ range_with_len 0 n ++ n ∷ []
range_more n = ap (range_with_len 0) (add-one n) ∙ range-suc 0 n ∙ ap (λ (k : ℕ). range_with_len 0 n ++ k ∷ []) (zero-add n)

-- one more location
pub named-more : (n : ℕ) (f : Plain CrashAtom) → named (n + 1) f ≡ named n f ++ cond (mentions n f) (n ∷ []) []
named-more n f =
    let p : ℕ → Bool = λ x. mentions x f in
    ap (filter p) (range_more n) ∙ filter-append p (range_with_len 0 n) (n ∷ [])

-- the terms with one more value chosen
terms_chosen : (x v : ℕ) (ws : List (List (ℕ × ℕ))) (c : List (ℕ × ℕ)) (f : Plain CrashAtom) → map (λ w. term f (c ++ w)) (map (λ w. (x, v) ∷ w) ws) ≡ map (λ w. term f ((c ++ (x, v) ∷ []) ++ w)) ws
terms_chosen x v [] c f = refl
terms_chosen x v (w ∷ ws) c f =
    let head : term f (c ++ (x, v) ∷ w) ≡ term f ((c ++ (x, v) ∷ []) ++ w) = ap (term f) (sym (append_assoc c ((x, v) ∷ []) w)) in
    let tail : map (λ w. term f (c ++ w)) (map (λ w. (x, v) ∷ w) ws) ≡ map (λ w. term f ((c ++ (x, v) ∷ []) ++ w)) ws = terms_chosen x v ws c f in
    ap (λ (t : Plain ViewAtom). t ∷ map (λ w. term f (c ++ w)) (map (λ w. (x, v) ∷ w) ws)) head
    ∙ ap (λ (l : List (Plain ViewAtom)). term f ((c ++ (x, v) ∷ []) ++ w) ∷ l) tail

pub terms_below-more : (d n x : ℕ) (xs : List ℕ) (c : List (ℕ × ℕ)) (f : Plain CrashAtom) → terms_below d (n + 1) x xs c f ≡ terms_below d n x xs c f ++ terms d xs (c ++ (x, n) ∷ []) f
terms_below-more d n x xs c f =
    let put : ℕ → List (List (ℕ × ℕ)) = λ v. map (λ w. (x, v) ∷ w) (vectors d xs) in
    let say : List (ℕ × ℕ) → Plain ViewAtom = λ w. term f (c ++ w) in
    let below : List (List (ℕ × ℕ)) = flat_map put (range_with_len 0 n) in
    let split : flat_map put (range_with_len 0 (n + 1)) ≡ below ++ put n =
    ap (flat_map put) (range_more n) ∙ flat_map-append put (range_with_len 0 n) (n ∷ []) ∙ ap (λ (l : List (List (ℕ × ℕ))). below ++ l) (append-nil (put n)) in
    ap (map say) split ∙ map-append say below (put n) ∙ ap (λ (l : List (Plain ViewAtom)). map say below ++ l) (terms_chosen x n (vectors d xs) c f)

-- the terms of one more value n are joined, after the choice c with that value
pub joined_all-more :
    (d n x : ℕ) (xs : List ℕ) (c c' l : List (ℕ × ℕ)) (f : Plain CrashAtom) (b w w' : Option (Plain ViewAtom))
    → l ≡ c
    → c' ≡ l ++ (x, n) ∷ []
    → w ≡ joined_all b (terms_below d n x xs c f)
    → w' ≡ joined_all w (terms d xs c' f)
    → w' ≡ joined_all b (terms_below d (n + 1) x xs c f)
joined_all-more d n x xs c c' l f b w w' same pushed was is =
    let chosen : c' ≡ c ++ (x, n) ∷ [] = pushed ∙ ap (λ (k : List (ℕ × ℕ)). k ++ (x, n) ∷ []) same in
    is ∙ ap (λ (k : List (ℕ × ℕ)). joined_all w (terms d xs k f)) chosen
    ∙ ap (λ (k : Option (Plain ViewAtom)). joined_all k (terms d xs (c ++ (x, n) ∷ []) f)) was
    ∙ sym (joined_all-append b (terms_below d n x xs c f) (terms d xs (c ++ (x, n) ∷ []) f))
    ∙ sym (ap (joined_all b) (terms_below-more d n x xs c f))

-- the term of a choice that is whole is the last one
pub joined_all-last :
    (d : ℕ) (xs : List ℕ) (c l : List (ℕ × ℕ)) (f : Plain CrashAtom) (b w : Option (Plain ViewAtom)) (g : Plain ViewAtom)
    → length xs < 1
    → l ≡ c
    → g ≡ term f l
    → w ≡ Some (joined b g)
    → w ≡ joined_all b (terms d xs c f)
joined_all-last d [] c l f b w g none same is was =
    was ∙ ap (λ (k : Plain ViewAtom). Some (joined b k)) (is ∙ ap (term f) (same ∙ sym (append-nil c)))
joined_all-last d (x ∷ xs) c l f b w g none same is was = absurd (omega arith)

-- once each value of the first location is chosen, all terms are joined
pub joined_all-whole :
    (d v : ℕ) (xs : List ℕ) (c : List (ℕ × ℕ)) (f : Plain CrashAtom) (b w : Option (Plain ViewAtom))
    → 1 ≤ length xs
    → d ≤ v
    → v ≤ d
    → w ≡ joined_all b (terms_below d v (slice_index_or xs 0 0) (take (length xs - 1) (drop 1 xs)) c f)
    → w ≡ joined_all b (terms d xs c f)
joined_all-whole d v [] c f b w some least most is = absurd (omega arith)
joined_all-whole d v (x ∷ xs) c f b w some least most is =
    let all : take (length (x ∷ xs) - 1) xs ≡ xs = take_all (length (x ∷ xs) - 1) xs (omega arith) in
    let end : v ≡ d = omega arith in
    is ∙ ap (λ (k : List ℕ). joined_all b (terms_below d v x k c f)) all ∙ ap (λ (n : ℕ). joined_all b (terms_below d n x xs c f)) end

-- what follows where there is no fault
pub owes_less : {T E : Type 0} (r : Result T E) (P Q : Type 0) → (P → Q) → OnOk r P → OnOk r Q
owes_less (Ok v) P Q step h = step h
owes_less (Err e) P Q step h = tt

-- what was pushed is popped
pub popped : (c l p s q : List (ℕ × ℕ)) (e : ℕ × ℕ) (n : ℕ) → l ≡ c → p ≡ l ++ e ∷ [] → s ≡ p → n ≡ length s → q ≡ take (n - 1) s → q ≡ c
popped c l p s q e n same pushed kept long is =
    let whole : s ≡ l ++ e ∷ [] = kept ∙ pushed in
    let all : n - 1 ≡ length l = omega (arith, ap length whole, length-append l (e ∷ [])) in
    is ∙ ap (λ (k : ℕ). take k s) all ∙ ap (take (length l)) whole ∙ take_at l (e ∷ []) (length l) refl ∙ same

-- all terms, joined
whole : (d : ℕ) (xs : List ℕ) (f : Plain CrashAtom) → 0 < length xs → or_true (joined_all None (terms d xs [] f)) ≡ expansion_over d xs f
whole d [] f some = absurd (omega arith)
whole d (x ∷ xs) f some = joined_all_none (map (term f) (vectors d (x ∷ xs)))

pub expansion_over-joined :
    {E : Type 0} (r : Result (Formula ViewAtom) E) (d : ℕ) (xs l : List ℕ) (f : Plain CrashAtom)
    → l ≡ xs
    → 0 < length l
    → IfOk r (λ g. plain g ≡ or_true (joined_all None (terms d l [] f)))
    → IfOk r (λ g. plain g ≡ expansion_over d xs f)
expansion_over-joined (Ok g) d xs l f same some is =
    let long : 0 < length xs = omega (arith, ap length same) in
    is ∙ ap (λ (k : List ℕ). or_true (joined_all None (terms d k [] f))) same ∙ whole d xs f long
expansion_over-joined (Err e) d xs l f same some is = tt
