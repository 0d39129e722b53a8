-- How many nodes an expansion has.
use Rattle.std.proofs.Common.{◌≡◌, ◌∙◌, sym, ap, refl, ℕ, zero, suc, ◌+◌, ◌-◌, ◌*◌, ◌^◌, ◌<◌, ◌≤◌, ◌==◌, Bool, true, false, List, [], ◌∷◌, ◌++◌, map, length, lit≤, arith}
use Rattle.std.specs.List.{fold, flat_map, range_with_len}
use Rattle.std.proofs.lemmas.List.{length-append, length-map}
use Rattle.std.proofs.Math.Nat.{suc-mul, mul-suc, pow-succ', pow-zero, one-le-pow, pow-le-pow_left, pow-le-pow_right, mul-le-mul}
use Rattle.pg_program.specs.NameTable.{NameTable}
use Rattle.pg_assertion.specs.declared.atom.ViewAtom.{ViewAtom}
use Rattle.pg_assertion.specs.declared.atom.CrashAtom.{CrashAtom}
use Rattle.pg_assertion.specs.declared.atom.CrashAtom.TheVariants as crash
use Rattle.pg_assertion.specs.Formula.{Plain, top, bottom, atom, neg, both, either, implies, nodes, AllAtoms}
use Rattle.pg_assertion.specs.Expansion.{named, vectors, value_in, constant, fill, conjunction, can_persist, term, expansion_over, expansion, expansion_size, ExpansionsHaveTheirSize, IsAtomOf, HasValueBelow}

-- ---- values put in

nodes-constant : (b : Bool) → nodes (constant b) ≡ 1
nodes-constant true = refl
nodes-constant false = refl

two : {a b c d : ℕ} → a ≡ c → b ≡ d → 1 + (a + b) ≡ 1 + (c + d)
two p q = cc

nodes-fill : (w : List (ℕ × ℕ)) (f : Plain CrashAtom) → nodes (fill w f) ≡ nodes f
nodes-fill w top = refl
nodes-fill w bottom = refl
nodes-fill w (atom (crash.Scalar r k)) = refl
nodes-fill w (atom (crash.Location x v)) = nodes-constant (value_in w x == v)
nodes-fill w (neg f) = ap (λ n. 1 + n) (nodes-fill w f)
nodes-fill w (both f g) = two (nodes-fill w f) (nodes-fill w g)
nodes-fill w (either f g) = two (nodes-fill w f) (nodes-fill w g)
nodes-fill w (implies f g) = two (nodes-fill w f) (nodes-fill w g)

-- ---- conjunctions of formulas that have m nodes each

abbrev pub EachHas : ℕ → List (Plain ViewAtom) → Type 0
EachHas m [] = Unit {0}
EachHas m (f ∷ fs) = (nodes f ≡ m) × EachHas m fs

nodes-joined : (m : ℕ) (f : Plain ViewAtom) (fs : List (Plain ViewAtom)) → EachHas m fs → nodes (fold both f fs) ≡ nodes f + length fs * (1 + m)
nodes-joined m f [] h = omega arith
nodes-joined m f (g ∷ fs) h =
    let e : nodes g ≡ m = h.0 in
    let i : nodes (fold both (both f g) fs) ≡ 1 + (nodes f + nodes g) + length fs * (1 + m) = nodes-joined m (both f g) fs h.1 in
    omega (arith, i, e, suc-mul (length fs) (1 + m))

nodes-conjunction : (m : ℕ) (fs : List (Plain ViewAtom)) → EachHas m fs → 0 < length fs → nodes (conjunction fs) + 1 ≡ length fs * (1 + m)
nodes-conjunction m [] h some = absurd (omega arith)
nodes-conjunction m (f ∷ fs) h some =
    let e : nodes f ≡ m = h.0 in
    omega (arith, nodes-joined m f fs h.1, e, suc-mul (length fs) (1 + m))

-- ---- terms

persist-each : (w : List (ℕ × ℕ)) → EachHas 1 (map can_persist w)
persist-each [] = tt
persist-each (e ∷ w) = (refl, persist-each w)

nodes-term : (f : Plain CrashAtom) (w : List (ℕ × ℕ)) (k : ℕ) → length w ≡ suc k → nodes (term f w) ≡ nodes f + 2 * suc k
nodes-term f w k long =
    let l : length (map can_persist w) ≡ suc k = length-map w can_persist ∙ long in
    let c : nodes (conjunction (map can_persist w)) + 1 ≡ length (map can_persist w) * 2 = nodes-conjunction 1 (map can_persist w) (persist-each w) (omega arith) in
    omega (arith, c, l, nodes-fill w f)

-- ---- choices

abbrev pub EachHasLength : ℕ → List (List (ℕ × ℕ)) → Type 0
EachHasLength k [] = Unit {0}
EachHasLength k (w ∷ ws) = (length w ≡ k) × EachHasLength k ws

both_have : (k : ℕ) (ws us : List (List (ℕ × ℕ))) → EachHasLength k ws → EachHasLength k us → EachHasLength k (ws ++ us)
both_have k [] us h i = i
both_have k (w ∷ ws) us h i = (h.0, both_have k ws us h.1 i)

longer : (e : ℕ × ℕ) (k : ℕ) (ws : List (List (ℕ × ℕ))) → EachHasLength k ws → EachHasLength (suc k) (map (λ w. e ∷ w) ws)
longer e k [] h = tt
longer e k (w ∷ ws) h = (ap suc h.0, longer e k ws h.1)

put_length : (x k : ℕ) (ws : List (List (ℕ × ℕ))) → EachHasLength k ws → (a n : ℕ) → EachHasLength (suc k) (flat_map (λ v. map (λ w. (x, v) ∷ w) ws) (range_with_len a n))
put_length x k ws h a zero = tt
put_length x k ws h a (suc n) = both_have (suc k) (map (λ w. (x, a) ∷ w) ws) (flat_map (λ v. map (λ w. (x, v) ∷ w) ws) (range_with_len (a + 1) n)) (longer (x, a) k ws h) (put_length x k ws h (a + 1) n)

vectors_length : (d : ℕ) (xs : List ℕ) → EachHasLength (length xs) (vectors d xs)
vectors_length d [] = (refl, tt)
vectors_length d (x ∷ xs) = put_length x (length xs) (vectors d xs) (vectors_length d xs) 0 d

put_count : (x : ℕ) (ws : List (List (ℕ × ℕ))) (a n : ℕ) → length (flat_map (λ v. map (λ w. (x, v) ∷ w) ws) (range_with_len a n)) ≡ n * length ws
put_count x ws a zero = omega arith
put_count x ws a (suc n) =
    let first : List (List (ℕ × ℕ)) = map (λ w. (x, a) ∷ w) ws in
    let others : List (List (ℕ × ℕ)) = flat_map (λ v. map (λ w. (x, v) ∷ w) ws) (range_with_len (a + 1) n) in
    let l : length first ≡ length ws = length-map ws (λ w. (x, a) ∷ w) in
    omega (arith, length-append first others, l, put_count x ws (a + 1) n, suc-mul n (length ws))

vectors_count : (d : ℕ) (xs : List ℕ) → length (vectors d xs) ≡ d ^ length xs
vectors_count d [] = sym (pow-zero d)
vectors_count d (x ∷ xs) = put_count x (vectors d xs) 0 d ∙ ap (λ (n : ℕ). d * n) (vectors_count d xs) ∙ sym (pow-succ' d (length xs))

-- ---- the whole

terms-each : (f : Plain CrashAtom) (k : ℕ) (ws : List (List (ℕ × ℕ))) → EachHasLength (suc k) ws → EachHas (nodes f + 2 * suc k) (map (term f) ws)
terms-each f k [] h = tt
terms-each f k (w ∷ ws) h = (nodes-term f w k h.0, terms-each f k ws h.1)

-- c formulas of m nodes each, joined
joined_size : (c m n : ℕ) → n + 1 ≡ c * (1 + m) → n ≡ c * m + c - 1
joined_size c m n e =
    let plus : 1 + m ≡ suc m = omega arith in
    let product : c * (1 + m) ≡ c * m + c = ap (λ (k : ℕ). c * k) plus ∙ mul-suc c m in
    omega (arith, e, product)

pub expansions_have_their_size : ExpansionsHaveTheirSize
expansions_have_their_size d [] f one = nodes-fill [] f
expansions_have_their_size d (x ∷ xs) f one =
    let k : ℕ = length xs in
    let ws : List (List (ℕ × ℕ)) = vectors d (x ∷ xs) in
    let m : ℕ = nodes f + 2 * suc k in
    let count : length (map (term f) ws) ≡ d ^ suc k = length-map ws (term f) ∙ vectors_count d (x ∷ xs) in
    let some : 1 ≤ d ^ suc k = one-le-pow (suc k) d one in
    let all : nodes (conjunction (map (term f) ws)) + 1 ≡ length (map (term f) ws) * (1 + m) = nodes-conjunction m (map (term f) ws) (terms-each f k ws (vectors_length d (x ∷ xs))) (omega arith) in
    joined_size (d ^ suc k) m (nodes (conjunction (map (term f) ws))) (all ∙ ap (λ (n : ℕ). n * (1 + m)) count)

-- ---- bounds

-- six values of three locations
pub terms_few : (d k : ℕ) → d ≤ 6 → k ≤ 3 → d ^ k ≤ 216
terms_few d k low few =
    let wide : d ^ k ≤ 6 ^ k = pow-le-pow_left low k in
    let deep : 6 ^ k ≤ 6 ^ 3 = pow-le-pow_right (lit≤ tt) few in
    omega arith

pub products_few : (t n k : ℕ) → t ≤ 216 → n ≤ 512 → k ≤ 3 → t * (n + 2 * k) ≤ 111888
products_few t n k few nodes named =
    let long : n + 2 * k ≤ 518 = omega arith in
    let h : t * (n + 2 * k) ≤ 216 * 518 = mul-le-mul few long in
    h

-- the values of the domain fit a byte
pub values_fit : (t : NameTable) (f : Plain CrashAtom) → t.domain ≤ 6 → AllAtoms (IsAtomOf t) f → AllAtoms (HasValueBelow 256) f
values_fit t top low h = tt
values_fit t bottom low h = tt
values_fit t (atom (crash.Scalar r k)) low h =
    let small : k < t.domain = h.1 in
    omega arith
values_fit t (atom (crash.Location x v)) low h =
    let small : v < t.domain = h.1 in
    omega arith
values_fit t (neg f) low h = values_fit t f low h
values_fit t (both f g) low h = (values_fit t f low h.0, values_fit t g low h.1)
values_fit t (either f g) low h = (values_fit t f low h.0, values_fit t g low h.1)
values_fit t (implies f g) low h = (values_fit t f low h.0, values_fit t g low h.1)

-- the size that is found is that of the expansion
pub size_found :
    (t : NameTable) (f : Plain CrashAtom) (d l s : ℕ)
    → 2 ≤ t.domain
    → d ≡ t.domain
    → l ≡ length t.locations
    → s ≡ expansion_size d (length (named l f)) (nodes f)
    → s ≡ nodes (expansion t f)
size_found t f d l s low domain locations is =
    is ∙ ap (λ (k : ℕ). expansion_size k (length (named l f)) (nodes f)) domain
    ∙ ap (λ (k : ℕ). expansion_size t.domain (length (named k f)) (nodes f)) locations
    ∙ sym (expansions_have_their_size t.domain (named (length t.locations) f) f (omega arith))

-- what was built has the size that is found
pub size_built : (d s : ℕ) (xs : List ℕ) (f : Plain CrashAtom) (g : Plain ViewAtom) → 1 ≤ d → g ≡ expansion_over d xs f → s ≡ expansion_size d (length xs) (nodes f) → nodes g ≡ s
size_built d s xs f g one built is = ap nodes built ∙ expansions_have_their_size d xs f one ∙ sym is
