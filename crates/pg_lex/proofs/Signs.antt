-- The table of signs: what is found is in front, and it is the longest.
use Rattle.std.proofs.Common.{◌≡◌, ◌≢◌, ℕ, zero, suc, ◌<◌, ◌≤◌, ◌⊎◌, inl, inr, Bool, true, false, List, [], ◌∷◌, ◌++◌, length, nat_eq, slice_index, arith, refl, ap, lit<, lit≤}
use Rattle.std.specs.Prelude.{Some, None, find, slice_get}
use Rattle.std.specs.List.{starts_with}
use Rattle.std.proofs.lemmas.Slice.Eq.{starts_is}
use Rattle.std.proofs.lemmas.Bool.Decides.{Decides-eqb}
use Rattle.pg_lex.specs.declared.token.Sign.{Sign}
use Rattle.pg_lex.specs.declared.token.Sign.TheVariants.{Assign, Arrow, NotEqual, Equal, Not, And, Or, Plus, Minus, Times, Open, Close, OpenSquare, CloseSquare, OpenBrace, CloseBrace, Less, Greater, Semicolon, Comma}
use Rattle.pg_lex.specs.Piece.{signs, spelling, sign_of}
use Rattle.pg_lex.proofs.Runs.{cond_gives}

find_some : {X : Type 0} (p : X → Bool) (xs : List X) (x : X) → find p xs ≡ Some x → p x ≡ true
find_some p [] x h = absurd (cc)
find_some p (y ∷ ys) x h =
    elim (cond_gives (p y) (Some y) (find p ys) (Some x) h)
    [ inl e ↦ let same : y ≡ x = cc e.1 in rw (← same) e.0 | inr e ↦ find_some p ys x e.1 ]

find_none : {X : Type 0} (p : X → Bool) (xs : List X) (k : ℕ) (x : X) → find p xs ≡ None → slice_get xs k ≡ Some x → p x ≡ false
find_none p [] k x h found = absurd (cc)
find_none p (y ∷ ys) zero x h found =
    elim (cond_gives (p y) (Some y) (find p ys) None h)
    [ inl e ↦ absurd (let never = e.1 in cc) | inr e ↦ let same : y ≡ x = cc in rw (← same) e.0 ]
find_none p (y ∷ ys) (suc k) x h found =
    elim (cond_gives (p y) (Some y) (find p ys) None h)
    [ inl e ↦ absurd (let never = e.1 in cc) | inr e ↦ find_none p ys k x e.1 found ]

-- where each sign stands in the table
index_of : (s : Sign) → (k : ℕ) × (slice_get signs k ≡ Some s)
index_of Assign = (0, refl)
index_of Arrow = (1, refl)
index_of NotEqual = (2, refl)
index_of Equal = (3, refl)
index_of Not = (4, refl)
index_of And = (5, refl)
index_of Or = (6, refl)
index_of Plus = (7, refl)
index_of Minus = (8, refl)
index_of Times = (9, refl)
index_of Open = (10, refl)
index_of Close = (11, refl)
index_of OpenSquare = (12, refl)
index_of CloseSquare = (13, refl)
index_of OpenBrace = (14, refl)
index_of CloseBrace = (15, refl)
index_of Less = (16, refl)
index_of Greater = (17, refl)
index_of Semicolon = (18, refl)
index_of Comma = (19, refl)

-- one byte, or two of which the second is not 0
abbrev IsShort : List ℕ → Type 0
IsShort text = ((a : ℕ) × (text ≡ a ∷ [])) ⊎ ((a b : ℕ) × (text ≡ a ∷ b ∷ []) × (0 < b))

spelling_is_short : (s : Sign) → IsShort (spelling s)
spelling_is_short Assign = inr (58, 61, refl, lit< tt)
spelling_is_short Arrow = inr (45, 62, refl, lit< tt)
spelling_is_short NotEqual = inr (33, 61, refl, lit< tt)
spelling_is_short _ = inl (_, refl)

pub one_le-spelling : (s : Sign) → 1 ≤ length (spelling s)
one_le-spelling s =
    elim (spelling_is_short s)
    [ inl e ↦ rw e.1 (lit≤ tt) | inr e ↦ rw e.2 (lit≤ tt) ]

-- the test on two bytes, and the sign's bytes in front
spelled : (text : List ℕ) (b : ℕ) (bs : List ℕ) → IsShort text
    → starts_with nat_eq (b ∷ slice_index bs 0 ∷ []) text ≡ true → (more : List ℕ) × (b ∷ bs ≡ text ++ more)
spelled text b bs (inl e) h =
    let both = rw e.1 at ((starts_is Decides-eqb (b ∷ slice_index bs 0 ∷ []) text _ refl).0 h) in
    (bs, rw e.1 (cc both))
spelled text b [] (inr e) h =
    let both = rw e.2 at ((starts_is Decides-eqb (b ∷ 0 ∷ []) text _ refl).0 h) in
    let second : 0 ≡ e.1 = cc both in absurd (omega (arith, e.3, second))
spelled text b (y ∷ ys) (inr e) h =
    let both = rw e.2 at ((starts_is Decides-eqb (b ∷ y ∷ []) text _ refl).0 h) in (ys, rw e.2 (cc both))

tested : (text : List ℕ) (b : ℕ) (bs more : List ℕ) → IsShort text → b ∷ bs ≡ text ++ more
    → starts_with nat_eq (b ∷ slice_index bs 0 ∷ []) text ≡ true
tested text b bs more (inl e) split =
    let whole = rw e.1 at split in
    (starts_is Decides-eqb (b ∷ slice_index bs 0 ∷ []) text _ refl).1 (slice_index bs 0 ∷ []) (rw e.1 (cc whole))
tested text b bs more (inr e) split =
    let whole = rw e.2 at split in
    let tail : bs ≡ e.1 ∷ more = cc whole in
    let second : slice_index bs 0 ≡ e.1 = ap (λ (l : List ℕ). slice_index l 0) tail in
    (starts_is Decides-eqb (b ∷ slice_index bs 0 ∷ []) text _ refl).1 [] (rw e.2 (cc whole))

-- a sign of two bytes is found where its bytes are in front
two_bytes : (b x y : ℕ) (bs more : List ℕ) (s t : Sign) → sign_of x y ≡ Some t → b ∷ bs ≡ x ∷ y ∷ more
    → sign_of b (slice_index bs 0) ≡ Some s → length (spelling t) ≤ length (spelling s)
two_bytes b x y bs more s t found split h =
    let first : b ≡ x = cc in
    let tail : bs ≡ y ∷ more = cc in
    let second : slice_index bs 0 ≡ y = ap (λ (l : List ℕ). slice_index l 0) tail in
    let same : s ≡ t = cc in
    omega (arith, ap (λ (u : Sign). length (spelling u)) same)

abbrev is_in_front : ℕ → ℕ → Sign → Bool
is_in_front a b s = starts_with nat_eq (a ∷ b ∷ []) (spelling s)

clash : (v : Bool) → v ≡ true → v ≡ false → ⊥
clash v passes fails = cc

pub sign_in_front : (b : ℕ) (bs : List ℕ) (s : Sign) → sign_of b (slice_index bs 0) ≡ Some s
    → (more : List ℕ) × (b ∷ bs ≡ spelling s ++ more)
unfolding sign_of
sign_in_front b bs s h = spelled (spelling s) b bs (spelling_is_short s) (find_some (is_in_front b (slice_index bs 0)) signs s h)

pub sign_is_longest : (b : ℕ) (bs : List ℕ) (s t : Sign) (more : List ℕ) → sign_of b (slice_index bs 0) ≡ Some s
    → b ∷ bs ≡ spelling t ++ more → length (spelling t) ≤ length (spelling s)
unfolding sign_of
sign_is_longest b bs s Assign more h split = two_bytes b 58 61 bs more s Assign refl split h
sign_is_longest b bs s Arrow more h split = two_bytes b 45 62 bs more s Arrow refl split h
sign_is_longest b bs s NotEqual more h split = two_bytes b 33 61 bs more s NotEqual refl split h
sign_is_longest b bs s _ more h split = one_le-spelling s

pub no_sign_in_front : (b : ℕ) (bs : List ℕ) (s : Sign) (more : List ℕ) → sign_of b (slice_index bs 0) ≡ None
    → b ∷ bs ≢ spelling s ++ more
unfolding sign_of
no_sign_in_front b bs s more h split =
    clash _ (tested (spelling s) b bs more (spelling_is_short s) split)
    (find_none (is_in_front b (slice_index bs 0)) signs (index_of s).0 s h (index_of s).1)
