-- The law of the expansion. Where the expansion is true, the values that a crash leaves in the named locations are those of one of
-- its choices. And for a choice whose values may all persist, of locations on lines of their own, there is a crash that leaves them.
use Rattle.std.proofs.Common.{◌≡◌, ℕ, zero, suc, ◌+◌, ◌<◌, ◌≤◌, ◌==◌, Bool, true, false, cond, ◌||◌, List, [], ◌∷◌, map, length, get_or, refl, sym, ap, ◌∙◌, inl, inr, arith}
use Rattle.std.specs.List.{All, Contains, range_with_len}
use Rattle.std.proofs.lemmas.Bool.{and_parts, and_from, eq-eqb, eqb-true, true≢false, cases_lt}
use Rattle.std.proofs.lemmas.List.{get_or_past}
use Rattle.std.proofs.lemmas.List.Elements.{All-nil, All-map, All-weaker, All-get_or, All-from_get_or, All-filter, All-contains, All-contains_itself}
use Rattle.std.proofs.lemmas.List.FromFn.{length-range_with_len, get_or-range_with_len}
use Rattle.pg_program.specs.Program.{ProgramTable}
use Rattle.pg_assertion.specs.declared.atom.CrashAtom.{CrashAtom}
use Rattle.pg_assertion.specs.Formula.{Plain}
use Rattle.pg_assertion.specs.Expansion.{mentions, named, vectors, IsChoice, value_in, fill, conjunction, can_persist, term, expansion_over}
use Rattle.pg_assertion.proofs.ExpansionChoices.{vectors_are_the_choices}
use Rattle.pg_machine.specs.Memory.{Memory, line_of, reaches, value_at, last}
use Rattle.pg_machine.specs.State.{State, IsWellFormed}
use Rattle.pg_machine.proofs.Uses.{value-below}
use Rattle.pg_machine.proofs.Reached.{reaches-less, reaches-last}
use Rattle.pg_views.specs.Atom.{some_below, shows, committed_to, atom_holds, may_persist}
use Rattle.pg_views.specs.Formula.{holds}
use Rattle.pg_views.specs.Crash.{cut, IsCrashChoice, values_at, crash_memory}
use Rattle.pg_views.specs.CrashLaw.{ExpansionIsEnough, NamesLinesApart, ExpansionIsNeeded, ExpansionIsExact, PersistsWhereLeft}
use Rattle.pg_views.proofs.Below.{shown-at}
use Rattle.pg_views.proofs.Found.{values_at-length, locations-count, lines-count}
use Rattle.pg_views.proofs.Kept.{AreKept, kept, kept-size, kept-get, kept-is_choice}
use Rattle.pg_views.proofs.Filled.{Is, Persists, among, graph, graph-keys, graph-agrees, named-inside, named-past, choice-none, choice-persists, conjunction-parts, conjunction-whole, implied, implies-then, term-premise, premise-holds, fill-is, All-unmap}

-- ---- what the expansion says

-- for each choice whose values may all persist, the formula with these values put in
pub record AllChoices (s : State) (d : ℕ) (xs : List ℕ) (f : Plain CrashAtom) : Type 0 where
  pub each : (w : List (ℕ × ℕ)) → IsChoice d xs w → All (Persists s) w → holds s (fill w f) ≡ true

expansion-says : (s : State) (d : ℕ) (xs : List ℕ) (f : Plain CrashAtom) → holds s (expansion_over d xs f) ≡ true → (w : List (ℕ × ℕ)) → IsChoice d xs w → All (Persists s) w → holds s (fill w f) ≡ true
expansion-says s d [] f h [] is can = h
expansion-says s d [] f h (e ∷ w) is can = absurd (let no : e.0 ∷ map (λ u. u.0) w ≡ [] = is.locations in cc)
expansion-says s d (x ∷ xs) f h w is can =
    let val = atom_holds s in
    let each = All-unmap (Is val) (term f) (vectors d (x ∷ xs)) (conjunction-parts val (map (term f) (vectors d (x ∷ xs))) h) in
    let found = (vectors_are_the_choices d (x ∷ xs) w).1 is in
    implies-then (holds s (conjunction (map can_persist w))) (holds s (fill w f))
    (All-contains (λ u. Is val (term f u)) (vectors d (x ∷ xs)) w each found) (premise-holds s w can)

expansion-made : (s : State) (d : ℕ) (xs : List ℕ) (f : Plain CrashAtom) → AllChoices s d xs f → holds s (expansion_over d xs f) ≡ true
expansion-made s d [] f h = h.each [] (record { locations = refl; values = All-nil (λ (e : ℕ × ℕ). e.1 < d) }) (All-nil (Persists s))
expansion-made s d (x ∷ xs) f h =
    let val = atom_holds s in
    conjunction-whole val (map (term f) (vectors d (x ∷ xs)))
    (All-map (Is val) (term f) (vectors d (x ∷ xs))
    (All-weaker (Contains (vectors d (x ∷ xs))) (λ w. Is val (term f w)) (λ w inside.
    implied (holds s (conjunction (map can_persist w))) (holds s (fill w f)) (λ k.
    h.each w ((vectors_are_the_choices d (x ∷ xs) w).0 inside) (term-premise s w k))) (vectors d (x ∷ xs)) (All-contains_itself (vectors d (x ∷ xs)))))

-- ---- the memory that a crash leaves

values_at-get : (m : Memory) (a : ℕ) (ps : List ℕ) (i : ℕ) → i < length ps → get_or (values_at m a ps) i 0 ≡ value_at m (a + i) (get_or ps i 0)
values_at-get m a [] i lt = absurd (omega arith)
values_at-get m a (p ∷ ps) zero lt = let e : a ≡ a + 0 = omega arith in ap (λ (x : ℕ). value_at m x p) e
values_at-get m a (p ∷ ps) (suc i) lt =
    let e : suc a + i ≡ a + suc i = omega arith in
    values_at-get m (suc a) ps i (omega arith) ∙ ap (λ (x : ℕ). value_at m x (get_or ps i 0)) e

-- at a declared location it has the value at the position that is taken
pub crash_memory-at : (s : State) (ps : List ℕ) (x : ℕ) → x < length ps → get_or (crash_memory s ps) x 0 ≡ value_at s.memory x (get_or ps x 0)
crash_memory-at s ps x lt =
    let e : 0 + x ≡ x = omega arith in
    values_at-get s.memory 0 ps x lt ∙ ap (λ (y : ℕ). value_at s.memory y (get_or ps x 0)) e

pub length-crash_memory : (s : State) (ps : List ℕ) → length (crash_memory s ps) ≡ length ps
length-crash_memory s ps = values_at-length s.memory 0 ps

-- ---- the expansion is enough

-- the values of a state's memory are in the domain
pub value-inside : (p : ProgramTable) (s : State) (x q : ℕ) → IsWellFormed p s → x < length s.memory.initial → value_at s.memory x q < p.names.domain
value-inside p s x q h lt =
    let first = All-get_or (λ v. v < p.names.domain) s.memory.initial x 0 lt h.memory.values in
    value-below p.names.domain s.memory x q (omega (arith, first)) h.memory.values
    (All-weaker (λ (m : ℕ × ℕ). (m.0 < length s.memory.initial) × (m.1 < p.names.domain)) (λ m. m.1 < p.names.domain) (λ m both. both.1) s.memory.messages h.memory.messages)

-- the named locations are declared
named-declared : (n : ℕ) (f : Plain CrashAtom) → All (λ x. x < n) (named n f)
named-declared n f =
    All-filter (λ y. mentions y f) (λ x. x < n) (range_with_len 0 n) (All-from_get_or (λ x. x < n) (range_with_len 0 n) 0 (λ i lt.
    let size = length-range_with_len 0 n in
    let is = get_or-range_with_len 0 n i 0 (omega (arith, size, lt)) in
    omega (arith, size, lt, is)))

-- a crash may leave in each location what it leaves: its line is cut at no less than what was committed to it
left-persists : (s : State) (ps : List ℕ) (x : ℕ) → IsCrashChoice s ps → x < length s.memory.initial → may_persist s x (get_or (crash_memory s ps) x 0) ≡ true
left-persists s ps x c lt =
    let size = c.size in
    let p : ℕ = get_or ps x 0 in
    let reached = reaches-less s.memory.messages x 0 (committed_to s x) 0 (cut s ps (line_of s.memory x)) (omega arith) (omega arith) p (c.positions x lt) in
    shown-at s.memory x 0 (committed_to s x) (get_or (crash_memory s ps) x 0) p
    (and_from (reaches s.memory.messages x 0 (committed_to s x) p) (value_at s.memory x p == get_or (crash_memory s ps) x 0) reached
    (eq-eqb (value_at s.memory x p) (get_or (crash_memory s ps) x 0) (sym (crash_memory-at s ps x (omega (arith, size, lt))))))

pub expansion_is_enough : ExpansionIsEnough
expansion_is_enough p s f h true-here ps c =
    sym (fill-is s (graph memory (named n f)) memory f (graph-agrees memory n f short))
    ∙ expansion-says s p.names.domain (named n f) f true-here (graph memory (named n f)) choice
    (All-map (Persists s) (λ x. (x, get_or memory x 0)) (named n f)
    (All-weaker (λ x. x < n) (λ x. Persists s (x, get_or memory x 0)) (λ x lt. left-persists s ps x c (inside x lt)) (named n f) (named-declared n f)))
  where
    memory : List ℕ
    memory = crash_memory s ps

    n : ℕ
    n = length p.names.locations

    count : length s.memory.initial ≡ n
    count = locations-count p s h

    short : length memory ≤ n
    short = let a = length-crash_memory s ps in let b = c.size in omega (arith, a, b, count)

    inside : (x : ℕ) → x < n → x < length s.memory.initial
    inside x lt = omega (arith, count, lt)

    low : (x : ℕ) → x < n → get_or memory x 0 < p.names.domain
    low x lt =
        let size = c.size in
        let mine = inside x lt in
        let is = crash_memory-at s ps x (omega (arith, size, mine)) in
        let below = value-inside p s x (get_or ps x 0) h mine in
        omega (arith, is, below)

    choice : IsChoice p.names.domain (named n f) (graph memory (named n f))
    choice = record {
      locations = graph-keys memory (named n f);
      values = All-map (λ (e : ℕ × ℕ). e.1 < p.names.domain) (λ x. (x, get_or memory x 0)) (named n f)
          (All-weaker (λ x. x < n) (λ x. get_or memory x 0 < p.names.domain) low (named n f) (named-declared n f));
    }

-- ---- the expansion is needed

-- a number below n that meets the test, where there is one
abbrev pub found : (ℕ → Bool) → ℕ → ℕ
found f zero = 0
found f (suc n) = cond (f n) n (found f n)

pub found-is : (f : ℕ → Bool) (n : ℕ) → some_below f n ≡ true → f (found f n) ≡ true
found-is f zero h = absurd (true≢false (sym h))
found-is f (suc n) h = by (f n) refl h (found-is f n)
  where
    by : (b : Bool) → f n ≡ b → (b || some_below f n) ≡ true → (some_below f n ≡ true → f (found f n) ≡ true) → f (cond b n (found f n)) ≡ true
    by true e k rest = e
    by false e k rest = rest k

-- a position at which x may be left alone, with the value v where one has it
abbrev pub position_of : State → ℕ → ℕ → ℕ
position_of s x v = cond (may_persist s x v) (found (shows s.memory x 0 (committed_to s x) v) (suc (length s.memory.messages))) (last s.memory.messages x)

found-parts : (s : State) (x v : ℕ) → may_persist s x v ≡ true
    → (reaches s.memory.messages x 0 (committed_to s x) (position_of s x v) ≡ true) × (value_at s.memory x (position_of s x v) ≡ v)
found-parts s x v h =
    let at : ℕ = found (shows s.memory x 0 (committed_to s x) v) (suc (length s.memory.messages)) in
    let parts = and_parts (reaches s.memory.messages x 0 (committed_to s x) at) (value_at s.memory x at == v) (found-is (shows s.memory x 0 (committed_to s x) v) (suc (length s.memory.messages)) h) in
    let is : position_of s x v ≡ at = ap (λ (b : Bool). cond b at (last s.memory.messages x)) h in
    (ap (reaches s.memory.messages x 0 (committed_to s x)) is ∙ parts.0, ap (value_at s.memory x) is ∙ eqb-true (value_at s.memory x at) v parts.1)

position-reached : (s : State) (x v : ℕ) → reaches s.memory.messages x 0 (committed_to s x) (position_of s x v) ≡ true
position-reached s x v = by (may_persist s x v) refl
  where
    by : (b : Bool) → may_persist s x v ≡ b → reaches s.memory.messages x 0 (committed_to s x) (position_of s x v) ≡ true
    by true e = (found-parts s x v e).0
    by false e =
        ap (λ (b : Bool). reaches s.memory.messages x 0 (committed_to s x) (cond b (found (shows s.memory x 0 (committed_to s x) v) (suc (length s.memory.messages))) (last s.memory.messages x))) e
        ∙ reaches-last s.memory.messages x 0 (committed_to s x) refl

-- a crash at which the named locations have the values of a choice
abbrev named_at : State → List (ℕ × ℕ) → ℕ → ℕ
named_at s w x = position_of s x (value_in w x)

named-kept : (p : ProgramTable) (s : State) (f : Plain CrashAtom) (w : List (ℕ × ℕ)) → IsWellFormed p s → NamesLinesApart p.names f → AreKept s (λ x. mentions x f) (named_at s w)
named-kept p s f w h far = record {
  lined = lines-count p s h;
  reached = λ x e. position-reached s x (value_in w x);
  apart = λ x y low high a b same.
      far x y (omega (arith, count, low)) (omega (arith, count, high)) a b
      (ap (λ (ks : List ℕ). get_or ks x 0) (sym h.memory.lines) ∙ (same ∙ ap (λ (ks : List ℕ). get_or ks y 0) h.memory.lines));
}
  where
    count : length s.memory.initial ≡ length p.names.locations
    count = locations-count p s h

-- it leaves them where all of them may persist
kept-agrees : (s : State) (n : ℕ) (f : Plain CrashAtom) (w : List (ℕ × ℕ)) → length s.memory.initial ≡ n → map (λ e. e.0) w ≡ named n f → All (Persists s) w
    → (x : ℕ) → mentions x f ≡ true → value_in w x ≡ get_or (crash_memory s (kept s (λ y. mentions y f) (named_at s w))) x 0
kept-agrees s n f w count keys can x m = elim (cases_lt x n) [
  | inl inside ↦
      let here : x < length s.memory.initial = omega (arith, count, inside) in
      let size = kept-size s is (named_at s w) in
      let there : among (map (λ e. e.0) w) x ≡ true = ap (λ (l : List ℕ). among l x) keys ∙ named-inside n f x m inside in
      let shown = found-parts s x (value_in w x) (choice-persists s w x can there) in
      sym (crash_memory-at s (kept s is (named_at s w)) x (omega (arith, size, here)) ∙ (ap (value_at s.memory x) (kept-get s is (named_at s w) x here m) ∙ shown.1))
  | inr past ↦
      let a = length-crash_memory s (kept s is (named_at s w)) in
      let b = kept-size s is (named_at s w) in
      let none : among (map (λ e. e.0) w) x ≡ false = ap (λ (l : List ℕ). among l x) keys ∙ named-past n f x past in
      choice-none w x none ∙ sym (get_or_past (crash_memory s (kept s is (named_at s w))) x 0 (omega (arith, a, b, count, past)))
]
  where
    is : ℕ → Bool
    is y = mentions y f

pub expansion_is_needed : ExpansionIsNeeded
expansion_is_needed p s f h far at-crash =
    expansion-made s p.names.domain (named n f) f (record {
      each = λ w is can.
          fill-is s w (crash_memory s (left w)) f (kept-agrees s n f w (locations-count p s h) is.locations can)
          ∙ at-crash (left w) (kept-is_choice s (λ x. mentions x f) (named_at s w) (named-kept p s f w h far));
    })
  where
    n : ℕ
    n = length p.names.locations

    left : List (ℕ × ℕ) → List ℕ
    left w = kept s (λ x. mentions x f) (named_at s w)

pub expansion_is_exact : ExpansionIsExact
expansion_is_exact p s f h far = (expansion_is_enough p s f h, expansion_is_needed p s f h far)

-- ---- what may persist

-- one location is kept
alone-kept : (p : ProgramTable) (s : State) (x q : ℕ) → IsWellFormed p s → reaches s.memory.messages x 0 (committed_to s x) q ≡ true → AreKept s (λ y. y == x) (λ y. q)
alone-kept p s x q h reached = record {
  lined = lines-count p s h;
  reached = λ y e. ap (λ (z : ℕ). reaches s.memory.messages z 0 (committed_to s z) q) (eqb-true y x e) ∙ reached;
  apart = λ y z low high a b same. eqb-true y x a ∙ sym (eqb-true z x b);
}

pub persists_where_left : PersistsWhereLeft
persists_where_left p s x v h lt = (
  λ can.
      let q : ℕ = position_of s x v in
      let shown = found-parts s x v can in
      let size = kept-size s (λ y. y == x) (λ y. q) in (
        kept s (λ y. y == x) (λ y. q),
        kept-is_choice s (λ y. y == x) (λ y. q) (alone-kept p s x q h shown.0),
        crash_memory-at s (kept s (λ y. y == x) (λ y. q)) x (omega (arith, size, inside))
            ∙ (ap (value_at s.memory x) (kept-get s (λ y. y == x) (λ y. q) x inside (eq-eqb x x refl)) ∙ shown.1),
      ),
  λ left. ap (may_persist s x) (sym left.2) ∙ left-persists s left.0 x left.1 inside,
)
  where
    inside : x < length s.memory.initial
    inside = let count = locations-count p s h in omega (arith, count, lt)
