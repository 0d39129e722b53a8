use Rattle.std.proofs.Common.{◌≡◌, ℕ, ◌+◌, ◌-◌, ◌^◌, ◌*◌, ◌/◌, ◌%◌, ◌<◌, ◌≤◌, Bool, true, false, cond, List, [], ◌∷◌, ◌++◌, length, get_or, set, take, refl, sym, ap, subst, ◌∙◌, arith, inl, inr, ◌⊎◌, replicate}
use Rattle.std.proofs.lemmas.Bool.{cases_eq, cases_lt, both_ways, eq-eqb}
use Rattle.std.proofs.lemmas.List.{get_or_append_left, get_or_push, length_push, length-set, take_more, get_or-replicate, get_or_past, length-replicate, nil_from_length}
use Rattle.pg_region.specs.Literal.{Literal, negated}
use Rattle.pg_region.specs.Region.{clause_at}
use Rattle.pg_decider.specs.Assignment.{on, Forces, AreFalse}
use Rattle.pg_decider.specs.Chains.{chain, times, held, ChainTable, IsFree, with_chain}
use Rattle.pg_decider.specs.Reached.{AreWithin}
use Rattle.pg_decider.specs.Trail.{lit, none, TrailTable}
use Rattle.pg_decider.specs.Watch.{place, other, Placed, Shape, Grown, Watching, Attaching}
use Rattle.pg_decider.specs.Weigh.{weigh, occurs}
use Rattle.pg_decider.proofs.Weighing.{occurs-other, weigh-set, weigh-none}
use Rattle.pg_decider.proofs.Placing.{placed-pushed, chain-there}
use Rattle.pg_decider.proofs.Watching.{others}
use Rattle.pg_decider.proofs.Literals.{on-push, added-cases, same-not}
use Rattle.pg_decider.proofs.Visits.{place-within, grown-same, grown-trans}

lit-old : (ws : List Literal) (a : Literal) (x : ℕ) → x < length ws → lit (ws ++ a ∷ []) x ≡ lit ws x
lit-old ws a x lt = get_or_append_left ws (a ∷ []) none x lt

lit-new : (ws : List Literal) (a : Literal) → lit (ws ++ a ∷ []) (length ws) ≡ a
lit-new ws a = get_or_push ws a none (length ws) refl

-- one more slot, which stands in no chain yet
placed-extended : (cs : List (List Literal)) (ws : List Literal) (ls : List (List ℕ)) (f : ℕ) (a : Literal) → Placed cs ws ls f (length ws) → on (clause_at cs (length ws / 2)) a ≡ true →
    Placed cs (ws ++ a ∷ []) ls f (length ws)
placed-extended cs ws ls f a r here = record {
  has = λ x lt. elim (cases_lt x (length ws)) [
    | inl l ↦ subst (λ (m : Literal). on (clause_at cs (x / 2)) m ≡ true) (sym (lit-old ws a x l)) (r.has x l)
    | inr l ↦
        let e : length ws ≡ x = omega (arith, length_push ws a) in
        subst (λ (y : ℕ). on (clause_at cs (y / 2)) (lit (ws ++ a ∷ []) y) ≡ true) e (subst (λ (m : Literal). on (clause_at cs (length ws / 2)) m ≡ true) (sym (lit-new ws a)) here)
  ];
  sound = λ x m pos h. let s = r.sound x m pos h in (omega (arith, s.0, length_push ws a), ap place (lit-old ws a x s.0) ∙ s.1);
  late = λ x h. let s = r.late x h in (omega (arith, s.0, length_push ws a), ap place (lit-old ws a x s.0) ∙ s.1);
  full = λ x lt ne.
      let l : x < length ws = omega (arith, length_push ws a) in
      omega (arith, r.full x l (λ e. omega arith), ap (λ (m : Literal). occurs x (chain ls (place m))) (lit-old ws a x l));
}

-- a half of a clause's watches
pub record Halfway (cs : List (List Literal)) (ws : List Literal) (ct : ChainTable) (t : TrailTable) : Type 0 where
  pub over : AreWithin t.atoms cs
  pub lists : 2 * t.atoms + 3 ≤ length ct.lists
  pub slots : 2 * length cs ≤ ct.slots
  pub few : 2 * length cs < 2 ^ 32
  pub placed : Placed cs ws ct.lists 0 (length ws)
  pub empty : chain ct.lists 0 ≡ []
  pub out : (x : ℕ) → length ws ≤ x → times x ct.lists ≡ 0
  pub used : held ct.lists ≡ length ws

pub halfway-free : (cs : List (List Literal)) (ws : List Literal) (ct : ChainTable) (t : TrailTable) → Halfway cs ws ct t → length ws < 2 * length cs → IsFree ct (length ws)
halfway-free cs ws ct t h lt = record { out = h.out (length ws) (omega arith); slot = omega (arith, h.slots); room = omega (arith, h.slots, h.used) }

pub halfway-next : (cs : List (List Literal)) (ws : List Literal) (ct : ChainTable) (t : TrailTable) (a : Literal) → Halfway cs ws ct t → length ws < 2 * length cs → on (clause_at cs (length ws / 2)) a ≡ true →
    Halfway cs (ws ++ a ∷ []) (with_chain ct (place a) (length ws ∷ chain ct.lists (place a))) t
halfway-next cs ws ct t a h lt here =
    let w = place-within a t.atoms (h.over (length ws / 2) a here) in
    let m = place a in
    let xs = length ws ∷ chain ct.lists m in
    let mlt : m < length ct.lists = omega (arith, w.1, h.lists) in
    record {
      over = h.over;
      lists = omega (arith, h.lists, length-set ct.lists m xs);
      slots = h.slots;
      few = h.few;
      placed = placed-pushed cs (ws ++ a ∷ []) ct.lists 0 (length ws) m (placed-extended cs ws ct.lists 0 a h.placed here) (omega (arith, length_push ws a)) (ap place (sym (lit-new ws a))) w.0 mlt;
      empty = chain-there ct.lists m 0 xs (λ e. omega arith) ∙ h.empty;
      out = λ x le. omega (arith, weigh-set (occurs x) ct.lists m xs [] mlt, occurs-other x (length ws) (chain ct.lists m) (λ e. omega (arith, length_push ws a)), h.out x (omega (arith, length_push ws a)));
      used = omega (arith, weigh-set length ct.lists m xs [] mlt, h.used, length_push ws a);
    }

pub attaching-half : (cs : List (List Literal)) (ws : List Literal) (ct : ChainTable) (t0 t : TrailTable) (k : ℕ) → Attaching cs ws ct t0 t k → Halfway cs ws ct t
attaching-half cs ws ct t0 t k r = record { over = r.over; lists = r.lists; slots = r.slots; few = r.few; placed = r.placed; empty = r.empty; out = r.out; used = r.used }

-- both watches of clause k, and the literal of a clause that has one
pub attaching-next : (cs : List (List Literal)) (ws : List Literal) (ct ct' : ChainTable) (t0 t t' : TrailTable) (k : ℕ) (a b : Literal) → Attaching cs ws ct t0 t k → Halfway cs ((ws ++ a ∷ []) ++ b ∷ []) ct' t →
    Grown cs t t' → (a ≡ b → (m : Literal) → on (clause_at cs k) m ≡ true → on t'.literals m ≡ true) →
    Attaching cs ((ws ++ a ∷ []) ++ b ∷ []) ct' t0 t' (k + 1)
attaching-next cs ws ct ct' t0 t t' k a b r h g unit = record {
  size = omega (arith, r.size, length_push ws a, length_push (ws ++ a ∷ []) b);
  over = subst (λ (n : ℕ). AreWithin n cs) (sym g.atoms) h.over;
  lists = omega (arith, h.lists, g.atoms);
  slots = h.slots;
  few = h.few;
  placed = h.placed;
  empty = h.empty;
  out = h.out;
  used = h.used;
  one = λ x m lt e on-m. go x m lt (cases_lt x (length ws)) e on-m;
  grown = grown-trans cs t0 t t' r.grown g;
}
  where
    at-a : lit ((ws ++ a ∷ []) ++ b ∷ []) (length ws) ≡ a
    at-a = lit-old (ws ++ a ∷ []) b (length ws) (omega (arith, length_push ws a)) ∙ lit-new ws a

    at-b : lit ((ws ++ a ∷ []) ++ b ∷ []) (length ws + 1) ≡ b
    at-b = ap (λ (n : ℕ). lit ((ws ++ a ∷ []) ++ b ∷ []) n) (sym (length_push ws a)) ∙ lit-new (ws ++ a ∷ []) b

    at-old : (x : ℕ) → x < length ws → lit ((ws ++ a ∷ []) ++ b ∷ []) x ≡ lit ws x
    at-old x lt = lit-old (ws ++ a ∷ []) b x (omega (arith, length_push ws a)) ∙ lit-old ws a x lt

    other-old : (x : ℕ) → x < length ws → other x < length ws
    other-old x lt = subst (λ (n : ℕ). other x < n) (sym r.size) ((others x).within k (omega (arith, r.size)))

    other-even : other (length ws) ≡ length ws + 1
    other-even = ap (λ (z : Bool). cond z (length ws + 1) (length ws - 1)) (eq-eqb (length ws % 2) 0 (omega (arith, r.size)))

    both : (x : ℕ) → (x ≡ length ws) ⊎ (x ≡ length ws + 1) → lit ((ws ++ a ∷ []) ++ b ∷ []) x ≡ lit ((ws ++ a ∷ []) ++ b ∷ []) (other x) → a ≡ b
    both x (inl e) h2 =
        let f : ℕ → Literal = λ n. lit ((ws ++ a ∷ []) ++ b ∷ []) n in
        sym at-a ∙ (ap f (sym e) ∙ (h2 ∙ (ap f (ap other e ∙ other-even) ∙ at-b)))
    both x (inr e) h2 =
        let f : ℕ → Literal = λ n. lit ((ws ++ a ∷ []) ++ b ∷ []) n in
        let o : other x ≡ length ws = ap other (e ∙ sym other-even) ∙ (others (length ws)).back in
        sym at-a ∙ (ap f (sym o) ∙ (sym h2 ∙ (ap f e ∙ at-b)))

    half : (x : ℕ) → (x ≡ length ws) ⊎ (x ≡ length ws + 1) → x / 2 ≡ k
    half x (inl e) = omega (arith, r.size)
    half x (inr e) = omega (arith, r.size)

    which : (x : ℕ) → length ws ≤ x → x < length ((ws ++ a ∷ []) ++ b ∷ []) → (x ≡ length ws) ⊎ (x ≡ length ws + 1)
    which x le lt = elim (cases_eq x (length ws)) [
      | inl e ↦ inl e
      | inr e ↦ inr (omega (arith, length_push ws a, length_push (ws ++ a ∷ []) b))
    ]

    go : (x : ℕ) (m : Literal) → x < length ((ws ++ a ∷ []) ++ b ∷ []) → (x < length ws) ⊎ (length ws ≤ x) → lit ((ws ++ a ∷ []) ++ b ∷ []) x ≡ lit ((ws ++ a ∷ []) ++ b ∷ []) (other x) → on (clause_at cs (x / 2)) m ≡ true → on t'.literals m ≡ true
    go x m lt (inl l) e on-m = g.reached.above m (r.one x m l (sym (at-old x l) ∙ (e ∙ at-old (other x) (other-old x l))) on-m)
    go x m lt (inr l) e on-m =
        let w = which x l lt in
        unit (both x w e) m (subst (λ (n : ℕ). on (clause_at cs n) m ≡ true) (half x w) on-m)

pub attaching-done : (cs : List (List Literal)) (ws : List Literal) (ct : ChainTable) (t0 t : TrailTable) → Attaching cs ws ct t0 t (length cs) →
    (Shape cs ws ct t) × Watching cs ws [] (on []) (on t.literals) (length ws)
attaching-done cs ws ct t0 t r = (
  record { size = r.size; over = r.over; lists = r.lists; slots = omega (arith, r.slots, r.size); few = omega (arith, r.few, r.size) },
  record { one = r.one; held = λ x lt ne out h. absurd (both_ways false refl h) },
)

pub first-more : (c : List Literal) (i : ℕ) (x first : Literal) → i < length c → x ≡ get_or c i x → x ≡ first → ((m : Literal) → on (take i c) m ≡ true → m ≡ first) →
    (m : Literal) → on (take (i + 1) c) m ≡ true → m ≡ first
first-more c i x first lt is e before m h =
    let more : take (i + 1) c ≡ take i c ++ x ∷ [] = take_more c i x lt ∙ ap (λ (y : Literal). take i c ++ y ∷ []) (sym is) in
    elim (added-cases x m (on (take i c)) (sym (on-push (take i c) x m) ∙ subst (λ (l : List Literal). on l m ≡ true) more h)) [
      | inl s ↦ sym s ∙ e
      | inr s ↦ before m s
    ]

pub attaching-restart : (cs : List (List Literal)) (ws : List Literal) (ct : ChainTable) (t0 t : TrailTable) (k : ℕ) → Attaching cs ws ct t0 t k → Attaching cs ws ct t t k
attaching-restart cs ws ct t0 t k r = record {
  size = r.size;
  over = r.over;
  lists = r.lists;
  slots = r.slots;
  few = r.few;
  placed = r.placed;
  empty = r.empty;
  out = r.out;
  used = r.used;
  one = r.one;
  grown = grown-same cs t;
}

nothing-there : (ls : List (List ℕ)) (n m : ℕ) → ls ≡ replicate n [] → chain ls m ≡ []
nothing-there ls n m e = ap (λ (l : List (List ℕ)). chain l m) e ∙ go n m
  where
    go : (n m : ℕ) → chain (replicate n []) m ≡ []
    go n m = elim (cases_lt m n) [
      | inl lt ↦ get_or-replicate n m [] [] lt
      | inr le ↦ get_or_past (replicate n []) m [] (omega (arith, length-replicate {A = List ℕ} n []))
    ]

pub attaching-start : (cs : List (List Literal)) (ct : ChainTable) (t : TrailTable) (n : ℕ) → AreWithin t.atoms cs → 2 * t.atoms + 3 ≤ n → 2 * length cs ≤ ct.slots → 2 * length cs < 2 ^ 32 → ct.lists ≡ replicate n [] →
    Attaching cs [] ct t t 0
attaching-start cs ct t n over lists slots few is = record {
  size = refl;
  over = over;
  lists = omega (arith, lists, ap length is, length-replicate {A = List ℕ} n []);
  slots = slots;
  few = few;
  placed = record {
    has = λ x lt. absurd (omega arith);
    sound = λ x m pos h. absurd (omega (arith, ap (occurs x) (nothing-there ct.lists n m is)));
    late = λ x h. absurd (omega (arith, ap (occurs x) (nothing-there ct.lists n 0 is)));
    full = λ x lt ne. absurd (omega arith);
  };
  empty = nothing-there ct.lists n 0 is;
  out = λ x le. ap (weigh (occurs x)) is ∙ weigh-none (occurs x) n [] refl;
  used = ap (weigh length) is ∙ weigh-none {A = List ℕ} length n [] refl;
  one = λ x m lt e h. absurd (omega arith);
  grown = grown-same cs t;
}

-- a literal that is alone in its clause is forced
pub alone-forced : (s : Literal → Bool) (c : List Literal) (a : Literal) → on c a ≡ true → ((m : Literal) → on c m ≡ true → m ≡ a) → Forces s c a
alone-forced s c a h one = record { has = h; others = λ m on-m ne. absurd (same-not m a ne (one m on-m)) }

pub alone-false : (s : Literal → Bool) (c : List Literal) (a : Literal) → ((m : Literal) → on c m ≡ true → m ≡ a) → s (negated a) ≡ true → AreFalse s c
alone-false s c a one h = record { each = λ m on-m. subst (λ (y : Literal). s (negated y) ≡ true) (sym (one m on-m)) h }

pub empty-false : (s : Literal → Bool) (c : List Literal) → length c ≡ 0 → AreFalse s c
empty-false s c e = record { each = λ m h. absurd (both_ways (on c m) (ap (λ (l : List Literal). on l m) (nil_from_length c e)) h) }

pub first-watch : (cs : List (List Literal)) (ws : List Literal) (ct : ChainTable) (t : TrailTable) (k : ℕ) (a : Literal) → Attaching cs ws ct t t k → k < length cs → on (clause_at cs k) a ≡ true →
    Halfway cs (ws ++ a ∷ []) (with_chain ct (place a) (length ws ∷ chain ct.lists (place a))) t
first-watch cs ws ct t k a r lt on-a =
    let half : k ≡ length ws / 2 = omega (arith, r.size) in
    halfway-next cs ws ct t a (attaching-half cs ws ct t t k r) (omega (arith, r.size)) (subst (λ (n : ℕ). on (clause_at cs n) a ≡ true) half on-a)

pub both-watches : (cs : List (List Literal)) (ws : List Literal) (ct : ChainTable) (t : TrailTable) (k : ℕ) (a b : Literal) → Attaching cs ws ct t t k → k < length cs → on (clause_at cs k) a ≡ true → on (clause_at cs k) b ≡ true →
    Halfway cs ((ws ++ a ∷ []) ++ b ∷ [])
    (with_chain (with_chain ct (place a) (length ws ∷ chain ct.lists (place a))) (place b) (length (ws ++ a ∷ []) ∷ chain (set ct.lists (place a) (length ws ∷ chain ct.lists (place a))) (place b))) t
both-watches cs ws ct t k a b r lt on-a on-b =
    let half : k ≡ length (ws ++ a ∷ []) / 2 = omega (arith, r.size, length_push ws a) in
    halfway-next cs (ws ++ a ∷ []) (with_chain ct (place a) (length ws ∷ chain ct.lists (place a))) t b (first-watch cs ws ct t k a r lt on-a) (omega (arith, r.size, length_push ws a))
    (subst (λ (n : ℕ). on (clause_at cs n) b ≡ true) half on-b)

pub place-below : (cs : List (List Literal)) (ws : List Literal) (ct : ChainTable) (t : TrailTable) (k : ℕ) (a : Literal) → Attaching cs ws ct t t k → on (clause_at cs k) a ≡ true → place a < length ct.lists
place-below cs ws ct t k a r on-a = let w = place-within a t.atoms (r.over k a on-a) in omega (arith, w.1, r.lists)

pub look-at : (cs : List (List Literal)) (c : List Literal) (k : ℕ) → c ≡ clause_at cs (k + 1 - 1) → c ≡ clause_at cs k
look-at cs c k e = let n : k + 1 - 1 ≡ k = omega arith in e ∙ ap (λ (i : ℕ). clause_at cs i) n
