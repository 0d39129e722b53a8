use Rattle.std.proofs.Common.{◌≡◌, ℕ, zero, suc, ◌+◌, ◌-◌, ◌*◌, ◌/◌, ◌<◌, ◌≤◌, Bool, true, false, not, ◌&&◌, List, [], ◌∷◌, ◌++◌, length, get_or, set, take, refl, sym, ap, subst, ◌∙◌, arith, inl, inr}
use Rattle.std.proofs.lemmas.Bool.{cases_lt, or_left, or_right, and_parts, not-true, not-false, both_ways}
use Rattle.std.proofs.lemmas.List.{get_or-set_same, length-set, take_more, get_or_read, take-append-le, take_all, take-take, length_push, get_or_append_left, get_or_push, get_or-take}
use Rattle.pg_region.specs.Literal.{Literal, same, negated, sign_bit}
use Rattle.pg_region.specs.Region.{clause_at}
use Rattle.pg_decider.specs.Assignment.{on, added, Within, AreFalse, IsUnit}
use Rattle.pg_decider.specs.Reached.{AreWithin}
use Rattle.pg_decider.specs.Chains.{chain, ChainTable, with_chain, IsFree}
use Rattle.pg_decider.specs.Trail.{lit, none, TrailTable, reason, added_to}
use Rattle.pg_decider.specs.Watch.{place, other, Placed, Shape, Grown, IsReason}
use Rattle.pg_decider.proofs.Literals.{same-refl, same-cases, on-push, added-cases, added-here}
use Rattle.pg_decider.proofs.Placing.{times-at, chain-there, placed-pushed, placed-moved}
use Rattle.pg_decider.proofs.Watching.{others}

pub on-at : (c : List Literal) (i : ℕ) (d : Literal) → i < length c → on c (get_or c i d) ≡ true
on-at [] i d lt = absurd (omega arith)
on-at (l ∷ c) zero d lt = or_left (same l l) (on c l) (same-refl l)
on-at (l ∷ c) (suc i) d lt = or_right (same l (get_or c i d)) (on c (get_or c i d)) (on-at c i d (omega arith))

pub on-read : (c : List Literal) (i : ℕ) (l : Literal) → i < length c → l ≡ get_or c i l → on c l ≡ true
on-read c i l lt is = subst (λ (m : Literal). on c m ≡ true) (sym is) (on-at c i l lt)

pub serves-parts : (a b : Bool) → (not a && not b) ≡ true → (a ≡ false) × (b ≡ false)
serves-parts a b h = let p = and_parts (not a) (not b) h in (not-true a p.0, not-true b p.1)

serves-not : (a b : Bool) → (not a && not b) ≡ false → a ≡ false → b ≡ true
serves-not true b h z = absurd (both_ways true z refl)
serves-not false b h z = not-false b h

pub find-more : (c t : List Literal) (i : ℕ) (x second : Literal) → i < length c → x ≡ get_or c i x → (not (same x second) && not (on t (negated x))) ≡ false →
    ((m : Literal) → on (take i c) m ≡ true → same m second ≡ false → on t (negated m) ≡ true) →
    (m : Literal) → on (take (i + 1) c) m ≡ true → same m second ≡ false → on t (negated m) ≡ true
find-more c t i x second lt is bad before m h apart =
    let e : take (i + 1) c ≡ take i c ++ x ∷ [] = take_more c i x lt ∙ ap (λ (y : Literal). take i c ++ y ∷ []) (sym is) in
    let h2 : added x (on (take i c)) m ≡ true = sym (on-push (take i c) x m) ∙ subst (λ (l : List Literal). on l m ≡ true) e h in
    elim (added-cases x m (on (take i c)) h2) [
      | inl s ↦ subst (λ (y : Literal). on t (negated y) ≡ true) s (serves-not (same x second) (on t (negated x)) bad (subst (λ (y : Literal). same y second ≡ false) (sym s) apart))
      | inr s ↦ before m s apart
    ]

pub sign_bit-le : (b : Bool) → sign_bit b ≤ 1
sign_bit-le true = omega arith
sign_bit-le false = omega arith

pub place-within : (l : Literal) (n : ℕ) → l.atom ≤ n → (0 < place l) × (place l < 2 * n + 3)
place-within l n h = (omega arith, omega (arith, h, sign_bit-le l.positive))

pub second-is : (ws : List Literal) (x y n : ℕ) (s : Literal) → y ≡ other x → x < length ws → length ws ≡ 2 * n → s ≡ get_or ws y s → s ≡ lit ws (other x)
second-is ws x y n s e lt size is =
    let ylt : other x < length ws = subst (λ (m : ℕ). other x < m) (sym size) ((others x).within n (omega arith)) in
    get_or_read ws (other x) s ylt (is ∙ ap (λ (k : ℕ). get_or ws k s) e) none

-- what a visit reads: the clause's other slot, and the chain of the literal that is watched
pub record Visited (cs : List (List Literal)) (ws : List Literal) (ct : ChainTable) (t : TrailTable) (f : Literal) (x : ℕ) : Type 0 where
  pub below : other x < length ws
  pub clause : x / 2 < length cs
  pub has : on (clause_at cs (x / 2)) (lit ws (other x)) ≡ true
  pub atom : (lit ws (other x)).atom ≤ t.atoms
  pub some : 0 < place f
  pub listed : place f < length ct.lists

pub visited : (cs : List (List Literal)) (ws : List Literal) (ct : ChainTable) (t : TrailTable) (f : Literal) (x : ℕ) → Shape cs ws ct t → Placed cs ws ct.lists (place f) x → x < length ws → lit ws x ≡ f → Visited cs ws ct t f x
visited cs ws ct t f x sh r lt is =
    let o = others x in
    let below : other x < length ws = subst (λ (n : ℕ). other x < n) (sym sh.size) (o.within (length cs) (omega arith)) in
    let has : on (clause_at cs (x / 2)) (lit ws (other x)) ≡ true = subst (λ (n : ℕ). on (clause_at cs n) (lit ws (other x)) ≡ true) o.half (r.has (other x) below) in
    let on-f : on (clause_at cs (x / 2)) f ≡ true = subst (λ (l : Literal). on (clause_at cs (x / 2)) l ≡ true) is (r.has x lt) in
    let w = place-within f t.atoms (sh.over (x / 2) f on-f) in
    record { below = below; clause = omega (arith, sh.size); has = has; atom = sh.over (x / 2) (lit ws (other x)) has; some = w.0; listed = omega (arith, w.1, sh.lists) }

-- what stays where a slot is put into the chain with the number p
pub record Put (cs : List (List Literal)) (ws : List Literal) (ct ct' : ChainTable) (u : TrailTable) : Type 0 where
  pub lists : length ct'.lists ≡ length ct.lists
  pub slots : ct'.slots ≡ ct.slots
  pub rest : chain ct'.lists 0 ≡ chain ct.lists 0
  pub shape : Shape cs ws ct' u

pub put : (cs : List (List Literal)) (ws : List Literal) (ct ct' : ChainTable) (t u : TrailTable) (p : ℕ) (xs : List ℕ) → Shape cs ws ct t → u.atoms ≡ t.atoms → 0 < p → ct' ≡ with_chain ct p xs → Put cs ws ct ct' u
put cs ws ct ct' t u p xs sh atoms some e =
    let lists : length ct'.lists ≡ length ct.lists = ap (λ (k : ChainTable). length k.lists) e ∙ length-set ct.lists p xs in
    let slots : ct'.slots ≡ ct.slots = ap (λ (k : ChainTable). k.slots) e in
    record {
      lists = lists;
      slots = slots;
      rest = ap (λ (k : ChainTable). chain k.lists 0) e ∙ chain-there ct.lists p 0 xs (λ z. omega arith);
      shape = record {
        size = sh.size;
        over = subst (λ (n : ℕ). AreWithin n cs) (sym atoms) sh.over;
        lists = omega (arith, sh.lists, lists, atoms);
        slots = omega (arith, sh.slots, slots);
        few = sh.few;
      };
    }

pub shape-turned : (cs : List (List Literal)) (ws : List Literal) (ct : ChainTable) (t : TrailTable) (x : ℕ) (m : Literal) → Shape cs ws ct t → Shape cs (set ws x m) ct t
shape-turned cs ws ct t x m sh =
    let long = length-set ws x m in
    record { size = long ∙ sh.size; over = sh.over; lists = sh.lists; slots = omega (arith, long, sh.slots); few = omega (arith, long, sh.few) }

pub turned : (cs : List (List Literal)) (ws : List Literal) (ct : ChainTable) (t : TrailTable) (f x : ℕ) (m : Literal) → Shape cs ws ct t → Placed cs ws ct.lists f x → IsFree ct x → x < length ws →
    on (clause_at cs (x / 2)) m ≡ true → Placed cs (set ws x m) (set ct.lists (place m) (x ∷ chain ct.lists (place m))) f (length (set ws x m))
turned cs ws ct t f x m sh r free lt on-m =
    let w = place-within m t.atoms (sh.over (x / 2) m on-m) in
    placed-pushed cs (set ws x m) ct.lists f x (place m) (placed-moved cs ws ct.lists f x m r lt (λ k. times-at ct.lists x k free.out) on-m)
    (omega (arith, length-set ws x m)) (ap place (sym (get_or-set_same ws x m none lt))) w.0 (omega (arith, w.1, sh.lists))

pub kept : (cs : List (List Literal)) (ws : List Literal) (ct : ChainTable) (t : TrailTable) (f : Literal) (x : ℕ) → Shape cs ws ct t → Placed cs ws ct.lists (place f) x → x < length ws → lit ws x ≡ f →
    Placed cs ws (set ct.lists (place f) (x ∷ chain ct.lists (place f))) (place f) (length ws)
kept cs ws ct t f x sh r lt is =
    let on-f : on (clause_at cs (x / 2)) f ≡ true = subst (λ (l : Literal). on (clause_at cs (x / 2)) l ≡ true) is (r.has x lt) in
    let w = place-within f t.atoms (sh.over (x / 2) f on-f) in
    placed-pushed cs ws ct.lists (place f) x (place f) r lt (ap place (sym is)) w.0 (omega (arith, w.1, sh.lists))

pub grown-same : (cs : List (List Literal)) (t : TrailTable) → Grown cs t t
grown-same cs t = record {
  atoms = refl;
  longer = omega arith;
  before = take_all (length t.literals) t.literals (omega arith);
  reached = record { above = λ l h. h; inside = λ u sub closed l h. sub l h };
  kept = λ j lt. refl;
  units = λ j le lt. absurd (omega arith);
}

pub grown-added : (cs : List (List Literal)) (t : TrailTable) (k n : ℕ) (l : Literal) → k < length cs → n ≡ k + 1 → length t.reasons ≡ length t.literals → IsUnit (on t.literals) (clause_at cs k) l → Grown cs t (added_to t l n)
grown-added cs t k n l lt number long f = record {
  atoms = refl;
  longer = omega (arith, length_push t.literals l);
  before = whole (length t.literals) (omega arith) ∙ take_all (length t.literals) t.literals (omega arith);
  reached = record {
    above = λ m h. on-push t.literals l m ∙ or_right (same l m) (on t.literals m) h;
    inside = λ u sub closed m h. elim (added-cases l m (on t.literals) (sym (on-push t.literals l m) ∙ h)) [
      | inl s ↦ subst (λ (y : Literal). u y ≡ true) s (closed.each k l lt (record { has = f.forced.has; others = λ o ho ne. sub (negated o) (f.forced.others o ho ne) }))
      | inr s ↦ sub m s
    ];
  };
  kept = λ j jlt. get_or_append_left t.reasons (n ∷ []) 0 j (omega arith);
  units = λ j le jlt. subst (λ (i : ℕ). IsReason cs (added_to t l n) i) (at j le jlt) top;
}
  where
    whole : (m : ℕ) → m ≤ length t.literals → take m (t.literals ++ l ∷ []) ≡ take m t.literals
    whole m le = take-append-le m t.literals (l ∷ []) le

    at : (j : ℕ) → length t.literals ≤ j → j < length (t.literals ++ l ∷ []) → length t.literals ≡ j
    at j le jlt = omega (arith, length_push t.literals l)

    here : reason (added_to t l n) (length t.literals) ≡ n
    here = get_or_push t.reasons n 0 (length t.literals) long

    there : reason (added_to t l n) (length t.literals) - 1 ≡ k
    there = omega (arith, here, number)

    this : lit (t.literals ++ l ∷ []) (length t.literals) ≡ l
    this = get_or_push t.literals l none (length t.literals) refl

    top : IsReason cs (added_to t l n) (length t.literals)
    top = record {
      positive = omega (arith, here, number);
      within = omega (arith, here, number);
      unit = subst (λ (ls : List Literal). IsUnit (on ls) (clause_at cs (reason (added_to t l n) (length t.literals) - 1)) (lit (t.literals ++ l ∷ []) (length t.literals)))
          (sym (whole (length t.literals) (omega arith) ∙ take_all (length t.literals) t.literals (omega arith)))
          (subst (λ (m : Literal). IsUnit (on t.literals) (clause_at cs (reason (added_to t l n) (length t.literals) - 1)) m) (sym this)
          (subst (λ (i : ℕ). IsUnit (on t.literals) (clause_at cs i) l) (sym there) f));
    }

-- a reason looks only at the trail up to its literal
pub reason-kept : (cs : List (List Literal)) (u v : TrailTable) (j : ℕ) → Grown cs u v → j < length u.literals → IsReason cs u j → IsReason cs v j
reason-kept cs u v j g lt r =
    let e = g.kept j lt in
    let back : take j v.literals ≡ take j u.literals = sym (take-take j (length u.literals) v.literals (omega arith)) ∙ ap (take j) g.before in
    let this : lit v.literals j ≡ lit u.literals j = sym (get_or-take (length u.literals) v.literals j none lt) ∙ ap (λ (ls : List Literal). lit ls j) g.before in
    record {
      positive = omega (arith, e, r.positive);
      within = omega (arith, e, r.within);
      unit = subst (λ (ls : List Literal). IsUnit (on ls) (clause_at cs (reason v j - 1)) (lit v.literals j)) (sym back)
          (subst (λ (m : Literal). IsUnit (on (take j u.literals)) (clause_at cs (reason v j - 1)) m) (sym this)
          (subst (λ (i : ℕ). IsUnit (on (take j u.literals)) (clause_at cs (i - 1)) (lit u.literals j)) (sym e) r.unit));
    }

pub grown-trans : (cs : List (List Literal)) (t u v : TrailTable) → Grown cs t u → Grown cs u v → Grown cs t v
grown-trans cs t u v a b = record {
  atoms = b.atoms ∙ a.atoms;
  longer = omega (arith, a.longer, b.longer);
  before = take-back ∙ a.before;
  reached = record {
    above = λ l h. b.reached.above l (a.reached.above l h);
    inside = λ s sub closed l h. b.reached.inside s (λ m g. a.reached.inside s sub closed m g) closed l h;
  };
  kept = λ j lt. b.kept j (omega (arith, a.longer)) ∙ a.kept j lt;
  units = λ j le lt. elim (cases_lt j (length u.literals)) [
    | inl h ↦ reason-kept cs u v j b h (a.units j le h)
    | inr h ↦ b.units j h lt
  ];
}
  where
    take-back : take (length t.literals) v.literals ≡ take (length t.literals) u.literals
    take-back = sym (take-take (length t.literals) (length u.literals) v.literals a.longer) ∙ ap (take (length t.literals)) b.before

pub within-push : (t : List Literal) (l : Literal) → Within (on t) (on (t ++ l ∷ []))
within-push t l m h = on-push t l m ∙ or_right (same l m) (on t m) h

pub here-push : (t : List Literal) (l : Literal) → on (t ++ l ∷ []) l ≡ true
here-push t l = on-push t l l ∙ added-here l (on t)

-- a clause none of whose literals can be watched beside `second`
pub all-false : (c : List Literal) (s : Literal → Bool) (second : Literal) → ((m : Literal) → on c m ≡ true → same m second ≡ false → s (negated m) ≡ true) → s (negated second) ≡ true → AreFalse s c
all-false c s second rest wrong = record {
  each = λ m h. elim (same-cases m second) [
    | inl e ↦ subst (λ (y : Literal). s (negated y) ≡ true) (sym e) wrong
    | inr e ↦ rest m h e
  ];
}

pub look-is : (cs : List (List Literal)) (c : List Literal) (x : ℕ) → c ≡ clause_at cs (x / 2 + 1 - 1) → c ≡ clause_at cs (x / 2)
look-is cs c x e = let n : x / 2 + 1 - 1 ≡ x / 2 = omega arith in e ∙ ap (λ (k : ℕ). clause_at cs k) n
