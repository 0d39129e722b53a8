use Rattle.std.proofs.Common.{◌≡◌, ℕ, ◌+◌, ◌-◌, ◌*◌, ◌<◌, ◌≤◌, false, List, [], ◌∷◌, ◌++◌, length, get_or, take, refl, sym, ap, subst, ◌∙◌, arith, inl, inr}
use Rattle.std.proofs.lemmas.Bool.{cases_lt}
use Rattle.std.proofs.lemmas.List.{get_or_append_left, get_or_push, length_push, take-append-le, take_all, take-take, length-take-le, get_or_default}
use Rattle.pg_region.specs.Literal.{Literal, same, negated}
use Rattle.pg_region.specs.Pieces.{total}
use Rattle.pg_decider.specs.Assignment.{on}
use Rattle.pg_decider.specs.Chains.{chain, ChainTable}
use Rattle.pg_decider.specs.Reached.{AreWithin}
use Rattle.pg_decider.specs.Search.{back_to, branch, IsOpen, IsBranch, AreBranches, Searching}
use Rattle.pg_decider.specs.Trail.{none, TrailTable, added_to}
use Rattle.pg_decider.specs.Watch.{Placed, Shape, Grown, Watching, Watched, KeepsWatched}
use Rattle.pg_decider.specs.declared.search.Branch.{Branch}
use Rattle.pg_decider.proofs.Literals.{negated-negated}
use Rattle.pg_decider.proofs.Watching.{watching-more}
use Rattle.pg_decider.proofs.Visits.{within-push}
use Rattle.pg_decider.proofs.Propagated.{on-take}

pub open-turned : (t : TrailTable) (ls : List Literal) (l : Literal) → IsOpen t ls l → IsOpen t ls (negated l)
open-turned t ls l o = record {
  within = o.within;
  free = o.unset;
  unset = subst (λ (m : Literal). on ls m ≡ false) (sym (negated-negated l)) o.free;
}

pub branch-old : (bs : List Branch) (b : Branch) (i : ℕ) → i < length bs → branch (bs ++ b ∷ []) i ≡ branch bs i
branch-old bs b i lt = get_or_append_left bs (b ∷ []) (record { mark = 0; literal = none }) i lt

pub branch-new : (bs : List Branch) (b : Branch) → branch (bs ++ b ∷ []) (length bs) ≡ b
branch-new bs b = get_or_push bs b (record { mark = 0; literal = none }) (length bs) refl

pub branches-few : (cs : List (List Literal)) (ws : List Literal) (t : TrailTable) (bs : List Branch) → AreBranches cs ws t bs → length bs ≤ length t.literals
branches-few cs ws t [] r = omega arith
branches-few cs ws t (b ∷ bs) r = omega (arith, r.low (length bs) (omega arith), (r.each (length bs) (omega arith)).inside)

-- a branch looks only at the trail up to its mark
pub branch-moved : (cs : List (List Literal)) (ws ws' : List Literal) (t t' : TrailTable) (b : Branch) → IsBranch cs ws t b → t'.atoms ≡ t.atoms → b.mark < length t'.literals → take b.mark t'.literals ≡ take b.mark t.literals →
    (Watched cs ws (on (take b.mark t.literals)) → Watched cs ws' (on (take b.mark t.literals))) → IsBranch cs ws' t' b
branch-moved cs ws ws' t t' b r atoms lt back keep = record {
  inside = lt;
  unset = record {
    within = omega (arith, r.unset.within, atoms);
    free = subst (λ (ls : List Literal). on ls b.literal ≡ false) (sym back) r.unset.free;
    unset = subst (λ (ls : List Literal). on ls (negated b.literal) ≡ false) (sym back) r.unset.unset;
  };
  watched = subst (λ (ls : List Literal). Watched cs ws' (on ls)) (sym back) (keep r.watched);
}

pub branches-kept : (cs : List (List Literal)) (ws ws' : List Literal) (t t' : TrailTable) (bs : List Branch) → AreBranches cs ws t bs → Grown cs t t' → KeepsWatched cs ws ws' (on t.literals) → AreBranches cs ws' t' bs
branches-kept cs ws ws' t t' bs r g k = record {
  low = r.low;
  rising = r.rising;
  each = λ i lt. let b = branch bs i in let e = r.each i lt in
      branch-moved cs ws ws' t t' b e g.atoms (omega (arith, e.inside, g.longer))
      (sym (take-take b.mark (length t.literals) t'.literals (omega (arith, e.inside))) ∙ ap (take b.mark) g.before)
      (k (on (take b.mark t.literals)) (on-take b.mark t.literals));
}

abbrev top-branch : TrailTable → Literal → Branch
top-branch t l = record { mark = length t.literals; literal = negated l }

pub branches-push : (cs : List (List Literal)) (ws : List Literal) (t : TrailTable) (bs : List Branch) (l : Literal) → AreBranches cs ws t bs → Watched cs ws (on t.literals) → IsOpen t t.literals l →
    AreBranches cs ws (added_to t l 0) (bs ++ top-branch t l ∷ [])
branches-push cs ws t bs l r w o = record {
  low = λ i lt. elim (cases_lt i (length bs)) [
    | inl h ↦ omega (arith, ap (λ (x : Branch). x.mark) (branch-old bs (top-branch t l) i h), r.low i h)
    | inr h ↦ omega (arith, ap (λ (x : Branch). x.mark) (at-top i h lt), few, length_push bs (top-branch t l))
  ];
  rising = λ i j ij lt. elim (cases_lt j (length bs)) [
    | inl h ↦ omega (arith, ap (λ (x : Branch). x.mark) (branch-old bs (top-branch t l) i (omega arith)), ap (λ (x : Branch). x.mark) (branch-old bs (top-branch t l) j h), r.rising i j ij h)
    | inr h ↦
        let ih : i < length bs = omega (arith, length_push bs (top-branch t l)) in
        omega (arith, ap (λ (x : Branch). x.mark) (branch-old bs (top-branch t l) i ih), ap (λ (x : Branch). x.mark) (at-top j h lt), (r.each i ih).inside)
  ];
  each = λ i lt. elim (cases_lt i (length bs)) [
    | inl h ↦ subst (λ (x : Branch). IsBranch cs ws (added_to t l 0) x) (sym (branch-old bs (top-branch t l) i h)) (
        let e = r.each i h in
        branch-moved cs ws ws t (added_to t l 0) (branch bs i) e refl (omega (arith, e.inside, length_push t.literals l)) (take-append-le (branch bs i).mark t.literals (l ∷ []) (omega (arith, e.inside))) (λ x. x))
    | inr h ↦ subst (λ (x : Branch). IsBranch cs ws (added_to t l 0) x) (sym (at-top i h lt)) is-top
  ];
}
  where
    few : length bs ≤ length t.literals
    few = branches-few cs ws t bs r

    at-top : (i : ℕ) → length bs ≤ i → i < length (bs ++ (top-branch t l) ∷ []) → branch (bs ++ (top-branch t l) ∷ []) i ≡ (top-branch t l)
    at-top i le lt = let e : i ≡ length bs = omega (arith, length_push bs (top-branch t l)) in ap (λ (k : ℕ). branch (bs ++ (top-branch t l) ∷ []) k) e ∙ branch-new bs (top-branch t l)

    whole : take (length t.literals) (t.literals ++ l ∷ []) ≡ t.literals
    whole = take-append-le (length t.literals) t.literals (l ∷ []) (omega arith) ∙ take_all (length t.literals) t.literals (omega arith)

    is-top : IsBranch cs ws (added_to t l 0) (top-branch t l)
    is-top = record {
      inside = omega (arith, length_push t.literals l);
      unset = record {
        within = o.within;
        free = subst (λ (ls : List Literal). on ls (negated l) ≡ false) (sym whole) o.unset;
        unset = subst (λ (ls : List Literal). on ls (negated (negated l)) ≡ false) (sym whole) (subst (λ (m : Literal). on t.literals m ≡ false) (sym (negated-negated l)) o.free);
      };
      watched = subst (λ (ls : List Literal). Watched cs ws (on ls)) (sym whole) w;
    }

-- back to the last branch
pub branches-pop : (cs : List (List Literal)) (ws : List Literal) (t : TrailTable) (bs : List Branch) (b : Branch) → AreBranches cs ws t (bs ++ b ∷ []) →
    IsBranch cs ws t b × AreBranches cs ws (back_to t b.mark b.literal) bs
branches-pop cs ws t bs b r = (
  top,
  record {
    low = λ i lt. omega (arith, ap (λ (x : Branch). x.mark) (branch-old bs b i lt), r.low i (omega (arith, length_push bs b)));
    rising = λ i j ij lt. omega (arith, ap (λ (x : Branch). x.mark) (branch-old bs b i (omega arith)), ap (λ (x : Branch). x.mark) (branch-old bs b j lt), r.rising i j ij (omega (arith, length_push bs b)));
    each = λ i lt.
        let e = subst (λ (x : Branch). IsBranch cs ws t x) (branch-old bs b i lt) (r.each i (omega (arith, length_push bs b))) in
        let under : (branch bs i).mark < b.mark = omega (arith, ap (λ (x : Branch). x.mark) (branch-old bs b i lt), ap (λ (x : Branch). x.mark) (branch-new bs b), r.rising i (length bs) lt (omega (arith, length_push bs b))) in
        branch-moved cs ws ws t (back_to t b.mark b.literal) (branch bs i) e refl
        (omega (arith, long, length_push (take b.mark t.literals) b.literal))
        (take-append-le (branch bs i).mark (take b.mark t.literals) (b.literal ∷ []) (omega (arith, long)) ∙ take-take (branch bs i).mark b.mark t.literals (omega arith))
        (λ x. x);
  },
)
  where
    top : IsBranch cs ws t b
    top = subst (λ (x : Branch). IsBranch cs ws t x) (branch-new bs b) (r.each (length bs) (omega (arith, length_push bs b)))

    long : length (take b.mark t.literals) ≡ b.mark
    long = length-take-le b.mark t.literals (omega (arith, top.inside))

-- a literal is added to a watched set
pub watching-added : (cs : List (List Literal)) (ws : List Literal) (p : List Literal) (l : Literal) → Watched cs ws (on p) → Watching cs ws [] (on (take (length p) (p ++ l ∷ []))) (on (p ++ l ∷ [])) (length ws)
watching-added cs ws p l w =
    let whole : take (length p) (p ++ l ∷ []) ≡ p = take-append-le (length p) p (l ∷ []) (omega arith) ∙ take_all (length p) p (omega arith) in
    subst (λ (ls : List Literal). Watching cs ws [] (on ls) (on (p ++ l ∷ [])) (length ws)) (sym whole)
    (watching-more cs ws [] (on p) (on p) (on (p ++ l ∷ [])) (length ws) w (within-push p l))

pub looks-more : (n c looks0 looks looks' : ℕ) → looks ≤ looks0 + n * c → looks' ≤ looks + c → looks' ≤ looks0 + (n + 1) * c
looks-more n c looks0 looks looks' a b = omega (arith, suc-times n c)
  where
    suc-times : (n c : ℕ) → (n + 1) * c ≡ n * c + c
    suc-times n c = grind arith

shape-trail : (cs : List (List Literal)) (ws : List Literal) (ct : ChainTable) (t : TrailTable) (u : TrailTable) → u.atoms ≡ t.atoms → Shape cs ws ct t → Shape cs ws ct u
shape-trail cs ws ct t u e s = record { size = s.size; over = subst (λ (n : ℕ). AreWithin n cs) (sym e) s.over; lists = omega (arith, e, s.lists); slots = s.slots; few = s.few }

pub searched-open : (cs : List (List Literal)) (ws : List Literal) (ct : ChainTable) (t : TrailTable) (bs : List Branch) (l : Literal) → Shape cs ws ct t → Placed cs ws ct.lists 0 (length ws) → chain ct.lists 0 ≡ [] →
    AreBranches cs ws t bs → Watched cs ws (on t.literals) → (l.atom ≤ t.atoms) × (on t.literals l ≡ false) × (on t.literals (negated l) ≡ false) →
    Searching cs ws ct (added_to t l 0) (bs ++ top-branch t l ∷ []) (length t.literals)
searched-open cs ws ct t bs l sh r empty br w o = record {
  shape = shape-trail cs ws ct t (added_to t l 0) refl sh;
  placed = r;
  empty = empty;
  within = omega (arith, length_push t.literals l);
  watching = watching-added cs ws t.literals l w;
  branches = branches-push cs ws t bs l br w (record { within = o.0; free = o.1; unset = o.2 });
}

pub searched-back : (cs : List (List Literal)) (ws : List Literal) (ct : ChainTable) (t : TrailTable) (bs : List Branch) (b : Branch) → Shape cs ws ct t → Placed cs ws ct.lists 0 (length ws) → chain ct.lists 0 ≡ [] →
    AreBranches cs ws t (bs ++ b ∷ []) →
    Searching cs ws ct (back_to t b.mark b.literal) bs b.mark
searched-back cs ws ct t bs b sh r empty br =
    let p = branches-pop cs ws t bs b br in
    let old = take b.mark t.literals in
    let long : length old ≡ b.mark = length-take-le b.mark t.literals (omega (arith, p.0.inside)) in
    record {
      shape = shape-trail cs ws ct t (back_to t b.mark b.literal) refl sh;
      placed = r;
      empty = empty;
      within = omega (arith, length_push old b.literal, long);
      watching = subst (λ (n : ℕ). Watching cs ws [] (on (take n (old ++ b.literal ∷ []))) (on (old ++ b.literal ∷ [])) (length ws)) long (watching-added cs ws old b.literal p.0.watched);
      branches = p.1;
    }

-- the last branch can be taken
pub last-branch : (cs : List (List Literal)) (ws : List Literal) (t : TrailTable) (bs : List Branch) (i : ℕ) → AreBranches cs ws t bs → i + 1 ≡ length bs →
    ((branch bs i).mark < length t.literals) × IsOpen t (take (branch bs i).mark t.literals) (branch bs i).literal
last-branch cs ws t bs i r e = let b = r.each i (omega arith) in (b.inside, b.unset)

pub looks-next : (cs : List (List Literal)) (budget left looks0 looks looks' : ℕ) → looks ≤ looks0 + (budget - left) * (length cs + total cs) → looks' ≤ looks + (length cs + total cs) → 0 < left → left ≤ budget →
    looks' ≤ looks0 + (budget - (left - 1)) * (length cs + total cs)
looks-next cs budget left looks0 looks looks' a b pos le =
    let n : (budget - left) + 1 ≡ budget - (left - 1) = omega arith in
    subst (λ (k : ℕ). looks' ≤ looks0 + k * (length cs + total cs)) n (looks-more (budget - left) (length cs + total cs) looks0 looks looks' a b)

pub searched-start : (cs ds : List (List Literal)) (ws : List Literal) (ct : ChainTable) (t0 t : TrailTable) (bs : List Branch) → ds ≡ cs → bs ≡ [] → t0.literals ≡ [] → Shape cs ws ct t → Placed cs ws ct.lists 0 (length ws) → chain ct.lists 0 ≡ [] → Grown cs t0 t →
    AreWithin t0.atoms cs → Watching cs ws [] (on []) (on t.literals) (length ws) → Searching ds ws ct t bs 0
searched-start cs ds ws ct t0 t bs same none e sh r empty g over w = subst (λ (k : List (List Literal)). Searching k ws ct t bs 0) (sym same) (subst (λ (l : List Branch). Searching cs ws ct t l 0) (sym none) (record {
  shape = sh;
  placed = r;
  empty = empty;
  within = omega arith;
  watching = w;
  branches = record { low = λ i lt. absurd (omega arith); rising = λ i j ij lt. absurd (omega arith); each = λ i lt. absurd (omega arith) };
}))

mark-back : (cs : List (List Literal)) (t0 t1 : TrailTable) (m : ℕ) → Grown cs t0 t1 → m ≤ length t0.literals → take m t1.literals ≡ take m t0.literals
mark-back cs t0 t1 m g le = sym (take-take m (length t0.literals) t1.literals le) ∙ ap (take m) g.before

pub marks-open : (cs : List (List Literal)) (ws : List Literal) (t0 t1 : TrailTable) (bs : List Branch) (l : Literal) → AreBranches cs ws t0 bs → Grown cs t0 t1 →
    (i : ℕ) (d : Branch) → i < length bs → take (get_or bs i d).mark (t1.literals ++ l ∷ []) ≡ take (get_or bs i d).mark t0.literals
marks-open cs ws t0 t1 bs l r g i d lt =
    let e = get_or_default bs i d (record { mark = 0; literal = none }) lt in
    let m = (branch bs i).mark in
    let h = (r.each i lt).inside in
    subst (λ (b : Branch). take b.mark (t1.literals ++ l ∷ []) ≡ take b.mark t0.literals) (sym e)
    (take-append-le m t1.literals (l ∷ []) (omega (arith, h, g.longer)) ∙ mark-back cs t0 t1 m g (omega (arith, h)))

pub last-mark : (cs : List (List Literal)) (ws : List Literal) (t0 t1 : TrailTable) (bs : List Branch) (b : Branch) → AreBranches cs ws t0 (bs ++ b ∷ []) → Grown cs t0 t1 → take b.mark t1.literals ≡ take b.mark t0.literals
last-mark cs ws t0 t1 bs b r g = mark-back cs t0 t1 b.mark g (omega (arith, (branches-pop cs ws t0 bs b r).0.inside))

pub marks-back : (cs : List (List Literal)) (ws : List Literal) (t0 t1 : TrailTable) (bs : List Branch) (b : Branch) → AreBranches cs ws t0 (bs ++ b ∷ []) → Grown cs t0 t1 →
    (i : ℕ) (d : Branch) → i < length bs → take (get_or bs i d).mark (take b.mark t1.literals ++ b.literal ∷ []) ≡ take (get_or bs i d).mark t0.literals
marks-back cs ws t0 t1 bs b r g i d lt =
    let top = (branches-pop cs ws t0 bs b r).0.inside in
    let e = get_or_default bs i d (record { mark = 0; literal = none }) lt in
    let m = (branch bs i).mark in
    let under : m < b.mark = omega (arith, ap (λ (x : Branch). x.mark) (branch-old bs b i lt), ap (λ (x : Branch). x.mark) (branch-new bs b), r.rising i (length bs) lt (omega (arith, length_push bs b))) in
    let long : length (take b.mark t1.literals) ≡ b.mark = length-take-le b.mark t1.literals (omega (arith, top, g.longer)) in
    subst (λ (x : Branch). take x.mark (take b.mark t1.literals ++ b.literal ∷ []) ≡ take x.mark t0.literals) (sym e)
    (take-append-le m (take b.mark t1.literals) (b.literal ∷ []) (omega (arith, long)) ∙ (take-take m b.mark t1.literals (omega arith) ∙ mark-back cs t0 t1 m g (omega arith)))

pub node-before : (budget left : ℕ) → 0 < left → left ≤ budget → (budget - left) + 1 ≡ budget - (left - 1)
node-before budget left pos le = omega arith
