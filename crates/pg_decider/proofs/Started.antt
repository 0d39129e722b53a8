use Rattle.std.proofs.Common.{◌≡◌, ℕ, zero, suc, ◌+◌, ◌-◌, ◌<◌, ◌≤◌, List, [], ◌∷◌, length, get_or, set, drop, refl, sym, ap, subst, ◌∙◌, arith, replicate}
use Rattle.std.proofs.lemmas.List.{get_or-map, map-set, get_or-set_same, length-map, get_or_read, length-set}
use Rattle.pg_decider.specs.Chains.{walk, chain, held, times, AreChains, ChainTable, IsFree}
use Rattle.pg_decider.specs.Starts.{lists_of}
use Rattle.pg_decider.specs.Weigh.{weigh, occurs}
use Rattle.pg_decider.specs.declared.chains.Start.{Start}
use Rattle.pg_decider.proofs.Weighing.{weigh-at}
use Rattle.pg_decider.proofs.Chained.{walk-set, walks-set, chains-popped, chains-pushed, length-walk}

pub lists-get : (next : List ℕ) (ss : List Start) (m : ℕ) (s : Start) → m < length ss → s ≡ get_or ss m s → chain (lists_of next ss) m ≡ walk next s.size s.head
lists-get next ss m s lt is =
    get_or-map (λ (x : Start). walk next x.size x.head) ss m s [] lt ∙ ap (λ (x : Start). walk next x.size x.head) (sym is)

pub lists-set : (next : List ℕ) (ss : List Start) (m : ℕ) (s : Start) → lists_of next (set ss m s) ≡ set (lists_of next ss) m (walk next s.size s.head)
lists-set next ss m s = map-set (λ (x : Start). walk next x.size x.head) ss m s

pub length-lists : (next : List ℕ) (ss : List Start) → length (lists_of next ss) ≡ length ss
length-lists next ss = length-map ss (λ (x : Start). walk next x.size x.head)

pub lists-detached : (next : List ℕ) (ss : List Start) (m : ℕ) (s : Start) → m < length ss → s ≡ get_or ss m s →
    lists_of next (set (set ss 0 s) m (record { head = 0; size = 0 })) ≡ set (set (lists_of next ss) 0 (chain (lists_of next ss) m)) m []
lists-detached next ss m s lt is =
    lists-set next (set ss 0 s) m (record { head = 0; size = 0 })
    ∙ ap (λ (l : List (List ℕ)). set l m []) (lists-set next ss 0 s ∙ ap (λ (x : List ℕ). set (lists_of next ss) 0 x) (sym (lists-get next ss m s lt is)))

pub walk-first : (next : List ℕ) (n h : ℕ) → 0 < n → walk next n h ≡ h ∷ walk next (n - 1) (get_or next h 0)
walk-first next zero h pos = absurd (omega arith)
walk-first next (suc n) h pos = ap (λ (k : ℕ). h ∷ walk next k (get_or next h 0)) (omega arith)

pub lists-popped : (next : List ℕ) (ss : List Start) (m v : ℕ) (s : Start) → m < length ss → s ≡ get_or ss m s → 0 < s.size → v ≡ get_or next s.head 0 →
    (chain (lists_of next ss) m ≡ s.head ∷ drop 1 (chain (lists_of next ss) m))
    × (lists_of next (set ss m (record { head = v; size = s.size - 1 })) ≡ set (lists_of next ss) m (drop 1 (chain (lists_of next ss) m)))
lists-popped next ss m v s lt is pos read =
    let e : chain (lists_of next ss) m ≡ s.head ∷ walk next (s.size - 1) v = lists-get next ss m s lt is ∙ (walk-first next s.size s.head pos ∙ ap (λ (h : ℕ). s.head ∷ walk next (s.size - 1) h) (sym read)) in (
      e ∙ ap (λ (l : List ℕ). s.head ∷ l) (sym (ap (λ (l : List ℕ). drop 1 l) e)),
      lists-set next ss m (record { head = v; size = s.size - 1 })
          ∙ ap (λ (l : List ℕ). set (lists_of next ss) m l) (sym (ap (λ (l : List ℕ). drop 1 l) e)),
    )

pub lists-pushed : (next : List ℕ) (ss : List Start) (m x : ℕ) (s : Start) → m < length ss → s ≡ get_or ss m s → x < length next → times x (lists_of next ss) ≡ 0 →
    lists_of (set next x s.head) (set ss m (record { head = x; size = s.size + 1 })) ≡ set (lists_of next ss) m (x ∷ chain (lists_of next ss) m)
lists-pushed next ss m x s lt is slot out =
    let here = lists-get next ss m s lt is in
    let none : occurs x (walk next s.size s.head) ≡ 0 =
    subst (λ (l : List ℕ). occurs x l ≡ 0) here (omega (arith, weigh-at (occurs x) (lists_of next ss) m [] (omega (arith, length-lists next ss)))) in
    let first : walk (set next x s.head) (s.size + 1) x ≡ x ∷ chain (lists_of next ss) m =
    walk-first (set next x s.head) (s.size + 1) x (omega arith)
    ∙ (ap (λ (k : ℕ). x ∷ walk (set next x s.head) k (get_or (set next x s.head) x 0)) (omega arith)
    ∙ (ap (λ (h : ℕ). x ∷ walk (set next x s.head) s.size h) (get_or-set_same next x s.head 0 slot)
    ∙ ap (λ (l : List ℕ). x ∷ l) (walk-set next x s.head s.size s.head none ∙ sym here))) in
    lists-set (set next x s.head) ss m (record { head = x; size = s.size + 1 })
    ∙ (ap (λ (l : List (List ℕ)). set l m (walk (set next x s.head) (s.size + 1) x)) (walks-set (λ (y : Start). y.size) (λ (y : Start). y.head) next x s.head ss out)
    ∙ ap (λ (l : List ℕ). set (lists_of next ss) m l) first)

pub size-below : (next : List ℕ) (ss : List Start) (m : ℕ) (s : Start) → m < length ss → s ≡ get_or ss m s → s.size ≤ held (lists_of next ss)
size-below next ss m s lt is =
    omega (arith, weigh-at length (lists_of next ss) m [] (omega (arith, length-lists next ss)), ap length (lists-get next ss m s lt is), length-walk next s.size s.head)

pub same_lists : (a b : List (List ℕ)) (n : ℕ) → a ≡ b → (let x : ChainTable = record { lists = a; slots = n } in x) ≡ record { lists = b; slots = n }
same_lists a b n e = cc

pub chain_table : (a b : List (List ℕ)) (m n : ℕ) → a ≡ b → m ≡ n → (let x : ChainTable = record { lists = a; slots = m } in x) ≡ record { lists = b; slots = n }
chain_table a b m n e f = cc

pub slot-read : (next : List ℕ) (ss : List Start) (m : ℕ) (s : Start) → AreChains (lists_of next ss) (length next) → m < length (lists_of next ss) → s ≡ get_or ss m s → 0 < s.size → s.head < length next
slot-read next ss m s r lt is pos =
    let lt2 : m < length ss = omega (arith, length-lists next ss) in
    let e : chain (lists_of next ss) m ≡ s.head ∷ walk next (s.size - 1) (get_or next s.head 0) = lists-get next ss m s lt2 is ∙ walk-first next s.size s.head pos in
    (chains-popped (lists_of next ss) (length next) m s.head _ r lt e).2

pub record Popped (next : List ℕ) (ss : List Start) (m v : ℕ) (s : Start) : Type 0 where
  pub first : chain (lists_of next ss) m ≡ s.head ∷ drop 1 (chain (lists_of next ss) m)
  pub lists : lists_of next (set ss m (record { head = v; size = s.size - 1 })) ≡ set (lists_of next ss) m (drop 1 (chain (lists_of next ss) m))
  pub chains : AreChains (lists_of next (set ss m (record { head = v; size = s.size - 1 }))) (length next)
  pub free : IsFree (record { lists = lists_of next (set ss m (record { head = v; size = s.size - 1 })); slots = length next }) s.head

pub popped : (next : List ℕ) (ss : List Start) (m v : ℕ) (s : Start) → AreChains (lists_of next ss) (length next) → m < length (lists_of next ss) → s ≡ get_or ss m s → 0 < s.size → v ≡ get_or next s.head v → Popped next ss m v s
popped next ss m v s r lt is pos read =
    let lt2 : m < length ss = omega (arith, length-lists next ss) in
    let slot = slot-read next ss m s r lt is pos in
    let p = lists-popped next ss m v s lt2 is pos (get_or_read next s.head v slot read 0) in
    let q = chains-popped (lists_of next ss) (length next) m s.head _ r lt p.0 in
    record {
      first = p.0;
      lists = p.1;
      chains = subst (λ (l : List (List ℕ)). AreChains l (length next)) (sym p.1) q.0;
      free = record {
        out = ap (times s.head) p.1 ∙ q.1;
        slot = q.2;
        room = subst (λ (l : List (List ℕ)). held l < length next) (sym p.1) q.3;
      };
    }

pub record Pushed (next : List ℕ) (ss : List Start) (m x : ℕ) (s : Start) : Type 0 where
  pub lists : lists_of (set next x s.head) (set ss m (record { head = x; size = s.size + 1 })) ≡ set (lists_of next ss) m (x ∷ chain (lists_of next ss) m)
  pub long : length (set next x s.head) ≡ length next
  pub chains : AreChains (lists_of (set next x s.head) (set ss m (record { head = x; size = s.size + 1 }))) (length (set next x s.head))

pub pushed : (next : List ℕ) (ss : List Start) (m x : ℕ) (s : Start) → AreChains (lists_of next ss) (length next) → m < length (lists_of next ss) → s ≡ get_or ss m s →
    IsFree (record { lists = lists_of next ss; slots = length next }) x → Pushed next ss m x s
pushed next ss m x s r lt is f =
    let e = lists-pushed next ss m x s (omega (arith, length-lists next ss)) is f.slot f.out in
    let long = length-set next x s.head in
    record {
      lists = e;
      long = long;
      chains = subst (λ (n : ℕ). AreChains (lists_of (set next x s.head) (set ss m (record { head = x; size = s.size + 1 }))) n) (sym long)
          (subst (λ (l : List (List ℕ)). AreChains l (length next)) (sym e) (chains-pushed (lists_of next ss) (length next) m x r lt f.out f.slot f.room));
    }

pub lists-cleared : (next : List ℕ) (ss : List Start) → weigh (λ (s : Start). s.size) ss ≡ 0 → lists_of next ss ≡ replicate (length ss) []
lists-cleared next [] h = refl
lists-cleared next (s ∷ ss) h =
    (let z : s.size ≡ 0 = omega arith in ap (λ (n : ℕ). walk next n s.head ∷ lists_of next ss) z) ∙ ap (λ (l : List (List ℕ)). [] ∷ l) (lists-cleared next ss (omega arith))
