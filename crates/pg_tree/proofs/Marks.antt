-- The way down to a node, and from line to line.
use Rattle.std.proofs.Common.{◌≡◌, ℕ, suc, ◌+◌, ◌-◌, ◌<◌, ◌≤◌, Bool, true, false, cond, Option, Some, None, List, [], ◌∷◌, ◌++◌, length, get_or, take, drop, refl, sym, ap, subst, ◌∙◌, arith, inl, inr}
use Rattle.std.specs.Bool.{MatchBool}
use Rattle.std.specs.List.{All}
use Rattle.std.proofs.lemmas.Bool.{both_ways, cases_lt}
use Rattle.std.proofs.lemmas.List.{drop_more, drop_all, get_or_append_left, get_or_push, get_or-take, length_push, length-take-le, take-append-le, take_all, take-take}
use Rattle.pg_region.specs.Literal.{Literal, negated}
use Rattle.pg_region.specs.Region.{clause_at}
use Rattle.pg_decider.specs.Assignment.{Assignment, on, added}
use Rattle.pg_decider.specs.Trail.{lit, none, IsTrail}
use Rattle.pg_decider.proofs.Existing.{within-more}
use Rattle.pg_decider.proofs.Trees.{fun-push}
use Rattle.pg_decider.proofs.Visits.{on-at}
use Rattle.pg_derivation.specs.Derivation.{split, leaf, TreeLine, TreeTable, no_line, line_at}
use Rattle.pg_tree.specs.Fault.{all_false, unit, unit_fault, leaf_fault, may_split, or_fault, on_node, lines_fault, tree_fault}
use Rattle.pg_tree.specs.Path.{mark, turned, pending, AreMarks}
use Rattle.pg_tree.specs.Checking.{Checking}
use Rattle.pg_tree.specs.declared.fault.TreeFault.{TreeFault}
use Rattle.pg_tree.specs.declared.fault.TreeFault.TheVariants.{BadLiteral, BadClause, NoConflict, TooMuch, EndsEarly}
use Rattle.pg_tree.proofs.Units.{number-is}

-- ---- marks

mark-old : (ms : List ℕ) (m i : ℕ) → i < length ms → mark (ms ++ m ∷ []) i ≡ mark ms i
mark-old ms m i lt = get_or_append_left ms (m ∷ []) 0 i lt

mark-new : (ms : List ℕ) (m : ℕ) → mark (ms ++ m ∷ []) (length ms) ≡ m
mark-new ms m = get_or_push ms m 0 (length ms) refl

pub no-marks : AreMarks [] []
no-marks = record { low = λ i lt. absurd (omega (arith, lt)); rising = λ i j ij lt. absurd (omega (arith, lt)); inside = λ i lt. absurd (omega (arith, lt)) }

pub marks-few : (ls : List Literal) (ms : List ℕ) → AreMarks ls ms → length ms ≤ length ls
marks-few ls [] r = omega arith
marks-few ls (m ∷ ms) r = omega (arith, r.low (length ms) (omega arith), r.inside (length ms) (omega arith))

pub last-mark : (ls : List Literal) (ms : List ℕ) (i : ℕ) → AreMarks ls ms → i + 1 ≡ length ms → mark ms i < length ls
last-mark ls ms i r e = r.inside i (omega (arith, e))

marks-push : (ls : List Literal) (ms : List ℕ) (l : Literal) → AreMarks ls ms → AreMarks (ls ++ l ∷ []) (ms ++ length ls ∷ [])
marks-push ls ms l r = record {
  low = λ i lt. elim (cases_lt i (length ms)) [
    | inl h ↦ omega (arith, mark-old ms (length ls) i h, r.low i h)
    | inr h ↦ omega (arith, at-top i h lt, marks-few ls ms r, length_push ms (length ls), lt)
  ];
  rising = λ i j ij lt. elim (cases_lt j (length ms)) [
    | inl h ↦ omega (arith, mark-old ms (length ls) i (omega (arith, ij, h)), mark-old ms (length ls) j h, r.rising i j ij h)
    | inr h ↦
        let ih : i < length ms = omega (arith, ij, lt, length_push ms (length ls)) in
        omega (arith, mark-old ms (length ls) i ih, at-top j h lt, r.inside i ih)
  ];
  inside = λ i lt. elim (cases_lt i (length ms)) [
    | inl h ↦ omega (arith, mark-old ms (length ls) i h, r.inside i h, length_push ls l)
    | inr h ↦ omega (arith, at-top i h lt, length_push ls l)
  ];
}
  where
    at-top : (i : ℕ) → length ms ≤ i → i < length (ms ++ length ls ∷ []) → mark (ms ++ length ls ∷ []) i ≡ length ls
    at-top i le lt = let e : i ≡ length ms = omega (arith, le, lt, length_push ms (length ls)) in ap (mark (ms ++ length ls ∷ [])) e ∙ mark-new ms (length ls)

top-inside : (ls : List Literal) (ms : List ℕ) (m : ℕ) → AreMarks ls (ms ++ m ∷ []) → m < length ls
top-inside ls ms m r = omega (arith, mark-new ms m, r.inside (length ms) (omega (arith, length_push ms m)))

under-top : (ls : List Literal) (ms : List ℕ) (m i : ℕ) → AreMarks ls (ms ++ m ∷ []) → i < length ms → mark ms i < m
under-top ls ms m i r lt = omega (arith, mark-old ms m i lt, mark-new ms m, r.rising i (length ms) lt (omega (arith, length_push ms m)))

marks-pop : (ls : List Literal) (ms : List ℕ) (m : ℕ) (k : Literal) → AreMarks ls (ms ++ m ∷ []) → AreMarks (take m ls ++ k ∷ []) ms
marks-pop ls ms m k r = record {
  low = λ i lt. omega (arith, mark-old ms m i lt, r.low i (omega (arith, lt, length_push ms m)));
  rising = λ i j ij lt. omega (arith, mark-old ms m i (omega (arith, ij, lt)), mark-old ms m j lt, r.rising i j ij (omega (arith, lt, length_push ms m)));
  inside = λ i lt. omega (arith, under-top ls ms m i r lt, length-take-le m ls (omega (arith, top-inside ls ms m r)), length_push (take m ls) k);
}

-- ---- the second subtrees that are still to come

pending-push : (ls : List Literal) (ms : List ℕ) (m : ℕ) (later : List Assignment) → pending ls (ms ++ m ∷ []) later ≡ turned ls m ∷ pending ls ms later
pending-push ls [] m later = refl
pending-push ls (k ∷ ms) m later = pending-push ls ms m (turned ls k ∷ later)

turned-same : (ls us : List Literal) (m : ℕ) → take m us ≡ take m ls → lit us m ≡ lit ls m → turned us m ≡ turned ls m
turned-same ls us m e f = ap (λ (l : Literal). added (negated l) (on (take m us))) f ∙ ap (λ (x : List Literal). added (negated (lit ls m)) (on x)) e

pending-same : (ls us : List Literal) (ms : List ℕ) (later : List Assignment) → ((i : ℕ) → i < length ms → turned us (mark ms i) ≡ turned ls (mark ms i)) → pending us ms later ≡ pending ls ms later
pending-same ls us [] later h = refl
pending-same ls us (m ∷ ms) later h =
    pending-same ls us ms (turned us m ∷ later) (λ i lt. h (suc i) (omega (arith, lt)))
    ∙ ap (λ (s : Assignment). pending ls ms (s ∷ later)) (h 0 (omega arith))

path-down : (ls : List Literal) (ms : List ℕ) (l : Literal) → AreMarks ls ms →
    added l (on ls) ∷ added (negated l) (on ls) ∷ pending ls ms [] ≡ on (ls ++ l ∷ []) ∷ pending (ls ++ l ∷ []) (ms ++ length ls ∷ []) []
path-down ls ms l r =
    ap (λ (s : Assignment). s ∷ added (negated l) (on ls) ∷ pending ls ms []) (sym (fun-push ls l))
    ∙ ap (λ (ss : List Assignment). on (ls ++ l ∷ []) ∷ ss)
    (ap (λ (s : Assignment). s ∷ pending ls ms []) (sym top)
    ∙ (ap (λ (ss : List Assignment). turned (ls ++ l ∷ []) (length ls) ∷ ss) (sym (pending-same ls (ls ++ l ∷ []) ms [] each))
    ∙ sym (pending-push (ls ++ l ∷ []) ms (length ls) [])))
  where
    whole : take (length ls) (ls ++ l ∷ []) ≡ ls
    whole = take-append-le (length ls) ls (l ∷ []) (omega arith) ∙ take_all (length ls) ls (omega arith)

    top : turned (ls ++ l ∷ []) (length ls) ≡ added (negated l) (on ls)
    top = ap (λ (k : Literal). added (negated k) (on (take (length ls) (ls ++ l ∷ [])))) (get_or_push ls l none (length ls) refl)
        ∙ ap (λ (x : List Literal). added (negated l) (on x)) whole

    each : (i : ℕ) → i < length ms → turned (ls ++ l ∷ []) (mark ms i) ≡ turned ls (mark ms i)
    each i lt = turned-same ls (ls ++ l ∷ []) (mark ms i) (take-append-le (mark ms i) ls (l ∷ []) (omega (arith, r.inside i lt))) (get_or_append_left ls (l ∷ []) none (mark ms i) (r.inside i lt))

path-back : (ls : List Literal) (ms : List ℕ) (m : ℕ) → AreMarks ls (ms ++ m ∷ []) →
    pending ls (ms ++ m ∷ []) [] ≡ on (take m ls ++ negated (lit ls m) ∷ []) ∷ pending (take m ls ++ negated (lit ls m) ∷ []) ms []
path-back ls ms m r =
    pending-push ls ms m []
    ∙ (ap (λ (s : Assignment). s ∷ pending ls ms []) (sym (fun-push (take m ls) (negated (lit ls m))))
    ∙ ap (λ (ss : List Assignment). on (take m ls ++ negated (lit ls m) ∷ []) ∷ ss) (sym (pending-same ls (take m ls ++ negated (lit ls m) ∷ []) ms [] each)))
  where
    long : length (take m ls) ≡ m
    long = length-take-le m ls (omega (arith, top-inside ls ms m r))

    each : (i : ℕ) → i < length ms → turned (take m ls ++ negated (lit ls m) ∷ []) (mark ms i) ≡ turned ls (mark ms i)
    each i lt =
        let under = under-top ls ms m i r lt in
        turned-same ls (take m ls ++ negated (lit ls m) ∷ []) (mark ms i)
        (take-append-le (mark ms i) (take m ls) (negated (lit ls m) ∷ []) (omega (arith, under, long)) ∙ take-take (mark ms i) m ls (omega (arith, under)))
        (get_or_append_left (take m ls) (negated (lit ls m) ∷ []) none (mark ms i) (omega (arith, under, long)) ∙ get_or-take m ls (mark ms i) none under)

-- the literal at a place of the path has one of the path's atoms
pub lit-within : (n : ℕ) (ls : List Literal) (m : ℕ) → IsTrail n ls → m < length ls → (lit ls m).atom ≤ n
lit-within n ls m r lt = r.over (lit ls m) (on-at ls m none lt)

-- the mark that was taken stands on the path
pub popped-inside : (ms ds : List ℕ) (m long : ℕ) → ((i : ℕ) → i + 1 ≡ length ms → mark ms i < long) → ms ≡ ds ++ m ∷ [] → m < long
popped-inside ms ds m long h e =
    omega (arith, h (length ds) (omega (arith, ap length e, length_push ds m)), ap (λ (ks : List ℕ). mark ks (length ds)) e, mark-new ds m)

-- ---- from line to line

pub next-line : (t : TreeTable) (k : ℕ) → k < length t → drop k t ≡ line_at t (k + 1) ∷ drop (k + 1) t
next-line t k lt = drop_more t k no_line lt ∙ ap (λ (i : ℕ). get_or t i no_line ∷ drop (k + 1) t) (omega arith)

-- a line after the tree is complete
pub line-too-much : (n : ℕ) (cs : List (List Literal)) (xs : List TreeLine) (ls : List Literal) (ms : List ℕ) (last : ℕ) (x : TreeLine) (rest : List TreeLine)
    → Checking n cs xs ls ms false last (x ∷ rest) → tree_fault n cs xs ≡ Some (TooMuch x.number)
line-too-much n cs xs ls ms last x rest h = h.is

-- after the last line
pub ends-early : (n : ℕ) (cs : List (List Literal)) (xs : List TreeLine) (ls : List Literal) (ms : List ℕ) (last : ℕ) → Checking n cs xs ls ms true last [] → tree_fault n cs xs ≡ Some (EndsEarly last)
ends-early n cs xs ls ms last h = h.is

pub ends-well : (n : ℕ) (cs : List (List Literal)) (xs : List TreeLine) (ls : List Literal) (ms : List ℕ) (last : ℕ) → Checking n cs xs ls ms false last [] → tree_fault n cs xs ≡ None
ends-well n cs xs ls ms last h = h.is

-- a literal that may not be split at
pub line-bad : (n : ℕ) (cs : List (List Literal)) (xs : List TreeLine) (ls : List Literal) (ms : List ℕ) (last : ℕ) (x : TreeLine) (rest : List TreeLine) (l : Literal)
    → Checking n cs xs ls ms true last (x ∷ rest) → x.node ≡ split l → may_split n (on ls) l ≡ false → tree_fault n cs xs ≡ Some (BadLiteral x.number)
line-bad n cs xs ls ms last x rest l h is bad =
    h.is
    ∙ (ap (λ y. on_node y (λ k. cond (may_split n (on ls) k) (lines_fault n cs x.number (added k (on ls) ∷ added (negated k) (on ls) ∷ pending ls ms []) rest) (Some (BadLiteral x.number)))
    (λ ns. or_fault (leaf_fault cs x.number (on ls) ns) (lines_fault n cs x.number (pending ls ms []) rest))) is
    ∙ ap (λ (q : Bool). cond q (lines_fault n cs x.number (added l (on ls) ∷ added (negated l) (on ls) ∷ pending ls ms []) rest) (Some (BadLiteral x.number))) bad)

-- a leaf with a fault
pub line-leaf : (n : ℕ) (cs : List (List Literal)) (xs : List TreeLine) (ls : List Literal) (ms : List ℕ) (last : ℕ) (x : TreeLine) (rest : List TreeLine) (ns : List ℕ) (f : TreeFault)
    → Checking n cs xs ls ms true last (x ∷ rest) → x.node ≡ leaf ns → leaf_fault cs x.number (on ls) ns ≡ Some f → tree_fault n cs xs ≡ Some f
line-leaf n cs xs ls ms last x rest ns f h is bad =
    h.is
    ∙ (ap (λ y. on_node y (λ k. cond (may_split n (on ls) k) (lines_fault n cs x.number (added k (on ls) ∷ added (negated k) (on ls) ∷ pending ls ms []) rest) (Some (BadLiteral x.number)))
    (λ ns. or_fault (leaf_fault cs x.number (on ls) ns) (lines_fault n cs x.number (pending ls ms []) rest))) is
    ∙ ap (λ (o : Option TreeFault). or_fault o (lines_fault n cs x.number (pending ls ms []) rest)) bad)

-- one more line that is a split
pub checking-split : (n : ℕ) (cs : List (List Literal)) (xs : List TreeLine) (ls : List Literal) (ms : List ℕ) (last : ℕ) (x : TreeLine) (rest : List TreeLine) (l : Literal)
    → Checking n cs xs ls ms true last (x ∷ rest) → x.node ≡ split l → may_split n (on ls) l ≡ true → Checking n cs xs (ls ++ l ∷ []) (ms ++ length ls ∷ []) true x.number rest
checking-split n cs xs ls ms last x rest l h is ok = record {
  marks = λ e. marks-push ls ms l (h.marks refl);
  is = h.is
      ∙ (ap (λ y. on_node y (λ k. cond (may_split n (on ls) k) (lines_fault n cs x.number (added k (on ls) ∷ added (negated k) (on ls) ∷ pending ls ms []) rest) (Some (BadLiteral x.number)))
      (λ ns. or_fault (leaf_fault cs x.number (on ls) ns) (lines_fault n cs x.number (pending ls ms []) rest))) is
      ∙ (ap (λ (q : Bool). cond q (lines_fault n cs x.number (added l (on ls) ∷ added (negated l) (on ls) ∷ pending ls ms []) rest) (Some (BadLiteral x.number))) ok
      ∙ ap (λ (ss : List Assignment). lines_fault n cs x.number ss rest) (path-down ls ms l (h.marks refl))));
}

-- one more line that is a leaf without a fault
pub checking-leaf : (n : ℕ) (cs : List (List Literal)) (xs : List TreeLine) (ls us : List Literal) (ms ds : List ℕ) (last : ℕ) (x : TreeLine) (rest : List TreeLine) (ns : List ℕ) (b : Bool)
    → Checking n cs xs ls ms true last (x ∷ rest) → x.node ≡ leaf ns → leaf_fault cs x.number (on ls) ns ≡ None
    → MatchBool b ((m : ℕ) × (ms ≡ ds ++ m ∷ []) × (us ≡ take m ls ++ negated (lit ls m) ∷ [])) (ms ≡ []) → Checking n cs xs us ds b x.number rest
checking-leaf n cs xs ls us ms ds last x rest ns b h is ok back = go b back
  where
    step : tree_fault n cs xs ≡ lines_fault n cs x.number (pending ls ms []) rest
    step = h.is
        ∙ (ap (λ y. on_node y (λ k. cond (may_split n (on ls) k) (lines_fault n cs x.number (added k (on ls) ∷ added (negated k) (on ls) ∷ pending ls ms []) rest) (Some (BadLiteral x.number)))
        (λ ns. or_fault (leaf_fault cs x.number (on ls) ns) (lines_fault n cs x.number (pending ls ms []) rest))) is
        ∙ ap (λ (f : Option TreeFault). or_fault f (lines_fault n cs x.number (pending ls ms []) rest)) ok)

    go : (b : Bool) → MatchBool b ((m : ℕ) × (ms ≡ ds ++ m ∷ []) × (us ≡ take m ls ++ negated (lit ls m) ∷ [])) (ms ≡ []) → Checking n cs xs us ds b x.number rest
    go false e = record {
      marks = λ z. absurd (both_ways false refl z);
      is = step ∙ ap (λ (ks : List ℕ). lines_fault n cs x.number (pending ls ks []) rest) e;
    }
    go true e =
        let r : AreMarks ls (ds ++ e.0 ∷ []) = subst (λ (ks : List ℕ). AreMarks ls ks) e.1 (h.marks refl) in
        subst (λ (vs : List Literal). Checking n cs xs vs ds true x.number rest) (sym e.2) (record {
          marks = λ z. marks-pop ls ds e.0 (negated (lit ls e.0)) r;
          is = step
              ∙ (ap (λ (ks : List ℕ). lines_fault n cs x.number (pending ls ks []) rest) e.1
              ∙ ap (λ (ss : List Assignment). lines_fault n cs x.number ss rest) (path-back ls ds e.0 r));
        })

-- ---- from clause to clause of a leaf

-- the literals of a clause that is read have atoms of the path
pub clause-within : (n m : ℕ) (cs : List (List Literal)) (c : List Literal) (k : ℕ) → All (All (λ (l : Literal). l.atom ≤ n)) cs → n ≤ m → c ≡ clause_at cs k → (l : Literal) → on c l ≡ true → l.atom ≤ m
clause-within n m cs c k all le is l h = within-more n m cs all le k l (subst (λ (y : List Literal). on y l ≡ true) is h)

-- the last clause
pub fault-last : (cs : List (List Literal)) (line : ℕ) (s : Assignment) (ns : List ℕ) (i : ℕ) (c : List Literal) → i + 1 ≡ length ns → 1 ≤ get_or ns i 0 → get_or ns i 0 ≤ length cs
    → c ≡ clause_at cs (get_or ns i 0 - 1) → leaf_fault cs line s (drop i ns) ≡ cond (all_false s c) None (Some (NoConflict line))
fault-last cs line s ns i c e lo hi is =
    let n = get_or ns i 0 in
    let d : drop i ns ≡ n ∷ [] = drop_more ns i 0 (omega (arith, e)) ∙ ap (λ (l : List ℕ). n ∷ l) (drop_all (i + 1) ns (omega (arith, e))) in
    ap (leaf_fault cs line s) d
    ∙ (ap (λ (q : Bool). cond q (cond (all_false s (clause_at cs (n - 1))) None (Some (NoConflict line))) (Some (BadClause line n))) (number-is cs n lo hi)
    ∙ ap (λ (k : List Literal). cond (all_false s k) None (Some (NoConflict line))) (sym is))

-- a clause before the last
pub fault-more : (cs : List (List Literal)) (line : ℕ) (s : Assignment) (ns : List ℕ) (i : ℕ) (c : List Literal) → i + 1 < length ns → 1 ≤ get_or ns i 0 → get_or ns i 0 ≤ length cs
    → c ≡ clause_at cs (get_or ns i 0 - 1) → leaf_fault cs line s (drop i ns) ≡ unit_fault line (get_or ns i 0) (unit s c) (λ l. leaf_fault cs line (added l s) (drop (i + 1) ns))
fault-more cs line s ns i c lt lo hi is =
    let n = get_or ns i 0 in
    let m = get_or ns (i + 1) 0 in
    let d2 : drop (i + 1) ns ≡ m ∷ drop (i + 1 + 1) ns = drop_more ns (i + 1) 0 lt in
    let d : drop i ns ≡ n ∷ m ∷ drop (i + 1 + 1) ns = drop_more ns i 0 (omega (arith, lt)) ∙ ap (λ (l : List ℕ). n ∷ l) d2 in
    ap (leaf_fault cs line s) d
    ∙ (ap (λ (q : Bool). cond q (unit_fault line n (unit s (clause_at cs (n - 1))) (λ l. leaf_fault cs line (added l s) (m ∷ drop (i + 1 + 1) ns))) (Some (BadClause line n))) (number-is cs n lo hi)
    ∙ (ap (λ (k : List Literal). unit_fault line n (unit s k) (λ l. leaf_fault cs line (added l s) (m ∷ drop (i + 1 + 1) ns))) (sym is)
    ∙ ap (λ (xs : List ℕ). unit_fault line n (unit s c) (λ l. leaf_fault cs line (added l s) xs)) (sym d2)))
