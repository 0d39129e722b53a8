-- The clauses, step by step.
use Rattle.std.proofs.Common.{◌≡◌, ℕ, zero, suc, ◌+◌, ◌<◌, ◌≤◌, Bool, true, false, cond, ◌&&◌, nat_le, List, [], ◌∷◌, ◌++◌, length, map, get_or, drop, take, Option, Some, None, option_map, slice_get, Result, Ok, Err, IfSome, refl, sym, ap, subst, ◌∙◌, inl, inr, ◌⊎◌, arith}
use Rattle.std.specs.List.{All}
use Rattle.std.specs.Result.{IsErrAnd}
use Rattle.std.proofs.lemmas.Bool.{cond-true, cond-false, le-leb, lt-leb}
use Rattle.std.proofs.lemmas.List.Elements.{All-head, All-tail}
use Rattle.pg_program.specs.declared.syntax.Stmt.{Stmt}
use Rattle.pg_program.specs.declared.syntax.AuxAssign.{AuxAssign}
use Rattle.pg_program.specs.declared.point.PointId.{PointId}
use Rattle.pg_program.specs.declared.fault.ProgramFault.{ProgramFault}
use Rattle.pg_program.specs.declared.name_table.NameKind.{NameKind}
use Rattle.pg_program.specs.declared.name_table.NameKind.TheVariants as kind
use Rattle.pg_program.specs.declared.name_table.ScalarKind.{ScalarKind}
use Rattle.pg_program.specs.declared.name_table.ScalarKind.TheVariants as scalar
use Rattle.pg_program.specs.NameTable.{NameTable, Location, kind_of, is_auxiliary, is_auxiliary_kind, is_foreign, is_foreign_kind}
use Rattle.pg_program.specs.Block.{block}
use Rattle.pg_program.specs.Graph.{statements}
use Rattle.pg_program.specs.Fault.{Fault, plain_fault, first_of, unknown_owner, first_outside, in_thread, in_threads}
use Rattle.pg_program.specs.Words.{repeated, different, is_in}
use Rattle.pg_program.specs.Outcome.{Finds}

-- ---- one clause after another

pub stops : (f rest : Option Fault) (e : ProgramFault) → IfSome (plain_fault e) (λ g. f ≡ Some g) → IfSome (plain_fault e) (λ g. first_of f rest ≡ Some g)
stops f rest e h = by (plain_fault e) h
  where
    by : (o : Option Fault) → IfSome o (λ g. f ≡ Some g) → IfSome o (λ g. first_of f rest ≡ Some g)
    by None k = k
    by (Some g) k = ap (λ x. first_of x rest) k

pub passes : (f rest : Option Fault) (e : ProgramFault) → f ≡ None → IfSome (plain_fault e) (λ g. rest ≡ Some g) → IfSome (plain_fault e) (λ g. first_of f rest ≡ Some g)
passes f rest e none h = subst (λ (x : Option Fault). IfSome (plain_fault e) (λ g. first_of x rest ≡ Some g)) (sym none) h

pub passes_on : (f rest : Option Fault) (r : Result (Unit {0}) ProgramFault) → f ≡ None → Finds rest r → Finds (first_of f rest) r
passes_on f rest r none h = subst (λ (x : Option Fault). Finds (first_of x rest) r) (sym none) h

-- what a clause refuses is refused, whatever comes after it
pub refuses : {T : Type 0} (f rest : Option Fault) (r : Result T ProgramFault) (e : ProgramFault) → IsErrAnd r (λ y. y ≡ e) → IfSome (plain_fault e) (λ g. f ≡ Some g) → Finds (first_of f rest) r
refuses f rest (Ok x) e is h = absurd is
refuses f rest (Err y) e is h = stops f rest y (subst (λ (z : ProgramFault). IfSome (plain_fault z) (λ g. f ≡ Some g)) (sym is) h)

-- ---- items of lists

-- the item that is read from a list of items, seen by a view
pub item_viewed : {A B : Type 0} (f : A → B) (ts : List A) (k : ℕ) (t : A) → t ≡ get_or ts k t → f t ≡ get_or (map f ts) k (f t)
item_viewed f [] k t h = refl
item_viewed f (u ∷ ts) zero t h = ap f h
item_viewed f (u ∷ ts) (suc k) t h = item_viewed f ts k t h

pub length_viewed : {A B : Type 0} (f : A → B) (ts : List A) → length (map f ts) ≡ length ts
length_viewed f [] = refl
length_viewed f (t ∷ ts) = ap suc (length_viewed f ts)

pub All-viewed : {A B : Type 0} (P : B → Type 0) (f : A → B) (ts : List A) (k : ℕ) (t : A) → k < length ts → t ≡ get_or ts k t → All P (map f ts) → P (f t)
All-viewed P f ts k t lt h all = subst P (sym (item_viewed f ts k t h)) (all k (f t) (omega (arith, lt, length_viewed f ts)))

-- a place of a list, and the list after it
pub dropped : {X : Type 0} (xs : List X) (i : ℕ) (x : X) → slice_get xs i ≡ Some x → drop i xs ≡ x ∷ drop (i + 1) xs
dropped [] i x h = cc
dropped (y ∷ xs) zero x h = let same : y ≡ x = cc in ap (λ (z : _). z ∷ xs) same
dropped (y ∷ xs) (suc i) x h = dropped xs i x h ∙ ap (λ (n : ℕ). x ∷ drop n (y ∷ xs)) (let q : suc (i + 1) ≡ suc i + 1 = omega arith in q)

pub slice_get-read : {X : Type 0} (xs : List X) (i : ℕ) (x : X) → i < length xs → x ≡ get_or xs i x → slice_get xs i ≡ Some x
slice_get-read [] i x lt h = absurd (omega arith)
slice_get-read (y ∷ xs) zero x lt h = ap (λ z. Some z) (sym h)
slice_get-read (y ∷ xs) (suc i) x lt h = slice_get-read xs i x (omega arith) h

pub All-slice_get : {X : Type 0} (P : X → Type 0) (xs : List X) (i : ℕ) (x : X) → slice_get xs i ≡ Some x → All P xs → P x
All-slice_get P [] i x h all = cc
All-slice_get P (y ∷ xs) zero x h all = let same : y ≡ x = cc in subst P same (All-head P y xs all)
All-slice_get P (y ∷ xs) (suc i) x h all = All-slice_get P xs i x h (All-tail P y xs all)

-- ---- owners

-- the owner of one scalar more is looked at
unknown_owner-register : (n : ℕ) (es : List (List ℕ × ScalarKind)) (r owner : ℕ) → option_map (λ e. kind_of e.1) (slice_get es r) ≡ Some (kind.Register owner)
    → unknown_owner n (drop r es) ≡ cond (nat_le 1 owner && nat_le owner n) (unknown_owner n (drop (r + 1) es)) (Some owner)
unknown_owner-register n [] r owner h = cc
unknown_owner-register n ((name, scalar.Register o) ∷ es) zero owner h =
    let same : o ≡ owner = cc in
    ap (λ w. cond (nat_le 1 w && nat_le w n) (unknown_owner n es) (Some w)) same
unknown_owner-register n ((name, scalar.Auxiliary) ∷ es) zero owner h = cc
unknown_owner-register n (e ∷ es) (suc r) owner h = unknown_owner-register n es r owner h ∙ ap (λ k. cond (nat_le 1 owner && nat_le owner n) (unknown_owner n (drop k (e ∷ es))) (Some owner)) (let q : suc (r + 1) ≡ suc r + 1 = omega arith in q)

no_thread : (n owner : ℕ) → (owner < 1) ⊎ ((1 ≤ owner) × (n < owner)) → (nat_le 1 owner && nat_le owner n) ≡ false
no_thread n owner (inl low) = ap (λ b. b && nat_le owner n) (lt-leb 1 owner (omega arith))
no_thread n owner (inr high) = ap (λ b. b && nat_le owner n) (le-leb 1 owner high.0) ∙ lt-leb owner n high.1

pub owner_found : (n : ℕ) (es : List (List ℕ × ScalarKind)) (r owner : ℕ) → option_map (λ e. kind_of e.1) (slice_get es r) ≡ Some (kind.Register owner)
    → (owner < 1) ⊎ ((1 ≤ owner) × (n < owner)) → unknown_owner n (drop r es) ≡ Some owner
owner_found n es r owner h none =
    unknown_owner-register n es r owner h ∙ cond-false (nat_le 1 owner && nat_le owner n) (unknown_owner n (drop (r + 1) es)) (Some owner) (no_thread n owner none)

pub owner_is_thread : (n : ℕ) (es : List (List ℕ × ScalarKind)) (r owner : ℕ) → option_map (λ e. kind_of e.1) (slice_get es r) ≡ Some (kind.Register owner)
    → 1 ≤ owner → owner ≤ n → unknown_owner n (drop r es) ≡ unknown_owner n (drop (r + 1) es)
owner_is_thread n es r owner h low high =
    unknown_owner-register n es r owner h
    ∙ cond-true (nat_le 1 owner && nat_le owner n) (unknown_owner n (drop (r + 1) es)) (Some owner)
    (ap (λ b. b && nat_le owner n) (le-leb 1 owner low) ∙ le-leb owner n high)

pub owner_of_none : (n : ℕ) (es : List (List ℕ × ScalarKind)) (r : ℕ) (k : NameKind) → option_map (λ e. kind_of e.1) (slice_get es r) ≡ Some k → ((o : ℕ) → k ≡ kind.Register o → ⊥)
    → unknown_owner n (drop r es) ≡ unknown_owner n (drop (r + 1) es)
owner_of_none n [] r k h never = cc
owner_of_none n ((name, scalar.Register o) ∷ es) zero k h never = let e : k ≡ kind.Register o = cc in absurd (never o e)
owner_of_none n ((name, scalar.Auxiliary) ∷ es) zero k h never = refl
owner_of_none n (e ∷ es) (suc r) k h never = owner_of_none n es r k h never ∙ ap (λ j. unknown_owner n (drop j (e ∷ es))) (let q : suc (r + 1) ≡ suc r + 1 = omega arith in q)

-- ---- numbers

-- one entry more is looked at
pub first_outside-drop : (d : ℕ) (es : List Location) (x v : ℕ) → option_map (λ e. e.init) (slice_get es x) ≡ Some v
    → first_outside d (map (λ e. e.init) (drop x es)) ≡ cond (nat_le d v) (Some v) (first_outside d (map (λ e. e.init) (drop (x + 1) es)))
first_outside-drop d [] x v h = cc
first_outside-drop d (e ∷ es) zero v h =
    let same : e.init ≡ v = cc in
    ap (λ w. cond (nat_le d w) (Some w) (first_outside d (map (λ e. e.init) es))) same
first_outside-drop d (e ∷ es) (suc x) v h = first_outside-drop d es x v h ∙ ap (λ n. cond (nat_le d v) (Some v) (first_outside d (map (λ e. e.init) (drop n (e ∷ es))))) (let q : suc (x + 1) ≡ suc x + 1 = omega arith in q)

-- ---- targets

pub repeated-All : (P : ℕ → Type 0) (before rs : List ℕ) (r : ℕ) → repeated before rs ≡ Some r → All P rs → P r
repeated-All P before [] r h all = cc
repeated-All P before (q ∷ rs) r h all = by (λ e. repeated-All P (before ++ q ∷ []) rs r e (All-tail P q rs all)) (is_in q before) h
  where
    by : (repeated (before ++ q ∷ []) rs ≡ Some r → P r) → (b : Bool) → cond b (Some q) (repeated (before ++ q ∷ []) rs) ≡ Some r → P r
    by rest true e = let same : q ≡ r = cc in subst P same (All-head P q rs all)
    by rest false e = rest e

-- the targets up to a place, with the one there
taken : (aux : List AuxAssign) (i : ℕ) (a : AuxAssign) → slice_get aux i ≡ Some a
    → map (λ e. e.target) (take i aux) ++ a.target ∷ [] ≡ map (λ e. e.target) (take (i + 1) aux)
taken [] i a h = cc
taken (e ∷ aux) zero a h = let same : e ≡ a = cc in ap (λ (x : AuxAssign). x.target ∷ []) (sym same)
taken (e ∷ aux) (suc i) a h =
    let q : suc (i + 1) ≡ suc i + 1 = omega arith in
    ap (λ l. e.target ∷ l) (taken aux i a h) ∙ ap (λ (n : ℕ). map (λ x. x.target) (take n (e ∷ aux))) q

repeated-drop : (aux : List AuxAssign) (i : ℕ) (a : AuxAssign) → slice_get aux i ≡ Some a
    → repeated (map (λ e. e.target) (take i aux)) (map (λ e. e.target) (drop i aux))
    ≡ cond (is_in a.target (map (λ e. e.target) (take i aux))) (Some a.target) (repeated (map (λ e. e.target) (take (i + 1) aux)) (map (λ e. e.target) (drop (i + 1) aux)))
repeated-drop aux i a h =
    let before = map (λ (e : AuxAssign). e.target) (take i aux) in
    let after = map (λ (e : AuxAssign). e.target) (drop (i + 1) aux) in
    ap (λ (l : List AuxAssign). repeated before (map (λ e. e.target) l)) (dropped aux i a h)
    ∙ ap (λ (k : List ℕ). cond (is_in a.target before) (Some a.target) (repeated k after)) (taken aux i a h)

pub repeated_here : (aux : List AuxAssign) (i : ℕ) (a : AuxAssign) → slice_get aux i ≡ Some a → true ≡ is_in a.target (map (λ e. e.target) (take i aux))
    → Some a.target ≡ repeated (map (λ e. e.target) (take i aux)) (map (λ e. e.target) (drop i aux))
repeated_here aux i a h there = sym (repeated-drop aux i a h ∙ cond-true _ _ _ (sym there))

pub repeated_later : (aux : List AuxAssign) (i : ℕ) (a : AuxAssign) → slice_get aux i ≡ Some a → false ≡ is_in a.target (map (λ e. e.target) (take i aux))
    → repeated (map (λ e. e.target) (take i aux)) (map (λ e. e.target) (drop i aux))
    ≡ repeated (map (λ e. e.target) (take (i + 1) aux)) (map (λ e. e.target) (drop (i + 1) aux))
repeated_later aux i a h there = repeated-drop aux i a h ∙ cond-false _ _ _ (sym there)

pub auxiliary_declared : (names : NameTable) (r : ℕ) → is_auxiliary names r ≡ true → r < length names.scalars
auxiliary_declared names r h = by names.scalars r h
  where
    by : (es : List (List ℕ × ScalarKind)) (i : ℕ) → is_auxiliary_kind (slice_get es i) ≡ true → i < length es
    by [] i e = cc
    by (x ∷ es) zero e = omega arith
    by (x ∷ es) (suc i) e = let k = by es i e in omega arith

pub foreign_declared : (names : NameTable) (t r : ℕ) → is_foreign names t r ≡ true → r < length names.scalars
foreign_declared names t r h = by names.scalars r h
  where
    by : (es : List (List ℕ × ScalarKind)) (i : ℕ) → is_foreign_kind t (slice_get es i) ≡ true → i < length es
    by [] i e = cc
    by (x ∷ es) zero e = omega arith
    by (x ∷ es) (suc i) e = let k = by es i e in omega arith

-- ---- different numbers

pub different-drop : (ns : List ℕ) (i : ℕ) (b : Bool) → i < length ns → b ≡ is_in (get_or ns i 0) (drop (i + 1) ns)
    → length (different (drop i ns)) ≡ cond b 0 1 + length (different (drop (i + 1) ns))
different-drop [] i b lt h = absurd (omega arith)
different-drop (n ∷ ns) zero b lt h = by (is_in n ns) b (sym h)
  where
    by : (c b : Bool) → c ≡ b → length (cond c (different ns) (n ∷ different ns)) ≡ cond b 0 1 + length (different ns)
    by true true e = omega arith
    by true false e = cc
    by false true e = cc
    by false false e = omega arith
different-drop (n ∷ ns) (suc i) b lt h =
    let q : suc (i + 1) ≡ suc i + 1 = omega arith in
    different-drop ns i b (omega arith) (h ∙ ap (λ k. is_in (get_or ns i 0) (drop k (n ∷ ns))) (sym q)) ∙ ap (λ k. cond b 0 1 + length (different (drop k (n ∷ ns)))) q

-- ---- the text

pub in_threads-drop : (C : PointId → Stmt → Option Fault) (t : ℕ) (ls : List (List Stmt)) (i : ℕ) (ss : List Stmt) → i < length ls → ss ≡ get_or ls i ss
    → in_threads C t (drop i ls) ≡ first_of (in_thread C t 1 (statements (block ss))) (in_threads C (t + 1) (drop (i + 1) ls))
in_threads-drop C t ls i ss lt h = ap (in_threads C t) (dropped ls i ss (slice_get-read ls i ss lt h))

pub in_thread-drop : (C : PointId → Stmt → Option Fault) (t k : ℕ) (ss : List Stmt) (i : ℕ) (s : Stmt) → slice_get ss i ≡ Some s
    → in_thread C t k (drop i ss) ≡ first_of (C (record { thread = t; point = k }) s) (in_thread C t (k + 1) (drop (i + 1) ss))
in_thread-drop C t k ss i s h = ap (in_thread C t k) (dropped ss i s h)

pub drop-none : {X : Type 0} (xs : List X) (i : ℕ) → slice_get xs i ≡ None → drop i xs ≡ []
drop-none [] zero h = refl
drop-none [] (suc i) h = refl
drop-none (x ∷ xs) zero h = cc
drop-none (x ∷ xs) (suc i) h = drop-none xs i h

pub drop-none_more : {X : Type 0} (xs : List X) (i : ℕ) → slice_get xs i ≡ None → drop (i + 1) xs ≡ []
drop-none_more [] i h = let q : i + 1 ≡ suc i = omega arith in ap (λ n. drop n []) q
drop-none_more (x ∷ xs) zero h = cc
drop-none_more (x ∷ xs) (suc i) h = ap (λ n. drop n (x ∷ xs)) (let q : suc i + 1 ≡ suc (i + 1) = omega arith in q) ∙ drop-none_more xs i h

pub in_thread-none : (C : PointId → Stmt → Option Fault) (t k : ℕ) (ss : List Stmt) (i : ℕ) → slice_get ss i ≡ None → in_thread C t k (drop i ss) ≡ in_thread C t (k + 1) (drop (i + 1) ss)
in_thread-none C t k ss i h = ap (in_thread C t k) (drop-none ss i h) ∙ sym (ap (in_thread C t (k + 1)) (drop-none_more ss i h))

-- after the last item there is none
pub drop-all : {X : Type 0} (xs : List X) (i : ℕ) → length xs ≤ i → drop i xs ≡ []
drop-all [] zero le = refl
drop-all [] (suc i) le = refl
drop-all (x ∷ xs) zero le = absurd (omega arith)
drop-all (x ∷ xs) (suc i) le = drop-all xs i (omega arith)

pub take-rest : {X : Type 0} (xs : List X) (n : ℕ) → length xs ≤ n → take n xs ≡ xs
take-rest [] zero le = refl
take-rest [] (suc n) le = refl
take-rest (x ∷ xs) zero le = absurd (omega arith)
take-rest (x ∷ xs) (suc n) le = ap (λ l. x ∷ l) (take-rest xs n (omega arith))

-- a place within a list has an item
pub none_within : {X : Type 0} (xs : List X) (k : ℕ) → k < length xs → None ≡ slice_get xs k → ⊥
none_within [] k h e = absurd (omega arith)
none_within (x ∷ xs) zero h e = cc
none_within (x ∷ xs) (suc k) h e = none_within xs k (omega arith) e
