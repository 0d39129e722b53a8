-- One more turn of a loop that reads.
use Rattle.std.proofs.Common.{◌≡◌, ℕ, suc, ◌+◌, ◌-◌, ◌<◌, ◌≤◌, true, false, ◌==◌, List, [], ◌∷◌, ◌++◌, slice_index, Result, Ok, Err, refl, sym, ap, ◌∙◌, append_assoc, arith}
use Rattle.pg_document.specs.declared.fault.DocFault.{DocFault}
use Rattle.pg_document.specs.declared.fault.DocFault.TheVariants.{Unexpected}
use Rattle.pg_derivation.specs.Derivation.{Node}
use Rattle.pg_derivation.specs.Fault.{Cursor, Read, ◌>>=◌, advance, number, numbers, newline, node, nodes, is_node}
use Rattle.pg_derivation.specs.declared.place.Place.{Place}
use Rattle.pg_derivation.specs.Place.{cursor, Tells}
use Rattle.pg_derivation.specs.Read.{with_front, alone, Reads}

abbrev pub done : {A : Type 0} → A × Cursor → Read A
done x = Ok x

pub parts_of : {A : Type 0} (x y : A × Cursor) → done x ≡ done y → (x.0 ≡ y.0) × (x.1 ≡ y.1)
parts_of x y e = (cc, cc)

pub regroup : {A : Type 0} (front : List A) (x : A) (r : Read (List A)) → with_front front (r >>= λ more. Ok (x ∷ more.0, more.1)) ≡ with_front (front ++ x ∷ []) r
regroup front x (Ok y) = ap (λ (xs : List _). Ok (xs, y.1)) (sym (append_assoc front (x ∷ []) y.0))
regroup front x (Err e) = refl

-- what was read behind the front
pub list_ok : {A : Type 0} (front new : List A) (r : Read (List A)) (d : Cursor) → with_front front r ≡ Ok (new, d) → (xs : List A) × (r ≡ Ok (xs, d)) × (new ≡ front ++ xs)
list_ok front new (Ok y) d h =
    let p = parts_of (front ++ y.0, y.1) (new, d) h in
    (y.0, ap (λ (e : Cursor). done (y.0, e)) p.1, sym p.0)
list_ok front new (Err e) d h = absurd cc

pub list_err : {A : Type 0} (front : List A) (r : Read (List A)) (e : DocFault) → with_front front r ≡ Err e → r ≡ Err e
list_err front (Ok y) e h = absurd cc
list_err front (Err d) e h = h

-- ---- numbers

pub number-fault : (front : List ℕ) (turns i : ℕ) (c : Cursor) (e : DocFault) (whole : Read (List ℕ)) → i < turns → number c ≡ Err e
    → with_front front (numbers (turns - i) c) ≡ whole → whole ≡ Err e
unfolding numbers
number-fault front turns i c e whole lt h so_far =
    let k : turns - i ≡ suc (turns - (i + 1)) = omega arith in
    let one : with_front front (numbers (turns - i) c) ≡ Err e = rw (k, h) refl in
    sym so_far ∙ one

pub number-more : (front : List ℕ) (turns i : ℕ) (c : Cursor) (x : ℕ) (d : Cursor) (whole : Read (List ℕ)) → i < turns → number c ≡ Ok (x, d) → (slice_index d.rest 0 == 32) ≡ true
    → with_front front (numbers (turns - i) c) ≡ whole → with_front (front ++ x ∷ []) (numbers (turns - (i + 1)) (advance 1 d)) ≡ whole
unfolding numbers
number-more front turns i c x d whole lt h more so_far =
    let k : turns - i ≡ suc (turns - (i + 1)) = omega arith in
    let one : with_front front (numbers (turns - i) c) ≡ with_front (front ++ x ∷ []) (numbers (turns - (i + 1)) (advance 1 d)) = rw (k, h, more) (regroup front x (numbers (turns - (i + 1)) (advance 1 d))) in
    sym one ∙ so_far

pub number-last : (front : List ℕ) (turns i : ℕ) (c : Cursor) (x : ℕ) (d p : Cursor) (whole : Read (List ℕ)) → i < turns → number c ≡ Ok (x, d) → (slice_index d.rest 0 == 32) ≡ false
    → newline d ≡ Ok p → with_front front (numbers (turns - i) c) ≡ whole → whole ≡ Ok (front ++ x ∷ [], p)
unfolding numbers
number-last front turns i c x d p whole lt h more line so_far =
    let k : turns - i ≡ suc (turns - (i + 1)) = omega arith in
    let one : with_front front (numbers (turns - i) c) ≡ Ok (front ++ x ∷ [], p) = rw (k, h, more, line) refl in
    sym so_far ∙ one

pub number-no_line : (front : List ℕ) (turns i : ℕ) (c : Cursor) (x : ℕ) (d : Cursor) (e : DocFault) (whole : Read (List ℕ)) → i < turns → number c ≡ Ok (x, d) → (slice_index d.rest 0 == 32) ≡ false
    → newline d ≡ Err e → with_front front (numbers (turns - i) c) ≡ whole → whole ≡ Err e
unfolding numbers
number-no_line front turns i c x d e whole lt h more line so_far =
    let k : turns - i ≡ suc (turns - (i + 1)) = omega arith in
    let one : with_front front (numbers (turns - i) c) ≡ Err e = rw (k, h, more, line) refl in
    sym so_far ∙ one

pub numbers-out : (front : List ℕ) (turns i : ℕ) (c : Cursor) (whole : Read (List ℕ)) → turns ≤ i → with_front front (numbers (turns - i) c) ≡ whole → whole ≡ Err (Unexpected c.at)
unfolding numbers
numbers-out front turns i c whole le so_far =
    let k : turns - i ≡ 0 = omega arith in
    let one : with_front front (numbers (turns - i) c) ≡ Err (Unexpected c.at) = rw k refl in
    sym so_far ∙ one

pub number-ends : (front : List ℕ) (turns i : ℕ) (c : Cursor) (x : ℕ) (d : Cursor) (r : Result Place DocFault) (whole : Read (List ℕ)) → i < turns → number c ≡ Ok (x, d) → (slice_index d.rest 0 == 32) ≡ false
    → Tells cursor r (newline d) → with_front front (numbers (turns - i) c) ≡ whole → Reads (λ p. (front ++ x ∷ [], cursor p)) r whole
number-ends front turns i c x d (Ok p) whole lt h test line so_far = number-last front turns i c x d (cursor p) whole lt h test line so_far
number-ends front turns i c x d (Err e) whole lt h test line so_far = λ _. number-no_line front turns i c x d e whole lt h test line so_far

pub further : (a b : Cursor) (n : ℕ) → a ≡ advance n b → a.at ≡ b.at + n
further a b n h = ap (λ (x : Cursor). x.at) h

-- ---- nodes

ends_in : {A : Type 0} (front new : List A) (r : Read A) (d : Cursor) → with_front front (alone r) ≡ Ok (new, d) → (x : A) × (r ≡ Ok (x, d)) × (new ≡ front ++ x ∷ [])
ends_in front new (Ok y) d h =
    let p = parts_of (front ++ y.0 ∷ [], y.1) (new, d) h in
    (y.0, ap (λ (e : Cursor). done (y.0, e)) p.1, sym p.0)
ends_in front new (Err e) d h = absurd cc

fault_in : {A : Type 0} (front : List A) (r : Read A) (e : DocFault) → with_front front (alone r) ≡ Err e → r ≡ Err e
fault_in front (Ok y) e h = absurd cc
fault_in front (Err d) e h = let is : d ≡ e = cc in cc

pub node-fault : (front : List Node) (turns i : ℕ) (c : Cursor) (e : DocFault) (whole : Read (List Node)) → i < turns → with_front front (alone (node c)) ≡ Err e
    → with_front front (nodes (turns - i) c) ≡ whole → whole ≡ Err e
unfolding nodes
node-fault front turns i c e whole lt h so_far =
    let k : turns - i ≡ suc (turns - (i + 1)) = omega arith in
    let is = fault_in front (node c) e h in
    let one : with_front front (nodes (turns - i) c) ≡ Err e = rw (k, is) refl in
    sym so_far ∙ one

node-goes_on : (front : List Node) (turns i : ℕ) (c : Cursor) (x : Node) (d : Cursor) (whole : Read (List Node)) → i < turns → node c ≡ Ok (x, d) → is_node d ≡ true
    → with_front front (nodes (turns - i) c) ≡ whole → with_front (front ++ x ∷ []) (nodes (turns - (i + 1)) d) ≡ whole
unfolding nodes
node-goes_on front turns i c x d whole lt h more so_far =
    let k : turns - i ≡ suc (turns - (i + 1)) = omega arith in
    let one : with_front front (nodes (turns - i) c) ≡ with_front (front ++ x ∷ []) (nodes (turns - (i + 1)) d) = rw (k, h, more) (regroup front x (nodes (turns - (i + 1)) d)) in
    sym one ∙ so_far

pub node-more : (front new : List Node) (turns i : ℕ) (c d : Cursor) (whole : Read (List Node)) → i < turns → with_front front (alone (node c)) ≡ Ok (new, d) → is_node d ≡ true
    → with_front front (nodes (turns - i) c) ≡ whole → with_front new (nodes (turns - (i + 1)) d) ≡ whole
node-more front new turns i c d whole lt h more so_far =
    let is = ends_in front new (node c) d h in
    ap (λ (f : List Node). with_front f (nodes (turns - (i + 1)) d)) is.2 ∙ node-goes_on front turns i c is.0 d whole lt is.1 more so_far

node-stops : (front : List Node) (turns i : ℕ) (c : Cursor) (x : Node) (d : Cursor) (whole : Read (List Node)) → i < turns → node c ≡ Ok (x, d) → is_node d ≡ false
    → with_front front (nodes (turns - i) c) ≡ whole → whole ≡ Ok (front ++ x ∷ [], d)
unfolding nodes
node-stops front turns i c x d whole lt h test so_far =
    let k : turns - i ≡ suc (turns - (i + 1)) = omega arith in
    let one : with_front front (nodes (turns - i) c) ≡ Ok (front ++ x ∷ [], d) = rw (k, h, test) refl in
    sym so_far ∙ one

pub node-last : (front new : List Node) (turns i : ℕ) (c d : Cursor) (whole : Read (List Node)) → i < turns → with_front front (alone (node c)) ≡ Ok (new, d) → is_node d ≡ false
    → with_front front (nodes (turns - i) c) ≡ whole → whole ≡ Ok (new, d)
node-last front new turns i c d whole lt h test so_far =
    let is = ends_in front new (node c) d h in
    node-stops front turns i c is.0 d whole lt is.1 test so_far ∙ ap (λ (f : List Node). done (f, d)) (sym is.2)

pub nodes-out : (front : List Node) (turns i : ℕ) (c : Cursor) (whole : Read (List Node)) → turns ≤ i → with_front front (nodes (turns - i) c) ≡ whole → whole ≡ Err (Unexpected c.at)
unfolding nodes
nodes-out front turns i c whole le so_far =
    let k : turns - i ≡ 0 = omega arith in
    let one : with_front front (nodes (turns - i) c) ≡ Err (Unexpected c.at) = rw k refl in
    sym so_far ∙ one
