-- The registers among the scalars: their places, their names and their owners.
use Rattle.std.proofs.Common.{◌≡◌, ℕ, zero, suc, ◌+◌, ◌<◌, ◌≤◌, Bool, true, false, cond, ◌&&◌, nat_le, List, [], ◌∷◌, ◌++◌, length, map, take, Option, Some, None, option_map, slice_get, refl, sym, ap, subst, ◌∙◌, arith}
use Rattle.std.specs.Str.{bytes_eq}
use Rattle.std.proofs.lemmas.Bool.{lt-leb}
use Rattle.pg_program.specs.declared.name_table.NameKind.{NameKind}
use Rattle.pg_program.specs.declared.name_table.NameKind.TheVariants as kind
use Rattle.pg_program.specs.declared.name_table.NameRef.TheVariants as ref
use Rattle.pg_program.specs.declared.name_table.ScalarKind.{ScalarKind}
use Rattle.pg_program.specs.declared.name_table.ScalarKind.TheVariants as scalar
use Rattle.pg_program.specs.Limits.{most_scalars}
use Rattle.pg_program.specs.NameTable.{NameTable, Location, IsNameTable, location_names, scalar_names, place_in, find, found, kind_of, with_name, is_auxiliary_kind}
use Rattle.pg_program.specs.Fault.{unknown_owner}
use Rattle.pg_outline.specs.Erasure.{registers, first_locations}
use Rattle.pg_outline.proofs.LocationLines.{owned}

abbrev Scalars : Type 0
Scalars = List (List ℕ × ScalarKind)

-- ---- places

-- what stands at the new place of a scalar that is no auxiliary
pub stays_at : (es : Scalars) (r : ℕ) → is_auxiliary_kind (slice_get es r) ≡ false → slice_get (registers es) (length (registers (take r es))) ≡ slice_get es r
stays_at [] r h = refl
stays_at ((name, scalar.Register o) ∷ es) zero h = refl
stays_at ((name, scalar.Auxiliary) ∷ es) zero h = cc
stays_at ((name, scalar.Register o) ∷ es) (suc r) h = stays_at es r h
stays_at ((name, scalar.Auxiliary) ∷ es) (suc r) h = stays_at es r h

pub place_within : (es : Scalars) (r : ℕ) → is_auxiliary_kind (slice_get es r) ≡ false → r < length es → length (registers (take r es)) < length (registers es)
place_within [] r h lt = absurd (omega arith)
place_within ((name, scalar.Register o) ∷ es) zero h lt = omega arith
place_within ((name, scalar.Auxiliary) ∷ es) zero h lt = cc
place_within ((name, scalar.Register o) ∷ es) (suc r) h lt = let k = place_within es r h (omega arith) in omega arith
place_within ((name, scalar.Auxiliary) ∷ es) (suc r) h lt = place_within es r h (omega arith)

-- no register is an auxiliary
pub none_auxiliary : (es : Scalars) (q : ℕ) → is_auxiliary_kind (slice_get (registers es) q) ≡ false
none_auxiliary [] q = refl
none_auxiliary ((name, scalar.Register o) ∷ es) zero = refl
none_auxiliary ((name, scalar.Register o) ∷ es) (suc q) = none_auxiliary es q
none_auxiliary ((name, scalar.Auxiliary) ∷ es) q = none_auxiliary es q

-- each owner was one
pub owners_stay : (n : ℕ) (es : Scalars) → unknown_owner n es ≡ None → unknown_owner n (registers es) ≡ None
owners_stay n [] h = h
owners_stay n ((name, scalar.Register o) ∷ es) h = by (λ e. owners_stay n es e) (nat_le 1 o && nat_le o n) h
  where
    by : (unknown_owner n es ≡ None → unknown_owner n (registers es) ≡ None) → (b : Bool) → cond b (unknown_owner n es) (Some o) ≡ None → cond b (unknown_owner n (registers es)) (Some o) ≡ None
    by rest true e = rest e
    by rest false e = cc
owners_stay n ((name, scalar.Auxiliary) ∷ es) h = owners_stay n es h

-- ---- one scalar more

pub few_registers : (es : Scalars) (r : ℕ) → length (registers (take r es)) ≤ r
few_registers [] zero = omega arith
few_registers [] (suc r) = omega arith
few_registers (e ∷ es) zero = omega arith
few_registers ((name, scalar.Register o) ∷ es) (suc r) = let k = few_registers es r in omega arith
few_registers ((name, scalar.Auxiliary) ∷ es) (suc r) = let k = few_registers es r in omega arith

register_more : (es : Scalars) (r o : ℕ) (name : List ℕ) → slice_get es r ≡ Some (name, scalar.Register o) → registers (take (suc r) es) ≡ registers (take r es) ++ (name, scalar.Register o) ∷ []
register_more [] r o name h = cc
register_more (e ∷ es) zero o name h = let same : e ≡ (name, scalar.Register o) = cc in ap (λ (x : List ℕ × ScalarKind). registers (x ∷ [])) same
register_more ((n, scalar.Register q) ∷ es) (suc r) o name h = ap (λ (l : Scalars). (n, scalar.Register q) ∷ l) (register_more es r o name h)
register_more ((n, scalar.Auxiliary) ∷ es) (suc r) o name h = register_more es r o name h

auxiliary_more : (es : Scalars) (r : ℕ) (k : NameKind) → option_map (λ e. kind_of e.1) (slice_get es r) ≡ Some k → ((o : ℕ) → k ≡ kind.Register o → ⊥) → registers (take (suc r) es) ≡ registers (take r es)
auxiliary_more [] r k h never = cc
auxiliary_more ((n, scalar.Register q) ∷ es) zero k h never = let e : k ≡ kind.Register q = cc in absurd (never q e)
auxiliary_more ((n, scalar.Auxiliary) ∷ es) zero k h never = refl
auxiliary_more ((n, scalar.Register q) ∷ es) (suc r) k h never = ap (λ (l : Scalars). (n, scalar.Register q) ∷ l) (auxiliary_more es r k h never)
auxiliary_more ((n, scalar.Auxiliary) ∷ es) (suc r) k h never = auxiliary_more es r k h never

-- what stands at a place, by its name and its kind
entry : (o : Option (List ℕ × ScalarKind)) (owner : ℕ) (name : List ℕ) → option_map (λ e. e.0) o ≡ Some name → option_map (λ e. kind_of e.1) o ≡ Some (kind.Register owner) → o ≡ Some (name, scalar.Register owner)
entry None owner name h k = cc
entry (Some (n, scalar.Register w)) owner name h k = let same : n ≡ name = cc in let own : w ≡ owner = cc in cc
entry (Some (n, scalar.Auxiliary)) owner name h k = cc

next : (es : Scalars) (r : ℕ) → registers (take (r + 1) es) ≡ registers (take (suc r) es)
next es r = let q : r + 1 ≡ suc r = omega arith in ap (λ (n : ℕ). registers (take n es)) q

pub with_register : (es : Scalars) (r owner : ℕ) (name : List ℕ) → option_map (λ e. e.0) (slice_get es r) ≡ Some name → option_map (λ e. kind_of e.1) (slice_get es r) ≡ Some (kind.Register owner)
    → registers (take (r + 1) es) ≡ registers (take r es) ++ (name, scalar.Register owner) ∷ []
with_register es r owner name h k = next es r ∙ register_more es r owner name (entry (slice_get es r) owner name h k)

pub with_auxiliary : (es : Scalars) (r : ℕ) (k : NameKind) → option_map (λ e. kind_of e.1) (slice_get es r) ≡ Some k → ((o : ℕ) → k ≡ kind.Register o → ⊥) → registers (take (r + 1) es) ≡ registers (take r es)
with_auxiliary es r k h never = next es r ∙ auxiliary_more es r k h never

-- one register more is counted
named : (o : Option (List ℕ × ScalarKind)) (owner : ℕ) → option_map (λ e. kind_of e.1) o ≡ Some (kind.Register owner) → (name : List ℕ) × (option_map (λ e. e.0) o ≡ Some name)
named None owner k = cc
named (Some e) owner k = (e.0, refl)

pub counts_register : (es : Scalars) (r owner : ℕ) → option_map (λ e. kind_of e.1) (slice_get es r) ≡ Some (kind.Register owner) → length (registers (take (r + 1) es)) ≡ length (registers (take r es)) + 1
counts_register es r owner k =
    let n = named (slice_get es r) owner k in
    ap (λ (l : Scalars). length l) (with_register es r owner n.0 n.1 k) ∙ one_more (registers (take r es)) (n.0, scalar.Register owner)
  where
    one_more : (xs : Scalars) (x : List ℕ × ScalarKind) → length (xs ++ x ∷ []) ≡ length xs + 1
    one_more [] x = refl
    one_more (y ∷ ys) x = let k = one_more ys x in omega arith

-- ---- names

-- a name is not among those before it
before_step : (b : Bool) (o : Option ℕ) (i : ℕ) → cond b (Some 0) (option_map (λ i. i + 1) o) ≡ Some (suc i) → (b ≡ false) × (o ≡ Some i)
before_step true o i h = cc
before_step false None i h = cc
before_step false (Some j) i h = let q : j + 1 ≡ suc i = cc in let p : j ≡ i = omega arith in (refl, ap (λ (n : ℕ). Some n) p)

absent_step : (b : Bool) (o : Option ℕ) → b ≡ false → o ≡ None → cond b (Some 0) (option_map (λ i. i + 1) o) ≡ None
absent_step true o differs none = cc
absent_step false None differs none = refl
absent_step false (Some j) differs none = cc

absent_parts : (b : Bool) (o : Option ℕ) → cond b (Some 0) (option_map (λ i. i + 1) o) ≡ None → (b ≡ false) × (o ≡ None)
absent_parts true o h = cc
absent_parts false None h = (refl, refl)
absent_parts false (Some i) h = cc

absent_before : {X : Type 0} (called : X → List ℕ) (name : List ℕ) (xs : List X) (i : ℕ) → place_in name (map called xs) ≡ Some i → place_in name (map called (take i xs)) ≡ None
absent_before called name [] i h = cc
absent_before called name (x ∷ xs) zero h = refl
absent_before called name (x ∷ xs) (suc i) h =
    let parts = before_step (bytes_eq name (called x)) (place_in name (map called xs)) i h in
    absent_step (bytes_eq name (called x)) (place_in name (map called (take i xs))) parts.0 (absent_before called name xs i parts.1)

abbrev names_of : Scalars → List (List ℕ)
names_of es = map (λ e. e.0) es

absent_among : (name : List ℕ) (es : Scalars) → place_in name (names_of es) ≡ None → place_in name (names_of (registers es)) ≡ None
absent_among name [] h = h
absent_among name ((n, scalar.Register o) ∷ es) h =
    let parts = absent_parts (bytes_eq name n) (place_in name (names_of es)) h in
    absent_step (bytes_eq name n) (place_in name (names_of (registers es))) parts.0 (absent_among name es parts.1)
absent_among name ((n, scalar.Auxiliary) ∷ es) h = absent_among name es (absent_parts (bytes_eq name n) (place_in name (names_of es)) h).1

-- what the place of a name says of the two lists
found_location : (o p : Option ℕ) (x : ℕ) → found o p ≡ Some (ref.Location x) → o ≡ Some x
found_location None None x h = cc
found_location None (Some r) x h = cc
found_location (Some y) p x h = cc

found_scalar : (o p : Option ℕ) (r : ℕ) → found o p ≡ Some (ref.Scalar r) → (o ≡ None) × (p ≡ Some r)
found_scalar None None r h = cc
found_scalar None (Some q) r h = (refl, cc)
found_scalar (Some y) p r h = cc

found_none : (o p : Option ℕ) → o ≡ None → p ≡ None → found o p ≡ None
found_none None None h k = refl
found_none None (Some q) h k = cc
found_none (Some y) p h k = cc

-- the location at this place
pub at_place : (names : NameTable) (x : ℕ) (name : List ℕ) → option_map (λ l. l.name) (slice_get names.locations x) ≡ Some name
    → (l : Location) × (slice_get names.locations x ≡ Some l) × (l.name ≡ name)
at_place names x name h = owned (λ (l : Location). l.name) (slice_get names.locations x) name h

-- the name of a location is new behind the locations before it
pub new_location : (names : NameTable) → IsNameTable names → (x : ℕ) (name : List ℕ) (t : NameTable) → option_map (λ l. l.name) (slice_get names.locations x) ≡ Some name
    → t ≡ first_locations x names → find name t ≡ None
new_location names well x name t h is =
    let own = at_place names x name h in
    let at = subst (λ (n : List ℕ). find n names ≡ Some (ref.Location x)) own.2 (well.own_location x own.0 own.1) in
    ap (find name) is
    ∙ found_none (place_in name (map (λ l. l.name) (take x names.locations))) None
    (absent_before (λ (l : Location). l.name) name names.locations x (found_location (place_in name (location_names names)) (place_in name (scalar_names names)) x at)) refl

-- the table with all locations and the registers among the first r scalars
abbrev pub registered : NameTable → ℕ → NameTable
registered names r = record names { scalars = registers (take r names.scalars) }

-- the name of a scalar is new behind the registers before it
pub new_scalar : (names : NameTable) → IsNameTable names → (r : ℕ) (name : List ℕ) (t : NameTable) → option_map (λ e. e.0) (slice_get names.scalars r) ≡ Some name
    → t ≡ registered names r → find name t ≡ None
new_scalar names well r name t h is =
    let own = owned (λ (e : List ℕ × ScalarKind). e.0) (slice_get names.scalars r) name h in
    let here = subst (λ (n : List ℕ). find n names ≡ Some (ref.Scalar r)) own.2 (well.own_scalar r own.0.1 own.0.0 own.1) in
    let at = found_scalar (place_in name (location_names names)) (place_in name (scalar_names names)) r here in
    ap (find name) is
    ∙ found_none (place_in name (location_names names)) (place_in name (names_of (registers (take r names.scalars)))) at.0
    (absent_among name (take r names.scalars) (absent_before (λ (e : List ℕ × ScalarKind). e.0) name names.scalars r at.1))

-- there is room for each of them
pub scalar_room : (names : NameTable) (r : ℕ) (t : NameTable) → r < length names.scalars → length names.scalars ≤ most_scalars
    → t ≡ registered names r → nat_le most_scalars (length t.scalars) ≡ false
scalar_room names r t lt few is =
    ap (λ (u : NameTable). nat_le most_scalars (length u.scalars)) is
    ∙ (let k = few_registers names.scalars r in lt-leb most_scalars (length (registers (take r names.scalars))) (omega arith))

-- ---- the turns of the loops

with_scalars : (names : NameTable) (xs ys : Scalars) → xs ≡ ys
    → let t : NameTable = record names { scalars = xs } in t ≡ record names { scalars = ys }
with_scalars names xs ys h = ap (λ (l : Scalars). let t : NameTable = record names { scalars = l } in t) h

pub one_register : (names : NameTable) (r owner : ℕ) (name : List ℕ) (old new : NameTable) → option_map (λ e. e.0) (slice_get names.scalars r) ≡ Some name
    → option_map (λ e. kind_of e.1) (slice_get names.scalars r) ≡ Some (kind.Register owner) → old ≡ registered names r → new ≡ with_name name (kind.Register owner) old → new ≡ registered names (r + 1)
one_register names r owner name old new h k is more =
    more ∙ ap (with_name name (kind.Register owner)) is
    ∙ with_scalars names (registers (take r names.scalars) ++ (name, scalar.Register owner) ∷ []) (registers (take (r + 1) names.scalars)) (sym (with_register names.scalars r owner name h k))

pub one_auxiliary : (names : NameTable) (r : ℕ) (k : NameKind) (t : NameTable) → option_map (λ e. kind_of e.1) (slice_get names.scalars r) ≡ Some k → ((o : ℕ) → k ≡ kind.Register o → ⊥)
    → t ≡ registered names r → t ≡ registered names (r + 1)
one_auxiliary names r k t h never is = is ∙ with_scalars names (registers (take r names.scalars)) (registers (take (r + 1) names.scalars)) (sym (with_auxiliary names.scalars r k h never))
