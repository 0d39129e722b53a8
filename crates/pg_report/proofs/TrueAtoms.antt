-- The lines of the true atoms of a side, one by one.
use Rattle.std.proofs.Common.{◌≡◌, ℕ, zero, suc, ◌+◌, ◌-◌, ◌≤◌, Bool, List, [], ◌∷◌, ◌++◌, length, take, get_or, Some, refl, sym, ap, subst, ◌∙◌, arith}
use Rattle.std.specs.List.{flat_map, slice_get}
use Rattle.std.proofs.lemmas.Grind.{flat_map-append}
use Rattle.std.proofs.lemmas.List.{append-nil}
use Rattle.pg_assertion.specs.declared.atom.ViewAtom.{ViewAtom}
use Rattle.pg_assertion.specs.declared.layout.Side.{Side}
use Rattle.pg_assertion.specs.declared.step_atom.StepAtom.{StepAtom}
use Rattle.pg_assertion.specs.declared.step_atom.StepAtom.TheVariants.{On, Value, Expected, Success, Taken}
use Rattle.pg_assertion.specs.Layout.{IsAtom, atoms_in_order, atoms, number}
use Rattle.pg_assertion.specs.StepAtom.{IsStepAtom}
use Rattle.pg_assertion.proofs.LayoutOrder.{atoms_stand_in_order, atoms_are_counted}
use Rattle.pg_outline.specs.Outline.{OutlineTable}
use Rattle.pg_layers.specs.Clauses.{layout_of}
use Rattle.pg_obligations.specs.declared.obligation.Obligation.{Obligation}
use Rattle.pg_report.specs.Judged.{true_line, side_lines, IsSpelled}
use Rattle.pg_report.proofs.Names.{atom_declared}

join : (x y z : List ℕ) → (x ++ y) ++ z ≡ x ++ (y ++ z)
join [] y z = refl
join (w ∷ x) y z = ap (λ (l : List ℕ). w ∷ l) (join x y z)

take-more : {A : Type 0} (xs : List A) (n : ℕ) (x : A) → slice_get xs n ≡ Some x → take (suc n) xs ≡ take n xs ++ x ∷ []
take-more [] n x h = cc
take-more (y ∷ xs) zero x h = let same : y ≡ x = cc in ap (λ z. z ∷ []) same
take-more (y ∷ xs) (suc n) x h = ap (λ l. y ∷ l) (take-more xs n x h)

-- those of the first n atoms
abbrev pub first_lines : OutlineTable → List Bool → Side → ℕ → List ℕ
first_lines o truths side n = flat_map (λ a. true_line o truths (On a side)) (take n (atoms_in_order (layout_of o)))

pub lines-more : (o : OutlineTable) (truths : List Bool) (side : Side) (n : ℕ) (a : ViewAtom) → IsAtom (layout_of o) a → number (layout_of o) a ≡ n + 1
    → first_lines o truths side (n + 1) ≡ first_lines o truths side n ++ true_line o truths (On a side)
lines-more o truths side n a is e =
    let xs = atoms_in_order (layout_of o) in
    let f : ViewAtom → List ℕ = λ b. true_line o truths (On b side) in
    let place : number (layout_of o) a - 1 ≡ n = omega (arith, e) in
    let at = subst (λ (k : ℕ). slice_get xs k ≡ Some a) place (atoms_stand_in_order (layout_of o) a is) in
    let next : n + 1 ≡ suc n = omega arith in
    ap (λ (k : ℕ). flat_map f (take k xs)) next
    ∙ (ap (flat_map f) (take-more xs n a at)
    ∙ (flat_map-append f (take n xs) (a ∷ []) ∙ ap (λ (l : List ℕ). flat_map f (take n xs) ++ l) (append-nil (f a))))

take-all : {A : Type 0} (xs : List A) (n : ℕ) → length xs ≤ n → take n xs ≡ xs
take-all [] zero h = refl
take-all [] (suc n) h = refl
take-all (x ∷ xs) zero h = absurd (omega (arith, h))
take-all (x ∷ xs) (suc n) h = ap (λ l. x ∷ l) (take-all xs n (omega (arith, h)))

pub lines-all : (o : OutlineTable) (truths : List Bool) (side : Side) (n : ℕ) → atoms (layout_of o) ≤ n → first_lines o truths side n ≡ side_lines o truths side
lines-all o truths side n h =
    ap (flat_map (λ a. true_line o truths (On a side))) (take-all (atoms_in_order (layout_of o)) n (omega (arith, atoms_are_counted (layout_of o), h)))

-- what is appended for the next atom
pub side-more : (o : OutlineTable) (truths : List Bool) (side : Side) (n : ℕ) (a : ViewAtom) (old mid new : List ℕ) → IsAtom (layout_of o) a → number (layout_of o) a ≡ n + 1
    → mid ≡ old ++ first_lines o truths side n → new ≡ mid ++ true_line o truths (On a side) → new ≡ old ++ first_lines o truths side (n + 1)
side-more o truths side n a old mid new is e so at =
    at
    ∙ (ap (λ (l : List ℕ). l ++ true_line o truths (On a side)) so
    ∙ (join old (first_lines o truths side n) (true_line o truths (On a side))
    ∙ ap (λ (l : List ℕ). old ++ l) (sym (lines-more o truths side n a is e))))

-- the obligation at a place
pub obligation-is : (obs : List Obligation) (n : ℕ) (ob d : Obligation) → slice_get obs n ≡ Some ob → ob ≡ get_or obs n d
obligation-is [] n ob d h = cc
obligation-is (x ∷ obs) zero ob d h = let same : x ≡ ob = cc in sym same
obligation-is (x ∷ obs) (suc n) ob d h = obligation-is obs n ob d h

-- the names of an atom of the layout are declared
pub spelled : (o : OutlineTable) (a : StepAtom) → IsStepAtom (layout_of o) a → IsSpelled o.program.names a
spelled o (On a side) h = atom_declared o.program a h
spelled o (Value v) h = tt
spelled o (Expected v) h = tt
spelled o Success h = tt
spelled o Taken h = tt
