-- What is given of the fresh state holds there.
use Rattle.std.proofs.Common.{◌≡◌, ℕ, zero, suc, ◌==◌, Bool, true, false, cond, not, ◌&&◌, ◌||◌, List, [], ◌∷◌, length, map, get_or, refl, sym, ap, ◌∙◌, eq-eqb}
use Rattle.std.proofs.lemmas.Bool.{ne_eqb, true≢false}
use Rattle.std.specs.List.{All, flat_map, filter}
use Rattle.std.proofs.lemmas.List.Elements.{All-nil, All-cons, All-append}
use Rattle.pg_program.specs.NameTable.{initial}
use Rattle.pg_program.specs.Program.{ProgramTable}
use Rattle.pg_assertion.specs.declared.atom.ViewAtom.{ViewAtom}
use Rattle.pg_assertion.specs.declared.atom.ViewAtom.TheVariants.{Scalar, Last, Persist, Newest}
use Rattle.pg_assertion.specs.Formula.{Plain, atom, neg}
use Rattle.pg_assertion.specs.Layout.{sizes, values, scalars, locations, threads}
use Rattle.pg_machine.specs.State.{fresh}
use Rattle.pg_machine.specs.Moves.{can_read}
use Rattle.pg_machine.specs.Memory.{reaches}
use Rattle.pg_machine.specs.Step.{seen_by}
use Rattle.pg_views.specs.Atom.{committed_to}
use Rattle.pg_views.specs.Formula.{holds}
use Rattle.pg_obligations.specs.Follow.{fresh_values}

all_flat : {A B : Type 0} (P : B → Type 0) (f : A → List B) (xs : List A) → ((x : A) → All P (f x)) → All P (flat_map f xs)
all_flat P f [] h = All-nil P
all_flat P f (x ∷ xs) h = All-append P (f x) (flat_map f xs) (h x) (all_flat P f xs h)

all_mapped : {A B : Type 0} (P : B → Type 0) (f : A → B) (xs : List A) → ((x : A) → P (f x)) → All P (map f xs)
all_mapped P f [] h = All-nil P
all_mapped P f (x ∷ xs) h = All-cons P (f x) (map f xs) (h x) (all_mapped P f xs h)

all_filtered : {A B : Type 0} (P : B → Type 0) (f : A → B) (test : A → Bool) (xs : List A) → ((x : A) → test x ≡ true → P (f x)) → All P (map f (filter test xs))
all_filtered P f test [] h = All-nil P
all_filtered P f test (x ∷ xs) h = by (test x) refl (all_filtered P f test xs h)
  where
    by : (b : Bool) → test x ≡ b → All P (map f (filter test xs)) → All P (map f (cond b (x ∷ filter test xs) (filter test xs)))
    by true e rest = All-cons P (f x) (map f (filter test xs)) (h x e) rest
    by false e rest = rest

zeros : {A : Type 0} (xs : List A) (r : ℕ) → let none : ℕ = 0 in get_or (map (λ e. none) xs) r none ≡ none
zeros [] r = refl
zeros (x ∷ xs) zero = refl
zeros (x ∷ xs) (suc r) = zeros xs r

alone : (b : Bool) → ((not b || true) && true) ≡ true
alone true = refl
alone false = refl

absent : (a b : Bool) → b ≡ false → not ((a && b) || false) ≡ true
absent true b h = ap (λ c. not (c || false)) h
absent false b h = refl

differ : (v w : ℕ) → not (v == w) ≡ true → (w == v) ≡ false
differ v w h = ne_eqb w v (λ e. true≢false (sym h ∙ ap not (eq-eqb v w (sym e))))

pub fresh_values_hold : (p : ProgramTable) → All (λ f. holds (fresh p) f ≡ true) (fresh_values p)
fresh_values_hold p =
    let l = sizes p.names (length p.threads) in
    let init = get_or (initial p.names) in
    let P : Plain ViewAtom → Type 0 = λ f. holds (fresh p) f ≡ true in
    All-append P _ _ (all_mapped P (λ r. atom (Scalar r 0)) (scalars l) (λ r. eq-eqb _ 0 (zeros p.names.scalars r)))
    (All-append P _ _ (all_mapped P (λ x. atom (Last x (get_or (initial p.names) x 0))) (locations l) (λ x. eq-eqb _ _ refl))
    (All-append P _ _ (all_flat P (λ t. map (λ x. atom (Newest t x)) (locations l)) (threads l)
    (λ t. all_mapped P (λ x. atom (Newest t x)) (locations l) (λ x. alone (can_read (seen_by (fresh p) t) x 0))))
    (all_flat P (λ x. map (λ v. neg (atom (Persist x v))) (filter (λ v. not (v == get_or (initial p.names) x 0)) (values l))) (locations l)
    (λ x. all_filtered P (λ v. neg (atom (Persist x v))) (λ v. not (v == get_or (initial p.names) x 0)) (values l)
    (λ v h. absent (reaches [] x 0 (committed_to (fresh p) x) 0) _ (differ v (get_or (initial p.names) x 0) h))))))
