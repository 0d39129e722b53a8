-- The statements of a block by their places, and the steps from its points.
use Rattle.std.proofs.Common.{◌≡◌, Bool, true, false, ℕ, zero, suc, ◌+◌, ◌-◌, ◌<◌, ◌≤◌, List, [], ◌∷◌, ◌++◌, length, map, Some, slice_get, get_or, ap, refl, ◌∙◌, length-append, arith, Result, OnOk}
use Rattle.pg_program.specs.declared.syntax.Stmt.{Stmt}
use Rattle.pg_program.specs.declared.point.Step.{Step}
use Rattle.pg_program.specs.Block.{Block, done, node}
use Rattle.pg_program.specs.Graph.{size, statements, steps, own_steps, into, exit_of, is_loop, is_test, thread_steps, graphs}
use Rattle.pg_program.proofs.AppendLemmas.{append_none, append_both, append_three}

-- an item of two lists is one of the first or one of the second
pub slice_get-front : {X : Type 0} (xs ys : List X) (i : ℕ) → i < length xs → slice_get (xs ++ ys) i ≡ slice_get xs i
slice_get-front [] ys i lt = absurd (omega arith)
slice_get-front (x ∷ xs) ys zero lt = refl
slice_get-front (x ∷ xs) ys (suc i) lt = slice_get-front xs ys i (omega arith)

pub slice_get-after : {X : Type 0} (xs ys : List X) (i k : ℕ) → i ≡ length xs + k → slice_get (xs ++ ys) i ≡ slice_get ys k
slice_get-after [] ys i k e = ap (slice_get ys) (let q : i ≡ k = omega arith in q)
slice_get-after (x ∷ xs) ys zero k e = absurd (omega arith)
slice_get-after (x ∷ xs) ys (suc i) k e = slice_get-after xs ys i k (omega arith)

-- a block has as many statements as its size says
pub length-statements : (b : Block) → length (statements b) ≡ size b
length-statements done = refl
length-statements (node s a b rest) =
    let first = length-append (statements a) (statements b ++ statements rest) in
    let second = length-append (statements b) (statements rest) in
    omega (arith, first, second, length-statements a, length-statements b, length-statements rest)

module _ (s : Stmt) (a b rest : Block) where
  -- the statement at a place is the first, or one of the first block, of the second, or of the others
  pub first-at : (k : ℕ) → k ≡ 0 → slice_get (statements (node s a b rest)) k ≡ Some s
  first-at k e = ap (slice_get (statements (node s a b rest))) e

  pub within-first : (k i : ℕ) → k ≡ suc i → i < size a → slice_get (statements (node s a b rest)) k ≡ slice_get (statements a) i
  within-first k i e lt =
      ap (slice_get (statements (node s a b rest))) e
      ∙ slice_get-front (statements a) (statements b ++ statements rest) i (omega (arith, length-statements a, lt))

  after-first : (k i : ℕ) → k ≡ suc (size a + i) → slice_get (statements (node s a b rest)) k ≡ slice_get (statements b ++ statements rest) i
  after-first k i e =
      ap (slice_get (statements (node s a b rest))) e
      ∙ slice_get-after (statements a) (statements b ++ statements rest) (size a + i) i (omega (arith, length-statements a))

  pub within-second : (k i : ℕ) → k ≡ suc (size a + i) → i < size b → slice_get (statements (node s a b rest)) k ≡ slice_get (statements b) i
  within-second k i e lt = after-first k i e ∙ slice_get-front (statements b) (statements rest) i (omega (arith, length-statements b, lt))

  pub after-both : (k i : ℕ) → k ≡ suc (size a + (size b + i)) → slice_get (statements (node s a b rest)) k ≡ slice_get (statements rest) i
  after-both k i e =
      after-first k (size b + i) e ∙ slice_get-after (statements b) (statements rest) (size b + i) i (omega (arith, length-statements b))

-- each thread has its steps
pub graphs-at : (t : ℕ) (threads : List (List Stmt)) (i : ℕ) → i < length threads → get_or (graphs t threads) i [] ≡ thread_steps (t + i) (get_or threads i [])
graphs-at t [] i lt = absurd (omega arith)
graphs-at t (ss ∷ threads) zero lt = ap (λ n. thread_steps n ss) (let q : t ≡ t + zero = omega arith in q)
graphs-at t (ss ∷ threads) (suc i) lt =
    graphs-at (t + 1) threads i (omega arith) ∙ ap (λ n. thread_steps n (get_or threads i [])) (let q : t + 1 + i ≡ t + suc i = omega arith in q)

pub graphs-of : (threads : List (List Stmt)) (t : ℕ) → 1 ≤ t → t ≤ length threads → get_or (graphs 1 threads) (t - 1) [] ≡ thread_steps t (get_or threads (t - 1) [])
graphs-of threads t low high =
    graphs-at 1 threads (t - 1) (omega arith) ∙ ap (λ n. thread_steps n (get_or threads (t - 1) [])) (let q : 1 + (t - 1) ≡ t = omega arith in q)

-- ---- a block is linked part by part

module _ (first t : ℕ) (s : Stmt) (a b rest whole : Block) where
  sized : whole ≡ node s a b rest → size whole ≡ 1 + size a + size b + size rest
  sized is = ap size is ∙ (omega arith)

  pub parts_fit : whole ≡ node s a b rest → first + size whole < 256 → first + (1 + size a + size b + size rest) < 256
  parts_fit is low = let n = sized is in omega arith

  pub first_fits : whole ≡ node s a b rest → size whole ≡ t → first + size whole < 256 → (size a < t) × (first + 1 + size a < 256)
  first_fits is measure low = let n = sized is in (omega arith, omega arith)

  pub second_fits : (second : ℕ) → whole ≡ node s a b rest → size whole ≡ t → first + size whole < 256 → second ≡ first + 1 + size a
      → (size b < t) × (second + size b < 256)
  second_fits second is measure low e = let n = sized is in (omega arith, omega arith)

  pub rest_fits : (second later : ℕ) → whole ≡ node s a b rest → size whole ≡ t → first + size whole < 256 → second ≡ first + 1 + size a → later ≡ second + size b
      → (size rest < t) × (later + size rest < 256)
  rest_fits second later is measure low e f = let n = sized is in (omega arith, omega arith)

pub back_to_loop : (loop answer : Bool) (k next back : ℕ) → back ≡ k → answer ≡ true → answer ≡ loop → back ≡ exit_of loop k next
back_to_loop true answer k next back is h e = is
back_to_loop false answer k next back is h e = cc

pub back_to_next : (loop answer : Bool) (k next back : ℕ) → back ≡ next → answer ≡ false → answer ≡ loop → back ≡ exit_of loop k next
back_to_next true answer k next back is h e = cc
back_to_next false answer k next back is h e = is

pub links_none : (old : List (List Step)) (t first exit : ℕ) (whole : Block) → whole ≡ done → old ≡ old ++ steps t first exit whole
links_none old t first exit whole is = append_none old (steps t first exit whole) (ap (steps t first exit) is)

-- the own steps of the first statement, and then those of the three blocks
pub links_all : {T E : Type 0} (r : Result T E) (old one two three new : List (List Step)) (t first exit : ℕ) (s : Stmt) (a b rest whole : Block)
    (second later next back left right : ℕ)
    → whole ≡ node s a b rest → second ≡ first + 1 + size a → later ≡ second + size b → next ≡ into rest later exit → back ≡ exit_of (is_loop s) first next
    → left ≡ into a (first + 1) back → right ≡ into b second next
    → one ≡ old ++ own_steps (is_test s) t first left right next ∷ []
    → two ≡ one ++ steps t (first + 1) back a → three ≡ two ++ steps t second next b
    → OnOk r (new ≡ three ++ steps t later exit rest) → OnOk r (new ≡ old ++ steps t first exit whole)
links_all r old one two three new t first exit s a b rest whole second later next back left right is es el en eb ey ez one_is two_is three_is new_is =
    append_three r old one two new (own ∷ []) (steps t (first + 1) back a) (steps t second next b ++ steps t later exit rest) (steps t first exit whole)
    one_is two_is all (append_both r two three new (steps t second next b) (steps t later exit rest) (steps t second next b ++ steps t later exit rest) three_is refl new_is)
  where
    own : List Step
    own = own_steps (is_test s) t first left right next

    all : steps t first exit whole ≡ own ∷ (steps t (first + 1) back a ++ (steps t second next b ++ steps t later exit rest))
    all = ap (steps t first exit) is ∙ cc

-- what a view shows of a list with one more item
pub pushed : {A B : Type 0} (f : A → B) (xs ys : List A) (x : A) → ys ≡ xs ++ x ∷ [] → map f ys ≡ map f xs ++ f x ∷ []
pushed f xs ys x is = ap (map f) is ∙ one xs
  where
    one : (zs : List _) → map f (zs ++ x ∷ []) ≡ map f zs ++ f x ∷ []
    one [] = refl
    one (z ∷ zs) = ap (λ l. f z ∷ l) (one zs)
