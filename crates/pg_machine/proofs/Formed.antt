-- What a well-formed state of a program has for the statement at a point.
use Rattle.std.proofs.Common.{rules, ◌≡◌, ℕ, ◌<◌, ◌≤◌, Bool, true, false, cond, ◌&&◌, ◌==◌, nat_le, List, [], ◌∷◌, length, map, replicate, Some, None, IsSome, refl, sym, ap, subst, ◌∙◌, arith}
use Rattle.std.specs.List.{All}
use Rattle.std.proofs.lemmas.Bool.{leb-true}
use Rattle.std.proofs.lemmas.List.Elements.{All-weaker}
use Rattle.pg_program.specs.declared.syntax.Stmt.{Stmt}
use Rattle.pg_program.specs.declared.syntax.Act.{Act}
use Rattle.pg_program.specs.declared.syntax.Act.TheOpen.{Act-F, Assign, Store, Load, Cas, Mfence, Sfence, Flush, Flushopt, If, While}
use Rattle.pg_program.specs.declared.point.Branch.{Branch}
use Rattle.pg_program.specs.declared.point.Branch.TheVariants.{Plain, Yes, No}
use Rattle.pg_program.specs.declared.point.Step.{Step}
use Rattle.pg_program.specs.NameTable.{NameTable, initial, lines, line_count}
use Rattle.pg_program.specs.Limits.{largest_domain}
use Rattle.pg_program.specs.Fault.{domain_size}
use Rattle.pg_program.specs.Words.{outside, bracket_scalars, scalars_of, locations_of}
use Rattle.pg_program.specs.Graph.{step_of, is_branch, is_test_in, branches}
use Rattle.pg_program.specs.Expr.{test_holds}
use Rattle.pg_program.specs.Program.{ProgramTable, IsProgram, stmt_at, steps_at}
use Rattle.pg_program.proofs.ProgramLemmas.{stmt_of, initial_inside, faultless}
use Rattle.pg_program.proofs.GraphLaws.{steps_of_statements}
use Rattle.pg_machine.specs.Memory.{Memory}
use Rattle.pg_machine.specs.State.{Views, State, IsWellFormed, fresh, fresh_views}
use Rattle.pg_machine.specs.Step.{act_of, bracket_of, branch_taken}
use Rattle.pg_machine.proofs.Uses.{all_left}

-- ---- where the branch that is taken leads

has_plain : (ss : List Step) → map (λ s. s.branch) ss ≡ Plain ∷ [] → IsSome (step_of Plain ss)
has_plain [] h = cc
has_plain (s ∷ ss) h =
    let e : s.branch ≡ Plain = cc in
    subst (λ (b : Branch). IsSome (cond (is_branch Plain b) (Some s) (step_of Plain ss))) (sym e) (search rules)

has_yes : (ss : List Step) → map (λ s. s.branch) ss ≡ Yes ∷ No ∷ [] → IsSome (step_of Yes ss)
has_yes [] h = cc
has_yes (s ∷ ss) h =
    let e : s.branch ≡ Yes = cc in
    subst (λ (b : Branch). IsSome (cond (is_branch Yes b) (Some s) (step_of Yes ss))) (sym e) (search rules)

has_no : (ss : List Step) → map (λ s. s.branch) ss ≡ Yes ∷ No ∷ [] → IsSome (step_of No ss)
has_no [] h = cc
has_no (s ∷ []) h = cc
has_no (s ∷ u ∷ ss) h =
    let e : s.branch ≡ Yes = cc in
    let f : u.branch ≡ No = cc in
    subst (λ (b : Branch). IsSome (cond (is_branch No b) (Some s) (step_of No (u ∷ ss)))) (sym e)
    (subst (λ (b : Branch). IsSome (cond (is_branch No b) (Some u) (step_of No ss))) (sym f) (search rules))

has_either : (b : Bool) (ss : List Step) → map (λ s. s.branch) ss ≡ Yes ∷ No ∷ [] → IsSome (step_of (cond b Yes No) ss)
has_either true ss h = has_yes ss h
has_either false ss h = has_no ss h

taken_leads : (d : ℕ) (r : List ℕ) (a : Act-F Act Stmt) (ss : List Step) → map (λ s. s.branch) ss ≡ cond (is_test_in a) (Yes ∷ No ∷ []) (Plain ∷ [])
    → IsSome (step_of (branch_taken d r a) ss)
taken_leads d r (Assign q e) ss h = has_plain ss h
taken_leads d r (Store x e) ss h = has_plain ss h
taken_leads d r (Load q x) ss h = has_plain ss h
taken_leads d r (Cas q x e f) ss h = has_plain ss h
taken_leads d r Mfence ss h = has_plain ss h
taken_leads d r Sfence ss h = has_plain ss h
taken_leads d r (Flush x) ss h = has_plain ss h
taken_leads d r (Flushopt x) ss h = has_plain ss h
taken_leads d r (If t x y) ss h = has_either (test_holds r d t) ss h
taken_leads d r (While t x) ss h = has_either (test_holds r d t) ss h

pub leads_on : (p : ProgramTable) (t k d : ℕ) (r : List ℕ) (stmt : Stmt) → stmt_at p t k ≡ Some stmt → IsSome (step_of (branch_taken d r (act_of stmt)) (steps_at p t k))
leads_on p t k d r stmt at = taken_leads d r (act_of stmt) (steps_at p t k) (steps_of_statements p t k ∙ ap branches at)

-- ---- the scalars and locations of a statement

pub stmt_scalars : (p : ProgramTable) (s : State) → IsProgram p → IsWellFormed p s → (t k : ℕ) (stmt : Stmt) → 1 ≤ t → t ≤ length p.threads → stmt_at p t k ≡ Some stmt
    → All (λ r. r < length s.scalars) (scalars_of stmt)
stmt_scalars p s built h t k stmt low high at =
    subst (λ (n : ℕ). All (λ (r : ℕ). r < n) (scalars_of stmt)) (sym h.scalars.0) (stmt_of p built t k stmt low high at).scalars

pub act_scalars : (p : ProgramTable) (s : State) → IsProgram p → IsWellFormed p s → (t k : ℕ) (stmt : Stmt) → 1 ≤ t → t ≤ length p.threads → stmt_at p t k ≡ Some stmt
    → All (λ r. r < length s.scalars) (outside stmt)
act_scalars p s built h t k stmt low high at = all_left (length s.scalars) (outside stmt) (bracket_scalars (bracket_of stmt)) (stmt_scalars p s built h t k stmt low high at)

pub stmt_locations : (p : ProgramTable) (s : State) → IsProgram p → IsWellFormed p s → (t k : ℕ) (stmt : Stmt) → 1 ≤ t → t ≤ length p.threads → stmt_at p t k ≡ Some stmt
    → All (λ x. x < length s.memory.initial) (locations_of stmt)
stmt_locations p s built h t k stmt low high at =
    subst (λ (n : ℕ). All (λ (x : ℕ). x < n) (locations_of stmt)) (sym h.memory.initial) (stmt_of p built t k stmt low high at).locations

-- ---- the fresh state

few_values : (d most : ℕ) (a b : Bool) → nat_le d most ≡ b → cond (a && b) None (Some (domain_size d)) ≡ None → d ≤ most
few_values d most true true is h = leb-true d most is
few_values d most true false is h = cc
few_values d most false b is h = cc

few_largest : (b : Bool) → cond b 4 6 ≤ 6
few_largest true = omega arith
few_largest false = omega arith

pub initial_fits : (p : ProgramTable) → IsProgram p → All (λ v. v < 256) (initial p.names)
initial_fits p built =
    let d = p.names.domain in
    let most = largest_domain p.names.version in
    let few : d ≤ most = few_values d most (nat_le 2 d) (nat_le d most) refl (faultless p.names p.threads built.faultless).domain in
    let six : most ≤ 6 = few_largest (p.names.version == 1) in
    All-weaker (λ (v : ℕ). v < d) (λ (v : ℕ). v < 256) (λ v low. omega (arith, low, few, six)) (initial p.names) (initial_inside p built)

constant : {X Y : Type 0} (c : Y) (xs : List X) → replicate (length xs) c ≡ map (λ x. c) xs
constant c [] = refl
constant {X} {Y} c (x ∷ xs) = ap (λ (l : List Y). c ∷ l) (constant c xs)

pub made_fresh : (p : ProgramTable) (names : NameTable) (n k r t : ℕ) (memory : Memory) (views : List Views) (scalars points : List ℕ)
    → names ≡ p.names → memory ≡ record { initial = initial names; lines = lines names; messages = [] } → n ≡ length p.names.locations → k ≡ line_count (lines p.names) → r ≡ length p.names.scalars → t ≡ length p.threads
    → views ≡ replicate t (fresh_views n k) → scalars ≡ replicate r 0 → points ≡ replicate t 1
    → (let s : State = record { memory = memory; views = views; scalars = scalars; points = points } in s) ≡ fresh p
made_fresh p names n k r t memory views scalars points named ms ns ks rs ts vs ss ps =
    let made : Memory → List Views → List ℕ → List ℕ → State = λ m v q at. record { memory = m; views = v; scalars = q; points = at } in
    let a = ms ∙ ap (λ (x : NameTable). let m : Memory = record { initial = initial x; lines = lines x; messages = [] } in m) named in
    let b = vs ∙ (ap (λ (x : ℕ). replicate x (fresh_views n k)) ts ∙ (constant (fresh_views n k) p.threads
    ∙ (ap (λ (x : ℕ). map (λ (y : List Stmt). fresh_views x k) p.threads) ns ∙ ap (λ (x : ℕ). map (λ (y : List Stmt). fresh_views (length p.names.locations) x) p.threads) ks))) in
    let c = ss ∙ (ap (λ (x : ℕ). replicate x 0) rs ∙ constant 0 p.names.scalars) in
    let d = ps ∙ (ap (λ (x : ℕ). replicate x 1) ts ∙ constant 1 p.threads) in
    ap (λ (m : Memory). made m views scalars points) a
    ∙ (ap (λ (v : List Views). made (fresh p).memory v scalars points) b
    ∙ (ap (λ (q : List ℕ). made (fresh p).memory (fresh p).views q points) c ∙ ap (λ (at : List ℕ). made (fresh p).memory (fresh p).views (fresh p).scalars at) d))
