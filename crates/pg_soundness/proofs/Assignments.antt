-- The assignments of a bracket: an act assigns no auxiliary, a bracket auxiliaries alone and none of them twice. So the values that
-- the rules take for them are those that the act leaves.
use Rattle.std.proofs.Common.{◌≡◌, ℕ, ◌+◌, ◌-◌, ◌<◌, ◌≤◌, ◌==◌, Bool, true, false, cond, ◌||◌, List, [], ◌∷◌, ◌++◌, length, map, get_or, set, Option, Some, None, option_map, refl, sym, ap, subst, ◌∙◌, arith}
use Rattle.std.specs.List.{All, find}
use Rattle.std.proofs.lemmas.Bool.{eqb-true, eq-eqb, or_left, or_right, or_from, false_from_ne_true, true≢false, ne_eqb}
use Rattle.std.proofs.lemmas.List.{length-set, get_or-set_same, get_or-set_other}
use Rattle.std.proofs.lemmas.List.Elements.{All-nil, All-cons, All-head, All-tail}
use Rattle.pg_program.specs.declared.syntax.AuxAssign.{AuxAssign}
use Rattle.pg_program.specs.declared.syntax.Stmt.{Stmt}
use Rattle.pg_program.specs.declared.syntax.Act.{Act}
use Rattle.pg_program.specs.declared.syntax.Act.TheOpen.{Act-F, Assign, Store, Load, Cas, Mfence, Sfence, Flush, Flushopt, If, While}
use Rattle.pg_program.specs.declared.point.Step.{Step}
use Rattle.pg_program.specs.Block.{block}
use Rattle.pg_program.specs.Graph.{statements}
use Rattle.pg_program.specs.Expr.{reads, value}
use Rattle.pg_program.specs.Fault.{aux_in_program, aux_twice, no_auxiliaries, distinct_targets}
use Rattle.pg_program.specs.NameTable.{NameTable, is_auxiliary, scalar_name}
use Rattle.pg_program.specs.Limits.{most_scalars}
use Rattle.pg_program.specs.Program.{ProgramTable, IsProgram, thread_of, stmt_at}
use Rattle.pg_program.specs.Words.{is_in, repeated, targets, outside, outside_in, bracket_scalars}
use Rattle.pg_program.proofs.ProgramLemmas.{faultless, stmt_of}
use Rattle.pg_assertion.specs.declared.atom.ViewAtom.TheVariants.{Scalar}
use Rattle.pg_assertion.specs.declared.layout.Side.TheVariants.{Before, After}
use Rattle.pg_assertion.specs.declared.step_atom.StepAtom.{StepAtom}
use Rattle.pg_assertion.specs.declared.step_atom.StepAtom.TheVariants.{On}
use Rattle.pg_assertion.specs.Layout.{Sizes, sizes}
use Rattle.pg_machine.specs.declared.event.Event.{Event}
use Rattle.pg_machine.specs.State.{State, point_of}
use Rattle.pg_machine.specs.Moves.{Seen}
use Rattle.pg_machine.specs.Step.{Left, Row, assigned, act_of, bracket_of, seen_by}
use Rattle.pg_machine.proofs.Uses.{all_right, bracket_targets, bracket_names}
use Rattle.pg_views.specs.Valuation.{step_atom_holds}
use Rattle.pg_tables.specs.Truth.{AllTrue}
use Rattle.pg_tables.specs.Clause.{yes}
use Rattle.pg_tables.specs.Shapes.{after}
use Rattle.pg_tables.proofs.Truth.{all-none, all-append}
use Rattle.pg_rules_access.specs.Values.{bracket_side, bracket_rules, assign_rules}
use Rattle.pg_rules_access.proofs.StmtOver.{at_thread, at_stmt}
use Rattle.pg_soundness.proofs.Stepped.{Stepped}
use Rattle.pg_soundness.proofs.Rows.{assigned-other, scalar-after}
use Rattle.pg_soundness.proofs.Tuples.{in-all, same_value, all-tuples}

-- ---- what a statement of a program has

none_mapped : {A B : Type 0} (f : A → B) (o : Option A) → option_map f o ≡ None → o ≡ None
none_mapped f None h = refl
none_mapped f (Some a) h = cc

none_found : (p : ℕ → Bool) (rs : List ℕ) → find p rs ≡ None → All (λ r. p r ≡ false) rs
none_found p [] h = All-nil (λ (r : ℕ). p r ≡ false)
none_found p (r ∷ rs) h = by (none_found p rs) (p r) refl h
  where
    by : (find p rs ≡ None → All (λ q. p q ≡ false) rs) → (b : Bool) → p r ≡ b → cond b (Some r) (find p rs) ≡ None → All (λ q. p q ≡ false) (r ∷ rs)
    by rest true is k = cc
    by rest false is k = All-cons (λ (q : ℕ). p q ≡ false) r rs is (rest k)

-- each number of a list is none of those after it
abbrev pub AreApart : List ℕ → Type 0
AreApart [] = Unit {0}
AreApart (r ∷ rs) = (is_in r rs ≡ false) × AreApart rs

in_front : (r : ℕ) (before : List ℕ) (q : ℕ) → is_in r before ≡ true → is_in r (before ++ (q ∷ [])) ≡ true
in_front r [] q h = absurd (true≢false (sym h))
in_front r (b ∷ before) q h = by (in_front r before q) (b == r) h
  where
    by : (is_in r before ≡ true → is_in r (before ++ (q ∷ [])) ≡ true) → (c : Bool) → (c || is_in r before) ≡ true → (c || is_in r (before ++ (q ∷ []))) ≡ true
    by rest true k = refl
    by rest false k = rest k

at_end : (r : ℕ) (before : List ℕ) → is_in r (before ++ (r ∷ [])) ≡ true
at_end r [] = or_left (r == r) false (eq-eqb r r refl)
at_end r (b ∷ before) = or_right (b == r) (is_in r (before ++ (r ∷ []))) (at_end r before)

unrepeated : (before : List ℕ) (q : ℕ) (rs : List ℕ) → repeated before (q ∷ rs) ≡ None → (is_in q before ≡ false) × (repeated (before ++ (q ∷ [])) rs ≡ None)
unrepeated before q rs h = by (is_in q before) refl h
  where
    by : (b : Bool) → is_in q before ≡ b → cond b (Some q) (repeated (before ++ (q ∷ [])) rs) ≡ None → (is_in q before ≡ false) × (repeated (before ++ (q ∷ [])) rs ≡ None)
    by true is k = cc
    by false is k = (is, k)

none_later : (before rs : List ℕ) (r : ℕ) → is_in r before ≡ true → repeated before rs ≡ None → is_in r rs ≡ false
none_later before [] r here h = refl
none_later before (q ∷ rs) r here h =
    let parts = unrepeated before q rs h in
    or_from (q == r) (is_in r rs)
    (ne_eqb q r (λ e. true≢false (sym here ∙ (ap (λ (k : ℕ). is_in k before) (sym e) ∙ parts.0))))
    (none_later (before ++ (q ∷ [])) rs r (in_front r before q here) parts.1)

apart : (before rs : List ℕ) → repeated before rs ≡ None → AreApart rs
apart before [] h = tt
apart before (r ∷ rs) h =
    let rest = (unrepeated before r rs h).1 in
    (none_later (before ++ (r ∷ [])) rs r (at_end r before) rest, apart (before ++ (r ∷ [])) rs rest)

-- No auxiliary stands outside its bracket; the bracket's targets are auxiliaries, none twice.
pub record IsSorted (names : NameTable) (stmt : Stmt) : Type 0 where
  pub bare : All (λ r. is_auxiliary names r ≡ false) (outside stmt)
  pub auxiliary : All (λ r. is_auxiliary names r ≡ true) (targets stmt)
  pub apart : AreApart (targets stmt)

pub sorted : (p : ProgramTable) → IsProgram p → (t k : ℕ) (s : Stmt) → 1 ≤ t → t ≤ length p.threads → stmt_at p t k ≡ Some s → IsSorted p.names s
sorted p h t k s low high at =
    let clauses = faultless p.names p.threads h.faultless in
    let ss = statements (block (thread_of p t)) in
    let twice = at_stmt (distinct_targets p.names) (1 + (t - 1)) 1 ss (k - 1) s (at_thread (distinct_targets p.names) 1 p.threads (t - 1) clauses.apart (omega (arith, low, high))) at in
    let inside = at_stmt (no_auxiliaries p.names) (1 + (t - 1)) 1 ss (k - 1) s (at_thread (no_auxiliaries p.names) 1 p.threads (t - 1) clauses.bare (omega (arith, low, high))) at in
    record {
      bare = none_found (is_auxiliary p.names) (outside s) (none_mapped (λ r. aux_in_program (scalar_name p.names r)) (find (is_auxiliary p.names) (outside s)) inside);
      auxiliary = (stmt_of p h t k s low high at).targets;
      apart = apart [] (targets s) (none_mapped (λ r. aux_twice (scalar_name p.names r)) (repeated [] (targets s)) twice);
    }

-- ---- an act keeps the auxiliaries

kept-set : (aux : ℕ → Bool) (r : List ℕ) (q v k : ℕ) → aux q ≡ false → aux k ≡ true → get_or (set r q v) k 0 ≡ get_or r k 0
kept-set aux r q v k off on = get_or-set_other r q k v 0 (λ e. true≢false (sym on ∙ (ap aux e ∙ off)))

in-left : (left l : Left) (r : List ℕ) (k : ℕ) → left ≡ l → get_or l.scalars k 0 ≡ get_or r k 0 → get_or left.scalars k 0 ≡ get_or r k 0
in-left left l r k e h = ap (λ (m : Left). get_or m.scalars k 0) e ∙ h

pub auxiliary-kept : (aux : ℕ → Bool) (d : ℕ) (n : Seen) (r : List ℕ) (act : Act-F Act Stmt) (choice : Option ℕ) (left : Left) → Row d n r act choice left
    → All (λ q. aux q ≡ false) (outside_in act) → (k : ℕ) → aux k ≡ true → get_or left.scalars k 0 ≡ get_or r k 0
auxiliary-kept aux d n r (Assign q e) None left h bare k on =
    in-left left _ r k h (kept-set aux r q (value r d e) k (All-head (λ (m : ℕ). aux m ≡ false) q (reads e) bare) on)
auxiliary-kept aux d n r (Store x e) None left h bare k on = in-left left _ r k h refl
auxiliary-kept aux d n r (Load q x) (Some p) left h bare k on =
    in-left left _ r k h.1 (kept-set aux r q _ k (All-head (λ (m : ℕ). aux m ≡ false) q [] bare) on)
auxiliary-kept aux d n r (Cas q x e f) None left h bare k on =
    in-left left _ r k h.1 (kept-set aux r q (value r d e) k (All-head (λ (m : ℕ). aux m ≡ false) q (reads e ++ reads f) bare) on)
auxiliary-kept aux d n r (Cas q x e f) (Some p) left h bare k on =
    in-left left _ r k h.2 (kept-set aux r q _ k (All-head (λ (m : ℕ). aux m ≡ false) q (reads e ++ reads f) bare) on)
auxiliary-kept aux d n r Mfence None left h bare k on = in-left left _ r k h refl
auxiliary-kept aux d n r Sfence None left h bare k on = in-left left _ r k h refl
auxiliary-kept aux d n r (Flush x) None left h bare k on = in-left left _ r k h refl
auxiliary-kept aux d n r (Flushopt x) None left h bare k on = in-left left _ r k h refl
auxiliary-kept aux d n r (If test a b) None left h bare k on = in-left left _ r k h refl
auxiliary-kept aux d n r (While test a) None left h bare k on = in-left left _ r k h refl
auxiliary-kept aux d n r act choice left h bare k on = absurd h

-- ---- what the assignments leave

assigned-length : (d : ℕ) (seen : List ℕ) (bracket : List AuxAssign) (r : List ℕ) → length (assigned d seen bracket r) ≡ length r
assigned-length d seen [] r = refl
assigned-length d seen (a ∷ rest) r = assigned-length d seen rest (set r a.target (value seen d a.expr)) ∙ length-set r a.target (value seen d a.expr)

-- each target has the value of its expression
abbrev pub AreSet : ℕ → List ℕ → List ℕ → List AuxAssign → Type 0
AreSet d seen after [] = Unit {0}
AreSet d seen after (a ∷ rest) = (get_or after a.target 0 ≡ value seen d a.expr) × AreSet d seen after rest

are_set : (d : ℕ) (seen : List ℕ) (bracket : List AuxAssign) (r : List ℕ) → AreApart (map (λ a. a.target) bracket) → All (λ a. a.target < length r) bracket
    → AreSet d seen (assigned d seen bracket r) bracket
are_set d seen [] r differ inside = tt
are_set d seen (a ∷ rest) r differ inside =
    let size = length-set r a.target (value seen d a.expr) in (
      assigned-other d seen rest (set r a.target (value seen d a.expr)) a.target differ.0
          ∙ get_or-set_same r a.target (value seen d a.expr) 0 (All-head (λ (b : AuxAssign). b.target < length r) a rest inside),
      are_set d seen rest (set r a.target (value seen d a.expr)) differ.1
          (subst (λ (n : ℕ). All (λ (b : AuxAssign). b.target < n) rest) (sym size) (All-tail (λ (b : AuxAssign). b.target < length r) a rest inside)),
    )

-- ---- the rules of a bracket

module _ (p : ProgramTable) (s : State) (e : Event) (step : Step) (next : State) (stmt : Stmt) (left : Left) (h : Stepped p s e step next stmt left) where
  has : IsSorted p.names stmt
  has = sorted p h.built e.thread (point_of s e.thread) stmt h.low h.high h.stands

  -- a register is no target
  no_target : (q : ℕ) → is_auxiliary p.names q ≡ false → is_in q (targets stmt) ≡ false
  no_target q off =
      false_from_ne_true (is_in q (targets stmt)) (λ here.
      true≢false (sym (in-all (λ (r : ℕ). is_auxiliary p.names r ≡ true) (targets stmt) q has.auxiliary here) ∙ off))

  -- so what stands outside the bracket is none
  pub unassigned : (q : ℕ) → is_in q (outside stmt) ≡ true → is_in q (targets stmt) ≡ false
  unassigned q here = no_target q (in-all (λ (r : ℕ). is_auxiliary p.names r ≡ false) (outside stmt) q has.bare here)

module _ (p : ProgramTable) (s : State) (e : Event) (step : Step) (next : State) (stmt : Stmt) (left : Left) (h : Stepped p s e step next stmt left) (few : length p.names.scalars ≤ most_scalars) where
  abbrev val : StepAtom → Bool
  val = step_atom_holds p.names.domain (act_of stmt) e.choice s next

  abbrev l : Sizes
  l = sizes p.names (length p.threads)

  one_value : (r k : ℕ) (b : Bool) → is_auxiliary p.names r ≡ b → val (On (Scalar r k) (cond b Before After)) ≡ true → k ≡ get_or left.scalars r 0
  one_value r k true is holds =
      sym (eqb-true (get_or s.scalars r 0) k holds)
      ∙ sym (auxiliary-kept (is_auxiliary p.names) p.names.domain (seen_by s e.thread) s.scalars (act_of stmt) e.choice left h.row (has p s e step next stmt left h).bare r is)
  one_value r k false is holds = sym (eqb-true (get_or next.scalars r 0) k holds) ∙ scalar-after p s e step next stmt left h r (no_target p s e step next stmt left h r is)

  true_assign : (a : AuxAssign) → All (λ r. r < l.scalars) (reads a.expr) → get_or next.scalars a.target 0 ≡ value left.scalars p.names.domain a.expr → AllTrue val (assign_rules l p.names a)
  true_assign a over is =
      all-tuples val l (bracket_side p.names) (λ values. yes (after (Scalar a.target (value values l.domain a.expr)))) (reads a.expr) left.scalars
      (λ r k here holds. one_value r k (is_auxiliary p.names r) refl holds)
      (λ values agree. eq-eqb (get_or next.scalars a.target 0) (value values p.names.domain a.expr) (is ∙ sym (same_value p.names.domain values left.scalars a.expr agree))) few over

  true_assigns : (bracket : List AuxAssign) → All (λ a. All (λ r. r < l.scalars) (reads a.expr)) bracket → AreSet p.names.domain left.scalars next.scalars bracket
      → AllTrue val (bracket_rules l p.names bracket)
  true_assigns [] over set = all-none val
  true_assigns (a ∷ rest) over set =
      let P : AuxAssign → Type 0 = λ b. All (λ (r : ℕ). r < l.scalars) (reads b.expr) in
      all-append val _ _ (true_assign a (All-head P a rest over) set.0) (true_assigns rest (All-tail P a rest over) set.1)

  pub true_bracket : AllTrue val (bracket_rules l p.names (bracket_of stmt))
  true_bracket =
      let d = p.names.domain in
      let names = subst (λ (n : ℕ). All (λ (r : ℕ). r < n) (bracket_scalars (bracket_of stmt))) h.formed.scalars.0
      (all_right (length s.scalars) (outside stmt) (bracket_scalars (bracket_of stmt)) h.over_scalars) in
      let size : length left.scalars ≡ length p.names.scalars = sym (assigned-length d left.scalars (bracket_of stmt) left.scalars) ∙ (sym (ap length h.scalars) ∙ h.formed_next.scalars.0) in
      let inside = subst (λ (n : ℕ). All (λ (a : AuxAssign). a.target < n) (bracket_of stmt)) (sym size) (bracket_targets (length p.names.scalars) (bracket_of stmt) names) in
      true_assigns (bracket_of stmt) (bracket_names (length p.names.scalars) (bracket_of stmt) names)
      (subst (λ (after : List ℕ). AreSet d left.scalars after (bracket_of stmt)) (sym h.scalars) (are_set d left.scalars (bracket_of stmt) left.scalars (has p s e step next stmt left h).apart inside))
