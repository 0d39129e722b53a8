-- The same of the readers of the parts of a statement.
use Rattle.std.proofs.Common.{◌≡◌, ℕ, zero, suc, ◌<◌, Bool, true, false, Ok, Err, Some, None, List, [], ◌∷◌, ◌++◌, refl, ap, sym, subst, arith, inl, inr}
use Rattle.std.specs.Prelude.{◌⊎◌, if◌then◌else◌, Option, Result}
use Rattle.pg_lex.specs.declared.token.Sign.TheVariants as s
use Rattle.pg_lex.specs.declared.fault.TextFault.TheVariants.{At}
use Rattle.pg_lex.specs.declared.fault.TextKind.{TextKind}
use Rattle.pg_lex.specs.declared.fault.TextKind.TheVariants.{TooMany, Unexpected}
use Rattle.pg_lex.specs.Lex.{Cursor, Lexeme, token, after}
use Rattle.pg_program.specs.NameTable.{NameTable}
use Rattle.pg_program.specs.declared.name_table.NameRef.{NameRef}
use Rattle.pg_program.specs.declared.name_table.NameRef.TheVariants as place
use Rattle.pg_program.specs.declared.syntax.Expr.{Expr}
use Rattle.pg_program.specs.declared.syntax.Cond.{Cond}
use Rattle.pg_program.specs.declared.syntax.Act.{Act}
use Rattle.pg_program.specs.declared.syntax.Act.TheVariants as act
use Rattle.pg_program.specs.declared.syntax.AuxAssign.{AuxAssign}
use Rattle.pg_assertion.specs.declared.atom.RawAtom.{RawAtom}
use Rattle.pg_assertion.specs.Formula.{Plain}
use Rattle.pg_assertion_text.specs.Input.{Input, Outcome, Parser, and_then, ◌>>=◌, ◌>>◌, pure, refuse, allowed, next, node, expect, is_sign, named, location}
use Rattle.pg_assertion_text.specs.Atoms.{raw_atom}
use Rattle.pg_assertion_text.specs.Parsing.{placed}
use Rattle.pg_assertion_text.specs.Reading as reading
use Rattle.pg_assertion_text.specs.Agreement.{IsLimit}
use Rattle.pg_assertion_text.proofs.Steps.{bind_then, node_found, next_found}
use Rattle.pg_assertion_text.proofs.Local.{Grown, grown_less, Same, Local, known, bind_is, taken, refused, limited, allowed_then, chosen, node_then, token_local, peek_local, local_behind, local_then, local_pure, local_location, no_rise}
use Rattle.pg_assertion_text.proofs.LocalFormula.{formula_local, local_made, local_closed, local_opened}
use Rattle.pg_program_text.specs.Limits.{Limits}
use Rattle.pg_program_text.specs.declared.keyword.Keyword.{Keyword}
use Rattle.pg_program_text.specs.declared.keyword.Keyword.TheVariants as k
use Rattle.pg_program_text.specs.Keywords.{keyword}
use Rattle.pg_program_text.specs.Stmt.{expression, behind, formula, opens_note, opened, note, equal_at, settled, test_sign, a_test, operand, last_operand, swap, load_or_assign, assigned_by, assigned, to_name, named_act, act_by, an_act, auxiliary_in, one_more, assignment, goes_on_or_ends, separator, assignments_on, bracket_by, bracket}
use Rattle.pg_program_text.proofs.ExprComplete.{at}
use Rattle.pg_program_text.proofs.LocalExpr.{expression_local, grown_below}

abbrev made : Expr → Expr → Bool → Cond
made a b equal = record { left = a; right = b; equal = equal }

-- limits, and looser ones
pub record AllGrown (X : Type 0) (L M : Limits) : Type 0 where
  pub blocks : Grown X L.blocks M.blocks
  pub assignments : Grown X L.assignments M.assignments
  pub expression_nodes : Grown X L.expression_nodes M.expression_nodes
  pub brackets : Grown X L.brackets M.brackets
  pub formula_nodes : Grown X L.formula_nodes M.formula_nodes
  pub formula_brackets : Grown X L.formula_brackets M.formula_brackets

pub none_grown : (X : Type 0) (L : Limits) → AllGrown X L L
none_grown X L = record { blocks = inl refl; assignments = inl refl; expression_nodes = inl refl; brackets = inl refl; formula_nodes = inl refl; formula_brackets = inl refl }

abbrev assigns : Limits → NameTable → ℕ → Lexeme → ℕ → Parser AuxAssign
assigns limits names n t r = (one_more t.place n >> expect s.Assign >> expression limits names) >>= (λ a. pure (record { target = r; expr = a }))

module _ (X : Type 0) (L M : Limits) (names : NameTable) (grown : AllGrown X L M) where
  -- ---- expressions, formulas, notes

  pub local_expression : Local X (expression L names) (expression M names)
  unfolding expression
  local_expression = expression_local X names L.expression_nodes M.expression_nodes L.brackets M.brackets grown.expression_nodes grown.brackets

  formula_apart : (c : Cursor) (r n m : ℕ) → Grown X n m → (o : Outcome (Plain RawAtom)) (q : Cursor → ℕ → Outcome (Plain RawAtom)) → Same X c n o q → Same X c r (behind (at c r) (placed o)) (λ d t. behind (at d t) (placed (q d m)))
  formula_apart c r n m grown (Ok v) q w = record {
    k = w.k;
    is = w.is;
    room = omega arith;
    like = λ d t more al. let u = w.like d m grown al in (t, more, ap (λ o. behind (at d t) (placed o)) u.2);
  }
  formula_apart c r n m grown (Err e) q w = record { m = w.m; at = w.at; like = λ d t more al. fails d t (w.like d m grown al) }
    where
      fails : (d : Cursor) (t : ℕ) → (X × IsLimit e) ⊎ (q d m ≡ Err e) → (X × IsLimit e) ⊎ (behind (at d t) (placed (q d m)) ≡ Err e)
      fails d t (inl limit) = inl limit
      fails d t (inr stops) = inr (ap (λ o. behind (at d t) (placed o)) stops)

  pub local_formula : Local X (formula L names) (formula M names)
  unfolding formula
  local_formula c r =
      formula_apart c r L.formula_nodes M.formula_nodes grown.formula_nodes (reading.formula (raw_atom names) L.formula_brackets (at c L.formula_nodes)) (λ d t. reading.formula (raw_atom names) M.formula_brackets (at d t))
      (formula_local X names L.formula_brackets M.formula_brackets grown.formula_brackets c L.formula_nodes)

  -- a node behind its token
  node_same : (c : Cursor) (r : ℕ) (t : Lexeme) → token c ≡ Ok t → Same X c r (node t.place (at (after c) r)) (λ d s. node t.place (at (after d) s))
  node_same c r t is =
      known X c r (node t.place (at (after c) r)) (λ d s. and_then (node t.place (at (after d) s)) (λ u. pure tt)) (λ d s. node t.place (at (after d) s)) (λ d s first. plainly (node t.place (at (after d) s)))
      (subst (λ o. Same X c r o (λ d s. and_then (node t.place (at (after d) s)) (λ u. pure tt))) (sym (plainly (node t.place (at (after c) r))))
      (node_then X after c r t is (pure tt) (pure tt) (λ s. taken X (pure tt) (pure tt) (local_pure X tt) c s)))
    where
      plainly : (o : Outcome (Unit {0})) → o ≡ and_then o (λ u. pure tt)
      plainly (Ok p) = refl
      plainly (Err e) = refl

  local_opened_note : Local X opened opened
  unfolding opened
  local_opened_note = token_local X opens_note opens_note (λ c r t is.
      chosen X (is_sign s.OpenSquare t.kind) c r after (node t.place) (refuse t.place Unexpected) (node t.place) (refuse t.place Unexpected) (node_same c r t is) (refused X (Unit {0}) c r t Unexpected is))

  pub local_note : Local X (note L names) (note M names)
  unfolding note
  local_note = local_then X (opened >> formula L names) (opened >> formula M names) (λ f. expect s.CloseSquare >> pure f) (λ f. expect s.CloseSquare >> pure f)
      (local_then X opened opened (λ u. formula L names) (λ u. formula M names) local_opened_note (λ u. local_formula)) (λ f. local_closed X s.CloseSquare f)

  -- ---- tests

  equal_same : (c : Cursor) (r : ℕ) (t : Lexeme) → token c ≡ Ok t → (a b : Bool)
      → Same X c r (settled (if a then Ok true else (if b then Ok false else Err (At t.place Unexpected))) (at (after c) r)) (λ d s. settled (if a then Ok true else (if b then Ok false else Err (At t.place Unexpected))) (at (after d) s))
  equal_same c r t is true b = taken X (pure true) (pure true) (local_pure X true) c r
  equal_same c r t is false true = taken X (pure false) (pure false) (local_pure X false) c r
  equal_same c r t is false false = refused X Bool c r t Unexpected is

  local_test_sign : Local X test_sign test_sign
  unfolding test_sign
  local_test_sign = token_local X (λ t. settled (equal_at t)) (λ t. settled (equal_at t)) (λ c r t is. equal_same c r t is (is_sign s.Equal t.kind) (is_sign s.NotEqual t.kind))

  pub local_test : Local X (a_test L names) (a_test M names)
  unfolding a_test
  local_test =
      local_then X (expression L names) (expression M names) (λ a. test_sign >>= (λ equal. expression L names >>= (λ b. pure (made a b equal)))) (λ a. test_sign >>= (λ equal. expression M names >>= (λ b. pure (made a b equal)))) local_expression (λ a.
      local_then X test_sign test_sign (λ equal. expression L names >>= (λ b. pure (made a b equal))) (λ equal. expression M names >>= (λ b. pure (made a b equal))) local_test_sign (λ equal.
      local_made X (expression L names) (expression M names) (λ b. made a b equal) local_expression))

  -- ---- acts

  local_operand : Local X (operand L names) (operand M names)
  unfolding operand
  local_operand = local_opened X s.Comma (expression L names) (expression M names) local_expression

  local_last_operand : Local X (last_operand L names) (last_operand M names)
  unfolding last_operand
  local_last_operand = local_then X (operand L names) (operand M names) (λ a. expect s.Close >> pure a) (λ a. expect s.Close >> pure a) local_operand (λ a. local_closed X s.Close a)

  local_swap : (r : ℕ) → Local X (swap L names r) (swap M names r)
  unfolding swap
  local_swap r =
      local_then X (expect s.Open >> location names) (expect s.Open >> location names) (λ x. operand L names >>= (λ a. last_operand L names >>= (λ b. pure (act.Cas r x a b)))) (λ x. operand M names >>= (λ a. last_operand M names >>= (λ b. pure (act.Cas r x a b))))
      (local_opened X s.Open (location names) (location names) (local_location X names)) (λ x.
      local_then X (operand L names) (operand M names) (λ a. last_operand L names >>= (λ b. pure (act.Cas r x a b))) (λ a. last_operand M names >>= (λ b. pure (act.Cas r x a b))) local_operand (λ a.
      local_made X (last_operand L names) (last_operand M names) (λ b. act.Cas r x a b) local_last_operand))

  local_assign : (r : ℕ) → Local X (expression L names >>= (λ a. pure (act.Assign r a))) (expression M names >>= (λ a. pure (act.Assign r a)))
  local_assign r = local_made X (expression L names) (expression M names) (λ a. act.Assign r a) local_expression

  local_load : (r : ℕ) (q : Result NameRef TextKind) → Local X (load_or_assign L names r q) (load_or_assign M names r q)
  local_load r (Ok (place.Location x)) = local_behind X (pure (act.Load r x)) (pure (act.Load r x)) (local_pure X (act.Load r x))
  local_load r (Ok (place.Scalar q)) = local_assign r
  local_load r (Err why) = local_assign r

  local_assigned_by : (r : ℕ) (t : Lexeme) (o : Option Keyword) → Local X (assigned_by L names r t o) (assigned_by M names r t o)
  local_assigned_by r t (Some k.Cas) = local_behind X (swap L names r) (swap M names r) (local_swap r)
  local_assigned_by r t (Some k.Mfence) = local_load r (named names t)
  local_assigned_by r t (Some k.Sfence) = local_load r (named names t)
  local_assigned_by r t (Some k.Flush) = local_load r (named names t)
  local_assigned_by r t (Some k.Flushopt) = local_load r (named names t)
  local_assigned_by r t (Some k.If) = local_load r (named names t)
  local_assigned_by r t (Some k.Else) = local_load r (named names t)
  local_assigned_by r t (Some k.While) = local_load r (named names t)
  local_assigned_by r t None = local_load r (named names t)

  local_assigned : (r : ℕ) → Local X (assigned L names r) (assigned M names r)
  unfolding assigned
  local_assigned r = peek_local X (λ t. assigned_by L names r t (keyword t)) (λ t. assigned_by M names r t (keyword t)) (λ c n t is. local_assigned_by r t (keyword t) c n)

  local_to_name : (q : NameRef) → Local X (to_name L names q) (to_name M names q)
  local_to_name (place.Scalar r) = local_opened X s.Assign (assigned L names r) (assigned M names r) (local_assigned r)
  local_to_name (place.Location x) = local_made X (expect s.Assign >> expression L names) (expect s.Assign >> expression M names) (λ a. act.Store x a) (local_opened X s.Assign (expression L names) (expression M names) local_expression)

  named_same : (c : Cursor) (r : ℕ) (t : Lexeme) → token c ≡ Ok t → Same X c r (named_act L names t (at (after c) r)) (λ d s. named_act M names t (at (after d) s))
  named_same c r t is = allowed_then X after c r t is (named names t) (to_name L names) (to_name M names) (λ q. taken X (to_name L names q) (to_name M names q) (local_to_name q) c r)

  flush_same : (make : ℕ → Act) (c : Cursor) (r : ℕ) → Same X c r ((location names >>= (λ x. pure (make x))) (at (after c) r)) (λ d s. (location names >>= (λ x. pure (make x))) (at (after d) s))
  flush_same make c r = taken X (location names >>= (λ x. pure (make x))) (location names >>= (λ x. pure (make x))) (local_made X (location names) (location names) make (local_location X names)) c r

  act_same : (c : Cursor) (r : ℕ) (t : Lexeme) → token c ≡ Ok t → (o : Option Keyword) → Same X c r (act_by L names t o (at (after c) r)) (λ d s. act_by M names t o (at (after d) s))
  act_same c r t is (Some k.Mfence) = taken X (pure act.Mfence) (pure act.Mfence) (local_pure X act.Mfence) c r
  act_same c r t is (Some k.Sfence) = taken X (pure act.Sfence) (pure act.Sfence) (local_pure X act.Sfence) c r
  act_same c r t is (Some k.Flush) = flush_same (λ x. act.Flush x) c r
  act_same c r t is (Some k.Flushopt) = flush_same (λ x. act.Flushopt x) c r
  act_same c r t is (Some k.Cas) = named_same c r t is
  act_same c r t is (Some k.If) = named_same c r t is
  act_same c r t is (Some k.Else) = named_same c r t is
  act_same c r t is (Some k.While) = named_same c r t is
  act_same c r t is None = named_same c r t is

  pub local_act : Local X (an_act L names) (an_act M names)
  unfolding an_act
  local_act = token_local X (λ t. act_by L names t (keyword t)) (λ t. act_by M names t (keyword t)) (λ c r t is. act_same c r t is (keyword t))

  -- ---- brackets

  assigns_same : (n m : ℕ) → Grown X n m → (c : Cursor) (r : ℕ) (t : Lexeme) → token c ≡ Ok t → (x : ℕ) → Same X c r (assigns L names n t x (at (after c) r)) (λ d s. assigns M names m t x (at (after d) s))
  assigns_same zero zero more c r t is x = refused X AuxAssign c r t TooMany is
  assigns_same zero (suc m) (inl equal) c r t is x = absurd (omega (arith, equal))
  assigns_same zero (suc m) (inr more) c r t is x = limited X AuxAssign more.0 c r t TooMany is (t.place, inl refl) (λ d s. assigns M names (suc m) t x (at (after d) s))
  assigns_same (suc n) zero more c r t is x = absurd (let less = grown_less X (suc n) zero more in omega (arith, less))
  assigns_same (suc n) (suc m) more c r t is x =
      taken X ((expect s.Assign >> expression L names) >>= (λ a. pure (record { target = x; expr = a }))) ((expect s.Assign >> expression M names) >>= (λ a. pure (record { target = x; expr = a })))
      (local_made X (expect s.Assign >> expression L names) (expect s.Assign >> expression M names) (λ a. record { target = x; expr = a }) (local_opened X s.Assign (expression L names) (expression M names) local_expression)) c r

  local_assignment : (n m : ℕ) → Grown X n m → Local X (assignment L names n) (assignment M names m)
  unfolding assignment
  local_assignment n m more =
      token_local X (λ t. allowed t.place (auxiliary_in names (named names t)) >>= assigns L names n t) (λ t. allowed t.place (auxiliary_in names (named names t)) >>= assigns M names m t) (λ c r t is.
      allowed_then X after c r t is (auxiliary_in names (named names t)) (assigns L names n t) (assigns M names m t) (λ x. assigns_same n m more c r t is x))

  separator_same : (c : Cursor) (r : ℕ) (t : Lexeme) → token c ≡ Ok t → (a b : Bool)
      → Same X c r ((if a then pure true else (if b then pure false else refuse t.place Unexpected)) (at (after c) r)) (λ d s. (if a then pure true else (if b then pure false else refuse t.place Unexpected)) (at (after d) s))
  separator_same c r t is true b = taken X (pure true) (pure true) (local_pure X true) c r
  separator_same c r t is false true = taken X (pure false) (pure false) (local_pure X false) c r
  separator_same c r t is false false = refused X Bool c r t Unexpected is

  local_separator : Local X separator separator
  unfolding separator
  local_separator = token_local X goes_on_or_ends goes_on_or_ends (λ c r t is. separator_same c r t is (is_sign s.Comma t.kind) (is_sign s.Greater t.kind))

-- where none may come, none is read
no_assignment : (limits : Limits) (names : NameTable) (i j : Input) (a : AuxAssign) → assignment limits names zero i ≡ Ok (a, j) → ⊥
unfolding assignment
no_assignment limits names i j a h =
    bind_then (next i) (λ t. allowed t.place (auxiliary_in names (named names t)) >>= assigns limits names zero t) (a, j) h (λ t l first rest.
    bind_then (allowed t.place (auxiliary_in names (named names t)) l) (assigns limits names zero t) (a, j) rest (λ x m second last. cc))

abbrev rest_of : Limits → NameTable → ℕ → List AuxAssign → AuxAssign → Parser (List AuxAssign)
rest_of limits names n found a = separator >>= (λ more. if more then assignments_on limits names n (found ++ a ∷ []) else pure (found ++ a ∷ []))

local_assignments : (X : Type 0) (L M : Limits) (names : NameTable) → AllGrown X L M → (n m : ℕ) → Grown X n m → (found : List AuxAssign) → Local X (assignments_on L names n found) (assignments_on M names m found)
unfolding assignments_on
local_assignments X L M names grown zero zero more found = local_made X (assignment L names zero) (assignment M names zero) (λ a. found ++ a ∷ []) (local_assignment X L M names grown zero zero (inl refl))
local_assignments X L M names grown zero (suc m) more found = λ c r.
    bind_is X c r (assignment L names zero (at c r)) (λ d t. assignment M names (suc m) (at d t)) (λ a. pure (found ++ a ∷ [])) (rest_of M names m found) (local_assignment X L M names grown zero (suc m) more c r)
    (λ a j is. absurd (no_assignment L names (at c r) j a is))
local_assignments X L M names grown (suc n) zero more found = absurd (let less = grown_less X (suc n) zero more in omega (arith, less))
local_assignments X L M names grown (suc n) (suc m) more found =
    local_then X (assignment L names (suc n)) (assignment M names (suc m)) (rest_of L names n found) (rest_of M names m found) (local_assignment X L M names grown (suc n) (suc m) more) (λ a.
    local_then X separator separator (λ more. if more then assignments_on L names n (found ++ a ∷ []) else pure (found ++ a ∷ [])) (λ more. if more then assignments_on M names m (found ++ a ∷ []) else pure (found ++ a ∷ []))
    (local_separator X L M names grown) (by (λ found. local_assignments X L M names grown n m (grown_below X n m more) found) a))
  where
    by : ((found : List AuxAssign) → Local X (assignments_on L names n found) (assignments_on M names m found)) → (a : AuxAssign) (b : Bool)
        → Local X (if b then assignments_on L names n (found ++ a ∷ []) else pure (found ++ a ∷ [])) (if b then assignments_on M names m (found ++ a ∷ []) else pure (found ++ a ∷ []))
    by goes a true = goes (found ++ a ∷ [])
    by goes a false = local_pure X (found ++ a ∷ [])

pub local_bracket : (X : Type 0) (L M : Limits) (names : NameTable) → AllGrown X L M → Local X (bracket L names) (bracket M names)
unfolding bracket
local_bracket X L M names grown = peek_local X (λ t. bracket_by L names (is_sign s.Less t.kind)) (λ t. bracket_by M names (is_sign s.Less t.kind)) (λ c r t is. by (is_sign s.Less t.kind) c r)
  where
    by : (b : Bool) → Local X (bracket_by L names b) (bracket_by M names b)
    by true = local_behind X (assignments_on L names L.assignments []) (assignments_on M names M.assignments []) (local_assignments X L M names grown L.assignments M.assignments grown.assignments [])
    by false = local_pure X []

-- a note takes a point
pub note_spends : (limits : Limits) (names : NameTable) (i j : Input) (f : Plain RawAtom) → note limits names i ≡ Ok (f, j) → j.room < i.room
unfolding note opened
note_spends limits names i j f h =
    bind_then (and_then (opened i) (λ u. formula limits names)) (λ f. expect s.CloseSquare >> pure f) (f, j) h (λ g l first rest.
    bind_then (opened i) (λ u. formula limits names) (g, l) first (λ u m takes reads.
    bind_then (next i) opens_note (u, m) takes (λ t n token_is noded.
    let one = opens t n m u (is_sign s.OpenSquare t.kind) noded in
    let same = ap (λ (q : Input). q.room) (next_found i n t token_is).1 in
    let two = no_rise ⊥ (formula limits names) (formula limits names) (local_formula ⊥ limits limits names (none_grown ⊥ limits)) m l g reads in
    let three = no_rise ⊥ (expect s.CloseSquare >> pure g) (expect s.CloseSquare >> pure g) (local_closed ⊥ s.CloseSquare g) l j f rest in
    omega (arith, one, same, two, three))))
  where
    opens : (t : Lexeme) (n m : Input) (u : Unit {0}) (b : Bool) → (if b then node t.place else refuse t.place Unexpected) n ≡ Ok (u, m) → m.room < n.room
    opens t n m u true is = let found = (node_found t.place n m u is).1 in omega (arith, found)
    opens t n m u false is = cc
