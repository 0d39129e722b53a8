-- The same of the readers of atoms and formulas.
use Rattle.std.proofs.Common.{◌≡◌, ℕ, zero, suc, ◌+◌, ◌<◌, ◌≤◌, ◌==◌, Bool, true, false, Ok, Err, Some, None, List, [], ◌∷◌, ◌++◌, refl, ap, arith, inl, inr}
use Rattle.std.specs.Prelude.{◌⊎◌, if◌then◌else◌, Option}
use Rattle.pg_lex.specs.declared.token.Sign.{Sign}
use Rattle.pg_lex.specs.declared.token.Sign.TheVariants as s
use Rattle.pg_lex.specs.declared.token.TokenKind.{TokenKind}
use Rattle.pg_lex.specs.declared.token.TokenKind.TheVariants as kind
use Rattle.pg_lex.specs.declared.fault.TextKind.TheVariants.{TooDeep, Unexpected}
use Rattle.pg_lex.specs.Lex.{Cursor, Lexeme, token, after}
use Rattle.pg_program.specs.NameTable.{NameTable}
use Rattle.pg_assertion.specs.Formula.{Plain, atom, neg, both, either}
use Rattle.pg_assertion.specs.declared.atom.RawAtom.{RawAtom}
use Rattle.pg_assertion.specs.declared.atom.RawAtom.TheVariants as raw
use Rattle.pg_assertion_text.specs.declared.formula.Opening.{Opening}
use Rattle.pg_assertion_text.specs.declared.formula.Opening.TheVariants.{Negation, Bracket, Constant, Atom}
use Rattle.pg_assertion_text.specs.Input as input
use Rattle.pg_assertion_text.specs.Input.{Input, Outcome, Parser, and_then, ◌>>=◌, ◌>>◌, pure, refuse, allowed, next, node, goes_on, expect, named, scalar_in}
use Rattle.pg_assertion_text.specs.Atoms as atoms
use Rattle.pg_assertion_text.specs.Atoms.{equals, cell, thread, last, read, two_reads, lettered, scalar_atom, raw_by, raw_atom}
use Rattle.pg_assertion_text.specs.Reading.{chain_on, chain, implied, arrows_on, arrows, conjunction, disjunction, formula_of, formula, start, truth, deeper, negated, bracketed, operand_by, operand, unary}
use Rattle.pg_assertion_text.proofs.Steps.{ok_same, bind_then}
use Rattle.pg_assertion_text.proofs.Complete.{at}
use Rattle.pg_assertion_text.proofs.Moves.{Moves}
use Rattle.pg_assertion_text.proofs.MovesAtoms.{raw_moves}
use Rattle.pg_assertion_text.proofs.MovesFormula.{conjunction_moves, disjunction_moves, unary_moves}
use Rattle.pg_assertion_text.proofs.Looser.{spends, no_rise}
use Rattle.pg_assertion_text.proofs.Local.{Grown, grown_less, Same, Local, bind, taken, refused, limited, allowed_then, chosen, node_then, next_then, counted_then, token_local, peek_local, local_then, local_pure, local_expect, local_number, local_location, local_goes, turns_on, onwards, Turns, Spends, loop_free, loop_local}

-- ---- atoms

module _ (X : Type 0) where
  local_equals : Local X equals equals
  unfolding equals
  local_equals = local_then X (expect s.Equal) (expect s.Equal) (λ u. input.number) (λ u. input.number) (local_expect X s.Equal) (λ u. local_number X)

  local_comma : Local X (expect s.Comma >> input.number) (expect s.Comma >> input.number)
  local_comma = local_then X (expect s.Comma) (expect s.Comma) (λ u. input.number) (λ u. input.number) (local_expect X s.Comma) (λ u. local_number X)

  -- a value of a phrase
  pub local_made : {A B : Type 0} (p q : Parser A) (make : A → B) → Local X p q → Local X (p >>= (λ a. pure (make a))) (q >>= (λ a. pure (make a)))
  local_made p q make same = local_then X p q (λ a. pure (make a)) (λ a. pure (make a)) same (λ a. local_pure X (make a))

  local_cell : (names : NameTable) → Local X (cell names) (cell names)
  unfolding cell
  local_cell names = local_then X (input.location names) (input.location names) (λ x. (expect s.Comma >> input.number) >>= (λ v. pure {A = ℕ × ℕ} (x, v))) (λ x. (expect s.Comma >> input.number) >>= (λ v. pure {A = ℕ × ℕ} (x, v)))
      (local_location X names) (λ x. local_made {B = ℕ × ℕ} (expect s.Comma >> input.number) (expect s.Comma >> input.number) (λ v. (x, v)) local_comma)

  -- a sign behind a value
  pub local_closed : {A : Type 0} (z : Sign) (a : A) → Local X (expect z >> pure a) (expect z >> pure a)
  local_closed z a = local_then X (expect z) (expect z) (λ u. pure a) (λ u. pure a) (local_expect X z) (λ u. local_pure X a)

  -- a sign in front of a phrase
  pub local_opened : {A : Type 0} (z : Sign) (p q : Parser A) → Local X p q → Local X (expect z >> p) (expect z >> q)
  local_opened z p q same = local_then X (expect z) (expect z) (λ u. p) (λ u. q) (local_expect X z) (λ u. same)

  local_thread : Local X thread thread
  unfolding thread
  local_thread = local_then X input.number input.number (λ t. expect s.Comma >> pure t) (λ t. expect s.Comma >> pure t) (local_number X) (λ t. local_closed s.Comma t)

  local_last : (names : NameTable) → Local X (last names) (last names)
  unfolding last
  local_last names = local_then X (expect s.Open >> cell names) (expect s.Open >> cell names) (λ c. expect s.Close >> pure c) (λ c. expect s.Close >> pure c) (local_opened s.Open (cell names) (cell names) (local_cell names)) (λ c. local_closed s.Close c)

  local_seen : (names : NameTable) → Local X (atoms.seen names) (atoms.seen names)
  unfolding atoms.seen
  local_seen names = local_then X (expect s.Open >> thread) (expect s.Open >> thread) (λ t. input.location names >>= (λ x. expect s.Close >> pure {A = ℕ × ℕ} (t, x))) (λ t. input.location names >>= (λ x. expect s.Close >> pure {A = ℕ × ℕ} (t, x)))
      (local_opened s.Open thread thread local_thread) (λ t.
      local_then X (input.location names) (input.location names) (λ x. expect s.Close >> pure {A = ℕ × ℕ} (t, x)) (λ x. expect s.Close >> pure {A = ℕ × ℕ} (t, x)) (local_location X names) (λ x. local_closed {A = ℕ × ℕ} s.Close (t, x)))

  local_read : (names : NameTable) → Local X (read names) (read names)
  unfolding read
  local_read names = local_then X (expect s.Open >> thread) (expect s.Open >> thread) (λ t. cell names >>= (λ c. expect s.Close >> pure {A = ℕ × (ℕ × ℕ)} (t, c))) (λ t. cell names >>= (λ c. expect s.Close >> pure {A = ℕ × (ℕ × ℕ)} (t, c)))
      (local_opened s.Open thread thread local_thread) (λ t.
      local_then X (cell names) (cell names) (λ c. expect s.Close >> pure {A = ℕ × (ℕ × ℕ)} (t, c)) (λ c. expect s.Close >> pure {A = ℕ × (ℕ × ℕ)} (t, c)) (local_cell names) (λ c. local_closed {A = ℕ × (ℕ × ℕ)} s.Close (t, c)))

  local_two : (names : NameTable) → Local X (two_reads names) (two_reads names)
  unfolding two_reads
  local_two names =
      local_then X (expect s.Open >> thread) (expect s.Open >> thread) (λ t. cell names >>= (λ c. (expect s.Comma >> cell names) >>= (λ d. expect s.Close >> pure {A = ℕ × (ℕ × ℕ) × (ℕ × ℕ)} (t, c, d))))
      (λ t. cell names >>= (λ c. (expect s.Comma >> cell names) >>= (λ d. expect s.Close >> pure {A = ℕ × (ℕ × ℕ) × (ℕ × ℕ)} (t, c, d)))) (local_opened s.Open thread thread local_thread) (λ t.
      local_then X (cell names) (cell names) (λ c. (expect s.Comma >> cell names) >>= (λ d. expect s.Close >> pure {A = ℕ × (ℕ × ℕ) × (ℕ × ℕ)} (t, c, d))) (λ c. (expect s.Comma >> cell names) >>= (λ d. expect s.Close >> pure {A = ℕ × (ℕ × ℕ) × (ℕ × ℕ)} (t, c, d)))
      (local_cell names) (λ c.
      local_then X (expect s.Comma >> cell names) (expect s.Comma >> cell names) (λ d. expect s.Close >> pure {A = ℕ × (ℕ × ℕ) × (ℕ × ℕ)} (t, c, d)) (λ d. expect s.Close >> pure {A = ℕ × (ℕ × ℕ) × (ℕ × ℕ)} (t, c, d))
      (local_opened s.Comma (cell names) (cell names) (local_cell names)) (λ d. local_closed {A = ℕ × (ℕ × ℕ) × (ℕ × ℕ)} s.Close (t, c, d))))

  -- behind its letter
  letter_local : (names : NameTable) (c : Cursor) (r : ℕ) (t : Lexeme) → token c ≡ Ok t → (b : ℕ) → Same X c r (lettered names t.place b (at (after c) r)) (λ d s. lettered names t.place b (at (after d) s))
  letter_local names c r t is b =
      chosen X (b == 76) c r after _ _ _ _ (of (last names) (λ c. raw.Last c.0 c.1) (local_last names))
      (chosen X (b == 80) c r after _ _ _ _ (of (last names) (λ c. raw.Persist c.0 c.1) (local_last names))
      (chosen X (b == 82) c r after _ _ _ _ (of (read names) (λ a. raw.Read a.0 a.1.0 a.1.1) (local_read names))
      (chosen X (b == 65) c r after _ _ _ _ (of (read names) (λ a. raw.Async a.0 a.1.0 a.1.1) (local_read names))
      (chosen X (b == 67) c r after _ _ _ _ (of (two_reads names) (λ a. raw.Then a.0 a.1.0 a.1.1 a.2.0 a.2.1) (local_two names))
      (chosen X (b == 78) c r after _ _ _ _ (of (atoms.seen names) (λ a. raw.Newest a.0 a.1) (local_seen names))
      (chosen X (b == 79) c r after _ _ _ _ (of (atoms.seen names) (λ a. raw.Ordered a.0 a.1) (local_seen names))
      (chosen X (b == 70) c r after _ _ _ _ (of (atoms.seen names) (λ a. raw.Fenced a.0 a.1) (local_seen names)) (refused X RawAtom c r t Unexpected is))))))))
    where
      of : {A : Type 0} (p : Parser A) (make : A → RawAtom) → Local X p p → Same X c r ((p >>= (λ a. pure (make a))) (at (after c) r)) (λ d s. (p >>= (λ a. pure (make a))) (at (after d) s))
      of p make same = taken X (p >>= (λ a. pure (make a))) (p >>= (λ a. pure (make a))) (local_made p p make same) c r

  scalar_local : (names : NameTable) (c : Cursor) (r : ℕ) (t : Lexeme) → token c ≡ Ok t → Same X c r (scalar_atom names t (at (after c) r)) (λ d s. scalar_atom names t (at (after d) s))
  scalar_local names c r t is =
      allowed_then X after c r t is (scalar_in (named names t)) (λ x. (node t.place >> equals) >>= (λ k. pure (raw.Scalar x k))) (λ x. (node t.place >> equals) >>= (λ k. pure (raw.Scalar x k))) (λ x.
      bind X c r (and_then (node t.place (at (after c) r)) (λ u. equals)) (λ d s. and_then (node t.place (at (after d) s)) (λ u. equals)) (λ k. pure (raw.Scalar x k)) (λ k. pure (raw.Scalar x k))
      (node_then X after c r t is equals equals (λ s. taken X equals equals local_equals c s)) (λ k. local_pure X (raw.Scalar x k)))

  raw_by_local : (names : NameTable) (c : Cursor) (r : ℕ) (t : Lexeme) → token c ≡ Ok t → (k : TokenKind) → Same X c r (raw_by names t k (at (after c) r)) (λ d s. raw_by names t k (at (after d) s))
  raw_by_local names c r t is (kind.Letter b) = node_then X after c r t is (lettered names t.place b) (lettered names t.place b) (λ s. letter_local names c s t is b)
  raw_by_local names c r t is kind.Word = scalar_local names c r t is
  raw_by_local names c r t is (kind.Number n) = scalar_local names c r t is
  raw_by_local names c r t is (kind.Sign z) = scalar_local names c r t is
  raw_by_local names c r t is kind.End = scalar_local names c r t is

  pub raw_local : (names : NameTable) → Local X (raw_atom names) (raw_atom names)
  unfolding raw_atom
  raw_local names = token_local X (λ t. raw_by names t t.kind) (λ t. raw_by names t t.kind) (λ c r t is. raw_by_local names c r t is t.kind)

-- ---- chains

chain_turn : {A : Type 0} → Parser A → Sign → (A → A → A) → A → Parser (A ⊎ A)
chain_turn item z join left = goes_on z >>= (λ more. if more then (item >>= (λ right. pure (inl (join left right)))) else pure (inr left))

chain_is : {A : Type 0} (item : Parser A) (z : Sign) (join : A → A → A) → Turns (chain_turn item z join) (chain_on item z join)
unfolding chain_on turns_on chain_turn
chain_is item z join zero left i = refl
chain_is {A} item z join (suc n) left i = by (λ left j. chain_is item z join n left j) (goes_on z i)
  where
    on : ((left : A) (j : Input) → chain_on item z join n left j ≡ turns_on (chain_turn item z join) n left j) → (o : Outcome A)
        → and_then o (λ right. chain_on item z join n (join left right)) ≡ and_then (and_then o (λ right. pure {A = A ⊎ A} (inl (join left right)))) (onwards (turns_on (chain_turn item z join) n))
    on same (Ok p) = same (join left p.0) p.1
    on same (Err e) = refl

    go : ((left : A) (j : Input) → chain_on item z join n left j ≡ turns_on (chain_turn item z join) n left j) → (b : Bool) (j : Input)
        → (if b then (item >>= (λ right. chain_on item z join n (join left right))) else pure left) j
        ≡ and_then ((if b then (item >>= (λ right. pure {A = A ⊎ A} (inl (join left right)))) else pure (inr left)) j) (onwards (turns_on (chain_turn item z join) n))
    go same true j = on same (item j)
    go same false j = refl

    by : ((left : A) (j : Input) → chain_on item z join n left j ≡ turns_on (chain_turn item z join) n left j) → (o : Outcome Bool)
        → and_then o (λ more. if more then (item >>= (λ right. chain_on item z join n (join left right))) else pure left)
        ≡ and_then (and_then o (λ more. if more then (item >>= (λ right. pure {A = A ⊎ A} (inl (join left right)))) else pure (inr left))) (onwards (turns_on (chain_turn item z join) n))
    by same (Ok p) = go same p.0 p.1
    by same (Err e) = refl

chain_spends : {A : Type 0} (item : Parser A) (z : Sign) (join : A → A → A) → Moves item → Spends (chain_turn item z join)
unfolding chain_turn
chain_spends {A} item z join moves left b i j h = bind_then (goes_on z i) _ (inl b, j) h by
  where
    by : (more : Bool) (k : Input) → goes_on z i ≡ Ok (more, k) → ◌≡◌ {A = Outcome (A ⊎ A)} ((if more then (item >>= (λ right. pure (inl (join left right)))) else pure (inr left)) k) (Ok (inl b, j)) → j.room < i.room
    by false k goes rest = let same = ap (λ (p : (A ⊎ A) × Input). p.0) (ok_same (inr left, k) (inl b, j) rest) in cc
    by true k goes rest = bind_then (item k) _ (inl b, j) rest (λ right l is last.
        let same = ap (λ (p : (A ⊎ A) × Input). p.1.room) (ok_same (inl (join left right), l) (inl b, j) last) in
        let spent = spends z i k goes in
        let less = no_rise item moves k l right is in
        omega (arith, same, spent, less))

chain_turn_local : {A : Type 0} (X : Type 0) (p q : Parser A) (z : Sign) (join : A → A → A) → Local X p q → (left : A) → Local X (chain_turn p z join left) (chain_turn q z join left)
unfolding chain_turn
chain_turn_local X p q z join same left = local_then X (goes_on z) (goes_on z) (λ more. if more then (p >>= (λ right. pure (inl (join left right)))) else pure (inr left)) (λ more. if more then (q >>= (λ right. pure (inl (join left right)))) else pure (inr left))
    (local_goes X z) (λ more. by more)
  where
    by : (b : Bool) → Local X (if b then (p >>= (λ right. pure (inl (join left right)))) else pure (inr left)) (if b then (q >>= (λ right. pure (inl (join left right)))) else pure (inr left))
    by true = local_made X p q (λ right. inl (join left right)) same
    by false = local_pure X (inr left)

chain_local : {A : Type 0} (X : Type 0) (p q : Parser A) (z : Sign) (join : A → A → A) → Local X p q → Moves p → Moves q → Local X (chain p z join) (chain q z join)
unfolding chain
chain_local X p q z join same mp mq =
    local_then X p q (λ left i. chain_on p z join (i.room + 1) left i) (λ left i. chain_on q z join (i.room + 1) left i) same (λ left.
    loop_local X (chain_turn p z join) (chain_turn q z join) (chain_on p z join) (chain_on q z join) (chain_is p z join) (chain_is q z join) (chain_spends p z join mp) (chain_spends q z join mq) (λ a. chain_turn_local X p q z join same a) left)

-- the turns of a chain are never spent
pub chain_free : {A : Type 0} (item : Parser A) (z : Sign) (join : A → A → A) → Moves item → (n : ℕ) (left : A) (i : Input) → i.room < n → chain_on item z join n left i ≡ chain_on item z join (i.room + 1) left i
chain_free item z join moves n left i less = loop_free (chain_turn item z join) (chain_on item z join) (chain_is item z join) (chain_spends item z join moves) n left i less

-- ---- arrows

arrows_turn : {T : Type 0} → Parser (Plain T) → List (Plain T) → Parser (List (Plain T) ⊎ Plain T)
arrows_turn item fs = item >>= (λ g. goes_on s.Arrow >>= (λ more. if more then pure (inl (fs ++ g ∷ [])) else pure (inr (implied fs g))))

arrows_is : {T : Type 0} (item : Parser (Plain T)) → Turns (arrows_turn item) (arrows_on item)
unfolding arrows_on turns_on arrows_turn
arrows_is item zero fs i = refl
arrows_is {T} item (suc n) fs i = by (λ fs j. arrows_is item n fs j) (item i)
  where
    go : ((fs : List (Plain T)) (j : Input) → arrows_on item n fs j ≡ turns_on (arrows_turn item) n fs j) → (g : Plain T) (b : Bool) (j : Input)
        → (if b then arrows_on item n (fs ++ g ∷ []) else pure (implied fs g)) j
        ≡ and_then ((if b then pure {A = List (Plain T) ⊎ Plain T} (inl (fs ++ g ∷ [])) else pure (inr (implied fs g))) j) (onwards (turns_on (arrows_turn item) n))
    go same g true j = same (fs ++ g ∷ []) j
    go same g false j = refl

    on : ((fs : List (Plain T)) (j : Input) → arrows_on item n fs j ≡ turns_on (arrows_turn item) n fs j) → (g : Plain T) (o : Outcome Bool)
        → and_then o (λ more. if more then arrows_on item n (fs ++ g ∷ []) else pure (implied fs g))
        ≡ and_then (and_then o (λ more. if more then pure {A = List (Plain T) ⊎ Plain T} (inl (fs ++ g ∷ [])) else pure (inr (implied fs g)))) (onwards (turns_on (arrows_turn item) n))
    on same g (Ok p) = go same g p.0 p.1
    on same g (Err e) = refl

    by : ((fs : List (Plain T)) (j : Input) → arrows_on item n fs j ≡ turns_on (arrows_turn item) n fs j) → (o : Outcome (Plain T))
        → and_then o (λ g. goes_on s.Arrow >>= (λ more. if more then arrows_on item n (fs ++ g ∷ []) else pure (implied fs g)))
        ≡ and_then (and_then o (λ g. goes_on s.Arrow >>= (λ more. if more then pure {A = List (Plain T) ⊎ Plain T} (inl (fs ++ g ∷ [])) else pure (inr (implied fs g))))) (onwards (turns_on (arrows_turn item) n))
    by same (Ok p) = on same p.0 (goes_on s.Arrow p.1)
    by same (Err e) = refl

arrows_spends : {T : Type 0} (item : Parser (Plain T)) → Moves item → Spends (arrows_turn item)
unfolding arrows_turn
arrows_spends {T} item moves fs b i j h =
    bind_then (item i) _ (inl b, j) h (λ g k is rest. bind_then (goes_on s.Arrow k) _ (inl b, j) rest (by g k (no_rise item moves i k g is)))
  where
    by : (g : Plain T) (k : Input) → k.room ≤ i.room → (more : Bool) (l : Input) → goes_on s.Arrow k ≡ Ok (more, l)
        → ◌≡◌ {A = Outcome (List (Plain T) ⊎ Plain T)} ((if more then pure (inl (fs ++ g ∷ [])) else pure (inr (implied fs g))) l) (Ok (inl b, j)) → j.room < i.room
    by g k less false l goes last = let same = ap (λ (p : (List (Plain T) ⊎ Plain T) × Input). p.0) (ok_same (inr (implied fs g), l) (inl b, j) last) in cc
    by g k less true l goes last =
        let same = ap (λ (p : (List (Plain T) ⊎ Plain T) × Input). p.1.room) (ok_same (inl (fs ++ g ∷ []), l) (inl b, j) last) in
        let spent = spends s.Arrow k l goes in
        omega (arith, same, spent, less)

arrows_turn_local : {T : Type 0} (X : Type 0) (p q : Parser (Plain T)) → Local X p q → (fs : List (Plain T)) → Local X (arrows_turn p fs) (arrows_turn q fs)
unfolding arrows_turn
arrows_turn_local {T} X p q same fs =
    local_then X p q (λ g. goes_on s.Arrow >>= (λ more. if more then pure (inl (fs ++ g ∷ [])) else pure (inr (implied fs g)))) (λ g. goes_on s.Arrow >>= (λ more. if more then pure (inl (fs ++ g ∷ [])) else pure (inr (implied fs g)))) same (λ g.
    local_then X (goes_on s.Arrow) (goes_on s.Arrow) (λ more. if more then pure (inl (fs ++ g ∷ [])) else pure (inr (implied fs g))) (λ more. if more then pure (inl (fs ++ g ∷ [])) else pure (inr (implied fs g))) (local_goes X s.Arrow) (λ more. by g more))
  where
    by : (g : Plain T) (b : Bool) → Local {A = List (Plain T) ⊎ Plain T} X (if b then pure (inl (fs ++ g ∷ [])) else pure (inr (implied fs g))) (if b then pure (inl (fs ++ g ∷ [])) else pure (inr (implied fs g)))
    by g true = local_pure X (inl (fs ++ g ∷ []))
    by g false = local_pure X (inr (implied fs g))

-- the turns of arrows are never spent
pub arrows_free : {T : Type 0} (item : Parser (Plain T)) → Moves item → (n : ℕ) (fs : List (Plain T)) (i : Input) → i.room < n → arrows_on item n fs i ≡ arrows_on item (i.room + 1) fs i
arrows_free item moves n fs i less = loop_free (arrows_turn item) (arrows_on item) (arrows_is item) (arrows_spends item moves) n fs i less

formula_of_local : {T : Type 0} (X : Type 0) (p q : Parser (Plain T)) → Local X p q → Moves p → Moves q → Local X (formula_of p) (formula_of q)
unfolding formula_of arrows disjunction conjunction
formula_of_local X p q same mp mq =
    let parts = chain_local X (conjunction p) (conjunction q) s.Or either (chain_local X p q s.And both same mp mq) (conjunction_moves p mp) (conjunction_moves q mq) in
    loop_local X (arrows_turn (disjunction p)) (arrows_turn (disjunction q)) (arrows_on (disjunction p)) (arrows_on (disjunction q)) (arrows_is (disjunction p)) (arrows_is (disjunction q))
    (arrows_spends (disjunction p) (disjunction_moves p mp)) (arrows_spends (disjunction q) (disjunction_moves q mq)) (λ fs. arrows_turn_local X (disjunction p) (disjunction q) parts fs) []

-- ---- operands

abbrev BelowLocal : {T : Type 0} → Type 0 → Option (Parser (Plain T)) → Option (Parser (Plain T)) → Type 0
BelowLocal X None None = Unit {0}
BelowLocal X None (Some q) = X
BelowLocal X (Some p) None = ⊥
BelowLocal X (Some p) (Some q) = Local X p q × Moves p × Moves q

deeper_local : {T : Type 0} (X : Type 0) (a b : Option (Parser (Plain T))) (f : Parser (Plain T) → Parser (Plain T)) → BelowLocal X a b → ((p q : Parser (Plain T)) → Local X p q → Moves p → Moves q → Local X (f p) (f q))
    → (c : Cursor) (r : ℕ) (t : Lexeme) → token c ≡ Ok t → Same X c r (deeper t.place a f (at (after c) r)) (λ d s. deeper t.place b f (at (after d) s))
deeper_local {T} X None None f below on c r t is = refused X (Plain T) c r t TooDeep is
deeper_local {T} X None (Some q) f below on c r t is = limited X (Plain T) below c r t TooDeep is (t.place, inr refl) (λ d s. f q (at (after d) s))
deeper_local X (Some p) None f below on c r t is = absurd below
deeper_local X (Some p) (Some q) f below on c r t is = taken X (f p) (f q) (on p q below.0 below.1 below.2) c r

negated_local : {T : Type 0} (X : Type 0) (p q : Parser (Plain T)) → Local X p q → Moves p → Moves q → Local X (negated p) (negated q)
negated_local X p q same mp mq = local_made X p q (λ f. neg f) same

bracketed_local : {T : Type 0} (X : Type 0) (p q : Parser (Plain T)) → Local X p q → Moves p → Moves q → Local X (bracketed p) (bracketed q)
bracketed_local X p q same mp mq =
    local_then X (formula_of p) (formula_of q) (λ f. expect s.Close >> pure f) (λ f. expect s.Close >> pure f) (formula_of_local X p q same mp mq) (λ f. local_closed X s.Close f)

operand_local : {T : Type 0} (X : Type 0) (read : Parser T) → Local X read read → (a b : Option (Parser (Plain T))) → BelowLocal X a b → Local X (operand read a) (operand read b)
unfolding operand
operand_local {T} X read same a b below = peek_local X (λ t. operand_by read a (start t) t.place) (λ t. operand_by read b (start t) t.place) (λ c r t is. by c r t is (start t))
  where
    by : (c : Cursor) (r : ℕ) (t : Lexeme) → token c ≡ Ok t → (o : Opening) → Same X c r (operand_by read a o t.place (at c r)) (λ d s. operand_by read b o t.place (at d s))
    by c r t is Negation = counted_then X c r t is (deeper t.place a negated) (deeper t.place b negated) (λ s. deeper_local X a b negated below (negated_local X) c s t is)
    by c r t is Bracket = next_then X (deeper t.place a bracketed) (deeper t.place b bracketed) c r (deeper_local X a b bracketed below (bracketed_local X) c r t is)
    by c r t is (Constant v) = counted_then X c r t is (pure (truth {T = T} v)) (pure (truth {T = T} v)) (λ s. taken X (pure (truth {T = T} v)) (pure (truth {T = T} v)) (local_pure X (truth {T = T} v)) c s)
    by c r t is Atom = local_made X read read (λ a. atom a) same c r

unary_local : {T : Type 0} (X : Type 0) (read : Parser T) → Local X read read → Moves read → (n m : ℕ) → Grown X n m → Local X (unary read n) (unary read m)
unfolding unary
unary_local X read same moves zero zero grown = operand_local X read same None None tt
unary_local X read same moves zero (suc m) (inl equal) = absurd (omega (arith, equal))
unary_local X read same moves zero (suc m) (inr more) = operand_local X read same None (Some (unary read m)) more.0
unary_local X read same moves (suc n) zero grown = absurd (let less = grown_less X (suc n) zero grown in omega (arith, less))
unary_local X read same moves (suc n) (suc m) grown =
    operand_local X read same (Some (unary read n)) (Some (unary read m)) (unary_local X read same moves n m (fewer grown), unary_moves read moves n, unary_moves read moves m)
  where
    fewer : Grown X (suc n) (suc m) → Grown X n m
    fewer (inl equal) = inl (omega (arith, equal))
    fewer (inr more) = let less = more.1 in inr (more.0, omega (arith, less))

-- ---- whole formulas of assertions

pub formula_local : (X : Type 0) (names : NameTable) (n m : ℕ) → Grown X n m → Local X (formula (raw_atom names) n) (formula (raw_atom names) m)
formula_local X names n m grown =
    formula_of_local X (unary (raw_atom names) n) (unary (raw_atom names) m) (unary_local X (raw_atom names) (raw_local X names) (raw_moves names) n m grown)
    (unary_moves (raw_atom names) (raw_moves names) n) (unary_moves (raw_atom names) (raw_moves names) m)
