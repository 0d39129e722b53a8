-- The same of the readers of formulas. None of their turns is spent before the room for nodes is.
use Rattle.std.proofs.Common.{◌≡◌, ℕ, zero, suc, ◌+◌, ◌<◌, ◌≤◌, Bool, true, false, Ok, Some, None, List, [], ◌∷◌, ◌++◌, refl, sym, subst, arith}
use Rattle.std.specs.Prelude.{if◌then◌else◌, Option}
use Rattle.pg_lex.specs.declared.token.Sign.{Sign}
use Rattle.pg_lex.specs.declared.token.Sign.TheVariants as s
use Rattle.pg_lex.specs.declared.fault.TextKind.TheVariants.{TooDeep}
use Rattle.pg_lex.specs.Lex.{Cursor, Lexeme, token}
use Rattle.pg_assertion.specs.Formula.{Plain, atom, neg, both, either}
use Rattle.pg_assertion_text.specs.declared.formula.Opening.{Opening}
use Rattle.pg_assertion_text.specs.declared.formula.Opening.TheVariants.{Negation, Bracket, Constant, Atom}
use Rattle.pg_assertion_text.specs.Input.{Input, Parser, and_then, ◌>>=◌, ◌>>◌, pure, peek, next, node, goes_on, expect}
use Rattle.pg_assertion_text.specs.Reading.{chain_on, chain, implied, arrows_on, arrows, conjunction, disjunction, formula_of, start, truth, deeper, negated, bracketed, operand_by, operand, unary}
use Rattle.pg_program.specs.NameTable.{empty_table}
use Rattle.pg_assertion_text.proofs.Steps.{peek_found, goes_on_found}
use Rattle.pg_assertion_text.proofs.Moves.{Later, Past, Moves, shift, bind_at, bind_moves, moves_then, moves_pure, peek_moves, next_moves, refused_at, node_at, goes_on_moves, expect_moves}

-- a sign that is taken is a node
pub spends : (z : Sign) (i j : Input) → goes_on z i ≡ Ok (true, j) → i.room ≡ j.room + 1
spends z i j h = (goes_on_found (empty_table 0 1) z i j h).room

pub chain_on_moves : {A : Type 0} (item : Parser A) (z : Sign) (join : A → A → A) → Moves item → (n : ℕ) (left : A) (i : Input) → i.room < n → Past 0 i.cursor i.room (chain_on item z join n left i)
unfolding chain_on
chain_on_moves item z join moves zero left i turns = absurd (omega arith)
chain_on_moves {A} item z join moves (suc n) left i turns =
    bind_at 0 i.cursor i.room (goes_on z i) (λ more. if more then (λ u. and_then (item u) (λ right. chain_on item z join n (join left right))) else pure left) (goes_on_moves z i) (by (λ left j less. chain_on_moves item z join moves n left j less))
  where
    by : ((left : A) (j : Input) → j.room < n → Past 0 j.cursor j.room (chain_on item z join n left j))
        → (b : Bool) (j : Input) → goes_on z i ≡ Ok (b, j) → Later 0 i.cursor i.room j
        → Past 0 i.cursor i.room ((if b then (λ u. and_then (item u) (λ right. chain_on item z join n (join left right))) else pure left) j)
    by behind false j goes later = later
    by behind true j goes later =
        let spent = spends z i j goes in
        shift 0 0 i.cursor i.room later.k j.cursor j.room (and_then (item j) (λ right. chain_on item z join n (join left right))) later.is (omega arith) later.room
        (bind_at 0 j.cursor j.room (item j) (λ right. chain_on item z join n (join left right)) (moves j) (λ right l is l2.
        let l2room = l2.room in
        shift 0 0 j.cursor j.room l2.k l.cursor l.room (chain_on item z join n (join left right) l) l2.is (omega arith) l2.room (behind (join left right) l (omega (arith, spent)))))

-- a chain whose first part is so far on
pub chain_past : {A : Type 0} (item : Parser A) (z : Sign) (join : A → A → A) → Moves item → (m : ℕ) (i : Input) → Past m i.cursor i.room (item i) → Past m i.cursor i.room (chain item z join i)
unfolding chain
chain_past item z join moves m i past = bind_moves m i.cursor i.room (item i) (λ left i. chain_on item z join (i.room + 1) left i) past (λ left i. chain_on_moves item z join moves (i.room + 1) left i (omega arith))

pub chain_moves : {A : Type 0} (item : Parser A) (z : Sign) (join : A → A → A) → Moves item → Moves (chain item z join)
chain_moves item z join moves i = chain_past item z join moves 0 i (moves i)

pub conjunction_moves : {T : Type 0} (u : Parser (Plain T)) → Moves u → Moves (conjunction u)
unfolding conjunction
conjunction_moves u moves = chain_moves u s.And both moves

pub disjunction_moves : {T : Type 0} (u : Parser (Plain T)) → Moves u → Moves (disjunction u)
unfolding disjunction
disjunction_moves u moves = chain_moves (conjunction u) s.Or either (conjunction_moves u moves)

-- behind a part, where the turns behind it are known
arrows_tail : {T : Type 0} (item : Parser (Plain T)) (n : ℕ) (fs : List (Plain T)) → ((fs : List (Plain T)) (j : Input) → j.room < n → Past 0 j.cursor j.room (arrows_on item n fs j))
    → (g : Plain T) (j : Input) → j.room ≤ n → Past 0 j.cursor j.room (and_then (goes_on s.Arrow j) (λ more. if more then arrows_on item n (fs ++ g ∷ []) else pure (implied fs g)))
arrows_tail item n fs behind g j most =
    bind_at 0 j.cursor j.room (goes_on s.Arrow j) (λ more. if more then arrows_on item n (fs ++ g ∷ []) else pure (implied fs g)) (goes_on_moves s.Arrow j) by
  where
    by : (b : Bool) (k : Input) → goes_on s.Arrow j ≡ Ok (b, k) → Later 0 j.cursor j.room k
        → Past 0 j.cursor j.room ((if b then arrows_on item n (fs ++ g ∷ []) else pure (implied fs g)) k)
    by false k goes later = later
    by true k goes later =
        let spent = spends s.Arrow j k goes in
        shift 0 0 j.cursor j.room later.k k.cursor k.room (arrows_on item n (fs ++ g ∷ []) k) later.is (omega arith) later.room (behind (fs ++ g ∷ []) k (omega (arith, spent)))

-- one turn, whose part is so far on
arrows_turn : {T : Type 0} (item : Parser (Plain T)) (n : ℕ) (fs : List (Plain T)) → ((fs : List (Plain T)) (j : Input) → j.room < n → Past 0 j.cursor j.room (arrows_on item n fs j))
    → (m : ℕ) (i : Input) → i.room ≤ n → Past m i.cursor i.room (item i) → Past m i.cursor i.room (arrows_on item (suc n) fs i)
unfolding arrows_on
arrows_turn item n fs behind m i turns past =
    bind_at m i.cursor i.room (item i) (λ g. goes_on s.Arrow >>= (λ more. if more then arrows_on item n (fs ++ g ∷ []) else pure (implied fs g))) past (λ g j is later.
    let lr = later.room in let far = later.far in
    shift m 0 i.cursor i.room later.k j.cursor j.room (and_then (goes_on s.Arrow j) (λ more. if more then arrows_on item n (fs ++ g ∷ []) else pure (implied fs g))) later.is (omega arith) later.room
    (arrows_tail item n fs behind g j (omega arith)))

pub arrows_on_moves : {T : Type 0} (item : Parser (Plain T)) → Moves item → (n : ℕ) (fs : List (Plain T)) (i : Input) → i.room < n → Past 0 i.cursor i.room (arrows_on item n fs i)
arrows_on_moves item moves zero fs i turns = absurd (omega arith)
arrows_on_moves item moves (suc n) fs i turns = arrows_turn item n fs (λ fs j less. arrows_on_moves item moves n fs j less) 0 i (omega arith) (moves i)

pub arrows_on_past : {T : Type 0} (item : Parser (Plain T)) → Moves item → (n : ℕ) (fs : List (Plain T)) (m : ℕ) (i : Input) → i.room < n → Past m i.cursor i.room (item i) → Past m i.cursor i.room (arrows_on item n fs i)
arrows_on_past item moves zero fs m i turns past = absurd (omega arith)
arrows_on_past item moves (suc n) fs m i turns past = arrows_turn item n fs (λ fs j less. arrows_on_moves item moves n fs j less) m i (omega arith) past

pub formula_of_moves : {T : Type 0} (u : Parser (Plain T)) → Moves u → Moves (formula_of u)
unfolding formula_of arrows
formula_of_moves u moves i = arrows_on_moves (disjunction u) (disjunction_moves u moves) (i.room + 1) [] i (omega arith)

abbrev pub Below : {T : Type 0} → Option (Parser (Plain T)) → Type 0
Below None = Unit {0}
Below (Some u) = Moves u

deeper_at : {T : Type 0} (below : Option (Parser (Plain T))) (f : Parser (Plain T) → Parser (Plain T)) → Below below → ((u : Parser (Plain T)) → Moves u → Moves (f u))
    → (c : Cursor) (r : ℕ) (t : Lexeme) → token c ≡ Ok t → (j : Input) → Later 0 c r j → Past 0 c r (deeper t.place below f j)
deeper_at {T} None f moves on c r t read j later = refused_at (Plain T) c r t TooDeep read j
deeper_at (Some u) f moves on c r t read j later = shift 0 0 c r later.k j.cursor j.room (f u j) later.is (omega arith) later.room (on u moves j)

negated_moves : {T : Type 0} (u : Parser (Plain T)) → Moves u → Moves (negated u)
negated_moves u moves = moves_then u (λ f. pure (neg f)) moves (λ f. moves_pure (neg f))

bracketed_moves : {T : Type 0} (u : Parser (Plain T)) → Moves u → Moves (bracketed u)
bracketed_moves u moves = moves_then (formula_of u) (λ f. expect s.Close >> pure f) (formula_of_moves u moves) (λ f. moves_then (expect s.Close) (λ u. pure f) (expect_moves s.Close) (λ u. moves_pure f))

pub operand_moves : {T : Type 0} (read : Parser T) → Moves read → (below : Option (Parser (Plain T))) → Below below → Moves (operand read below)
unfolding operand
operand_moves {T} read atoms below moves i =
    bind_at 0 i.cursor i.room (peek i) (λ t. operand_by read below (start t) t.place) (peek_moves i) (λ t j is later.
    let found = peek_found i j t is in
    subst (λ q. Past 0 i.cursor i.room (operand_by read below (start t) t.place q)) (sym found.1) (by t found.0 (start t)))
  where
    here : Later 0 i.cursor i.room i
    here = record { k = 0; far = omega arith; is = refl; room = omega arith }

    by : (t : Lexeme) → token i.cursor ≡ Ok t → (o : Opening) → Past 0 i.cursor i.room (operand_by read below o t.place i)
    by t is Negation =
        bind_at 0 i.cursor i.room (and_then (node t.place i) (λ u. next)) (λ u. deeper t.place below negated)
        (bind_moves 0 i.cursor i.room (node t.place i) (λ u. next) (node_at i.cursor i.room t is i here) (λ u. next_moves))
        (λ u j e later. deeper_at below negated moves negated_moves i.cursor i.room t is j later)
    by t is Bracket =
        bind_at 0 i.cursor i.room (next i) (λ u. deeper t.place below bracketed) (next_moves i)
        (λ u j e later. deeper_at below bracketed moves bracketed_moves i.cursor i.room t is j later)
    by t is (Constant b) =
        bind_moves 0 i.cursor i.room (and_then (node t.place i) (λ u. next)) (λ u. pure (truth {T = T} b))
        (bind_moves 0 i.cursor i.room (node t.place i) (λ u. next) (node_at i.cursor i.room t is i here) (λ u. next_moves)) (λ u. moves_pure (truth {T = T} b))
    by t is Atom = bind_moves 0 i.cursor i.room (read i) (λ a. pure (atom a)) (atoms i) (λ a. moves_pure (atom a))

pub unary_moves : {T : Type 0} (read : Parser T) → Moves read → (n : ℕ) → Moves (unary read n)
unfolding unary
unary_moves read atoms zero = operand_moves read atoms None tt
unary_moves read atoms (suc n) = operand_moves read atoms (Some (unary read n)) (unary_moves read atoms n)
