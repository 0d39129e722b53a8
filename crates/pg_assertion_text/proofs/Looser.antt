-- With looser limits a reader does the same, unless its fault is that of a limit.
use Rattle.std.proofs.Common.{◌≡◌, ℕ, zero, suc, ◌+◌, ◌-◌, ◌<◌, ◌≤◌, ◌==◌, Bool, true, false, Ok, Err, Some, None, List, [], ◌∷◌, ◌++◌, refl, ap, sym, subst, arith, inl, inr}
use Rattle.std.specs.Prelude.{◌⊎◌, if◌then◌else◌, Option, Result}
use Rattle.std.proofs.lemmas.Bool.{eqb-true, eqb-false}
use Rattle.pg_lex.specs.declared.token.Sign.{Sign}
use Rattle.pg_lex.specs.declared.token.Sign.TheVariants as s
use Rattle.pg_lex.specs.declared.token.TokenKind.{TokenKind}
use Rattle.pg_lex.specs.declared.token.TokenKind.TheVariants as kind
use Rattle.pg_lex.specs.declared.fault.TextFault.{TextFault}
use Rattle.pg_lex.specs.declared.fault.TextFault.TheVariants.{At}
use Rattle.pg_lex.specs.declared.fault.TextKind.{TextKind}
use Rattle.pg_lex.specs.declared.fault.TextKind.TheVariants.{TooMany, Unexpected}
use Rattle.pg_lex.specs.Lex.{Cursor, Lexeme, token, after}
use Rattle.pg_program.specs.NameTable.{NameTable, empty_table}
use Rattle.pg_assertion.specs.Formula.{Plain, atom, neg, both, either}
use Rattle.pg_assertion.specs.declared.atom.RawAtom.{RawAtom}
use Rattle.pg_assertion.specs.declared.atom.RawAtom.TheVariants as raw
use Rattle.pg_assertion_text.specs.declared.formula.Opening.{Opening}
use Rattle.pg_assertion_text.specs.declared.formula.Opening.TheVariants.{Negation, Bracket, Constant, Atom}
use Rattle.pg_assertion_text.specs.Input as input
use Rattle.pg_assertion_text.specs.Input.{Input, Outcome, Parser, and_then, ◌>>=◌, ◌>>◌, pure, refuse, allowed, seen, peek, next, node, goes_on, expect, is_sign, named, number_in, location_in, scalar_in}
use Rattle.pg_assertion_text.specs.Atoms.{equals, cell, thread, last, read, two_reads, lettered, scalar_atom, raw_by, raw_atom}
use Rattle.pg_assertion_text.specs.Atoms as atoms
use Rattle.pg_assertion_text.specs.Reading.{chain_on, chain, implied, arrows_on, arrows, conjunction, disjunction, formula_of, start, truth, deeper, negated, bracketed, operand_by, operand, unary}
use Rattle.pg_assertion_text.proofs.Steps.{goes_on_found}
use Rattle.pg_assertion_text.specs.Agreement.{IsLimit}
use Rattle.pg_assertion_text.proofs.Complete.{at}
use Rattle.pg_assertion_text.proofs.Moves.{Moves, Past}
use Rattle.pg_assertion_text.proofs.MovesFormula.{conjunction_moves, disjunction_moves, unary_moves}

-- the same, with more room left
abbrev pub Loose : {A : Type 0} → Outcome A → Outcome A → Type 0
Loose (Ok p) o = (r : ℕ) × (p.1.room ≤ r) × (o ≡ Ok (p.0, at p.1.cursor r))
Loose (Err e) o = IsLimit e ⊎ (o ≡ Err e)

abbrev pub Looser : {A : Type 0} → Parser A → Parser A → Type 0
Looser p q = (c : Cursor) (r t : ℕ) → r ≤ t → Loose (p (at c r)) (q (at c t))

bind_loose : {A B : Type 0} (o q : Outcome A) (f g : A → Parser B) → Loose o q
    → ((a : A) (j : Input) (r : ℕ) → o ≡ Ok (a, j) → q ≡ Ok (a, at j.cursor r) → j.room ≤ r → Loose (f a j) (g a (at j.cursor r))) → Loose (and_then o f) (and_then q g)
bind_loose (Ok p) q f g l rest = subst (λ q. Loose (f p.0 p.1) (and_then q g)) (sym l.2) (rest p.0 p.1 l.0 refl l.2 l.1)
bind_loose (Err e) q f g (inl l) rest = inl l
bind_loose (Err e) q f g (inr l) rest = inr (ap (λ o. and_then o g) l)

pub loose_then : {A B : Type 0} (p q : Parser A) (f g : A → Parser B) → Looser p q → ((a : A) → Looser (f a) (g a)) → Looser (p >>= f) (q >>= g)
loose_then p q f g first rest c r t less = bind_loose (p (at c r)) (q (at c t)) f g (first c r t less) (λ a j u is also few. rest a j.cursor j.room u few)

pub loose_pure : {A : Type 0} (a : A) → Looser (pure a) (pure a)
loose_pure a c r t less = (t, less, refl)

loose_refuse : {A : Type 0} (p : ℕ) (w : TextKind) → Looser {A = A} (refuse p w) (refuse p w)
loose_refuse p w c r t less = inr refl

pub loose_allowed : {A : Type 0} (p : ℕ) (v : Result A TextKind) → Looser (allowed p v) (allowed p v)
loose_allowed p (Ok a) = loose_pure a
loose_allowed {A} p (Err w) = loose_refuse {A = A} p w

loose_seen : (c : Cursor) (r t : ℕ) (v : Result Lexeme TextFault) → r ≤ t → Loose (seen (at c r) v) (seen (at c t) v)
loose_seen c r t (Ok l) less = (t, less, refl)
loose_seen c r t (Err e) less = inr refl

loose_peek : Looser peek peek
unfolding peek
loose_peek c r t less = loose_seen c r t (token c) less

pub loose_next : Looser next next
unfolding next
loose_next c r t less = loose_seen (after c) r t (token c) less

pub loose_node : (p : ℕ) → Looser (node p) (node p)
unfolding node
loose_node p c r t less = by (r == 0) refl (t == 0) refl
  where
    by : (b : Bool) → r == 0 ≡ b → (d : Bool) → t == 0 ≡ d
        → Loose {A = Unit {0}} (if b then Err (At p TooMany) else Ok (tt, at c (r - 1))) (if d then Err (At p TooMany) else Ok (tt, at c (t - 1)))
    by true e d f = inl (p, inl refl)
    by false e true f = absurd (let a = eqb-false r 0 e in let b = eqb-true t 0 f in omega (arith, a, b))
    by false e false f = (t - 1, omega arith, refl)

loose_if : {A : Type 0} (b : Bool) (p p2 q q2 : Parser A) → Looser p p2 → Looser q q2 → Looser (if b then p else q) (if b then p2 else q2)
loose_if true p p2 q q2 first second = first
loose_if false p p2 q q2 first second = second

loose_expect : (z : Sign) → Looser (expect z) (expect z)
unfolding expect
loose_expect z = loose_then next next _ _ loose_next (λ t. loose_if (is_sign z t.kind) _ _ _ _ (loose_pure tt) (loose_refuse {A = Unit {0}} t.place Unexpected))

loose_number : Looser input.number input.number
unfolding input.number
loose_number = loose_then next next _ _ loose_next (λ t. loose_allowed t.place (number_in t.kind))

loose_location : (names : NameTable) → Looser (input.location names) (input.location names)
unfolding input.location
loose_location names = loose_then next next _ _ loose_next (λ t. loose_allowed t.place (location_in (named names t)))

loose_goes : (z : Sign) → Looser (goes_on z) (goes_on z)
unfolding goes_on
loose_goes z = loose_then peek peek _ _ loose_peek (λ t. loose_if (is_sign z t.kind) _ _ _ _
    (loose_then (node t.place >> next) (node t.place >> next) _ _ (loose_then (node t.place) (node t.place) _ _ (loose_node t.place) (λ u. loose_next)) (λ u. loose_pure true)) (loose_pure false))

-- ---- atoms

pub loose_equals : Looser equals equals
unfolding equals
loose_equals = loose_then (expect s.Equal) (expect s.Equal) _ _ (loose_expect s.Equal) (λ u. loose_number)

loose_comma : Looser (expect s.Comma >> input.number) (expect s.Comma >> input.number)
loose_comma = loose_then (expect s.Comma) (expect s.Comma) _ _ (loose_expect s.Comma) (λ u. loose_number)

loose_cell : (names : NameTable) → Looser (cell names) (cell names)
unfolding cell
loose_cell names = loose_then (input.location names) (input.location names) _ _ (loose_location names) (λ x. loose_then (expect s.Comma >> input.number) (expect s.Comma >> input.number) _ _ loose_comma (λ v. loose_pure {A = ℕ × ℕ} (x, v)))

loose_thread : Looser thread thread
unfolding thread
loose_thread = loose_then input.number input.number _ _ loose_number (λ t. loose_then (expect s.Comma) (expect s.Comma) _ _ (loose_expect s.Comma) (λ u. loose_pure t))

loose_closed : {A : Type 0} (a : A) → Looser (expect s.Close >> pure a) (expect s.Close >> pure a)
loose_closed a = loose_then (expect s.Close) (expect s.Close) _ _ (loose_expect s.Close) (λ u. loose_pure a)

loose_open : {A : Type 0} (p : Parser A) → Looser p p → Looser (expect s.Open >> p) (expect s.Open >> p)
loose_open p l = loose_then (expect s.Open) (expect s.Open) _ _ (loose_expect s.Open) (λ u. l)

loose_last : (names : NameTable) → Looser (last names) (last names)
unfolding last
loose_last names = loose_then (expect s.Open >> cell names) (expect s.Open >> cell names) _ _ (loose_open (cell names) (loose_cell names)) (λ c. loose_closed c)

loose_atom_seen : (names : NameTable) → Looser (atoms.seen names) (atoms.seen names)
unfolding atoms.seen
loose_atom_seen names = loose_then (expect s.Open >> thread) (expect s.Open >> thread) _ _ (loose_open thread loose_thread) (λ t.
    loose_then (input.location names) (input.location names) _ _ (loose_location names) (λ x. loose_closed {A = ℕ × ℕ} (t, x)))

loose_read : (names : NameTable) → Looser (read names) (read names)
unfolding read
loose_read names = loose_then (expect s.Open >> thread) (expect s.Open >> thread) _ _ (loose_open thread loose_thread) (λ t.
    loose_then (cell names) (cell names) _ _ (loose_cell names) (λ c. loose_closed {A = ℕ × (ℕ × ℕ)} (t, c)))

loose_two : (names : NameTable) → Looser (two_reads names) (two_reads names)
unfolding two_reads
loose_two names = loose_then (expect s.Open >> thread) (expect s.Open >> thread) _ _ (loose_open thread loose_thread) (λ t.
    loose_then (cell names) (cell names) _ _ (loose_cell names) (λ c.
    loose_then (expect s.Comma >> cell names) (expect s.Comma >> cell names) _ _ (loose_then (expect s.Comma) (expect s.Comma) _ _ (loose_expect s.Comma) (λ u. loose_cell names)) (λ d.
    loose_closed {A = ℕ × (ℕ × ℕ) × (ℕ × ℕ)} (t, c, d))))

loose_made : {A : Type 0} (p : Parser A) (make : A → RawAtom) → Looser p p → Looser (p >>= (λ a. pure (make a))) (p >>= (λ a. pure (make a)))
loose_made p make l = loose_then p p _ _ l (λ a. loose_pure (make a))

loose_lettered : (names : NameTable) (p b : ℕ) → Looser (lettered names p b) (lettered names p b)
loose_lettered names p b =
    loose_if (b == 76) _ _ _ _ (loose_made (last names) (λ c. raw.Last c.0 c.1) (loose_last names))
    (loose_if (b == 80) _ _ _ _ (loose_made (last names) (λ c. raw.Persist c.0 c.1) (loose_last names))
    (loose_if (b == 82) _ _ _ _ (loose_made (read names) (λ a. raw.Read a.0 a.1.0 a.1.1) (loose_read names))
    (loose_if (b == 65) _ _ _ _ (loose_made (read names) (λ a. raw.Async a.0 a.1.0 a.1.1) (loose_read names))
    (loose_if (b == 67) _ _ _ _ (loose_made (two_reads names) (λ a. raw.Then a.0 a.1.0 a.1.1 a.2.0 a.2.1) (loose_two names))
    (loose_if (b == 78) _ _ _ _ (loose_made (atoms.seen names) (λ a. raw.Newest a.0 a.1) (loose_atom_seen names))
    (loose_if (b == 79) _ _ _ _ (loose_made (atoms.seen names) (λ a. raw.Ordered a.0 a.1) (loose_atom_seen names))
    (loose_if (b == 70) _ _ _ _ (loose_made (atoms.seen names) (λ a. raw.Fenced a.0 a.1) (loose_atom_seen names)) (loose_refuse {A = RawAtom} p Unexpected))))))))

loose_scalar : (names : NameTable) (t : Lexeme) → Looser (scalar_atom names t) (scalar_atom names t)
loose_scalar names t = loose_then (allowed t.place (scalar_in (named names t))) (allowed t.place (scalar_in (named names t))) _ _ (loose_allowed t.place (scalar_in (named names t))) (λ r.
    loose_then (node t.place >> equals) (node t.place >> equals) _ _ (loose_then (node t.place) (node t.place) _ _ (loose_node t.place) (λ u. loose_equals)) (λ k. loose_pure (raw.Scalar r k)))

loose_by : (names : NameTable) (t : Lexeme) (k : TokenKind) → Looser (raw_by names t k) (raw_by names t k)
loose_by names t (kind.Letter b) = loose_then (node t.place) (node t.place) _ _ (loose_node t.place) (λ u. loose_lettered names t.place b)
loose_by names t kind.Word = loose_scalar names t
loose_by names t (kind.Number n) = loose_scalar names t
loose_by names t (kind.Sign z) = loose_scalar names t
loose_by names t kind.End = loose_scalar names t

pub loose_raw : (names : NameTable) → Looser (raw_atom names) (raw_atom names)
unfolding raw_atom
loose_raw names = loose_then next next _ _ loose_next (λ t. loose_by names t t.kind)

-- ---- formulas

pub spends : (z : Sign) (i j : Input) → goes_on z i ≡ Ok (true, j) → i.room ≡ j.room + 1
spends z i j h = (goes_on_found (empty_table 0 1) z i j h).room

pub no_rise : {A : Type 0} (p : Parser A) → Moves p → (i j : Input) (a : A) → p i ≡ Ok (a, j) → j.room ≤ i.room
no_rise p moves i j a h = (subst (λ o. Past 0 i.cursor i.room o) h (moves i)).room

chain_on_loose : {A : Type 0} (p q : Parser A) (z : Sign) (join : A → A → A) → Looser p q → Moves p → Moves q → (m n : ℕ) (left : A) (c : Cursor) (r t : ℕ) → r ≤ t → r < m → t < n
    → Loose (chain_on p z join m left (at c r)) (chain_on q z join n left (at c t))
unfolding chain_on
chain_on_loose p q z join l mp mq zero n left c r t less few many = absurd (omega arith)
chain_on_loose p q z join l mp mq (suc m) zero left c r t less few many = absurd (omega arith)
chain_on_loose {A} p q z join l mp mq (suc m) (suc n) left c r t less few many =
    bind_loose (goes_on z (at c r)) (goes_on z (at c t)) _ _ (loose_goes z c r t less) (by (λ left c r t less few many. chain_on_loose p q z join l mp mq m n left c r t less few many))
  where
    by : ((left : A) (c : Cursor) (r t : ℕ) → r ≤ t → r < m → t < n → Loose (chain_on p z join m left (at c r)) (chain_on q z join n left (at c t)))
        → (b : Bool) (j : Input) (u : ℕ) → goes_on z (at c r) ≡ Ok (b, j) → goes_on z (at c t) ≡ Ok (b, at j.cursor u) → j.room ≤ u
        → Loose ((if b then (λ u. and_then (p u) (λ right. chain_on p z join m (join left right))) else pure left) j) ((if b then (λ u. and_then (q u) (λ right. chain_on q z join n (join left right))) else pure left) (at j.cursor u))
    by more false j u one two most = (u, most, refl)
    by more true j u one two most =
        let sp = spends z (at c r) j one in let sq = spends z (at c t) (at j.cursor u) two in
        bind_loose (p j) (q (at j.cursor u)) _ _ (l j.cursor j.room u most) (λ right v w is also few2.
        let a = no_rise p mp j v right is in let b = no_rise q mq (at j.cursor u) (at v.cursor w) right also in
        more (join left right) v.cursor v.room w few2 (omega (arith, sp, a, few)) (omega (arith, sq, b, many)))

chain_loose : {A : Type 0} (p q : Parser A) (z : Sign) (join : A → A → A) → Looser p q → Moves p → Moves q → Looser (chain p z join) (chain q z join)
unfolding chain
chain_loose p q z join l mp mq = loose_then p q _ _ l (λ left c r t less. chain_on_loose p q z join l mp mq (r + 1) (t + 1) left c r t less (omega arith) (omega arith))

arrows_on_loose : {T : Type 0} (p q : Parser (Plain T)) → Looser p q → Moves p → Moves q → (m n : ℕ) (fs : List (Plain T)) (c : Cursor) (r t : ℕ) → r ≤ t → r < m → t < n
    → Loose (arrows_on p m fs (at c r)) (arrows_on q n fs (at c t))
unfolding arrows_on
arrows_on_loose p q l mp mq zero n fs c r t less few many = absurd (omega arith)
arrows_on_loose p q l mp mq (suc m) zero fs c r t less few many = absurd (omega arith)
arrows_on_loose {T} p q l mp mq (suc m) (suc n) fs c r t less few many =
    bind_loose (p (at c r)) (q (at c t)) _ _ (l c r t less) (λ f j u is also most.
    let a = no_rise p mp (at c r) j f is in let b = no_rise q mq (at c t) (at j.cursor u) f also in
    bind_loose (goes_on s.Arrow j) (goes_on s.Arrow (at j.cursor u)) _ _ (loose_goes s.Arrow j.cursor j.room u most)
    (by f j u (omega (arith, a, few)) (omega (arith, b, many)) (λ fs c r t less few many. arrows_on_loose p q l mp mq m n fs c r t less few many)))
  where
    by : (f : Plain T) (j : Input) (u : ℕ) → j.room ≤ m → u ≤ n
        → ((fs : List (Plain T)) (c : Cursor) (r t : ℕ) → r ≤ t → r < m → t < n → Loose (arrows_on p m fs (at c r)) (arrows_on q n fs (at c t)))
        → (b : Bool) (k : Input) (v : ℕ) → goes_on s.Arrow j ≡ Ok (b, k) → goes_on s.Arrow (at j.cursor u) ≡ Ok (b, at k.cursor v) → k.room ≤ v
        → Loose ((if b then arrows_on p m (fs ++ f ∷ []) else pure (implied fs f)) k) ((if b then arrows_on q n (fs ++ f ∷ []) else pure (implied fs f)) (at k.cursor v))
    by f j u few many more false k v one two most = (v, most, refl)
    by f j u few many more true k v one two most =
        let sp = spends s.Arrow j k one in let sq = spends s.Arrow (at j.cursor u) (at k.cursor v) two in
        more (fs ++ f ∷ []) k.cursor k.room v most (omega (arith, sp, few)) (omega (arith, sq, many))

formula_of_loose : {T : Type 0} (p q : Parser (Plain T)) → Looser p q → Moves p → Moves q → Looser (formula_of p) (formula_of q)
unfolding formula_of arrows disjunction conjunction
formula_of_loose p q l mp mq c r t less =
    arrows_on_loose (disjunction p) (disjunction q)
    (chain_loose (conjunction p) (conjunction q) s.Or either (chain_loose p q s.And both l mp mq) (conjunction_moves p mp) (conjunction_moves q mq))
    (disjunction_moves p mp) (disjunction_moves q mq) (r + 1) (t + 1) [] c r t less (omega arith) (omega arith)

abbrev BelowLoose : {T : Type 0} → Option (Parser (Plain T)) → Option (Parser (Plain T)) → Type 0
BelowLoose None q = Unit {0}
BelowLoose (Some p) None = ⊥
BelowLoose (Some p) (Some q) = Looser p q × Moves p × Moves q

deeper_loose : {T : Type 0} (p : ℕ) (a b : Option (Parser (Plain T))) (f : Parser (Plain T) → Parser (Plain T)) → BelowLoose a b → ((u v : Parser (Plain T)) → Looser u v → Moves u → Moves v → Looser (f u) (f v))
    → Looser (deeper p a f) (deeper p b f)
deeper_loose p None b f l on c r t less = inl (p, inr refl)
deeper_loose p (Some u) None f l on c r t less = absurd l
deeper_loose p (Some u) (Some v) f l on c r t less = on u v l.0 l.1 l.2 c r t less

negated_loose : {T : Type 0} (u v : Parser (Plain T)) → Looser u v → Moves u → Moves v → Looser (negated u) (negated v)
negated_loose u v l mu mv = loose_then u v _ _ l (λ f. loose_pure (neg f))

bracketed_loose : {T : Type 0} (u v : Parser (Plain T)) → Looser u v → Moves u → Moves v → Looser (bracketed u) (bracketed v)
bracketed_loose u v l mu mv = loose_then (formula_of u) (formula_of v) _ _ (formula_of_loose u v l mu mv) (λ f. loose_then (expect s.Close) (expect s.Close) _ _ (loose_expect s.Close) (λ w. loose_pure f))

operand_loose : {T : Type 0} (read : Parser T) → Looser read read → (a b : Option (Parser (Plain T))) → BelowLoose a b → Looser (operand read a) (operand read b)
unfolding operand
operand_loose {T} read l a b below = loose_then peek peek _ _ loose_peek (λ t. by t (start t))
  where
    taken : (t : Lexeme) → Looser (node t.place >> next) (node t.place >> next)
    taken t = loose_then (node t.place) (node t.place) _ _ (loose_node t.place) (λ u. loose_next)

    by : (t : Lexeme) (o : Opening) → Looser (operand_by read a o t.place) (operand_by read b o t.place)
    by t Negation = loose_then (node t.place >> next) (node t.place >> next) _ _ (taken t) (λ w. deeper_loose t.place a b negated below negated_loose)
    by t Bracket = loose_then next next _ _ loose_next (λ w. deeper_loose t.place a b bracketed below bracketed_loose)
    by t (Constant v) = loose_then (node t.place >> next) (node t.place >> next) _ _ (taken t) (λ w. loose_pure (truth {T = T} v))
    by t Atom = loose_then read read _ _ l (λ a. loose_pure (atom a))

unary_loose : {T : Type 0} (read : Parser T) → Looser read read → Moves read → (n m : ℕ) → n ≤ m → Looser (unary read n) (unary read m)
unfolding unary
unary_loose read l moves zero zero less = operand_loose read l None None tt
unary_loose read l moves zero (suc m) less = operand_loose read l None (Some (unary read m)) tt
unary_loose read l moves (suc n) zero less = absurd (omega arith)
unary_loose read l moves (suc n) (suc m) less =
    operand_loose read l (Some (unary read n)) (Some (unary read m)) (unary_loose read l moves n m (omega arith), unary_moves read moves n, unary_moves read moves m)

-- a fault that is not of a limit is the same with looser limits
pub formula_loose : {T : Type 0} (read : Parser T) → Looser read read → Moves read → (n m : ℕ) → n ≤ m → (c : Cursor) (r t : ℕ) → r ≤ t → (e : TextFault) → formula_of (unary read n) (at c r) ≡ Err e → (IsLimit e → ⊥)
    → formula_of (unary read m) (at c t) ≡ Err e
formula_loose read l moves n m deep c r t less e is free =
    by (subst (λ o. Loose o (formula_of (unary read m) (at c t))) is (formula_of_loose (unary read n) (unary read m) (unary_loose read l moves n m deep) (unary_moves read moves n) (unary_moves read moves m) c r t less))
  where
    by : IsLimit e ⊎ (formula_of (unary read m) (at c t) ≡ Err e) → formula_of (unary read m) (at c t) ≡ Err e
    by (inl l) = absurd (free l)
    by (inr same) = same
