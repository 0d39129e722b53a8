-- What is in the grammar is read, where room for its nodes is left and no token goes on with it.
use Rattle.std.proofs.Common.{◌≡◌, ℕ, zero, suc, ◌+◌, ◌-◌, ◌<◌, ◌≤◌, Bool, true, false, Ok, Some, None, List, [], ◌∷◌, ◌++◌, refl, ap, ◌∙◌, subst, arith}
use Rattle.std.specs.Prelude.{if◌then◌else◌, Option, codes}
use Rattle.pg_lex.specs.declared.token.Sign.{Sign}
use Rattle.pg_lex.specs.declared.token.Sign.TheVariants as s
use Rattle.pg_lex.specs.Lex.{Cursor, Lexeme, token}
use Rattle.pg_program.specs.NameTable.{NameTable}
use Rattle.pg_assertion.specs.Formula.{Plain, atom, neg, both, either, implies, nodes}
use Rattle.pg_assertion_text.specs.declared.formula.Opening.{Opening}
use Rattle.pg_assertion_text.specs.declared.formula.Opening.TheVariants.{Negation, Bracket, Constant, Atom}
use Rattle.pg_assertion_text.specs.Words.{Item, Stands, sign, word, same_sign}
use Rattle.pg_assertion_text.specs.Input.{Input, Parser, and_then, pure, peek, next, node, goes_on, expect, is_sign}
use Rattle.pg_assertion_text.specs.Reading.{chain_on, chain, implied, arrows_on, arrows, conjunction, disjunction, formula_of, start, truth, negated, bracketed, operand_by, operand, unary}
use Rattle.pg_assertion_text.specs.Grammar.{Rule, Is, a_true, a_false, an_atom, a_not, a_bracket, a_conj, an_and, a_disj, an_or, a_formula, an_implies}
use Rattle.pg_assertion_text.specs.Grammar as g
use Rattle.pg_assertion_text.specs.Follows.{Leaves, Stops}
use Rattle.pg_assertion_text.specs.Laws.{BeginsAtom}
use Rattle.pg_assertion_text.proofs.Steps.{bind_value, peek_reads, stands_token, node_reads, expect_reads, goes_on_reads, goes_on_leaves}
use Rattle.pg_assertion_text.proofs.Chains.{implied-append}
use Rattle.pg_assertion_text.proofs.Begins.{negation_begins, bracket_begins, true_begins, false_begins}

abbrev pub at : Cursor → ℕ → Input
at c r = record { cursor = c; room = r }

-- ---- chains

chain_done : {A : Type 0} (item : Parser A) (z : Sign) (join : A → A → A) (n : ℕ) (left : A) (i : Input) → Leaves z i.cursor → chain_on item z join (suc n) left i ≡ Ok (left, i)
unfolding chain_on
chain_done item z join n left i l =
    ap (λ o. and_then o (λ more. if more then (λ u. and_then (item u) (λ right. chain_on item z join n (join left right))) else pure left)) (goes_on_leaves z i l.lexeme l.read l.differs)

chain_more : {A : Type 0} (item : Parser A) (z : Sign) (join : A → A → A) (n : ℕ) (left right : A) (i j k : Input) → goes_on z i ≡ Ok (true, j) → item j ≡ Ok (right, k)
    → chain_on item z join (suc n) left i ≡ chain_on item z join n (join left right) k
unfolding chain_on
chain_more item z join n left right i j k goes reads =
    ap (λ o. and_then o (λ more. if more then (λ u. and_then (item u) (λ right. chain_on item z join n (join left right))) else pure left)) goes
    ∙ ap (λ o. and_then o (λ right. chain_on item z join n (join left right))) reads

-- a chain that is read so far, with turns enough for the room that is left
pub record Chained {A : Type 0} (item : Parser A) (z : Sign) (join : A → A → A) (i : Input) (f : A) (j : Input) : Type 0 where
  pub turns : ℕ
  pub enough : j.room ≤ turns
  pub is : chain item z join i ≡ chain_on item z join (suc turns) f j

chained_first : {A : Type 0} (item : Parser A) (z : Sign) (join : A → A → A) (i j : Input) (f : A) → item i ≡ Ok (f, j) → Chained item z join i f j
unfolding chain
chained_first item z join i j f reads = record {
  turns = j.room;
  enough = omega arith;
  is = ap (λ o. and_then o (λ left t. chain_on item z join (t.room + 1) left t)) reads ∙ ap (λ k. chain_on item z join k f j) (omega arith);
}

chained_more : {A : Type 0} (item : Parser A) (z : Sign) (join : A → A → A) (i j k l : Input) (f h : A) → Chained item z join i f j → 0 < j.room
    → goes_on z j ≡ Ok (true, k) → item k ≡ Ok (h, l) → l.room < j.room → Chained item z join i (join f h) l
chained_more item z join i j k l f h c some goes reads less =
    let enough = c.enough in
    record {
      turns = c.turns - 1;
      enough = omega arith;
      is = c.is ∙ chain_more item z join c.turns f h j k l goes reads ∙ ap (λ n. chain_on item z join n (join f h) l) (omega arith);
    }

chained_whole : {A : Type 0} (item : Parser A) (z : Sign) (join : A → A → A) (i j : Input) (f : A) → Chained item z join i f j → Leaves z j.cursor → chain item z join i ≡ Ok (f, j)
chained_whole item z join i j f c l = c.is ∙ chain_done item z join c.turns f j l

-- ---- tokens that end a part

pub leaves_other : (names : NameTable) (z y : Sign) (from to : Cursor) → Stands names (sign y) from to → same_sign y z ≡ false → Leaves z from
leaves_other names z y from to st differs = record { lexeme = st.lexeme; read = st.read; differs = ap (is_sign z) st.matches ∙ differs }

-- ---- each rule

-- what is owed of a phrase of a rule
abbrev pub Claim : {T : Type 0} → Parser T → Rule → ℕ → Cursor → Plain T → Cursor → Type 0
Claim read g.unary n from f to = (r : ℕ) → nodes f ≤ r → unary read n (at from r) ≡ Ok (f, at to (r - nodes f))
Claim read g.conj n from f to = (r : ℕ) → nodes f ≤ r → Chained (unary read n) s.And both (at from r) f (at to (r - nodes f))
Claim read g.disj n from f to = Leaves s.And to → (r : ℕ) → nodes f ≤ r → Chained (conjunction (unary read n)) s.Or either (at from r) f (at to (r - nodes f))
Claim {T} read g.formula n from f to =
    Leaves s.And to → Leaves s.Or to → Leaves s.Arrow to → (r : ℕ) → nodes f ≤ r → (k : ℕ) → r < k → (fs : List (Plain T))
    → arrows_on (disjunction (unary read n)) k fs (at from r) ≡ Ok (implied fs f, at to (r - nodes f))

pub conj_whole : {T : Type 0} (read : Parser T) (n : ℕ) (from to : Cursor) (f : Plain T) → Claim read g.conj n from f to → Leaves s.And to
    → (r : ℕ) → nodes f ≤ r → conjunction (unary read n) (at from r) ≡ Ok (f, at to (r - nodes f))
unfolding conjunction
conj_whole read n from to f claim l r room = chained_whole (unary read n) s.And both (at from r) (at to (r - nodes f)) f (claim r room) l

pub disj_whole : {T : Type 0} (read : Parser T) (n : ℕ) (from to : Cursor) (f : Plain T) → Claim read g.disj n from f to → Leaves s.And to → Leaves s.Or to
    → (r : ℕ) → nodes f ≤ r → disjunction (unary read n) (at from r) ≡ Ok (f, at to (r - nodes f))
unfolding disjunction
disj_whole read n from to f claim l m r room = chained_whole (conjunction (unary read n)) s.Or either (at from r) (at to (r - nodes f)) f (claim l r room) m

pub formula_whole : {T : Type 0} (read : Parser T) (n : ℕ) (from to : Cursor) (f : Plain T) → Claim read g.formula n from f to → Leaves s.And to → Leaves s.Or to → Leaves s.Arrow to
    → (r : ℕ) → nodes f ≤ r → formula_of (unary read n) (at from r) ≡ Ok (f, at to (r - nodes f))
unfolding formula_of arrows
formula_whole read n from to f claim a o w r room = claim a o w r room (r + 1) (omega arith) []

-- ---- operands

-- what an operand is read by at its number of levels
pub operand_of : {T : Type 0} (read : Parser T) (n : ℕ) → (below : Option (Parser (Plain T))) × (unary read n ≡ operand read below)
unfolding unary
operand_of read zero = (None, refl)
operand_of read (suc n) = (Some (unary read n), refl)

-- by what its first token opens
pub opened : {T : Type 0} (read : Parser T) (below : Option (Parser (Plain T))) (i : Input) (t : Lexeme) (o : Opening) → token i.cursor ≡ Ok t → start t ≡ o
    → operand read below i ≡ operand_by read below o t.place i
unfolding operand
opened read below i t o is begins =
    bind_value (peek i) _ t i (peek_reads i t is) ∙ ap (λ o. operand_by read below o t.place i) begins

-- a node and its token, with what follows them
pub counted : {B : Type 0} (names : NameTable) (item : Item) (from to : Cursor) (r : ℕ) (st : Stands names item from to) (behind : Parser B) → 0 < r
    → and_then (and_then (node st.lexeme.place (at from r)) (λ u. next)) (λ w. behind) ≡ behind (at to (r - 1))
counted names item from to r st behind some =
    ap (λ o. and_then (and_then o (λ u. next)) (λ w. behind)) (node_reads st.lexeme.place (at from r) some)
    ∙ ap (λ o. and_then o (λ w. behind)) (stands_token names item (at from (r - 1)) to st)

constant_reads : {T : Type 0} (names : NameTable) (read : Parser T) (n : ℕ) (b : Bool) (item : Item) (from to : Cursor) (st : Stands names item from to) → start st.lexeme ≡ Constant b
    → (r : ℕ) → 1 ≤ r → unary read n (at from r) ≡ Ok (truth b, at to (r - 1))
constant_reads {T} names read n b item from to st begins r room =
    let u = operand_of read n in
    ap (λ (p : Parser (Plain T)). p (at from r)) u.1
    ∙ opened read u.0 (at from r) st.lexeme (Constant b) st.read begins
    ∙ counted names item from to r st (pure (truth b)) room

negation_reads : {T : Type 0} (names : NameTable) (read : Parser T) (n : ℕ) (from mid to : Cursor) (f : Plain T) → Stands names (sign s.Not) from mid
    → Claim read g.unary n mid f to → Claim read g.unary (suc n) from (neg f) to
unfolding unary
negation_reads names read n from mid to f st claim r room =
    opened read (Some (unary read n)) (at from r) st.lexeme Negation st.read (negation_begins st.lexeme st.matches)
    ∙ counted names (sign s.Not) from mid r st (negated (unary read n)) (omega arith)
    ∙ ap (λ o. and_then o (λ f. pure (neg f))) (claim (r - 1) (omega arith))
    ∙ ap (λ k. Ok (neg f, at to k)) (omega arith)

bracket_reads : {T : Type 0} (names : NameTable) (read : Parser T) (n : ℕ) (from mid end to : Cursor) (f : Plain T) → Stands names (sign s.Open) from mid
    → Claim read g.formula n mid f end → Stands names (sign s.Close) end to → Claim read g.unary (suc n) from f to
unfolding unary
bracket_reads names read n from mid end to f st claim close r room =
    opened read (Some (unary read n)) (at from r) st.lexeme Bracket st.read (bracket_begins st.lexeme st.matches)
    ∙ ap (λ o. and_then o (λ w. bracketed (unary read n))) (stands_token names (sign s.Open) (at from r) mid st)
    ∙ ap (λ o. and_then o (λ f k. and_then (expect s.Close k) (λ u. pure f)))
    (formula_whole read n mid end f claim (leaves_other names s.And s.Close end to close refl) (leaves_other names s.Or s.Close end to close refl) (leaves_other names s.Arrow s.Close end to close refl) r room)
    ∙ ap (λ o. and_then o (λ u. pure f)) (expect_reads names s.Close (at end (r - nodes f)) to close)

-- ---- joined parts

and_reads : {T : Type 0} (names : NameTable) (read : Parser T) (n : ℕ) (from mid behind to : Cursor) (f h : Plain T) → Claim read g.conj n from f mid
    → Stands names (sign s.And) mid behind → Claim read g.unary n behind h to → Claim read g.conj n from (both f h) to
and_reads names read n from mid behind to f h left st right r room =
    let more = chained_more (unary read n) s.And both (at from r) (at mid (r - nodes f)) (at behind (r - nodes f - 1)) (at to (r - nodes f - 1 - nodes h)) f h
    (left r (omega arith)) (omega arith) (goes_on_reads names s.And (at mid (r - nodes f)) behind st (omega arith)) (right (r - nodes f - 1) (omega arith)) (omega arith) in
    subst (λ k. Chained (unary read n) s.And both (at from r) (both f h) (at to k)) (omega arith) more

or_reads : {T : Type 0} (names : NameTable) (read : Parser T) (n : ℕ) (from mid behind to : Cursor) (f h : Plain T) → Claim read g.disj n from f mid
    → Stands names (sign s.Or) mid behind → Claim read g.conj n behind h to → Claim read g.disj n from (either f h) to
or_reads names read n from mid behind to f h left st right l r room =
    let first = left (leaves_other names s.And s.Or mid behind st refl) r (omega arith) in
    let more = chained_more (conjunction (unary read n)) s.Or either (at from r) (at mid (r - nodes f)) (at behind (r - nodes f - 1)) (at to (r - nodes f - 1 - nodes h)) f h
    first (omega arith) (goes_on_reads names s.Or (at mid (r - nodes f)) behind st (omega arith))
    (conj_whole read n behind to h right l (r - nodes f - 1) (omega arith)) (omega arith) in
    subst (λ k. Chained (conjunction (unary read n)) s.Or either (at from r) (either f h) (at to k)) (omega arith) more

pub arrow_turn : {T : Type 0} (item : Parser (Plain T)) (k : ℕ) (fs : List (Plain T)) (f : Plain T) (i j : Input) → 0 < k → item i ≡ Ok (f, j)
    → arrows_on item k fs i ≡ and_then (goes_on s.Arrow j) (λ more. if more then arrows_on item (k - 1) (fs ++ f ∷ []) else pure (implied fs f))
unfolding arrows_on
arrow_turn item zero fs f i j some reads = absurd (omega arith)
arrow_turn item (suc k) fs f i j some reads =
    ap (λ o. and_then o (λ g. λ t. and_then (goes_on s.Arrow t) (λ more. if more then arrows_on item k (fs ++ g ∷ []) else pure (implied fs g)))) reads
    ∙ ap (λ n. and_then (goes_on s.Arrow j) (λ more. if more then arrows_on item n (fs ++ f ∷ []) else pure (implied fs f))) (omega arith)

last_reads : {T : Type 0} (read : Parser T) (n : ℕ) (from to : Cursor) (f : Plain T) → Claim read g.disj n from f to → Claim read g.formula n from f to
last_reads read n from to f claim a o w r room k turns fs =
    arrow_turn (disjunction (unary read n)) k fs f (at from r) (at to (r - nodes f)) (omega arith) (disj_whole read n from to f claim a o r room)
    ∙ ap (λ q. and_then q (λ more. if more then arrows_on (disjunction (unary read n)) (k - 1) (fs ++ f ∷ []) else pure (implied fs f)))
    (goes_on_leaves s.Arrow (at to (r - nodes f)) w.lexeme w.read w.differs)

arrow_reads : {T : Type 0} (names : NameTable) (read : Parser T) (n : ℕ) (from mid behind to : Cursor) (f h : Plain T) → Claim read g.disj n from f mid
    → Stands names (sign s.Arrow) mid behind → Claim read g.formula n behind h to → Claim read g.formula n from (implies f h) to
arrow_reads names read n from mid behind to f h left st right a o w r room k turns fs =
    let item = disjunction (unary read n) in
    arrow_turn item k fs f (at from r) (at mid (r - nodes f)) (omega arith)
    (disj_whole read n from mid f left (leaves_other names s.And s.Arrow mid behind st refl) (leaves_other names s.Or s.Arrow mid behind st refl) r (omega arith))
    ∙ ap (λ q. and_then q (λ more. if more then arrows_on item (k - 1) (fs ++ f ∷ []) else pure (implied fs f)))
    (goes_on_reads names s.Arrow (at mid (r - nodes f)) behind st (omega arith))
    ∙ right a o w (r - nodes f - 1) (omega arith) (k - 1) (omega arith) (fs ++ f ∷ [])
    ∙ ap (λ i. Ok (i, at to (r - nodes f - 1 - nodes h))) (implied-append fs f h)
    ∙ ap (λ m. Ok (implied fs (implies f h), at to m)) (omega arith)

-- ---- the whole grammar

pub claims : {T : Type 0} (names : NameTable) (read : Parser T) (IsAtom : Cursor → T → Cursor → Type 0)
    → ((from to : Cursor) (a : T) (r : ℕ) → IsAtom from a to → 0 < r → read (at from r) ≡ Ok (a, at to (r - 1)))
    → ((from to : Cursor) (a : T) → IsAtom from a to → BeginsAtom from)
    → (rule : Rule) (n : ℕ) (from to : Cursor) (f : Plain T) → Is names IsAtom rule n from f to → Claim read rule n from f to
claims names read IsAtom again begins _ _ _ _ _ (a_true n from to st) =
    constant_reads names read n true (word (codes "true")) from to st (true_begins st.lexeme st.matches.0 st.matches.1)
claims names read IsAtom again begins _ _ _ _ _ (a_false n from to st) =
    constant_reads names read n false (word (codes "false")) from to st (false_begins st.lexeme st.matches.0 st.matches.1)
claims {T} names read IsAtom again begins _ _ _ _ _ (an_atom n from to a st) = λ r room.
    let u = operand_of read n in
    let b = begins from to a st in
    ap (λ (p : Parser (Plain T)). p (at from r)) u.1
    ∙ opened read u.0 (at from r) b.lexeme Atom b.read b.begins
    ∙ ap (λ o. and_then o (λ a. pure (atom a))) (again from to a r st room)
claims names read IsAtom again begins _ _ _ _ _ (a_not n from mid to f st is) =
    negation_reads names read n from mid to f st (claims names read IsAtom again begins g.unary n mid to f is)
claims names read IsAtom again begins _ _ _ _ _ (a_bracket n from mid end to f st is close) =
    bracket_reads names read n from mid end to f st (claims names read IsAtom again begins g.formula n mid end f is) close
claims names read IsAtom again begins _ _ _ _ _ (a_conj n from to f is) = λ r room.
    chained_first (unary read n) s.And both (at from r) (at to (r - nodes f)) f (claims names read IsAtom again begins g.unary n from to f is r room)
claims names read IsAtom again begins _ _ _ _ _ (an_and n from mid behind to f h is st more) =
    and_reads names read n from mid behind to f h (claims names read IsAtom again begins g.conj n from mid f is) st (claims names read IsAtom again begins g.unary n behind to h more)
claims names read IsAtom again begins _ _ _ _ _ (a_disj n from to f is) = λ l r room.
    chained_first (conjunction (unary read n)) s.Or either (at from r) (at to (r - nodes f)) f (conj_whole read n from to f (claims names read IsAtom again begins g.conj n from to f is) l r room)
claims names read IsAtom again begins _ _ _ _ _ (an_or n from mid behind to f h is st more) =
    or_reads names read n from mid behind to f h (claims names read IsAtom again begins g.disj n from mid f is) st (claims names read IsAtom again begins g.conj n behind to h more)
claims names read IsAtom again begins _ _ _ _ _ (a_formula n from to f is) =
    last_reads read n from to f (claims names read IsAtom again begins g.disj n from to f is)
claims names read IsAtom again begins _ _ _ _ _ (an_implies n from mid behind to f h is st more) =
    arrow_reads names read n from mid behind to f h (claims names read IsAtom again begins g.disj n from mid f is) st (claims names read IsAtom again begins g.formula n behind to h more)

-- a formula of the grammar is read, where no token goes on with it
pub formula_reads : {T : Type 0} (names : NameTable) (read : Parser T) (IsAtom : Cursor → T → Cursor → Type 0)
    → ((from to : Cursor) (a : T) (r : ℕ) → IsAtom from a to → 0 < r → read (at from r) ≡ Ok (a, at to (r - 1)))
    → ((from to : Cursor) (a : T) → IsAtom from a to → BeginsAtom from)
    → (n r : ℕ) (from to : Cursor) (f : Plain T) → Is names IsAtom g.formula n from f to → nodes f ≤ r → Stops to
    → formula_of (unary read n) (at from r) ≡ Ok (f, at to (r - nodes f))
formula_reads names read IsAtom again begins n r from to f is room stops =
    formula_whole read n from to f (claims names read IsAtom again begins g.formula n from to f is)
    (record { lexeme = stops.lexeme; read = stops.read; differs = stops.and }) (record { lexeme = stops.lexeme; read = stops.read; differs = stops.or })
    (record { lexeme = stops.lexeme; read = stops.read; differs = stops.arrow }) r room
