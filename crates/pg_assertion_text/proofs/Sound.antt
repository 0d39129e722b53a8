-- What is read is in the grammar, and takes as many nodes as it has.
use Rattle.std.proofs.Common.{◌≡◌, ℕ, zero, suc, ◌+◌, Bool, true, false, Ok, Some, None, List, [], ◌∷◌, ◌++◌, refl, ap, sym, ◌∙◌, subst, arith}
use Rattle.std.specs.Prelude.{if◌then◌else◌, Option}
use Rattle.pg_lex.specs.declared.token.Sign.{Sign}
use Rattle.pg_lex.specs.declared.token.Sign.TheVariants as s
use Rattle.pg_lex.specs.Lex.{Cursor, Lexeme, token, after}
use Rattle.pg_program.specs.NameTable.{NameTable}
use Rattle.pg_assertion.specs.Formula.{Plain, atom, neg, both, either, implies, nodes}
use Rattle.pg_assertion_text.specs.declared.formula.Opening.{Opening}
use Rattle.pg_assertion_text.specs.declared.formula.Opening.TheVariants.{Negation, Bracket, Constant, Atom}
use Rattle.pg_assertion_text.specs.Words.{Stands, sign}
use Rattle.pg_assertion_text.specs.Input.{Input, Parser, and_then, pure, peek, next, node, goes_on, expect}
use Rattle.pg_assertion_text.specs.Reading.{chain_on, chain, implied, arrows_on, arrows, conjunction, disjunction, formula_of, start, truth, deeper, negated, bracketed, operand_by, operand, unary}
use Rattle.pg_assertion_text.specs.Grammar as g
use Rattle.pg_assertion_text.specs.Grammar.{Rule, Is}
use Rattle.pg_assertion_text.proofs.Steps.{ok_same, bind_then, next_found, peek_found, node_found, Takes, expect_found, goes_on_found, goes_on_stops}
use Rattle.pg_assertion_text.proofs.Chains.{implied-append}
use Rattle.pg_assertion_text.proofs.Begins.{Opens, opens}

-- a phrase that was read, from one place to another
pub record Found {T : Type 0} (names : NameTable) (IsAtom : Cursor → T → Cursor → Type 0) (rule : Rule) (n : ℕ) (i : Input) (f : Plain T) (j : Input) : Type 0 where
  pub is : Is names IsAtom rule n i.cursor f j.cursor
  pub room : i.room ≡ j.room + nodes f

-- ---- chains

-- one more turn, where the turns after it are known
turn_found : {A : Type 0} (names : NameTable) (item : Parser A) (z : Sign) (join : A → A → A) (Part Whole : Input → A → Input → Type 0)
    → ((i j : Input) (a : A) → item i ≡ Ok (a, j) → Part i a j)
    → ((i j k l : Input) (a b : A) → Whole i a j → Takes names (sign z ∷ []) 1 j k → Part k b l → Whole i (join a b) l)
    → (n : ℕ) (left whole : A) (i t j : Input) → Whole i left t
    → ((left : A) (t : Input) → Whole i left t → chain_on item z join n left t ≡ Ok (whole, j) → Whole i whole j)
    → (b : Bool) (u : Input) → goes_on z t ≡ Ok (b, u)
    → (if b then (λ u. and_then (item u) (λ right. chain_on item z join n (join left right))) else pure left) u ≡ Ok (whole, j) → Whole i whole j
turn_found names item z join Part Whole part more n left whole i t j so behind true u goes rest =
    bind_then (item u) _ (whole, j) rest (λ right v read rest2.
    behind (join left right) v (more i t u v left right so (goes_on_found names z t u goes) (part u v right read)) rest2)
turn_found {A} names item z join Part Whole part more n left whole i t j so behind false u stops rest =
    let same = ok_same (left, u) (whole, j) rest in
    subst (λ (q : A × Input). Whole i q.0 q.1) (ap (λ v. (left, v)) (sym (goes_on_stops z t u stops)) ∙ same) so

chain_on_found : {A : Type 0} (names : NameTable) (item : Parser A) (z : Sign) (join : A → A → A) (Part Whole : Input → A → Input → Type 0)
    → ((i j : Input) (a : A) → item i ≡ Ok (a, j) → Part i a j)
    → ((i j k l : Input) (a b : A) → Whole i a j → Takes names (sign z ∷ []) 1 j k → Part k b l → Whole i (join a b) l)
    → (n : ℕ) (left whole : A) (i t j : Input) → Whole i left t → chain_on item z join n left t ≡ Ok (whole, j) → Whole i whole j
unfolding chain_on
chain_on_found names item z join Part Whole part more zero left whole i t j so h = cc
chain_on_found names item z join Part Whole part more (suc n) left whole i t j so h =
    bind_then (goes_on z t) _ (whole, j) h (turn_found names item z join Part Whole part more n left whole i t j so
    (λ left t so h. chain_on_found names item z join Part Whole part more n left whole i t j so h))

chain_found : {A : Type 0} (names : NameTable) (item : Parser A) (z : Sign) (join : A → A → A) (Part Whole : Input → A → Input → Type 0)
    → ((i j : Input) (a : A) → item i ≡ Ok (a, j) → Part i a j) → ((i j : Input) (a : A) → Part i a j → Whole i a j)
    → ((i j k l : Input) (a b : A) → Whole i a j → Takes names (sign z ∷ []) 1 j k → Part k b l → Whole i (join a b) l)
    → (whole : A) (i j : Input) → chain item z join i ≡ Ok (whole, j) → Whole i whole j
unfolding chain
chain_found names item z join Part Whole part first more whole i j h =
    bind_then (item i) _ (whole, j) h (λ left t read rest.
    chain_on_found names item z join Part Whole part more (t.room + 1) left whole i t j (first i t left (part i t left read)) rest)

pub conjunction_found : {T : Type 0} (names : NameTable) (IsAtom : Cursor → T → Cursor → Type 0) (n : ℕ) (u : Parser (Plain T))
    → ((i j : Input) (f : Plain T) → u i ≡ Ok (f, j) → Found names IsAtom g.unary n i f j)
    → (i j : Input) (f : Plain T) → conjunction u i ≡ Ok (f, j) → Found names IsAtom g.conj n i f j
unfolding conjunction
conjunction_found names IsAtom n u part i j f h =
    chain_found names u s.And both (Found names IsAtom g.unary n) (Found names IsAtom g.conj n) part
    (λ i j f p. record { is = g.a_conj n i.cursor j.cursor f p.is; room = p.room })
    (λ i j k l a b w t p. record {
      is = g.an_and n i.cursor j.cursor k.cursor l.cursor a b w.is (subst (Stands names (sign s.And) j.cursor) (sym t.stand.2) t.stand.1) p.is;
      room = let wr = w.room in let tr = t.room in let pr = p.room in omega arith;
    }) f i j h

pub disjunction_found : {T : Type 0} (names : NameTable) (IsAtom : Cursor → T → Cursor → Type 0) (n : ℕ) (u : Parser (Plain T))
    → ((i j : Input) (f : Plain T) → u i ≡ Ok (f, j) → Found names IsAtom g.unary n i f j)
    → (i j : Input) (f : Plain T) → disjunction u i ≡ Ok (f, j) → Found names IsAtom g.disj n i f j
unfolding disjunction
disjunction_found names IsAtom n u part i j f h =
    chain_found names (conjunction u) s.Or either (Found names IsAtom g.conj n) (Found names IsAtom g.disj n) (conjunction_found names IsAtom n u part)
    (λ i j f p. record { is = g.a_disj n i.cursor j.cursor f p.is; room = p.room })
    (λ i j k l a b w t p. record {
      is = g.an_or n i.cursor j.cursor k.cursor l.cursor a b w.is (subst (Stands names (sign s.Or) j.cursor) (sym t.stand.2) t.stand.1) p.is;
      room = let wr = w.room in let tr = t.room in let pr = p.room in omega arith;
    }) f i j h

-- ---- arrows

-- the last part of what was read, after the premises
record Led {T : Type 0} (names : NameTable) (IsAtom : Cursor → T → Cursor → Type 0) (n : ℕ) (fs : List (Plain T)) (i : Input) (f : Plain T) (j : Input) : Type 0 where
  last : Plain T
  is : f ≡ implied fs last
  found : Found names IsAtom g.formula n i last j

arrow_found : {T : Type 0} (names : NameTable) (IsAtom : Cursor → T → Cursor → Type 0) (n : ℕ) (item : Parser (Plain T))
    (k : ℕ) (fs : List (Plain T)) (f : Plain T) (i j : Input) (a : Plain T) (t : Input) → Found names IsAtom g.disj n i a t
    → ((u : Input) → arrows_on item k (fs ++ a ∷ []) u ≡ Ok (f, j) → Led names IsAtom n (fs ++ a ∷ []) u f j)
    → (b : Bool) (u : Input) → goes_on s.Arrow t ≡ Ok (b, u)
    → (if b then arrows_on item k (fs ++ a ∷ []) else pure (implied fs a)) u ≡ Ok (f, j) → Led names IsAtom n fs i f j
arrow_found names IsAtom n item k fs f i j a t p behind true u goes rest =
    let led = behind u rest in
    let took = goes_on_found names s.Arrow t u goes in
    record {
      last = implies a led.last;
      is = led.is ∙ implied-append fs a led.last;
      found = record {
        is = g.an_implies n i.cursor t.cursor u.cursor j.cursor a led.last p.is (subst (Stands names (sign s.Arrow) t.cursor) (sym took.stand.2) took.stand.1) led.found.is;
        room = let pr = p.room in let tr = took.room in let lr = led.found.room in omega arith;
      };
    }
arrow_found {T} names IsAtom n item k fs f i j a t p behind false u stops rest =
    let same = ok_same (implied fs a, u) (f, j) rest in
    let at : t ≡ j = sym (goes_on_stops s.Arrow t u stops) ∙ ap (λ (q : Plain T × Input). q.1) same in
    record {
      last = a;
      is = sym (ap (λ (q : Plain T × Input). q.0) same);
      found = subst (Found names IsAtom g.formula n i a) at (record { is = g.a_formula n i.cursor t.cursor a p.is; room = p.room });
    }

arrows_on_found : {T : Type 0} (names : NameTable) (IsAtom : Cursor → T → Cursor → Type 0) (n : ℕ) (item : Parser (Plain T))
    → ((i j : Input) (f : Plain T) → item i ≡ Ok (f, j) → Found names IsAtom g.disj n i f j)
    → (k : ℕ) (fs : List (Plain T)) (f : Plain T) (i j : Input) → arrows_on item k fs i ≡ Ok (f, j) → Led names IsAtom n fs i f j
unfolding arrows_on
arrows_on_found names IsAtom n item part zero fs f i j h = cc
arrows_on_found names IsAtom n item part (suc k) fs f i j h =
    bind_then (item i) _ (f, j) h (λ a t read rest. bind_then (goes_on s.Arrow t) _ (f, j) rest
    (arrow_found names IsAtom n item k fs f i j a t (part i t a read)
    (λ u more. arrows_on_found names IsAtom n item part k (fs ++ a ∷ []) f u j more)))

pub formula_of_found : {T : Type 0} (names : NameTable) (IsAtom : Cursor → T → Cursor → Type 0) (n : ℕ) (u : Parser (Plain T))
    → ((i j : Input) (f : Plain T) → u i ≡ Ok (f, j) → Found names IsAtom g.unary n i f j)
    → (i j : Input) (f : Plain T) → formula_of u i ≡ Ok (f, j) → Found names IsAtom g.formula n i f j
unfolding formula_of arrows
formula_of_found names IsAtom n u part i j f h =
    let led = arrows_on_found names IsAtom n (disjunction u) (disjunction_found names IsAtom n u part) (i.room + 1) [] f i j h in
    subst (λ f. Found names IsAtom g.formula n i f j) (sym led.is) led.found

-- ---- operands

-- the token that is seen is the one that is taken, with nodes counted between
taken : (i l k : Input) (t w : Lexeme) → token i.cursor ≡ Ok t → l.cursor ≡ i.cursor → next l ≡ Ok (w, k) → (k.cursor ≡ after i.cursor) × (k.room ≡ l.room)
taken i l k t w read at takes =
    let found = next_found l k w takes in
    (ap (λ q. q.cursor) found.1 ∙ ap after at, ap (λ q. q.room) found.1)

-- what is read one level further in
abbrev Below : {T : Type 0} → NameTable → (Cursor → T → Cursor → Type 0) → ℕ → Option (Parser (Plain T)) → Type 0
Below names IsAtom n None = Unit {0}
Below {T} names IsAtom n (Some u) = (m : ℕ) × (n ≡ suc m) × ((i j : Input) (f : Plain T) → u i ≡ Ok (f, j) → Found names IsAtom g.unary m i f j)

negation_found : {T : Type 0} (names : NameTable) (IsAtom : Cursor → T → Cursor → Type 0) (n p : ℕ) (below : Option (Parser (Plain T))) → Below names IsAtom n below
    → (i m j : Input) (f : Plain T) → Stands names (sign s.Not) i.cursor m.cursor → i.room ≡ m.room + 1 → deeper p below negated m ≡ Ok (f, j) → Found names IsAtom g.unary n i f j
negation_found names IsAtom n p None claim i m j f st room h = cc
negation_found {T} names IsAtom n p (Some u) claim i m j f st room h =
    bind_then (u m) _ (f, j) h (λ a v read end.
    let found = claim.2 m v a read in
    subst (λ (q : Plain T × Input). Found names IsAtom g.unary n i q.0 q.1) (ok_same (neg a, v) (f, j) end)
    (subst (λ k. Found names IsAtom g.unary k i (neg a) v) (sym claim.1)
    (record { is = g.a_not claim.0 i.cursor m.cursor v.cursor a st found.is; room = let fr = found.room in omega arith })))

bracket_found : {T : Type 0} (names : NameTable) (IsAtom : Cursor → T → Cursor → Type 0) (n p : ℕ) (below : Option (Parser (Plain T))) → Below names IsAtom n below
    → (i m j : Input) (f : Plain T) → Stands names (sign s.Open) i.cursor m.cursor → i.room ≡ m.room → deeper p below bracketed m ≡ Ok (f, j) → Found names IsAtom g.unary n i f j
bracket_found names IsAtom n p None claim i m j f st room h = cc
bracket_found {T} names IsAtom n p (Some u) claim i m j f st room h =
    bind_then (formula_of u m) _ (f, j) h (λ a v read rest.
    bind_then (expect s.Close v) _ (f, j) rest (λ w l close end.
    let found = formula_of_found names IsAtom claim.0 u claim.2 m v a read in
    let closed = expect_found names s.Close v l w close in
    subst (λ (q : Plain T × Input). Found names IsAtom g.unary n i q.0 q.1) (ok_same (a, l) (f, j) end)
    (subst (λ k. Found names IsAtom g.unary k i a l) (sym claim.1)
    (record {
      is = g.a_bracket claim.0 i.cursor m.cursor v.cursor l.cursor a st found.is (subst (Stands names (sign s.Close) v.cursor) (sym closed.stand.2) closed.stand.1);
      room = let fr = found.room in let cr = closed.room in omega arith;
    }))))

constant_found : {T : Type 0} (names : NameTable) (IsAtom : Cursor → T → Cursor → Type 0) (n : ℕ) (b : Bool) (i m : Input) (t : Lexeme)
    → Opens (Constant b) t.kind t.text → token i.cursor ≡ Ok t → m.cursor ≡ after i.cursor → i.room ≡ m.room + 1 → Found names IsAtom g.unary n i (truth b) m
constant_found names IsAtom n true i m t is read at room = record {
  is = g.a_true n i.cursor m.cursor (record { lexeme = t; read = read; matches = is; behind = at });
  room = room;
}
constant_found names IsAtom n false i m t is read at room = record {
  is = g.a_false n i.cursor m.cursor (record { lexeme = t; read = read; matches = is; behind = at });
  room = room;
}

pub operand_found : {T : Type 0} (names : NameTable) (read_atom : Parser T) (IsAtom : Cursor → T → Cursor → Type 0)
    → ((i j : Input) (a : T) → read_atom i ≡ Ok (a, j) → IsAtom i.cursor a j.cursor × (i.room ≡ j.room + 1))
    → (n : ℕ) (below : Option (Parser (Plain T))) → Below names IsAtom n below
    → (i j : Input) (f : Plain T) → operand read_atom below i ≡ Ok (f, j) → Found names IsAtom g.unary n i f j
unfolding operand
operand_found {T} names read_atom IsAtom atoms n below claim i j f h =
    bind_then (peek i) _ (f, j) h (λ t k seen rest.
    let p = peek_found i k t seen in
    by t p.0 (start t) (opens t (start t) refl) (subst (λ q. operand_by read_atom below (start t) t.place q ≡ Ok (f, j)) p.1 rest))
  where
    -- a node and a token
    counted : (t : Lexeme) → token i.cursor ≡ Ok t → (next_one : Parser (Plain T)) → and_then (and_then (node t.place i) (λ u. next)) (λ w. next_one) ≡ Ok (f, j)
        → ((m : Input) → m.cursor ≡ after i.cursor → i.room ≡ m.room + 1 → next_one m ≡ Ok (f, j) → Found names IsAtom g.unary n i f j) → Found names IsAtom g.unary n i f j
    counted t read next_one g use_it =
        bind_then (and_then (node t.place i) (λ u. next)) (λ w. next_one) (f, j) g (λ w m two rest.
        bind_then (node t.place i) (λ u. next) (w, m) two (λ u l noded takes.
        let c = node_found t.place i l u noded in
        let took = taken i l m t w read c.0 takes in
        use_it m took.0 (c.1 ∙ ap (λ r. r + 1) (sym took.1)) rest))

    by : (t : Lexeme) → token i.cursor ≡ Ok t → (o : Opening) → Opens o t.kind t.text → operand_by read_atom below o t.place i ≡ Ok (f, j) → Found names IsAtom g.unary n i f j
    by t read Negation is rest =
        counted t read (deeper t.place below negated) rest (λ m at room last.
        negation_found names IsAtom n t.place below claim i m j f (record { lexeme = t; read = read; matches = is; behind = at }) room last)
    by t read Bracket is rest =
        bind_then (next i) (λ w. deeper t.place below bracketed) (f, j) rest (λ w m takes last.
        let took = taken i i m t w read refl takes in
        bracket_found names IsAtom n t.place below claim i m j f (record { lexeme = t; read = read; matches = is; behind = took.0 }) (sym took.1) last)
    by t read (Constant b) is rest =
        counted t read (pure (truth b)) rest (λ m at room last.
        subst (λ (q : Plain T × Input). Found names IsAtom g.unary n i q.0 q.1) (ok_same (truth b, m) (f, j) last) (constant_found names IsAtom n b i m t is read at room))
    by t read Atom is rest =
        bind_then (read_atom i) (λ a. pure (atom a)) (f, j) rest (λ a m reads last.
        let found = atoms i m a reads in
        subst (λ (q : Plain T × Input). Found names IsAtom g.unary n i q.0 q.1) (ok_same (atom a, m) (f, j) last)
        (record { is = g.an_atom n i.cursor m.cursor a found.0; room = found.1 }))

pub unary_found : {T : Type 0} (names : NameTable) (read_atom : Parser T) (IsAtom : Cursor → T → Cursor → Type 0)
    → ((i j : Input) (a : T) → read_atom i ≡ Ok (a, j) → IsAtom i.cursor a j.cursor × (i.room ≡ j.room + 1))
    → (n : ℕ) (i j : Input) (f : Plain T) → unary read_atom n i ≡ Ok (f, j) → Found names IsAtom g.unary n i f j
unfolding unary
unary_found names read_atom IsAtom atoms zero i j f h = operand_found names read_atom IsAtom atoms zero None tt i j f h
unary_found names read_atom IsAtom atoms (suc n) i j f h =
    operand_found names read_atom IsAtom atoms (suc n) (Some (unary read_atom n)) (n, refl, unary_found names read_atom IsAtom atoms n) i j f h

-- a formula that is read is in the grammar
pub formula_found : {T : Type 0} (names : NameTable) (read_atom : Parser T) (IsAtom : Cursor → T → Cursor → Type 0)
    → ((i j : Input) (a : T) → read_atom i ≡ Ok (a, j) → IsAtom i.cursor a j.cursor × (i.room ≡ j.room + 1))
    → (n : ℕ) (i j : Input) (f : Plain T) → formula_of (unary read_atom n) i ≡ Ok (f, j) → Found names IsAtom g.formula n i f j
formula_found names read_atom IsAtom atoms n i j f h =
    formula_of_found names IsAtom n (unary read_atom n) (unary_found names read_atom IsAtom atoms n) i j f h
