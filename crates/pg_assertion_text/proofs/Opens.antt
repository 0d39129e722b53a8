-- Where a reader meets a fault, items are known that would have gone on from there to a whole phrase.
use Rattle.std.proofs.Common.{◌≡◌, ℕ, zero, suc, ◌+◌, ◌-◌, ◌<◌, ◌≤◌, Bool, true, false, Ok, Err, Some, None, List, [], ◌∷◌, ◌++◌, length, length-append, refl, ap, sym, ◌∙◌, subst, arith, inl, inr}
use Rattle.std.specs.Prelude.{◌⊎◌, ◌==◌, if◌then◌else◌, Option, codes, Result}
use Rattle.pg_lex.specs.declared.token.Sign.{Sign}
use Rattle.pg_lex.specs.declared.token.Sign.TheVariants as s
use Rattle.pg_lex.specs.declared.fault.TextFault.{TextFault}
use Rattle.pg_lex.specs.declared.fault.TextFault.TheVariants.{At}
use Rattle.pg_lex.specs.declared.fault.TextKind.{TextKind}
use Rattle.pg_lex.specs.declared.fault.TextKind.TheVariants.{TooMany, TooDeep, Unexpected}
use Rattle.pg_lex.specs.Lex.{Cursor, Lexeme, token, after}
use Rattle.pg_program.specs.NameTable.{NameTable}
use Rattle.pg_assertion.specs.Formula.{Plain, top, atom, neg, both, either, implies}
use Rattle.pg_assertion_text.specs.declared.formula.Opening.{Opening}
use Rattle.pg_assertion_text.specs.declared.formula.Opening.TheVariants.{Negation, Bracket, Constant, Atom}
use Rattle.pg_assertion_text.specs.Words.{Item, Stands, Stand, sign, word}
use Rattle.pg_assertion_text.specs.Input.{Input, Outcome, Parser, and_then, ◌>>=◌, ◌>>◌, pure, refuse, seen, peek, next, node, goes_on, expect, is_sign}
use Rattle.pg_assertion_text.specs.Reading.{chain_on, chain, implied, arrows_on, arrows, conjunction, disjunction, formula_of, start, truth, deeper, negated, bracketed, operand_by, operand, unary}
use Rattle.pg_assertion_text.specs.Grammar.{Rule, Is, a_true, a_false, an_atom, a_not, a_bracket, a_conj, an_and, a_disj, an_or, a_formula, an_implies}
use Rattle.pg_assertion_text.specs.Grammar as g
use Rattle.pg_assertion_text.specs.Laws.{BeginsAtom}
use Rattle.pg_assertion_text.proofs.Steps.{bind_then, peek_found, next_found, node_found, goes_on_found, stand-split}
use Rattle.pg_assertion_text.specs.Agreement.{ahead, Alike, FaultAt}
use Rattle.pg_assertion_text.specs.FirstFaults.{HasLocation}
use Rattle.pg_assertion_text.proofs.Begins.{Opens, opens}
use Rattle.std.proofs.lemmas.Bool.Decides.{leb_tells}
use Rattle.pg_assertion_text.specs.Spelling.{Ends}
use Rattle.pg_assertion_text.proofs.SpellingTokens.{Spells, widened, and_stands, or_stands, arrow_stands, close_stands, true_stands}
use Rattle.pg_assertion_text.proofs.Complete.{at}
use Rattle.pg_assertion_text.proofs.Sound.{Found, conjunction_found, disjunction_found, formula_of_found, unary_found}
use Rattle.pg_assertion_text.proofs.Moves.{ahead-add, Moves}
use Rattle.pg_assertion_text.proofs.Reaches.{alike-split, stands_like, Solid, item_solid, Reached, ReachedAtom, reached}

-- an item with a spelling, which may stand in front of a blank or of the end, where a location is declared
abbrev pub Easy : NameTable → Item → Type 0
Easy names item = HasLocation names → (w : List ℕ) × Spells Ends (Stands names item) w

abbrev pub AllEasy : NameTable → List Item → Type 0
AllEasy names [] = Unit {0}
AllEasy names (i ∷ is) = Easy names i × AllEasy names is

pub easy-append : (names : NameTable) (is js : List Item) → AllEasy names is → AllEasy names js → AllEasy names (is ++ js)
easy-append names [] js a b = b
easy-append names (i ∷ is) js a b = (a.0, easy-append names is js a.1 b)

-- Behind the next m tokens, in any text that has them, these items make a phrase whole.
pub record Open {T : Type 0} (names : NameTable) (stands : Cursor → T → Cursor → Type 0) (rule : Rule) (n : ℕ) (c : Cursor) (e : TextFault) : Type 0 where
  pub m : ℕ
  pub at : FaultAt c m e
  pub rest : List Item
  pub some : 0 < length rest
  pub solid : (j : ℕ) → j < m → Solid (ahead j c)
  pub easy : AllEasy names rest
  pub whole : (d to : Cursor) → Alike m d c → Stand names rest (ahead m d) to → (f : Plain T) × Is names stands rule n d f to

abbrev pub Opened : {T A : Type 0} → NameTable → (Cursor → T → Cursor → Type 0) → Rule → ℕ → Cursor → Outcome A → Type 0
Opened names stands rule n c (Ok p) = Unit {0}
Opened names stands rule n c (Err e) = Open names stands rule n c e

-- a fault of one token at a place, or of the lexer there
abbrev pub Here : {A : Type 0} → Cursor → Outcome A → Type 0
Here c (Ok p) = Unit {0}
Here c (Err e) = FaultAt c 0 e

abbrev pub true_item : List Item
true_item = word (codes "true") ∷ []

pub easy_true : (names : NameTable) → AllEasy names true_item
easy_true names = ((λ some. (codes "true", true_stands names)), tt)

-- ---- faults of one token

seen_here : (i j : Input) (r : Result Lexeme TextFault) → token i.cursor ≡ r → Here i.cursor (seen j r)
seen_here i j (Ok l) is = tt
seen_here i j (Err e) is = inr is

peek_here : (i : Input) → Here i.cursor (peek i)
unfolding peek
peek_here i = seen_here i i (token i.cursor) refl

pub next_here : (i : Input) → Here i.cursor (next i)
unfolding next
next_here i = seen_here i (record i { cursor = after i.cursor }) (token i.cursor) refl

pub node_here : (c : Cursor) (t : Lexeme) → token c ≡ Ok t → (i : Input) → Here c (node t.place i)
unfolding node
node_here c t is i = by (i.room == 0)
  where
    by : (b : Bool) → Here {A = Unit {0}} c (if b then Err (At t.place TooMany) else Ok (tt, record i { room = i.room - 1 }))
    by true = inl (t, TooMany, is, refl)
    by false = tt

pub bind_here : {A B : Type 0} (c : Cursor) (o : Outcome A) (f : A → Parser B) → Here c o → ((a : A) (j : Input) → o ≡ Ok (a, j) → Here c (f a j)) → Here c (and_then o f)
bind_here c (Ok p) f first rest = rest p.0 p.1 refl
bind_here c (Err e) f first rest = first

goes_on_here : (z : Sign) (i : Input) → Here i.cursor (goes_on z i)
unfolding goes_on
goes_on_here z i =
    bind_here i.cursor (peek i) (λ t. if is_sign z t.kind then (node t.place >> next >> pure true) else pure false) (peek_here i) (λ t j is.
    let found = peek_found i j t is in by t found.0 j found.1 (is_sign z t.kind))
  where
    by : (t : Lexeme) → token i.cursor ≡ Ok t → (j : Input) → j ≡ i → (b : Bool) → Here {A = Bool} i.cursor ((if b then (node t.place >> next >> pure true) else pure false) j)
    by t is j same false = tt
    by t is j same true =
        bind_here i.cursor (and_then (node t.place j) (λ u. next)) (λ u. pure true)
        (bind_here i.cursor (node t.place j) (λ u. next) (node_here i.cursor t is j) (λ u k noded.
        subst (λ q. Here q (next k)) ((node_found t.place j k u noded).0 ∙ ap (λ q. q.cursor) same) (next_here k)))
        (λ u k is. tt)

pub expect_here : (z : Sign) (i : Input) → Here i.cursor (expect z i)
unfolding expect
expect_here z i =
    bind_here i.cursor (next i) (λ t. if is_sign z t.kind then pure tt else refuse t.place Unexpected) (next_here i) (λ t j is. by t (next_found i j t is).0 j (is_sign z t.kind))
  where
    by : (t : Lexeme) → token i.cursor ≡ Ok t → (j : Input) → (b : Bool) → Here {A = Unit {0}} i.cursor ((if b then pure tt else refuse t.place Unexpected) j)
    by t is j true = tt
    by t is j false = inl (t, Unexpected, is, refl)

-- ---- put together

pub alike-sym : (m : ℕ) (c d : Cursor) → Alike m c d → Alike m d c
alike-sym zero c d al = tt
alike-sym (suc m) c d al = (sym al.0, alike-sym m (after c) (after d) al.1)

pub fault_shift : (k m : ℕ) (c : Cursor) (e : TextFault) → FaultAt (ahead k c) m e → FaultAt c (k + m) e
fault_shift k m c e f = subst (λ d. ((l : Lexeme) × (why : TextKind) × (token d ≡ Ok l) × (e ≡ At l.place why)) ⊎ (token d ≡ Err e)) (ahead-add m k c) f

bind_open : {T A B : Type 0} (names : NameTable) (stands : Cursor → T → Cursor → Type 0) (rule : Rule) (n : ℕ) (c : Cursor) (o : Outcome A) (f : A → Parser B) → Opened names stands rule n c o
    → ((a : A) (j : Input) → o ≡ Ok (a, j) → Opened names stands rule n c (f a j)) → Opened names stands rule n c (and_then o f)
bind_open names stands rule n c (Ok p) f first rest = rest p.0 p.1 refl
bind_open names stands rule n c (Err e) f first rest = first

-- one rule in place of another
under : {T A : Type 0} (names : NameTable) (stands : Cursor → T → Cursor → Type 0) (part whole : Rule) (n m : ℕ) (c : Cursor) (o : Outcome A)
    → ((d to : Cursor) (f : Plain T) → Is names stands part n d f to → (g : Plain T) × Is names stands whole m d g to) → Opened names stands part n c o → Opened names stands whole m c o
under names stands part whole n m c (Ok p) up open_part = tt
under names stands part whole n m c (Err e) up open_part = record {
  m = open_part.m;
  at = open_part.at;
  rest = open_part.rest;
  some = open_part.some;
  solid = open_part.solid;
  easy = open_part.easy;
  whole = λ d to al st. let w = open_part.whole d to al st in up d to w.0 w.1;
}

-- a phrase that is read, and what is open behind it
behind : {T A : Type 0} (names : NameTable) (stands : Cursor → T → Cursor → Type 0) (part whole : Rule) (n m : ℕ) (c : Cursor) (k : ℕ) → ((j : ℕ) → j < k → Solid (ahead j c)) → (o : Outcome A)
    → ((d to : Cursor) (f : Plain T) → Alike k d c → Is names stands part n (ahead k d) f to → (g : Plain T) × Is names stands whole m d g to)
    → Opened names stands part n (ahead k c) o → Opened names stands whole m c o
behind names stands part whole n m c k solid (Ok p) up open_part = tt
behind names stands part whole n m c k solid (Err e) up open_part = record {
  m = k + open_part.m;
  at = fault_shift k open_part.m c e open_part.at;
  rest = open_part.rest;
  some = open_part.some;
  solid = λ j less. elim (leb_tells k j) [
    | inr few ↦ solid j few.1
    | inl more ↦ let most = more.1 in let e : k + (j - k) ≡ j = omega (arith, most) in subst Solid (ahead-add (j - k) k c ∙ ap (λ q. ahead q c) e) (open_part.solid (j - k) (omega (arith, most)))
  ];
  easy = open_part.easy;
  whole = λ d to al st.
      let p = alike-split k open_part.m d c al in
      let w = open_part.whole (ahead k d) to p.1 (subst (λ x. Stand names open_part.rest x to) (sym (ahead-add open_part.m k d)) st) in
      up d to w.0 p.0 w.1;
}

-- items that go on behind a phrase that is read, where the next token has the fault
here_open : {T A : Type 0} (names : NameTable) (stands : Cursor → T → Cursor → Type 0) (whole : Rule) (n : ℕ) (c : Cursor) (k : ℕ) → ((j : ℕ) → j < k → Solid (ahead j c)) → (rest : List Item) → 0 < length rest → AllEasy names rest → (o : Outcome A)
    → ((d to : Cursor) → Alike k d c → Stand names rest (ahead k d) to → (g : Plain T) × Is names stands whole n d g to) → Here (ahead k c) o → Opened names stands whole n c o
here_open names stands whole n c k solid rest some easy (Ok p) up here = tt
here_open names stands whole n c k solid rest some easy (Err e) up here = record {
  m = k;
  at = let z : k + 0 ≡ k = omega arith in subst (λ q. FaultAt c q e) z (fault_shift k 0 c e here);
  rest = rest;
  some = some;
  solid = solid;
  easy = easy;
  whole = up;
}

-- what is owed of an atom: a fault at its first token, or items that make it whole
pub record OpenAtom {T : Type 0} (names : NameTable) (stands : Cursor → T → Cursor → Type 0) (c : Cursor) (e : TextFault) : Type 0 where
  pub m : ℕ
  pub at : FaultAt c m e
  pub rest : List Item
  pub some : 0 < length rest
  pub solid : (j : ℕ) → j < m → Solid (ahead j c)
  pub easy : AllEasy names rest
  pub whole : (d to : Cursor) → Alike m d c → Stand names rest (ahead m d) to → (a : T) × stands d a to

abbrev pub OpenedAtom : {T : Type 0} → NameTable → (Cursor → T → Cursor → Type 0) → Cursor → Outcome T → Type 0
OpenedAtom names stands c (Ok p) = Unit {0}
OpenedAtom names stands c (Err e) = FaultAt c 0 e ⊎ OpenAtom names stands c e

module _ {T : Type 0} (names : NameTable) (read : Parser T) (stands : Cursor → T → Cursor → Type 0)
    (moves : Moves read)
    (finds : (i j : Input) (a : T) → read i ≡ Ok (a, j) → stands i.cursor a j.cursor × (i.room ≡ j.room + 1))
    (again : (from to : Cursor) (a : T) (r : ℕ) → stands from a to → 0 < r → read (at from r) ≡ Ok (a, at to (r - 1)))
    (begins : (from to : Cursor) (a : T) → stands from a to → BeginsAtom from)
    (atoms : (d to : Cursor) (a : T) → stands d a to → ReachedAtom stands read d a to)
    (open_atoms : (i : Input) → OpenedAtom names stands i.cursor (read i)) where
  reached_here : (rule : Rule) (n : ℕ) (c to : Cursor) (f : Plain T) → Is names stands rule n c f to → Reached names stands read rule n c f to
  reached_here rule n c to f is = reached names read stands moves again begins atoms rule n c to f is

  true_unary : (n : ℕ) (d to : Cursor) → Stand names true_item d to → Is names stands g.unary n d top to
  true_unary n d to st = a_true n d to (subst (Stands names (word (codes "true")) d) (sym st.2) st.1)

  true_conj : (n : ℕ) (d to : Cursor) → Stand names true_item d to → Is names stands g.conj n d top to
  true_conj n d to st = a_conj n d to top (true_unary n d to st)

  true_formula : (n : ℕ) (d to : Cursor) → Stand names true_item d to → Is names stands g.formula n d top to
  true_formula n d to st = a_formula n d to top (a_disj n d to top (true_conj n d to st))

  -- behind a part and a sign in another text
  sign_there : (z : Sign) (k : ℕ) (c d mid behind : Cursor) → mid ≡ ahead k c → Stands names (sign z) mid behind → Alike (k + 1) d c → Alike k d c × Stands names (sign z) (ahead k d) (ahead (k + 1) d)
  sign_there z k c d mid behind spans st al =
      let p = alike-split k 1 d c al in
      (p.0, subst (Stands names (sign z) (ahead k d)) (ahead-add 1 k d) (stands_like names (sign z) mid behind (ahead k d) st (p.1.0 ∙ ap token (sym spans))))

  with_sign : (z : Sign) (k : ℕ) (c mid behind : Cursor) → mid ≡ ahead k c → ((j : ℕ) → j < k → Solid (ahead j c)) → Stands names (sign z) mid behind → (j : ℕ) → j < k + 1 → Solid (ahead j c)
  with_sign z k c mid behind spans solid st j less = elim (leb_tells k j) [
    | inr few ↦ solid j few.1
    | inl more ↦ let most = more.1 in let e : k ≡ j = omega (arith, less) in subst Solid (spans ∙ ap (λ q. ahead q c) e) (item_solid names (sign z) mid behind st)
  ]

  taken_sign : (z : Sign) (i u : Input) → goes_on z i ≡ Ok (true, u) → Stands names (sign z) i.cursor u.cursor
  taken_sign z i u goes = let t = goes_on_found names z i u goes in subst (Stands names (sign z) i.cursor) (sym t.stand.2) t.stand.1

  chain_on_open : (item : Parser (Plain T)) (z : Sign) (easy_sign : Easy names (sign z)) (join : Plain T → Plain T → Plain T) (n : ℕ) (part whole : Rule)
      → ((i : Input) → Opened names stands part n i.cursor (item i))
      → ((i j : Input) (f : Plain T) → item i ≡ Ok (f, j) → Found names stands part n i f j)
      → ((d mid behind to : Cursor) (f h : Plain T) → Is names stands whole n d f mid → Stands names (sign z) mid behind → Is names stands part n behind h to → Is names stands whole n d (join f h) to)
      → ((d to : Cursor) → Stand names true_item d to → Is names stands part n d top to)
      → (t : ℕ) (left : Plain T) (c : Cursor) (i : Input) → Is names stands whole n c left i.cursor → i.room < t → Opened names stands whole n c (chain_on item z join t left i)
  unfolding chain_on
  chain_on_open item z easy_sign join n part whole opens_item finds_item glue is_true zero left c i is turns = absurd (omega arith)
  chain_on_open item z easy_sign join n part whole opens_item finds_item glue is_true (suc t) left c i is turns =
      let p = reached_here whole n c i.cursor left is in
      bind_open names stands whole n c (goes_on z i) (λ more. if more then (λ u. and_then (item u) (λ right. chain_on item z join t (join left right))) else pure left)
      (here_open names stands whole n c p.k p.solid (sign z ∷ true_item) (omega arith) (easy_sign, easy_true names) (goes_on z i)
      (λ d to al st. (join left top, glue d (ahead p.k d) st.0 to left top (p.moved d al) st.1 (is_true st.0 to st.2)))
      (subst (λ x. Here x (goes_on z i)) p.spans (goes_on_here z i)))
      (by p (λ left i is turns. chain_on_open item z easy_sign join n part whole opens_item finds_item glue is_true t left c i is turns))
    where
      by : Reached names stands read whole n c left i.cursor → ((left : Plain T) (i : Input) → Is names stands whole n c left i.cursor → i.room < t → Opened names stands whole n c (chain_on item z join t left i))
          → (b : Bool) (u : Input) → goes_on z i ≡ Ok (b, u) → Opened names stands whole n c ((if b then (λ u. and_then (item u) (λ right. chain_on item z join t (join left right))) else pure left) u)
      by p more false u goes = tt
      by p more true u goes =
          let st = taken_sign z i u goes in
          let spent = (goes_on_found names z i u goes).room in
          let there : u.cursor ≡ ahead (p.k + 1) c = st.behind ∙ ap after p.spans ∙ ahead-add 1 p.k c in
          bind_open names stands whole n c (item u) (λ right. chain_on item z join t (join left right))
          (behind names stands part whole n n c (p.k + 1) (with_sign z p.k c i.cursor u.cursor p.spans p.solid st) (item u)
          (λ d to f al is. let q = sign_there z p.k c d i.cursor u.cursor p.spans st al in (join left f, glue d (ahead p.k d) (ahead (p.k + 1) d) to left f (p.moved d q.0) q.1 is))
          (subst (λ x. Opened names stands part n x (item u)) there (opens_item u)))
          (λ right v reads.
          let found = finds_item u v right reads in
          let fr = found.room in
          more (join left right) v (glue c i.cursor u.cursor v.cursor left right is st found.is) (omega (arith, spent, turns)))

  chain_open : (item : Parser (Plain T)) (z : Sign) (easy_sign : Easy names (sign z)) (join : Plain T → Plain T → Plain T) (n : ℕ) (part whole : Rule)
      → ((i : Input) → Opened names stands part n i.cursor (item i))
      → ((i j : Input) (f : Plain T) → item i ≡ Ok (f, j) → Found names stands part n i f j)
      → ((d mid behind to : Cursor) (f h : Plain T) → Is names stands whole n d f mid → Stands names (sign z) mid behind → Is names stands part n behind h to → Is names stands whole n d (join f h) to)
      → ((d to : Cursor) → Stand names true_item d to → Is names stands part n d top to)
      → ((d to : Cursor) (f : Plain T) → Is names stands part n d f to → Is names stands whole n d f to)
      → (i : Input) → Opened names stands whole n i.cursor (chain item z join i)
  unfolding chain
  chain_open item z easy_sign join n part whole opens_item finds_item glue is_true first i =
      bind_open names stands whole n i.cursor (item i) (λ left u. chain_on item z join (u.room + 1) left u)
      (under names stands part whole n n i.cursor (item i) (λ d to f is. (f, first d to f is)) (opens_item i))
      (λ left u reads. chain_on_open item z easy_sign join n part whole opens_item finds_item glue is_true (u.room + 1) left i.cursor u (first i.cursor u.cursor left (finds_item i u left reads).is) (omega arith))

  -- ---- each rule, where operands are known

  module _ (n : ℕ) (u : Parser (Plain T)) (opens_unary : (i : Input) → Opened names stands g.unary n i.cursor (u i))
      (finds_unary : (i j : Input) (f : Plain T) → u i ≡ Ok (f, j) → Found names stands g.unary n i f j) where
    conjunction_open : (i : Input) → Opened names stands g.conj n i.cursor (conjunction u i)
    unfolding conjunction
    conjunction_open i =
        chain_open u s.And (λ some. (codes "&", widened (and_stands names))) both n g.unary g.conj opens_unary finds_unary (λ d mid behind to f h a b c. an_and n d mid behind to f h a b c) (true_unary n) (λ d to f is. a_conj n d to f is) i

    disjunction_open : (i : Input) → Opened names stands g.disj n i.cursor (disjunction u i)
    unfolding disjunction
    disjunction_open i =
        chain_open (conjunction u) s.Or (λ some. (codes "|", widened (or_stands names))) either n g.conj g.disj conjunction_open (conjunction_found names stands n u finds_unary) (λ d mid behind to f h a b c. an_or n d mid behind to f h a b c) (true_conj n)
        (λ d to f is. a_disj n d to f is) i

    arrows_on_open : (t : ℕ) (fs : List (Plain T)) (i : Input) → i.room < t → Opened names stands g.formula n i.cursor (arrows_on (disjunction u) t fs i)
    unfolding arrows_on
    arrows_on_open zero fs i turns = absurd (omega arith)
    arrows_on_open (suc t) fs i turns =
        bind_open names stands g.formula n i.cursor (disjunction u i) (λ f. goes_on s.Arrow >>= (λ more. if more then arrows_on (disjunction u) t (fs ++ f ∷ []) else pure (implied fs f)))
        (under names stands g.disj g.formula n n i.cursor (disjunction u i) (λ d to f is. (f, a_formula n d to f is)) (disjunction_open i))
        (λ f j reads.
        let found = disjunction_found names stands n u finds_unary i j f reads in
        let p = reached_here g.disj n i.cursor j.cursor f found.is in
        let fr = found.room in
        bind_open names stands g.formula n i.cursor (goes_on s.Arrow j) (λ more. if more then arrows_on (disjunction u) t (fs ++ f ∷ []) else pure (implied fs f))
        (here_open names stands g.formula n i.cursor p.k p.solid (sign s.Arrow ∷ true_item) (omega arith) ((λ some. (codes "->", widened (arrow_stands names))), easy_true names) (goes_on s.Arrow j)
        (λ d to al st. (implies f top, an_implies n d (ahead p.k d) st.0 to f top (p.moved d al) st.1 (true_formula n st.0 to st.2)))
        (subst (λ x. Here x (goes_on s.Arrow j)) p.spans (goes_on_here s.Arrow j)))
        (by f j p (omega (arith, fr, turns)) (λ fs i turns. arrows_on_open t fs i turns)))
      where
        by : (f : Plain T) (j : Input) → Reached names stands read g.disj n i.cursor f j.cursor → j.room ≤ t
            → ((fs : List (Plain T)) (i : Input) → i.room < t → Opened names stands g.formula n i.cursor (arrows_on (disjunction u) t fs i))
            → (b : Bool) (w : Input) → goes_on s.Arrow j ≡ Ok (b, w) → Opened names stands g.formula n i.cursor ((if b then arrows_on (disjunction u) t (fs ++ f ∷ []) else pure (implied fs f)) w)
        by f j p few more false w goes = tt
        by f j p few more true w goes =
            let st = taken_sign s.Arrow j w goes in
            let spent = (goes_on_found names s.Arrow j w goes).room in
            let there : w.cursor ≡ ahead (p.k + 1) i.cursor = st.behind ∙ ap after p.spans ∙ ahead-add 1 p.k i.cursor in
            behind names stands g.formula g.formula n n i.cursor (p.k + 1) (with_sign s.Arrow p.k i.cursor j.cursor w.cursor p.spans p.solid st) (arrows_on (disjunction u) t (fs ++ f ∷ []) w)
            (λ d to h al is. let q = sign_there s.Arrow p.k i.cursor d j.cursor w.cursor p.spans st al in (implies f h, an_implies n d (ahead p.k d) (ahead (p.k + 1) d) to f h (p.moved d q.0) q.1 is))
            (subst (λ x. Opened names stands g.formula n x (arrows_on (disjunction u) t (fs ++ f ∷ []) w)) there (more (fs ++ f ∷ []) w (omega (arith, spent, few))))

    formula_of_open : (i : Input) → Opened names stands g.formula n i.cursor (formula_of u i)
    unfolding formula_of arrows
    formula_of_open i = arrows_on_open (i.room + 1) [] i (omega arith)

    -- behind a `(` at c
    bracketed_open : (c : Cursor) (i : Input) → Stands names (sign s.Open) c i.cursor → Opened names stands g.unary (suc n) c (bracketed u i)
    bracketed_open c i st =
        bind_open names stands g.unary (suc n) c (formula_of u i) (λ f. expect s.Close >> pure f)
        (closing (formula_of u i) (formula_of_open i))
        (λ f j reads.
        let found = formula_of_found names stands n u finds_unary i j f reads in
        let p = reached_here g.formula n i.cursor j.cursor f found.is in
        bind_open names stands g.unary (suc n) c (expect s.Close j) (λ w. pure f)
        (here_open names stands g.unary (suc n) c (suc p.k) (first p.k p.solid) (sign s.Close ∷ []) (omega arith) ((λ some. (codes ")", widened (close_stands names))), tt) (expect s.Close j)
        (λ d to al rest. (
          f,
          a_bracket n d (after d) (ahead p.k (after d)) to f (stands_like names (sign s.Open) c i.cursor d st al.0)
              (p.moved (after d) (subst (Alike p.k (after d)) (sym st.behind) al.1)) (subst (Stands names (sign s.Close) (ahead p.k (after d))) (sym rest.2) rest.1),
        ))
        (subst (λ x. Here x (expect s.Close j)) (p.spans ∙ ap (ahead p.k) st.behind) (expect_here s.Close j)))
        (λ w k is. tt))
      where
        -- the bracket and the tokens behind it
        first : (k : ℕ) → ((j : ℕ) → j < k → Solid (ahead j i.cursor)) → (j : ℕ) → j < suc k → Solid (ahead j c)
        first k solid zero less = item_solid names (sign s.Open) c i.cursor st
        first k solid (suc j) less = subst (λ x. Solid (ahead j x)) st.behind (solid j (omega arith))

        closing : {A : Type 0} (o : Outcome A) → Opened names stands g.formula n i.cursor o → Opened names stands g.unary (suc n) c o
        closing (Ok p) inner = tt
        closing (Err e) inner = record {
          m = suc inner.m;
          at = subst (λ x. ((l : Lexeme) × (why : TextKind) × (token x ≡ Ok l) × (e ≡ At l.place why)) ⊎ (token x ≡ Err e)) (ap (ahead inner.m) st.behind) inner.at;
          rest = inner.rest ++ sign s.Close ∷ [];
          some = let z = inner.some in omega (arith, length-append inner.rest (sign s.Close ∷ []), z);
          solid = first inner.m inner.solid;
          easy = easy-append names inner.rest (sign s.Close ∷ []) inner.easy ((λ some. (codes ")", widened (close_stands names))), tt);
          whole = λ d to al rest.
              let sp = stand-split names inner.rest (sign s.Close ∷ []) (ahead inner.m (after d)) to rest in
              let w = inner.whole (after d) sp.0 (subst (Alike inner.m (after d)) (sym st.behind) al.1) sp.1 in
              (w.0, a_bracket n d (after d) sp.0 to w.0 (stands_like names (sign s.Open) c i.cursor d st al.0) w.1 (subst (Stands names (sign s.Close) sp.0) (sym sp.2.2) sp.2.1));
        }

    -- behind a `!` at c
    negated_open : (c : Cursor) (i : Input) → Stands names (sign s.Not) c i.cursor → Opened names stands g.unary (suc n) c (negated u i)
    negated_open c i st =
        bind_open names stands g.unary (suc n) c (u i) (λ f. pure (neg f))
        (behind names stands g.unary g.unary n (suc n) c 1 (λ j less. subst Solid (let e : 0 ≡ j = omega arith in ap (λ q. ahead q c) e) (item_solid names (sign s.Not) c i.cursor st)) (u i)
        (λ d to f al is. (neg f, a_not n d (after d) to f (stands_like names (sign s.Not) c i.cursor d st al.0) is))
        (subst (λ x. Opened names stands g.unary n x (u i)) st.behind (opens_unary i)))
        (λ f j is. tt)

  -- ---- operands

  -- a fault of the first token, where an operand may stand
  operand_here : {A : Type 0} (n : ℕ) (c : Cursor) (o : Outcome A) → Here c o → Opened names stands g.unary n c o
  operand_here n c o here = here_open names stands g.unary n c 0 (λ j less. absurd (omega arith)) true_item (omega arith) (easy_true names) o (λ d to al st. (top, true_unary n d to st)) here

  abbrev BelowOpen : ℕ → Option (Parser (Plain T)) → Type 0
  BelowOpen n None = Unit {0}
  BelowOpen n (Some u) = (m : ℕ) × (n ≡ suc m) × ((i : Input) → Opened names stands g.unary m i.cursor (u i)) × ((i j : Input) (f : Plain T) → u i ≡ Ok (f, j) → Found names stands g.unary m i f j)

  deeper_not : (n : ℕ) (below : Option (Parser (Plain T))) → BelowOpen n below → (c : Cursor) (t : Lexeme) → token c ≡ Ok t → (i : Input) → Stands names (sign s.Not) c i.cursor
      → Opened names stands g.unary n c (deeper t.place below negated i)
  deeper_not n None b c t is i st = operand_here {A = Plain T} n c (Err (At t.place TooDeep)) (inl (t, TooDeep, is, refl))
  deeper_not n (Some u) b c t is i st = subst (λ k. Opened names stands g.unary k c (negated u i)) (sym b.1) (negated_open b.0 u b.2 b.3 c i st)

  deeper_bracket : (n : ℕ) (below : Option (Parser (Plain T))) → BelowOpen n below → (c : Cursor) (t : Lexeme) → token c ≡ Ok t → (i : Input) → Stands names (sign s.Open) c i.cursor
      → Opened names stands g.unary n c (deeper t.place below bracketed i)
  deeper_bracket n None b c t is i st = operand_here {A = Plain T} n c (Err (At t.place TooDeep)) (inl (t, TooDeep, is, refl))
  deeper_bracket n (Some u) b c t is i st = subst (λ k. Opened names stands g.unary k c (bracketed u i)) (sym b.1) (bracketed_open b.0 u b.2 b.3 c i st)

  atom_open : (n : ℕ) (c : Cursor) (o : Outcome T) → OpenedAtom names stands c o → Opened names stands g.unary n c o
  atom_open n c (Ok p) a = tt
  atom_open n c (Err e) (inl here) = operand_here {A = Plain T} n c (Err e) here
  atom_open n c (Err e) (inr a) = record {
    m = a.m;
    at = a.at;
    rest = a.rest;
    some = a.some;
    solid = a.solid;
    easy = a.easy;
    whole = λ d to al st. let w = a.whole d to al st in (atom w.0, an_atom n d to w.0 w.1);
  }

  operand_open : (n : ℕ) (below : Option (Parser (Plain T))) → BelowOpen n below → (i : Input) → Opened names stands g.unary n i.cursor (operand read below i)
  unfolding operand
  operand_open n below b i =
      bind_open names stands g.unary n i.cursor (peek i) (λ t. operand_by read below (start t) t.place) (operand_here n i.cursor (peek i) (peek_here i)) (λ t j is.
      let found = peek_found i j t is in
      subst (λ q. Opened names stands g.unary n i.cursor (operand_by read below (start t) t.place q)) (sym found.1) (by t found.0 (start t) (opens t (start t) refl)))
    where
      node_next : (t : Lexeme) → token i.cursor ≡ Ok t → Here i.cursor (and_then (node t.place i) (λ u. next))
      node_next t is =
          bind_here i.cursor (node t.place i) (λ u. next) (node_here i.cursor t is i) (λ u k noded. subst (λ q. Here q (next k)) (node_found t.place i k u noded).0 (next_here k))

      -- the token that is taken
      taken : (t : Lexeme) → token i.cursor ≡ Ok t → (w : Lexeme) (k : Input) → and_then (node t.place i) (λ u. next) ≡ Ok (w, k) → k.cursor ≡ after i.cursor
      taken t is w k h = bind_then (node t.place i) (λ u. next) (w, k) h (λ u l noded takes. ap (λ q. q.cursor) (next_found l k w takes).1 ∙ ap after (node_found t.place i l u noded).0)

      by : (t : Lexeme) → token i.cursor ≡ Ok t → (o : Opening) → Opens o t.kind t.text → Opened names stands g.unary n i.cursor (operand_by read below o t.place i)
      by t is Negation is_not =
          bind_open names stands g.unary n i.cursor (and_then (node t.place i) (λ u. next)) (λ w. deeper t.place below negated)
          (operand_here n i.cursor (and_then (node t.place i) (λ u. next)) (node_next t is))
          (λ w k h. deeper_not n below b i.cursor t is k (record { lexeme = t; read = is; matches = is_not; behind = taken t is w k h }))
      by t is Bracket is_open =
          bind_open names stands g.unary n i.cursor (next i) (λ w. deeper t.place below bracketed) (operand_here n i.cursor (next i) (next_here i))
          (λ w k h. deeper_bracket n below b i.cursor t is k (record { lexeme = t; read = is; matches = is_open; behind = ap (λ q. q.cursor) (next_found i k w h).1 }))
      by t is (Constant v) is_constant =
          bind_open names stands g.unary n i.cursor (and_then (node t.place i) (λ u. next)) (λ w. pure (truth {T = T} v))
          (operand_here n i.cursor (and_then (node t.place i) (λ u. next)) (node_next t is)) (λ w k h. tt)
      by t is Atom is_atom =
          bind_open names stands g.unary n i.cursor (read i) (λ a. pure (atom a)) (atom_open n i.cursor (read i) (open_atoms i)) (λ a k h. tt)

  unary_open : (n : ℕ) (i : Input) → Opened names stands g.unary n i.cursor (unary read n i)
  unfolding unary
  unary_open zero i = operand_open zero None tt i
  unary_open (suc n) i = operand_open (suc n) (Some (unary read n)) (n, refl, unary_open n, unary_found names read stands finds n) i

  pub formula_open : (n : ℕ) (i : Input) → Opened names stands g.formula n i.cursor (formula_of (unary read n) i)
  formula_open n i = formula_of_open n (unary read n) (unary_open n) (unary_found names read stands finds n) i
