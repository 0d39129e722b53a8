-- The token of a limit's fault can be gone on with, one level deeper and with more nodes.
use Rattle.std.proofs.Common.{◌≡◌, ℕ, zero, suc, ◌+◌, ◌-◌, ◌<◌, ◌≤◌, ◌==◌, Bool, true, false, Ok, Err, Some, None, List, [], ◌∷◌, ◌++◌, refl, ap, sym, ◌∙◌, subst, arith, inl, inr}
use Rattle.std.specs.Prelude.{◌⊎◌, if◌then◌else◌, Option, codes, Result}
use Rattle.pg_lex.specs.declared.token.Sign.{Sign}
use Rattle.pg_lex.specs.declared.token.Sign.TheVariants as s
use Rattle.pg_lex.specs.declared.fault.TextFault.{TextFault}
use Rattle.pg_lex.specs.declared.fault.TextFault.TheVariants.{At}
use Rattle.pg_lex.specs.declared.fault.TextKind.{TextKind}
use Rattle.pg_lex.specs.declared.fault.TextKind.TheVariants.{TooMany, TooDeep, Unexpected}
use Rattle.pg_lex.specs.Lex.{Cursor, Lexeme, token, after}
use Rattle.pg_lex.specs.Laws.{Refuses}
use Rattle.pg_lex.proofs.Cursors.{faults_are_exact}
use Rattle.pg_program.specs.NameTable.{NameTable}
use Rattle.pg_assertion.specs.Formula.{Plain, top, bottom, atom, neg, both, either, implies}
use Rattle.pg_assertion_text.specs.declared.formula.Opening.{Opening}
use Rattle.pg_assertion_text.specs.declared.formula.Opening.TheVariants.{Negation, Bracket, Constant, Atom}
use Rattle.pg_assertion_text.specs.Words.{Item, Stands, Stand, sign, word}
use Rattle.pg_assertion_text.specs.Input.{Input, Outcome, Parser, and_then, ◌>>=◌, ◌>>◌, pure, refuse, seen, peek, next, node, goes_on, expect, is_sign}
use Rattle.pg_assertion_text.specs.Reading.{chain_on, chain, implied, arrows_on, arrows, conjunction, disjunction, formula_of, start, truth, deeper, negated, bracketed, operand_by, operand, unary}
use Rattle.pg_assertion_text.specs.Grammar.{Rule, Is, a_true, a_false, an_atom, a_not, a_bracket, a_conj, an_and, a_disj, an_or, a_formula, an_implies}
use Rattle.pg_assertion_text.specs.Grammar as g
use Rattle.pg_assertion_text.specs.Laws.{BeginsAtom}
use Rattle.pg_assertion_text.proofs.Steps.{bind_then, peek_found, next_found, node_found, goes_on_found, is_sign_found, stand-split}
use Rattle.pg_assertion_text.specs.Agreement.{ahead, Alike, FaultAt, IsLimit}
use Rattle.pg_assertion_text.proofs.Begins.{Opens, opens}
use Rattle.pg_assertion_text.proofs.Complete.{at}
use Rattle.pg_assertion_text.proofs.SpellingTokens.{widened, close_stands}
use Rattle.pg_assertion_text.proofs.Sound.{Found, conjunction_found, disjunction_found, unary_found}
use Rattle.pg_assertion_text.proofs.Moves.{ahead-add, Moves}
use Rattle.pg_assertion_text.proofs.Reaches.{alike-split, stands_like, Solid, item_solid, solid_from, Reached, ReachedAtom, reached}
use Rattle.pg_assertion_text.proofs.Opens.{AllEasy, easy-append, true_item, easy_true, fault_shift}

-- one level deeper the grammar has no less
deeper_is : {T : Type 0} (names : NameTable) (stands : Cursor → T → Cursor → Type 0) (rule : Rule) (n : ℕ) (c to : Cursor) (f : Plain T) → Is names stands rule n c f to → Is names stands rule (suc n) c f to
deeper_is names stands _ _ _ _ _ (a_true n d to st) = a_true (suc n) d to st
deeper_is names stands _ _ _ _ _ (a_false n d to st) = a_false (suc n) d to st
deeper_is names stands _ _ _ _ _ (an_atom n d to a st) = an_atom (suc n) d to a st
deeper_is names stands _ _ _ _ _ (a_not n d mid to f st is) = a_not (suc n) d mid to f st (deeper_is names stands g.unary n mid to f is)
deeper_is names stands _ _ _ _ _ (a_bracket n d mid end to f st is close) = a_bracket (suc n) d mid end to f st (deeper_is names stands g.formula n mid end f is) close
deeper_is names stands _ _ _ _ _ (a_conj n d to f is) = a_conj (suc n) d to f (deeper_is names stands g.unary n d to f is)
deeper_is names stands _ _ _ _ _ (an_and n d mid behind to f h is st more) = an_and (suc n) d mid behind to f h (deeper_is names stands g.conj n d mid f is) st (deeper_is names stands g.unary n behind to h more)
deeper_is names stands _ _ _ _ _ (a_disj n d to f is) = a_disj (suc n) d to f (deeper_is names stands g.conj n d to f is)
deeper_is names stands _ _ _ _ _ (an_or n d mid behind to f h is st more) = an_or (suc n) d mid behind to f h (deeper_is names stands g.disj n d mid f is) st (deeper_is names stands g.conj n behind to h more)
deeper_is names stands _ _ _ _ _ (a_formula n d to f is) = a_formula (suc n) d to f (deeper_is names stands g.disj n d to f is)
deeper_is names stands _ _ _ _ _ (an_implies n d mid behind to f h is st more) = an_implies (suc n) d mid behind to f h (deeper_is names stands g.disj n d mid f is) st (deeper_is names stands g.formula n behind to h more)

-- the lexer has no limit's fault
token_no_limit : (c : Cursor) (e : TextFault) → token c ≡ Err e → IsLimit e → ⊥
token_no_limit c e is (p, inl many) = (subst (Refuses c) many (faults_are_exact c e is)).is_fault
token_no_limit c e is (p, inr deep) = (subst (Refuses c) deep (faults_are_exact c e is)).is_fault

-- Behind the next m tokens and the one of the fault, in any text that has them, these items make a phrase whole.
pub record Limit {T : Type 0} (names : NameTable) (stands : Cursor → T → Cursor → Type 0) (rule : Rule) (n : ℕ) (c : Cursor) (e : TextFault) : Type 0 where
  pub m : ℕ
  pub at : FaultAt c m e
  pub rest : List Item
  pub solid : (j : ℕ) → j < m + 1 → Solid (ahead j c)
  pub easy : AllEasy names rest
  pub whole : (d to : Cursor) → Alike (m + 1) d c → Stand names rest (ahead (m + 1) d) to → (f : Plain T) × Is names stands rule (suc n) d f to

abbrev pub Limited : {T A : Type 0} → NameTable → (Cursor → T → Cursor → Type 0) → Rule → ℕ → Cursor → Outcome A → Type 0
Limited names stands rule n c (Ok p) = Unit {0}
Limited names stands rule n c (Err e) = IsLimit e → Limit names stands rule n c e

-- a fault that is no limit's
abbrev pub Free : {A : Type 0} → Outcome A → Type 0
Free (Ok p) = Unit {0}
Free (Err e) = IsLimit e → ⊥

free_limited : {T A : Type 0} (names : NameTable) (stands : Cursor → T → Cursor → Type 0) (rule : Rule) (n : ℕ) (c : Cursor) (o : Outcome A) → Free o → Limited names stands rule n c o
free_limited names stands rule n c (Ok p) free = tt
free_limited names stands rule n c (Err e) free = λ l. absurd (free l)

seen_free : (c : Cursor) (j : Input) (r : Result Lexeme TextFault) → token c ≡ r → Free (seen j r)
seen_free c j (Ok l) is = tt
seen_free c j (Err e) is = token_no_limit c e is

peek_free : (i : Input) → Free (peek i)
unfolding peek
peek_free i = seen_free i.cursor i (token i.cursor) refl

pub next_free : (i : Input) → Free (next i)
unfolding next
next_free i = seen_free i.cursor (record i { cursor = after i.cursor }) (token i.cursor) refl

pub bind_free : {A B : Type 0} (o : Outcome A) (f : A → Parser B) → Free o → ((a : A) (j : Input) → o ≡ Ok (a, j) → Free (f a j)) → Free (and_then o f)
bind_free (Ok p) f first rest = rest p.0 p.1 refl
bind_free (Err e) f first rest = first

pub expect_free : (z : Sign) (i : Input) → Free (expect z i)
unfolding expect
expect_free z i = bind_free (next i) (λ t. if is_sign z t.kind then pure tt else refuse t.place Unexpected) (next_free i) (λ t j is. by t j (is_sign z t.kind))
  where
    by : (t : Lexeme) (j : Input) (b : Bool) → Free {A = Unit {0}} ((if b then pure tt else refuse t.place Unexpected) j)
    by t j true = tt
    by t j false = none t.place
      where
        none : (p : ℕ) → IsLimit (At p Unexpected) → ⊥
        none p (q, inl e) = cc
        none p (q, inr e) = cc

-- what is known of a fault of one token, where it is a limit's
abbrev pub AtToken : {A : Type 0} → Type 0 → Cursor → Outcome A → Type 0
AtToken X c (Ok p) = Unit {0}
AtToken X c (Err e) = IsLimit e → FaultAt c 0 e × X

bind_token : {A B : Type 0} (X : Type 0) (c : Cursor) (o : Outcome A) (f : A → Parser B) → AtToken X c o → ((a : A) (j : Input) → o ≡ Ok (a, j) → AtToken X c (f a j)) → AtToken X c (and_then o f)
bind_token X c (Ok p) f first rest = rest p.0 p.1 refl
bind_token X c (Err e) f first rest = first

free_token : {A : Type 0} (X : Type 0) (c : Cursor) (o : Outcome A) → Free o → AtToken X c o
free_token X c (Ok p) free = tt
free_token X c (Err e) free = λ l. absurd (free l)

node_token : (X : Type 0) (c : Cursor) (t : Lexeme) → token c ≡ Ok t → X → (i : Input) → AtToken X c (node t.place i)
unfolding node
node_token X c t is x i = by (i.room == 0)
  where
    by : (b : Bool) → AtToken {A = Unit {0}} X c (if b then Err (At t.place TooMany) else Ok (tt, record i { room = i.room - 1 }))
    by true = λ l. (inl (t, TooMany, is, refl), x)
    by false = tt

goes_on_token : (names : NameTable) (z : Sign) (i : Input) → AtToken (Stands names (sign z) i.cursor (after i.cursor)) i.cursor (goes_on z i)
unfolding goes_on
goes_on_token names z i =
    bind_token (Stands names (sign z) i.cursor (after i.cursor)) i.cursor (peek i) (λ t. if is_sign z t.kind then (node t.place >> next >> pure true) else pure false) (free_token _ i.cursor (peek i) (peek_free i)) (λ t j is.
    by t (peek_found i j t is).0 j (is_sign z t.kind) refl)
  where
    by : (t : Lexeme) → token i.cursor ≡ Ok t → (j : Input) → (b : Bool) → is_sign z t.kind ≡ b
        → AtToken {A = Bool} (Stands names (sign z) i.cursor (after i.cursor)) i.cursor ((if b then (node t.place >> next >> pure true) else pure false) j)
    by t is j false e = tt
    by t is j true e =
        let st : Stands names (sign z) i.cursor (after i.cursor) = record { lexeme = t; read = is; matches = is_sign_found z t.kind e; behind = refl } in
        bind_token _ i.cursor (and_then (node t.place j) (λ u. next)) (λ u. pure true)
        (bind_token _ i.cursor (node t.place j) (λ u. next) (node_token (Stands names (sign z) i.cursor (after i.cursor)) i.cursor t is st j) (λ u k noded. free_token _ i.cursor (next k) (next_free k)))
        (λ u k is. tt)

-- ---- put together

bind_limit : {T A B : Type 0} (names : NameTable) (stands : Cursor → T → Cursor → Type 0) (rule : Rule) (n : ℕ) (c : Cursor) (o : Outcome A) (f : A → Parser B) → Limited names stands rule n c o
    → ((a : A) (j : Input) → o ≡ Ok (a, j) → Limited names stands rule n c (f a j)) → Limited names stands rule n c (and_then o f)
bind_limit names stands rule n c (Ok p) f first rest = rest p.0 p.1 refl
bind_limit names stands rule n c (Err e) f first rest = first

-- behind k tokens; where k is none, one rule in place of another
behind_limit : {T A : Type 0} (names : NameTable) (stands : Cursor → T → Cursor → Type 0) (part whole : Rule) (n m : ℕ) (c : Cursor) (k : ℕ) → ((j : ℕ) → j < k → Solid (ahead j c)) → (o : Outcome A)
    → ((d to : Cursor) (f : Plain T) → Alike k d c → Is names stands part (suc n) (ahead k d) f to → (g : Plain T) × Is names stands whole (suc m) d g to)
    → Limited names stands part n (ahead k c) o → Limited names stands whole m c o
behind_limit names stands part whole n m c k solid (Ok p) up inner = tt
behind_limit names stands part whole n m c k solid (Err e) up inner = λ l. by (inner l)
  where
    by : Limit names stands part n (ahead k c) e → Limit names stands whole m c e
    by o =
        let sum : k + (o.m + 1) ≡ k + o.m + 1 = omega arith in
        record {
          m = k + o.m;
          at = fault_shift k o.m c e o.at;
          rest = o.rest;
          solid = λ j less. solid_from k (o.m + 1) c solid o.solid j (omega (arith, less));
          easy = o.easy;
          whole = λ d to al st.
              let p = alike-split k (o.m + 1) d c (subst (λ q. Alike q d c) (sym sum) al) in
              let w = o.whole (ahead k d) to p.1 (subst (λ x. Stand names o.rest x to) (sym (ahead-add (o.m + 1) k d ∙ ap (λ q. ahead q d) sum)) st) in
              up d to w.0 p.0 w.1;
        }

-- behind k tokens the next one has the fault
here_limit : {T A X : Type 0} (names : NameTable) (stands : Cursor → T → Cursor → Type 0) (whole : Rule) (n : ℕ) (c : Cursor) (k : ℕ) → ((j : ℕ) → j < k → Solid (ahead j c)) → (rest : List Item) → AllEasy names rest → (o : Outcome A)
    → (X → Solid (ahead k c)) → (X → (d to : Cursor) → Alike (k + 1) d c → Stand names rest (ahead (k + 1) d) to → (g : Plain T) × Is names stands whole (suc n) d g to)
    → AtToken X (ahead k c) o → Limited names stands whole n c o
here_limit names stands whole n c k solid rest easy (Ok p) firm up here = tt
here_limit {T} {A} {X} names stands whole n c k solid rest easy (Err e) firm up here = λ l. by (here l)
  where
    by : FaultAt (ahead k c) 0 e × X → Limit names stands whole n c e
    by h = record {
      m = k;
      at = let z : k + 0 ≡ k = omega arith in subst (λ q. FaultAt c q e) z (fault_shift k 0 c e h.0);
      rest = rest;
      solid = λ j less. solid_from k 1 c solid (one (firm h.1)) j less;
      easy = easy;
      whole = up h.1;
    }
      where
        one : Solid (ahead k c) → (j : ℕ) → j < 1 → Solid (ahead j (ahead k c))
        one here zero less = here
        one here (suc j) less = absurd (omega arith)

-- what is owed of an atom, whose node is that of its first token
pub record LimitAtom {T : Type 0} (names : NameTable) (stands : Cursor → T → Cursor → Type 0) (c : Cursor) (e : TextFault) : Type 0 where
  pub at : FaultAt c 0 e
  pub rest : List Item
  pub here : Solid c
  pub easy : AllEasy names rest
  pub whole : (d to : Cursor) → token d ≡ token c → Stand names rest (after d) to → (a : T) × stands d a to

abbrev pub LimitedAtom : {T : Type 0} → NameTable → (Cursor → T → Cursor → Type 0) → Cursor → Outcome T → Type 0
LimitedAtom names stands c (Ok p) = Unit {0}
LimitedAtom names stands c (Err e) = IsLimit e → LimitAtom names stands c e

module _ {T : Type 0} (names : NameTable) (read : Parser T) (stands : Cursor → T → Cursor → Type 0)
    (moves : Moves read)
    (finds : (i j : Input) (a : T) → read i ≡ Ok (a, j) → stands i.cursor a j.cursor × (i.room ≡ j.room + 1))
    (again : (from to : Cursor) (a : T) (r : ℕ) → stands from a to → 0 < r → read (at from r) ≡ Ok (a, at to (r - 1)))
    (begins : (from to : Cursor) (a : T) → stands from a to → BeginsAtom from)
    (atoms : (d to : Cursor) (a : T) → stands d a to → ReachedAtom stands read d a to)
    (limit_atoms : (i : Input) → LimitedAtom names stands i.cursor (read i)) where
  reached_here : (rule : Rule) (n : ℕ) (c to : Cursor) (f : Plain T) → Is names stands rule n c f to → Reached names stands read rule n c f to
  reached_here rule n c to f is = reached names read stands moves again begins atoms rule n c to f is

  true_unary : (n : ℕ) (d to : Cursor) → Stand names true_item d to → Is names stands g.unary n d top to
  true_unary n d to st = a_true n d to (subst (Stands names (word (codes "true")) d) (sym st.2) st.1)

  true_conj : (n : ℕ) (d to : Cursor) → Stand names true_item d to → Is names stands g.conj n d top to
  true_conj n d to st = a_conj n d to top (true_unary n d to st)

  true_formula : (n : ℕ) (d to : Cursor) → Stand names true_item d to → Is names stands g.formula n d top to
  true_formula n d to st = a_formula n d to top (a_disj n d to top (true_conj n d to st))

  -- behind a part and a sign in another text
  sign_there : (z : Sign) (k : ℕ) (c d mid behind : Cursor) → mid ≡ ahead k c → Stands names (sign z) mid behind → Alike (k + 1) d c → Alike k d c × Stands names (sign z) (ahead k d) (ahead (k + 1) d)
  sign_there z k c d mid behind spans st al =
      let p = alike-split k 1 d c al in
      (p.0, subst (Stands names (sign z) (ahead k d)) (ahead-add 1 k d) (stands_like names (sign z) mid behind (ahead k d) st (p.1.0 ∙ ap token (sym spans))))

  taken_sign : (z : Sign) (i u : Input) → goes_on z i ≡ Ok (true, u) → Stands names (sign z) i.cursor u.cursor
  taken_sign z i u goes = let t = goes_on_found names z i u goes in subst (Stands names (sign z) i.cursor) (sym t.stand.2) t.stand.1

  with_sign : (z : Sign) (k : ℕ) (c mid behind : Cursor) → mid ≡ ahead k c → ((j : ℕ) → j < k → Solid (ahead j c)) → Stands names (sign z) mid behind → (j : ℕ) → j < k + 1 → Solid (ahead j c)
  with_sign z k c mid behind spans solid st = solid_from k 1 c solid one
    where
      one : (j : ℕ) → j < 1 → Solid (ahead j (ahead k c))
      one zero less = subst Solid spans (item_solid names (sign z) mid behind st)
      one (suc j) less = absurd (omega arith)

  chain_on_limit : (item : Parser (Plain T)) (z : Sign) (join : Plain T → Plain T → Plain T) (n : ℕ) (part whole : Rule)
      → ((i : Input) → Limited names stands part n i.cursor (item i))
      → ((i j : Input) (f : Plain T) → item i ≡ Ok (f, j) → Found names stands part n i f j)
      → ((m : ℕ) (d mid behind to : Cursor) (f h : Plain T) → Is names stands whole m d f mid → Stands names (sign z) mid behind → Is names stands part m behind h to → Is names stands whole m d (join f h) to)
      → ((m : ℕ) (d to : Cursor) → Stand names true_item d to → Is names stands part m d top to)
      → (t : ℕ) (left : Plain T) (c : Cursor) (i : Input) → Is names stands whole n c left i.cursor → i.room < t → Limited names stands whole n c (chain_on item z join t left i)
  unfolding chain_on
  chain_on_limit item z join n part whole limits_item finds_item glue is_true zero left c i is turns = absurd (omega arith)
  chain_on_limit item z join n part whole limits_item finds_item glue is_true (suc t) left c i is turns =
      let p = reached_here whole n c i.cursor left is in
      bind_limit names stands whole n c (goes_on z i) (λ more. if more then (λ u. and_then (item u) (λ right. chain_on item z join t (join left right))) else pure left)
      (here_limit {X = Stands names (sign z) i.cursor (after i.cursor)} names stands whole n c p.k p.solid true_item (easy_true names) (goes_on z i)
      (λ st. subst Solid p.spans (item_solid names (sign z) i.cursor (after i.cursor) st))
      (λ st d to al rest. let q = sign_there z p.k c d i.cursor (after i.cursor) p.spans st al in
      (join left top, glue (suc n) d (ahead p.k d) (ahead (p.k + 1) d) to left top (deeper_is names stands whole n d (ahead p.k d) left (p.moved d q.0)) q.1 (is_true (suc n) (ahead (p.k + 1) d) to rest)))
      (subst (λ x. AtToken (Stands names (sign z) i.cursor (after i.cursor)) x (goes_on z i)) p.spans (goes_on_token names z i)))
      (by p (λ left i is turns. chain_on_limit item z join n part whole limits_item finds_item glue is_true t left c i is turns))
    where
      by : Reached names stands read whole n c left i.cursor → ((left : Plain T) (i : Input) → Is names stands whole n c left i.cursor → i.room < t → Limited names stands whole n c (chain_on item z join t left i))
          → (b : Bool) (u : Input) → goes_on z i ≡ Ok (b, u) → Limited names stands whole n c ((if b then (λ u. and_then (item u) (λ right. chain_on item z join t (join left right))) else pure left) u)
      by p more false u goes = tt
      by p more true u goes =
          let st = taken_sign z i u goes in
          let spent = (goes_on_found names z i u goes).room in
          let there : u.cursor ≡ ahead (p.k + 1) c = st.behind ∙ ap after p.spans ∙ ahead-add 1 p.k c in
          bind_limit names stands whole n c (item u) (λ right. chain_on item z join t (join left right))
          (behind_limit names stands part whole n n c (p.k + 1) (with_sign z p.k c i.cursor u.cursor p.spans p.solid st) (item u)
          (λ d to f al is. let q = sign_there z p.k c d i.cursor u.cursor p.spans st al in
          (join left f, glue (suc n) d (ahead p.k d) (ahead (p.k + 1) d) to left f (deeper_is names stands whole n d (ahead p.k d) left (p.moved d q.0)) q.1 is))
          (subst (λ x. Limited names stands part n x (item u)) there (limits_item u)))
          (λ right v reads.
          let found = finds_item u v right reads in
          let fr = found.room in
          more (join left right) v (glue n c i.cursor u.cursor v.cursor left right is st found.is) (omega (arith, spent, turns)))

  under_limit : {A : Type 0} (part whole : Rule) (n : ℕ) (c : Cursor) (o : Outcome A) → ((d to : Cursor) (f : Plain T) → Is names stands part (suc n) d f to → Is names stands whole (suc n) d f to)
      → Limited names stands part n c o → Limited names stands whole n c o
  under_limit part whole n c o up inner = behind_limit names stands part whole n n c 0 (λ j less. absurd (omega arith)) o (λ d to f al is. (f, up d to f is)) inner

  chain_limit : (item : Parser (Plain T)) (z : Sign) (join : Plain T → Plain T → Plain T) (n : ℕ) (part whole : Rule)
      → ((i : Input) → Limited names stands part n i.cursor (item i))
      → ((i j : Input) (f : Plain T) → item i ≡ Ok (f, j) → Found names stands part n i f j)
      → ((m : ℕ) (d mid behind to : Cursor) (f h : Plain T) → Is names stands whole m d f mid → Stands names (sign z) mid behind → Is names stands part m behind h to → Is names stands whole m d (join f h) to)
      → ((m : ℕ) (d to : Cursor) → Stand names true_item d to → Is names stands part m d top to)
      → ((m : ℕ) (d to : Cursor) (f : Plain T) → Is names stands part m d f to → Is names stands whole m d f to)
      → (i : Input) → Limited names stands whole n i.cursor (chain item z join i)
  unfolding chain
  chain_limit item z join n part whole limits_item finds_item glue is_true first i =
      bind_limit names stands whole n i.cursor (item i) (λ left u. chain_on item z join (u.room + 1) left u)
      (under_limit part whole n i.cursor (item i) (first (suc n)) (limits_item i))
      (λ left u reads. chain_on_limit item z join n part whole limits_item finds_item glue is_true (u.room + 1) left i.cursor u (first n i.cursor u.cursor left (finds_item i u left reads).is) (omega arith))

  module _ (n : ℕ) (u : Parser (Plain T)) (limits_unary : (i : Input) → Limited names stands g.unary n i.cursor (u i))
      (finds_unary : (i j : Input) (f : Plain T) → u i ≡ Ok (f, j) → Found names stands g.unary n i f j) where
    conjunction_limit : (i : Input) → Limited names stands g.conj n i.cursor (conjunction u i)
    unfolding conjunction
    conjunction_limit i = chain_limit u s.And both n g.unary g.conj limits_unary finds_unary (λ m d mid behind to f h a b c. an_and m d mid behind to f h a b c) true_unary (λ m d to f is. a_conj m d to f is) i

    disjunction_limit : (i : Input) → Limited names stands g.disj n i.cursor (disjunction u i)
    unfolding disjunction
    disjunction_limit i =
        chain_limit (conjunction u) s.Or either n g.conj g.disj conjunction_limit (conjunction_found names stands n u finds_unary) (λ m d mid behind to f h a b c. an_or m d mid behind to f h a b c) true_conj
        (λ m d to f is. a_disj m d to f is) i

    arrows_on_limit : (t : ℕ) (fs : List (Plain T)) (i : Input) → i.room < t → Limited names stands g.formula n i.cursor (arrows_on (disjunction u) t fs i)
    unfolding arrows_on
    arrows_on_limit zero fs i turns = absurd (omega arith)
    arrows_on_limit (suc t) fs i turns =
        bind_limit names stands g.formula n i.cursor (disjunction u i) (λ f. goes_on s.Arrow >>= (λ more. if more then arrows_on (disjunction u) t (fs ++ f ∷ []) else pure (implied fs f)))
        (under_limit g.disj g.formula n i.cursor (disjunction u i) (λ d to f is. a_formula (suc n) d to f is) (disjunction_limit i))
        (λ f j reads.
        let found = disjunction_found names stands n u finds_unary i j f reads in
        let p = reached_here g.disj n i.cursor j.cursor f found.is in
        let fr = found.room in
        bind_limit names stands g.formula n i.cursor (goes_on s.Arrow j) (λ more. if more then arrows_on (disjunction u) t (fs ++ f ∷ []) else pure (implied fs f))
        (here_limit {X = Stands names (sign s.Arrow) j.cursor (after j.cursor)} names stands g.formula n i.cursor p.k p.solid true_item (easy_true names) (goes_on s.Arrow j)
        (λ st. subst Solid p.spans (item_solid names (sign s.Arrow) j.cursor (after j.cursor) st))
        (λ st d to al rest. let q = sign_there s.Arrow p.k i.cursor d j.cursor (after j.cursor) p.spans st al in
        (implies f top, an_implies (suc n) d (ahead p.k d) (ahead (p.k + 1) d) to f top (deeper_is names stands g.disj n d (ahead p.k d) f (p.moved d q.0)) q.1 (true_formula (suc n) (ahead (p.k + 1) d) to rest)))
        (subst (λ x. AtToken (Stands names (sign s.Arrow) j.cursor (after j.cursor)) x (goes_on s.Arrow j)) p.spans (goes_on_token names s.Arrow j)))
        (by f j p (omega (arith, fr, turns)) (λ fs i turns. arrows_on_limit t fs i turns)))
      where
        by : (f : Plain T) (j : Input) → Reached names stands read g.disj n i.cursor f j.cursor → j.room ≤ t
            → ((fs : List (Plain T)) (i : Input) → i.room < t → Limited names stands g.formula n i.cursor (arrows_on (disjunction u) t fs i))
            → (b : Bool) (w : Input) → goes_on s.Arrow j ≡ Ok (b, w) → Limited names stands g.formula n i.cursor ((if b then arrows_on (disjunction u) t (fs ++ f ∷ []) else pure (implied fs f)) w)
        by f j p few more false w goes = tt
        by f j p few more true w goes =
            let st = taken_sign s.Arrow j w goes in
            let spent = (goes_on_found names s.Arrow j w goes).room in
            let there : w.cursor ≡ ahead (p.k + 1) i.cursor = st.behind ∙ ap after p.spans ∙ ahead-add 1 p.k i.cursor in
            behind_limit names stands g.formula g.formula n n i.cursor (p.k + 1) (with_sign s.Arrow p.k i.cursor j.cursor w.cursor p.spans p.solid st) (arrows_on (disjunction u) t (fs ++ f ∷ []) w)
            (λ d to h al is. let q = sign_there s.Arrow p.k i.cursor d j.cursor w.cursor p.spans st al in
            (implies f h, an_implies (suc n) d (ahead p.k d) (ahead (p.k + 1) d) to f h (deeper_is names stands g.disj n d (ahead p.k d) f (p.moved d q.0)) q.1 is))
            (subst (λ x. Limited names stands g.formula n x (arrows_on (disjunction u) t (fs ++ f ∷ []) w)) there (more (fs ++ f ∷ []) w (omega (arith, spent, few))))

    formula_of_limit : (i : Input) → Limited names stands g.formula n i.cursor (formula_of u i)
    unfolding formula_of arrows
    formula_of_limit i = arrows_on_limit (i.room + 1) [] i (omega arith)

    -- behind a `(` at c
    bracketed_limit : (c : Cursor) (i : Input) → Stands names (sign s.Open) c i.cursor → Limited names stands g.unary (suc n) c (bracketed u i)
    bracketed_limit c i st =
        bind_limit names stands g.unary (suc n) c (formula_of u i) (λ f. expect s.Close >> pure f)
        (closing (formula_of u i) (formula_of_limit i))
        (λ f j reads. free_limited names stands g.unary (suc n) c (and_then (expect s.Close j) (λ w. pure f)) (bind_free (expect s.Close j) (λ w. pure f) (expect_free s.Close j) (λ w k is. tt)))
      where
        closing : {A : Type 0} (o : Outcome A) → Limited names stands g.formula n i.cursor o → Limited names stands g.unary (suc n) c o
        closing (Ok p) inner = tt
        closing (Err e) inner = λ l. make (inner l)
          where
            make : Limit names stands g.formula n i.cursor e → Limit names stands g.unary (suc n) c e
            make o =
                let sum : suc (o.m + 1) ≡ suc o.m + 1 = omega arith in
                record {
                  m = suc o.m;
                  at = subst (λ x. ((l : Lexeme) × (why : TextKind) × (token x ≡ Ok l) × (e ≡ At l.place why)) ⊎ (token x ≡ Err e)) (ap (ahead o.m) st.behind) o.at;
                  rest = o.rest ++ sign s.Close ∷ [];
                  solid = λ j less. first (o.m + 1) o.solid j (omega (arith, less));
                  easy = easy-append names o.rest (sign s.Close ∷ []) o.easy ((λ some. (codes ")", widened (close_stands names))), tt);
                  whole = λ d to al rest. within o d to (subst (λ q. Alike q d c) (sym sum) al) (subst (λ q. Stand names (o.rest ++ sign s.Close ∷ []) (ahead q d) to) (sym sum) rest);
                }
              where
                first : (k : ℕ) → ((j : ℕ) → j < k → Solid (ahead j i.cursor)) → (j : ℕ) → j < suc k → Solid (ahead j c)
                first k solid zero less = item_solid names (sign s.Open) c i.cursor st
                first k solid (suc j) less = subst (λ x. Solid (ahead j x)) st.behind (solid j (omega arith))

                within : (o : Limit names stands g.formula n i.cursor e) (d to : Cursor) → Alike (suc (o.m + 1)) d c → Stand names (o.rest ++ sign s.Close ∷ []) (ahead (suc (o.m + 1)) d) to → (f : Plain T) × Is names stands g.unary (suc (suc n)) d f to
                within o d to al rest =
                    let sp = stand-split names o.rest (sign s.Close ∷ []) (ahead (o.m + 1) (after d)) to rest in
                    let w = o.whole (after d) sp.0 (subst (Alike (o.m + 1) (after d)) (sym st.behind) al.1) sp.1 in
                    (w.0, a_bracket (suc n) d (after d) sp.0 to w.0 (stands_like names (sign s.Open) c i.cursor d st al.0) w.1 (subst (Stands names (sign s.Close) sp.0) (sym sp.2.2) sp.2.1))

    -- behind a `!` at c
    negated_limit : (c : Cursor) (i : Input) → Stands names (sign s.Not) c i.cursor → Limited names stands g.unary (suc n) c (negated u i)
    negated_limit c i st =
        bind_limit names stands g.unary (suc n) c (u i) (λ f. pure (neg f))
        (behind_limit names stands g.unary g.unary n (suc n) c 1 one (u i)
        (λ d to f al is. (neg f, a_not (suc n) d (after d) to f (stands_like names (sign s.Not) c i.cursor d st al.0) is))
        (subst (λ x. Limited names stands g.unary n x (u i)) st.behind (limits_unary i)))
        (λ f j is. tt)
      where
        one : (j : ℕ) → j < 1 → Solid (ahead j c)
        one zero less = item_solid names (sign s.Not) c i.cursor st
        one (suc j) less = absurd (omega arith)

  -- ---- operands

  abbrev BelowLimit : ℕ → Option (Parser (Plain T)) → Type 0
  BelowLimit n None = Unit {0}
  BelowLimit n (Some u) = (m : ℕ) × (n ≡ suc m) × ((i : Input) → Limited names stands g.unary m i.cursor (u i)) × ((i j : Input) (f : Plain T) → u i ≡ Ok (f, j) → Found names stands g.unary m i f j)

  -- a `!` or a `(` that is one too many
  not_here : {A : Type 0} (n : ℕ) (c : Cursor) (o : Outcome A) → AtToken (Stands names (sign s.Not) c (after c)) c o → Limited names stands g.unary n c o
  not_here n c o here = here_limit {X = Stands names (sign s.Not) c (after c)} names stands g.unary n c 0 (λ j less. absurd (omega arith)) true_item (easy_true names) o
      (λ st. item_solid names (sign s.Not) c (after c) st)
      (λ st d to al rest. (neg top, a_not n d (after d) to top (stands_like names (sign s.Not) c (after c) d st al.0) (true_unary n (after d) to rest))) here

  bracket_here : {A : Type 0} (n : ℕ) (c : Cursor) (o : Outcome A) → AtToken (Stands names (sign s.Open) c (after c)) c o → Limited names stands g.unary n c o
  bracket_here n c o here = here_limit {X = Stands names (sign s.Open) c (after c)} names stands g.unary n c 0 (λ j less. absurd (omega arith)) (word (codes "true") ∷ sign s.Close ∷ [])
      ((easy_true names).0, ((λ some. (codes ")", widened (close_stands names))), tt)) o
      (λ st. item_solid names (sign s.Open) c (after c) st)
      (λ st d to al rest. (
        top,
        a_bracket n d (after d) rest.0 to top (stands_like names (sign s.Open) c (after c) d st al.0) (true_formula n (after d) rest.0 (rest.0, rest.1, refl))
            (subst (Stands names (sign s.Close) rest.0) (sym rest.2.2) rest.2.1),
      )) here

  deeper_not : (n : ℕ) (below : Option (Parser (Plain T))) → BelowLimit n below → (c : Cursor) (t : Lexeme) → token c ≡ Ok t → (i : Input) → (st : Stands names (sign s.Not) c (after c)) → i.cursor ≡ after c
      → Limited names stands g.unary n c (deeper t.place below negated i)
  deeper_not n None b c t is i st at = not_here {A = Plain T} n c (Err (At t.place TooDeep)) (λ l. (inl (t, TooDeep, is, refl), st))
  deeper_not n (Some u) b c t is i st at = subst (λ k. Limited names stands g.unary k c (negated u i)) (sym b.1) (negated_limit b.0 u b.2 b.3 c i (subst (Stands names (sign s.Not) c) (sym at) st))

  deeper_bracket : (n : ℕ) (below : Option (Parser (Plain T))) → BelowLimit n below → (c : Cursor) (t : Lexeme) → token c ≡ Ok t → (i : Input) → (st : Stands names (sign s.Open) c (after c)) → i.cursor ≡ after c
      → Limited names stands g.unary n c (deeper t.place below bracketed i)
  deeper_bracket n None b c t is i st at = bracket_here {A = Plain T} n c (Err (At t.place TooDeep)) (λ l. (inl (t, TooDeep, is, refl), st))
  deeper_bracket n (Some u) b c t is i st at = subst (λ k. Limited names stands g.unary k c (bracketed u i)) (sym b.1) (bracketed_limit b.0 u b.2 b.3 c i (subst (Stands names (sign s.Open) c) (sym at) st))

  constant_here : {A : Type 0} (v : Bool) (n : ℕ) (c : Cursor) (t : Lexeme) → token c ≡ Ok t → Opens (Constant v) t.kind t.text → (o : Outcome A) → AtToken (Unit {0}) c o → Limited names stands g.unary n c o
  constant_here true n c t is w o here =
      let st : Stands names (word (codes "true")) c (after c) = record { lexeme = t; read = is; matches = w; behind = refl } in
      here_limit {X = Unit {0}} names stands g.unary n c 0 (λ j less. absurd (omega arith)) [] tt o (λ x. item_solid names (word (codes "true")) c (after c) st)
      (λ x d to al rest. (top, subst (λ y. Is names stands g.unary (suc n) d top y) (sym rest) (a_true (suc n) d (after d) (stands_like names (word (codes "true")) c (after c) d st al.0)))) here
  constant_here false n c t is w o here =
      let st : Stands names (word (codes "false")) c (after c) = record { lexeme = t; read = is; matches = w; behind = refl } in
      here_limit {X = Unit {0}} names stands g.unary n c 0 (λ j less. absurd (omega arith)) [] tt o (λ x. item_solid names (word (codes "false")) c (after c) st)
      (λ x d to al rest. (bottom, subst (λ y. Is names stands g.unary (suc n) d bottom y) (sym rest) (a_false (suc n) d (after d) (stands_like names (word (codes "false")) c (after c) d st al.0)))) here

  atom_limit : (n : ℕ) (c : Cursor) (o : Outcome T) → LimitedAtom names stands c o → Limited names stands g.unary n c o
  atom_limit n c (Ok p) a = tt
  atom_limit n c (Err e) a = λ l. by (a l)
    where
      by : LimitAtom names stands c e → Limit names stands g.unary n c e
      by a = record {
        m = 0;
        at = a.at;
        rest = a.rest;
        solid = one;
        easy = a.easy;
        whole = λ d to al st. let w = a.whole d to al.0 st in (atom w.0, an_atom (suc n) d to w.0 w.1);
      }
        where
          one : (j : ℕ) → j < 0 + 1 → Solid (ahead j c)
          one zero less = a.here
          one (suc j) less = absurd (omega arith)

  operand_limit : (n : ℕ) (below : Option (Parser (Plain T))) → BelowLimit n below → (i : Input) → Limited names stands g.unary n i.cursor (operand read below i)
  unfolding operand
  operand_limit n below b i =
      bind_limit names stands g.unary n i.cursor (peek i) (λ t. operand_by read below (start t) t.place) (free_limited names stands g.unary n i.cursor (peek i) (peek_free i)) (λ t j is.
      let found = peek_found i j t is in
      subst (λ q. Limited names stands g.unary n i.cursor (operand_by read below (start t) t.place q)) (sym found.1) (by t found.0 (start t) (opens t (start t) refl)))
    where
      node_next : (X : Type 0) (t : Lexeme) → token i.cursor ≡ Ok t → X → AtToken X i.cursor (and_then (node t.place i) (λ u. next))
      node_next X t is x = bind_token X i.cursor (node t.place i) (λ u. next) (node_token X i.cursor t is x i) (λ u k noded. free_token X i.cursor (next k) (next_free k))

      taken : (t : Lexeme) → token i.cursor ≡ Ok t → (w : Lexeme) (k : Input) → and_then (node t.place i) (λ u. next) ≡ Ok (w, k) → k.cursor ≡ after i.cursor
      taken t is w k h = bind_then (node t.place i) (λ u. next) (w, k) h (λ u l noded takes. ap (λ q. q.cursor) (next_found l k w takes).1 ∙ ap after (node_found t.place i l u noded).0)

      by : (t : Lexeme) → token i.cursor ≡ Ok t → (o : Opening) → Opens o t.kind t.text → Limited names stands g.unary n i.cursor (operand_by read below o t.place i)
      by t is Negation is_not =
          let st : Stands names (sign s.Not) i.cursor (after i.cursor) = record { lexeme = t; read = is; matches = is_not; behind = refl } in
          bind_limit names stands g.unary n i.cursor (and_then (node t.place i) (λ u. next)) (λ w. deeper t.place below negated)
          (not_here n i.cursor (and_then (node t.place i) (λ u. next)) (node_next _ t is st))
          (λ w k h. deeper_not n below b i.cursor t is k st (taken t is w k h))
      by t is Bracket is_open =
          let st : Stands names (sign s.Open) i.cursor (after i.cursor) = record { lexeme = t; read = is; matches = is_open; behind = refl } in
          bind_limit names stands g.unary n i.cursor (next i) (λ w. deeper t.place below bracketed) (free_limited names stands g.unary n i.cursor (next i) (next_free i))
          (λ w k h. deeper_bracket n below b i.cursor t is k st (ap (λ q. q.cursor) (next_found i k w h).1))
      by t is (Constant v) is_constant =
          bind_limit names stands g.unary n i.cursor (and_then (node t.place i) (λ u. next)) (λ w. pure (truth {T = T} v))
          (constant_here v n i.cursor t is is_constant (and_then (node t.place i) (λ u. next)) (node_next (Unit {0}) t is tt)) (λ w k h. tt)
      by t is Atom is_atom =
          bind_limit names stands g.unary n i.cursor (read i) (λ a. pure (atom a)) (atom_limit n i.cursor (read i) (limit_atoms i)) (λ a k h. tt)

  unary_limit : (n : ℕ) (i : Input) → Limited names stands g.unary n i.cursor (unary read n i)
  unfolding unary
  unary_limit zero i = operand_limit zero None tt i
  unary_limit (suc n) i = operand_limit (suc n) (Some (unary read n)) (n, refl, unary_limit n, unary_found names read stands finds n) i

  pub formula_limit : (n : ℕ) (i : Input) → Limited names stands g.formula n i.cursor (formula_of (unary read n) i)
  formula_limit n i = formula_of_limit n (unary read n) (unary_limit n) (unary_found names read stands finds n) i
