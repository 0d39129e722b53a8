-- Where a phrase stands in another text, whose next m tokens are the same, the reader gets past these m tokens.
use Rattle.std.proofs.Common.{◌≡◌, ℕ, zero, suc, ◌+◌, ◌-◌, ◌<◌, ◌≤◌, Ok, Some, List, [], ◌∷◌, ◌++◌, refl, ap, sym, ◌∙◌, subst, arith, inl, inr}
use Rattle.std.proofs.lemmas.Bool.Decides.{leb_tells}
use Rattle.std.specs.Prelude.{◌≢◌, if◌then◌else◌, codes}
use Rattle.pg_lex.specs.declared.token.TokenKind.TheVariants as kind
use Rattle.pg_lex.specs.declared.token.Sign.{Sign}
use Rattle.pg_lex.specs.declared.token.Sign.TheVariants as s
use Rattle.pg_lex.specs.Lex.{Cursor, Lexeme, token, after}
use Rattle.pg_program.specs.NameTable.{NameTable}
use Rattle.pg_assertion.specs.Formula.{Plain, top, bottom, atom, neg, both, either, implies, nodes}
use Rattle.pg_assertion_text.specs.declared.formula.Opening.TheVariants.{Negation, Bracket, Atom}
use Rattle.pg_assertion_text.specs.Words.{Item, Matches, Stands, sign, letter, number, word, location, scalar}
use Rattle.pg_assertion_text.specs.Input.{Outcome, Parser, and_then, ◌>>◌, pure, expect}
use Rattle.pg_assertion_text.specs.Reading.{chain_on, implied, arrows_on, arrows, conjunction, disjunction, formula_of, negated, bracketed, unary}
use Rattle.pg_assertion_text.specs.Grammar.{Rule, Is, a_true, a_false, an_atom, a_not, a_bracket, a_conj, an_and, a_disj, an_or, a_formula, an_implies}
use Rattle.pg_assertion_text.specs.Grammar as g
use Rattle.pg_assertion_text.specs.Laws.{BeginsAtom}
use Rattle.pg_assertion_text.proofs.Steps.{goes_on_reads, stands_token}
use Rattle.pg_assertion_text.specs.Agreement.{ahead, Alike}
use Rattle.pg_assertion_text.proofs.Begins.{negation_begins, bracket_begins}
use Rattle.pg_assertion_text.proofs.Complete.{at, claims, operand_of, opened, counted, leaves_other, arrow_turn, disj_whole}
use Rattle.pg_assertion_text.proofs.Moves.{ahead-add, Past, Moves, shift, bind_at, bind_moves, moves_then, moves_pure, expect_moves}
use Rattle.pg_assertion_text.proofs.MovesFormula.{chain_on_moves, chain_past, conjunction_moves, disjunction_moves, arrows_on_past, unary_moves}

-- ---- texts that begin alike

pub alike-split : (k l : ℕ) (c d : Cursor) → Alike (k + l) c d → Alike k c d × Alike l (ahead k c) (ahead k d)
alike-split zero l c d al = (tt, subst (λ n. Alike n c d) (omega arith) al)
alike-split (suc k) l c d al =
    let e : suc k + l ≡ suc (k + l) = omega arith in
    let more = subst (λ n. Alike n c d) e al in
    let rest = alike-split k l (after c) (after d) more.1 in ((more.0, rest.0), rest.1)

pub alike-at : (m k : ℕ) (c d : Cursor) → m ≡ k → Alike m c d → Alike k c d
alike-at m k c d e al = subst (λ n. Alike n c d) e al

pub alike-less : (m k : ℕ) (c d : Cursor) → k ≤ m → Alike m c d → Alike k c d
alike-less m k c d most al = (alike-split k (m - k) c d (subst (λ n. Alike n c d) (omega arith) al)).0

pub alike-rest : (m k : ℕ) (c d : Cursor) → k ≤ m → Alike m c d → Alike (m - k) (ahead k c) (ahead k d)
alike-rest m k c d most al = (alike-split k (m - k) c d (subst (λ n. Alike n c d) (omega arith) al)).1

-- a token that stands in one text stands in the other
pub stands_like : (names : NameTable) (item : Item) (d to c : Cursor) → Stands names item d to → token c ≡ token d → Stands names item c (after c)
stands_like names item d to c st same = record { lexeme = st.lexeme; read = same ∙ st.read; matches = st.matches; behind = refl }

pub past_ok : {A : Type 0} (m k : ℕ) (c : Cursor) (r s : ℕ) (o : Outcome A) (a : A) → o ≡ Ok (a, at (ahead k c) s) → m ≤ k → s ≤ r → Past m c r o
past_ok m k c r s o a is far room = subst (λ o. Past m c r o) (sym is) (record { k = k; far = far; is = refl; room = room })

-- ---- tokens of a phrase

-- a token that may be part of a phrase
abbrev pub Solid : Cursor → Type 0
Solid c = (l : Lexeme) × (token c ≡ Ok l) × (l.kind ≢ kind.End)

no_end : (names : NameTable) (item : Item) (l : Lexeme) → Matches names item l → l.kind ≢ kind.End
no_end names (sign z) l m is = let e = sym m ∙ is in cc
no_end names (letter b) l m is = let e = sym m ∙ is in cc
no_end names (number n) l m is = let e = sym m ∙ is in cc
no_end names (word w) l m is = let e = sym m.0 ∙ is in cc
no_end names (location x) l m is = let e = sym m.0 ∙ is in cc
no_end names (scalar x) l m is = let e = sym m.0 ∙ is in cc

pub item_solid : (names : NameTable) (item : Item) (c to : Cursor) → Stands names item c to → Solid c
item_solid names item c to st = (st.lexeme, st.read, no_end names item st.lexeme st.matches)

-- tokens up to a first one, that one, and those behind it
solid_behind : (k l : ℕ) (c : Cursor) → Solid (ahead k c) → ((j : ℕ) → j < k → Solid (ahead j c)) → ((j : ℕ) → j < l → Solid (ahead j (after (ahead k c))))
    → (j : ℕ) → j < k + suc l → Solid (ahead j c)
solid_behind k l c here first last j most = elim (leb_tells k j) [
  | inr less ↦ first j less.1
  | inl more ↦ let most_is = more.1 in let e : k + (j - k) ≡ j = omega (arith, most_is) in subst Solid (ahead-add (j - k) k c ∙ ap (λ n. ahead n c) e) (by (j - k) (omega (arith, most_is)))
]
  where
    by : (x : ℕ) → x < suc l → Solid (ahead x (ahead k c))
    by zero less = here
    by (suc x) less = last x (omega arith)

-- tokens up to one place, and those behind it
pub solid_from : (k l : ℕ) (c : Cursor) → ((j : ℕ) → j < k → Solid (ahead j c)) → ((j : ℕ) → j < l → Solid (ahead j (ahead k c))) → (j : ℕ) → j < k + l → Solid (ahead j c)
solid_from k l c first last j less = elim (leb_tells k j) [
  | inr few ↦ first j few.1
  | inl more ↦ let most = more.1 in let e : k + (j - k) ≡ j = omega (arith, most) in subst Solid (ahead-add (j - k) k c ∙ ap (λ n. ahead n c) e) (last (j - k) (omega (arith, most)))
]

-- ---- a chain goes on with its sign, and then as far as the item gets

chain_turn : {A : Type 0} (names : NameTable) (item : Parser A) (z : Sign) (join : A → A → A) → Moves item → (turns : ℕ) (left : A) (c : Cursor) (r : ℕ) → r ≤ turns → 0 < r
    → Stands names (sign z) c (after c) → (m : ℕ) → Past m (after c) (r - 1) (item (at (after c) (r - 1))) → Past (suc m) c r (chain_on item z join (suc turns) left (at c r))
unfolding chain_on
chain_turn {A} names item z join moves turns left c r enough some st m past =
    let rest : A → Parser A = λ right. chain_on item z join turns (join left right) in
    subst (λ o. Past (suc m) c r (and_then o (λ more. if more then (λ u. and_then (item u) rest) else pure left))) (sym (goes_on_reads names z (at c r) (after c) st some))
    (shift (suc m) m c r 1 (after c) (r - 1) (and_then (item (at (after c) (r - 1))) rest) refl (omega arith) (omega arith)
    (bind_at m (after c) (r - 1) (item (at (after c) (r - 1))) rest past (λ right l is later.
    let lr = later.room in let far = later.far in
    shift m 0 (after c) (r - 1) later.k l.cursor l.room (rest right l) later.is (omega arith) later.room
    (chain_on_moves item z join moves turns (join left right) l (omega arith)))))

-- ---- each rule

-- what is read by a rule
abbrev pub Reader : {T : Type 0} → Parser T → Rule → ℕ → ℕ → Cursor → ℕ → Type 0
Reader read g.unary n m c r = Past m c r (unary read n (at c r))
Reader read g.conj n m c r = Past m c r (conjunction (unary read n) (at c r))
Reader read g.disj n m c r = Past m c r (disjunction (unary read n) (at c r))
Reader {T} read g.formula n m c r = (t : ℕ) → r < t → (fs : List (Plain T)) → Past m c r (arrows_on (disjunction (unary read n)) t fs (at c r))

-- a phrase of another text, and the reader on texts that are like it so far
pub record Reached {T : Type 0} (names : NameTable) (stands : Cursor → T → Cursor → Type 0) (read : Parser T) (rule : Rule) (n : ℕ) (d : Cursor) (f : Plain T) (to : Cursor) : Type 0 where
  pub k : ℕ
  pub spans : to ≡ ahead k d
  pub moved : (c : Cursor) → Alike k c d → Is names stands rule n c f (ahead k c)
  pub part : (c : Cursor) (r m : ℕ) → m ≤ k → Alike m c d → nodes f ≤ r → Reader read rule n m c r
  pub solid : (j : ℕ) → j < k → Solid (ahead j d)

-- what is owed of an atom
pub record ReachedAtom {T : Type 0} (stands : Cursor → T → Cursor → Type 0) (read : Parser T) (d : Cursor) (a : T) (to : Cursor) : Type 0 where
  pub k : ℕ
  pub spans : to ≡ ahead k d
  pub moved : (c : Cursor) → Alike k c d → stands c a (ahead k c)
  pub part : (c : Cursor) (r m : ℕ) → m ≤ k → Alike m c d → 0 < r → Past m c r (read (at c r))
  pub solid : (j : ℕ) → j < k → Solid (ahead j d)

module _ {T : Type 0} (names : NameTable) (read : Parser T) (stands : Cursor → T → Cursor → Type 0)
    (moves : Moves read)
    (again : (from to : Cursor) (a : T) (r : ℕ) → stands from a to → 0 < r → read (at from r) ≡ Ok (a, at to (r - 1)))
    (begins : (from to : Cursor) (a : T) → stands from a to → BeginsAtom from)
    (atoms : (d to : Cursor) (a : T) → stands d a to → ReachedAtom stands read d a to) where
  unary_whole : (n m k : ℕ) (c : Cursor) (f : Plain T) (r : ℕ) → Is names stands g.unary n c f (ahead k c) → m ≤ k → nodes f ≤ r → Past m c r (unary read n (at c r))
  unary_whole n m k c f r is most room =
      past_ok m k c r (r - nodes f) (unary read n (at c r)) f (claims names read stands again begins g.unary n c (ahead k c) f is r room) most (omega arith)

  -- a phrase of one token
  one_token : (n : ℕ) (d to : Cursor) (f : Plain T) → to ≡ after d → Solid d → ((c : Cursor) → token c ≡ token d → Is names stands g.unary n c f (after c)) → Reached names stands read g.unary n d f to
  one_token n d to f at_end here moved = record {
    k = 1;
    spans = at_end;
    moved = λ c al. moved c al.0;
    part = by;
    solid = first;
  }
    where
      first : (j : ℕ) → j < 1 → Solid (ahead j d)
      first zero less = here
      first (suc j) less = absurd (omega arith)

      by : (c : Cursor) (r m : ℕ) → m ≤ 1 → Alike m c d → nodes f ≤ r → Past m c r (unary read n (at c r))
      by c r zero most al room = unary_moves read moves n (at c r)
      by c r (suc m) most al room = unary_whole n (suc m) 1 c f r (moved c al.0) most room

  an_atom_reached : (n : ℕ) (d to : Cursor) (a : T) → stands d a to → Reached names stands read g.unary n d (atom a) to
  an_atom_reached n d to a st = let p = atoms d to a st in record {
    k = p.k;
    spans = p.spans;
    moved = λ c al. an_atom n c (ahead p.k c) a (p.moved c al);
    part = by p;
    solid = p.solid;
  }
    where
      by : (p : ReachedAtom stands read d a to) → (c : Cursor) (r m : ℕ) → m ≤ p.k → Alike m c d → nodes (atom a) ≤ r → Past m c r (unary read n (at c r))
      by p c r zero most al room = unary_moves read moves n (at c r)
      by p c r (suc m) most al room =
          let u = operand_of read n in
          let b = begins d to a st in
          let is = ap (λ (q : Parser (Plain T)). q (at c r)) u.1 ∙ opened read u.0 (at c r) b.lexeme Atom (al.0 ∙ b.read) b.begins in
          subst (λ o. Past (suc m) c r o) (sym is)
          (bind_moves (suc m) c r (read (at c r)) (λ a. pure (atom a)) (p.part c r (suc m) most al (omega arith)) (λ a. moves_pure (atom a)))

  -- ---- brackets and `!`

  a_not_reached : (n : ℕ) (d mid to : Cursor) (f : Plain T) → Stands names (sign s.Not) d mid → Reached names stands read g.unary n mid f to → Reached names stands read g.unary (suc n) d (neg f) to
  unfolding unary
  a_not_reached n d mid to f st p = record {
    k = suc p.k;
    spans = p.spans ∙ ap (ahead p.k) st.behind;
    moved = moved;
    part = by;
    solid = all;
  }
    where
      all : (j : ℕ) → j < suc p.k → Solid (ahead j d)
      all zero less = item_solid names (sign s.Not) d mid st
      all (suc j) less = subst (λ e. Solid (ahead j e)) st.behind (p.solid j (omega arith))

      moved : (c : Cursor) → Alike (suc p.k) c d → Is names stands g.unary (suc n) c (neg f) (ahead (suc p.k) c)
      moved c al = a_not n c (after c) (ahead p.k (after c)) f (stands_like names (sign s.Not) d mid c st al.0) (p.moved (after c) (subst (Alike p.k (after c)) (sym st.behind) al.1))

      by : (c : Cursor) (r m : ℕ) → m ≤ suc p.k → Alike m c d → nodes (neg f) ≤ r → Past m c r (unary read (suc n) (at c r))
      by c r zero most al room = unary_moves read moves (suc n) (at c r)
      by c r (suc m) most al room =
          let here = stands_like names (sign s.Not) d mid c st al.0 in
          let is = opened read (Some (unary read n)) (at c r) here.lexeme Negation here.read (negation_begins here.lexeme here.matches)
          ∙ counted names (sign s.Not) c (after c) r here (negated (unary read n)) (omega arith) in
          subst (λ o. Past (suc m) c r o) (sym is)
          (shift (suc m) m c r 1 (after c) (r - 1) (negated (unary read n) (at (after c) (r - 1))) refl (omega arith) (omega arith)
          (bind_moves m (after c) (r - 1) (unary read n (at (after c) (r - 1))) (λ f. pure (neg f))
          (p.part (after c) (r - 1) m (omega arith) (subst (Alike m (after c)) (sym st.behind) al.1) (omega arith)) (λ f. moves_pure (neg f))))

  a_bracket_reached : (n : ℕ) (d mid end to : Cursor) (f : Plain T) → Stands names (sign s.Open) d mid → Reached names stands read g.formula n mid f end → Stands names (sign s.Close) end to
      → Reached names stands read g.unary (suc n) d f to
  unfolding unary formula_of arrows
  a_bracket_reached n d mid end to f st p close = record {
    k = suc (p.k + 1);
    spans = close.behind ∙ ap after (p.spans ∙ ap (ahead p.k) st.behind) ∙ ahead-add 1 p.k (after d);
    moved = moved;
    part = by;
    solid = all;
  }
    where
      all : (j : ℕ) → j < suc (p.k + 1) → Solid (ahead j d)
      all zero less = item_solid names (sign s.Open) d mid st
      all (suc j) less = solid_behind p.k 0 (after d) (subst Solid (p.spans ∙ ap (ahead p.k) st.behind) (item_solid names (sign s.Close) end to close))
          (λ j less. subst (λ e. Solid (ahead j e)) st.behind (p.solid j less)) (λ j less. absurd (omega arith)) j (omega arith)

      moved : (c : Cursor) → Alike (suc (p.k + 1)) c d → Is names stands g.unary (suc n) c f (ahead (suc (p.k + 1)) c)
      moved c al =
          let more = alike-split p.k 1 (after c) (after d) al.1 in
          let closing = stands_like names (sign s.Close) end to (ahead p.k (after c)) close (more.1.0 ∙ ap (λ e. token (ahead p.k e)) (sym st.behind) ∙ ap token (sym p.spans)) in
          a_bracket n c (after c) (ahead p.k (after c)) (ahead (p.k + 1) (after c)) f (stands_like names (sign s.Open) d mid c st al.0)
          (p.moved (after c) (subst (Alike p.k (after c)) (sym st.behind) more.0))
          (subst (λ e. Stands names (sign s.Close) (ahead p.k (after c)) e) (ahead-add 1 p.k (after c)) closing)

      by : (c : Cursor) (r m : ℕ) → m ≤ suc (p.k + 1) → Alike m c d → nodes f ≤ r → Past m c r (unary read (suc n) (at c r))
      by c r zero most al room = unary_moves read moves (suc n) (at c r)
      by c r (suc m) most al room = elim (leb_tells m p.k) [
        | inl few ↦
            let here = stands_like names (sign s.Open) d mid c st al.0 in
            let inner = disjunction (unary read n) in
            let is = opened read (Some (unary read n)) (at c r) here.lexeme Bracket here.read (bracket_begins here.lexeme here.matches)
            ∙ ap (λ o. and_then o (λ w. bracketed (unary read n))) (stands_token names (sign s.Open) (at c r) (after c) here) in
            subst (λ o. Past (suc m) c r o) (sym is)
            (shift (suc m) m c r 1 (after c) r (bracketed (unary read n) (at (after c) r)) refl (omega arith) (omega arith)
            (bind_moves m (after c) r (formula_of (unary read n) (at (after c) r)) (λ f. expect s.Close >> pure f)
            (p.part (after c) r m few.1 (subst (Alike m (after c)) (sym st.behind) al.1) room (r + 1) (omega arith) [])
            (λ f. moves_then (expect s.Close) (λ u. pure f) (expect_moves s.Close) (λ u. moves_pure f))))
        | inr all ↦
            let less = all.1 in
            unary_whole (suc n) (suc m) (suc (p.k + 1)) c f r (moved c (alike-at (suc m) (suc (p.k + 1)) c d (omega (arith, less)) al)) (omega (arith, less)) room
      ]

  -- ---- joined parts

  -- two phrases and the sign between
  behind_sign : (z : Sign) (k l : ℕ) (d mid behind to : Cursor) → mid ≡ ahead k d → Stands names (sign z) mid behind → to ≡ ahead l behind → to ≡ ahead (k + suc l) d
  behind_sign z k l d mid behind to first st last = last ∙ ap (ahead l) st.behind ∙ ap (λ e. ahead l (after e)) first ∙ ahead-add (suc l) k d

  solid_joined : (z : Sign) (k l : ℕ) (d mid behind : Cursor) → mid ≡ ahead k d → Stands names (sign z) mid behind → ((j : ℕ) → j < k → Solid (ahead j d)) → ((j : ℕ) → j < l → Solid (ahead j behind))
      → (j : ℕ) → j < k + suc l → Solid (ahead j d)
  solid_joined z k l d mid behind first st left right =
      solid_behind k l d (subst Solid first (item_solid names (sign z) mid behind st)) left (λ j less. subst (λ e. Solid (ahead j e)) (st.behind ∙ ap after first) (right j less))

  -- the sign and what is behind it, in a text that is like it beyond the first phrase
  sign_like : (z : Sign) (m k : ℕ) (c d mid behind : Cursor) → mid ≡ ahead k d → Stands names (sign z) mid behind → k < m → Alike m c d
      → Stands names (sign z) (ahead k c) (after (ahead k c)) × Alike (m - k - 1) (after (ahead k c)) behind
  sign_like z m k c d mid behind first st less al =
      let rest = alike-at (m - k) (suc (m - k - 1)) (ahead k c) (ahead k d) (omega (arith, less)) (alike-rest m k c d (omega (arith, less)) al) in (
        stands_like names (sign z) mid behind (ahead k c) st (rest.0 ∙ ap token (sym first)),
        subst (Alike (m - k - 1) (after (ahead k c))) (ap after (sym first) ∙ sym st.behind) rest.1,
      )

  -- the two phrases and the sign stand in the other text
  joined_like : (z : Sign) (k l : ℕ) (c d mid behind : Cursor) → mid ≡ ahead k d → Stands names (sign z) mid behind → Alike (k + suc l) c d
      → Alike k c d × Stands names (sign z) (ahead k c) (after (ahead k c)) × Alike l (after (ahead k c)) behind
  joined_like z k l c d mid behind first st al =
      let p = alike-split k (suc l) c d al in
      (p.0, stands_like names (sign z) mid behind (ahead k c) st (p.1.0 ∙ ap token (sym first)), subst (Alike l (after (ahead k c))) (ap after (sym first) ∙ sym st.behind) p.1.1)

  a_conj_reached : (n : ℕ) (d to : Cursor) (f : Plain T) → Reached names stands read g.unary n d f to → Reached names stands read g.conj n d f to
  unfolding conjunction
  a_conj_reached n d to f p = record {
    k = p.k;
    spans = p.spans;
    moved = λ c al. a_conj n c (ahead p.k c) f (p.moved c al);
    part = λ c r m most al room. chain_past (unary read n) s.And both (unary_moves read moves n) m (at c r) (p.part c r m most al room);
    solid = p.solid;
  }

  an_and_reached : (n : ℕ) (d mid behind to : Cursor) (f h : Plain T) → Reached names stands read g.conj n d f mid → Stands names (sign s.And) mid behind → Reached names stands read g.unary n behind h to
      → Reached names stands read g.conj n d (both f h) to
  unfolding conjunction
  an_and_reached n d mid behind to f h p st q = record {
    k = p.k + suc q.k;
    spans = behind_sign s.And p.k q.k d mid behind to p.spans st q.spans;
    moved = λ c al.
        let j = joined_like s.And p.k q.k c d mid behind p.spans st al in
        subst (λ e. Is names stands g.conj n c (both f h) e) (ahead-add (suc q.k) p.k c)
        (an_and n c (ahead p.k c) (after (ahead p.k c)) (ahead q.k (after (ahead p.k c))) f h (p.moved c j.0) j.1 (q.moved (after (ahead p.k c)) j.2));
    part = by;
    solid = solid_joined s.And p.k q.k d mid behind p.spans st p.solid q.solid;
  }
    where
      by : (c : Cursor) (r m : ℕ) → m ≤ p.k + suc q.k → Alike m c d → nodes (both f h) ≤ r → Past m c r (conjunction (unary read n) (at c r))
      by c r m most al room = elim (leb_tells m p.k) [
        | inl few ↦ p.part c r m few.1 al (omega arith)
        | inr all ↦
            let less = all.1 in
            let left = p.moved c (alike-less m p.k c d (omega (arith, less)) al) in
            let chained = claims names read stands again begins g.conj n c (ahead p.k c) f left r (omega arith) in
            let enough = chained.enough in
            let right = sign_like s.And m p.k c d mid behind p.spans st less al in
            let rr = r - nodes f in
            subst (λ o. Past m c r o) (sym chained.is)
            (shift m (suc (m - p.k - 1)) c r p.k (ahead p.k c) rr _ refl (omega (arith, less)) (omega arith)
            (chain_turn names (unary read n) s.And both (unary_moves read moves n) chained.turns f (ahead p.k c) rr enough (omega arith) right.0 (m - p.k - 1)
            (q.part (after (ahead p.k c)) (rr - 1) (m - p.k - 1) (omega (arith, less)) right.1 (omega arith))))
      ]

  a_disj_reached : (n : ℕ) (d to : Cursor) (f : Plain T) → Reached names stands read g.conj n d f to → Reached names stands read g.disj n d f to
  unfolding disjunction
  a_disj_reached n d to f p = record {
    k = p.k;
    spans = p.spans;
    moved = λ c al. a_disj n c (ahead p.k c) f (p.moved c al);
    part = λ c r m most al room. chain_past (conjunction (unary read n)) s.Or either (conjunction_moves (unary read n) (unary_moves read moves n)) m (at c r) (p.part c r m most al room);
    solid = p.solid;
  }

  an_or_reached : (n : ℕ) (d mid behind to : Cursor) (f h : Plain T) → Reached names stands read g.disj n d f mid → Stands names (sign s.Or) mid behind → Reached names stands read g.conj n behind h to
      → Reached names stands read g.disj n d (either f h) to
  unfolding disjunction
  an_or_reached n d mid behind to f h p st q = record {
    k = p.k + suc q.k;
    spans = behind_sign s.Or p.k q.k d mid behind to p.spans st q.spans;
    moved = λ c al.
        let j = joined_like s.Or p.k q.k c d mid behind p.spans st al in
        subst (λ e. Is names stands g.disj n c (either f h) e) (ahead-add (suc q.k) p.k c)
        (an_or n c (ahead p.k c) (after (ahead p.k c)) (ahead q.k (after (ahead p.k c))) f h (p.moved c j.0) j.1 (q.moved (after (ahead p.k c)) j.2));
    part = by;
    solid = solid_joined s.Or p.k q.k d mid behind p.spans st p.solid q.solid;
  }
    where
      by : (c : Cursor) (r m : ℕ) → m ≤ p.k + suc q.k → Alike m c d → nodes (either f h) ≤ r → Past m c r (disjunction (unary read n) (at c r))
      by c r m most al room = elim (leb_tells m p.k) [
        | inl few ↦ p.part c r m few.1 al (omega arith)
        | inr all ↦
            let less = all.1 in
            let left = p.moved c (alike-less m p.k c d (omega (arith, less)) al) in
            let right = sign_like s.Or m p.k c d mid behind p.spans st less al in
            let chained = claims names read stands again begins g.disj n c (ahead p.k c) f left (leaves_other names s.And s.Or (ahead p.k c) (after (ahead p.k c)) right.0 refl) r (omega arith) in
            let enough = chained.enough in
            let rr = r - nodes f in
            subst (λ o. Past m c r o) (sym chained.is)
            (shift m (suc (m - p.k - 1)) c r p.k (ahead p.k c) rr _ refl (omega (arith, less)) (omega arith)
            (chain_turn names (conjunction (unary read n)) s.Or either (conjunction_moves (unary read n) (unary_moves read moves n)) chained.turns f (ahead p.k c) rr enough (omega arith) right.0 (m - p.k - 1)
            (q.part (after (ahead p.k c)) (rr - 1) (m - p.k - 1) (omega (arith, less)) right.1 (omega arith))))
      ]

  a_formula_reached : (n : ℕ) (d to : Cursor) (f : Plain T) → Reached names stands read g.disj n d f to → Reached names stands read g.formula n d f to
  a_formula_reached n d to f p = record {
    k = p.k;
    spans = p.spans;
    moved = λ c al. a_formula n c (ahead p.k c) f (p.moved c al);
    part = λ c r m most al room t turns fs. arrows_on_past (disjunction (unary read n)) (disjunction_moves (unary read n) (unary_moves read moves n)) t fs m (at c r) turns (p.part c r m most al room);
    solid = p.solid;
  }

  an_implies_reached : (n : ℕ) (d mid behind to : Cursor) (f h : Plain T) → Reached names stands read g.disj n d f mid → Stands names (sign s.Arrow) mid behind → Reached names stands read g.formula n behind h to
      → Reached names stands read g.formula n d (implies f h) to
  an_implies_reached n d mid behind to f h p st q = record {
    k = p.k + suc q.k;
    spans = behind_sign s.Arrow p.k q.k d mid behind to p.spans st q.spans;
    moved = λ c al.
        let j = joined_like s.Arrow p.k q.k c d mid behind p.spans st al in
        subst (λ e. Is names stands g.formula n c (implies f h) e) (ahead-add (suc q.k) p.k c)
        (an_implies n c (ahead p.k c) (after (ahead p.k c)) (ahead q.k (after (ahead p.k c))) f h (p.moved c j.0) j.1 (q.moved (after (ahead p.k c)) j.2));
    part = by;
    solid = solid_joined s.Arrow p.k q.k d mid behind p.spans st p.solid q.solid;
  }
    where
      by : (c : Cursor) (r m : ℕ) → m ≤ p.k + suc q.k → Alike m c d → nodes (implies f h) ≤ r → (t : ℕ) → r < t → (fs : List (Plain T))
          → Past m c r (arrows_on (disjunction (unary read n)) t fs (at c r))
      by c r m most al room t turns fs = elim (leb_tells m p.k) [
        | inl few ↦ arrows_on_past (disjunction (unary read n)) (disjunction_moves (unary read n) (unary_moves read moves n)) t fs m (at c r) turns (p.part c r m few.1 al (omega arith))
        | inr all ↦
            let less = all.1 in
            let item = disjunction (unary read n) in
            let left = p.moved c (alike-less m p.k c d (omega (arith, less)) al) in
            let right = sign_like s.Arrow m p.k c d mid behind p.spans st less al in
            let here = ahead p.k c in
            let rr = r - nodes f in
            let first = disj_whole read n c here f (claims names read stands again begins g.disj n c here f left) (leaves_other names s.And s.Arrow here (after here) right.0 refl) (leaves_other names s.Or s.Arrow here (after here) right.0 refl) r (omega arith) in
            let is = arrow_turn item t fs f (at c r) (at here rr) (omega arith) first
            ∙ ap (λ q. and_then q (λ more. if more then arrows_on item (t - 1) (fs ++ f ∷ []) else pure (implied fs f))) (goes_on_reads names s.Arrow (at here rr) (after here) right.0 (omega arith)) in
            subst (λ o. Past m c r o) (sym is)
            (shift m (m - p.k - 1) c r (p.k + 1) (after here) (rr - 1) (arrows_on item (t - 1) (fs ++ f ∷ []) (at (after here) (rr - 1))) (ahead-add 1 p.k c) (omega (arith, less)) (omega arith)
            (q.part (after here) (rr - 1) (m - p.k - 1) (omega (arith, less)) right.1 (omega arith) (t - 1) (omega arith) (fs ++ f ∷ [])))
      ]

  -- ---- the whole grammar

  pub reached : (rule : Rule) (n : ℕ) (d to : Cursor) (f : Plain T) → Is names stands rule n d f to → Reached names stands read rule n d f to
  reached _ _ _ _ _ (a_true n d to st) = one_token n d to top st.behind (item_solid names (word (codes "true")) d to st) (λ c same. a_true n c (after c) (stands_like names (word (codes "true")) d to c st same))
  reached _ _ _ _ _ (a_false n d to st) = one_token n d to bottom st.behind (item_solid names (word (codes "false")) d to st) (λ c same. a_false n c (after c) (stands_like names (word (codes "false")) d to c st same))
  reached _ _ _ _ _ (an_atom n d to a st) = an_atom_reached n d to a st
  reached _ _ _ _ _ (a_not n d mid to f st is) = a_not_reached n d mid to f st (reached g.unary n mid to f is)
  reached _ _ _ _ _ (a_bracket n d mid end to f st is close) = a_bracket_reached n d mid end to f st (reached g.formula n mid end f is) close
  reached _ _ _ _ _ (a_conj n d to f is) = a_conj_reached n d to f (reached g.unary n d to f is)
  reached _ _ _ _ _ (an_and n d mid behind to f h is st more) = an_and_reached n d mid behind to f h (reached g.conj n d mid f is) st (reached g.unary n behind to h more)
  reached _ _ _ _ _ (a_disj n d to f is) = a_disj_reached n d to f (reached g.conj n d to f is)
  reached _ _ _ _ _ (an_or n d mid behind to f h is st more) = an_or_reached n d mid behind to f h (reached g.disj n d mid f is) st (reached g.conj n behind to h more)
  reached _ _ _ _ _ (a_formula n d to f is) = a_formula_reached n d to f (reached g.disj n d to f is)
  reached _ _ _ _ _ (an_implies n d mid behind to f h is st more) = an_implies_reached n d mid behind to f h (reached g.disj n d mid f is) st (reached g.formula n behind to h more)
