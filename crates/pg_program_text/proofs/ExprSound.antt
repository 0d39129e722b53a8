-- An expression that is read is in the grammar, and takes as many nodes as it has.
use Rattle.std.proofs.Common.{◌≡◌, ◌⊎◌, inl, inr, ℕ, zero, suc, ◌+◌, Bool, true, false, Ok, Some, None, [], ◌∷◌, refl, ap, sym, ◌∙◌, subst, arith}
use Rattle.std.specs.Prelude.{Option, if◌then◌else◌}
use Rattle.pg_lex.specs.declared.token.Sign.{Sign}
use Rattle.pg_lex.specs.declared.token.Sign.TheVariants as s
use Rattle.pg_lex.specs.declared.token.TokenKind.{TokenKind}
use Rattle.pg_lex.specs.declared.token.TokenKind.TheVariants as kind
use Rattle.pg_lex.specs.declared.fault.TextKind.TheVariants.{Unexpected}
use Rattle.pg_lex.specs.Lex.{Lexeme, token, after}
use Rattle.pg_program.specs.NameTable.{NameTable}
use Rattle.pg_program.specs.declared.name_table.NameRef.TheVariants as place
use Rattle.pg_program.specs.declared.syntax.Expr.{Expr}
use Rattle.pg_program.specs.declared.syntax.Expr.TheVariants as e
use Rattle.pg_assertion_text.specs.Words.{Stands, sign, number, scalar}
use Rattle.pg_assertion_text.specs.Input.{Input, Outcome, Parser, refuse, allowed, next, node, goes_on, expect, is_sign, named, scalar_in}
use Rattle.pg_assertion_text.proofs.Steps.{ok_same, bind_then, allowed_then, next_found, node_takes, is_sign_found, Takes, takes_one, takes_then, expect_found, goes_on_found, goes_on_stops, named_found, scalar_in_found}
use Rattle.pg_program_text.specs.Expr as x
use Rattle.pg_program_text.specs.Expr.{Rule, Is, by_sign, times, plus_or_minus, or_minus, next_link, linked_on, linked, product, sum, deeper, scalar_factor, factor_by, factor_in, factor_of}

-- a phrase that was read, from one place to another
pub record Found (names : NameTable) (rule : Rule) (m : ℕ) (i : Input) (a : Expr) (j : Input) : Type 0 where
  pub nodes : ℕ
  pub is : Is names rule m nodes i.cursor a j.cursor
  pub room : i.room ≡ j.room + nodes

-- ---- signs

-- a sign that was taken, as a node
abbrev pub Linked : NameTable → Sign → Input → Input → Type 0
Linked names z i j = Takes names (sign z ∷ []) 1 i j

times_found : (names : NameTable) (i j : Input) (o : Option Sign) → times i ≡ Ok (o, j) → ((o ≡ None) × (j ≡ i)) ⊎ ((o ≡ Some s.Times) × Linked names s.Times i j)
unfolding times
times_found names i j o h =
    bind_then (goes_on s.Times i) _ (o, j) h (λ b k goes rest. by b k goes (ok_same (if b then Some s.Times else None, k) (o, j) rest))
  where
    by : (b : Bool) (k : Input) → goes_on s.Times i ≡ Ok (b, k) → ◌≡◌ {A = Option Sign × Input} (if b then Some s.Times else None, k) (o, j)
        → ((o ≡ None) × (j ≡ i)) ⊎ ((o ≡ Some s.Times) × Linked names s.Times i j)
    by true k goes same =
        inr (sym (ap (λ (q : Option Sign × Input). q.0) same), subst (Linked names s.Times i) (ap (λ (q : Option Sign × Input). q.1) same) (goes_on_found names s.Times i k goes))
    by false k stops same =
        inl (sym (ap (λ (q : Option Sign × Input). q.0) same), sym (ap (λ (q : Option Sign × Input). q.1) same) ∙ goes_on_stops s.Times i k stops)

-- a sum's sign
abbrev pub Adds : NameTable → Option Sign → Input → Input → Type 0
Adds names o i j = ((o ≡ None) × (j ≡ i)) ⊎ (((o ≡ Some s.Plus) × Linked names s.Plus i j) ⊎ ((o ≡ Some s.Minus) × Linked names s.Minus i j))

minus_found : (names : NameTable) (i j : Input) (o : Option Sign) (b : Bool) (k : Input) → goes_on s.Minus i ≡ Ok (b, k) → ◌≡◌ {A = Option Sign × Input} (if b then Some s.Minus else None, k) (o, j)
    → Adds names o i j
minus_found names i j o true k goes same =
    inr (inr (sym (ap (λ (q : Option Sign × Input). q.0) same), subst (Linked names s.Minus i) (ap (λ (q : Option Sign × Input). q.1) same) (goes_on_found names s.Minus i k goes)))
minus_found names i j o false k stops same =
    inl (sym (ap (λ (q : Option Sign × Input). q.0) same), sym (ap (λ (q : Option Sign × Input). q.1) same) ∙ goes_on_stops s.Minus i k stops)

plus_or_minus_found : (names : NameTable) (i j : Input) (o : Option Sign) → plus_or_minus i ≡ Ok (o, j) → Adds names o i j
unfolding plus_or_minus
plus_or_minus_found names i j o h = bind_then (goes_on s.Plus i) or_minus (o, j) h by
  where
    by : (b : Bool) (k : Input) → goes_on s.Plus i ≡ Ok (b, k) → or_minus b k ≡ Ok (o, j) → Adds names o i j
    by true k goes rest =
        let same = ok_same (Some s.Plus, k) (o, j) rest in
        inr (inl (sym (ap (λ (q : Option Sign × Input). q.0) same), subst (Linked names s.Plus i) (ap (λ (q : Option Sign × Input). q.1) same) (goes_on_found names s.Plus i k goes)))
    by false k stops rest =
        let at = goes_on_stops s.Plus i k stops in
        bind_then (goes_on s.Minus k) _ (o, j) rest (λ b l minus end.
        minus_found names i j o b l (ap (goes_on s.Minus) (sym at) ∙ minus) (ok_same (if b then Some s.Minus else None, l) (o, j) end))

-- ---- chains

-- one more turn, where the turns after it are known
turn_found : (item : Parser Expr) (link : Parser (Option Sign)) (Part Whole : Input → Expr → Input → Type 0)
    → ((i j : Input) (a : Expr) → item i ≡ Ok (a, j) → Part i a j)
    → ((i j k l : Input) (a b : Expr) (z : Sign) → Whole i a j → link j ≡ Ok (Some z, k) → Part k b l → Whole i (by_sign z a b) l)
    → ((j k : Input) → link j ≡ Ok (None, k) → k ≡ j)
    → (n : ℕ) (left whole : Expr) (i t j : Input) → Whole i left t
    → ((left : Expr) (t : Input) → Whole i left t → linked_on item link n left t ≡ Ok (whole, j) → Whole i whole j)
    → (o : Option Sign) (u : Input) → link t ≡ Ok (o, u) → next_link item (linked_on item link n) left o u ≡ Ok (whole, j) → Whole i whole j
turn_found item link Part Whole part more still n left whole i t j so behind None u stops rest =
    subst (λ (q : Expr × Input). Whole i q.0 q.1) (ap (λ v. (left, v)) (sym (still t u stops)) ∙ ok_same (left, u) (whole, j) rest) so
turn_found item link Part Whole part more still n left whole i t j so behind (Some z) u goes rest =
    bind_then (item u) _ (whole, j) rest (λ right v read rest2.
    behind (by_sign z left right) v (more i t u v left right z so goes (part u v right read)) rest2)

linked_on_found : (item : Parser Expr) (link : Parser (Option Sign)) (Part Whole : Input → Expr → Input → Type 0)
    → ((i j : Input) (a : Expr) → item i ≡ Ok (a, j) → Part i a j)
    → ((i j k l : Input) (a b : Expr) (z : Sign) → Whole i a j → link j ≡ Ok (Some z, k) → Part k b l → Whole i (by_sign z a b) l)
    → ((j k : Input) → link j ≡ Ok (None, k) → k ≡ j)
    → (n : ℕ) (left whole : Expr) (i t j : Input) → Whole i left t → linked_on item link n left t ≡ Ok (whole, j) → Whole i whole j
unfolding linked_on
linked_on_found item link Part Whole part more still zero left whole i t j so h = cc
linked_on_found item link Part Whole part more still (suc n) left whole i t j so h =
    bind_then (link t) _ (whole, j) h (turn_found item link Part Whole part more still n left whole i t j so
    (λ left t so h. linked_on_found item link Part Whole part more still n left whole i t j so h))

linked_found : (item : Parser Expr) (link : Parser (Option Sign)) (Part Whole : Input → Expr → Input → Type 0)
    → ((i j : Input) (a : Expr) → item i ≡ Ok (a, j) → Part i a j) → ((i j : Input) (a : Expr) → Part i a j → Whole i a j)
    → ((i j k l : Input) (a b : Expr) (z : Sign) → Whole i a j → link j ≡ Ok (Some z, k) → Part k b l → Whole i (by_sign z a b) l)
    → ((j k : Input) → link j ≡ Ok (None, k) → k ≡ j)
    → (whole : Expr) (i j : Input) → linked item link i ≡ Ok (whole, j) → Whole i whole j
unfolding linked
linked_found item link Part Whole part first more still whole i j h =
    bind_then (item i) _ (whole, j) h (λ left t read rest.
    linked_on_found item link Part Whole part more still (t.room + 1) left whole i t j (first i t left (part i t left read)) rest)

-- the sign that a turn took
sign_at : (names : NameTable) (z : Sign) (i j : Input) (t : Linked names z i j) → Stands names (sign z) i.cursor j.cursor
sign_at names z i j t = subst (Stands names (sign z) i.cursor) (sym t.stand.2) t.stand.1

some_same : (a b : Sign) → ◌≡◌ {A = Option Sign} (Some a) (Some b) → a ≡ b
some_same a b h = cc

product_found : (names : NameTable) (m : ℕ) (u : Parser Expr) → ((i j : Input) (a : Expr) → u i ≡ Ok (a, j) → Found names x.factor m i a j)
    → (i j : Input) (a : Expr) → product u i ≡ Ok (a, j) → Found names x.term m i a j
unfolding product
product_found names m u part i j a h =
    linked_found u times (Found names x.factor m) (Found names x.term m) part
    (λ i j a p. record { nodes = p.nodes; is = x.a_term m p.nodes i.cursor j.cursor a p.is; room = p.room })
    more (λ j k stops. still j k (times_found names j k None stops)) a i j h
  where
    joined : (i j k l : Input) (a b : Expr) → Found names x.term m i a j → Linked names s.Times j k → Found names x.factor m k b l → Found names x.term m i (e.Mul a b) l
    joined i j k l a b w t p = record {
      nodes = 1 + (w.nodes + p.nodes);
      is = x.a_product m w.nodes p.nodes i.cursor j.cursor k.cursor l.cursor a b w.is (sign_at names s.Times j k t) p.is;
      room = let wr = w.room in let tr = t.room in let pr = p.room in omega arith;
    }

    more : (i j k l : Input) (a b : Expr) (z : Sign) → Found names x.term m i a j → times j ≡ Ok (Some z, k) → Found names x.factor m k b l → Found names x.term m i (by_sign z a b) l
    more i j k l a b z w goes p =
        elim (times_found names j k (Some z) goes) [
          | inl none ↦ let wrong = none.0 in cc
          | inr f ↦ subst (λ (z : Sign). Found names x.term m i (by_sign z a b) l) (sym (some_same z s.Times f.0)) (joined i j k l a b w f.1 p)
        ]

    still : (j k : Input) → (◌≡◌ {A = Option Sign} None None × (k ≡ j)) ⊎ (◌≡◌ {A = Option Sign} None (Some s.Times) × Linked names s.Times j k) → k ≡ j
    still j k (inl f) = f.1
    still j k (inr f) = let wrong = f.0 in cc

sum_found : (names : NameTable) (m : ℕ) (u : Parser Expr) → ((i j : Input) (a : Expr) → u i ≡ Ok (a, j) → Found names x.factor m i a j)
    → (i j : Input) (a : Expr) → sum u i ≡ Ok (a, j) → Found names x.expr m i a j
unfolding sum
sum_found names m u part i j a h =
    linked_found (product u) plus_or_minus (Found names x.term m) (Found names x.expr m) (product_found names m u part)
    (λ i j a p. record { nodes = p.nodes; is = x.an_expr m p.nodes i.cursor j.cursor a p.is; room = p.room })
    (λ i j k l a b z w goes p. more i j k l a b z w (plus_or_minus_found names j k (Some z) goes) p)
    (λ j k stops. still j k (plus_or_minus_found names j k None stops)) a i j h
  where
    added : (i j k l : Input) (a b : Expr) → Found names x.expr m i a j → Linked names s.Plus j k → Found names x.term m k b l → Found names x.expr m i (e.Add a b) l
    added i j k l a b w t p = record {
      nodes = 1 + (w.nodes + p.nodes);
      is = x.a_sum m w.nodes p.nodes i.cursor j.cursor k.cursor l.cursor a b w.is (sign_at names s.Plus j k t) p.is;
      room = let wr = w.room in let tr = t.room in let pr = p.room in omega arith;
    }

    subtracted : (i j k l : Input) (a b : Expr) → Found names x.expr m i a j → Linked names s.Minus j k → Found names x.term m k b l → Found names x.expr m i (e.Sub a b) l
    subtracted i j k l a b w t p = record {
      nodes = 1 + (w.nodes + p.nodes);
      is = x.a_difference m w.nodes p.nodes i.cursor j.cursor k.cursor l.cursor a b w.is (sign_at names s.Minus j k t) p.is;
      room = let wr = w.room in let tr = t.room in let pr = p.room in omega arith;
    }

    more : (i j k l : Input) (a b : Expr) (z : Sign) → Found names x.expr m i a j → Adds names (Some z) j k → Found names x.term m k b l → Found names x.expr m i (by_sign z a b) l
    more i j k l a b z w (inl f) p = let wrong = f.0 in cc
    more i j k l a b z w (inr (inl f)) p = subst (λ (z : Sign). Found names x.expr m i (by_sign z a b) l) (sym (some_same z s.Plus f.0)) (added i j k l a b w f.1 p)
    more i j k l a b z w (inr (inr f)) p = subst (λ (z : Sign). Found names x.expr m i (by_sign z a b) l) (sym (some_same z s.Minus f.0)) (subtracted i j k l a b w f.1 p)

    still : (j k : Input) → Adds names None j k → k ≡ j
    still j k (inl f) = f.1
    still j k (inr (inl f)) = let wrong = f.0 in cc
    still j k (inr (inr f)) = let wrong = f.0 in cc

-- ---- factors

-- what is read one level further in
abbrev pub Below : NameTable → ℕ → Option (Parser Expr) → Type 0
Below names m None = Unit {0}
Below names m (Some u) = (n : ℕ) × (m ≡ suc n) × ((i j : Input) (a : Expr) → u i ≡ Ok (a, j) → Found names x.factor n i a j)

bracket_found : (names : NameTable) (m p : ℕ) (below : Option (Parser Expr)) → Below names m below → (i k j : Input) (a : Expr)
    → Stands names (sign s.Open) i.cursor k.cursor → i.room ≡ k.room → deeper p below k ≡ Ok (a, j) → Found names x.factor m i a j
bracket_found names m p None claim i k j a st room h = cc
bracket_found names m p (Some u) claim i k j a st room h =
    bind_then (sum u k) _ (a, j) h (λ b v read rest.
    bind_then (expect s.Close v) _ (a, j) rest (λ w l close end.
    let found = sum_found names claim.0 u claim.2 k v b read in
    let closed = expect_found names s.Close v l w close in
    subst (λ (q : Expr × Input). Found names x.factor m i q.0 q.1) (ok_same (b, l) (a, j) end)
    (subst (λ m. Found names x.factor m i b l) (sym claim.1)
    (record {
      nodes = found.nodes;
      is = x.a_bracket claim.0 found.nodes i.cursor k.cursor v.cursor l.cursor b st found.is (subst (Stands names (sign s.Close) v.cursor) (sym closed.stand.2) closed.stand.1);
      room = let fr = found.room in let cr = closed.room in omega arith;
    }))))

factor_in_found : (names : NameTable) (m : ℕ) (below : Option (Parser Expr)) → Below names m below
    → (i j : Input) (a : Expr) → factor_in names below i ≡ Ok (a, j) → Found names x.factor m i a j
unfolding factor_in
factor_in_found names m below claim i j a h =
    bind_then (next i) _ (a, j) h (λ t k read rest. let found = next_found i k t read in by t k found.0 found.1 t.kind refl rest)
  where
    open_by : (t : Lexeme) (k : Input) → token i.cursor ≡ Ok t → k ≡ record i { cursor = after i.cursor } → (z : Sign) → t.kind ≡ kind.Sign z → (b : Bool) → is_sign s.Open (kind.Sign z) ≡ b
        → ◌≡◌ {A = Outcome Expr} ((if b then deeper t.place below else refuse t.place Unexpected) k) (Ok (a, j)) → Found names x.factor m i a j
    open_by t k is at z kd true yes_open rest =
        bracket_found names m t.place below claim i k j a
        (record { lexeme = t; read = is; matches = kd ∙ is_sign_found s.Open (kind.Sign z) yes_open; behind = ap (λ q. q.cursor) at })
        (sym (ap (λ q. q.room) at)) rest
    open_by t k is at z kd false not_open rest = cc

    by : (t : Lexeme) (k : Input) → token i.cursor ≡ Ok t → k ≡ record i { cursor = after i.cursor } → (z : TokenKind) → t.kind ≡ z → factor_by names below t z k ≡ Ok (a, j)
        → Found names x.factor m i a j
    by t k is at (kind.Number v) kd rest =
        bind_then (node t.place k) _ (a, j) rest (λ u l noded end.
        let took = takes_then (takes_one names (number v) i k t is kd at) (node_takes names t.place k l u noded) in
        subst (λ (q : Expr × Input). Found names x.factor m i q.0 q.1) (ok_same (e.Value v, l) (a, j) end)
        (record { nodes = 1; is = x.a_number m v i.cursor l.cursor (subst (Stands names (number v) i.cursor) (sym took.stand.2) took.stand.1); room = took.room }))
    by t k is at kind.Word kd rest =
        bind_then (allowed t.place (scalar_in (named names t)) k) _ (a, j) rest (λ r l allows rest2.
        bind_then (node t.place l) _ (a, j) rest2 (λ u o noded end.
        allowed_then t.place (scalar_in (named names t)) k (r, l) allows (λ q fine same.
        let first = takes_one names (scalar r) i l t is
        (named_found names t (place.Scalar r) (scalar_in_found (named names t) r (fine ∙ ap (λ (z : ℕ × Input). Ok z.0) same)))
        (sym (ap (λ (z : ℕ × Input). z.1) same) ∙ at) in
        let took = takes_then first (node_takes names t.place l o u noded) in
        subst (λ (q : Expr × Input). Found names x.factor m i q.0 q.1) (ok_same (e.Scalar r, o) (a, j) end)
        (record { nodes = 1; is = x.a_scalar m r i.cursor o.cursor (subst (Stands names (scalar r) i.cursor) (sym took.stand.2) took.stand.1); room = took.room }))))
    by t k is at (kind.Sign z) kd rest = open_by t k is at z kd (is_sign s.Open (kind.Sign z)) refl rest
    by t k is at (kind.Letter b) kd rest = cc
    by t k is at kind.End kd rest = cc

factor_found : (names : NameTable) (m : ℕ) (i j : Input) (a : Expr) → factor_of names m i ≡ Ok (a, j) → Found names x.factor m i a j
unfolding factor_of
factor_found names zero i j a h = factor_in_found names zero None tt i j a h
factor_found names (suc m) i j a h = factor_in_found names (suc m) (Some (factor_of names m)) (m, refl, factor_found names m) i j a h

-- an expression that is read is in the grammar
pub expr_found : (names : NameTable) (m : ℕ) (i j : Input) (a : Expr) → sum (factor_of names m) i ≡ Ok (a, j) → Found names x.expr m i a j
expr_found names m i j a h = sum_found names m (factor_of names m) (factor_found names m) i j a h
