-- An expression of the grammar is read, where room for its nodes is left and no token goes on with it.
use Rattle.std.proofs.Common.{◌≡◌, ℕ, zero, suc, ◌+◌, ◌-◌, ◌<◌, ◌≤◌, false, Ok, Some, None, refl, ap, ◌∙◌, subst, arith}
use Rattle.std.specs.Prelude.{Option, if◌then◌else◌}
use Rattle.pg_lex.specs.declared.token.Sign.{Sign}
use Rattle.pg_lex.specs.declared.token.Sign.TheVariants as s
use Rattle.pg_lex.specs.declared.fault.TextKind.TheVariants.{Unexpected}
use Rattle.pg_lex.specs.Lex.{Cursor}
use Rattle.pg_program.specs.NameTable.{NameTable}
use Rattle.pg_program.specs.declared.name_table.NameRef.TheVariants as place
use Rattle.pg_program.specs.declared.syntax.Expr.{Expr}
use Rattle.pg_program.specs.declared.syntax.Expr.TheVariants as e
use Rattle.pg_assertion_text.specs.Words.{Stands, sign, number, scalar, same_sign}
use Rattle.pg_assertion_text.specs.Follows.{Leaves}
use Rattle.pg_assertion_text.specs.Input.{Input, Parser, and_then, pure, refuse, allowed, next, node, expect, is_sign, scalar_in}
use Rattle.pg_assertion_text.proofs.Steps.{bind_value, stands_token, node_reads, expect_reads, goes_on_reads, goes_on_leaves, named_reads, sign_is_same}
use Rattle.pg_program_text.specs.Expr as x
use Rattle.pg_program_text.specs.Expr.{Rule, Is, by_sign, times, plus_or_minus, or_minus, next_link, linked_on, linked, product, sum, deeper, scalar_factor, factor_by, factor_in, factor_of, a_number, a_scalar, a_bracket, a_term, a_product, an_expr, a_sum, a_difference}

abbrev pub at : Cursor → ℕ → Input
at c r = record { cursor = c; room = r }

-- no token that an expression goes on with
pub record EndsExpr (c : Cursor) : Type 0 where
  pub times : Leaves s.Times c
  pub plus : Leaves s.Plus c
  pub minus : Leaves s.Minus c

pub leaves_other : (names : NameTable) (z y : Sign) (from to : Cursor) → Stands names (sign y) from to → same_sign y z ≡ false → Leaves z from
leaves_other names z y from to st differs = record { lexeme = st.lexeme; read = st.read; differs = ap (is_sign z) st.matches ∙ differs }

pub ends_before : (names : NameTable) (y : Sign) (from to : Cursor) → Stands names (sign y) from to → same_sign y s.Times ≡ false → same_sign y s.Plus ≡ false → same_sign y s.Minus ≡ false → EndsExpr from
ends_before names y from to st t p m = record {
  times = leaves_other names s.Times y from to st t;
  plus = leaves_other names s.Plus y from to st p;
  minus = leaves_other names s.Minus y from to st m;
}

-- ---- signs

times_reads : (names : NameTable) (i : Input) (to : Cursor) → Stands names (sign s.Times) i.cursor to → 0 < i.room → times i ≡ Ok (Some s.Times, record { cursor = to; room = i.room - 1 })
unfolding times
times_reads names i to st some = ap (λ o. and_then o (λ more. pure (if more then Some s.Times else None))) (goes_on_reads names s.Times i to st some)

times_leaves : (i : Input) → Leaves s.Times i.cursor → times i ≡ Ok (None, i)
unfolding times
times_leaves i l = ap (λ o. and_then o (λ more. pure (if more then Some s.Times else None))) (goes_on_leaves s.Times i l.lexeme l.read l.differs)

plus_reads : (names : NameTable) (i : Input) (to : Cursor) → Stands names (sign s.Plus) i.cursor to → 0 < i.room → plus_or_minus i ≡ Ok (Some s.Plus, record { cursor = to; room = i.room - 1 })
unfolding plus_or_minus
plus_reads names i to st some = ap (λ o. and_then o or_minus) (goes_on_reads names s.Plus i to st some)

minus_reads : (names : NameTable) (i : Input) (to : Cursor) → Stands names (sign s.Minus) i.cursor to → 0 < i.room → plus_or_minus i ≡ Ok (Some s.Minus, record { cursor = to; room = i.room - 1 })
unfolding plus_or_minus
minus_reads names i to st some =
    let l = leaves_other names s.Plus s.Minus i.cursor to st refl in
    ap (λ o. and_then o or_minus) (goes_on_leaves s.Plus i l.lexeme l.read l.differs)
    ∙ ap (λ o. and_then o (λ minus. pure (if minus then Some s.Minus else None))) (goes_on_reads names s.Minus i to st some)

adds_leaves : (i : Input) → Leaves s.Plus i.cursor → Leaves s.Minus i.cursor → plus_or_minus i ≡ Ok (None, i)
unfolding plus_or_minus
adds_leaves i p m =
    ap (λ o. and_then o or_minus) (goes_on_leaves s.Plus i p.lexeme p.read p.differs)
    ∙ ap (λ o. and_then o (λ minus. pure (if minus then Some s.Minus else None))) (goes_on_leaves s.Minus i m.lexeme m.read m.differs)

-- ---- chains

-- a chain that is read so far, with turns enough for the room that is left
pub record Chained (item : Parser Expr) (link : Parser (Option Sign)) (i : Input) (a : Expr) (j : Input) : Type 0 where
  pub turns : ℕ
  pub enough : j.room ≤ turns
  pub is : linked item link i ≡ linked_on item link (suc turns) a j

chained_first : (item : Parser Expr) (link : Parser (Option Sign)) (i j : Input) (a : Expr) → item i ≡ Ok (a, j) → Chained item link i a j
unfolding linked
chained_first item link i j a reads = record {
  turns = j.room;
  enough = omega arith;
  is = ap (λ o. and_then o (λ left t. linked_on item link (t.room + 1) left t)) reads ∙ ap (λ k. linked_on item link k a j) (omega arith);
}

link_more : (item : Parser Expr) (link : Parser (Option Sign)) (n : ℕ) (left right : Expr) (z : Sign) (i j k : Input) → link i ≡ Ok (Some z, j) → item j ≡ Ok (right, k)
    → linked_on item link (suc n) left i ≡ linked_on item link n (by_sign z left right) k
unfolding linked_on
link_more item link n left right z i j k goes reads =
    ap (λ o. and_then o (next_link item (linked_on item link n) left)) goes ∙ ap (λ o. and_then o (λ right. linked_on item link n (by_sign z left right))) reads

chained_more : (item : Parser Expr) (link : Parser (Option Sign)) (i j k l : Input) (a b : Expr) (z : Sign) → Chained item link i a j → 0 < j.room
    → link j ≡ Ok (Some z, k) → item k ≡ Ok (b, l) → l.room < j.room → Chained item link i (by_sign z a b) l
chained_more item link i j k l a b z c some goes reads less =
    let enough = c.enough in
    record {
      turns = c.turns - 1;
      enough = omega arith;
      is = c.is ∙ link_more item link c.turns a b z j k l goes reads ∙ ap (λ n. linked_on item link n (by_sign z a b) l) (omega arith);
    }

chained_whole : (item : Parser Expr) (link : Parser (Option Sign)) (i j : Input) (a : Expr) → Chained item link i a j → link j ≡ Ok (None, j) → linked item link i ≡ Ok (a, j)
unfolding linked_on
chained_whole item link i j a c ends = c.is ∙ ap (λ o. and_then o (next_link item (linked_on item link c.turns) a)) ends

-- ---- each rule

abbrev pub Claim : NameTable → Rule → ℕ → ℕ → Cursor → Expr → Cursor → Type 0
Claim names x.factor m n from a to = (r : ℕ) → n ≤ r → factor_of names m (at from r) ≡ Ok (a, at to (r - n))
Claim names x.term m n from a to = (r : ℕ) → n ≤ r → Chained (factor_of names m) times (at from r) a (at to (r - n))
Claim names x.expr m n from a to = Leaves s.Times to → (r : ℕ) → n ≤ r → Chained (product (factor_of names m)) plus_or_minus (at from r) a (at to (r - n))

term_whole : (names : NameTable) (m n : ℕ) (from to : Cursor) (a : Expr) → Claim names x.term m n from a to → Leaves s.Times to
    → (r : ℕ) → n ≤ r → product (factor_of names m) (at from r) ≡ Ok (a, at to (r - n))
unfolding product
term_whole names m n from to a claim l r room = chained_whole (factor_of names m) times (at from r) (at to (r - n)) a (claim r room) (times_leaves (at to (r - n)) l)

expr_whole : (names : NameTable) (m n : ℕ) (from to : Cursor) (a : Expr) → Claim names x.expr m n from a to → EndsExpr to
    → (r : ℕ) → n ≤ r → sum (factor_of names m) (at from r) ≡ Ok (a, at to (r - n))
unfolding sum
expr_whole names m n from to a claim l r room =
    chained_whole (product (factor_of names m)) plus_or_minus (at from r) (at to (r - n)) a (claim l.times r room) (adds_leaves (at to (r - n)) l.plus l.minus)

-- ---- factors

-- what a factor is read by at its number of levels
factor_is : (names : NameTable) (m : ℕ) → (below : Option (Parser Expr)) × (factor_of names m ≡ factor_in names below)
unfolding factor_of
factor_is names zero = (None, refl)
factor_is names (suc m) = (Some (factor_of names m), refl)

number_reads : (names : NameTable) (m v : ℕ) (from to : Cursor) (st : Stands names (number v) from to) → Claim names x.factor m 1 from (e.Value v) to
unfolding factor_in
number_reads names m v from to st = λ r room.
    let u = factor_is names m in
    let t = st.lexeme in
    ap (λ (p : Parser Expr). p (at from r)) u.1
    ∙ bind_value (next (at from r)) (λ t. factor_by names u.0 t t.kind) t (at to r) (stands_token names (number v) (at from r) to st)
    ∙ ap (λ k. factor_by names u.0 t k (at to r)) st.matches
    ∙ ap (λ o. and_then o (λ u. pure (e.Value v))) (node_reads t.place (at to r) room)

scalar_reads : (names : NameTable) (m q : ℕ) (from to : Cursor) (st : Stands names (scalar q) from to) → Claim names x.factor m 1 from (e.Scalar q) to
unfolding factor_in
scalar_reads names m q from to st = λ r room.
    let u = factor_is names m in
    let t = st.lexeme in
    let is = st.matches in
    ap (λ (p : Parser Expr). p (at from r)) u.1
    ∙ bind_value (next (at from r)) (λ t. factor_by names u.0 t t.kind) t (at to r) (stands_token names (scalar q) (at from r) to st)
    ∙ ap (λ k. factor_by names u.0 t k (at to r)) is.0
    ∙ ap (λ z. and_then (allowed t.place (scalar_in z) (at to r)) (λ r i. and_then (node t.place i) (λ u. pure (e.Scalar r)))) (named_reads names t (place.Scalar q) is.0 is.1 is.2)
    ∙ ap (λ o. and_then o (λ u. pure (e.Scalar q))) (node_reads t.place (at to r) room)

bracket_reads : (names : NameTable) (m n : ℕ) (from mid end to : Cursor) (a : Expr) → Stands names (sign s.Open) from mid → Claim names x.expr m n mid a end
    → Stands names (sign s.Close) end to → Claim names x.factor (suc m) n from a to
unfolding factor_of factor_in
bracket_reads names m n from mid end to a st claim close = λ r room.
    let t = st.lexeme in
    let below = Some (factor_of names m) in
    bind_value (next (at from r)) (λ t. factor_by names below t t.kind) t (at mid r) (stands_token names (sign s.Open) (at from r) mid st)
    ∙ ap (λ k. factor_by names below t k (at mid r)) st.matches
    ∙ ap (λ b. (if b then deeper t.place below else refuse t.place Unexpected) (at mid r)) (sign_is_same s.Open)
    ∙ ap (λ o. and_then o (λ a k. and_then (expect s.Close k) (λ u. pure a)))
    (expr_whole names m n mid end a claim (ends_before names s.Close end to close refl refl refl) r room)
    ∙ ap (λ o. and_then o (λ u. pure a)) (expect_reads names s.Close (at end (r - n)) to close)

-- ---- joined parts

product_reads : (names : NameTable) (m k n : ℕ) (from mid behind to : Cursor) (a b : Expr) → Claim names x.term m k from a mid
    → Stands names (sign s.Times) mid behind → Claim names x.factor m n behind b to → Claim names x.term m (1 + (k + n)) from (e.Mul a b) to
product_reads names m k n from mid behind to a b left st right = λ r room.
    let more = chained_more (factor_of names m) times (at from r) (at mid (r - k)) (at behind (r - k - 1)) (at to (r - k - 1 - n)) a b s.Times
    (left r (omega arith)) (omega arith) (times_reads names (at mid (r - k)) behind st (omega arith)) (right (r - k - 1) (omega arith)) (omega arith) in
    subst (λ q. Chained (factor_of names m) times (at from r) (e.Mul a b) (at to q)) (omega arith) more

sum_reads : (names : NameTable) (m k n : ℕ) (from mid behind to : Cursor) (a b : Expr) → Claim names x.expr m k from a mid
    → Stands names (sign s.Plus) mid behind → Claim names x.term m n behind b to → Claim names x.expr m (1 + (k + n)) from (e.Add a b) to
sum_reads names m k n from mid behind to a b left st right = λ l r room.
    let first = left (leaves_other names s.Times s.Plus mid behind st refl) r (omega arith) in
    let more = chained_more (product (factor_of names m)) plus_or_minus (at from r) (at mid (r - k)) (at behind (r - k - 1)) (at to (r - k - 1 - n)) a b s.Plus
    first (omega arith) (plus_reads names (at mid (r - k)) behind st (omega arith)) (term_whole names m n behind to b right l (r - k - 1) (omega arith)) (omega arith) in
    subst (λ q. Chained (product (factor_of names m)) plus_or_minus (at from r) (e.Add a b) (at to q)) (omega arith) more

difference_reads : (names : NameTable) (m k n : ℕ) (from mid behind to : Cursor) (a b : Expr) → Claim names x.expr m k from a mid
    → Stands names (sign s.Minus) mid behind → Claim names x.term m n behind b to → Claim names x.expr m (1 + (k + n)) from (e.Sub a b) to
difference_reads names m k n from mid behind to a b left st right = λ l r room.
    let first = left (leaves_other names s.Times s.Minus mid behind st refl) r (omega arith) in
    let more = chained_more (product (factor_of names m)) plus_or_minus (at from r) (at mid (r - k)) (at behind (r - k - 1)) (at to (r - k - 1 - n)) a b s.Minus
    first (omega arith) (minus_reads names (at mid (r - k)) behind st (omega arith)) (term_whole names m n behind to b right l (r - k - 1) (omega arith)) (omega arith) in
    subst (λ q. Chained (product (factor_of names m)) plus_or_minus (at from r) (e.Sub a b) (at to q)) (omega arith) more

claims : (names : NameTable) (rule : Rule) (m n : ℕ) (from to : Cursor) (a : Expr) → Is names rule m n from a to → Claim names rule m n from a to
claims names _ _ _ _ _ _ (a_number m v from to st) = number_reads names m v from to st
claims names _ _ _ _ _ _ (a_scalar m q from to st) = scalar_reads names m q from to st
claims names _ _ _ _ _ _ (a_bracket m n from mid end to a st is close) = bracket_reads names m n from mid end to a st (claims names x.expr m n mid end a is) close
claims names _ _ _ _ _ _ (a_term m n from to a is) = λ r room.
    chained_first (factor_of names m) times (at from r) (at to (r - n)) a (claims names x.factor m n from to a is r room)
claims names _ _ _ _ _ _ (a_product m k n from mid behind to a b is st more) =
    product_reads names m k n from mid behind to a b (claims names x.term m k from mid a is) st (claims names x.factor m n behind to b more)
claims names _ _ _ _ _ _ (an_expr m n from to a is) = λ l r room.
    chained_first (product (factor_of names m)) plus_or_minus (at from r) (at to (r - n)) a (term_whole names m n from to a (claims names x.term m n from to a is) l r room)
claims names _ _ _ _ _ _ (a_sum m k n from mid behind to a b is st more) =
    sum_reads names m k n from mid behind to a b (claims names x.expr m k from mid a is) st (claims names x.term m n behind to b more)
claims names _ _ _ _ _ _ (a_difference m k n from mid behind to a b is st more) =
    difference_reads names m k n from mid behind to a b (claims names x.expr m k from mid a is) st (claims names x.term m n behind to b more)

-- an expression of the grammar is read, where no token goes on with it
pub expr_reads : (names : NameTable) (m n : ℕ) (from to : Cursor) (a : Expr) → Is names x.expr m n from a to → EndsExpr to → (r : ℕ) → n ≤ r
    → sum (factor_of names m) (at from r) ≡ Ok (a, at to (r - n))
expr_reads names m n from to a is ends r room = expr_whole names m n from to a (claims names x.expr m n from to a is) ends r room
