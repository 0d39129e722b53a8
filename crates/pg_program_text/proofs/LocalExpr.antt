-- What a reader of expressions gives rests on the tokens up to its end, or up to its fault, alone.
use Rattle.std.proofs.Common.{◌≡◌, ℕ, zero, suc, ◌+◌, ◌<◌, ◌≤◌, Bool, true, false, Ok, Err, Some, None, refl, ap, arith, inl, inr}
use Rattle.std.specs.Prelude.{◌⊎◌, if◌then◌else◌, Option}
use Rattle.pg_lex.specs.declared.token.Sign.{Sign}
use Rattle.pg_lex.specs.declared.token.Sign.TheVariants as s
use Rattle.pg_lex.specs.declared.token.TokenKind.{TokenKind}
use Rattle.pg_lex.specs.declared.token.TokenKind.TheVariants as kind
use Rattle.pg_lex.specs.declared.fault.TextFault.{TextFault}
use Rattle.pg_lex.specs.declared.fault.TextKind.TheVariants.{TooDeep, Unexpected}
use Rattle.pg_lex.specs.Lex.{Cursor, Lexeme, token, after}
use Rattle.pg_program.specs.NameTable.{NameTable, empty_table}
use Rattle.pg_program.specs.declared.syntax.Expr.{Expr}
use Rattle.pg_program.specs.declared.syntax.Expr.TheVariants as e
use Rattle.pg_assertion_text.specs.Input.{Input, Outcome, Parser, and_then, ◌>>=◌, ◌>>◌, pure, refuse, node, goes_on, expect, is_sign, named, scalar_in}
use Rattle.pg_assertion_text.specs.Agreement.{IsLimit}
use Rattle.pg_assertion_text.proofs.Steps.{ok_same, bind_then, goes_on_found, goes_on_stops}
use Rattle.pg_assertion_text.proofs.Local.{Grown, grown_less, Same, Local, taken, refused, limited, allowed_then, chosen, node_then, token_local, local_then, local_pure, local_goes, turns_on, onwards, Turns, Spends, loop_free, loop_local, no_rise}
use Rattle.pg_assertion_text.proofs.LocalFormula.{local_made, local_closed}
use Rattle.pg_program_text.specs.Expr.{by_sign, times, or_minus, plus_or_minus, next_link, linked_on, linked, product, sum, deeper, factor_by, factor_in, factor_of}
use Rattle.pg_program_text.specs.Stmt.{with_room, within}
use Rattle.pg_program_text.proofs.ExprComplete.{at}

-- nothing read leaves more room
abbrev pub Sinks : {A : Type 0} → Parser A → Type 0
Sinks {A} p = (i j : Input) (a : A) → p i ≡ Ok (a, j) → j.room ≤ i.room

-- two readers, of which the second may have looser limits
abbrev pub Both : {A : Type 0} → Type 0 → Parser A → Parser A → Type 0
Both X p q = Local X p q × Local ⊥ q q

-- ---- signs

local_times : (X : Type 0) → Local X times times
unfolding times
local_times X = local_made X (goes_on s.Times) (goes_on s.Times) (λ more. if more then Some s.Times else None) (local_goes X s.Times)

local_or_minus : (X : Type 0) (b : Bool) → Local X (or_minus b) (or_minus b)
local_or_minus X true = local_pure X (Some s.Plus)
local_or_minus X false = local_made X (goes_on s.Minus) (goes_on s.Minus) (λ more. if more then Some s.Minus else None) (local_goes X s.Minus)

local_plus_or_minus : (X : Type 0) → Local X plus_or_minus plus_or_minus
unfolding plus_or_minus
local_plus_or_minus X = local_then X (goes_on s.Plus) (goes_on s.Plus) or_minus or_minus (local_goes X s.Plus) (λ b. local_or_minus X b)

-- a sign that is taken is a node
abbrev Links : Parser (Option Sign) → Type 0
Links link = (z : Sign) (i j : Input) → link i ≡ Ok (Some z, j) → j.room < i.room

sign_links : (z y : Sign) (i j : Input) → and_then (goes_on z i) (λ more. pure (if more then Some z else None)) ≡ Ok (Some y, j) → j.room < i.room
sign_links z y i j h = bind_then (goes_on z i) _ (Some y, j) h by
  where
    by : (more : Bool) (k : Input) → goes_on z i ≡ Ok (more, k) → ◌≡◌ {A = Outcome (Option Sign)} (Ok ((if more then Some z else None), k)) (Ok (Some y, j)) → j.room < i.room
    by true k goes last =
        let same = ap (λ (p : Option Sign × Input). p.1.room) (ok_same (Some z, k) (Some y, j) last) in
        let spent = (goes_on_found (empty_table 0 1) z i k goes).room in
        omega (arith, same, spent)
    by false k goes last = let same = ap (λ (p : Option Sign × Input). p.0) (ok_same (None, k) (Some y, j) last) in cc

times_links : Links times
unfolding times
times_links z i j h = sign_links s.Times z i j h

adds_links : Links plus_or_minus
unfolding plus_or_minus
adds_links z i j h = bind_then (goes_on s.Plus i) or_minus (Some z, j) h by
  where
    by : (more : Bool) (k : Input) → goes_on s.Plus i ≡ Ok (more, k) → or_minus more k ≡ Ok (Some z, j) → j.room < i.room
    by true k goes last =
        let same = ap (λ (p : Option Sign × Input). p.1.room) (ok_same (Some s.Plus, k) (Some z, j) last) in
        let spent = (goes_on_found (empty_table 0 1) s.Plus i k goes).room in
        omega (arith, same, spent)
    by false k goes last =
        let stays = ap (λ (i : Input). i.room) (goes_on_stops s.Plus i k goes) in
        let less = sign_links s.Minus z k j last in
        omega (arith, stays, less)

-- ---- items with signs between them

link_go : Parser Expr → Expr → Option Sign → Parser (Expr ⊎ Expr)
link_go item left None = pure (inr left)
link_go item left (Some z) = item >>= (λ right. pure (inl (by_sign z left right)))

link_turn : Parser Expr → Parser (Option Sign) → Expr → Parser (Expr ⊎ Expr)
link_turn item link left = link >>= link_go item left

linked_is : (item : Parser Expr) (link : Parser (Option Sign)) → Turns (link_turn item link) (linked_on item link)
unfolding linked_on turns_on link_turn link_go
linked_is item link zero left i = refl
linked_is item link (suc n) left i = by (λ left j. linked_is item link n left j) (link i)
  where
    on : ((left : Expr) (j : Input) → linked_on item link n left j ≡ turns_on (link_turn item link) n left j) → (z : Sign) (o : Outcome Expr)
        → and_then o (λ right. linked_on item link n (by_sign z left right)) ≡ and_then (and_then o (λ right. pure {A = Expr ⊎ Expr} (inl (by_sign z left right)))) (onwards (turns_on (link_turn item link) n))
    on same z (Ok p) = same (by_sign z left p.0) p.1
    on same z (Err e) = refl

    go : ((left : Expr) (j : Input) → linked_on item link n left j ≡ turns_on (link_turn item link) n left j) → (v : Option Sign) (j : Input)
        → next_link item (linked_on item link n) left v j ≡ and_then (link_go item left v j) (onwards (turns_on (link_turn item link) n))
    go same None j = refl
    go same (Some z) j = on same z (item j)

    by : ((left : Expr) (j : Input) → linked_on item link n left j ≡ turns_on (link_turn item link) n left j) → (o : Outcome (Option Sign))
        → and_then o (next_link item (linked_on item link n) left) ≡ and_then (and_then o (link_go item left)) (onwards (turns_on (link_turn item link) n))
    by same (Ok p) = go same p.0 p.1
    by same (Err e) = refl

linked_spends : (item : Parser Expr) (link : Parser (Option Sign)) → Sinks item → Links link → Spends (link_turn item link)
unfolding link_turn link_go
linked_spends item link sinks links left b i j h = bind_then (link i) (link_go item left) (inl b, j) h by
  where
    by : (v : Option Sign) (k : Input) → link i ≡ Ok (v, k) → link_go item left v k ≡ Ok (inl b, j) → j.room < i.room
    by None k goes rest = let same = ap (λ (p : (Expr ⊎ Expr) × Input). p.0) (ok_same (inr left, k) (inl b, j) rest) in cc
    by (Some z) k goes rest = bind_then (item k) (λ right. pure (inl (by_sign z left right))) (inl b, j) rest (λ right l is last.
        let same = ap (λ (p : (Expr ⊎ Expr) × Input). p.1.room) (ok_same (inl (by_sign z left right), l) (inl b, j) last) in
        let spent = links z i k goes in
        let less = sinks k l right is in
        omega (arith, same, spent, less))

-- the turns of items with signs between them are never spent
pub linked_free : (item : Parser Expr) (link : Parser (Option Sign)) → Sinks item → Links link → (n : ℕ) (left : Expr) (i : Input) → i.room < n → linked_on item link n left i ≡ linked_on item link (i.room + 1) left i
linked_free item link sinks links n left i less = loop_free (link_turn item link) (linked_on item link) (linked_is item link) (linked_spends item link sinks links) n left i less

link_go_local : (X : Type 0) (p q : Parser Expr) (left : Expr) → Local X p q → (v : Option Sign) → Local X (link_go p left v) (link_go q left v)
unfolding link_go
link_go_local X p q left same None = local_pure X (inr left)
link_go_local X p q left same (Some z) = local_made X p q (λ right. inl (by_sign z left right)) same

linked_local : (X : Type 0) (p q : Parser Expr) (link : Parser (Option Sign)) → ((Y : Type 0) → Local Y link link) → Links link → Local X p q → Sinks p → Sinks q → Local X (linked p link) (linked q link)
unfolding linked link_turn
linked_local X p q link of_link links same sp sq =
    local_then X p q (λ left i. linked_on p link (i.room + 1) left i) (λ left i. linked_on q link (i.room + 1) left i) same (λ left.
    loop_local X (link_turn p link) (link_turn q link) (linked_on p link) (linked_on q link) (linked_is p link) (linked_is q link) (linked_spends p link sp links) (linked_spends q link sq links)
    (λ left. local_then X link link (link_go p left) (link_go q left) (of_link X) (λ v. link_go_local X p q left same v)) left)

linked_both : (X : Type 0) (p q : Parser Expr) (link : Parser (Option Sign)) → ((Y : Type 0) → Local Y link link) → Links link → Both X p q → Both X (linked p link) (linked q link)
linked_both X p q link of_link links both =
    let sp = no_rise X p q both.0 in
    let sq = no_rise ⊥ q q both.1 in
    (linked_local X p q link of_link links both.0 sp sq, linked_local ⊥ q q link of_link links both.1 sq sq)

sum_both : (X : Type 0) (p q : Parser Expr) → Both X p q → Both X (sum p) (sum q)
unfolding sum product
sum_both X p q both = linked_both X (product p) (product q) plus_or_minus local_plus_or_minus adds_links (linked_both X p q times local_times times_links both)

-- ---- factors

abbrev BelowLocal : Type 0 → Option (Parser Expr) → Option (Parser Expr) → Type 0
BelowLocal X None None = Unit {0}
BelowLocal X None (Some q) = X
BelowLocal X (Some p) None = ⊥
BelowLocal X (Some p) (Some q) = Both X p q

deeper_local : (X : Type 0) (a b : Option (Parser Expr)) → BelowLocal X a b → (c : Cursor) (r : ℕ) (t : Lexeme) → token c ≡ Ok t → Same X c r (deeper t.place a (at (after c) r)) (λ d s. deeper t.place b (at (after d) s))
deeper_local X None None below c r t is = refused X Expr c r t TooDeep is
deeper_local X None (Some q) below c r t is = limited X Expr below c r t TooDeep is (t.place, inr refl) (λ d s. deeper t.place (Some q) (at (after d) s))
deeper_local X (Some p) None below c r t is = absurd below
deeper_local X (Some p) (Some q) below c r t is =
    taken X (deeper t.place (Some p)) (deeper t.place (Some q)) (local_then X (sum p) (sum q) (λ a. expect s.Close >> pure a) (λ a. expect s.Close >> pure a) (sum_both X p q below).0 (λ a. local_closed X s.Close a)) c r

factor_in_local : (X : Type 0) (names : NameTable) (a b : Option (Parser Expr)) → BelowLocal X a b → Local X (factor_in names a) (factor_in names b)
unfolding factor_in
factor_in_local X names a b below = token_local X (λ t. factor_by names a t t.kind) (λ t. factor_by names b t t.kind) (λ c r t is. by c r t is t.kind)
  where
    counted : (c : Cursor) (r : ℕ) (t : Lexeme) → token c ≡ Ok t → (x : Expr) → Same X c r (and_then (node t.place (at (after c) r)) (λ u. pure x)) (λ d s. and_then (node t.place (at (after d) s)) (λ u. pure x))
    counted c r t is x = node_then X after c r t is (pure x) (pure x) (λ s. taken X (pure x) (pure x) (local_pure X x) c s)

    by : (c : Cursor) (r : ℕ) (t : Lexeme) → token c ≡ Ok t → (k : TokenKind) → Same X c r (factor_by names a t k (at (after c) r)) (λ d s. factor_by names b t k (at (after d) s))
    by c r t is (kind.Number v) = counted c r t is (e.Value v)
    by c r t is (kind.Sign z) = chosen X (is_sign s.Open (kind.Sign z)) c r after (deeper t.place a) (refuse t.place Unexpected) (deeper t.place b) (refuse t.place Unexpected) (deeper_local X a b below c r t is) (refused X Expr c r t Unexpected is)
    by c r t is kind.Word = allowed_then X after c r t is (scalar_in (named names t)) (λ q. node t.place >> pure (e.Scalar q)) (λ q. node t.place >> pure (e.Scalar q)) (λ q. counted c r t is (e.Scalar q))
    by c r t is (kind.Letter b) = refused X Expr c r t Unexpected is
    by c r t is kind.End = refused X Expr c r t Unexpected is

factor_self : (names : NameTable) (n : ℕ) → Local ⊥ (factor_of names n) (factor_of names n)
unfolding factor_of
factor_self names zero = factor_in_local ⊥ names None None tt
factor_self names (suc n) = factor_in_local ⊥ names (Some (factor_of names n)) (Some (factor_of names n)) (factor_self names n, factor_self names n)

pub grown_below : (X : Type 0) (n m : ℕ) → Grown X (suc n) (suc m) → Grown X n m
grown_below X n m (inl equal) = inl (omega (arith, equal))
grown_below X n m (inr more) = let less = more.1 in inr (more.0, omega (arith, less))

factor_local : (X : Type 0) (names : NameTable) (n m : ℕ) → Grown X n m → Local X (factor_of names n) (factor_of names m)
unfolding factor_of
factor_local X names zero zero grown = factor_in_local X names None None tt
factor_local X names zero (suc m) (inl equal) = absurd (omega (arith, equal))
factor_local X names zero (suc m) (inr more) = factor_in_local X names None (Some (factor_of names m)) more.0
factor_local X names (suc n) zero grown = absurd (let less = grown_less X (suc n) zero grown in omega (arith, less))
factor_local X names (suc n) (suc m) grown =
    factor_in_local X names (Some (factor_of names n)) (Some (factor_of names m)) (factor_local X names n m (grown_below X n m grown), factor_self names m)

-- ---- expressions

-- a phrase with a room of its own
pub within_local : {A : Type 0} (X : Type 0) (p q : Parser A) (n m : ℕ) → Grown X n m → Local X p q → Local X (within n p) (within m q)
within_local {A} X p q n m grown same c r = by (p (at c n)) (same c n)
  where
    fails : (e : TextFault) (d : Cursor) (t : ℕ) → (X × IsLimit e) ⊎ (q (at d m) ≡ Err e) → (X × IsLimit e) ⊎ (with_room t (q (at d m)) ≡ Err e)
    fails e d t (inl limit) = inl limit
    fails e d t (inr stops) = inr (ap (with_room t) stops)

    by : (o : Outcome A) → Same X c n o (λ d t. q (at d t)) → Same X c r (with_room r o) (λ d t. with_room t (q (at d m)))
    by (Ok v) w = record {
      k = w.k;
      is = w.is;
      room = omega arith;
      like = λ d t more al. let u = w.like d m grown al in (t, more, ap (with_room t) u.2);
    }
    by (Err e) w = record { m = w.m; at = w.at; like = λ d t more al. fails e d t (w.like d m grown al) }

-- an expression with these limits
pub expression_local : (X : Type 0) (names : NameTable) (a b n m : ℕ) → Grown X a b → Grown X n m → Local X (within a (sum (factor_of names n))) (within b (sum (factor_of names m)))
expression_local X names a b n m nodes brackets =
    within_local X (sum (factor_of names n)) (sum (factor_of names m)) a b nodes (sum_both X (factor_of names n) (factor_of names m) (factor_local X names n m brackets, factor_self names m)).0
