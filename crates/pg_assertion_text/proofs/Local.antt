-- What a reader gives rests on the tokens up to its end, or up to its fault, alone: in each text that is alike so far it gives the same. So does
-- one with looser limits, where there is one (`X`), unless the fault is that of a limit. Each reader is put together of steps that are so.
use Rattle.std.proofs.Common.{◌≡◌, ℕ, zero, suc, ◌+◌, ◌-◌, ◌<◌, ◌≤◌, ◌==◌, Bool, true, false, Ok, Err, refl, ap, sym, ◌∙◌, subst, arith, inl, inr}
use Rattle.std.specs.Prelude.{◌⊎◌, if◌then◌else◌, Result}
use Rattle.std.proofs.lemmas.Bool.{eqb-true, eqb-false}
use Rattle.pg_lex.specs.declared.token.Sign.{Sign}
use Rattle.pg_lex.specs.declared.fault.TextFault.{TextFault}
use Rattle.pg_lex.specs.declared.fault.TextFault.TheVariants.{At}
use Rattle.pg_lex.specs.declared.fault.TextKind.{TextKind}
use Rattle.pg_lex.specs.declared.fault.TextKind.TheVariants.{TooMany, Unexpected}
use Rattle.pg_lex.specs.Lex.{Cursor, Lexeme, token, after}
use Rattle.pg_program.specs.NameTable.{NameTable}
use Rattle.pg_assertion_text.specs.Input as input
use Rattle.pg_assertion_text.specs.Input.{Input, Outcome, Parser, and_then, ◌>>=◌, ◌>>◌, pure, refuse, allowed, seen, peek, next, node, goes_on, expect, is_sign, number_in, location_in, named}
use Rattle.pg_assertion_text.specs.Agreement.{ahead, Alike, FaultAt, IsLimit}
use Rattle.pg_assertion_text.proofs.Complete.{at}
use Rattle.pg_assertion_text.proofs.Moves.{ahead-add}
use Rattle.pg_assertion_text.proofs.Reaches.{alike-at, alike-less, alike-rest}

-- a limit, and the same limit or a larger one
abbrev pub Grown : Type 0 → ℕ → ℕ → Type 0
Grown X a b = (a ≡ b) ⊎ (X × (a ≤ b))

-- what was read behind k tokens, and what the other reader reads in a text that has these and the next one
pub record LikeOk {A : Type 0} (X : Type 0) (c : Cursor) (r : ℕ) (p : A × Input) (q : Cursor → ℕ → Outcome A) : Type 0 where
  pub k : ℕ
  pub is : p.1.cursor ≡ ahead k c
  pub room : p.1.room ≤ r
  pub like : (d : Cursor) (t : ℕ) → Grown X r t → Alike (suc k) c d → (s : ℕ) × Grown X p.1.room s × (q d t ≡ Ok (p.0, at (ahead k d) s))

-- the fault at a token, and that of the other reader in a text that has the tokens up to this one
pub record LikeErr {A : Type 0} (X : Type 0) (c : Cursor) (r : ℕ) (e : TextFault) (q : Cursor → ℕ → Outcome A) : Type 0 where
  pub m : ℕ
  pub at : FaultAt c m e
  pub like : (d : Cursor) (t : ℕ) → Grown X r t → Alike (suc m) c d → (X × IsLimit e) ⊎ (q d t ≡ Err e)

abbrev pub Same : {A : Type 0} → Type 0 → Cursor → ℕ → Outcome A → (Cursor → ℕ → Outcome A) → Type 0
Same X c r (Ok p) q = LikeOk X c r p q
Same X c r (Err e) q = LikeErr X c r e q

abbrev pub Local : {A : Type 0} → Type 0 → Parser A → Parser A → Type 0
Local X p q = (c : Cursor) (r : ℕ) → Same X c r (p (at c r)) (λ d t. q (at d t))

fault_behind : (k l : ℕ) (c b : Cursor) (e : TextFault) → b ≡ ahead k c → FaultAt b l e → FaultAt c (k + l) e
fault_behind k l c b e is f =
    subst (λ d. ((x : Lexeme) × (why : TextKind) × (token d ≡ Ok x) × (e ≡ At x.place why)) ⊎ (token d ≡ Err e)) (ap (ahead l) is ∙ ahead-add l k c) f

pub grown_less : (X : Type 0) (a b : ℕ) → Grown X a b → a ≤ b
grown_less X a b (inl same) = omega (arith, same)
grown_less X a b (inr more) = more.1

grown_minus : (X : Type 0) (a b : ℕ) → Grown X a b → Grown X (a - 1) (b - 1)
grown_minus X a b (inl same) = inl (ap (λ n. n - 1) same)
grown_minus X a b (inr more) = let less = more.1 in inr (more.0, omega (arith, less))

module _ (X : Type 0) where
  -- ---- put together

  -- the other reader by what it gives, where the first token is the same
  pub known : {A : Type 0} (c : Cursor) (r : ℕ) (o : Outcome A) (p q : Cursor → ℕ → Outcome A) → ((d : Cursor) (t : ℕ) → token c ≡ token d → q d t ≡ p d t) → Same X c r o p → Same X c r o q
  known c r (Ok v) p q is same = record {
    k = same.k;
    is = same.is;
    room = same.room;
    like = λ d t grown al. let w = same.like d t grown al in (w.0, w.1, is d t al.0 ∙ w.2);
  }
  known {A} c r (Err e) p q is same = record { m = same.m; at = same.at; like = λ d t grown al. by d t al.0 (same.like d t grown al) }
    where
      by : (d : Cursor) (t : ℕ) → token c ≡ token d → (X × IsLimit e) ⊎ (p d t ≡ Err e) → (X × IsLimit e) ⊎ (q d t ≡ Err e)
      by d t first (inl limit) = inl limit
      by d t first (inr stops) = inr (is d t first ∙ stops)

  -- a step behind one that is read
  shift : {A B : Type 0} (c : Cursor) (r k : ℕ) (b : Cursor) (s : ℕ) (a : A) (o : Outcome B) (q : Cursor → ℕ → Outcome A) (g : A → Parser B) → b ≡ ahead k c → s ≤ r
      → ((d : Cursor) (t : ℕ) → Grown X r t → Alike (suc k) c d → (u : ℕ) × Grown X s u × (q d t ≡ Ok (a, at (ahead k d) u)))
      → Same X b s o (λ d t. g a (at d t)) → Same X c r o (λ d t. and_then (q d t) g)
  shift c r k b s a (Ok p) q g behind room first same = record {
    k = k + same.k;
    is = same.is ∙ ap (ahead same.k) behind ∙ ahead-add same.k k c;
    room = let sr = same.room in omega arith;
    like = λ d t grown al.
        let one = first d t grown (alike-less (suc (k + same.k)) (suc k) c d (omega arith) al) in
        let more = alike-at (suc (k + same.k) - k) (suc same.k) (ahead k c) (ahead k d) (omega arith) (alike-rest (suc (k + same.k)) k c d (omega arith) al) in
        let two = same.like (ahead k d) one.0 one.1 (subst (λ x. Alike (suc same.k) x (ahead k d)) (sym behind) more) in
        (two.0, two.1, ap (λ o. and_then o g) one.2 ∙ two.2 ∙ ap (λ x. Ok (p.0, at x two.0)) (ahead-add same.k k d));
  }
  shift {A} {B} c r k b s a (Err e) q g behind room first same = record {
    m = k + same.m;
    at = fault_behind k same.m c b e behind same.at;
    like = λ d t grown al.
        let one = first d t grown (alike-less (suc (k + same.m)) (suc k) c d (omega arith) al) in
        let more = alike-at (suc (k + same.m) - k) (suc same.m) (ahead k c) (ahead k d) (omega arith) (alike-rest (suc (k + same.m)) k c d (omega arith) al) in
        by d t one.0 one.2 (same.like (ahead k d) one.0 one.1 (subst (λ x. Alike (suc same.m) x (ahead k d)) (sym behind) more));
  }
    where
      by : (d : Cursor) (t u : ℕ) → q d t ≡ Ok (a, at (ahead k d) u) → (X × IsLimit e) ⊎ (g a (at (ahead k d) u) ≡ Err e) → (X × IsLimit e) ⊎ (and_then (q d t) g ≡ Err e)
      by d t u first (inl limit) = inl limit
      by d t u first (inr stops) = inr (ap (λ o. and_then o g) first ∙ stops)

  pub bind_is : {A B : Type 0} (c : Cursor) (r : ℕ) (o : Outcome A) (q : Cursor → ℕ → Outcome A) (f g : A → Parser B) → Same X c r o q
      → ((a : A) (j : Input) → o ≡ Ok (a, j) → Same X j.cursor j.room (f a j) (λ d t. g a (at d t))) → Same X c r (and_then o f) (λ d t. and_then (q d t) g)
  bind_is c r (Ok p) q f g same rest = shift c r same.k p.1.cursor p.1.room p.0 (f p.0 p.1) q g same.is same.room same.like (rest p.0 p.1 refl)
  bind_is {A} {B} c r (Err e) q f g same rest = record { m = same.m; at = same.at; like = λ d t grown al. by d t (same.like d t grown al) }
    where
      by : (d : Cursor) (t : ℕ) → (X × IsLimit e) ⊎ (q d t ≡ Err e) → (X × IsLimit e) ⊎ (and_then (q d t) g ≡ Err e)
      by d t (inl limit) = inl limit
      by d t (inr stops) = inr (ap (λ o. and_then o g) stops)

  pub bind : {A B : Type 0} (c : Cursor) (r : ℕ) (o : Outcome A) (q : Cursor → ℕ → Outcome A) (f g : A → Parser B) → Same X c r o q → ((a : A) → Local X (f a) (g a))
      → Same X c r (and_then o f) (λ d t. and_then (q d t) g)
  bind c r o q f g same rest = bind_is c r o q f g same (λ a j is. rest a j.cursor j.room)

  pub local_then : {A B : Type 0} (p q : Parser A) (f g : A → Parser B) → Local X p q → ((a : A) → Local X (f a) (g a)) → Local X (p >>= f) (q >>= g)
  local_then p q f g first rest c r = bind c r (p (at c r)) (λ d t. q (at d t)) f g (first c r) rest

  pub local_pure : {A : Type 0} (a : A) → Local X (pure a) (pure a)
  local_pure a c r = record { k = 0; is = refl; room = omega arith; like = λ d t grown al. (t, grown, refl) }

  -- ---- behind a token that is known

  pub refused : (A : Type 0) (c : Cursor) (r : ℕ) (t : Lexeme) (w : TextKind) → token c ≡ Ok t → Same {A = A} X c r (Err (At t.place w)) (λ d s. Err (At t.place w))
  refused A c r t w is = record { m = 0; at = inl (t, w, is, refl); like = λ d s grown al. inr refl }

  -- a limit is met where the other reader may go on
  pub limited : (A : Type 0) (x : X) (c : Cursor) (r : ℕ) (t : Lexeme) (w : TextKind) → token c ≡ Ok t → IsLimit (At t.place w) → (q : Cursor → ℕ → Outcome A) → Same X c r (Err (At t.place w)) q
  limited A x c r t w is limit q = record { m = 0; at = inl (t, w, is, refl); like = λ d s grown al. inl (x, limit) }

  pub taken : {A : Type 0} (p q : Parser A) → Local X p q → (c : Cursor) (r : ℕ) → Same X c r (p (at (after c) r)) (λ d s. q (at (after d) s))
  taken {A} p q same c r = by (p (at (after c) r)) (same (after c) r)
    where
      by : (o : Outcome A) → Same X (after c) r o (λ d t. q (at d t)) → Same X c r o (λ d s. q (at (after d) s))
      by (Ok v) w = record { k = suc w.k; is = w.is; room = w.room; like = λ d t grown al. w.like (after d) t grown al.1 }
      by (Err e) w = record { m = suc w.m; at = w.at; like = λ d t grown al. w.like (after d) t grown al.1 }

  pub allowed_then : {A B : Type 0} (go : Cursor → Cursor) (c : Cursor) (r : ℕ) (t : Lexeme) → token c ≡ Ok t → (v : Result A TextKind) (f g : A → Parser B)
      → ((a : A) → Same X c r (f a (at (go c) r)) (λ d s. g a (at (go d) s)))
      → Same X c r (and_then (allowed t.place v (at (go c) r)) f) (λ d s. and_then (allowed t.place v (at (go d) s)) g)
  allowed_then go c r t is (Ok a) f g rest = rest a
  allowed_then {A} {B} go c r t is (Err w) f g rest = refused B c r t w is

  pub chosen : {A : Type 0} (b : Bool) (c : Cursor) (r : ℕ) (go : Cursor → Cursor) (p q u v : Parser A) → Same X c r (p (at (go c) r)) (λ d s. u (at (go d) s)) → Same X c r (q (at (go c) r)) (λ d s. v (at (go d) s))
      → Same X c r ((if b then p else q) (at (go c) r)) (λ d s. (if b then u else v) (at (go d) s))
  chosen true c r go p q u v first second = first
  chosen false c r go p q u v first second = second

  -- with one node less to come
  spent : {A : Type 0} (c : Cursor) (r : ℕ) (o : Outcome A) (p q : Cursor → ℕ → Outcome A) → ((d : Cursor) (s : ℕ) → Grown X r s → q d s ≡ p d (s - 1)) → Same X c (r - 1) o p → Same X c r o q
  spent c r (Ok v) p q is same = record {
    k = same.k;
    is = same.is;
    room = let sr = same.room in omega arith;
    like = λ d t grown al. let w = same.like d (t - 1) (grown_minus X r t grown) al in (w.0, w.1, is d t grown ∙ w.2);
  }
  spent {A} c r (Err e) p q is same = record { m = same.m; at = same.at; like = λ d t grown al. by d t grown (same.like d (t - 1) (grown_minus X r t grown) al) }
    where
      by : (d : Cursor) (t : ℕ) → Grown X r t → (X × IsLimit e) ⊎ (p d (t - 1) ≡ Err e) → (X × IsLimit e) ⊎ (q d t ≡ Err e)
      by d t grown (inl limit) = inl limit
      by d t grown (inr stops) = inr (is d t grown ∙ stops)

  pub node_then : {A : Type 0} (go : Cursor → Cursor) (c : Cursor) (r : ℕ) (t : Lexeme) → token c ≡ Ok t → (p q : Parser A) → ((s : ℕ) → Same X c s (p (at (go c) s)) (λ d s. q (at (go d) s)))
      → Same X c r (and_then (node t.place (at (go c) r)) (λ u. p)) (λ d s. and_then (node t.place (at (go d) s)) (λ u. q))
  unfolding node
  node_then {A} go c r t is p q rest = by (r == 0) refl
    where
      none : (d : Cursor) (s : ℕ) → r == 0 ≡ true → Grown X r s → (X × IsLimit (At t.place TooMany)) ⊎ (and_then {A = Unit {0}} (if s == 0 then Err (At t.place TooMany) else Ok (tt, at (go d) (s - 1))) (λ u. q) ≡ Err (At t.place TooMany))
      none d s e (inl same) = inr (ap (λ b. and_then {A = Unit {0}} (if b then Err (At t.place TooMany) else Ok (tt, at (go d) (s - 1))) (λ u. q)) (subst (λ n. n == 0 ≡ true) same e))
      none d s e (inr more) = inl (more.0, (t.place, inl refl))

      some : (d : Cursor) (s : ℕ) (b : Bool) → s == 0 ≡ b → r == 0 ≡ false → Grown X r s → and_then {A = Unit {0}} (if b then Err (At t.place TooMany) else Ok (tt, at (go d) (s - 1))) (λ u. q) ≡ q (at (go d) (s - 1))
      some d s true f e grown = absurd (let a = eqb-false r 0 e in let b = eqb-true s 0 f in let less = grown_less X r s grown in omega (arith, a, b, less))
      some d s false f e grown = refl

      by : (b : Bool) → r == 0 ≡ b
          → Same X c r (and_then {A = Unit {0}} (if b then Err (At t.place TooMany) else Ok (tt, at (go c) (r - 1))) (λ u. p)) (λ d s. and_then {A = Unit {0}} (if s == 0 then Err (At t.place TooMany) else Ok (tt, at (go d) (s - 1))) (λ u. q))
      by true e = record { m = 0; at = inl (t, TooMany, is, refl); like = λ d s grown al. none d s e grown }
      by false e = spent c r (p (at (go c) (r - 1))) (λ d s. q (at (go d) s)) (λ d s. and_then {A = Unit {0}} (if s == 0 then Err (At t.place TooMany) else Ok (tt, at (go d) (s - 1))) (λ u. q)) (λ d s grown. some d s (s == 0) refl e grown) (rest (r - 1))

  -- ---- one token

  -- what is made of the next token, which may be taken
  pub seen_then : {A : Type 0} (go : Cursor → Cursor) (c : Cursor) (r : ℕ) (f g : Lexeme → Parser A) → ((t : Lexeme) → token c ≡ Ok t → Same X c r (f t (at (go c) r)) (λ d s. g t (at (go d) s)))
      → Same X c r (and_then (seen (at (go c) r) (token c)) f) (λ d t. and_then (seen (at (go d) t) (token d)) g)
  seen_then {A} go c r f g rest = by (token c) refl
    where
      by : (v : Result Lexeme TextFault) → token c ≡ v → Same X c r (and_then (seen (at (go c) r) v) f) (λ d t. and_then (seen (at (go d) t) (token d)) g)
      by (Ok l) is = known c r (f l (at (go c) r)) (λ d s. g l (at (go d) s)) (λ d t. and_then (seen (at (go d) t) (token d)) g) (λ d t first. ap (λ v. and_then (seen (at (go d) t) v) g) (sym first ∙ is)) (rest l is)
      by (Err e) is = record { m = 0; at = inr is; like = λ d t grown al. inr (ap (λ v. and_then (seen (at (go d) t) v) g) (sym al.0 ∙ is)) }

  pub token_local : {A : Type 0} (f g : Lexeme → Parser A) → ((c : Cursor) (r : ℕ) (t : Lexeme) → token c ≡ Ok t → Same X c r (f t (at (after c) r)) (λ d s. g t (at (after d) s))) → Local X (next >>= f) (next >>= g)
  unfolding next
  token_local f g rest c r = seen_then after c r f g (rest c r)

  pub peek_local : {A : Type 0} (f g : Lexeme → Parser A) → ((c : Cursor) (r : ℕ) (t : Lexeme) → token c ≡ Ok t → Same X c r (f t (at c r)) (λ d s. g t (at d s))) → Local X (peek >>= f) (peek >>= g)
  unfolding peek
  peek_local f g rest c r = seen_then (λ c. c) c r f g (rest c r)

  -- the next token is taken behind one place
  pub next_then : {A : Type 0} (f g : Parser A) (c : Cursor) (r : ℕ) → Same X c r (f (at (after c) r)) (λ d s. g (at (after d) s)) → Same X c r (and_then (next (at c r)) (λ t. f)) (λ d s. and_then (next (at d s)) (λ t. g))
  unfolding next
  next_then f g c r rest = seen_then after c r (λ t. f) (λ t. g) (λ t is. rest)

  -- its token is a node and is taken
  pub counted_then : {A : Type 0} (c : Cursor) (r : ℕ) (t : Lexeme) → token c ≡ Ok t → (f g : Parser A) → ((s : ℕ) → Same X c s (f (at (after c) s)) (λ d s. g (at (after d) s)))
      → Same X c r (and_then (and_then (node t.place (at c r)) (λ u. next)) (λ l. f)) (λ d s. and_then (and_then (node t.place (at d s)) (λ u. next)) (λ l. g))
  counted_then c r t is f g rest =
      known c r (and_then (and_then (node t.place (at c r)) (λ u. next)) (λ l. f)) (λ d s. and_then (node t.place (at d s)) (λ u. next >> g)) (λ d s. and_then (and_then (node t.place (at d s)) (λ u. next)) (λ l. g))
      (λ d s first. joined (node t.place (at d s)) g)
      (subst (λ o. Same X c r o (λ d s. and_then (node t.place (at d s)) (λ u. next >> g))) (sym (joined (node t.place (at c r)) f))
      (node_then (λ c. c) c r t is (next >> f) (next >> g) (λ s. next_then f g c s (rest s))))
    where
      joined : {A : Type 0} (o : Outcome (Unit {0})) (f : Parser A) → and_then (and_then o (λ u. next)) (λ l. f) ≡ and_then o (λ u. next >> f)
      joined (Ok p) f = refl
      joined (Err e) f = refl

  -- a token is taken, and then comes a phrase
  pub local_behind : {A : Type 0} (p q : Parser A) → Local X p q → Local X (next >> p) (next >> q)
  local_behind p q same = token_local (λ t. p) (λ t. q) (λ c r t is. taken p q same c r)

  pub local_next : Local X next next
  unfolding next
  local_next c r = by (token c) refl
    where
      by : (v : Result Lexeme TextFault) → token c ≡ v → Same X c r (seen (at (after c) r) v) (λ d t. seen (at (after d) t) (token d))
      by (Ok l) is = known c r (Ok (l, at (after c) r)) (λ d t. Ok (l, at (after d) t)) (λ d t. seen (at (after d) t) (token d)) (λ d t first. ap (seen (at (after d) t)) (sym first ∙ is))
          (record { k = 1; is = refl; room = omega arith; like = λ d t grown al. (t, grown, refl) })
      by (Err e) is = record { m = 0; at = inr is; like = λ d t grown al. inr (ap (seen (at (after d) t)) (sym al.0 ∙ is)) }

  pub local_expect : (z : Sign) → Local X (expect z) (expect z)
  unfolding expect
  local_expect z = token_local (λ t. if is_sign z t.kind then pure tt else refuse t.place Unexpected) (λ t. if is_sign z t.kind then pure tt else refuse t.place Unexpected) (λ c r t is.
      chosen (is_sign z t.kind) c r after (pure tt) (refuse t.place Unexpected) (pure tt) (refuse t.place Unexpected) (taken (pure tt) (pure tt) (local_pure tt) c r) (refused (Unit {0}) c r t Unexpected is))

  allowed_local : {A : Type 0} (c : Cursor) (r : ℕ) (t : Lexeme) → token c ≡ Ok t → (v : Result A TextKind) → Same X c r (allowed t.place v (at (after c) r)) (λ d s. allowed t.place v (at (after d) s))
  allowed_local c r t is (Ok a) = taken (pure a) (pure a) (local_pure a) c r
  allowed_local {A} c r t is (Err w) = refused A c r t w is

  pub local_number : Local X input.number input.number
  unfolding input.number
  local_number = token_local (λ t. allowed t.place (number_in t.kind)) (λ t. allowed t.place (number_in t.kind)) (λ c r t is. allowed_local c r t is (number_in t.kind))

  pub local_location : (names : NameTable) → Local X (input.location names) (input.location names)
  unfolding input.location
  local_location names = token_local (λ t. allowed t.place (location_in (named names t))) (λ t. allowed t.place (location_in (named names t))) (λ c r t is. allowed_local c r t is (location_in (named names t)))

  pub local_goes : (z : Sign) → Local X (goes_on z) (goes_on z)
  unfolding goes_on
  local_goes z = peek_local (λ t. if is_sign z t.kind then (node t.place >> next >> pure true) else pure false) (λ t. if is_sign z t.kind then (node t.place >> next >> pure true) else pure false) (λ c r t is.
      chosen (is_sign z t.kind) c r (λ c. c) (node t.place >> next >> pure true) (pure false) (node t.place >> next >> pure true) (pure false)
      (counted_then c r t is (pure true) (pure true) (λ s. taken (pure true) (pure true) (local_pure true) c s))
      (local_pure false c r))

-- ---- loops

-- A loop whose turn goes on, or ends with a value. Where each turn that goes on leaves less room, a number of turns above the room is never spent.
abbrev pub onwards : {A B : Type 0} → (A → Parser B) → A ⊎ B → Parser B
onwards rest (inl a) = rest a
onwards rest (inr b) = pure b

unfoldable pub turns_on : {A B : Type 0} → (A → Parser (A ⊎ B)) → ℕ → A → Parser B
turns_on turn zero a = refuse 0 TooMany
turns_on turn (suc n) a = turn a >>= onwards (turns_on turn n)

abbrev pub Spends : {A B : Type 0} → (A → Parser (A ⊎ B)) → Type 0
Spends {A} turn = (a b : A) (i j : Input) → turn a i ≡ Ok (inl b, j) → j.room < i.room

-- as many turns as there may be
abbrev enough : {A B : Type 0} → (A → Parser (A ⊎ B)) → A → Parser B
enough turn a = λ i. turns_on turn (suc i.room) a i

pub turns_free : {A B : Type 0} (turn : A → Parser (A ⊎ B)) → Spends turn → (n m : ℕ) (a : A) (i : Input) → i.room < n → i.room < m → turns_on turn n a i ≡ turns_on turn m a i
unfolding turns_on
turns_free turn spends zero m a i less few = absurd (omega arith)
turns_free turn spends (suc n) zero a i less few = absurd (omega arith)
turns_free {A} {B} turn spends (suc n) (suc m) a i less few = by (λ b j fewer. turns_free turn spends n m b j (omega arith) (omega arith)) (turn a i) refl
  where
    behind : ((b : A) (j : Input) → j.room < i.room → turns_on turn n b j ≡ turns_on turn m b j) → (v : A ⊎ B) (j : Input) → turn a i ≡ Ok (v, j) → onwards (turns_on turn n) v j ≡ onwards (turns_on turn m) v j
    behind same (inl b) j is = same b j (spends a b i j is)
    behind same (inr b) j is = refl

    by : ((b : A) (j : Input) → j.room < i.room → turns_on turn n b j ≡ turns_on turn m b j) → (o : Outcome (A ⊎ B)) → turn a i ≡ o → and_then o (onwards (turns_on turn n)) ≡ and_then o (onwards (turns_on turn m))
    by same (Ok p) is = behind same p.0 p.1 is
    by same (Err e) is = refl

-- one turn, and then as many as there may be
first_turn : {A B : Type 0} (turn : A → Parser (A ⊎ B)) → Spends turn → (n : ℕ) (a : A) (i : Input) → i.room ≤ n → turns_on turn (suc n) a i ≡ and_then (turn a i) (onwards (enough turn))
unfolding turns_on
first_turn {A} {B} turn spends n a i most = by (λ b j fewer. turns_free turn spends n (suc j.room) b j (omega arith) (omega arith)) (turn a i) refl
  where
    behind : ((b : A) (j : Input) → j.room < i.room → turns_on turn n b j ≡ turns_on turn (suc j.room) b j) → (v : A ⊎ B) (j : Input) → turn a i ≡ Ok (v, j) → onwards (turns_on turn n) v j ≡ onwards (enough turn) v j
    behind same (inl b) j is = same b j (spends a b i j is)
    behind same (inr b) j is = refl

    by : ((b : A) (j : Input) → j.room < i.room → turns_on turn n b j ≡ turns_on turn (suc j.room) b j) → (o : Outcome (A ⊎ B)) → turn a i ≡ o → and_then o (onwards (turns_on turn n)) ≡ and_then o (onwards (enough turn))
    by same (Ok p) is = behind same p.0 p.1 is
    by same (Err e) is = refl

turns_local : {A B : Type 0} (X : Type 0) (turn other : A → Parser (A ⊎ B)) → Spends turn → Spends other → ((a : A) → Local X (turn a) (other a)) → (n : ℕ) (a : A) (c : Cursor) (r : ℕ) → r < n
    → Same X c r (turns_on turn n a (at c r)) (λ d t. enough other a (at d t))
unfolding turns_on
turns_local X turn other spends less_left same zero a c r less = absurd (omega arith)
turns_local {A} {B} X turn other spends less_left same (suc n) a c r less =
    known X c r (and_then (turn a (at c r)) (onwards (turns_on turn n))) (λ d t. and_then (other a (at d t)) (onwards (enough other))) (λ d t. enough other a (at d t))
    (λ d t first. first_turn other less_left t a (at d t) (omega arith))
    (bind_is X c r (turn a (at c r)) (λ d t. other a (at d t)) (onwards (turns_on turn n)) (onwards (enough other)) (same a c r) (behind (λ b j fewer. turns_local X turn other spends less_left same n b j.cursor j.room (omega arith))))
  where
    behind : ((b : A) (j : Input) → j.room < r → Same X j.cursor j.room (turns_on turn n b j) (λ d t. enough other b (at d t))) → (v : A ⊎ B) (j : Input) → turn a (at c r) ≡ Ok (v, j)
        → Same X j.cursor j.room (onwards (turns_on turn n) v j) (λ d t. onwards (enough other) v (at d t))
    behind more (inl b) j is = more b j (spends a b (at c r) j is)
    behind more (inr b) j is = local_pure X b j.cursor j.room

-- a loop in its own words
abbrev pub Turns : {A B : Type 0} → (A → Parser (A ⊎ B)) → (ℕ → A → Parser B) → Type 0
Turns {A} turn loop = (n : ℕ) (a : A) (i : Input) → loop n a i ≡ turns_on turn n a i

-- its turns are never spent: more of them change nothing
pub loop_free : {A B : Type 0} (turn : A → Parser (A ⊎ B)) (loop : ℕ → A → Parser B) → Turns turn loop → Spends turn → (n : ℕ) (a : A) (i : Input) → i.room < n → loop n a i ≡ loop (i.room + 1) a i
loop_free turn loop is spends n a i less = is n a i ∙ turns_free turn spends n (i.room + 1) a i less (omega arith) ∙ sym (is (i.room + 1) a i)

pub loop_local : {A B : Type 0} (X : Type 0) (turn other : A → Parser (A ⊎ B)) (loop again : ℕ → A → Parser B) → Turns turn loop → Turns other again → Spends turn → Spends other → ((a : A) → Local X (turn a) (other a))
    → (a : A) → Local X (λ i. loop (i.room + 1) a i) (λ i. again (i.room + 1) a i)
loop_local X turn other loop again is also spends less_left same a c r =
    known X c r (loop (r + 1) a (at c r)) (λ d t. enough other a (at d t)) (λ d t. again (t + 1) a (at d t)) (λ d t first. also (t + 1) a (at d t) ∙ ap (λ n. turns_on other n a (at d t)) (omega arith))
    (subst (λ o. Same X c r o (λ d t. enough other a (at d t))) (sym (is (r + 1) a (at c r))) (turns_local X turn other spends less_left same (r + 1) a c r (omega arith)))

-- ---- what follows

pub no_rise : {A : Type 0} (X : Type 0) (p q : Parser A) → Local X p q → (i j : Input) (a : A) → p i ≡ Ok (a, j) → j.room ≤ i.room
no_rise X p q same i j a is = (subst (λ o. Same X i.cursor i.room o (λ d t. q (at d t))) is (same i.cursor i.room)).room
