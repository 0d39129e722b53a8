-- A reader never goes back, and its fault is at a token that it met.
use Rattle.std.proofs.Common.{◌≡◌, ℕ, zero, suc, ◌+◌, ◌-◌, ◌≤◌, Bool, true, false, Ok, Err, refl, ap, ◌∙◌, subst, arith, inl, inr}
use Rattle.std.specs.Prelude.{if◌then◌else◌, Result, ◌==◌, ◌⊎◌}
use Rattle.pg_lex.specs.declared.token.Sign.{Sign}
use Rattle.pg_lex.specs.declared.fault.TextFault.{TextFault}
use Rattle.pg_lex.specs.declared.fault.TextFault.TheVariants.{At}
use Rattle.pg_lex.specs.declared.fault.TextKind.{TextKind}
use Rattle.pg_lex.specs.declared.fault.TextKind.TheVariants.{TooMany, Unexpected}
use Rattle.pg_lex.specs.Lex.{Cursor, Lexeme, token, after}
use Rattle.pg_program.specs.NameTable.{NameTable}
use Rattle.pg_assertion_text.specs.Input as input
use Rattle.pg_assertion_text.specs.Input.{Input, Outcome, Parser, and_then, ◌>>=◌, ◌>>◌, pure, refuse, allowed, seen, peek, next, node, goes_on, expect, is_sign, number_in, location_in, named}
use Rattle.pg_assertion_text.proofs.Steps.{next_found, peek_found}
use Rattle.pg_assertion_text.specs.Agreement.{ahead, FaultAt}

pub ahead-add : (k m : ℕ) (c : Cursor) → ahead k (ahead m c) ≡ ahead (m + k) c
ahead-add k zero c = let e : k ≡ 0 + k = omega arith in ap (λ n. ahead n c) e
ahead-add k (suc m) c = let e : suc (m + k) ≡ suc m + k = omega arith in ahead-add k m (after c) ∙ ap (λ n. ahead n c) e

-- an input that is so many tokens further on, at least m
pub record Later (m : ℕ) (c : Cursor) (r : ℕ) (j : Input) : Type 0 where
  pub k : ℕ
  pub far : m ≤ k
  pub is : j.cursor ≡ ahead k c
  pub room : j.room ≤ r

-- a fault that is so many tokens further on, at least m
pub record Faulty (m : ℕ) (c : Cursor) (e : TextFault) : Type 0 where
  pub k : ℕ
  pub far : m ≤ k
  pub at : FaultAt c k e

-- what was read, or the fault, is at least m tokens further on
abbrev pub Past : {A : Type 0} → ℕ → Cursor → ℕ → Outcome A → Type 0
Past m c r (Ok p) = Later m c r p.1
Past m c r (Err e) = Faulty m c e

abbrev pub Moves : {A : Type 0} → Parser A → Type 0
Moves p = (i : Input) → Past 0 i.cursor i.room (p i)

-- ---- put together

fault_from : (m k l : ℕ) (c : Cursor) (e : TextFault) → m ≤ k → FaultAt (ahead k c) l e → Faulty m c e
fault_from m k l c e far f = record { k = k + l; far = omega arith; at = subst (λ d. ((x : Lexeme) × (why : TextKind) × (token d ≡ Ok x) × (e ≡ At x.place why)) ⊎ (token d ≡ Err e)) (ahead-add l k c) f }

pub shift : {A : Type 0} (m n : ℕ) (c : Cursor) (r k : ℕ) (d : Cursor) (s : ℕ) (o : Outcome A) → d ≡ ahead k c → m ≤ k + n → s ≤ r → Past n d s o → Past m c r o
shift m n c r k d s (Ok p) at far room past = record {
  k = k + past.k;
  far = let pf = past.far in omega arith;
  is = past.is ∙ ap (ahead past.k) at ∙ ahead-add past.k k c;
  room = let pr = past.room in omega arith;
}
shift m n c r k d s (Err e) at far room past = record {
  k = k + past.k;
  far = let pf = past.far in omega arith;
  at = subst (λ d. ((x : Lexeme) × (why : TextKind) × (token d ≡ Ok x) × (e ≡ At x.place why)) ⊎ (token d ≡ Err e)) (ap (ahead past.k) at ∙ ahead-add past.k k c) past.at;
}

pub bind_at : {A B : Type 0} (m : ℕ) (c : Cursor) (r : ℕ) (o : Outcome A) (f : A → Parser B) → Past m c r o
    → ((a : A) (j : Input) → o ≡ Ok (a, j) → Later m c r j → Past m c r (f a j)) → Past m c r (and_then o f)
bind_at m c r (Ok p) f past rest = rest p.0 p.1 refl past
bind_at m c r (Err e) f past rest = past

pub bind_moves : {A B : Type 0} (m : ℕ) (c : Cursor) (r : ℕ) (o : Outcome A) (f : A → Parser B) → Past m c r o → ((a : A) → Moves (f a)) → Past m c r (and_then o f)
bind_moves m c r o f past rest =
    bind_at m c r o f past (λ a j is later. shift m 0 c r later.k j.cursor j.room (f a j) later.is (let far = later.far in omega arith) later.room (rest a j))

pub moves_then : {A B : Type 0} (p : Parser A) (f : A → Parser B) → Moves p → ((a : A) → Moves (f a)) → Moves (p >>= f)
moves_then p f first rest i = bind_moves 0 i.cursor i.room (p i) f (first i) rest

pub moves_pure : {A : Type 0} (a : A) → Moves (pure a)
moves_pure a i = record { k = 0; far = omega arith; is = refl; room = omega arith }

-- ---- steps

seen_moves : (m : ℕ) (i j : Input) (r : Result Lexeme TextFault) → token i.cursor ≡ r → j.cursor ≡ ahead m i.cursor → j.room ≡ i.room → Past 0 i.cursor i.room (seen j r)
seen_moves m i j (Ok l) is at room = record { k = m; far = omega arith; is = at; room = omega (arith, room) }
seen_moves m i j (Err e) is at room = record { k = 0; far = omega arith; at = inr is }

pub peek_moves : Moves peek
unfolding peek
peek_moves i = seen_moves 0 i i (token i.cursor) refl refl refl

pub next_moves : Moves next
unfolding next
next_moves i = seen_moves 1 i (record i { cursor = after i.cursor }) (token i.cursor) refl refl refl

-- a fault of the token at a place, and what a value of it is
pub refused_at : (A : Type 0) (c : Cursor) (r : ℕ) (t : Lexeme) (w : TextKind) → token c ≡ Ok t → (j : Input) → Past {A = A} 0 c r (refuse t.place w j)
refused_at A c r t w read j = record { k = 0; far = omega arith; at = inl (t, w, read, refl) }

pub allowed_at : {A : Type 0} (c : Cursor) (r : ℕ) (t : Lexeme) (v : Result A TextKind) → token c ≡ Ok t → (j : Input) → Later 0 c r j → Past 0 c r (allowed t.place v j)
allowed_at {A} c r t (Ok a) read j later = later
allowed_at {A} c r t (Err w) read j later = refused_at A c r t w read j

pub node_at : (c : Cursor) (r : ℕ) (t : Lexeme) → token c ≡ Ok t → (j : Input) → Later 0 c r j → Past 0 c r (node t.place j)
unfolding node
node_at c r t read j later = by (j.room == 0)
  where
    by : (b : Bool) → Past {A = Unit {0}} 0 c r (if b then Err (At t.place TooMany) else Ok (tt, record j { room = j.room - 1 }))
    by true = refused_at (Unit {0}) c r t TooMany read j
    by false = record { k = later.k; far = later.far; is = later.is; room = let lr = later.room in omega arith }

-- a token that is taken, and what is made of it
pub token_moves : {A : Type 0} (f : Lexeme → Parser A) → ((c : Cursor) (r : ℕ) (t : Lexeme) → token c ≡ Ok t → (j : Input) → j.cursor ≡ after c → j.room ≡ r → Past 0 c r (f t j)) → Moves (next >>= f)
token_moves f rest i =
    bind_at 0 i.cursor i.room (next i) f (next_moves i) (λ t j is later.
    let found = next_found i j t is in
    rest i.cursor i.room t found.0 j (ap (λ q. q.cursor) found.1) (ap (λ q. q.room) found.1))

pub one_later : (c : Cursor) (r : ℕ) (j : Input) → j.cursor ≡ after c → j.room ≡ r → Later 0 c r j
one_later c r j at room = record { k = 1; far = omega arith; is = at; room = omega (arith, room) }

pub expect_moves : (z : Sign) → Moves (expect z)
unfolding expect
expect_moves z = token_moves (λ t. if is_sign z t.kind then pure tt else refuse t.place Unexpected) (λ c r t read j at room. by c r t read j (one_later c r j at room) (is_sign z t.kind))
  where
    by : (c : Cursor) (r : ℕ) (t : Lexeme) → token c ≡ Ok t → (j : Input) → Later 0 c r j → (b : Bool) → Past {A = Unit {0}} 0 c r ((if b then pure tt else refuse t.place Unexpected) j)
    by c r t read j later true = later
    by c r t read j later false = refused_at (Unit {0}) c r t Unexpected read j

pub number_moves : Moves input.number
unfolding input.number
number_moves = token_moves (λ t. allowed t.place (number_in t.kind)) (λ c r t read j at room. allowed_at c r t (number_in t.kind) read j (one_later c r j at room))

pub location_moves : (names : NameTable) → Moves (input.location names)
unfolding input.location
location_moves names = token_moves (λ t. allowed t.place (location_in (named names t))) (λ c r t read j at room. allowed_at c r t (location_in (named names t)) read j (one_later c r j at room))

pub goes_on_moves : (z : Sign) → Moves (goes_on z)
unfolding goes_on
goes_on_moves z i =
    bind_at 0 i.cursor i.room (peek i) (λ t. if is_sign z t.kind then (node t.place >> next >> pure true) else pure false) (peek_moves i) (λ t j is later.
    by t (peek_found i j t is).0 j later (is_sign z t.kind))
  where
    by : (t : Lexeme) → token i.cursor ≡ Ok t → (j : Input) → Later 0 i.cursor i.room j → (b : Bool)
        → Past {A = Bool} 0 i.cursor i.room ((if b then (node t.place >> next >> pure true) else pure false) j)
    by t read j later false = later
    by t read j later true =
        bind_moves 0 i.cursor i.room (and_then (node t.place j) (λ u. next)) (λ u. pure true)
        (bind_moves 0 i.cursor i.room (node t.place j) (λ u. next) (node_at i.cursor i.room t read j later) (λ u. next_moves)) (λ u. moves_pure true)
