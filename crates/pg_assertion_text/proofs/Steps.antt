-- Lemmas on the steps that phrases are read by. What a step takes stands there; what stands there is taken.
use Rattle.std.specs.Prelude.{◌≡◌, ℕ, ◌+◌, ◌-◌, ◌<◌, ◌==◌, Bool, true, false, if◌then◌else◌, List, [], ◌∷◌, ◌++◌, Option, Some, None, Result, Ok, Err, refl}
use Rattle.std.proofs.Common.{ap, sym, ◌∙◌, subst, arith}
use Rattle.std.proofs.lemmas.Bool.{eqb-true, eqb-false}
use Rattle.std.proofs.Common.{rules}
use Rattle.std.specs.Result.{result_unwrap_or}
use denote.Enum.Bare.{same_true, true_same}
use Rattle.pg_lex.specs.declared.token.Sign.{Sign}
use Rattle.pg_lex.specs.contracts.token.Sign as signs
use Rattle.pg_lex.specs.declared.token.TokenKind.{TokenKind}
use Rattle.pg_lex.specs.declared.token.TokenKind.TheVariants as kind
use Rattle.pg_lex.specs.declared.fault.TextFault.{TextFault}
use Rattle.pg_lex.specs.declared.fault.TextFault.TheVariants.{At}
use Rattle.pg_lex.specs.declared.fault.TextKind.{TextKind}
use Rattle.pg_lex.specs.declared.fault.TextKind.TheVariants.{TooMany, Unexpected}
use Rattle.pg_lex.specs.Lex.{Cursor, Lexeme, token, after}
use Rattle.pg_program.specs.NameTable.{NameTable, find}
use Rattle.pg_program.specs.declared.name_table.NameRef.{NameRef}
use Rattle.pg_program.specs.declared.name_table.NameRef.TheVariants as place
use Rattle.pg_assertion_text.specs.Words.{Item, sign, number, location, Matches, Stands, Stand, is_reserved, same_sign}
use Rattle.pg_assertion_text.specs.Input as input
use Rattle.pg_assertion_text.specs.Input.{Input, Outcome, Parser, and_then, ◌>>=◌, ◌>>◌, pure, refuse, allowed, seen, peek, next, node, goes_on, expect, is_sign, number_in, named, named_by, declared, location_in, scalar_in}

-- ---- outcomes

abbrev or_else : {A : Type 0} → Outcome A → A × Input → A × Input
or_else (Ok p) q = p
or_else (Err e) q = q

pub ok_same : {A : Type 0} (p q : A × Input) → ◌≡◌ {A = Outcome A} (Ok p) (Ok q) → p ≡ q
ok_same {A} p q h = let same : Outcome A → A × Input = λ o. or_else o p in ap same h

no_value : {A : Type 0} (e : TextFault) (q : A × Input) → ◌≡◌ {A = Outcome A} (Err e) (Ok q) → ⊥
no_value e q h = cc

-- two steps gave a value: what the first gave, and what the second made of it
pub bind_then : {A B : Type 0} {X : Type 0} (o : Outcome A) (f : A → Parser B) (q : B × Input) → and_then o f ≡ Ok q
    → ((a : A) (j : Input) → o ≡ Ok (a, j) → f a j ≡ Ok q → X) → X
bind_then (Ok p) f q h use_it = use_it p.0 p.1 refl h
bind_then (Err e) f q h use_it = absurd (no_value e q h)

-- a value that was found allowed
pub allowed_then : {A : Type 0} {X : Type 0} (p : ℕ) (r : Result A TextKind) (i : Input) (q : A × Input) → allowed p r i ≡ Ok q
    → ((a : A) → r ≡ Ok a → (a, i) ≡ q → X) → X
allowed_then p (Ok a) i q h use_it = use_it a refl (ok_same (a, i) q h)
allowed_then p (Err why) i q h use_it = absurd (no_value (At p why) q h)

-- what follows a step that gives a value
pub bind_value : {A B : Type 0} (o : Outcome A) (f : A → Parser B) (a : A) (j : Input) → o ≡ Ok (a, j) → and_then o f ≡ f a j
bind_value o f a j h = ap (λ o. and_then o f) h

-- ---- one token

pub seen_found : (i j : Input) (r : Result Lexeme TextFault) (t : Lexeme) → seen i r ≡ Ok (t, j) → (r ≡ Ok t) × (j ≡ i)
seen_found i j (Ok l) t h =
    let same = ok_same (l, i) (t, j) h in
    (ap (λ (p : Lexeme × Input). Ok p.0) same, sym (ap (λ (p : Lexeme × Input). p.1) same))
seen_found i j (Err e) t h = absurd (no_value e (t, j) h)

pub same_lexeme : (a b : Lexeme) → ◌≡◌ {A = Result Lexeme TextFault} (Ok a) (Ok b) → a ≡ b
same_lexeme a b h = let value : Result Lexeme TextFault → Lexeme = λ r. result_unwrap_or r a in ap value h

pub next_found : (i j : Input) (t : Lexeme) → next i ≡ Ok (t, j) → (token i.cursor ≡ Ok t) × (j ≡ record i { cursor = after i.cursor })
unfolding next
next_found i j t h = seen_found (record i { cursor = after i.cursor }) j (token i.cursor) t h

pub next_reads : (i : Input) (t : Lexeme) → token i.cursor ≡ Ok t → next i ≡ Ok (t, record i { cursor = after i.cursor })
unfolding next
next_reads i t h = ap (seen (record i { cursor = after i.cursor })) h

pub peek_found : (i j : Input) (t : Lexeme) → peek i ≡ Ok (t, j) → (token i.cursor ≡ Ok t) × (j ≡ i)
unfolding peek
peek_found i j t h = seen_found i j (token i.cursor) t h

pub peek_reads : (i : Input) (t : Lexeme) → token i.cursor ≡ Ok t → peek i ≡ Ok (t, i)
unfolding peek
peek_reads i t h = ap (seen i) h

pub same_sign_is : (s t : Sign) → same_sign s t ≡ true → s ≡ t
same_sign_is s t h = same_true signs.the_type (search rules) s t h

pub sign_is_same : (s : Sign) → same_sign s s ≡ true
sign_is_same s = true_same signs.the_type s s refl

pub is_sign_found : (s : Sign) (k : TokenKind) → is_sign s k ≡ true → k ≡ kind.Sign s
is_sign_found s (kind.Sign t) h = ap kind.Sign (same_sign_is t s h)
is_sign_found s kind.Word h = cc
is_sign_found s (kind.Number n) h = cc
is_sign_found s (kind.Letter b) h = cc
is_sign_found s kind.End h = cc

-- ---- what a reader takes: items that stand there, and so many nodes

pub record Takes (names : NameTable) (items : List Item) (n : ℕ) (i j : Input) : Type 0 where
  pub stand : Stand names items i.cursor j.cursor
  pub room : i.room ≡ j.room + n

pub takes_one : (names : NameTable) (item : Item) (i j : Input) (t : Lexeme) → token i.cursor ≡ Ok t → Matches names item t
    → j ≡ record i { cursor = after i.cursor } → Takes names (item ∷ []) 0 i j
takes_one names item i j t read matches behind = record {
  stand = (j.cursor, record { lexeme = t; read = read; matches = matches; behind = ap (λ k. k.cursor) behind }, refl);
  room = let same = ap (λ k. k.room) behind in omega (arith, same);
}

pub stand-append : (names : NameTable) (is js : List Item) (from mid to : Cursor) → Stand names is from mid → Stand names js mid to → Stand names (is ++ js) from to
stand-append names [] js from mid to a b = subst (λ c. Stand names js c to) a b
stand-append names (i ∷ is) js from mid to a b = (a.0, a.1, stand-append names is js a.0 mid to a.2 b)

pub stand-split : (names : NameTable) (is js : List Item) (from to : Cursor) → Stand names (is ++ js) from to → (mid : Cursor) × Stand names is from mid × Stand names js mid to
stand-split names [] js from to st = (from, refl, st)
stand-split names (i ∷ is) js from to st = let rest = stand-split names is js st.0 to st.2 in (rest.0, (st.0, st.1, rest.1), rest.2)

pub takes_then : {names : NameTable} {is js : List Item} {m n : ℕ} {i j k : Input} → Takes names is m i j → Takes names js n j k → Takes names (is ++ js) (n + m) i k
takes_then {names} {is} {js} {m} {n} {i} {j} {k} a b = record {
  stand = stand-append names is js i.cursor j.cursor k.cursor a.stand b.stand;
  room = let ar = a.room in let br = b.room in omega arith;
}

-- a number of nodes, and items after it
pub node_found : (p : ℕ) (i j : Input) (u : Unit {0}) → node p i ≡ Ok (u, j) → (j.cursor ≡ i.cursor) × (i.room ≡ j.room + 1)
unfolding node
node_found p i j u h = by (i.room == 0) refl h
  where
    by : (b : Bool) → i.room == 0 ≡ b → ◌≡◌ {A = Outcome (Unit {0})} (if b then Err (At p TooMany) else Ok (tt, record i { room = i.room - 1 })) (Ok (u, j))
        → (j.cursor ≡ i.cursor) × (i.room ≡ j.room + 1)
    by true e g = absurd (no_value (At p TooMany) (u, j) g)
    by false e g =
        let same = ok_same (tt, record i { room = i.room - 1 }) (u, j) g in
        let some = eqb-false i.room 0 e in
        let room = ap (λ (q : Unit {0} × Input). q.1.room) same in
        (sym (ap (λ (q : Unit {0} × Input). q.1.cursor) same), omega (arith, room, some))

pub node_takes : (names : NameTable) (p : ℕ) (i j : Input) (u : Unit {0}) → node p i ≡ Ok (u, j) → Takes names [] 1 i j
node_takes names p i j u h = let found = node_found p i j u h in record { stand = found.0; room = found.1 }

pub node_reads : (p : ℕ) (i : Input) → 0 < i.room → node p i ≡ Ok (tt, record i { room = i.room - 1 })
unfolding node
node_reads p i h = by (i.room == 0) refl
  where
    by : (b : Bool) → i.room == 0 ≡ b → ◌≡◌ {A = Outcome (Unit {0})} (if b then Err (At p TooMany) else Ok (tt, record i { room = i.room - 1 })) (Ok (tt, record i { room = i.room - 1 }))
    by true e = absurd (omega (arith, eqb-true i.room 0 e))
    by false e = refl

-- ---- signs and numbers

pub expect_found : (names : NameTable) (s : Sign) (i j : Input) (u : Unit {0}) → expect s i ≡ Ok (u, j) → Takes names (sign s ∷ []) 0 i j
unfolding expect
expect_found names s i j u h =
    bind_then (next i) _ (u, j) h (λ t k read rest.
    by t k (next_found i k t read) (is_sign s t.kind) refl rest)
  where
    by : (t : Lexeme) (k : Input) → (token i.cursor ≡ Ok t) × (k ≡ record i { cursor = after i.cursor }) → (b : Bool) → is_sign s t.kind ≡ b
        → ◌≡◌ {A = Outcome (Unit {0})} ((if b then pure tt else refuse t.place Unexpected) k) (Ok (u, j)) → Takes names (sign s ∷ []) 0 i j
    by t k found true e g =
        takes_one names (sign s) i j t found.0 (is_sign_found s t.kind e) (sym (ap (λ (q : Unit {0} × Input). q.1) (ok_same (tt, k) (u, j) g)) ∙ found.1)
    by t k found false e g = absurd (no_value (At t.place Unexpected) (u, j) g)

pub stands_token : (names : NameTable) (item : Item) (i : Input) (to : Cursor) (st : Stands names item i.cursor to) → next i ≡ Ok (st.lexeme, record i { cursor = to })
stands_token names item i to st = next_reads i st.lexeme st.read ∙ ap (λ c. Ok (st.lexeme, record i { cursor = c })) (sym st.behind)

pub expect_reads : (names : NameTable) (s : Sign) (i : Input) (to : Cursor) → Stands names (sign s) i.cursor to → expect s i ≡ Ok (tt, record i { cursor = to })
unfolding expect
expect_reads names s i to st =
    bind_value (next i) _ st.lexeme (record i { cursor = to }) (stands_token names (sign s) i to st)
    ∙ ap (λ k. (if is_sign s k then pure tt else refuse st.lexeme.place Unexpected) (record i { cursor = to })) st.matches
    ∙ ap (λ b. (if b then pure tt else refuse st.lexeme.place Unexpected) (record i { cursor = to })) (sign_is_same s)

number_in_found : (k : TokenKind) (n : ℕ) → number_in k ≡ Ok n → k ≡ kind.Number n
number_in_found (kind.Number m) n h = ap kind.Number (number_same m n h)
  where
    number_same : (m n : ℕ) → ◌≡◌ {A = Result ℕ TextKind} (Ok m) (Ok n) → m ≡ n
    number_same m n h = let value : Result ℕ TextKind → ℕ = λ r. result_unwrap_or r m in ap value h
number_in_found kind.Word n h = cc
number_in_found (kind.Letter b) n h = cc
number_in_found (kind.Sign s) n h = cc
number_in_found kind.End n h = cc

pub number_found : (names : NameTable) (i j : Input) (n : ℕ) → input.number i ≡ Ok (n, j) → Takes names (number n ∷ []) 0 i j
unfolding input.number
number_found names i j n h =
    bind_then (next i) _ (n, j) h (λ t k read rest.
    allowed_then t.place (number_in t.kind) k (n, j) rest (λ m is same.
    let found = next_found i k t read in
    takes_one names (number n) i j t found.0
    (number_in_found t.kind n (is ∙ ap (λ (q : ℕ × Input). Ok q.0) same))
    (sym (ap (λ (q : ℕ × Input). q.1) same) ∙ found.1)))

pub number_reads : (names : NameTable) (n : ℕ) (i : Input) (to : Cursor) → Stands names (number n) i.cursor to → input.number i ≡ Ok (n, record i { cursor = to })
unfolding input.number
number_reads names n i to st =
    bind_value (next i) _ st.lexeme (record i { cursor = to }) (stands_token names (number n) i to st)
    ∙ ap (λ k. allowed st.lexeme.place (number_in k) (record i { cursor = to })) st.matches

-- ---- names

-- a word that names something
pub named_found : (names : NameTable) (t : Lexeme) (r : NameRef) → named names t ≡ Ok r
    → (t.kind ≡ kind.Word) × (is_reserved t.text ≡ false) × (find t.text names ≡ Some r)
unfolding named
named_found names t r h = by t.kind refl h
  where
    in_table : (o : Option NameRef) → declared o ≡ Ok r → o ≡ Some r
    in_table (Some q) g = let value : Result NameRef TextKind → NameRef = λ x. result_unwrap_or x q in ap (λ x. Some x) (ap value g)
    in_table None g = cc

    free : (b : Bool) → is_reserved t.text ≡ b → ◌≡◌ {A = Result NameRef TextKind} (if b then Err Unexpected else declared (find t.text names)) (Ok r)
        → (is_reserved t.text ≡ false) × (find t.text names ≡ Some r)
    free true e g = cc
    free false e g = (e, in_table (find t.text names) g)

    by : (k : TokenKind) → t.kind ≡ k → named_by names k t.text ≡ Ok r → (t.kind ≡ kind.Word) × (is_reserved t.text ≡ false) × (find t.text names ≡ Some r)
    by kind.Word e g = let f = free (is_reserved t.text) refl g in (e, f.0, f.1)
    by (kind.Number n) e g = cc
    by (kind.Letter b) e g = cc
    by (kind.Sign s) e g = cc
    by kind.End e g = cc

pub named_reads : (names : NameTable) (t : Lexeme) (r : NameRef) → t.kind ≡ kind.Word → is_reserved t.text ≡ false → find t.text names ≡ Some r → named names t ≡ Ok r
unfolding named
named_reads names t r is_word free is =
    ap (λ k. named_by names k t.text) is_word
    ∙ ap (λ b. if b then Err Unexpected else declared (find t.text names)) free
    ∙ ap declared is

location_in_found : (q : Result NameRef TextKind) (x : ℕ) → location_in q ≡ Ok x → q ≡ Ok (place.Location x)
location_in_found (Ok (place.Location y)) x h = let value : Result ℕ TextKind → ℕ = λ r. result_unwrap_or r y in ap (λ z. Ok (place.Location z)) (ap value h)
location_in_found (Ok (place.Scalar r)) x h = cc
location_in_found (Err why) x h = cc

pub scalar_in_found : (q : Result NameRef TextKind) (x : ℕ) → scalar_in q ≡ Ok x → q ≡ Ok (place.Scalar x)
scalar_in_found (Ok (place.Scalar y)) x h = let value : Result ℕ TextKind → ℕ = λ r. result_unwrap_or r y in ap (λ z. Ok (place.Scalar z)) (ap value h)
scalar_in_found (Ok (place.Location r)) x h = cc
scalar_in_found (Err why) x h = cc

pub location_found : (names : NameTable) (i j : Input) (x : ℕ) → input.location names i ≡ Ok (x, j) → Takes names (location x ∷ []) 0 i j
unfolding input.location
location_found names i j x h =
    bind_then (next i) _ (x, j) h (λ t k read rest.
    allowed_then t.place (location_in (named names t)) k (x, j) rest (λ y is same.
    let found = next_found i k t read in
    takes_one names (location x) i j t found.0
    (named_found names t (place.Location x) (location_in_found (named names t) x (is ∙ ap (λ (q : ℕ × Input). Ok q.0) same)))
    (sym (ap (λ (q : ℕ × Input). q.1) same) ∙ found.1)))

pub location_reads : (names : NameTable) (x : ℕ) (i : Input) (to : Cursor) → Stands names (location x) i.cursor to → input.location names i ≡ Ok (x, record i { cursor = to })
unfolding input.location
location_reads names x i to st =
    bind_value (next i) _ st.lexeme (record i { cursor = to }) (stands_token names (location x) i to st)
    ∙ ap (λ q. allowed st.lexeme.place (location_in q) (record i { cursor = to }))
    (named_reads names st.lexeme (place.Location x) st.matches.0 st.matches.1 st.matches.2)

-- ---- a phrase that goes on

pub goes_on_found : (names : NameTable) (s : Sign) (i j : Input) → goes_on s i ≡ Ok (true, j) → Takes names (sign s ∷ []) 1 i j
unfolding goes_on
goes_on_found names s i j h =
    bind_then (peek i) _ (true, j) h (λ t k read rest. by t k (peek_found i k t read) (is_sign s t.kind) refl rest)
  where
    by : (t : Lexeme) (k : Input) → (token i.cursor ≡ Ok t) × (k ≡ i) → (b : Bool) → is_sign s t.kind ≡ b
        → ◌≡◌ {A = Outcome Bool} ((if b then (node t.place >> next >> pure true) else pure false) k) (Ok (true, j)) → Takes names (sign s ∷ []) 1 i j
    by t k found false e g = let wrong = ap (λ (q : Bool × Input). q.0) (ok_same (false, k) (true, j) g) in cc
    by t k found true e g =
        bind_then (and_then (node t.place k) (λ u. next)) (λ u. pure true) (true, j) g (λ l m two last.
        bind_then (node t.place k) (λ u. next) (l, m) two (λ u n noded taken.
        let counted = node_found t.place k n u noded in
        let behind = next_found n m l taken in
        let same : m ≡ j = ap (λ (q : Bool × Input). q.1) (ok_same (true, m) (true, j) last) in
        let cursor : n.cursor ≡ i.cursor = counted.0 ∙ ap (λ q. q.cursor) found.1 in
        let room : i.room ≡ n.room + 1 = sym (ap (λ q. q.room) found.1) ∙ counted.1 in
        record {
          stand = (
            j.cursor,
            record {
              lexeme = t;
              read = found.0;
              matches = is_sign_found s t.kind e;
              behind = sym (ap (λ q. q.cursor) same) ∙ ap (λ q. q.cursor) behind.1 ∙ ap after cursor;
            },
            refl,
          );
          room = room ∙ ap (λ q. q + 1) (sym (ap (λ q. q.room) behind.1) ∙ ap (λ q. q.room) same);
        }))

pub goes_on_stops : (s : Sign) (i j : Input) → goes_on s i ≡ Ok (false, j) → j ≡ i
unfolding goes_on
goes_on_stops s i j h =
    bind_then (peek i) _ (false, j) h (λ t k read rest. by t k (peek_found i k t read) (is_sign s t.kind) rest)
  where
    by : (t : Lexeme) (k : Input) → (token i.cursor ≡ Ok t) × (k ≡ i) → (b : Bool)
        → ◌≡◌ {A = Outcome Bool} ((if b then (node t.place >> next >> pure true) else pure false) k) (Ok (false, j)) → j ≡ i
    by t k found false g = sym (ap (λ (q : Bool × Input). q.1) (ok_same (false, k) (false, j) g)) ∙ found.1
    by t k found true g =
        bind_then (and_then (node t.place k) (λ u. next)) (λ u. pure true) (false, j) g (λ l m two last.
        let wrong = ap (λ (q : Bool × Input). q.0) (ok_same (true, m) (false, j) last) in cc)

pub goes_on_reads : (names : NameTable) (s : Sign) (i : Input) (to : Cursor) → Stands names (sign s) i.cursor to → 0 < i.room
    → goes_on s i ≡ Ok (true, record { cursor = to; room = i.room - 1 })
unfolding goes_on
goes_on_reads names s i to st some =
    let t = st.lexeme in
    let counted = record i { room = i.room - 1 } in
    bind_value (peek i) _ t i (peek_reads i t st.read)
    ∙ ap (λ k. (if is_sign s k then (node t.place >> next >> pure true) else pure false) i) st.matches
    ∙ ap (λ b. (if b then (node t.place >> next >> pure true) else pure false) i) (sign_is_same s)
    ∙ ap (λ o. and_then (and_then o (λ u. next)) (λ u. pure true)) (node_reads t.place i some)
    ∙ ap (λ o. and_then o (λ u. pure true)) (stands_token names (sign s) counted to st)

-- another token stands there
pub goes_on_leaves : (s : Sign) (i : Input) (t : Lexeme) → token i.cursor ≡ Ok t → is_sign s t.kind ≡ false → goes_on s i ≡ Ok (false, i)
unfolding goes_on
goes_on_leaves s i t read differs =
    bind_value (peek i) _ t i (peek_reads i t read)
    ∙ ap (λ b. (if b then (node t.place >> next >> pure true) else pure false) i) differs
