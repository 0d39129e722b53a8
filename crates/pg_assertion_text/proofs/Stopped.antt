-- After a formula that was read there stands a token that no formula goes on with.
use Rattle.std.proofs.Common.{◌≡◌, ℕ, zero, suc, ◌+◌, Bool, true, false, Ok, List, [], ◌∷◌, ◌++◌, refl, ap, sym, ◌∙◌, subst}
use Rattle.std.specs.Prelude.{if◌then◌else◌}
use Rattle.pg_lex.specs.declared.token.Sign.{Sign}
use Rattle.pg_lex.specs.declared.token.Sign.TheVariants as s
use Rattle.pg_lex.specs.Lex.{Lexeme, token}
use Rattle.pg_assertion.specs.Formula.{Plain, both, either}
use Rattle.pg_assertion_text.specs.Input.{Input, Outcome, Parser, and_then, ◌>>◌, pure, peek, next, node, goes_on, is_sign}
use Rattle.pg_assertion_text.specs.Reading.{chain_on, chain, implied, arrows_on, arrows, conjunction, disjunction, formula_of}
use Rattle.pg_assertion_text.specs.Follows.{Leaves, Stops}
use Rattle.pg_assertion_text.proofs.Steps.{ok_same, same_lexeme, bind_then, peek_found, goes_on_stops}

sign_leaves : (z : Sign) (i j : Input) → goes_on z i ≡ Ok (false, j) → Leaves z j.cursor
unfolding goes_on
sign_leaves z i j h =
    bind_then (peek i) _ (false, j) h (λ t k seen rest. let p = peek_found i k t seen in by t k p.0 p.1 (is_sign z t.kind) refl rest)
  where
    by : (t : Lexeme) (k : Input) → token i.cursor ≡ Ok t → k ≡ i → (b : Bool) → is_sign z t.kind ≡ b
        → ◌≡◌ {A = Outcome Bool} ((if b then (node t.place >> next >> pure true) else pure false) k) (Ok (false, j)) → Leaves z j.cursor
    by t k read at false e g =
        let same : i ≡ j = sym at ∙ ap (λ (q : Bool × Input). q.1) (ok_same (false, k) (false, j) g) in
        record { lexeme = t; read = ap (λ q. token q.cursor) (sym same) ∙ read; differs = e }
    by t k read at true e g =
        bind_then (and_then (node t.place k) (λ u. next)) (λ u. pure true) (false, j) g (λ l m two last.
        let wrong = ap (λ (q : Bool × Input). q.0) (ok_same (true, m) (false, j) last) in cc)

-- what holds after an item holds after the chain, and no sign of the chain stands there
chain_on_stopped : {A : Type 0} (item : Parser A) (z : Sign) (join : A → A → A) (Q : Input → Type 0) → ((i j : Input) (a : A) → item i ≡ Ok (a, j) → Q j)
    → (n : ℕ) (left whole : A) (t j : Input) → Q t → chain_on item z join n left t ≡ Ok (whole, j) → Q j × Leaves z j.cursor
unfolding chain_on
chain_on_stopped item z join Q part zero left whole t j so h = cc
chain_on_stopped {A} item z join Q part (suc n) left whole t j so h =
    bind_then (goes_on z t) _ (whole, j) h (by (λ left t so h. chain_on_stopped item z join Q part n left whole t j so h))
  where
    by : ((left : A) (t : Input) → Q t → chain_on item z join n left t ≡ Ok (whole, j) → Q j × Leaves z j.cursor) → (b : Bool) (u : Input) → goes_on z t ≡ Ok (b, u)
        → (if b then (λ u. and_then (item u) (λ right. chain_on item z join n (join left right))) else pure left) u ≡ Ok (whole, j) → Q j × Leaves z j.cursor
    by behind true u goes rest = bind_then (item u) _ (whole, j) rest (λ right v read rest2. behind (join left right) v (part u v right read) rest2)
    by behind false u stops rest =
        let same : u ≡ j = ap (λ (q : A × Input). q.1) (ok_same (left, u) (whole, j) rest) in
        (subst Q (sym (goes_on_stops z t u stops) ∙ same) so, subst (λ q. Leaves z q.cursor) same (sign_leaves z t u stops))

chain_stopped : {A : Type 0} (item : Parser A) (z : Sign) (join : A → A → A) (Q : Input → Type 0) → ((i j : Input) (a : A) → item i ≡ Ok (a, j) → Q j)
    → (whole : A) (i j : Input) → chain item z join i ≡ Ok (whole, j) → Q j × Leaves z j.cursor
unfolding chain
chain_stopped item z join Q part whole i j h =
    bind_then (item i) _ (whole, j) h (λ left t read rest. chain_on_stopped item z join Q part (t.room + 1) left whole t j (part i t left read) rest)

conjunction_stopped : {T : Type 0} (u : Parser (Plain T)) (i j : Input) (f : Plain T) → conjunction u i ≡ Ok (f, j) → Leaves s.And j.cursor
unfolding conjunction
conjunction_stopped u i j f h = (chain_stopped u s.And both (λ k. Unit {0}) (λ i j a r. tt) f i j h).1

disjunction_stopped : {T : Type 0} (u : Parser (Plain T)) (i j : Input) (f : Plain T) → disjunction u i ≡ Ok (f, j) → Leaves s.And j.cursor × Leaves s.Or j.cursor
unfolding disjunction
disjunction_stopped u i j f h = chain_stopped (conjunction u) s.Or either (λ k. Leaves s.And k.cursor) (conjunction_stopped u) f i j h

leaves_at : (z : Sign) (t : Input) (l : Lexeme) → token t.cursor ≡ Ok l → Leaves z t.cursor → is_sign z l.kind ≡ false
leaves_at z t l read leaves = ap (λ (k : Lexeme). is_sign z k.kind) (same_lexeme l leaves.lexeme (sym read ∙ leaves.read)) ∙ leaves.differs

arrows_on_stopped : {T : Type 0} (u : Parser (Plain T)) (k : ℕ) (fs : List (Plain T)) (f : Plain T) (i j : Input) → arrows_on (disjunction u) k fs i ≡ Ok (f, j) → Stops j.cursor
unfolding arrows_on
arrows_on_stopped u zero fs f i j h = cc
arrows_on_stopped {T} u (suc k) fs f i j h =
    bind_then (disjunction u i) _ (f, j) h (λ a t read rest. bind_then (goes_on s.Arrow t) _ (f, j) rest
    (by a t (disjunction_stopped u i t a read) (λ l more. arrows_on_stopped u k (fs ++ a ∷ []) f l j more)))
  where
    by : (a : Plain T) (t : Input) → Leaves s.And t.cursor × Leaves s.Or t.cursor → ((l : Input) → arrows_on (disjunction u) k (fs ++ a ∷ []) l ≡ Ok (f, j) → Stops j.cursor)
        → (b : Bool) (l : Input) → goes_on s.Arrow t ≡ Ok (b, l) → (if b then arrows_on (disjunction u) k (fs ++ a ∷ []) else pure (implied fs a)) l ≡ Ok (f, j) → Stops j.cursor
    by a t left behind true l goes rest = behind l rest
    by a t left behind false l stops rest =
        let same : l ≡ j = ap (λ (q : Plain T × Input). q.1) (ok_same (implied fs a, l) (f, j) rest) in
        let last = sign_leaves s.Arrow t l stops in
        let at : t ≡ l = sym (goes_on_stops s.Arrow t l stops) in
        subst (λ q. Stops q.cursor) (at ∙ same) (record {
          lexeme = left.0.lexeme;
          read = left.0.read;
          and = left.0.differs;
          or = leaves_at s.Or t left.0.lexeme left.0.read left.1;
          arrow = leaves_at s.Arrow t left.0.lexeme left.0.read (subst (λ q. Leaves s.Arrow q.cursor) (sym at) last);
        })

pub formula_stopped : {T : Type 0} (u : Parser (Plain T)) (i j : Input) (f : Plain T) → formula_of u i ≡ Ok (f, j) → Stops j.cursor
unfolding formula_of arrows
formula_stopped u i j f h = arrows_on_stopped u (i.room + 1) [] f i j h
