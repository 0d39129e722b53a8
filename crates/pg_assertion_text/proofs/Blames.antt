-- A fault is at a token with which no formula goes on.
use Rattle.std.proofs.Common.{◌≡◌, ℕ, zero, suc, ◌+◌, ◌-◌, ◌<◌, ◌≤◌, Bool, Ok, Err, List, [], ◌∷◌, length, refl, ap, sym, ◌∙◌, subst, arith, inl, inr, lit<}
use Rattle.std.proofs.lemmas.Bool.Decides.{leb_tells}
use Rattle.std.specs.Prelude.{◌≢◌, Result}
use Rattle.std.specs.Result.{result_unwrap_or}
use Rattle.pg_lex.specs.declared.token.TokenKind.{TokenKind}
use Rattle.pg_lex.specs.declared.token.TokenKind.TheVariants as kind
use Rattle.pg_lex.specs.declared.fault.TextFault.{TextFault}
use Rattle.pg_lex.specs.declared.fault.TextFault.TheVariants.{At, NoMemory}
use Rattle.pg_lex.specs.Lex.{Cursor, Lexeme, token, after}
use Rattle.pg_lex.specs.Grammar.{IsToken, Begins}
use Rattle.pg_lex.specs.Laws.{Refuses}
use Rattle.pg_lex.proofs.Signs.{one_le-spelling}
use Rattle.pg_lex.proofs.Cursors.{munches_most, tokens_split_text, faults_are_exact}
use Rattle.pg_program.specs.NameTable.{NameTable}
use Rattle.pg_assertion_text.specs.Grammar as g
use Rattle.pg_assertion_text.specs.Input.{Outcome, Parser}
use Rattle.pg_assertion_text.specs.Reading.{formula, formula_of, arrows}
use Rattle.pg_assertion_text.specs.Laws.{BeginsAtom}
use Rattle.pg_assertion_text.specs.Parsing.{placed}
use Rattle.pg_assertion_text.specs.Agreement.{ahead, Alike, FaultAt}
use Rattle.pg_assertion_text.specs.FirstFaults.{GoesOn}
use Rattle.pg_assertion_text.proofs.Complete.{at}
use Rattle.pg_assertion_text.proofs.Moves.{ahead-add, Past, Moves}
use Rattle.pg_assertion_text.proofs.Reaches.{Solid, ReachedAtom, reached}

-- ---- places of tokens

begins_long : (class : ℕ → Bool) (text : List ℕ) → Begins class text → 0 < length text
begins_long class [] h = absurd h
begins_long class (b ∷ bs) h = omega arith

pub token_is_long : (k : TokenKind) (text rest : List ℕ) → IsToken k text rest → k ≢ kind.End → 0 < length text
token_is_long kind.Word text rest is_token no_end = begins_long _ text is_token.0
token_is_long (kind.Number n) text rest is_token no_end = begins_long _ text is_token.0
token_is_long (kind.Letter b) text rest is_token no_end = rw is_token.0 (lit< tt)
token_is_long (kind.Sign s) text rest is_token no_end = rw is_token.0 (one_le-spelling s)
token_is_long kind.End text rest is_token no_end = absurd (no_end refl)

-- behind a token that may be part of a phrase the text goes on further
pub solid_place : (c : Cursor) (l : Lexeme) → token c ≡ Ok l → l.kind ≢ kind.End → l.place < (after c).at
solid_place c l is no_end =
    let long = token_is_long l.kind l.text (after c).rest (munches_most c l is) no_end in
    let behind = (tokens_split_text c l is).behind in
    omega (arith, long, behind)

pub token_place : (c : Cursor) (l : Lexeme) → token c ≡ Ok l → c.at ≤ l.place
token_place c l is = let p = (tokens_split_text c l is).place in omega (arith, p)

abbrev Behind : ℕ → TextFault → Type 0
Behind n (At p w) = n ≤ p
Behind n NoMemory = ⊥

fault_place : (c : Cursor) (e : TextFault) → token c ≡ Err e → Behind c.at e
fault_place c e is = by e (faults_are_exact c e is)
  where
    by : (e : TextFault) → Refuses c e → Behind c.at e
    by (At p w) r = let place = r.place_is in omega (arith, place)
    by NoMemory r = absurd r

unfolding_at : (c : Cursor) → c.at ≤ (after c).at
unfolding after
unfolding_at c = omega arith

pub ahead_at : (k : ℕ) (c : Cursor) → c.at ≤ (ahead k c).at
ahead_at zero c = omega arith
ahead_at (suc k) c = let a = unfolding_at c in let b = ahead_at k (after c) in omega (arith, a, b)

pub ahead_less : (m k : ℕ) (c : Cursor) → m ≤ k → (ahead m c).at ≤ (ahead k c).at
ahead_less m k c most =
    let e : m + (k - m) ≡ k = omega arith in
    let a = ahead_at (k - m) (ahead m c) in
    let b : (ahead (k - m) (ahead m c)).at ≡ (ahead k c).at = ap (λ (d : Cursor). d.at) (ahead-add (k - m) m c ∙ ap (λ n. ahead n c) e) in
    omega (arith, a, b)

at_place : (c : Cursor) (k : ℕ) (e : TextFault) → FaultAt c k e → Behind (ahead k c).at e
at_place c k e (inl f) = subst (Behind (ahead k c).at) (sym f.3) (token_place (ahead k c) f.0 f.2)
at_place c k e (inr f) = fault_place (ahead k c) e f

-- ---- what is blamed

same_err : {A : Type 0} (a b : TextFault) → ◌≡◌ {A = Result A TextFault} (Err a) (Err b) → a ≡ b
same_err {A} a b h = let value : Result A TextFault → TextFault = λ r. by r in ap value h
  where
    by : Result A TextFault → TextFault
    by (Ok p) = a
    by (Err e) = e

pub placed_err : {A X : Type 0} (o : Outcome A) (e : TextFault) → placed o ≡ Err e → (o ≡ Err e → X) → X
placed_err (Ok p) e h use_it = cc
placed_err {A} (Err f) e h use_it = use_it (ap (λ x. Err x) (same_err f e h))

-- the token that is blamed is part of no phrase
pub not_both : (c : Cursor) (m k : ℕ) (e : TextFault) → Solid (ahead m c) → FaultAt c m e → m < k → FaultAt c k e → ⊥
not_both c m k e solid (inr f) less other = let z = sym solid.1 ∙ f in cc
not_both c m k e solid (inl f) less other =
    let same : f.0 ≡ solid.0 = ap (λ (r : Result Lexeme TextFault). result_unwrap_or r f.0) (sym f.2 ∙ solid.1) in
    let here = solid_place (ahead m c) f.0 f.2 (λ z. solid.2 (sym (ap (λ (l : Lexeme). l.kind) same) ∙ z)) in
    let there : Behind (ahead k c).at (At f.0.place f.1) = subst (Behind (ahead k c).at) f.3 (at_place c k e other) in
    let far = ahead_less (m + 1) k c (omega arith) in
    let one : (ahead (m + 1) c).at ≡ (after (ahead m c)).at = ap (λ (d : Cursor). d.at) (sym (ahead-add 1 m c)) in
    omega (arith, here, there, far, one)

module _ {T : Type 0} (read : NameTable → Parser T) (stands : NameTable → Cursor → T → Cursor → Type 0)
    (moves : (names : NameTable) → Moves (read names))
    (again : (names : NameTable) (from to : Cursor) (a : T) (r : ℕ) → stands names from a to → 0 < r → read names (at from r) ≡ Ok (a, at to (r - 1)))
    (begins : (names : NameTable) (from to : Cursor) (a : T) → stands names from a to → BeginsAtom from)
    (atoms : (names : NameTable) (d to : Cursor) (a : T) → stands names d a to → ReachedAtom (stands names) (read names) d a to) where
  -- with any limits
  pub fault_is_blamed : (names : NameTable) (n r : ℕ) (c : Cursor) (e : TextFault) → formula (read names) n (at c r) ≡ Err e → (m : ℕ) → FaultAt c m e → GoesOn stands names n r (suc m) m c → ⊥
  unfolding formula_of arrows
  fault_is_blamed names n r c e is m here goes =
      let p = reached names (read names) (stands names) (moves names) (again names) (begins names) (atoms names) g.formula n goes.text goes.to goes.formula goes.is in
      let beyond = goes.beyond in
      let long : m < p.k = elim (leb_tells p.k m) [
        | inl less ↦ let a = ahead_less p.k m goes.text less.1 in let b = ap (λ (d : Cursor). d.at) p.spans in absurd (omega (arith, a, b, beyond))
        | inr more ↦ more.1
      ] in
      let past = subst (λ o. Past (suc m) c r o) is (p.part c r (suc m) (omega (arith, long)) goes.alike goes.few (r + 1) (omega arith) []) in
      let far = past.far in
      let same = alike_ahead m c goes.text goes.alike in
      let solid = p.solid m long in
      not_both c m past.k e (solid.0, same ∙ solid.1, solid.2) here (omega (arith, far)) past.at
    where
      alike_ahead : (m : ℕ) (c d : Cursor) → Alike (suc m) c d → token (ahead m c) ≡ token (ahead m d)
      alike_ahead zero c d al = al.0
      alike_ahead (suc m) c d al = alike_ahead m (after c) (after d) al.1
