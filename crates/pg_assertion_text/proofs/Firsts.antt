-- A fault is at the first token with which no formula goes on.
use Rattle.std.proofs.Common.{◌≡◌, ℕ, zero, suc, ◌+◌, ◌-◌, ◌<◌, ◌≤◌, Ok, Err, List, [], ◌∷◌, ◌++◌, length, refl, ap, sym, subst, arith, inl, inr}
use Rattle.std.proofs.lemmas.Bool.Decides.{leb_tells}
use Rattle.std.specs.Prelude.{Result}
use Rattle.pg_lex.specs.declared.fault.TextFault.{TextFault}
use Rattle.pg_lex.specs.Lex.{Cursor, token, after}
use Rattle.pg_program.specs.NameTable.{NameTable, IsNameTable}
use Rattle.pg_assertion.specs.Formula.{nodes}
use Rattle.pg_assertion.specs.declared.formula.Formula.{Formula}
use Rattle.pg_assertion_text.specs.declared.parse.TheConstants.{MAX_NODES, MAX_OPEN}
use Rattle.pg_assertion_text.specs.Grammar as g
use Rattle.pg_assertion_text.specs.Words.{Item, Stand}
use Rattle.pg_assertion_text.specs.Input.{Input, Parser}
use Rattle.pg_assertion_text.specs.Reading.{formula}
use Rattle.pg_assertion_text.specs.Laws.{FindsAtoms, ReadsAtoms, BeginsAtoms, BeginsAtom}
use Rattle.pg_assertion_text.specs.Parsing.{formula_at, ReadsAt}
use Rattle.pg_assertion_text.specs.SpellingLaws.{cursor}
use Rattle.pg_assertion_text.specs.Agreement.{ahead, Alike}
use Rattle.pg_assertion_text.specs.FirstFaults.{GoesOn, HasLocation, IsFirst, BlamesFirst}
use Rattle.pg_assertion_text.proofs.SpellingTokens.{blank, here}
use Rattle.pg_assertion_text.proofs.Complete.{at}
use Rattle.pg_assertion_text.proofs.Moves.{Moves, ahead-add}
use Rattle.pg_assertion_text.proofs.Reaches.{ReachedAtom}
use Rattle.pg_assertion_text.proofs.Blames.{fault_is_blamed, placed_err, not_both, solid_place, token_place}
use Rattle.pg_assertion_text.proofs.Opens.{AllEasy, Open, Opened, OpenedAtom, formula_open, alike-sym}
use Rattle.pg_assertion_text.proofs.Limits.{Limit, Limited, LimitedAtom, formula_limit}
use Rattle.pg_assertion_text.proofs.Looser.{Looser, formula_loose}
use Rattle.pg_assertion_text.proofs.Swaps.{Swapped, swapped}

-- ---- a text of items

module _ (names : NameTable) (some : HasLocation names) where
  spelled : (items : List Item) → AllEasy names items → List ℕ
  spelled [] easy = []
  spelled (i ∷ is) easy = (easy.0 some).0 ++ (32 ∷ spelled is easy.1)

  spelled_stands : (items : List Item) (easy : AllEasy names items) (n : ℕ) → (to : Cursor) × Stand names items (cursor n (32 ∷ spelled items easy)) to × (n + length items ≤ to.at)
  unfolding spelled
  spelled_stands [] easy n = (cursor n (32 ∷ []), refl, omega arith)
  spelled_stands (i ∷ is) easy n =
      let item = easy.0 some in
      let w = 32 ∷ item.0 in
      let more = 32 ∷ spelled is easy.1 in
      let first = (blank item.1).stands (cursor n (w ++ more)) n more refl (here (cursor n (w ++ more))) in
      let rest = spelled_stands is easy.1 (n + length w) in
      let far = rest.2 in
      (rest.0, (cursor (n + length w) more, first, rest.1), omega (arith, far))

-- ---- other bytes from the fault on

module _ {T : Type 0} (names : NameTable) (some : HasLocation names) (stands : Cursor → T → Cursor → Type 0) (n : ℕ) (c : Cursor) (e : TextFault) (o : Open names stands g.formula n c e) where
  bytes : List ℕ
  bytes = spelled names some o.rest o.easy

  other : Swapped o.m c bytes
  other = swapped o.m c bytes o.solid

  text : Cursor
  text = record { at = c.at; rest = other.rest }

  gone_on : (to : Cursor) × Stand names o.rest (ahead o.m text) to × ((ahead o.m text).at < to.at)
  unfolding text bytes
  gone_on =
      let s = spelled_stands names some o.rest o.easy (ahead o.m c).at in
      let far = s.2 in
      let more = o.some in
      (s.0, subst (λ x. Stand names o.rest x s.0) (sym other.behind) s.1, subst (λ (x : Cursor). x.at < s.0.at) (sym other.behind) (omega (arith, far, more)))

  pub could_go_on : (most : ℕ) × GoesOn {T = T} (λ names. stands) names n most o.m o.m c
  unfolding text bytes
  could_go_on =
      let to = gone_on.0 in
      let w = o.whole text to other.alike gone_on.1 in
      (nodes w.0, record { text = text; alike = alike-sym o.m text c other.alike; formula = w.0; to = to; is = w.1; few = omega arith; beyond = gone_on.2 })

-- the same beyond the token of a limit's fault
module _ {T : Type 0} (names : NameTable) (some : HasLocation names) (stands : Cursor → T → Cursor → Type 0) (n : ℕ) (c : Cursor) (e : TextFault) (o : Limit names stands g.formula n c e) where
  bytes_behind : List ℕ
  bytes_behind = spelled names some o.rest o.easy

  limit_text : Cursor
  limit_text = record { at = c.at; rest = (swapped (o.m + 1) c bytes_behind o.solid).rest }

  limit_goes_on : (most : ℕ) × GoesOn {T = T} (λ names. stands) names (suc n) most (suc o.m) o.m c
  unfolding limit_text bytes_behind
  limit_goes_on =
      let other = swapped (o.m + 1) c bytes_behind o.solid in
      let s = spelled_stands names some o.rest o.easy (ahead (o.m + 1) c).at in
      let w = o.whole limit_text s.0 other.alike (subst (λ x. Stand names o.rest x s.0) (sym other.behind) s.1) in
      let sum : o.m + 1 ≡ suc o.m = omega arith in
      let far = s.2 in
      let here = o.solid o.m (omega arith) in
      let place = solid_place (ahead o.m c) here.0 here.1 here.2 in
      let from = token_place (ahead o.m c) here.0 here.1 in
      let one : (ahead (o.m + 1) c).at ≡ (after (ahead o.m c)).at = ap (λ (d : Cursor). d.at) (sym (ahead-add 1 o.m c)) in
      let same : (ahead (o.m + 1) limit_text).at ≡ (ahead (o.m + 1) c).at = ap (λ (d : Cursor). d.at) other.behind in
      let solid_there = subst (λ r. r ≡ Ok here.0) (sym (alike_at o.m limit_text c (subst (λ q. Alike q limit_text c) sum other.alike))) here.1 in
      let place_there = solid_place (ahead o.m limit_text) here.0 solid_there here.2 in
      let from_there = token_place (ahead o.m limit_text) here.0 solid_there in
      let one_there : (ahead (o.m + 1) limit_text).at ≡ (after (ahead o.m limit_text)).at = ap (λ (d : Cursor). d.at) (sym (ahead-add 1 o.m limit_text)) in (
        nodes w.0,
        record {
          text = limit_text;
          alike = alike-sym (suc o.m) limit_text c (subst (λ q. Alike q limit_text c) sum other.alike);
          formula = w.0;
          to = s.0;
          is = w.1;
          few = omega arith;
          beyond = omega (arith, far, one_there, same, place_there, from_there);
        },
      )
    where
      alike_at : (m : ℕ) (c d : Cursor) → Alike (suc m) c d → token (ahead m c) ≡ token (ahead m d)
      alike_at zero c d al = al.0
      alike_at (suc m) c d al = alike_at m (after c) (after d) al.1

-- both blame one token
same_token : {T : Type 0} (names : NameTable) (stands : Cursor → T → Cursor → Type 0) (n : ℕ) (c : Cursor) (e : TextFault) (o : Open names stands g.formula n c e) (l : Limit names stands g.formula n c e) → l.m ≡ o.m
same_token names stands n c e o l = elim (leb_tells l.m o.m) [
  | inr less ↦ let z = less.1 in absurd (not_both c o.m l.m e (l.solid o.m (omega (arith, z))) o.at z l.at)
  | inl most ↦ elim (leb_tells o.m l.m) [
    | inr less ↦ let z = less.1 in absurd (not_both c l.m o.m e (o.solid l.m z) l.at z o.at)
    | inl other ↦ let a = most.1 in let b = other.1 in omega (arith, a, b)
  ]
]

raised : {T : Type 0} (stands : NameTable → Cursor → T → Cursor → Type 0) {names : NameTable} {r m k : ℕ} {c : Cursor} → m ≡ k → GoesOn {T = T} (λ n. stands names) names (suc MAX_OPEN) r (suc m) m c → GoesOn stands names (MAX_OPEN + 1) r (suc k) k c
raised stands {names} {r} {m} {k} {c} same goes =
    let deep : suc MAX_OPEN ≡ MAX_OPEN + 1 = omega arith in
    subst (λ k. GoesOn stands names (MAX_OPEN + 1) r (suc k) k c) same
    (subst (λ n. GoesOn stands names n r (suc m) m c) deep (record { text = goes.text; alike = goes.alike; formula = goes.formula; to = goes.to; is = goes.is; few = goes.few; beyond = goes.beyond }))

-- ---- for any kind of atoms

module _ {T : Type 0} (read : NameTable → Parser T) (stands : NameTable → Cursor → T → Cursor → Type 0)
    (found : FindsAtoms read stands) (reads : ReadsAtoms read stands) (begins : BeginsAtoms stands)
    (moves : (names : NameTable) → Moves (read names)) (loose : (names : NameTable) → Looser (read names) (read names))
    (reached : (names : NameTable) (d to : Cursor) (a : T) → stands names d a to → ReachedAtom (stands names) (read names) d a to)
    (opens : (names : NameTable) → IsNameTable names → (i : Input) → OpenedAtom names (stands names) i.cursor (read names i))
    (limits : (names : NameTable) → IsNameTable names → (i : Input) → LimitedAtom names (stands names) i.cursor (read names i)) where
  again : (names : NameTable) (from to : Cursor) (a : T) (r : ℕ) → stands names from a to → 0 < r → read names (at from r) ≡ Ok (a, at to (r - 1))
  again names from to a r st some = reads names (at from r) a to st some

  starts : (names : NameTable) (from to : Cursor) (a : T) → stands names from a to → BeginsAtom from
  starts names from to a st = begins names from to a st

  faults_are_first : (names : NameTable) → IsNameTable names → (c : Cursor) (e : TextFault) → formula_at read names c ≡ Err e → IsFirst stands names c e
  unfolding formula_at
  faults_are_first names table c e is =
      placed_err (formula (read names) MAX_OPEN (at c MAX_NODES)) e is (λ err.
      let o = subst (λ o. Opened names (stands names) g.formula MAX_OPEN c o) err
      (formula_open names (read names) (stands names) (moves names) (found names) (again names) (starts names) (reached names) (opens names table) MAX_OPEN (at c MAX_NODES)) in
      record {
        before = o.m;
        at = o.at;
        could = λ some. let w = could_go_on names some (stands names) MAX_OPEN c e o in
            (w.0, record { text = w.1.text; alike = w.1.alike; formula = w.1.formula; to = w.1.to; is = w.1.is; few = w.1.few; beyond = w.1.beyond });
        no_more = fault_is_blamed read stands moves again starts reached names MAX_OPEN MAX_NODES c e err o.m o.at;
        never = λ free n r deep many goes.
            fault_is_blamed read stands moves again starts reached names n r c e (formula_loose (read names) (loose names) (moves names) MAX_OPEN n deep c MAX_NODES r many e err free) o.m o.at goes;
        limit = λ some is.
            let l = subst (λ o. Limited names (stands names) g.formula MAX_OPEN c o) err
            (formula_limit names (read names) (stands names) (moves names) (found names) (again names) (starts names) (reached names) (limits names table) MAX_OPEN (at c MAX_NODES)) is in
            let goes = limit_goes_on names some (stands names) MAX_OPEN c e l in
            (goes.0, raised stands (same_token names (stands names) MAX_OPEN c e o l) goes.1);
      })

  pub answer_is_first : (names : NameTable) → IsNameTable names → (old new : Cursor) (r : Result (Formula T) TextFault) → ReadsAt (formula_at read names old) r new → BlamesFirst stands names old r
  answer_is_first names table old new (Ok f) reads = tt
  answer_is_first names table old new (Err e) reads = λ no. faults_are_first names table old e (reads no)
