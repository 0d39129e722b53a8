-- The same of atoms: their node is that of their first token, and nothing behind it has a limit.
use Rattle.std.proofs.Common.{◌≡◌, ℕ, ◌-◌, ◌==◌, Bool, true, false, Ok, Err, List, [], ◌∷◌, refl, ap, sym, ◌∙◌, subst, inl, inr}
use Rattle.std.specs.Prelude.{if◌then◌else◌, Option, Some, None, Result}
use Rattle.pg_lex.specs.declared.token.Sign.TheVariants as s
use Rattle.pg_lex.specs.declared.token.TokenKind.{TokenKind}
use Rattle.pg_lex.specs.declared.token.TokenKind.TheVariants as kind
use Rattle.pg_lex.specs.declared.fault.TextFault.TheVariants.{At}
use Rattle.pg_lex.specs.declared.fault.TextKind.{TextKind}
use Rattle.pg_lex.specs.declared.fault.TextKind.TheVariants.{TooMany, Unexpected, UnknownName}
use Rattle.pg_lex.specs.Piece.{is_letter}
use Rattle.pg_lex.specs.Lex.{Cursor, Lexeme, token, after}
use Rattle.pg_lex.specs.Grammar.{IsToken}
use Rattle.pg_lex.proofs.Cursors.{munches_most}
use Rattle.pg_lex.proofs.Reading.{letter_cases}
use Rattle.pg_program.specs.NameTable.{NameTable, find}
use Rattle.pg_program.specs.declared.name_table.NameRef.{NameRef}
use Rattle.pg_program.specs.declared.name_table.NameRef.TheVariants as place
use Rattle.pg_assertion.specs.declared.atom.RawAtom.{RawAtom}
use Rattle.pg_assertion.specs.declared.atom.RawAtom.TheVariants as raw
use Rattle.pg_assertion_text.specs.Words.{Item, Stands, Stand, is_reserved, letter, number, location, scalar}
use Rattle.pg_assertion_text.specs.Input as input
use Rattle.pg_assertion_text.specs.Input.{Input, Outcome, Parser, and_then, ◌>>=◌, ◌>>◌, pure, refuse, allowed, next, node, expect, named, named_by, declared, number_in, location_in, scalar_in}
use Rattle.pg_assertion_text.specs.Atoms.{equals, cell, thread, last, seen, read, two_reads, lettered, scalar_atom, raw_by, raw_atom, raw_items, IsRaw}
use Rattle.pg_assertion_text.proofs.Steps.{allowed_then, next_found, named_found, scalar_in_found}
use Rattle.pg_assertion_text.specs.Agreement.{IsLimit}
use Rattle.pg_assertion_text.proofs.Reaches.{stands_like, item_solid}
use Rattle.pg_assertion_text.proofs.Opens.{Easy}
use Rattle.pg_assertion_text.proofs.OpensAtoms.{Slot, items_of, default, default_easy, opening, closing, comma, equal, a_number, a_location}
use Rattle.pg_assertion_text.proofs.Limits.{Free, bind_free, next_free, expect_free, LimitedAtom}

-- ---- faults that are no limit's

-- no limit
abbrev pub NoLimit : TextKind → Type 0
NoLimit w = (p : ℕ) → IsLimit (At p w) → ⊥

unexpected_free : NoLimit Unexpected
unexpected_free p (q, inl e) = cc
unexpected_free p (q, inr e) = cc

unknown_free : NoLimit UnknownName
unknown_free p (q, inl e) = cc
unknown_free p (q, inr e) = cc

abbrev pub FreeKind : {A : Type 0} → Result A TextKind → Type 0
FreeKind (Ok a) = Unit {0}
FreeKind (Err w) = NoLimit w

pub allowed_free : {A : Type 0} (p : ℕ) (v : Result A TextKind) (i : Input) → FreeKind v → Free (allowed p v i)
allowed_free p (Ok a) i f = tt
allowed_free p (Err w) i f = f p

pub named_free : (names : NameTable) (t : Lexeme) → FreeKind (named names t)
unfolding named
named_free names t = by t.kind
  where
    table : (o : Option NameRef) → FreeKind (declared o)
    table (Some r) = tt
    table None = unknown_free

    word : (b : Bool) → FreeKind {A = NameRef} (if b then Err Unexpected else declared (find t.text names))
    word true = unexpected_free
    word false = table (find t.text names)

    by : (k : TokenKind) → FreeKind (named_by names k t.text)
    by kind.Word = word (is_reserved t.text)
    by (kind.Number n) = unexpected_free
    by (kind.Letter b) = unexpected_free
    by (kind.Sign z) = unexpected_free
    by kind.End = unexpected_free

location_free : (r : Result NameRef TextKind) → FreeKind r → FreeKind (location_in r)
location_free (Ok (place.Location x)) f = tt
location_free (Ok (place.Scalar x)) f = unexpected_free
location_free (Err w) f = f

scalar_free : (r : Result NameRef TextKind) → FreeKind r → FreeKind (scalar_in r)
scalar_free (Ok (place.Location x)) f = unexpected_free
scalar_free (Ok (place.Scalar x)) f = tt
scalar_free (Err w) f = f

number_free : (k : TokenKind) → FreeKind (number_in k)
number_free kind.Word = unexpected_free
number_free (kind.Number n) = tt
number_free (kind.Letter b) = unexpected_free
number_free (kind.Sign z) = unexpected_free
number_free kind.End = unexpected_free

abbrev pub Frees : {A : Type 0} → Parser A → Type 0
Frees p = (i : Input) → Free (p i)

pub then_free : {A B : Type 0} (p : Parser A) (f : A → Parser B) → Frees p → ((a : A) → Frees (f a)) → Frees (p >>= f)
then_free p f first rest i = bind_free (p i) f (first i) (λ a j is. rest a j)

pub pure_free : {A : Type 0} (a : A) → Frees (pure a)
pure_free a i = tt

free_number : Frees input.number
unfolding input.number
free_number = then_free next (λ t. allowed t.place (number_in t.kind)) next_free (λ t i. allowed_free t.place (number_in t.kind) i (number_free t.kind))

free_location : (names : NameTable) → Frees (input.location names)
unfolding input.location
free_location names = then_free next (λ t. allowed t.place (location_in (named names t))) next_free (λ t i. allowed_free t.place (location_in (named names t)) i (location_free (named names t) (named_free names t)))

pub free_equals : Frees equals
unfolding equals
free_equals = then_free (expect s.Equal) (λ u. input.number) (expect_free s.Equal) (λ u. free_number)

free_cell : (names : NameTable) → Frees (cell names)
unfolding cell
free_cell names = then_free (input.location names) _ (free_location names) (λ x. then_free (expect s.Comma >> input.number) _ (then_free (expect s.Comma) _ (expect_free s.Comma) (λ u. free_number)) (λ v. pure_free {A = ℕ × ℕ} (x, v)))

free_thread : Frees thread
unfolding thread
free_thread = then_free input.number _ free_number (λ t. then_free (expect s.Comma) _ (expect_free s.Comma) (λ u. pure_free t))

free_closed : {A : Type 0} (a : A) → Frees (expect s.Close >> pure a)
free_closed a = then_free (expect s.Close) _ (expect_free s.Close) (λ u. pure_free a)

free_open : {A : Type 0} (p : Parser A) → Frees p → Frees (expect s.Open >> p)
free_open p f = then_free (expect s.Open) _ (expect_free s.Open) (λ u. f)

free_last : (names : NameTable) → Frees (last names)
unfolding last
free_last names = then_free (expect s.Open >> cell names) _ (free_open (cell names) (free_cell names)) (λ c. free_closed c)

free_seen : (names : NameTable) → Frees (seen names)
unfolding seen
free_seen names = then_free (expect s.Open >> thread) _ (free_open thread free_thread) (λ t. then_free (input.location names) _ (free_location names) (λ x. free_closed {A = ℕ × ℕ} (t, x)))

free_read : (names : NameTable) → Frees (read names)
unfolding read
free_read names = then_free (expect s.Open >> thread) _ (free_open thread free_thread) (λ t. then_free (cell names) _ (free_cell names) (λ c. free_closed {A = ℕ × (ℕ × ℕ)} (t, c)))

free_two : (names : NameTable) → Frees (two_reads names)
unfolding two_reads
free_two names = then_free (expect s.Open >> thread) _ (free_open thread free_thread) (λ t. then_free (cell names) _ (free_cell names) (λ c.
    then_free (expect s.Comma >> cell names) _ (then_free (expect s.Comma) _ (expect_free s.Comma) (λ u. free_cell names)) (λ d. free_closed {A = ℕ × (ℕ × ℕ) × (ℕ × ℕ)} (t, c, d))))

free_made : {A : Type 0} (p : Parser A) (make : A → RawAtom) → Frees p → Frees (p >>= (λ a. pure (make a)))
free_made p make f = then_free p _ f (λ a. pure_free (make a))

free_if : (b : Bool) (p q : Parser RawAtom) → Frees p → Frees q → Frees (if b then p else q)
free_if true p q a b = a
free_if false p q a b = b

free_lettered : (names : NameTable) (p b : ℕ) → Frees (lettered names p b)
free_lettered names p b =
    free_if (b == 76) _ _ (free_made (last names) (λ c. raw.Last c.0 c.1) (free_last names))
    (free_if (b == 80) _ _ (free_made (last names) (λ c. raw.Persist c.0 c.1) (free_last names))
    (free_if (b == 82) _ _ (free_made (read names) (λ a. raw.Read a.0 a.1.0 a.1.1) (free_read names))
    (free_if (b == 65) _ _ (free_made (read names) (λ a. raw.Async a.0 a.1.0 a.1.1) (free_read names))
    (free_if (b == 67) _ _ (free_made (two_reads names) (λ a. raw.Then a.0 a.1.0 a.1.1 a.2.0 a.2.1) (free_two names))
    (free_if (b == 78) _ _ (free_made (seen names) (λ a. raw.Newest a.0 a.1) (free_seen names))
    (free_if (b == 79) _ _ (free_made (seen names) (λ a. raw.Ordered a.0 a.1) (free_seen names))
    (free_if (b == 70) _ _ (free_made (seen names) (λ a. raw.Fenced a.0 a.1) (free_seen names)) (λ i. unexpected_free p))))))))

module _ (names : NameTable) (easy_number : Easy names (number 0)) (some_location : ℕ) (easy_location : Easy names (location some_location)) where
  pub bind_at_limit : {T A : Type 0} (stands : Cursor → T → Cursor → Type 0) (c : Cursor) (o : Outcome A) (f : A → Parser T) → Free o → ((a : A) (j : Input) → o ≡ Ok (a, j) → LimitedAtom names stands c (f a j)) → LimitedAtom names stands c (and_then o f)
  bind_at_limit stands c (Ok p) f free rest = rest p.0 p.1 refl
  bind_at_limit stands c (Err e) f free rest = λ l. absurd (free l)

  free_atom : {T : Type 0} (stands : Cursor → T → Cursor → Type 0) (c : Cursor) (o : Outcome T) → Free o → LimitedAtom names stands c o
  free_atom stands c (Ok p) free = tt
  free_atom stands c (Err e) free = λ l. absurd (free l)

  -- an atom that begins with an item
  abbrev pub Begun : {T : Type 0} → (T → List Item) → Item → Type 0
  Begun {T} atom_items item = (ks : List Slot) × (a : T) × (atom_items a ≡ item ∷ items_of ks (default names easy_number some_location easy_location ks))

  pub node_limit : {T : Type 0} (atom_items : T → List Item) (c : Cursor) (t : Lexeme) → token c ≡ Ok t → (item : Item) → Stands names item c (after c) → Begun atom_items item → (i : Input) → (f : Parser T) → Frees f
      → LimitedAtom names (λ from a to. Stand names (atom_items a) from to) c (and_then (node t.place i) (λ u. f))
  unfolding node
  node_limit {T} atom_items c t is item st begun i f free = by (i.room == 0)
    where
      by : (b : Bool) → LimitedAtom names (λ from a to. Stand names (atom_items a) from to) c (and_then {A = Unit {0}} (if b then Err (At t.place TooMany) else Ok (tt, record i { room = i.room - 1 })) (λ u. f))
      by false = free_atom (λ from a to. Stand names (atom_items a) from to) c (f (record i { room = i.room - 1 })) (free (record i { room = i.room - 1 }))
      by true = λ l. record {
        at = inl (t, TooMany, is, refl);
        rest = items_of begun.0 (default names easy_number some_location easy_location begun.0);
        here = item_solid names item c (after c) st;
        easy = default_easy names easy_number some_location easy_location begun.0;
        whole = λ d to same rest. (begun.1, subst (λ is. Stand names is d to) (sym begun.2) (after d, stands_like names item c (after c) d st same, rest));
      }

  letter_begun : (b : ℕ) → is_letter b ≡ true → Begun raw_items (letter b)
  letter_begun b h = letter_cases (λ b. Begun raw_items (letter b))
      (opening ∷ a_number ∷ comma ∷ a_location ∷ comma ∷ a_number ∷ closing ∷ [], raw.Async 0 some_location 0, refl)
      (opening ∷ a_number ∷ comma ∷ a_location ∷ comma ∷ a_number ∷ comma ∷ a_location ∷ comma ∷ a_number ∷ closing ∷ [], raw.Then 0 some_location 0 some_location 0, refl)
      (opening ∷ a_number ∷ comma ∷ a_location ∷ closing ∷ [], raw.Fenced 0 some_location, refl)
      (opening ∷ a_location ∷ comma ∷ a_number ∷ closing ∷ [], raw.Last some_location 0, refl)
      (opening ∷ a_number ∷ comma ∷ a_location ∷ closing ∷ [], raw.Newest 0 some_location, refl)
      (opening ∷ a_number ∷ comma ∷ a_location ∷ closing ∷ [], raw.Ordered 0 some_location, refl)
      (opening ∷ a_location ∷ comma ∷ a_number ∷ closing ∷ [], raw.Persist some_location 0, refl)
      (opening ∷ a_number ∷ comma ∷ a_location ∷ comma ∷ a_number ∷ closing ∷ [], raw.Read 0 some_location 0, refl) b h

  scalar_limit : (c : Cursor) (t : Lexeme) → token c ≡ Ok t → (i : Input) → LimitedAtom names (IsRaw names) c (scalar_atom names t i)
  scalar_limit c t is i =
      bind_at_limit (IsRaw names) c (allowed t.place (scalar_in (named names t)) i) (λ r. (node t.place >> equals) >>= (λ k. pure (raw.Scalar r k))) (allowed_free t.place (scalar_in (named names t)) i (scalar_free (named names t) (named_free names t))) (λ x j allows.
      allowed_then t.place (scalar_in (named names t)) i (x, j) allows (λ y found same.
      let st : Stands names (scalar x) c (after c) = record {
        lexeme = t;
        read = is;
        matches = named_found names t (place.Scalar x) (scalar_in_found (named names t) x (found ∙ ap (λ (q : ℕ × Input). Ok q.0) same));
        behind = refl;
      } in
      subst (λ o. LimitedAtom names (IsRaw names) c o) (assoc (node t.place j) (λ k. pure (raw.Scalar x k)))
      (node_limit raw_items c t is (scalar x) st (equal ∷ a_number ∷ [], raw.Scalar x 0, refl) j (equals >>= (λ k. pure (raw.Scalar x k))) (free_made equals (λ k. raw.Scalar x k) free_equals))))
    where
      assoc : (o : Outcome (Unit {0})) (f : ℕ → Parser RawAtom) → and_then o (λ u. equals >>= f) ≡ and_then (and_then o (λ u. equals)) f
      assoc (Ok p) f = refl
      assoc (Err e) f = refl

  raw_limit_by : (c : Cursor) (t : Lexeme) → token c ≡ Ok t → (k : TokenKind) → t.kind ≡ k → (i : Input) → LimitedAtom names (IsRaw names) c (raw_by names t k i)
  raw_limit_by c t is (kind.Letter b) e i =
      let is_token = subst (λ (k : TokenKind). IsToken k t.text (after c).rest) e (munches_most c t is) in
      node_limit raw_items c t is (letter b) (record { lexeme = t; read = is; matches = e; behind = refl }) (letter_begun b is_token.1) i (lettered names t.place b) (free_lettered names t.place b)
  raw_limit_by c t is kind.Word e i = scalar_limit c t is i
  raw_limit_by c t is (kind.Number n) e i = scalar_limit c t is i
  raw_limit_by c t is (kind.Sign z) e i = scalar_limit c t is i
  raw_limit_by c t is kind.End e i = scalar_limit c t is i

  pub raw_limit : (i : Input) → LimitedAtom names (IsRaw names) i.cursor (raw_atom names i)
  unfolding raw_atom
  raw_limit i = bind_at_limit (IsRaw names) i.cursor (next i) (λ t. raw_by names t t.kind) (next_free i) (λ t j h. raw_limit_by i.cursor t (next_found i j t h).0 t.kind refl j)
