-- The atoms of assertions and of crash formulas keep what a kind of atom owes.
use Rattle.std.specs.Prelude.{◌≡◌, ◌⊎◌, ℕ, ◌-◌, ◌<◌, ◌==◌, Bool, true, false, if◌then◌else◌, List, [], ◌∷◌, ◌++◌, codes, Ok, refl}
use Rattle.std.specs.Str.{bytes_eq}
use Rattle.std.proofs.Common.{ap, sym, ◌∙◌, subst, inl, inr}
use Rattle.std.proofs.lemmas.Bool.{eqb-true}
use Rattle.std.proofs.lemmas.Slice.Eq.{bytes_eq-Decides}
use Rattle.pg_lex.specs.declared.token.Sign.TheVariants as s
use Rattle.pg_lex.specs.declared.token.TokenKind.{TokenKind}
use Rattle.pg_lex.specs.declared.token.TokenKind.TheVariants as kind
use Rattle.pg_lex.specs.Lex.{Cursor, Lexeme, token, after}
use Rattle.pg_program.specs.NameTable.{NameTable}
use Rattle.pg_program.specs.declared.name_table.NameRef.{NameRef}
use Rattle.pg_program.specs.declared.name_table.NameRef.TheVariants as place
use Rattle.pg_assertion.specs.declared.atom.RawAtom.{RawAtom}
use Rattle.pg_assertion.specs.declared.atom.RawAtom.TheVariants as raw
use Rattle.pg_assertion.specs.declared.atom.CrashAtom.{CrashAtom}
use Rattle.pg_assertion.specs.declared.atom.CrashAtom.TheVariants as crash
use Rattle.pg_assertion_text.specs.declared.formula.Opening.TheVariants as opens
use Rattle.pg_assertion_text.specs.Words.{Item, sign, letter, number, location, scalar, Matches, Stands, Stand, is_reserved}
use Rattle.pg_assertion_text.specs.Input as input
use Rattle.pg_assertion_text.specs.Input.{Input, Outcome, Parser, and_then, pure, refuse, allowed, next, node, expect, named, scalar_in}
use Rattle.pg_assertion_text.specs.Reading.{start, start_by}
use Rattle.pg_assertion_text.specs.Atoms.{equals, cell, thread, last, seen, read, two_reads, lettered, scalar_atom, raw_by, raw_atom, of_name, crash_atom, raw_items, crash_items, IsRaw, IsCrash}
use Rattle.pg_assertion_text.specs.Laws.{FindsAtoms, ReadsAtoms, BeginsAtom, BeginsAtoms}
use Rattle.pg_assertion_text.proofs.Steps.{ok_same, bind_then, bind_value, allowed_then, next_found, stands_token, Takes, takes_one, takes_then, stand-split, node_takes, node_reads, expect_found, expect_reads, number_found, number_reads, location_found, location_reads, named_found, named_reads, scalar_in_found}

-- ---- what is read in the brackets stands there

abbrev pub cell_items : ℕ × ℕ → List Item
cell_items c = location c.0 ∷ sign s.Comma ∷ number c.1 ∷ []

equals_found : (names : NameTable) (i j : Input) (k : ℕ) → equals i ≡ Ok (k, j) → Takes names (sign s.Equal ∷ number k ∷ []) 0 i j
unfolding equals
equals_found names i j k h =
    bind_then (expect s.Equal i) _ (k, j) h (λ u m first rest.
    takes_then (expect_found names s.Equal i m u first) (number_found names m j k rest))

equals_reads : (names : NameTable) (k : ℕ) (i : Input) (to : Cursor) → Stand names (sign s.Equal ∷ number k ∷ []) i.cursor to → equals i ≡ Ok (k, record i { cursor = to })
unfolding equals
equals_reads names k i to st =
    bind_value (expect s.Equal i) _ tt (record i { cursor = st.0 }) (expect_reads names s.Equal i st.0 st.1)
    ∙ number_reads names k (record i { cursor = st.0 }) st.2.0 st.2.1
    ∙ ap (λ c. Ok (k, record i { cursor = c })) (sym st.2.2)

cell_found : (names : NameTable) (i j : Input) (c : ℕ × ℕ) → cell names i ≡ Ok (c, j) → Takes names (cell_items c) 0 i j
unfolding cell
cell_found names i j c h =
    bind_then (input.location names i) _ (c, j) h (λ x k first rest.
    bind_then (and_then (expect s.Comma k) (λ u. input.number)) _ (c, j) rest (λ v l two last.
    bind_then (expect s.Comma k) (λ u. input.number) (v, l) two (λ u m comma second.
    subst (λ (q : (ℕ × ℕ) × Input). Takes names (cell_items q.0) 0 i q.1) (ok_same ((x, v), l) (c, j) last)
    (takes_then (location_found names i k x first) (takes_then (expect_found names s.Comma k m u comma) (number_found names m l v second))))))

cell_reads : (names : NameTable) (c : ℕ × ℕ) (i : Input) (to : Cursor) → Stand names (cell_items c) i.cursor to → cell names i ≡ Ok (c, record i { cursor = to })
unfolding cell
cell_reads names c i to st =
    bind_value (input.location names i) _ c.0 (record i { cursor = st.0 }) (location_reads names c.0 i st.0 st.1)
    ∙ ap (λ o. and_then (and_then o (λ u. input.number)) (λ v. pure (c.0, v))) (expect_reads names s.Comma (record i { cursor = st.0 }) st.2.0 st.2.1)
    ∙ ap (λ o. and_then o (λ v. pure (c.0, v))) (number_reads names c.1 (record i { cursor = st.2.0 }) st.2.2.0 st.2.2.1)
    ∙ ap (λ d. Ok (c, record i { cursor = d })) (sym st.2.2.2)

thread_found : (names : NameTable) (i j : Input) (t : ℕ) → thread i ≡ Ok (t, j) → Takes names (number t ∷ sign s.Comma ∷ []) 0 i j
unfolding thread
thread_found names i j t h =
    bind_then (input.number i) _ (t, j) h (λ n k first rest.
    bind_then (expect s.Comma k) _ (t, j) rest (λ u l comma last.
    subst (λ (q : ℕ × Input). Takes names (number q.0 ∷ sign s.Comma ∷ []) 0 i q.1) (ok_same (n, l) (t, j) last)
    (takes_then (number_found names i k n first) (expect_found names s.Comma k l u comma))))

thread_reads : (names : NameTable) (t : ℕ) (i : Input) (to : Cursor) → Stand names (number t ∷ sign s.Comma ∷ []) i.cursor to → thread i ≡ Ok (t, record i { cursor = to })
unfolding thread
thread_reads names t i to st =
    bind_value (input.number i) _ t (record i { cursor = st.0 }) (number_reads names t i st.0 st.1)
    ∙ ap (λ o. and_then o (λ u. pure t)) (expect_reads names s.Comma (record i { cursor = st.0 }) st.2.0 st.2.1)
    ∙ ap (λ d. Ok (t, record i { cursor = d })) (sym st.2.2)

abbrev pub last_items : ℕ × ℕ → List Item
last_items c = sign s.Open ∷ (cell_items c ++ sign s.Close ∷ [])

last_found : (names : NameTable) (i j : Input) (c : ℕ × ℕ) → last names i ≡ Ok (c, j) → Takes names (last_items c) 0 i j
unfolding last
last_found names i j c h =
    bind_then (and_then (expect s.Open i) (λ u. cell names)) _ (c, j) h (λ d l two rest.
    bind_then (expect s.Open i) (λ u. cell names) (d, l) two (λ u k first second.
    bind_then (expect s.Close l) _ (c, j) rest (λ w m close end.
    subst (λ (q : (ℕ × ℕ) × Input). Takes names (last_items q.0) 0 i q.1) (ok_same (d, m) (c, j) end)
    (takes_then (expect_found names s.Open i k u first) (takes_then (cell_found names k l d second) (expect_found names s.Close l m w close))))))

last_reads : (names : NameTable) (c : ℕ × ℕ) (i : Input) (to : Cursor) → Stand names (last_items c) i.cursor to → last names i ≡ Ok (c, record i { cursor = to })
unfolding last
last_reads names c i to st =
    let p = stand-split names (cell_items c) (sign s.Close ∷ []) st.0 to st.2 in
    ap (λ o. and_then (and_then o (λ u. cell names)) (λ d k. and_then (expect s.Close k) (λ u. pure d))) (expect_reads names s.Open i st.0 st.1)
    ∙ ap (λ o. and_then o (λ d k. and_then (expect s.Close k) (λ u. pure d))) (cell_reads names c (record i { cursor = st.0 }) p.0 p.1)
    ∙ ap (λ o. and_then o (λ u. pure c)) (expect_reads names s.Close (record i { cursor = p.0 }) p.2.0 p.2.1)
    ∙ ap (λ d. Ok (c, record i { cursor = d })) (sym p.2.2)

abbrev pub seen_items : ℕ × ℕ → List Item
seen_items a = sign s.Open ∷ number a.0 ∷ sign s.Comma ∷ location a.1 ∷ sign s.Close ∷ []

-- `(t,`
opened_found : (names : NameTable) (i j : Input) (t : ℕ) → and_then (expect s.Open i) (λ u. thread) ≡ Ok (t, j) → Takes names (sign s.Open ∷ number t ∷ sign s.Comma ∷ []) 0 i j
opened_found names i j t h =
    bind_then (expect s.Open i) (λ u. thread) (t, j) h (λ u k first second.
    takes_then (expect_found names s.Open i k u first) (thread_found names k j t second))

opened_reads : (names : NameTable) (t : ℕ) (i : Input) (to : Cursor) → Stand names (sign s.Open ∷ number t ∷ sign s.Comma ∷ []) i.cursor to
    → and_then (expect s.Open i) (λ u. thread) ≡ Ok (t, record i { cursor = to })
opened_reads names t i to st =
    ap (λ o. and_then o (λ u. thread)) (expect_reads names s.Open i st.0 st.1) ∙ thread_reads names t (record i { cursor = st.0 }) to st.2

seen_found : (names : NameTable) (i j : Input) (a : ℕ × ℕ) → seen names i ≡ Ok (a, j) → Takes names (seen_items a) 0 i j
unfolding seen
seen_found names i j a h =
    bind_then (and_then (expect s.Open i) (λ u. thread)) _ (a, j) h (λ t k first rest.
    bind_then (input.location names k) _ (a, j) rest (λ x l second rest2.
    bind_then (expect s.Close l) _ (a, j) rest2 (λ w m close end.
    subst (λ (q : (ℕ × ℕ) × Input). Takes names (seen_items q.0) 0 i q.1) (ok_same ((t, x), m) (a, j) end)
    (takes_then (opened_found names i k t first) (takes_then (location_found names k l x second) (expect_found names s.Close l m w close))))))

seen_reads : (names : NameTable) (a : ℕ × ℕ) (i : Input) (to : Cursor) → Stand names (seen_items a) i.cursor to → seen names i ≡ Ok (a, record i { cursor = to })
unfolding seen
seen_reads names a i to st =
    let p = stand-split names (sign s.Open ∷ number a.0 ∷ sign s.Comma ∷ []) (location a.1 ∷ sign s.Close ∷ []) i.cursor to st in
    bind_value (and_then (expect s.Open i) (λ u. thread)) _ a.0 (record i { cursor = p.0 }) (opened_reads names a.0 i p.0 p.1)
    ∙ bind_value (input.location names (record i { cursor = p.0 })) _ a.1 (record i { cursor = p.2.0 }) (location_reads names a.1 (record i { cursor = p.0 }) p.2.0 p.2.1)
    ∙ ap (λ o. and_then o (λ u. pure a)) (expect_reads names s.Close (record i { cursor = p.2.0 }) p.2.2.0 p.2.2.1)
    ∙ ap (λ d. Ok (a, record i { cursor = d })) (sym p.2.2.2)

abbrev pub read_items : ℕ × (ℕ × ℕ) → List Item
read_items a = sign s.Open ∷ number a.0 ∷ sign s.Comma ∷ (cell_items a.1 ++ sign s.Close ∷ [])

read_found : (names : NameTable) (i j : Input) (a : ℕ × (ℕ × ℕ)) → read names i ≡ Ok (a, j) → Takes names (read_items a) 0 i j
unfolding read
read_found names i j a h =
    bind_then (and_then (expect s.Open i) (λ u. thread)) _ (a, j) h (λ t k first rest.
    bind_then (cell names k) _ (a, j) rest (λ c l second rest2.
    bind_then (expect s.Close l) _ (a, j) rest2 (λ w m close end.
    subst (λ (q : (ℕ × (ℕ × ℕ)) × Input). Takes names (read_items q.0) 0 i q.1) (ok_same ((t, c), m) (a, j) end)
    (takes_then (opened_found names i k t first) (takes_then (cell_found names k l c second) (expect_found names s.Close l m w close))))))

read_reads : (names : NameTable) (a : ℕ × (ℕ × ℕ)) (i : Input) (to : Cursor) → Stand names (read_items a) i.cursor to → read names i ≡ Ok (a, record i { cursor = to })
unfolding read
read_reads names a i to st =
    let p = stand-split names (sign s.Open ∷ number a.0 ∷ sign s.Comma ∷ []) (cell_items a.1 ++ sign s.Close ∷ []) i.cursor to st in
    let q = stand-split names (cell_items a.1) (sign s.Close ∷ []) p.0 to p.2 in
    bind_value (and_then (expect s.Open i) (λ u. thread)) _ a.0 (record i { cursor = p.0 }) (opened_reads names a.0 i p.0 p.1)
    ∙ bind_value (cell names (record i { cursor = p.0 })) _ a.1 (record i { cursor = q.0 }) (cell_reads names a.1 (record i { cursor = p.0 }) q.0 q.1)
    ∙ ap (λ o. and_then o (λ u. pure a)) (expect_reads names s.Close (record i { cursor = q.0 }) q.2.0 q.2.1)
    ∙ ap (λ d. Ok (a, record i { cursor = d })) (sym q.2.2)

abbrev pub two_items : ℕ × (ℕ × ℕ) × (ℕ × ℕ) → List Item
two_items a = sign s.Open ∷ number a.0 ∷ sign s.Comma ∷ (cell_items a.1 ++ sign s.Comma ∷ (cell_items a.2 ++ sign s.Close ∷ []))

two_found : (names : NameTable) (i j : Input) (a : ℕ × (ℕ × ℕ) × (ℕ × ℕ)) → two_reads names i ≡ Ok (a, j) → Takes names (two_items a) 0 i j
unfolding two_reads
two_found names i j a h =
    bind_then (and_then (expect s.Open i) (λ u. thread)) _ (a, j) h (λ t k first rest.
    bind_then (cell names k) _ (a, j) rest (λ c l second rest2.
    bind_then (and_then (expect s.Comma l) (λ u. cell names)) _ (a, j) rest2 (λ d n third rest3.
    bind_then (expect s.Comma l) (λ u. cell names) (d, n) third (λ u o comma fourth.
    bind_then (expect s.Close n) _ (a, j) rest3 (λ w m close end.
    subst (λ (q : (ℕ × (ℕ × ℕ) × (ℕ × ℕ)) × Input). Takes names (two_items q.0) 0 i q.1) (ok_same ((t, c, d), m) (a, j) end)
    (takes_then (opened_found names i k t first) (takes_then (cell_found names k l c second) (takes_then (expect_found names s.Comma l o u comma)
    (takes_then (cell_found names o n d fourth) (expect_found names s.Close n m w close))))))))))

two_again : (names : NameTable) (a : ℕ × (ℕ × ℕ) × (ℕ × ℕ)) (i : Input) (to : Cursor) → Stand names (two_items a) i.cursor to → two_reads names i ≡ Ok (a, record i { cursor = to })
unfolding two_reads
two_again names a i to st =
    let p = stand-split names (sign s.Open ∷ number a.0 ∷ sign s.Comma ∷ []) (cell_items a.1 ++ sign s.Comma ∷ (cell_items a.2 ++ sign s.Close ∷ [])) i.cursor to st in
    let q = stand-split names (cell_items a.1) (sign s.Comma ∷ (cell_items a.2 ++ sign s.Close ∷ [])) p.0 to p.2 in
    let r = stand-split names (cell_items a.2) (sign s.Close ∷ []) q.2.0 to q.2.2 in
    bind_value (and_then (expect s.Open i) (λ u. thread)) _ a.0 (record i { cursor = p.0 }) (opened_reads names a.0 i p.0 p.1)
    ∙ bind_value (cell names (record i { cursor = p.0 })) _ a.1 (record i { cursor = q.0 }) (cell_reads names a.1 (record i { cursor = p.0 }) q.0 q.1)
    ∙ bind_value (and_then (expect s.Comma (record i { cursor = q.0 })) (λ u. cell names)) _ a.2 (record i { cursor = r.0 })
    (ap (λ o. and_then o (λ u. cell names)) (expect_reads names s.Comma (record i { cursor = q.0 }) q.2.0 q.2.1) ∙ cell_reads names a.2 (record i { cursor = q.2.0 }) r.0 r.1)
    ∙ ap (λ o. and_then o (λ u. pure a)) (expect_reads names s.Close (record i { cursor = r.0 }) r.2.0 r.2.1)
    ∙ ap (λ d. Ok (a, record i { cursor = d })) (sym r.2.2)

-- ---- crash formulas

abbrev pub item_of : NameRef → Item
item_of (place.Location x) = location x
item_of (place.Scalar r) = scalar r

pub named_matches : (names : NameTable) (t : Lexeme) (r : NameRef) → named names t ≡ Ok r → Matches names (item_of r) t
named_matches names t (place.Location x) h = named_found names t (place.Location x) h
named_matches names t (place.Scalar x) h = named_found names t (place.Scalar x) h

pub crash_items_are : (r : NameRef) (k : ℕ) → item_of r ∷ sign s.Equal ∷ number k ∷ [] ≡ crash_items (of_name r k)
crash_items_are (place.Location x) k = refl
crash_items_are (place.Scalar r) k = refl

pub crash_found : FindsAtoms crash_atom IsCrash
unfolding crash_atom
crash_found names i j a h =
    bind_then (next i) _ (a, j) h (λ t k read rest.
    bind_then (allowed t.place (named names t) k) _ (a, j) rest (λ r l allows rest2.
    bind_then (and_then (node t.place l) (λ u. equals)) _ (a, j) rest2 (λ n m third end.
    bind_then (node t.place l) (λ u. equals) (n, m) third (λ u o noded behind.
    allowed_then t.place (named names t) k (r, l) allows (λ q is same.
    let found = next_found i k t read in
    let first = takes_one names (item_of r) i l t found.0
    (named_matches names t r (is ∙ ap (λ (z : NameRef × Input). Ok z.0) same))
    (sym (ap (λ (z : NameRef × Input). z.1) same) ∙ found.1) in
    let whole = takes_then first (takes_then (node_takes names t.place l o u noded) (equals_found names o m n behind)) in
    let all = subst (λ (q : CrashAtom × Input). Takes names (crash_items q.0) 1 i q.1) (ok_same (of_name r n, m) (a, j) end)
    (subst (λ (is : List Item). Takes names is 1 i m) (crash_items_are r n) whole) in
    (all.stand, all.room))))))

crash_by : (names : NameTable) (i : Input) (r : NameRef) (k : ℕ) (to : Cursor) → Stand names (item_of r ∷ sign s.Equal ∷ number k ∷ []) i.cursor to
    → ((t : Lexeme) → Matches names (item_of r) t → named names t ≡ Ok r) → 0 < i.room
    → crash_atom names i ≡ Ok (of_name r k, record { cursor = to; room = i.room - 1 })
unfolding crash_atom
crash_by names i r k to st reads some =
    let t = st.1.lexeme in
    let behind = record i { cursor = st.0 } in
    bind_value (next i) _ t behind (stands_token names (item_of r) i st.0 st.1)
    ∙ ap (λ z. and_then (allowed t.place z behind) (λ r l. and_then (and_then (node t.place l) (λ u. equals)) (λ k. pure (of_name r k)))) (reads t st.1.matches)
    ∙ ap (λ o. and_then (and_then o (λ u. equals)) (λ k. pure (of_name r k))) (node_reads t.place behind some)
    ∙ ap (λ o. and_then o (λ k. pure (of_name r k))) (equals_reads names k (record behind { room = i.room - 1 }) to st.2)

pub crash_again : ReadsAtoms crash_atom IsCrash
crash_again names i (crash.Scalar r k) to st some =
    crash_by names i (place.Scalar r) k to st (λ t m. named_reads names t (place.Scalar r) m.0 m.1 m.2) some
crash_again names i (crash.Location x v) to st some =
    crash_by names i (place.Location x) v to st (λ t m. named_reads names t (place.Location x) m.0 m.1 m.2) some

-- ---- assertions

-- what follows the letter of an atom
record Behind (names : NameTable) (b : ℕ) (a : RawAtom) (i j : Input) : Type 0 where
  items : List Item
  are : raw_items a ≡ letter b ∷ items
  takes : Takes names items 0 i j

letter_found : {X : Type 0} (names : NameTable) (p : Parser X) (items : X → List Item) (make : X → RawAtom) (b n : ℕ) (i j : Input) (a : RawAtom)
    → ((x : X) → raw_items (make x) ≡ letter n ∷ items x) → ((k : Input) (x : X) → p i ≡ Ok (x, k) → Takes names (items x) 0 i k)
    → b ≡ n → and_then (p i) (λ x. pure (make x)) ≡ Ok (a, j) → Behind names b a i j
letter_found names p items make b n i j a shape found is h =
    bind_then (p i) (λ x. pure (make x)) (a, j) h (λ x k read end.
    subst (λ (q : RawAtom × Input). Behind names b q.0 i q.1) (ok_same (make x, k) (a, j) end)
    (record { items = items x; are = shape x ∙ ap (λ m. letter m ∷ items x) (sym is); takes = found k x read }))

-- which of two readers gave it
either_reads : {A : Type 0} (v : Bool) (p q : Parser A) (i : Input) (r : Outcome A) → (if v then p else q) i ≡ r → ((v ≡ true) × (p i ≡ r)) ⊎ ((v ≡ false) × (q i ≡ r))
either_reads true p q i r h = inl (refl, h)
either_reads false p q i r h = inr (refl, h)

lettered_found : (names : NameTable) (at b : ℕ) (i j : Input) (a : RawAtom) → lettered names at b i ≡ Ok (a, j) → Behind names b a i j
lettered_found names at b i j a h =
    elim (either_reads (b == 76) _ _ i (Ok (a, j)) h) [
      | inl e ↦ letter_found names (last names) last_items (λ c. raw.Last c.0 c.1) b 76 i j a (λ x. refl) (λ k x r. last_found names i k x r) (eqb-true b 76 e.0) e.1
      | inr n1 ↦ elim (either_reads (b == 80) _ _ i (Ok (a, j)) n1.1) [
        | inl e ↦ letter_found names (last names) last_items (λ c. raw.Persist c.0 c.1) b 80 i j a (λ x. refl) (λ k x r. last_found names i k x r) (eqb-true b 80 e.0) e.1
        | inr n2 ↦ elim (either_reads (b == 82) _ _ i (Ok (a, j)) n2.1) [
          | inl e ↦ letter_found names (read names) read_items (λ c. raw.Read c.0 c.1.0 c.1.1) b 82 i j a (λ x. refl) (λ k x r. read_found names i k x r) (eqb-true b 82 e.0) e.1
          | inr n3 ↦ elim (either_reads (b == 65) _ _ i (Ok (a, j)) n3.1) [
            | inl e ↦ letter_found names (read names) read_items (λ c. raw.Async c.0 c.1.0 c.1.1) b 65 i j a (λ x. refl) (λ k x r. read_found names i k x r) (eqb-true b 65 e.0) e.1
            | inr n4 ↦ elim (either_reads (b == 67) _ _ i (Ok (a, j)) n4.1) [
              | inl e ↦ letter_found names (two_reads names) two_items (λ c. raw.Then c.0 c.1.0 c.1.1 c.2.0 c.2.1) b 67 i j a (λ x. refl) (λ k x r. two_found names i k x r) (eqb-true b 67 e.0) e.1
              | inr n5 ↦ elim (either_reads (b == 78) _ _ i (Ok (a, j)) n5.1) [
                | inl e ↦ letter_found names (seen names) seen_items (λ c. raw.Newest c.0 c.1) b 78 i j a (λ x. refl) (λ k x r. seen_found names i k x r) (eqb-true b 78 e.0) e.1
                | inr n6 ↦ elim (either_reads (b == 79) _ _ i (Ok (a, j)) n6.1) [
                  | inl e ↦ letter_found names (seen names) seen_items (λ c. raw.Ordered c.0 c.1) b 79 i j a (λ x. refl) (λ k x r. seen_found names i k x r) (eqb-true b 79 e.0) e.1
                  | inr n7 ↦ elim (either_reads (b == 70) _ _ i (Ok (a, j)) n7.1) [
                    | inl e ↦ letter_found names (seen names) seen_items (λ c. raw.Fenced c.0 c.1) b 70 i j a (λ x. refl) (λ k x r. seen_found names i k x r) (eqb-true b 70 e.0) e.1
                    | inr n8 ↦ cc
                  ]
                ]
              ]
            ]
          ]
        ]
      ]
    ]

scalar_found : (names : NameTable) (t : Lexeme) (i k j : Input) (a : RawAtom) → token i.cursor ≡ Ok t → k ≡ record i { cursor = after i.cursor }
    → scalar_atom names t k ≡ Ok (a, j) → Takes names (raw_items a) 1 i j
scalar_found names t i k j a is_at at h =
    bind_then (allowed t.place (scalar_in (named names t)) k) _ (a, j) h (λ r l allows rest.
    bind_then (and_then (node t.place l) (λ u. equals)) _ (a, j) rest (λ n m third end.
    bind_then (node t.place l) (λ u. equals) (n, m) third (λ u o noded behind.
    allowed_then t.place (scalar_in (named names t)) k (r, l) allows (λ q is same.
    let first = takes_one names (scalar r) i l t is_at
    (named_found names t (place.Scalar r) (scalar_in_found (named names t) r (is ∙ ap (λ (z : ℕ × Input). Ok z.0) same)))
    (sym (ap (λ (z : ℕ × Input). z.1) same) ∙ at) in
    subst (λ (q : RawAtom × Input). Takes names (raw_items q.0) 1 i q.1) (ok_same (raw.Scalar r n, m) (a, j) end)
    (takes_then first (takes_then (node_takes names t.place l o u noded) (equals_found names o m n behind)))))))

pub raw_found : FindsAtoms raw_atom IsRaw
unfolding raw_atom
raw_found names i j a h =
    let all = bind_then (next i) _ (a, j) h (λ t k read rest. let found = next_found i k t read in by t k found.0 found.1 t.kind refl rest) in
    (all.stand, all.room)
  where
    by : (t : Lexeme) (k : Input) → token i.cursor ≡ Ok t → k ≡ record i { cursor = after i.cursor } → (z : TokenKind) → t.kind ≡ z → raw_by names t z k ≡ Ok (a, j)
        → Takes names (raw_items a) 1 i j
    by t k is at (kind.Letter b) e g =
        bind_then (node t.place k) (λ u. lettered names t.place b) (a, j) g (λ u l noded rest.
        let behind = lettered_found names t.place b l j a rest in
        subst (λ (is : List Item). Takes names is 1 i j) (sym behind.are)
        (takes_then (takes_one names (letter b) i k t is e at) (takes_then (node_takes names t.place k l u noded) behind.takes)))
    by t k is at kind.Word e g = scalar_found names t i k j a is at g
    by t k is at (kind.Number n) e g = scalar_found names t i k j a is at g
    by t k is at (kind.Sign z) e g = scalar_found names t i k j a is at g
    by t k is at kind.End e g = scalar_found names t i k j a is at g

letter_again : (names : NameTable) (i : Input) (b : ℕ) (a : RawAtom) (mid to : Cursor) (st : Stands names (letter b) i.cursor mid) → 0 < i.room
    → lettered names st.lexeme.place b (record { cursor = mid; room = i.room - 1 }) ≡ Ok (a, record { cursor = to; room = i.room - 1 })
    → raw_atom names i ≡ Ok (a, record { cursor = to; room = i.room - 1 })
unfolding raw_atom
letter_again names i b a mid to st some rest =
    let t = st.lexeme in
    let behind = record i { cursor = mid } in
    bind_value (next i) _ t behind (stands_token names (letter b) i mid st)
    ∙ ap (λ z. raw_by names t z behind) st.matches
    ∙ ap (λ o. and_then o (λ u. lettered names t.place b)) (node_reads t.place behind some)
    ∙ rest

scalar_again : (names : NameTable) (i : Input) (r k : ℕ) (to : Cursor) → Stand names (scalar r ∷ sign s.Equal ∷ number k ∷ []) i.cursor to → 0 < i.room
    → raw_atom names i ≡ Ok (raw.Scalar r k, record { cursor = to; room = i.room - 1 })
unfolding raw_atom
scalar_again names i r k to st some =
    let t = st.1.lexeme in
    let m = st.1.matches in
    let behind = record i { cursor = st.0 } in
    bind_value (next i) _ t behind (stands_token names (scalar r) i st.0 st.1)
    ∙ ap (λ z. raw_by names t z behind) m.0
    ∙ ap (λ z. and_then (allowed t.place (scalar_in z) behind) (λ r l. and_then (and_then (node t.place l) (λ u. equals)) (λ k. pure (raw.Scalar r k))))
    (named_reads names t (place.Scalar r) m.0 m.1 m.2)
    ∙ ap (λ o. and_then (and_then o (λ u. equals)) (λ k. pure (raw.Scalar r k))) (node_reads t.place behind some)
    ∙ ap (λ o. and_then o (λ k. pure (raw.Scalar r k))) (equals_reads names k (record behind { room = i.room - 1 }) to st.2)

pub raw_again : ReadsAtoms raw_atom IsRaw
raw_again names i (raw.Scalar r k) to st some = scalar_again names i r k to st some
raw_again names i (raw.Last x v) to st some =
    letter_again names i 76 (raw.Last x v) st.0 to st.1 some (ap (λ o. and_then o (λ c. pure (raw.Last c.0 c.1))) (last_reads names (x, v) (record { cursor = st.0; room = i.room - 1 }) to st.2))
raw_again names i (raw.Read t x v) to st some =
    letter_again names i 82 (raw.Read t x v) st.0 to st.1 some (ap (λ o. and_then o (λ c. pure (raw.Read c.0 c.1.0 c.1.1))) (read_reads names (t, (x, v)) (record { cursor = st.0; room = i.room - 1 }) to st.2))
raw_again names i (raw.Persist x v) to st some =
    letter_again names i 80 (raw.Persist x v) st.0 to st.1 some (ap (λ o. and_then o (λ c. pure (raw.Persist c.0 c.1))) (last_reads names (x, v) (record { cursor = st.0; room = i.room - 1 }) to st.2))
raw_again names i (raw.Async t x v) to st some =
    letter_again names i 65 (raw.Async t x v) st.0 to st.1 some (ap (λ o. and_then o (λ c. pure (raw.Async c.0 c.1.0 c.1.1))) (read_reads names (t, (x, v)) (record { cursor = st.0; room = i.room - 1 }) to st.2))
raw_again names i (raw.Then t x v y w) to st some =
    letter_again names i 67 (raw.Then t x v y w) st.0 to st.1 some (ap (λ o. and_then o (λ c. pure (raw.Then c.0 c.1.0 c.1.1 c.2.0 c.2.1))) (two_again names (t, (x, v), (y, w)) (record { cursor = st.0; room = i.room - 1 }) to st.2))
raw_again names i (raw.Newest t x) to st some =
    letter_again names i 78 (raw.Newest t x) st.0 to st.1 some (ap (λ o. and_then o (λ c. pure (raw.Newest c.0 c.1))) (seen_reads names (t, x) (record { cursor = st.0; room = i.room - 1 }) to st.2))
raw_again names i (raw.Ordered t x) to st some =
    letter_again names i 79 (raw.Ordered t x) st.0 to st.1 some (ap (λ o. and_then o (λ c. pure (raw.Ordered c.0 c.1))) (seen_reads names (t, x) (record { cursor = st.0; room = i.room - 1 }) to st.2))
raw_again names i (raw.Fenced t x) to st some =
    letter_again names i 70 (raw.Fenced t x) st.0 to st.1 some (ap (λ o. and_then o (λ c. pure (raw.Fenced c.0 c.1))) (seen_reads names (t, x) (record { cursor = st.0; room = i.room - 1 }) to st.2))

-- ---- how atoms begin

letter_begins : (b : ℕ) (t : Lexeme) → t.kind ≡ kind.Letter b → start t ≡ opens.Atom
unfolding start
letter_begins b t h = ap (λ k. start_by k t.text) h

-- a word that is not reserved is none of the reserved ones
free_differs : (w v : List ℕ) → is_reserved w ≡ false → is_reserved v ≡ true → bytes_eq w v ≡ false
free_differs w v free reserved = by (bytes_eq w v) refl
  where
    by : (b : Bool) → bytes_eq w v ≡ b → b ≡ false
    by true e = let same = ap is_reserved ((bytes_eq-Decides w v).0 e) in cc
    by false e = refl

true_is_reserved : is_reserved (codes "true") ≡ true
unfolding is_reserved
true_is_reserved = refl

false_is_reserved : is_reserved (codes "false") ≡ true
unfolding is_reserved
false_is_reserved = refl

pub name_begins : (t : Lexeme) → t.kind ≡ kind.Word → is_reserved t.text ≡ false → start t ≡ opens.Atom
unfolding start
name_begins t h free =
    ap (λ k. start_by k t.text) h
    ∙ ap (λ b. if b then opens.Constant true else (if bytes_eq t.text (codes "false") then opens.Constant false else opens.Atom)) (free_differs t.text (codes "true") free true_is_reserved)
    ∙ ap (λ b. if b then opens.Constant false else opens.Atom) (free_differs t.text (codes "false") free false_is_reserved)

by_letter : (names : NameTable) (b : ℕ) (from to : Cursor) → Stands names (letter b) from to → BeginsAtom from
by_letter names b from to st = record { lexeme = st.lexeme; read = st.read; begins = letter_begins b st.lexeme st.matches }

by_scalar : (names : NameTable) (r : ℕ) (from to : Cursor) → Stands names (scalar r) from to → BeginsAtom from
by_scalar names r from to st = record { lexeme = st.lexeme; read = st.read; begins = name_begins st.lexeme st.matches.0 st.matches.1 }

pub raw_begins : BeginsAtoms IsRaw
raw_begins names from to (raw.Scalar r k) st = by_scalar names r from st.0 st.1
raw_begins names from to (raw.Last x v) st = by_letter names 76 from st.0 st.1
raw_begins names from to (raw.Read r x v) st = by_letter names 82 from st.0 st.1
raw_begins names from to (raw.Persist x v) st = by_letter names 80 from st.0 st.1
raw_begins names from to (raw.Async r x v) st = by_letter names 65 from st.0 st.1
raw_begins names from to (raw.Then r x v y w) st = by_letter names 67 from st.0 st.1
raw_begins names from to (raw.Newest r x) st = by_letter names 78 from st.0 st.1
raw_begins names from to (raw.Ordered r x) st = by_letter names 79 from st.0 st.1
raw_begins names from to (raw.Fenced r x) st = by_letter names 70 from st.0 st.1

pub crash_begins : BeginsAtoms IsCrash
crash_begins names from to (crash.Scalar r k) st = by_scalar names r from st.0 st.1
crash_begins names from to (crash.Location x v) st =
    record { lexeme = st.1.lexeme; read = st.1.read; begins = name_begins st.1.lexeme st.1.matches.0 st.1.matches.1 }
