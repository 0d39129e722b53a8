-- The same of atoms: their items are slots, and each slot has an item of its own.
use Rattle.std.proofs.Common.{◌≡◌, ℕ, ◌+◌, ◌<◌, ◌==◌, Bool, true, false, Ok, Err, List, [], ◌∷◌, ◌++◌, length, length-append, refl, ap, sym, ◌∙◌, subst, arith, inl, inr}
use Rattle.std.specs.Prelude.{if◌then◌else◌, Result, codes}
use Rattle.std.proofs.lemmas.Bool.{eqb-true}
use Rattle.pg_lex.specs.declared.token.Sign.{Sign}
use Rattle.pg_lex.specs.declared.token.Sign.TheVariants as s
use Rattle.pg_lex.specs.declared.token.TokenKind.{TokenKind}
use Rattle.pg_lex.specs.declared.token.TokenKind.TheVariants as kind
use Rattle.pg_lex.specs.declared.fault.TextFault.{TextFault}
use Rattle.pg_lex.specs.declared.fault.TextKind.{TextKind}
use Rattle.pg_lex.specs.declared.fault.TextKind.TheVariants.{Unexpected}
use Rattle.pg_lex.specs.Lex.{Cursor, Lexeme, token, after}
use Rattle.pg_program.specs.NameTable.{NameTable}
use Rattle.pg_program.specs.declared.name_table.NameRef.TheVariants as place
use Rattle.pg_assertion.specs.declared.atom.RawAtom.{RawAtom}
use Rattle.pg_assertion.specs.declared.atom.RawAtom.TheVariants as raw
use Rattle.pg_assertion_text.specs.Words.{Item, Stands, Stand, sign, letter, number, location, scalar}
use Rattle.pg_assertion_text.specs.Input as input
use Rattle.pg_assertion_text.specs.Input.{Input, Outcome, Parser, and_then, ◌>>=◌, ◌>>◌, pure, refuse, allowed, next, node, expect, named, number_in, location_in, scalar_in}
use Rattle.pg_assertion_text.specs.Atoms.{equals, cell, thread, last, seen, read, two_reads, lettered, scalar_atom, raw_by, raw_atom, raw_items, IsRaw}
use Rattle.pg_assertion_text.proofs.Steps.{ok_same, bind_then, allowed_then, next_found, node_found, expect_found, number_found, location_found, named_found, scalar_in_found, stand-append, stand-split}
use Rattle.pg_assertion_text.specs.Agreement.{ahead, Alike, FaultAt}
use Rattle.pg_assertion_text.proofs.SpellingTokens.{widened, open_stands, close_stands, comma_stands, equal_stands}
use Rattle.pg_assertion_text.proofs.Moves.{ahead-add}
use Rattle.pg_assertion_text.proofs.Reaches.{alike-split, Solid, solid_from}
use Rattle.pg_assertion_text.proofs.ReachesAtoms.{stand_ends, stand_moved, stand_solid}
use Rattle.pg_assertion_text.proofs.Opens.{Easy, AllEasy, easy-append, Here, OpenAtom, OpenedAtom, next_here, node_here, bind_here, expect_here, fault_shift}

-- ---- slots

pub data Slot : Type 0 where
  opening : Slot
  closing : Slot
  comma : Slot
  equal : Slot
  a_number : Slot
  a_location : Slot

abbrev pub Values : List Slot → Type 0
Values [] = Unit {0}
Values (opening ∷ ks) = Values ks
Values (closing ∷ ks) = Values ks
Values (comma ∷ ks) = Values ks
Values (equal ∷ ks) = Values ks
Values (a_number ∷ ks) = ℕ × Values ks
Values (a_location ∷ ks) = ℕ × Values ks

abbrev pub items_of : (ks : List Slot) → Values ks → List Item
items_of [] v = []
items_of (opening ∷ ks) v = sign s.Open ∷ items_of ks v
items_of (closing ∷ ks) v = sign s.Close ∷ items_of ks v
items_of (comma ∷ ks) v = sign s.Comma ∷ items_of ks v
items_of (equal ∷ ks) v = sign s.Equal ∷ items_of ks v
items_of (a_number ∷ ks) v = number v.0 ∷ items_of ks v.1
items_of (a_location ∷ ks) v = location v.0 ∷ items_of ks v.1

values_append : (ks ls : List Slot) → Values ks → Values ls → Values (ks ++ ls)
values_append [] ls v w = w
values_append (opening ∷ ks) ls v w = values_append ks ls v w
values_append (closing ∷ ks) ls v w = values_append ks ls v w
values_append (comma ∷ ks) ls v w = values_append ks ls v w
values_append (equal ∷ ks) ls v w = values_append ks ls v w
values_append (a_number ∷ ks) ls v w = (v.0, values_append ks ls v.1 w)
values_append (a_location ∷ ks) ls v w = (v.0, values_append ks ls v.1 w)

items_append : (ks ls : List Slot) (v : Values ks) (w : Values ls) → items_of ks v ++ items_of ls w ≡ items_of (ks ++ ls) (values_append ks ls v w)
unfolding values_append
items_append [] ls v w = refl
items_append (opening ∷ ks) ls v w = ap (λ is. sign s.Open ∷ is) (items_append ks ls v w)
items_append (closing ∷ ks) ls v w = ap (λ is. sign s.Close ∷ is) (items_append ks ls v w)
items_append (comma ∷ ks) ls v w = ap (λ is. sign s.Comma ∷ is) (items_append ks ls v w)
items_append (equal ∷ ks) ls v w = ap (λ is. sign s.Equal ∷ is) (items_append ks ls v w)
items_append (a_number ∷ ks) ls v w = ap (λ is. number v.0 ∷ is) (items_append ks ls v.1 w)
items_append (a_location ∷ ks) ls v w = ap (λ is. location v.0 ∷ is) (items_append ks ls v.1 w)

easy_opening : (names : NameTable) → Easy names (sign s.Open)
easy_opening names = λ some. (codes "(", widened (open_stands names))

easy_closing : (names : NameTable) → Easy names (sign s.Close)
easy_closing names = λ some. (codes ")", widened (close_stands names))

easy_comma : (names : NameTable) → Easy names (sign s.Comma)
easy_comma names = λ some. (codes ",", widened (comma_stands names))

easy_equal : (names : NameTable) → Easy names (sign s.Equal)
easy_equal names = λ some. (codes "=", widened (equal_stands names))

module _ (names : NameTable) (easy_number : Easy names (number 0)) (some_location : ℕ) (easy_location : Easy names (location some_location)) where
  -- what may stand in each slot
  abbrev pub default : (ks : List Slot) → Values ks
  default [] = tt
  default (opening ∷ ks) = default ks
  default (closing ∷ ks) = default ks
  default (comma ∷ ks) = default ks
  default (equal ∷ ks) = default ks
  default (a_number ∷ ks) = (0, default ks)
  default (a_location ∷ ks) = (some_location, default ks)

  pub default_easy : (ks : List Slot) → AllEasy names (items_of ks (default ks))
  default_easy [] = tt
  default_easy (opening ∷ ks) = (easy_opening names, default_easy ks)
  default_easy (closing ∷ ks) = (easy_closing names, default_easy ks)
  default_easy (comma ∷ ks) = (easy_comma names, default_easy ks)
  default_easy (equal ∷ ks) = (easy_equal names, default_easy ks)
  default_easy (a_number ∷ ks) = (easy_number, default_easy ks)
  default_easy (a_location ∷ ks) = (easy_location, default_easy ks)

  -- from one place to another stand items for the slots
  abbrev pub Slots : (ks : List Slot) → Cursor → Values ks → Cursor → Type 0
  Slots ks from v to = Stand names (items_of ks v) from to

  abbrev pub OpensSlots : {A : Type 0} (ks : List Slot) → Cursor → Outcome A → Type 0
  OpensSlots ks c (Ok p) = Unit {0}
  OpensSlots ks c (Err e) = OpenAtom names (Slots ks) c e

  pub record Reads {A : Type 0} (p : Parser A) (ks : List Slot) : Type 0 where
    pub opens : (i : Input) → OpensSlots ks i.cursor (p i)
    pub finds : (i j : Input) (a : A) → p i ≡ Ok (a, j) → (v : Values ks) × Stand names (items_of ks v) i.cursor j.cursor

  reads_one : {A : Type 0} (p : Parser A) (k : Slot) → ((i : Input) → Here i.cursor (p i)) → ((i j : Input) (a : A) → p i ≡ Ok (a, j) → (v : Values (k ∷ [])) × Stand names (items_of (k ∷ []) v) i.cursor j.cursor)
      → 0 < length (items_of (k ∷ []) (default (k ∷ []))) → Reads p (k ∷ [])
  reads_one p k here finds some = record { opens = λ i. by i.cursor (p i) (here i); finds = finds }
    where
      by : {A : Type 0} (c : Cursor) (o : Outcome A) → Here c o → OpensSlots (k ∷ []) c o
      by c (Ok q) h = tt
      by c (Err e) h = record {
        m = 0;
        at = h;
        rest = items_of (k ∷ []) (default (k ∷ []));
        some = some;
        solid = λ j less. absurd (omega arith);
        easy = default_easy (k ∷ []);
        whole = λ d to al st. (default (k ∷ []), st);
      }

  reads_pure : {A : Type 0} (a : A) → Reads (pure a) []
  reads_pure a = record { opens = λ i. tt; finds = λ i j b h. (tt, ap (λ q. q.1.cursor) (sym (ok_same (a, i) (b, j) h))) }

  -- a part that has its fault, with slots behind it
  before : (ks ls : List Slot) (c : Cursor) (e : TextFault) → OpenAtom names (Slots ks) c e → OpenAtom names (Slots (ks ++ ls)) c e
  before ks ls c e o = record {
    m = o.m;
    at = o.at;
    rest = o.rest ++ items_of ls (default ls);
    some = let z = o.some in omega (arith, length-append o.rest (items_of ls (default ls)), z);
    solid = o.solid;
    easy = easy-append names o.rest (items_of ls (default ls)) o.easy (default_easy ls);
    whole = λ d to al st.
        let sp = stand-split names o.rest (items_of ls (default ls)) (ahead o.m d) to st in
        let w = o.whole d sp.0 al sp.1 in
        (values_append ks ls w.0 (default ls), subst (λ is. Stand names is d to) (items_append ks ls w.0 (default ls)) (stand-append names (items_of ks w.0) (items_of ls (default ls)) d sp.0 to w.1 sp.2));
  }

  -- a part that is read, and the fault behind it
  past : (is : List Item) (ls : List Slot) {T : Type 0} (stands : Cursor → T → Cursor → Type 0) (c mid : Cursor) (e : TextFault) → Stand names is c mid → OpenAtom names (Slots ls) mid e
      → ((d to : Cursor) (w : Values ls) → Stand names (is ++ items_of ls w) d to → (a : T) × stands d a to) → OpenAtom names stands c e
  past is ls stands c mid e st o whole =
      let k = length is in
      let ends = stand_ends names is c mid st in
      record {
        m = k + o.m;
        at = fault_shift k o.m c e (subst (λ x. FaultAt x o.m e) ends o.at);
        rest = o.rest;
        some = o.some;
        solid = solid_from k o.m c (stand_solid names is c mid st) (λ j less. subst (λ x. Solid (ahead j x)) ends (o.solid j less));
        easy = o.easy;
        whole = λ d to al rest.
            let p = alike-split k o.m d c al in
            let w = o.whole (ahead k d) to (subst (Alike o.m (ahead k d)) (sym ends) p.1) (subst (λ x. Stand names o.rest x to) (sym (ahead-add o.m k d)) rest) in
            whole d to w.0 (stand-append names is (items_of ls w.0) d (ahead k d) to (stand_moved names is c mid d st p.0) w.1);
      }

  reads_then : {A B : Type 0} (p : Parser A) (f : A → Parser B) (ks ls : List Slot) → Reads p ks → ((a : A) → Reads (f a) ls) → Reads (p >>= f) (ks ++ ls)
  reads_then {A} {B} p f ks ls first second = record {
    opens = λ i. by i (p i) refl (first.opens i);
    finds = λ i j b h. bind_then (p i) f (b, j) h (λ a k one two.
        let v = first.finds i k a one in
        let w = (second a).finds k j b two in
        (values_append ks ls v.0 w.0, subst (λ is. Stand names is i.cursor j.cursor) (items_append ks ls v.0 w.0) (stand-append names (items_of ks v.0) (items_of ls w.0) i.cursor k.cursor j.cursor v.1 w.1)));
  }
    where
      by : (i : Input) (o : Outcome A) → p i ≡ o → OpensSlots ks i.cursor o → OpensSlots (ks ++ ls) i.cursor (and_then o f)
      by i (Err e) is o = before ks ls i.cursor e o
      by i (Ok q) is o = let v = first.finds i q.1 q.0 is in last v.0 v.1 (f q.0 q.1) ((second q.0).opens q.1)
        where
          last : (v : Values ks) → Stand names (items_of ks v) i.cursor q.1.cursor → (o : Outcome B) → OpensSlots ls q.1.cursor o → OpensSlots (ks ++ ls) i.cursor o
          last v st (Ok r) o = tt
          last v st (Err e) o = past (items_of ks v) ls (Slots (ks ++ ls)) i.cursor q.1.cursor e st o
              (λ d to w st. (values_append ks ls v w, subst (λ is. Stand names is d to) (items_append ks ls v w) st))

  -- ---- each reader

  reads_sign : (z : Sign) (k : Slot) → Reads (expect z) (k ∷ []) → Reads (expect z) (k ∷ [])
  reads_sign z k r = r

  found_sign : (z : Sign) (i j : Input) (u : Unit {0}) → expect z i ≡ Ok (u, j) → Stand names (sign z ∷ []) i.cursor j.cursor
  found_sign z i j u h = (expect_found names z i j u h).stand

  reads_open : Reads (expect s.Open) (opening ∷ [])
  reads_open = reads_one (expect s.Open) opening (expect_here s.Open) (λ i j u h. (tt, found_sign s.Open i j u h)) (omega arith)

  reads_close : Reads (expect s.Close) (closing ∷ [])
  reads_close = reads_one (expect s.Close) closing (expect_here s.Close) (λ i j u h. (tt, found_sign s.Close i j u h)) (omega arith)

  reads_comma : Reads (expect s.Comma) (comma ∷ [])
  reads_comma = reads_one (expect s.Comma) comma (expect_here s.Comma) (λ i j u h. (tt, found_sign s.Comma i j u h)) (omega arith)

  reads_equal : Reads (expect s.Equal) (equal ∷ [])
  reads_equal = reads_one (expect s.Equal) equal (expect_here s.Equal) (λ i j u h. (tt, found_sign s.Equal i j u h)) (omega arith)

  pub allowed_here : {A : Type 0} (c : Cursor) (t : Lexeme) (v : Result A TextKind) (i : Input) → token c ≡ Ok t → Here c (allowed t.place v i)
  allowed_here c t (Ok a) i is = tt
  allowed_here c t (Err w) i is = inl (t, w, is, refl)

  reads_number : Reads input.number (a_number ∷ [])
  unfolding input.number
  reads_number = reads_one input.number a_number
      (λ i. bind_here i.cursor (next i) (λ t. allowed t.place (number_in t.kind)) (next_here i) (λ t j is. allowed_here i.cursor t (number_in t.kind) j (next_found i j t is).0))
      (λ i j n h. ((n, tt), (number_found names i j n h).stand)) (omega arith)

  reads_location : Reads (input.location names) (a_location ∷ [])
  unfolding input.location
  reads_location = reads_one (input.location names) a_location
      (λ i. bind_here i.cursor (next i) (λ t. allowed t.place (location_in (named names t))) (next_here i) (λ t j is. allowed_here i.cursor t (location_in (named names t)) j (next_found i j t is).0))
      (λ i j x h. ((x, tt), (location_found names i j x h).stand)) (omega arith)

  pub reads_equals : Reads equals (equal ∷ a_number ∷ [])
  unfolding equals
  reads_equals = reads_then (expect s.Equal) (λ u. input.number) (equal ∷ []) (a_number ∷ []) reads_equal (λ u. reads_number)

  reads_comma_number : Reads (expect s.Comma >> input.number) (comma ∷ a_number ∷ [])
  reads_comma_number = reads_then (expect s.Comma) (λ u. input.number) (comma ∷ []) (a_number ∷ []) reads_comma (λ u. reads_number)

  reads_cell : Reads (cell names) (a_location ∷ comma ∷ a_number ∷ [])
  unfolding cell
  reads_cell = reads_then (input.location names) (λ x. (expect s.Comma >> input.number) >>= (λ v. pure {A = ℕ × ℕ} (x, v))) (a_location ∷ []) (comma ∷ a_number ∷ []) reads_location
      (λ x. reads_then (expect s.Comma >> input.number) (λ v. pure {A = ℕ × ℕ} (x, v)) (comma ∷ a_number ∷ []) [] reads_comma_number (λ v. reads_pure {A = ℕ × ℕ} (x, v)))

  reads_thread : Reads thread (a_number ∷ comma ∷ [])
  unfolding thread
  reads_thread = reads_then input.number (λ t. expect s.Comma >> pure t) (a_number ∷ []) (comma ∷ []) reads_number (λ t. reads_then (expect s.Comma) (λ u. pure t) (comma ∷ []) [] reads_comma (λ u. reads_pure t))

  closed : {A : Type 0} (a : A) → Reads (expect s.Close >> pure a) (closing ∷ [])
  closed a = reads_then (expect s.Close) (λ u. pure a) (closing ∷ []) [] reads_close (λ u. reads_pure a)

  opened_thread : Reads (expect s.Open >> thread) (opening ∷ a_number ∷ comma ∷ [])
  opened_thread = reads_then (expect s.Open) (λ u. thread) (opening ∷ []) (a_number ∷ comma ∷ []) reads_open (λ u. reads_thread)

  abbrev last_slots : List Slot
  last_slots = opening ∷ a_location ∷ comma ∷ a_number ∷ closing ∷ []

  reads_last : Reads (last names) last_slots
  unfolding last
  reads_last = reads_then (expect s.Open >> cell names) (λ c. expect s.Close >> pure c) (opening ∷ a_location ∷ comma ∷ a_number ∷ []) (closing ∷ [])
      (reads_then (expect s.Open) (λ u. cell names) (opening ∷ []) (a_location ∷ comma ∷ a_number ∷ []) reads_open (λ u. reads_cell)) (λ c. closed c)

  abbrev seen_slots : List Slot
  seen_slots = opening ∷ a_number ∷ comma ∷ a_location ∷ closing ∷ []

  reads_seen : Reads (seen names) seen_slots
  unfolding seen
  reads_seen = reads_then (expect s.Open >> thread) (λ t. input.location names >>= (λ x. expect s.Close >> pure {A = ℕ × ℕ} (t, x))) (opening ∷ a_number ∷ comma ∷ []) (a_location ∷ closing ∷ []) opened_thread
      (λ t. reads_then (input.location names) (λ x. expect s.Close >> pure {A = ℕ × ℕ} (t, x)) (a_location ∷ []) (closing ∷ []) reads_location (λ x. closed {A = ℕ × ℕ} (t, x)))

  abbrev read_slots : List Slot
  read_slots = opening ∷ a_number ∷ comma ∷ a_location ∷ comma ∷ a_number ∷ closing ∷ []

  reads_read : Reads (read names) read_slots
  unfolding read
  reads_read = reads_then (expect s.Open >> thread) (λ t. cell names >>= (λ c. expect s.Close >> pure {A = ℕ × (ℕ × ℕ)} (t, c))) (opening ∷ a_number ∷ comma ∷ []) (a_location ∷ comma ∷ a_number ∷ closing ∷ []) opened_thread
      (λ t. reads_then (cell names) (λ c. expect s.Close >> pure {A = ℕ × (ℕ × ℕ)} (t, c)) (a_location ∷ comma ∷ a_number ∷ []) (closing ∷ []) reads_cell (λ c. closed {A = ℕ × (ℕ × ℕ)} (t, c)))

  abbrev two_slots : List Slot
  two_slots = opening ∷ a_number ∷ comma ∷ a_location ∷ comma ∷ a_number ∷ comma ∷ a_location ∷ comma ∷ a_number ∷ closing ∷ []

  reads_two : Reads (two_reads names) two_slots
  unfolding two_reads
  reads_two = reads_then (expect s.Open >> thread) (λ t. cell names >>= (λ c. (expect s.Comma >> cell names) >>= (λ d. expect s.Close >> pure {A = ℕ × (ℕ × ℕ) × (ℕ × ℕ)} (t, c, d))))
      (opening ∷ a_number ∷ comma ∷ []) (a_location ∷ comma ∷ a_number ∷ comma ∷ a_location ∷ comma ∷ a_number ∷ closing ∷ []) opened_thread
      (λ t. reads_then (cell names) (λ c. (expect s.Comma >> cell names) >>= (λ d. expect s.Close >> pure {A = ℕ × (ℕ × ℕ) × (ℕ × ℕ)} (t, c, d))) (a_location ∷ comma ∷ a_number ∷ []) (comma ∷ a_location ∷ comma ∷ a_number ∷ closing ∷ []) reads_cell
      (λ c. reads_then (expect s.Comma >> cell names) (λ d. expect s.Close >> pure {A = ℕ × (ℕ × ℕ) × (ℕ × ℕ)} (t, c, d)) (comma ∷ a_location ∷ comma ∷ a_number ∷ []) (closing ∷ [])
      (reads_then (expect s.Comma) (λ u. cell names) (comma ∷ []) (a_location ∷ comma ∷ a_number ∷ []) reads_comma (λ u. reads_cell)) (λ d. closed {A = ℕ × (ℕ × ℕ) × (ℕ × ℕ)} (t, c, d))))

  -- ---- whole atoms

  pub bind_atom : {T A : Type 0} (stands : Cursor → T → Cursor → Type 0) (c : Cursor) (o : Outcome A) (f : A → Parser T) → Here c o → ((a : A) (j : Input) → o ≡ Ok (a, j) → OpenedAtom names stands c (f a j)) → OpenedAtom names stands c (and_then o f)
  bind_atom stands c (Ok p) f h rest = rest p.0 p.1 refl
  bind_atom stands c (Err e) f h rest = inl h

  -- behind the first item of an atom
  pub first_then : {T A : Type 0} (atom_items : T → List Item) (p : Parser A) (make : A → T) (first : Item) (ks : List Slot) (c : Cursor) (i : Input) → Reads p ks → Stands names first c i.cursor
      → ((w : Values ks) → (a : T) × (atom_items a ≡ first ∷ items_of ks w)) → OpenedAtom names (λ from a to. Stand names (atom_items a) from to) c (and_then (p i) (λ x. pure (make x)))
  first_then {T} atom_items p make first ks c i reads st atoms = by make (p i) (reads.opens i)
    where
      by : {A : Type 0} (make : A → T) (o : Outcome A) → OpensSlots ks i.cursor o → OpenedAtom names (λ from a to. Stand names (atom_items a) from to) c (and_then o (λ x. pure (make x)))
      by make (Ok q) o = tt
      by make (Err e) o = inr (past (first ∷ []) ks (λ from a to. Stand names (atom_items a) from to) c i.cursor e (i.cursor, st, refl) o
          (λ d to w rest. let a = atoms w in (a.0, subst (λ is. Stand names is d to) (sym a.1) rest)))

  choose : (c : Cursor) (i : Input) (b n : ℕ) (p q : Parser RawAtom) → (b ≡ n → OpenedAtom names (IsRaw names) c (p i)) → OpenedAtom names (IsRaw names) c (q i) → OpenedAtom names (IsRaw names) c ((if b == n then p else q) i)
  choose c i b n p q first second = by (b == n) refl
    where
      by : (v : Bool) → b == n ≡ v → OpenedAtom names (IsRaw names) c ((if v then p else q) i)
      by true e = first (eqb-true b n e)
      by false e = second

  module _ (c : Cursor) (t : Lexeme) (is : token c ≡ Ok t) where
    lettered_open : (b : ℕ) (i : Input) → Stands names (letter b) c i.cursor → OpenedAtom names (IsRaw names) c (lettered names t.place b i)
    lettered_open b i st =
        choose c i b 76 _ _ (λ e. first_then raw_items (last names) (λ c. raw.Last c.0 c.1) (letter b) last_slots c i reads_last st (λ w. (raw.Last w.0 w.1.0, ap (λ b. letter b ∷ items_of last_slots w) (sym e))))
        (choose c i b 80 _ _ (λ e. first_then raw_items (last names) (λ c. raw.Persist c.0 c.1) (letter b) last_slots c i reads_last st (λ w. (raw.Persist w.0 w.1.0, ap (λ b. letter b ∷ items_of last_slots w) (sym e))))
        (choose c i b 82 _ _ (λ e. first_then raw_items (read names) (λ a. raw.Read a.0 a.1.0 a.1.1) (letter b) read_slots c i reads_read st (λ w. (raw.Read w.0 w.1.0 w.1.1.0, ap (λ b. letter b ∷ items_of read_slots w) (sym e))))
        (choose c i b 65 _ _ (λ e. first_then raw_items (read names) (λ a. raw.Async a.0 a.1.0 a.1.1) (letter b) read_slots c i reads_read st (λ w. (raw.Async w.0 w.1.0 w.1.1.0, ap (λ b. letter b ∷ items_of read_slots w) (sym e))))
        (choose c i b 67 _ _ (λ e. first_then raw_items (two_reads names) (λ a. raw.Then a.0 a.1.0 a.1.1 a.2.0 a.2.1) (letter b) two_slots c i reads_two st (λ w. (raw.Then w.0 w.1.0 w.1.1.0 w.1.1.1.0 w.1.1.1.1.0, ap (λ b. letter b ∷ items_of two_slots w) (sym e))))
        (choose c i b 78 _ _ (λ e. first_then raw_items (seen names) (λ a. raw.Newest a.0 a.1) (letter b) seen_slots c i reads_seen st (λ w. (raw.Newest w.0 w.1.0, ap (λ b. letter b ∷ items_of seen_slots w) (sym e))))
        (choose c i b 79 _ _ (λ e. first_then raw_items (seen names) (λ a. raw.Ordered a.0 a.1) (letter b) seen_slots c i reads_seen st (λ w. (raw.Ordered w.0 w.1.0, ap (λ b. letter b ∷ items_of seen_slots w) (sym e))))
        (choose c i b 70 _ _ (λ e. first_then raw_items (seen names) (λ a. raw.Fenced a.0 a.1) (letter b) seen_slots c i reads_seen st (λ w. (raw.Fenced w.0 w.1.0, ap (λ b. letter b ∷ items_of seen_slots w) (sym e))))
        (inl (inl (t, Unexpected, is, refl))))))))))

    scalar_open : (i : Input) → i.cursor ≡ after c → OpenedAtom names (IsRaw names) c (scalar_atom names t i)
    scalar_open i behind =
        bind_atom (IsRaw names) c (allowed t.place (scalar_in (named names t)) i) (λ r. (node t.place >> equals) >>= (λ k. pure (raw.Scalar r k))) (allowed_here c t (scalar_in (named names t)) i is) (λ x j allows.
        allowed_then t.place (scalar_in (named names t)) i (x, j) allows (λ y found same.
        let st : Stands names (scalar x) c j.cursor = record {
          lexeme = t;
          read = is;
          matches = named_found names t (place.Scalar x) (scalar_in_found (named names t) x (found ∙ ap (λ (q : ℕ × Input). Ok q.0) same));
          behind = sym (ap (λ (q : ℕ × Input). q.1.cursor) same) ∙ behind;
        } in
        by x j st (node t.place j) refl (node_here c t is j)))
      where
        by : (x : ℕ) (j : Input) → Stands names (scalar x) c j.cursor → (o : Outcome (Unit {0})) → node t.place j ≡ o → Here c o
            → OpenedAtom names (IsRaw names) c (and_then (and_then o (λ u. equals)) (λ k. pure (raw.Scalar x k)))
        by x j st (Err e) noded h = inl h
        by x j st (Ok q) noded h =
            first_then raw_items equals (λ k. raw.Scalar x k) (scalar x) (equal ∷ a_number ∷ []) c q.1 reads_equals (subst (Stands names (scalar x) c) (sym (node_found t.place j q.1 q.0 noded).0) st) (λ w. (raw.Scalar x w.0, refl))

    raw_open_by : (k : TokenKind) → t.kind ≡ k → (i : Input) → i.cursor ≡ after c → OpenedAtom names (IsRaw names) c (raw_by names t k i)
    raw_open_by (kind.Letter b) e i behind =
        bind_atom (IsRaw names) c (node t.place i) (λ u. lettered names t.place b) (node_here c t is i) (λ u j noded.
        lettered_open b j (record { lexeme = t; read = is; matches = e; behind = (node_found t.place i j u noded).0 ∙ behind }))
    raw_open_by kind.Word e i behind = scalar_open i behind
    raw_open_by (kind.Number n) e i behind = scalar_open i behind
    raw_open_by (kind.Sign z) e i behind = scalar_open i behind
    raw_open_by kind.End e i behind = scalar_open i behind

  pub raw_open : (i : Input) → OpenedAtom names (IsRaw names) i.cursor (raw_atom names i)
  unfolding raw_atom
  raw_open i = bind_atom (IsRaw names) i.cursor (next i) (λ t. raw_by names t t.kind) (next_here i) (λ t j h. let f = next_found i j t h in raw_open_by i.cursor t f.0 t.kind refl j (ap (λ q. q.cursor) f.1))
