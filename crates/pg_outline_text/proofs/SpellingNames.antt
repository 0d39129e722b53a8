-- What the lines of locations and scalars are spelled with declares them: each name is new where it stands.
use Rattle.std.proofs.Common.{◌≡◌, ℕ, zero, suc, ◌+◌, ◌<◌, ◌≤◌, Bool, true, false, cond, nat_le, List, [], ◌∷◌, ◌++◌, length, map, take, drop, Option, Some, None, option_map, slice_get, refl, sym, ap, subst, ◌∙◌, arith, append_assoc, length-append}
use Rattle.std.specs.List.{All, flat_map}
use Rattle.std.specs.Str.{bytes_eq}
use Rattle.std.proofs.lemmas.Bool.{lt-leb}
use Rattle.std.proofs.lemmas.List.{append-nil}
use Rattle.std.proofs.lemmas.List.Elements.{All-head, All-tail}
use Rattle.pg_lex.specs.Lex.{Cursor}
use Rattle.pg_program.specs.declared.name_table.NameKind.{NameKind}
use Rattle.pg_program.specs.declared.name_table.NameKind.TheVariants as name
use Rattle.pg_program.specs.declared.name_table.NameRef.TheVariants as place
use Rattle.pg_program.specs.declared.name_table.ScalarKind.{ScalarKind}
use Rattle.pg_program.specs.declared.name_table.ScalarKind.TheVariants.{Register, Auxiliary}
use Rattle.pg_program.specs.Limits.{most_scalars}
use Rattle.pg_program.specs.NameTable.{NameTable, Location, IsNameTable, empty_table, location_names, scalar_names, find, found, place_in, is_full, with_name}
use Rattle.pg_assertion_text.specs.Words.{word}
use Rattle.pg_assertion_text.specs.Spelling.{Ends, IsName}
use Rattle.pg_assertion_text.proofs.SpellingTokens.{Spells, mapped, word_stands, equal_stands}
use Rattle.pg_assertion_text.proofs.SpellingAtoms.{number_spells}
use Rattle.pg_program_text.proofs.SpellingLines.{Written, empty, followed, changed, blank_in_front}
use Rattle.pg_outline.specs.Erasure.{first_locations}
use Rattle.pg_outline.proofs.EraseNames.{new_location}
use Rattle.pg_outline.proofs.LocationLines.{own_begins}
use Rattle.pg_outline_text.specs.declared.word.Keyword.TheVariants as w
use Rattle.pg_outline_text.specs.Limits.{known_version}
use Rattle.pg_outline_text.specs.Grammar.{IsNewName, IsDeclaration, a_location, a_register, an_auxiliary, AreDeclarations, no_more, one_more}
use Rattle.pg_outline_text.specs.Spelling.{location_line, location_lines, scalar_line}
use Rattle.pg_outline_text.proofs.SpellingLines.{before, keyword_stands, semicolon_line}
use Rattle.pg_outline_text.proofs.SpellingNumbers.{Small, OwnerSmall}

-- ---- one declaration

-- the name may be declared next
record MayStand (names : NameTable) (k : NameKind) (w : List ℕ) : Type 0 where
  is_name : IsName w
  new : find w names ≡ None
  room : is_full k names ≡ false

new_spells : (names : NameTable) (k : NameKind) (w : List ℕ) → MayStand names k w → Spells Ends (λ from to. IsNewName names k from w to) w
new_spells names k w may =
    mapped (word_stands names (word w) w (λ place. (refl, refl)) may.is_name.begins may.is_name.word may.is_name.short)
    (λ from to st. record {
      lexeme = st.lexeme;
      read = st.read;
      is_word = st.matches.0;
      text_is = st.matches.1;
      free = may.is_name.free;
      new = may.new;
      room = may.room;
      behind = st.behind;
    })

location_written : (names : NameTable) (x : List ℕ) (v : ℕ) → MayStand names (name.Location v) x → Small v
    → Written (λ from to. IsDeclaration names from (with_name x (name.Location v) names) to) (location_line x v)
unfolding location_line
location_written names x v may small =
    changed
    (before (keyword_stands names w.Location)
    (blank_in_front (before (new_spells names (name.Location v) x may)
    (blank_in_front (before (equal_stands names)
    (blank_in_front (before (number_spells names v small) (semicolon_line names) (λ more. refl)))
    (λ more. tt))) (λ more. refl))) (λ more. refl))
    (λ from to way.
    let a = way.2 in
    let b = a.2 in
    let c = b.2 in
    a_location x v from way.0 a.0 to way.1 a.1 (b.0, b.1, (c.0, c.1, (to, c.2, refl))))

register_written : (names : NameTable) (r : List ℕ) (t : ℕ) → MayStand names (name.Register t) r → Small t
    → Written (λ from to. IsDeclaration names from (with_name r (name.Register t) names) to) (scalar_line (r, Register t))
register_written names r t may small =
    changed
    (before (keyword_stands names w.Register)
    (blank_in_front (before (new_spells names (name.Register t) r may)
    (blank_in_front (before (keyword_stands names w.Of)
    (blank_in_front (before (number_spells names t small) (semicolon_line names) (λ more. refl)))
    (λ more. refl))) (λ more. refl))) (λ more. refl))
    (λ from to way.
    let a = way.2 in
    let b = a.2 in
    let c = b.2 in
    a_register r t from way.0 a.0 to way.1 a.1 (b.0, b.1, (c.0, c.1, (to, c.2, refl))))

auxiliary_written : (names : NameTable) (a : List ℕ) → MayStand names name.Auxiliary a
    → Written (λ from to. IsDeclaration names from (with_name a name.Auxiliary names) to) (scalar_line (a, Auxiliary))
auxiliary_written names a may =
    changed
    (before (keyword_stands names w.Auxiliary)
    (blank_in_front (before (new_spells names name.Auxiliary a may) (semicolon_line names) (λ more. refl))) (λ more. refl))
    (λ from to way. an_auxiliary a from way.0 way.2.0 to way.1 way.2.1 way.2.2)

-- ---- names that are told apart

get_at : {A : Type 0} (es fs : List A) (e : A) → slice_get (es ++ e ∷ fs) (length es) ≡ Some e
get_at [] fs e = refl
get_at (d ∷ es) fs e = get_at es fs e

-- a name whose place is behind some entries is none of theirs
none_before : {X : Type 0} (called : X → List ℕ) (w : List ℕ) (xs ys : List X) → place_in w (map called (xs ++ ys)) ≡ Some (length xs) → place_in w (map called xs) ≡ None
none_before called w [] ys h = refl
none_before called w (x ∷ xs) ys h = by (bytes_eq w (called x)) (place_in w (map called (xs ++ ys))) (none_before called w xs ys) h
  where
    by : (b : Bool) (o : Option ℕ) → (o ≡ Some (length xs) → place_in w (map called xs) ≡ None) → cond b (Some 0) (option_map (λ i. i + 1) o) ≡ Some (suc (length xs))
        → cond b (Some 0) (option_map (λ i. i + 1) (place_in w (map called xs))) ≡ None
    by true o rest h = cc
    by false None rest h = cc
    by false (Some i) rest h =
        let next : i + 1 ≡ suc (length xs) = cc in
        let same : i ≡ length xs = omega (arith, next) in
        ap (option_map (λ i. i + 1)) (rest (ap Some same))

scalar_of : (l r : Option ℕ) (x : ℕ) → found l r ≡ Some (place.Scalar x) → (l ≡ None) × (r ≡ Some x)
scalar_of (Some y) r x h = cc
scalar_of None None x h = cc
scalar_of None (Some q) x h = (refl, cc)

-- there is room for an entry behind some of the entries
room_for : {A : Type 0} (n : ℕ) (all es fs : List A) (e : A) → all ≡ es ++ e ∷ fs → length all ≤ n → nat_le n (length es) ≡ false
room_for n all es fs e split few =
    let long = ap length split in
    let parts = length-append es (e ∷ fs) in
    lt-leb n (length es) (omega arith)

-- ---- all declarations

-- an entry, and what stands behind it
first_left : {X : Type 0} (xs : List X) (i : ℕ) (x : X) (rest : List X) → drop i xs ≡ x ∷ rest → (i < length xs) × (slice_get xs i ≡ Some x) × (drop (i + 1) xs ≡ rest)
first_left [] zero x rest h = cc
first_left [] (suc i) x rest h = cc
first_left (y ∷ xs) zero x rest h = let first : y ≡ x = cc in let others : xs ≡ rest = cc in (omega arith, ap Some first, others)
first_left {X} (y ∷ xs) (suc i) x rest h =
    let more = first_left xs i x rest h in
    let low = more.0 in
    let next : suc i + 1 ≡ suc (i + 1) = omega arith in
    (omega (arith, low), more.1, ap (λ (k : ℕ). drop k (y ∷ xs)) next ∙ more.2)

none_left : {X : Type 0} (xs : List X) (i : ℕ) → drop i xs ≡ [] → take i xs ≡ xs
none_left [] zero h = refl
none_left [] (suc i) h = refl
none_left (x ∷ xs) zero h = cc
none_left {X} (x ∷ xs) (suc i) h = ap (λ (l : List X). x ∷ l) (none_left xs i h)

module _ (t : NameTable) (table : IsNameTable t) (one : t.version ≡ known_version) where
  -- a table of all its locations and some of its scalars
  abbrev some_names : List (List ℕ × ScalarKind) → NameTable
  some_names ss = record t { scalars = ss }

  -- each location begins a line behind those before it
  location_may : (x : ℕ) (l : Location) → x < length t.locations → slice_get t.locations x ≡ Some l → IsName l.name
      → MayStand (first_locations x t) (name.Location l.init) l.name × (with_name l.name (name.Location l.init) (first_locations x t) ≡ first_locations (x + 1) t)
  location_may x l below at is =
      let again = own_begins t table x below one l at in (
        record {
          is_name = is;
          new = new_location t table x l.name (first_locations x t) (ap (option_map (λ (l : Location). l.name)) at) refl;
          room = again.room;
        },
        again.same l at,
      )

  locations_written : (ls : List Location) (x : ℕ) → drop x t.locations ≡ ls → All (λ l. IsName l.name) ls → All (λ l. Small l.init) ls
      → Written (λ from to. AreDeclarations (first_locations x t) from (some_names []) to) (location_lines ls)
  locations_written [] x left are small =
      subst (λ (ls : List Location). Written (λ from to. AreDeclarations (first_locations x t) from (record t { locations = ls; scalars = [] }) to) []) (none_left t.locations x left)
      (empty (λ from. no_more (first_locations x t) from))
  locations_written (l ∷ ls) x left are small =
      let names = first_locations x t in
      let more = first_locations (x + 1) t in
      let here = first_left t.locations x l ls left in
      let may = location_may x l here.0 here.1 (All-head (λ (l : Location). IsName l.name) l ls are) in
      let first = location_written names l.name l.init may.0 (All-head (λ (l : Location). Small l.init) l ls small) in
      let rest = locations_written ls (x + 1) here.2 (All-tail (λ (l : Location). IsName l.name) l ls are) (All-tail (λ (l : Location). Small l.init) l ls small) in
      changed (followed first rest) (λ from to way. one_more names more (some_names []) from way.0 to (subst (λ (n : NameTable). IsDeclaration names from n way.0) may.1 way.1) way.2)

  record Apart (done : List (List ℕ × ScalarKind)) (x : List ℕ) : Type 0 where
    new : find x (some_names done) ≡ None
    room : nat_le most_scalars (length done) ≡ false

  scalar_apart : (done es : List (List ℕ × ScalarKind)) (x : List ℕ) (k : ScalarKind) → t.scalars ≡ done ++ (x, k) ∷ es → Apart done x
  scalar_apart done es x k split =
      let own = table.own_scalar (length done) k x (ap (λ ss. slice_get ss (length done)) split ∙ get_at done es (x, k)) in
      let at = scalar_of (place_in x (location_names t)) (place_in x (scalar_names t)) (length done) own in
      let called = λ (e : List ℕ × ScalarKind). e.0 in
      let none = none_before called x done ((x, k) ∷ es) (ap (λ (ss : List (List ℕ × ScalarKind)). place_in x (map called ss)) (sym split) ∙ at.1) in
      record {
        new = ap (λ o. found o (place_in x (map called done))) at.0 ∙ ap (found None) none;
        room = room_for most_scalars t.scalars done es (x, k) split table.few_scalars;
      }

  scalars_written : (es done : List (List ℕ × ScalarKind)) → t.scalars ≡ done ++ es → All (λ e. IsName e.0) es → All (λ e. OwnerSmall e.1) es
      → Written (λ from to. AreDeclarations (some_names done) from t to) (flat_map scalar_line es)
  scalars_written [] done split are small =
      subst (λ ss. Written (λ from to. AreDeclarations (some_names done) from (some_names ss) to) []) (sym (split ∙ append-nil done))
      (empty (λ from. no_more (some_names done) from))
  scalars_written ((x, Register o) ∷ es) done split are small =
      let names = some_names done in
      let more = some_names (done ++ (x, Register o) ∷ []) in
      let apart = scalar_apart done es x (Register o) split in
      let one =
      register_written names x o (record { is_name = All-head (λ (e : List ℕ × ScalarKind). IsName e.0) (x, Register o) es are; new = apart.new; room = apart.room })
      (All-head (λ (e : List ℕ × ScalarKind). OwnerSmall e.1) (x, Register o) es small)
      in
      let rest =
      scalars_written es (done ++ (x, Register o) ∷ []) (split ∙ sym (append_assoc done ((x, Register o) ∷ []) es)) (All-tail (λ (e : List ℕ × ScalarKind). IsName e.0) (x, Register o) es are)
      (All-tail (λ (e : List ℕ × ScalarKind). OwnerSmall e.1) (x, Register o) es small)
      in
      changed (followed one rest) (λ from to way. one_more names more t from way.0 to way.1 way.2)
  scalars_written ((x, Auxiliary) ∷ es) done split are small =
      let names = some_names done in
      let more = some_names (done ++ (x, Auxiliary) ∷ []) in
      let apart = scalar_apart done es x Auxiliary split in
      let one = auxiliary_written names x (record { is_name = All-head (λ (e : List ℕ × ScalarKind). IsName e.0) (x, Auxiliary) es are; new = apart.new; room = apart.room }) in
      let rest =
      scalars_written es (done ++ (x, Auxiliary) ∷ []) (split ∙ sym (append_assoc done ((x, Auxiliary) ∷ []) es)) (All-tail (λ (e : List ℕ × ScalarKind). IsName e.0) (x, Auxiliary) es are)
      (All-tail (λ (e : List ℕ × ScalarKind). OwnerSmall e.1) (x, Auxiliary) es small)
      in
      changed (followed one rest) (λ from to way. one_more names more t from way.0 to way.1 way.2)

declared_further : (a b c : NameTable) (from mid to : Cursor) → AreDeclarations a from b mid → AreDeclarations b mid c to → AreDeclarations a from c to
declared_further _ _ c _ _ to (no_more names from) rest = rest
declared_further _ _ c _ _ to (one_more names more all from mid end one others) rest =
    one_more names more c from mid to one (declared_further more all c mid end to others rest)

-- the lines of all locations, and then of all scalars
pub names_written : (t : NameTable) → IsNameTable t → t.version ≡ known_version → All (λ l. IsName l.name) t.locations → All (λ e. IsName e.0) t.scalars → All (λ l. Small l.init) t.locations
    → All (λ e. OwnerSmall e.1) t.scalars
    → Written (λ from to. AreDeclarations (empty_table t.domain known_version) from t to) (location_lines t.locations ++ flat_map scalar_line t.scalars)
names_written t table one are also small fit =
    subst (λ (v : ℕ). Written (λ from to. AreDeclarations (empty_table t.domain v) from t to) (location_lines t.locations ++ flat_map scalar_line t.scalars)) one
    (changed (followed (locations_written t table one t.locations 0 refl are small) (scalars_written t table one t.scalars [] refl also fit))
    (λ from to way. declared_further (empty_table t.domain t.version) (record t { scalars = [] }) t from way.0 to way.1 way.2))
