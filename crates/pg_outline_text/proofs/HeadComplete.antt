-- The declarations, the precondition and the crash formula that are in the grammar are read.
use Rattle.std.proofs.Common.{◌≡◌, ℕ, zero, suc, ◌+◌, ◌-◌, ◌<◌, ◌≤◌, nat_le, false, Ok, Err, Some, None, List, [], ◌∷◌, length, refl, ap, sym, ◌∙◌, subst, arith}
use Rattle.std.specs.Prelude.{if◌then◌else◌}
use Rattle.std.proofs.lemmas.List.{length_push}
use Rattle.std.proofs.lemmas.Bool.{leb-false}
use Rattle.pg_lex.specs.declared.token.Sign.TheVariants as s
use Rattle.pg_lex.specs.declared.token.TokenKind.TheVariants as kind
use Rattle.pg_lex.specs.declared.fault.TextKind.TheVariants.{Unexpected}
use Rattle.pg_lex.specs.Lex.{Cursor, Lexeme, token}
use Rattle.pg_program.specs.Limits.{most_locations, most_locations_1 as MAX_LOCATIONS, most_scalars as MAX_SCALARS}
use Rattle.pg_program.specs.declared.name_table.NameKind.{NameKind}
use Rattle.pg_program.specs.declared.name_table.NameKind.TheVariants as name
use Rattle.pg_program.specs.declared.name_table.ScalarKind.TheVariants as scalar
use Rattle.pg_program.specs.NameTable.{NameTable, Location, lines, line_count, find, is_full, with_name, with_location}
use Rattle.pg_assertion.specs.Formula.{Plain}
use Rattle.pg_assertion_text.specs.Words.{Stands, Stand, sign, number}
use Rattle.pg_assertion_text.specs.Input as input
use Rattle.pg_assertion_text.specs.Input.{Input, Outcome, Parser, and_then, pure, allowed, peek, next, expect}
use Rattle.pg_assertion_text.specs.Laws.{FindsAtoms, ReadsAtoms, BeginsAtoms}
use Rattle.pg_assertion_text.specs.Parsing.{formula_at}
use Rattle.pg_assertion_text.proofs.Steps.{bind_value, next_reads, peek_reads, stands_token, expect_reads, number_reads}
use Rattle.pg_assertion_text.proofs.Whole.{formula_at_reads}
use Rattle.pg_program_text.specs.Stmt.{behind}
use Rattle.pg_outline_text.specs.declared.word.Keyword.{Keyword}
use Rattle.pg_outline_text.specs.declared.word.Keyword.TheVariants as w
use Rattle.pg_outline_text.specs.Limits.{known_version}
use Rattle.pg_outline_text.specs.Word.{is_keyword, expect_word}
use Rattle.pg_outline_text.specs.Declaration.{unless_found, new_name_by, new_name_in, new_name, last_number, location, register, auxiliary, declared_by, declaration, and_more, declarations_on}
use Rattle.pg_outline_text.specs.Reading.{given, given_by, domain, version}
use Rattle.pg_outline_text.specs.Grammar.{keyword, IsNewName, IsDeclaration, a_location, a_register, an_auxiliary, AreDeclarations, no_more, one_more, IsGiven, left_out, written}
use Rattle.pg_outline_text.proofs.Keywords.{to_, keyword_told, keyword_is, expect_word_reads}
use Rattle.pg_outline_text.proofs.HeadSound.{of_kind}

-- ---- numbers

pub version_reads : (names : NameTable) (i : Input) (n : ℕ) (to : Cursor) → Stand names (keyword w.Pierogi ∷ number n ∷ []) i.cursor to → version i ≡ Ok (n, to_ i to)
unfolding version
version_reads names i n to st =
    ap (λ o. and_then o (λ u. input.number)) (expect_word_reads names w.Pierogi i st.0 st.1)
    ∙ number_reads names n (to_ i st.0) st.2.0 st.2.1
    ∙ ap (λ c. Ok (n, to_ i c)) (sym st.2.2)

last_number_reads : (names : NameTable) (i : Input) (n : ℕ) (to : Cursor) → Stand names (number n ∷ sign s.Semicolon ∷ []) i.cursor to → last_number i ≡ Ok (n, to_ i to)
unfolding last_number
last_number_reads names i n to st =
    bind_value (input.number i) _ n (to_ i st.0) (number_reads names n i st.0 st.1)
    ∙ ap (λ o. and_then o (λ u. pure n)) (expect_reads names s.Semicolon (to_ i st.0) st.2.0 st.2.1)
    ∙ ap (λ c. Ok (n, to_ i c)) (sym st.2.2)

pub domain_reads : (names : NameTable) (i : Input) (d : ℕ) (to : Cursor) → Stand names (keyword w.Values ∷ number d ∷ sign s.Semicolon ∷ []) i.cursor to → domain i ≡ Ok (d, to_ i to)
unfolding domain
domain_reads names i d to st =
    ap (λ o. and_then o (λ u. last_number)) (expect_word_reads names w.Values i st.0 st.1)
    ∙ last_number_reads names (to_ i st.0) d to st.2

-- ---- new names

new_name_reads : (names : NameTable) (k : NameKind) (i : Input) (x : List ℕ) (to : Cursor) → IsNewName names k i.cursor x to → new_name names k i ≡ Ok (x, to_ i to)
unfolding new_name new_name_in
new_name_reads names k i x to n =
    let t = n.lexeme in
    bind_value (next i) (λ t. allowed t.place (new_name_by names k t.kind t.text)) t (to_ i to) (next_reads i t n.read ∙ ap (λ c. Ok (t, to_ i c)) (sym n.behind))
    ∙ ap (λ z. allowed t.place (new_name_by names k z t.text) (to_ i to)) n.is_word
    ∙ ap (λ y. allowed t.place (new_name_by names k kind.Word y) (to_ i to)) n.text_is
    ∙ ap (λ b. allowed t.place (if b then Err Unexpected else unless_found (find x names) (is_full k names) x) (to_ i to)) n.free
    ∙ ap (λ o. allowed t.place (unless_found o (is_full k names) x) (to_ i to)) n.new
    ∙ ap (λ b. allowed t.place (unless_found None b x) (to_ i to)) n.room

-- ---- declarations

location_reads : (names : NameTable) (i : Input) (x : List ℕ) (v : ℕ) (mid to : Cursor) → IsNewName names (name.Location v) i.cursor x mid → Stand names (sign s.Equal ∷ number v ∷ sign s.Semicolon ∷ []) mid to
    → location names i ≡ Ok (with_name x (name.Location v) names, to_ i to)
unfolding location
location_reads names i x v mid to new st =
    bind_value (new_name names (name.Location 0) i) _ x (to_ i mid) (new_name_reads names (name.Location 0) i x mid (of_kind names (name.Location v) (name.Location 0) i.cursor x mid refl new))
    ∙ bind_value (and_then (expect s.Equal (to_ i mid)) (λ u. last_number)) (λ v. pure (with_name x (name.Location v) names)) v (to_ i to)
    (ap (λ o. and_then o (λ u. last_number)) (expect_reads names s.Equal (to_ i mid) st.0 st.1) ∙ last_number_reads names (to_ i st.0) v to st.2)

register_reads : (names : NameTable) (i : Input) (x : List ℕ) (v : ℕ) (mid to : Cursor) → IsNewName names (name.Register v) i.cursor x mid → Stand names (keyword w.Of ∷ number v ∷ sign s.Semicolon ∷ []) mid to
    → register names i ≡ Ok (with_name x (name.Register v) names, to_ i to)
unfolding register
register_reads names i x v mid to new st =
    bind_value (new_name names (name.Register 0) i) _ x (to_ i mid) (new_name_reads names (name.Register 0) i x mid (of_kind names (name.Register v) (name.Register 0) i.cursor x mid refl new))
    ∙ bind_value (and_then (expect_word w.Of (to_ i mid)) (λ u. last_number)) (λ v. pure (with_name x (name.Register v) names)) v (to_ i to)
    (ap (λ o. and_then o (λ u. last_number)) (expect_word_reads names w.Of (to_ i mid) st.0 st.1) ∙ last_number_reads names (to_ i st.0) v to st.2)

auxiliary_reads : (names : NameTable) (i : Input) (x : List ℕ) (mid to : Cursor) → IsNewName names name.Auxiliary i.cursor x mid → Stands names (sign s.Semicolon) mid to
    → auxiliary names i ≡ Ok (with_name x name.Auxiliary names, to_ i to)
unfolding auxiliary
auxiliary_reads names i x mid to new st =
    bind_value (new_name names name.Auxiliary i) _ x (to_ i mid) (new_name_reads names name.Auxiliary i x mid new)
    ∙ ap (λ o. and_then o (λ u. pure (with_name x name.Auxiliary names))) (expect_reads names s.Semicolon (to_ i mid) to st)

declaration_reads : (names more : NameTable) (i : Input) (to : Cursor) → IsDeclaration names i.cursor more to → declaration names i ≡ Ok (Some more, to_ i to)
unfolding declaration
declaration_reads names _ i _ (a_location x v from mid end to st new items) =
    let t = st.lexeme in
    bind_value (peek i) (λ t. declared_by (is_keyword w.Location t) (is_keyword w.Register t) (is_keyword w.Auxiliary t) names) t i (peek_reads i t st.read)
    ∙ ap (λ b. declared_by b (is_keyword w.Register t) (is_keyword w.Auxiliary t) names i) (keyword_is w.Location t st.matches)
    ∙ ap (λ o. and_then (and_then o (λ u. location names)) (λ more. pure (Some more))) (stands_token names (keyword w.Location) i mid st)
    ∙ ap (λ o. and_then o (λ more. pure (Some more))) (location_reads names (to_ i mid) x v end to new items)
declaration_reads names _ i _ (a_register x v from mid end to st new items) =
    let t = st.lexeme in
    bind_value (peek i) (λ t. declared_by (is_keyword w.Location t) (is_keyword w.Register t) (is_keyword w.Auxiliary t) names) t i (peek_reads i t st.read)
    ∙ ap (λ b. declared_by b (is_keyword w.Register t) (is_keyword w.Auxiliary t) names i) (keyword_told w.Location t _ false st.matches refl)
    ∙ ap (λ b. declared_by false b (is_keyword w.Auxiliary t) names i) (keyword_is w.Register t st.matches)
    ∙ ap (λ o. and_then (and_then o (λ u. register names)) (λ more. pure (Some more))) (stands_token names (keyword w.Register) i mid st)
    ∙ ap (λ o. and_then o (λ more. pure (Some more))) (register_reads names (to_ i mid) x v end to new items)
declaration_reads names _ i _ (an_auxiliary x from mid end to st new semi) =
    let t = st.lexeme in
    bind_value (peek i) (λ t. declared_by (is_keyword w.Location t) (is_keyword w.Register t) (is_keyword w.Auxiliary t) names) t i (peek_reads i t st.read)
    ∙ ap (λ b. declared_by b (is_keyword w.Register t) (is_keyword w.Auxiliary t) names i) (keyword_told w.Location t _ false st.matches refl)
    ∙ ap (λ b. declared_by false b (is_keyword w.Auxiliary t) names i) (keyword_told w.Register t _ false st.matches refl)
    ∙ ap (λ b. declared_by false false b names i) (keyword_is w.Auxiliary t st.matches)
    ∙ ap (λ o. and_then (and_then o (λ u. auxiliary names)) (λ more. pure (Some more))) (stands_token names (keyword w.Auxiliary) i mid st)
    ∙ ap (λ o. and_then o (λ more. pure (Some more))) (auxiliary_reads names (to_ i mid) x end to new semi)

-- the next token begins no declaration
pub record DeclaresNone (c : Cursor) : Type 0 where
  pub lexeme : Lexeme
  pub read : token c ≡ Ok lexeme
  pub no_location : is_keyword w.Location lexeme ≡ false
  pub no_register : is_keyword w.Register lexeme ≡ false
  pub no_auxiliary : is_keyword w.Auxiliary lexeme ≡ false

none_reads : (names : NameTable) (i : Input) → DeclaresNone i.cursor → declaration names i ≡ Ok (None, i)
unfolding declaration
none_reads names i none =
    let t = none.lexeme in
    bind_value (peek i) (λ t. declared_by (is_keyword w.Location t) (is_keyword w.Register t) (is_keyword w.Auxiliary t) names) t i (peek_reads i t none.read)
    ∙ ap (λ b. declared_by b (is_keyword w.Register t) (is_keyword w.Auxiliary t) names i) none.no_location
    ∙ ap (λ b. declared_by false b (is_keyword w.Auxiliary t) names i) none.no_register
    ∙ ap (λ b. declared_by false false b names i) none.no_auxiliary

-- how many names there are, and how many there may be
abbrev pub size_of : NameTable → ℕ
size_of names = length names.locations + length names.scalars

pub record IsFew (names : NameTable) : Type 0 where
  pub version : names.version ≡ known_version
  pub locations : length names.locations ≤ MAX_LOCATIONS
  pub scalars : length names.scalars ≤ MAX_SCALARS

-- a declaration makes one more name
pub record OneMore (names more : NameTable) : Type 0 where
  pub few : IsFew more
  pub size : size_of more ≡ size_of names + 1

location_more : (names : NameTable) (l : Location) → IsFew names → nat_le (most_locations names.version) (length names.locations) ≡ false → OneMore names (with_location l names)
location_more names l few room =
    let left = leb-false MAX_LOCATIONS (length names.locations) (subst (λ (v : ℕ). nat_le (most_locations v) (length names.locations) ≡ false) few.version room) in
    let many = length_push names.locations l in
    record { few = record { version = few.version; locations = omega arith; scalars = few.scalars }; size = omega arith }

one_named : (names : NameTable) (k : NameKind) (x : List ℕ) → IsFew names → is_full k names ≡ false → OneMore names (with_name x k names)
one_named names (name.Location v) x few room = location_more names (record { name = x; init = v; line = line_count (lines names) }) few room
one_named names (name.LocationWith v) x few room = location_more names (record { name = x; init = v; line = line_count (lines names) - 1 }) few room
one_named names (name.Register t) x few room =
    let left = leb-false MAX_SCALARS (length names.scalars) room in
    let many = length_push names.scalars (x, scalar.Register t) in
    record { few = record { version = few.version; locations = few.locations; scalars = omega arith }; size = omega arith }
one_named names name.Auxiliary x few room =
    let left = leb-false MAX_SCALARS (length names.scalars) room in
    let many = length_push names.scalars (x, scalar.Auxiliary) in
    record { few = record { version = few.version; locations = few.locations; scalars = omega arith }; size = omega arith }

one_declared : (names more : NameTable) (from to : Cursor) → IsFew names → IsDeclaration names from more to → OneMore names more
one_declared names _ _ _ few (a_location x v from mid end to st new items) = one_named names (name.Location v) x few new.room
one_declared names _ _ _ few (a_register x v from mid end to st new items) = one_named names (name.Register v) x few new.room
one_declared names _ _ _ few (an_auxiliary x from mid end to st new semi) = one_named names name.Auxiliary x few new.room

declarations_end : (names : NameTable) (n : ℕ) (i : Input) → DeclaresNone i.cursor → 0 < n → declarations_on n names i ≡ Ok (names, i)
unfolding declarations_on
declarations_end names zero i none some = absurd (omega arith)
declarations_end names (suc n) i none some = ap (λ o. and_then o (and_more (declarations_on n) names)) (none_reads names i none)

declarations_go : (names more : NameTable) (n : ℕ) (i : Input) (to : Cursor) → IsDeclaration names i.cursor more to → declarations_on (suc n) names i ≡ declarations_on n more (to_ i to)
unfolding declarations_on
declarations_go names more n i to is = ap (λ o. and_then o (and_more (declarations_on n) names)) (declaration_reads names more i to is)

pub declarations_read : (names all : NameTable) (i : Input) (from to : Cursor) → from ≡ i.cursor → AreDeclarations names from all to → DeclaresNone to → IsFew names
    → (n : ℕ) → MAX_LOCATIONS + MAX_SCALARS < n + size_of names → declarations_on n names i ≡ Ok (all, to_ i to)
declarations_read names _ i from _ at (no_more _ _) none few n turns =
    let l = few.locations in let s = few.scalars in
    declarations_end names n i (subst DeclaresNone at none) (omega arith)
    ∙ ap (λ c. Ok (names, to_ i c)) (sym at)
declarations_read names all i from to at (one_more _ more _ _ mid _ is rest) none few zero turns = let l = few.locations in let s = few.scalars in absurd (omega arith)
declarations_read names all i from to at (one_more _ more _ _ mid _ is rest) none few (suc n) turns =
    let one = one_declared names more from mid few is in
    let size = one.size in
    declarations_go names more n i mid (subst (λ c. IsDeclaration names c more mid) at is)
    ∙ declarations_read more all (to_ i mid) mid to refl rest none one.few n (omega arith)

-- ---- the precondition and the crash formula

-- the next token is not this word
pub record IsNot (k : Keyword) (c : Cursor) : Type 0 where
  pub lexeme : Lexeme
  pub read : token c ≡ Ok lexeme
  pub differs : is_keyword k lexeme ≡ false

module _ {T : Type 0} (read : NameTable → Parser T) (stands : NameTable → Cursor → T → Cursor → Type 0)
    (finds : FindsAtoms read stands) (again : ReadsAtoms read stands) (begins : BeginsAtoms stands) where
  pub given_reads : (names : NameTable) (k : Keyword) (i : Input) (f : Plain T) (to : Cursor) → IsGiven stands names k i.cursor f to → IsNot k to
      → and_then (peek i) (λ t. given_by (is_keyword k t) (given read names)) ≡ Ok (f, to_ i to)
  given_reads names k i _ _ (left_out from) other =
      let t = other.lexeme in
      bind_value (peek i) (λ t. given_by (is_keyword k t) (given read names)) t i (peek_reads i t other.read)
      ∙ ap (λ b. given_by b (given read names) i) other.differs
  given_reads names k i _ _ (written f from mid end to st is semi) other =
      let t = st.lexeme in
      bind_value (peek i) (λ t. given_by (is_keyword k t) (given read names)) t i (peek_reads i t st.read)
      ∙ ap (λ b. given_by b (given read names) i) (keyword_is k t st.matches)
      ∙ ap (λ o. and_then o (λ u. given read names)) (stands_token names (keyword k) i mid st)
      ∙ bind_value (behind (to_ i mid) (formula_at read names mid)) _ f (to_ i end) (ap (behind (to_ i mid)) (formula_at_reads read stands finds again begins names mid end f is))
      ∙ ap (λ o. and_then o (λ u. pure f)) (expect_reads names s.Semicolon (to_ i end) to semi)
