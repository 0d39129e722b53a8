-- The declarations, the precondition and the crash formula that are read are in the grammar.
use Rattle.std.proofs.Common.{◌≡◌, ℕ, zero, suc, Bool, true, false, Ok, Err, Some, None, List, [], ◌∷◌, refl, ap, sym, ◌∙◌, subst, arith}
use Rattle.std.specs.Prelude.{Option, if◌then◌else◌, Result}
use Rattle.std.specs.Result.{result_unwrap_or}
use Rattle.pg_lex.specs.declared.token.Sign.TheVariants as s
use Rattle.pg_lex.specs.declared.token.TokenKind.{TokenKind}
use Rattle.pg_lex.specs.declared.token.TokenKind.TheVariants as kind
use Rattle.pg_lex.specs.declared.fault.TextFault.{TextFault}
use Rattle.pg_lex.specs.declared.fault.TextKind.{TextKind}
use Rattle.pg_lex.specs.declared.fault.TextKind.TheVariants.{Unexpected}
use Rattle.pg_lex.specs.Lex.{Cursor, Lexeme, token}
use Rattle.pg_program.specs.declared.name_table.NameKind.{NameKind}
use Rattle.pg_program.specs.declared.name_table.NameKind.TheVariants as name
use Rattle.pg_program.specs.declared.name_table.NameRef.{NameRef}
use Rattle.pg_program.specs.NameTable.{NameTable, find, is_full, with_name}
use Rattle.pg_assertion.specs.Formula.{Plain, top}
use Rattle.pg_assertion_text.specs.Words.{Stands, sign, number, is_reserved}
use Rattle.pg_assertion_text.specs.Input as input
use Rattle.pg_assertion_text.specs.Input.{Input, Outcome, Parser, and_then, pure, allowed, peek, next, expect}
use Rattle.pg_assertion_text.specs.Laws.{FindsAtoms, ReadsAtoms, BeginsAtoms}
use Rattle.pg_assertion_text.specs.Parsing.{IsFormula, formula_at}
use Rattle.pg_assertion_text.proofs.Steps.{ok_same, bind_then, allowed_then, next_found, peek_found, Takes, takes_then, expect_found, number_found}
use Rattle.pg_assertion_text.proofs.Whole.{formula_at_found}
use Rattle.pg_program_text.specs.Stmt.{behind}
use Rattle.pg_outline_text.specs.declared.word.Keyword.{Keyword}
use Rattle.pg_outline_text.specs.declared.word.Keyword.TheVariants as w
use Rattle.pg_outline_text.specs.Word.{is_keyword, expect_word}
use Rattle.pg_outline_text.specs.Declaration.{unless_found, new_name_by, new_name_in, new_name, last_number, location, register, auxiliary, declared_by, declaration, and_more, declarations_on}
use Rattle.pg_outline_text.specs.Reading.{given, given_by, domain, version}
use Rattle.pg_outline_text.specs.Grammar as g
use Rattle.pg_outline_text.specs.Grammar.{keyword, IsNewName, IsDeclaration, AreDeclarations, IsGiven}
use Rattle.pg_outline_text.proofs.Keywords.{keyword_found, expect_word_found}

-- a phrase that takes none of the threads that may come
pub record Passed {A : Type 0} (Is : Cursor → A → Cursor → Type 0) (i : Input) (a : A) (j : Input) : Type 0 where
  pub is : Is i.cursor a j.cursor
  pub room : i.room ≡ j.room

-- ---- numbers

pub version_found : (names : NameTable) (i j : Input) (n : ℕ) → version i ≡ Ok (n, j) → Takes names (keyword w.Pierogi ∷ number n ∷ []) 0 i j
unfolding version
version_found names i j n h =
    bind_then (expect_word w.Pierogi i) (λ u. input.number) (n, j) h (λ u m first rest.
    takes_then (expect_word_found names w.Pierogi i m u first) (number_found names m j n rest))

last_number_found : (names : NameTable) (i j : Input) (n : ℕ) → last_number i ≡ Ok (n, j) → Takes names (number n ∷ sign s.Semicolon ∷ []) 0 i j
unfolding last_number
last_number_found names i j n h =
    bind_then (input.number i) _ (n, j) h (λ m l one rest.
    bind_then (expect s.Semicolon l) _ (n, j) rest (λ u k two end.
    subst (λ (q : ℕ × Input). Takes names (number q.0 ∷ sign s.Semicolon ∷ []) 0 i q.1) (ok_same (m, k) (n, j) end)
    (takes_then (number_found names i l m one) (expect_found names s.Semicolon l k u two))))

pub domain_found : (names : NameTable) (i j : Input) (d : ℕ) → domain i ≡ Ok (d, j) → Takes names (keyword w.Values ∷ number d ∷ sign s.Semicolon ∷ []) 0 i j
unfolding domain
domain_found names i j d h =
    bind_then (expect_word w.Values i) (λ u. last_number) (d, j) h (λ u m first rest.
    takes_then (expect_word_found names w.Values i m u first) (last_number_found names m j d rest))

-- ---- new names

-- what a token that declares a name is
record Named (names : NameTable) (k : NameKind) (z : TokenKind) (text name : List ℕ) : Type 0 where
  is_word : z ≡ kind.Word
  same : text ≡ name
  free : is_reserved name ≡ false
  new : find name names ≡ None
  room : is_full k names ≡ false

text_same : (a b : List ℕ) → ◌≡◌ {A = Result (List ℕ) TextKind} (Ok a) (Ok b) → a ≡ b
text_same a b h = let value : Result (List ℕ) TextKind → List ℕ = λ r. result_unwrap_or r a in ap value h

new_name_by_found : (names : NameTable) (k : NameKind) (z : TokenKind) (text name : List ℕ) → new_name_by names k z text ≡ Ok name → Named names k z text name
new_name_by_found names k kind.Word text name h = free (is_reserved text) refl h
  where
    new : (o : Option NameRef) (full : Bool) → is_reserved text ≡ false → find text names ≡ o → is_full k names ≡ full → unless_found o full text ≡ Ok name → Named names k kind.Word text name
    new (Some r) full e f room h = cc
    new None true e f room h = cc
    new None false e f room h =
        let same = text_same text name h in
        record {
          is_word = refl;
          same = same;
          free = ap is_reserved (sym same) ∙ e;
          new = ap (λ n. find n names) (sym same) ∙ f;
          room = room;
        }

    free : (b : Bool) → is_reserved text ≡ b → ◌≡◌ {A = Result (List ℕ) TextKind} (if b then Err Unexpected else unless_found (find text names) (is_full k names) text) (Ok name)
        → Named names k kind.Word text name
    free true e h = cc
    free false e h = new (find text names) (is_full k names) e refl refl h
new_name_by_found names k (kind.Number n) text name h = cc
new_name_by_found names k (kind.Letter b) text name h = cc
new_name_by_found names k (kind.Sign z) text name h = cc
new_name_by_found names k kind.End text name h = cc

new_name_found : (names : NameTable) (k : NameKind) (i j : Input) (name : List ℕ) → new_name names k i ≡ Ok (name, j) → Passed (IsNewName names k) i name j
unfolding new_name new_name_in
new_name_found names k i j name h =
    bind_then (next i) _ (name, j) h (λ t l read rest.
    allowed_then t.place (new_name_by names k t.kind t.text) l (name, j) rest (λ x fine same.
    let found = next_found i l t read in
    let named = new_name_by_found names k t.kind t.text name (fine ∙ ap (λ (q : List ℕ × Input). Ok q.0) same) in
    let at = sym (ap (λ (q : List ℕ × Input). q.1) same) ∙ found.1 in
    record {
      is = record {
        lexeme = t;
        read = found.0;
        is_word = named.is_word;
        text_is = named.same;
        free = named.free;
        new = named.new;
        room = named.room;
        behind = ap (λ q. q.cursor) at;
      };
      room = sym (ap (λ q. q.room) at);
    }))

-- a name of one kind where as many of the other may come
pub of_kind : (names : NameTable) (k l : NameKind) (from : Cursor) (x : List ℕ) (to : Cursor) → is_full l names ≡ is_full k names → IsNewName names k from x to → IsNewName names l from x to
of_kind names k l from x to same n = record {
  lexeme = n.lexeme;
  read = n.read;
  is_word = n.is_word;
  text_is = n.text_is;
  free = n.free;
  new = n.new;
  room = same ∙ n.room;
  behind = n.behind;
}

-- ---- declarations

first : (names : NameTable) (k : Keyword) (i l : Input) (t u : Lexeme) → token i.cursor ≡ Ok t → is_keyword k t ≡ true → next i ≡ Ok (u, l) → Stands names (keyword k) i.cursor l.cursor × (i.room ≡ l.room)
first names k i l t u read is takes =
    let found = next_found i l u takes in
    (record { lexeme = t; read = read; matches = keyword_found k t is; behind = ap (λ q. q.cursor) found.1 }, sym (ap (λ q. q.room) found.1))

location_found : (names more : NameTable) (i l j : Input) → Stands names (keyword w.Location) i.cursor l.cursor → i.room ≡ l.room → location names l ≡ Ok (more, j) → Passed (IsDeclaration names) i more j
unfolding location
location_found names more i l j st room h =
    bind_then (new_name names (name.Location 0) l) _ (more, j) h (λ x m named rest.
    bind_then (and_then (expect s.Equal m) (λ u. last_number)) _ (more, j) rest (λ v n two end.
    bind_then (expect s.Equal m) (λ u. last_number) (v, n) two (λ u o equal last.
    let new = new_name_found names (name.Location 0) l m x named in
    let items = takes_then (expect_found names s.Equal m o u equal) (last_number_found names o n v last) in
    subst (λ (q : NameTable × Input). Passed (IsDeclaration names) i q.0 q.1) (ok_same (with_name x (name.Location v) names, n) (more, j) end) (record {
      is = g.a_location x v i.cursor l.cursor m.cursor n.cursor st (of_kind names (name.Location 0) (name.Location v) l.cursor x m.cursor refl new.is) items.stand;
      room = let nr = new.room in let tr = items.room in omega arith;
    }))))

register_found : (names more : NameTable) (i l j : Input) → Stands names (keyword w.Register) i.cursor l.cursor → i.room ≡ l.room → register names l ≡ Ok (more, j) → Passed (IsDeclaration names) i more j
unfolding register
register_found names more i l j st room h =
    bind_then (new_name names (name.Register 0) l) _ (more, j) h (λ x m named rest.
    bind_then (and_then (expect_word w.Of m) (λ u. last_number)) _ (more, j) rest (λ v n two end.
    bind_then (expect_word w.Of m) (λ u. last_number) (v, n) two (λ u o of last.
    let new = new_name_found names (name.Register 0) l m x named in
    let items = takes_then (expect_word_found names w.Of m o u of) (last_number_found names o n v last) in
    subst (λ (q : NameTable × Input). Passed (IsDeclaration names) i q.0 q.1) (ok_same (with_name x (name.Register v) names, n) (more, j) end) (record {
      is = g.a_register x v i.cursor l.cursor m.cursor n.cursor st (of_kind names (name.Register 0) (name.Register v) l.cursor x m.cursor refl new.is) items.stand;
      room = let nr = new.room in let tr = items.room in omega arith;
    }))))

auxiliary_found : (names more : NameTable) (i l j : Input) → Stands names (keyword w.Auxiliary) i.cursor l.cursor → i.room ≡ l.room → auxiliary names l ≡ Ok (more, j) → Passed (IsDeclaration names) i more j
unfolding auxiliary
auxiliary_found names more i l j st room h =
    bind_then (new_name names name.Auxiliary l) _ (more, j) h (λ x m named rest.
    bind_then (expect s.Semicolon m) _ (more, j) rest (λ u n semi end.
    let new = new_name_found names name.Auxiliary l m x named in
    let last = expect_found names s.Semicolon m n u semi in
    subst (λ (q : NameTable × Input). Passed (IsDeclaration names) i q.0 q.1) (ok_same (with_name x name.Auxiliary names, n) (more, j) end) (record {
      is = g.an_auxiliary x i.cursor l.cursor m.cursor n.cursor st new.is (subst (Stands names (sign s.Semicolon) m.cursor) (sym last.stand.2) last.stand.1);
      room = let nr = new.room in let tr = last.room in omega arith;
    })))

-- a declaration that was read, or none
abbrev Read : NameTable → Input → Option NameTable → Input → Type 0
Read names i (Some more) j = Passed (IsDeclaration names) i more j
Read names i None j = j ≡ i

some_then : {X : Type 0} (p : Parser NameTable) (i j : Input) (o : Option NameTable) → and_then (p i) (λ more. pure (Some more)) ≡ Ok (o, j)
    → ((more : NameTable) → p i ≡ Ok (more, j) → Some more ≡ o → X) → X
some_then p i j o h use_it =
    bind_then (p i) (λ more. pure (Some more)) (o, j) h (λ more l reads end.
    let same = ok_same (Some more, l) (o, j) end in
    use_it more (reads ∙ ap (λ q. Ok (more, q)) (ap (λ (q : Option NameTable × Input). q.1) same)) (ap (λ (q : Option NameTable × Input). q.0) same))

declaration_found : (names : NameTable) (i j : Input) (o : Option NameTable) → declaration names i ≡ Ok (o, j) → Read names i o j
unfolding declaration
declaration_found names i j o h =
    bind_then (peek i) _ (o, j) h (λ t q sees rest.
    let p = peek_found i q t sees in
    by t p.0 (is_keyword w.Location t) (is_keyword w.Register t) (is_keyword w.Auxiliary t) refl refl refl
    (subst (λ q. declared_by (is_keyword w.Location t) (is_keyword w.Register t) (is_keyword w.Auxiliary t) names q ≡ Ok (o, j)) p.1 rest))
  where
    by : (t : Lexeme) → token i.cursor ≡ Ok t → (a b c : Bool) → is_keyword w.Location t ≡ a → is_keyword w.Register t ≡ b → is_keyword w.Auxiliary t ≡ c
        → declared_by a b c names i ≡ Ok (o, j) → Read names i o j
    by t read true b c is x y h =
        some_then (λ i. and_then (next i) (λ u. location names)) i j o h (λ more two same.
        bind_then (next i) (λ u. location names) (more, j) two (λ u l takes rest.
        let st = first names w.Location i l t u read is takes in
        subst (λ o. Read names i o j) same (location_found names more i l j st.0 st.1 rest)))
    by t read false true c x is y h =
        some_then (λ i. and_then (next i) (λ u. register names)) i j o h (λ more two same.
        bind_then (next i) (λ u. register names) (more, j) two (λ u l takes rest.
        let st = first names w.Register i l t u read is takes in
        subst (λ o. Read names i o j) same (register_found names more i l j st.0 st.1 rest)))
    by t read false false true x y is h =
        some_then (λ i. and_then (next i) (λ u. auxiliary names)) i j o h (λ more two same.
        bind_then (next i) (λ u. auxiliary names) (more, j) two (λ u l takes rest.
        let st = first names w.Auxiliary i l t u read is takes in
        subst (λ o. Read names i o j) same (auxiliary_found names more i l j st.0 st.1 rest)))
    by t read false false false x y z h =
        let same = ok_same (None, i) (o, j) h in
        subst (λ (q : Option NameTable × Input). Read names i q.0 q.1) same refl

pub declarations_found : (n : ℕ) (names all : NameTable) (i j : Input) → declarations_on n names i ≡ Ok (all, j) → Passed (λ from a to. AreDeclarations names from a to) i all j
unfolding declarations_on
declarations_found zero names all i j h = cc
declarations_found (suc n) names all i j h =
    bind_then (declaration names i) _ (all, j) h (λ o l reads rest. by o l (declaration_found names i l o reads) (λ more l h. declarations_found n more all l j h) rest)
  where
    by : (o : Option NameTable) (l : Input) → Read names i o l → ((more : NameTable) (l : Input) → declarations_on n more l ≡ Ok (all, j) → Passed (λ from a to. AreDeclarations more from a to) l all j)
        → and_more (declarations_on n) names o l ≡ Ok (all, j) → Passed (λ from a to. AreDeclarations names from a to) i all j
    by (Some more) l found behind rest =
        let others = behind more l rest in
        record {
          is = g.one_more names more all i.cursor l.cursor j.cursor found.is others.is;
          room = let one = found.room in let two = others.room in omega arith;
        }
    by None l at behind rest =
        let same = ok_same (names, l) (all, j) rest in
        subst (λ (q : NameTable × Input). Passed (λ from a to. AreDeclarations names from a to) i q.0 q.1) same
        (subst (λ q. Passed (λ from a to. AreDeclarations names from a to) i names q) (sym at) (record { is = g.no_more names i.cursor; room = refl }))

-- ---- the precondition and the crash formula

pub behind_then : {A X : Type 0} (i : Input) (r : Result (A × Cursor) TextFault) (a : A) (j : Input) → behind i r ≡ Ok (a, j) → ((c : Cursor) → r ≡ Ok (a, c) → j ≡ record i { cursor = c } → X) → X
behind_then {A} i (Ok p) a j h use_it =
    let same = ok_same (p.0, record i { cursor = p.1 }) (a, j) h in
    use_it p.1 (ap (λ x. Ok (x, p.1)) (ap (λ (q : A × Input). q.0) same)) (sym (ap (λ (q : A × Input). q.1) same))
behind_then i (Err e) a j h use_it = cc

module _ {T : Type 0} (read : NameTable → Parser T) (stands : NameTable → Cursor → T → Cursor → Type 0)
    (finds : FindsAtoms read stands) (again : ReadsAtoms read stands) (begins : BeginsAtoms stands) where
  written_found : (names : NameTable) (k : Keyword) (i l j : Input) (f : Plain T) → Stands names (keyword k) i.cursor l.cursor → i.room ≡ l.room → given read names l ≡ Ok (f, j)
      → Passed (IsGiven stands names k) i f j
  written_found names k i l j f st room h =
      bind_then (behind l (formula_at read names l.cursor)) _ (f, j) h (λ a m reads rest.
      bind_then (expect s.Semicolon m) _ (f, j) rest (λ u n semi end.
      behind_then l (formula_at read names l.cursor) a m reads (λ c found at.
      let last = expect_found names s.Semicolon m n u semi in
      let is = subst (λ q. IsFormula stands names l.cursor a q.cursor) (sym at) (formula_at_found read stands finds again begins names l.cursor c a found) in
      subst (λ (q : Plain T × Input). Passed (IsGiven stands names k) i q.0 q.1) (ok_same (a, n) (f, j) end) (record {
        is = g.written a i.cursor l.cursor m.cursor n.cursor st is (subst (Stands names (sign s.Semicolon) m.cursor) (sym last.stand.2) last.stand.1);
        room = let ar = ap (λ q. q.room) at in let lr = last.room in omega arith;
      }))))

  pub given_found : (names : NameTable) (k : Keyword) (i j : Input) (f : Plain T) → and_then (peek i) (λ t. given_by (is_keyword k t) (given read names)) ≡ Ok (f, j)
      → Passed (IsGiven stands names k) i f j
  given_found names k i j f h =
      bind_then (peek i) _ (f, j) h (λ t q sees rest.
      let p = peek_found i q t sees in
      by t p.0 (is_keyword k t) refl (subst (λ q. given_by (is_keyword k t) (given read names) q ≡ Ok (f, j)) p.1 rest))
    where
      by : (t : Lexeme) → token i.cursor ≡ Ok t → (b : Bool) → is_keyword k t ≡ b → given_by b (given read names) i ≡ Ok (f, j) → Passed (IsGiven stands names k) i f j
      by t sees true is rest =
          bind_then (next i) (λ u. given read names) (f, j) rest (λ u l takes rest2.
          let st = first names k i l t u sees is takes in
          written_found names k i l j f st.0 st.1 rest2)
      by t sees false is rest =
          let same = ok_same (top, i) (f, j) rest in
          subst (λ (q : Plain T × Input). Passed (IsGiven stands names k) i q.0 q.1) same (record { is = g.left_out i.cursor; room = refl })
