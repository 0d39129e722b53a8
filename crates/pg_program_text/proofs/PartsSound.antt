-- The parts of a statement that are read are in the grammar.
use Rattle.pg_program_text.specs.Limits.{text_limits}
use Rattle.std.proofs.Common.{◌≡◌, ◌⊎◌, inl, inr, ℕ, zero, suc, ◌+◌, Bool, true, false, Ok, Err, Some, None, List, [], ◌∷◌, ◌++◌, refl, ap, sym, ◌∙◌, subst, arith, append_assoc}
use Rattle.std.specs.Prelude.{Option, if◌then◌else◌, Result}
use Rattle.std.specs.Result.{result_unwrap_or}
use Rattle.std.specs.Str.{bytes_eq}
use Rattle.std.proofs.lemmas.Slice.Eq.{bytes_eq-Decides}
use Rattle.pg_lex.specs.declared.token.Sign.TheVariants as s
use Rattle.pg_lex.specs.declared.token.TokenKind.{TokenKind}
use Rattle.pg_lex.specs.declared.token.TokenKind.TheVariants as kind
use Rattle.pg_lex.specs.declared.fault.TextFault.{TextFault}
use Rattle.pg_lex.specs.declared.fault.TextFault.TheVariants.{At}
use Rattle.pg_lex.specs.declared.fault.TextKind.{TextKind}
use Rattle.pg_lex.specs.declared.fault.TextKind.TheVariants.{Unexpected}
use Rattle.pg_lex.specs.Lex.{Cursor, Lexeme, token, after}
use Rattle.pg_program.specs.NameTable.{NameTable, is_auxiliary}
use Rattle.pg_program.specs.declared.name_table.NameRef.{NameRef}
use Rattle.pg_program.specs.declared.name_table.NameRef.TheVariants as place
use Rattle.pg_program.specs.declared.syntax.Expr.{Expr}
use Rattle.pg_program.specs.declared.syntax.Cond.{Cond}
use Rattle.pg_program.specs.declared.syntax.Act.{Act}
use Rattle.pg_program.specs.declared.syntax.Act.TheVariants as act
use Rattle.pg_program.specs.declared.syntax.AuxAssign.{AuxAssign}
use Rattle.pg_assertion.specs.declared.atom.RawAtom.{RawAtom}
use Rattle.pg_assertion.specs.Formula.{Plain}
use Rattle.pg_assertion_text.specs.Words.{Item, Stands, Stand, Matches, sign, word, location, scalar}
use Rattle.pg_assertion_text.specs.Input as input
use Rattle.pg_assertion_text.specs.Input.{Input, Outcome, Parser, and_then, ◌>>◌, pure, refuse, allowed, peek, next, node, expect, is_sign, named}
use Rattle.pg_assertion_text.specs.Atoms.{raw_atom, IsRaw}
use Rattle.pg_assertion_text.proofs.AtomLaws.{raw_found, raw_again, raw_begins}
use Rattle.pg_assertion_text.specs.Parsing.{IsFormula, formula_at}
use Rattle.pg_assertion_text.proofs.Steps.{ok_same, bind_then, allowed_then, next_found, peek_found, node_takes, is_sign_found, Takes, takes_one, takes_then, expect_found, location_found, named_found}
use Rattle.pg_assertion_text.proofs.Whole.{formula_at_found}
use Rattle.pg_program_text.specs.Limits.{most_expression_nodes, most_open_brackets, most_assignments}
use Rattle.pg_program_text.specs.declared.keyword.Keyword.{Keyword}
use Rattle.pg_program_text.specs.declared.keyword.Keyword.TheVariants as k
use Rattle.pg_program_text.specs.Keywords.{spelling, keyword, keyword_by, keyword_of}
use Rattle.pg_program_text.specs.Expr.{sum, factor_of}
use Rattle.pg_program_text.specs.Stmt.{with_room, expression, behind, formula, opens_note, opened, note, equal_at, settled, test_sign, a_test, operand, last_operand, swap, load_or_assign, assigned_by, assigned, to_name, named_act, act_by, an_act, auxiliary_in, one_more, assignment, goes_on_or_ends, separator, assignments_on, bracket_by, bracket}
use Rattle.pg_program_text.specs.Grammar as g
use Rattle.pg_program_text.specs.Grammar.{IsExpr, IsNote, IsTest, IsAct, IsAssignment, AreAssignments, IsBracket, equality}
use Rattle.pg_program_text.proofs.ExprSound.{expr_found}

-- a phrase that takes no point
pub record Passed {A : Type 0} (Is : Cursor → A → Cursor → Type 0) (i : Input) (a : A) (j : Input) : Type 0 where
  pub is : Is i.cursor a j.cursor
  pub room : i.room ≡ j.room

-- ---- expressions and formulas

with_room_then : {A X : Type 0} (r : ℕ) (o : Outcome A) (a : A) (j : Input) → with_room r o ≡ Ok (a, j) → ((l : Input) → o ≡ Ok (a, l) → j ≡ record l { room = r } → X) → X
with_room_then {A} r (Ok p) a j h use_it =
    let same = ok_same (p.0, record p.1 { room = r }) (a, j) h in
    use_it p.1 (ap (λ x. Ok (x, p.1)) (ap (λ (q : A × Input). q.0) same)) (sym (ap (λ (q : A × Input). q.1) same))
with_room_then r (Err e) a j h use_it = cc

pub expression_found : (names : NameTable) (i j : Input) (a : Expr) → expression text_limits names i ≡ Ok (a, j) → Passed (IsExpr text_limits names) i a j
unfolding expression
expression_found names i j a h =
    with_room_then i.room (sum (factor_of names most_open_brackets) (record i { room = most_expression_nodes })) a j h (λ l reads at.
    let found = expr_found names most_open_brackets (record i { room = most_expression_nodes }) l a reads in
    record {
      is = subst (λ q. IsExpr text_limits names i.cursor a q.cursor) (sym at) (record { nodes = found.nodes; is = found.is; few = let fr = found.room in omega arith });
      room = sym (ap (λ q. q.room) at);
    })

behind_then : {A X : Type 0} (i : Input) (r : Result (A × Cursor) TextFault) (a : A) (j : Input) → behind i r ≡ Ok (a, j) → ((c : Cursor) → r ≡ Ok (a, c) → j ≡ record i { cursor = c } → X) → X
behind_then {A} i (Ok p) a j h use_it =
    let same = ok_same (p.0, record i { cursor = p.1 }) (a, j) h in
    use_it p.1 (ap (λ x. Ok (x, p.1)) (ap (λ (q : A × Input). q.0) same)) (sym (ap (λ (q : A × Input). q.1) same))
behind_then i (Err e) a j h use_it = cc

formula_found : (names : NameTable) (i j : Input) (f : Plain RawAtom) → formula text_limits names i ≡ Ok (f, j) → Passed (IsFormula IsRaw names) i f j
unfolding formula formula_at
formula_found names i j f h =
    behind_then i (formula_at raw_atom names i.cursor) f j h (λ c reads at.
    record {
      is = subst (λ q. IsFormula IsRaw names i.cursor f q.cursor) (sym at) (formula_at_found raw_atom IsRaw raw_found raw_again raw_begins names i.cursor c f reads);
      room = sym (ap (λ q. q.room) at);
    })

-- ---- notes

opened_found : (names : NameTable) (i j : Input) (u : Unit {0}) → opened i ≡ Ok (u, j) → Takes names (sign s.OpenSquare ∷ []) 1 i j
unfolding opened
opened_found names i j u h =
    bind_then (next i) opens_note (u, j) h (λ t l read rest. let found = next_found i l t read in by t l found.0 found.1 (is_sign s.OpenSquare t.kind) refl rest)
  where
    by : (t : Lexeme) (l : Input) → token i.cursor ≡ Ok t → l ≡ record i { cursor = after i.cursor } → (b : Bool) → is_sign s.OpenSquare t.kind ≡ b
        → ◌≡◌ {A = Outcome (Unit {0})} ((if b then node t.place else refuse t.place Unexpected) l) (Ok (u, j)) → Takes names (sign s.OpenSquare ∷ []) 1 i j
    by t l read at true e g = takes_then (takes_one names (sign s.OpenSquare) i l t read (is_sign_found s.OpenSquare t.kind e) at) (node_takes names t.place l j u g)
    by t l read at false e g = cc

pub note_found : (names : NameTable) (i j : Input) (f : Plain RawAtom) → note text_limits names i ≡ Ok (f, j) → IsNote text_limits names i.cursor f j.cursor × (i.room ≡ j.room + 1)
unfolding note
note_found names i j f h =
    bind_then (and_then (opened i) (λ u. formula text_limits names)) _ (f, j) h (λ a l two rest.
    bind_then (opened i) (λ u. formula text_limits names) (a, l) two (λ u m opens reads.
    bind_then (expect s.CloseSquare l) _ (f, j) rest (λ w n close end.
    let o = opened_found names i m u opens in
    let found = formula_found names m l a reads in
    let c = expect_found names s.CloseSquare l n w close in
    let same = ok_same (a, n) (f, j) end in
    subst (λ (q : Plain RawAtom × Input). IsNote text_limits names i.cursor q.0 q.1.cursor × (i.room ≡ q.1.room + 1)) same (
      record {
        mid = m.cursor;
        end = l.cursor;
        open_square = subst (Stands names (sign s.OpenSquare) i.cursor) (sym o.stand.2) o.stand.1;
        formula = found.is;
        close_square = subst (Stands names (sign s.CloseSquare) l.cursor) (sym c.stand.2) c.stand.1;
      },
      (let orr = o.room in let fr = found.room in let cr = c.room in omega arith),
    ))))

-- ---- tests

settled_then : {A X : Type 0} (r : Result A TextFault) (i : Input) (q : A × Input) → settled r i ≡ Ok q → ((a : A) → r ≡ Ok a → (a, i) ≡ q → X) → X
settled_then (Ok a) i q h use_it = use_it a refl (ok_same (a, i) q h)
settled_then (Err e) i q h use_it = cc

equal_found : (t : Lexeme) (b : Bool) → equal_at t ≡ Ok b → t.kind ≡ kind.Sign (equality b)
equal_found t b h = by (is_sign s.Equal t.kind) refl h
  where
    value_is : (a : Bool) → ◌≡◌ {A = Result Bool TextFault} (Ok a) (Ok b) → a ≡ b
    value_is a h = let value : Result Bool TextFault → Bool = λ r. result_unwrap_or r a in ap value h

    second : (c : Bool) → is_sign s.NotEqual t.kind ≡ c → ◌≡◌ {A = Result Bool TextFault} (if c then Ok false else Err (At t.place Unexpected)) (Ok b) → t.kind ≡ kind.Sign (equality b)
    second true e g = is_sign_found s.NotEqual t.kind e ∙ ap (λ b. kind.Sign (equality b)) (value_is false g)
    second false e g = cc

    by : (c : Bool) → is_sign s.Equal t.kind ≡ c → ◌≡◌ {A = Result Bool TextFault} (if c then Ok true else (if is_sign s.NotEqual t.kind then Ok false else Err (At t.place Unexpected))) (Ok b) → t.kind ≡ kind.Sign (equality b)
    by true e g = is_sign_found s.Equal t.kind e ∙ ap (λ b. kind.Sign (equality b)) (value_is true g)
    by false e g = second (is_sign s.NotEqual t.kind) refl g

pub test_found : (names : NameTable) (i j : Input) (c : Cond) → a_test text_limits names i ≡ Ok (c, j) → Passed (IsTest text_limits names) i c j
unfolding a_test test_sign
test_found names i j c h =
    bind_then (expression text_limits names i) _ (c, j) h (λ a l first rest.
    bind_then (test_sign l) _ (c, j) rest (λ b n compares rest2.
    bind_then (expression text_limits names n) _ (c, j) rest2 (λ d o second end.
    bind_then (next l) _ (b, n) compares (λ t m read tells.
    settled_then (equal_at t) m (b, n) tells (λ b2 is same.
    let left = expression_found names i l a first in
    let right = expression_found names n o d second in
    let found = next_found l m t read in
    let at : n ≡ record l { cursor = after l.cursor } = sym (ap (λ (q : Bool × Input). q.1) same) ∙ found.1 in
    let is_sign_of : t.kind ≡ kind.Sign (equality b) = equal_found t b (is ∙ ap (λ (q : Bool × Input). Ok q.0) same) in
    subst (λ (q : Cond × Input). Passed (IsTest text_limits names) i q.0 q.1) (ok_same (record { left = a; right = d; equal = b }, o) (c, j) end)
    (record {
      is = record {
        mid = l.cursor;
        behind = n.cursor;
        left = left.is;
        equality_is = record { lexeme = t; read = found.0; matches = is_sign_of; behind = ap (λ q. q.cursor) at };
        right = right.is;
      };
      room = left.room ∙ sym (ap (λ q. q.room) at) ∙ right.room;
    }))))))

-- ---- keywords

if_some : {A : Type 0} (b : Bool) (x y : A) (o : Option A) → (if b then Some x else o) ≡ Some y → ((b ≡ true) × (x ≡ y)) ⊎ (o ≡ Some y)
if_some true x y o h = inl (refl, cc)
if_some false x y o h = inr h

-- a word that is tested to be this keyword is it
spelled_as : (w : List ℕ) (v x : Keyword) → bytes_eq w (spelling v) ≡ true → v ≡ x → w ≡ spelling x
spelled_as w v x e same = (bytes_eq-Decides w (spelling v)).0 e ∙ ap spelling same

keyword_of_found : (w : List ℕ) (x : Keyword) → keyword_of w ≡ Some x → w ≡ spelling x
keyword_of_found w x h =
    elim (if_some (bytes_eq w (spelling k.Mfence)) k.Mfence x _ h) [
      | inl e ↦ spelled_as w k.Mfence x e.0 e.1
      | inr h ↦
          elim (if_some (bytes_eq w (spelling k.Sfence)) k.Sfence x _ h) [
            | inl e ↦ spelled_as w k.Sfence x e.0 e.1
            | inr h ↦
                elim (if_some (bytes_eq w (spelling k.Flush)) k.Flush x _ h) [
                  | inl e ↦ spelled_as w k.Flush x e.0 e.1
                  | inr h ↦
                      elim (if_some (bytes_eq w (spelling k.Flushopt)) k.Flushopt x _ h) [
                        | inl e ↦ spelled_as w k.Flushopt x e.0 e.1
                        | inr h ↦
                            elim (if_some (bytes_eq w (spelling k.Cas)) k.Cas x _ h) [
                              | inl e ↦ spelled_as w k.Cas x e.0 e.1
                              | inr h ↦
                                  elim (if_some (bytes_eq w (spelling k.If)) k.If x _ h) [
                                    | inl e ↦ spelled_as w k.If x e.0 e.1
                                    | inr h ↦
                                        elim (if_some (bytes_eq w (spelling k.Else)) k.Else x _ h) [
                                          | inl e ↦ spelled_as w k.Else x e.0 e.1
                                          | inr h ↦
                                              elim (if_some (bytes_eq w (spelling k.While)) k.While x _ h) [ inl e ↦ spelled_as w k.While x e.0 e.1 | inr h ↦ cc ]
                                        ]
                                  ]
                            ]
                      ]
                ]
          ]
    ]

keyword_by_found : (z : TokenKind) (text : List ℕ) (x : Keyword) → keyword_by z text ≡ Some x → (z ≡ kind.Word) × (text ≡ spelling x)
keyword_by_found kind.Word text x h = (refl, keyword_of_found text x h)
keyword_by_found (kind.Number n) text x h = cc
keyword_by_found (kind.Letter b) text x h = cc
keyword_by_found (kind.Sign z) text x h = cc
keyword_by_found kind.End text x h = cc

-- a token that is a keyword is its word
pub keyword_found : (t : Lexeme) (x : Keyword) → keyword t ≡ Some x → (t.kind ≡ kind.Word) × (t.text ≡ spelling x)
unfolding keyword
keyword_found t x h = keyword_by_found t.kind t.text x h

-- ---- acts

abbrev item_of : NameRef → Item
item_of (place.Location x) = location x
item_of (place.Scalar r) = scalar r

-- the last of some items stands with nothing after it
ended : (names : NameTable) (is : List Item) (i j : Input) (t : Takes names is 0 i j) → Stand names is i.cursor j.cursor
ended names is i j t = t.stand

stay : (names : NameTable) (is : List Item) (i j : Input) → Takes names is 0 i j → i.room ≡ j.room
stay names is i j t = let r = t.room in omega arith

-- a comma and an expression
record Operand (names : NameTable) (i : Input) (a : Expr) (j : Input) : Type 0 where
  mid : Input
  comma : Takes names (sign s.Comma ∷ []) 0 i mid
  expr_is : Passed (IsExpr text_limits names) mid a j

operand_found : (names : NameTable) (i j : Input) (a : Expr) → operand text_limits names i ≡ Ok (a, j) → Operand names i a j
unfolding operand
operand_found names i j a h =
    bind_then (expect s.Comma i) (λ u. expression text_limits names) (a, j) h (λ u m comma reads.
    record { mid = m; comma = expect_found names s.Comma i m u comma; expr_is = expression_found names m j a reads })

swap_found : (names : NameTable) (r : ℕ) (i m j : Input) (a : Act) → Takes names (scalar r ∷ sign s.Assign ∷ word (spelling k.Cas) ∷ []) 0 i m → swap text_limits names r m ≡ Ok (a, j)
    → Passed (IsAct text_limits names) i a j
unfolding swap last_operand
swap_found names r i m j a first h =
    bind_then (and_then (expect s.Open m) (λ u. input.location names)) _ (a, j) h (λ x l one rest.
    bind_then (expect s.Open m) (λ u. input.location names) (x, l) one (λ u n bracket_open named_x.
    bind_then (operand text_limits names l) _ (a, j) rest (λ b p two rest2.
    bind_then (last_operand text_limits names p) _ (a, j) rest2 (λ c y three end.
    bind_then (operand text_limits names p) _ (c, y) three (λ d q four rest3.
    bind_then (expect s.Close q) _ (c, y) rest3 (λ z v close last.
    let o1 = operand_found names l p b two in
    let o2 = operand_found names p q d four in
    let head = takes_then first (takes_then (expect_found names s.Open m n u bracket_open) (takes_then (location_found names n l x named_x) o1.comma)) in
    let cl = expect_found names s.Close q v z close in
    subst (λ (w : Act × Input). Passed (IsAct text_limits names) i w.0 w.1) (ok_same (act.Cas r x b c, y) (a, j) end)
    (subst (λ (w : Expr × Input). Passed (IsAct text_limits names) i (act.Cas r x b w.0) w.1) (ok_same (d, v) (c, y) last)
    (record {
      is = g.a_cas r x b d i.cursor o1.mid.cursor p.cursor o2.mid.cursor q.cursor v.cursor head.stand o1.expr_is.is
          (subst (Stands names (sign s.Comma) p.cursor) (sym o2.comma.stand.2) o2.comma.stand.1) o2.expr_is.is
          (subst (Stands names (sign s.Close) q.cursor) (sym cl.stand.2) cl.stand.1);
      room = let a1 = head.room in let a2 = o1.expr_is.room in let a3 = o2.comma.room in let a4 = o2.expr_is.room in let a5 = cl.room in omega arith;
    }))))))))

assign_found : (names : NameTable) (r : ℕ) (i m j : Input) (a : Act) → Takes names (scalar r ∷ sign s.Assign ∷ []) 0 i m
    → and_then (expression text_limits names m) (λ b. pure (act.Assign r b)) ≡ Ok (a, j) → Passed (IsAct text_limits names) i a j
assign_found names r i m j a first h =
    bind_then (expression text_limits names m) (λ b. pure (act.Assign r b)) (a, j) h (λ b n reads end.
    let found = expression_found names m n b reads in
    subst (λ (q : Act × Input). Passed (IsAct text_limits names) i q.0 q.1) (ok_same (act.Assign r b, n) (a, j) end)
    (record { is = g.an_assign r b i.cursor m.cursor n.cursor first.stand found.is; room = let fr = first.room in let er = found.room in omega arith }))

load_or_assign_found : (names : NameTable) (r : ℕ) (i m j : Input) (a : Act) (t : Lexeme) → Takes names (scalar r ∷ sign s.Assign ∷ []) 0 i m → token m.cursor ≡ Ok t
    → (q : Result NameRef TextKind) → named names t ≡ q → load_or_assign text_limits names r q m ≡ Ok (a, j) → Passed (IsAct text_limits names) i a j
load_or_assign_found names r i m j a t first read (Ok (place.Location x)) is h =
    bind_then (next m) (λ u. pure (act.Load r x)) (a, j) h (λ w n takes end.
    let found = next_found m n w takes in
    let whole = takes_then first (takes_one names (location x) m n t read (named_found names t (place.Location x) is) found.1) in
    subst (λ (q : Act × Input). Passed (IsAct text_limits names) i q.0 q.1) (ok_same (act.Load r x, n) (a, j) end)
    (record { is = g.a_load r x i.cursor n.cursor whole.stand; room = stay names (scalar r ∷ sign s.Assign ∷ location x ∷ []) i n whole }))
load_or_assign_found names r i m j a t first read (Ok (place.Scalar q)) is h = assign_found names r i m j a first h
load_or_assign_found names r i m j a t first read (Err why) is h = assign_found names r i m j a first h

assigned_found : (names : NameTable) (r : ℕ) (i m j : Input) (a : Act) → Takes names (scalar r ∷ sign s.Assign ∷ []) 0 i m → assigned text_limits names r m ≡ Ok (a, j) → Passed (IsAct text_limits names) i a j
unfolding assigned
assigned_found names r i m j a first h =
    bind_then (peek m) _ (a, j) h (λ t n sees rest.
    let p = peek_found m n t sees in
    by t p.0 (keyword t) refl (subst (λ q. assigned_by text_limits names r t (keyword t) q ≡ Ok (a, j)) p.1 rest))
  where
    other : (t : Lexeme) → token m.cursor ≡ Ok t → load_or_assign text_limits names r (named names t) m ≡ Ok (a, j) → Passed (IsAct text_limits names) i a j
    other t read rest = load_or_assign_found names r i m j a t first read (named names t) refl rest

    by : (t : Lexeme) → token m.cursor ≡ Ok t → (o : Option Keyword) → keyword t ≡ o → assigned_by text_limits names r t o m ≡ Ok (a, j) → Passed (IsAct text_limits names) i a j
    by t read (Some k.Cas) is rest =
        bind_then (next m) (λ u. swap text_limits names r) (a, j) rest (λ w n takes rest2.
        let found = next_found m n w takes in
        swap_found names r i n j a (takes_then first (takes_one names (word (spelling k.Cas)) m n t read (keyword_found t k.Cas is) found.1)) rest2)
    by t read None is rest = other t read rest
    by t read (Some k.Mfence) is rest = other t read rest
    by t read (Some k.Sfence) is rest = other t read rest
    by t read (Some k.Flush) is rest = other t read rest
    by t read (Some k.Flushopt) is rest = other t read rest
    by t read (Some k.If) is rest = other t read rest
    by t read (Some k.Else) is rest = other t read rest
    by t read (Some k.While) is rest = other t read rest

to_name_found : (names : NameTable) (q : NameRef) (i l j : Input) (a : Act) → Takes names (item_of q ∷ []) 0 i l → to_name text_limits names q l ≡ Ok (a, j) → Passed (IsAct text_limits names) i a j
to_name_found names (place.Scalar r) i l j a first h =
    bind_then (expect s.Assign l) (λ u. assigned text_limits names r) (a, j) h (λ u m sets rest.
    assigned_found names r i m j a (takes_then first (expect_found names s.Assign l m u sets)) rest)
to_name_found names (place.Location x) i l j a first h =
    bind_then (and_then (expect s.Assign l) (λ u. expression text_limits names)) _ (a, j) h (λ b n two end.
    bind_then (expect s.Assign l) (λ u. expression text_limits names) (b, n) two (λ u m sets reads.
    let head = takes_then first (expect_found names s.Assign l m u sets) in
    let found = expression_found names m n b reads in
    subst (λ (q : Act × Input). Passed (IsAct text_limits names) i q.0 q.1) (ok_same (act.Store x b, n) (a, j) end)
    (record { is = g.a_store x b i.cursor m.cursor n.cursor head.stand found.is; room = let fr = head.room in let er = found.room in omega arith })))

named_item : (names : NameTable) (t : Lexeme) (q : NameRef) → named names t ≡ Ok q → Matches names (item_of q) t
named_item names t (place.Location x) h = named_found names t (place.Location x) h
named_item names t (place.Scalar r) h = named_found names t (place.Scalar r) h

pub act_found : (names : NameTable) (i j : Input) (a : Act) → an_act text_limits names i ≡ Ok (a, j) → Passed (IsAct text_limits names) i a j
unfolding an_act
act_found names i j a h =
    bind_then (next i) _ (a, j) h (λ t l read rest. let found = next_found i l t read in by t l found.0 found.1 (keyword t) refl rest)
  where
    by_name : (t : Lexeme) (l : Input) → token i.cursor ≡ Ok t → l ≡ record i { cursor = after i.cursor } → named_act text_limits names t l ≡ Ok (a, j) → Passed (IsAct text_limits names) i a j
    by_name t l read at rest =
        bind_then (allowed t.place (named names t) l) _ (a, j) rest (λ q m allows rest2.
        allowed_then t.place (named names t) l (q, m) allows (λ p fine same.
        to_name_found names q i m j a
        (takes_one names (item_of q) i m t read (named_item names t q (fine ∙ ap (λ (z : NameRef × Input). Ok z.0) same)) (sym (ap (λ (z : NameRef × Input). z.1) same) ∙ at)) rest2))

    fence : (t : Lexeme) (l : Input) (x : Keyword) (b : Act) → token i.cursor ≡ Ok t → l ≡ record i { cursor = after i.cursor } → keyword t ≡ Some x
        → ((from to : Cursor) → Stands names (word (spelling x)) from to → IsAct text_limits names from b to) → ◌≡◌ {A = Outcome Act} (Ok (b, l)) (Ok (a, j)) → Passed (IsAct text_limits names) i a j
    fence t l x b read at is make end =
        subst (λ (q : Act × Input). Passed (IsAct text_limits names) i q.0 q.1) (ok_same (b, l) (a, j) end)
        (record { is = make i.cursor l.cursor (record { lexeme = t; read = read; matches = keyword_found t x is; behind = ap (λ q. q.cursor) at }); room = sym (ap (λ q. q.room) at) })

    flush_by : (t : Lexeme) (l : Input) (x : Keyword) (make : ℕ → Act) → token i.cursor ≡ Ok t → l ≡ record i { cursor = after i.cursor } → keyword t ≡ Some x
        → ((y : ℕ) (from to : Cursor) → Stand names (word (spelling x) ∷ location y ∷ []) from to → IsAct text_limits names from (make y) to)
        → and_then (input.location names l) (λ y. pure (make y)) ≡ Ok (a, j) → Passed (IsAct text_limits names) i a j
    flush_by t l x make read at is built rest =
        bind_then (input.location names l) (λ y. pure (make y)) (a, j) rest (λ y m reads end.
        let whole = takes_then (takes_one names (word (spelling x)) i l t read (keyword_found t x is) at) (location_found names l m y reads) in
        subst (λ (q : Act × Input). Passed (IsAct text_limits names) i q.0 q.1) (ok_same (make y, m) (a, j) end)
        (record { is = built y i.cursor m.cursor whole.stand; room = stay names (word (spelling x) ∷ location y ∷ []) i m whole }))

    by : (t : Lexeme) (l : Input) → token i.cursor ≡ Ok t → l ≡ record i { cursor = after i.cursor } → (o : Option Keyword) → keyword t ≡ o → act_by text_limits names t o l ≡ Ok (a, j) → Passed (IsAct text_limits names) i a j
    by t l read at (Some k.Mfence) is rest = fence t l k.Mfence act.Mfence read at is (λ from to st. g.an_mfence from to st) rest
    by t l read at (Some k.Sfence) is rest = fence t l k.Sfence act.Sfence read at is (λ from to st. g.an_sfence from to st) rest
    by t l read at (Some k.Flush) is rest = flush_by t l k.Flush (λ y. act.Flush y) read at is (λ y from to st. g.a_flush y from to st) rest
    by t l read at (Some k.Flushopt) is rest = flush_by t l k.Flushopt (λ y. act.Flushopt y) read at is (λ y from to st. g.a_flushopt y from to st) rest
    by t l read at (Some k.Cas) is rest = by_name t l read at rest
    by t l read at (Some k.If) is rest = by_name t l read at rest
    by t l read at (Some k.Else) is rest = by_name t l read at rest
    by t l read at (Some k.While) is rest = by_name t l read at rest
    by t l read at None is rest = by_name t l read at rest

-- ---- brackets

auxiliary_found : (names : NameTable) (q : Result NameRef TextKind) (r : ℕ) → auxiliary_in names q ≡ Ok r → (q ≡ Ok (place.Scalar r)) × (is_auxiliary names r ≡ true)
auxiliary_found names (Ok (place.Scalar x)) r h = by (is_auxiliary names x) refl h
  where
    by : (b : Bool) → is_auxiliary names x ≡ b → ◌≡◌ {A = Result ℕ TextKind} (if b then Ok x else Err Unexpected) (Ok r) → (◌≡◌ {A = Result NameRef TextKind} (Ok (place.Scalar x)) (Ok (place.Scalar r))) × (is_auxiliary names r ≡ true)
    by true e g =
        let value : Result ℕ TextKind → ℕ = λ r. result_unwrap_or r x in
        let same : x ≡ r = ap value g in
        (ap (λ y. Ok (place.Scalar y)) same, ap (is_auxiliary names) (sym same) ∙ e)
    by false e g = cc
auxiliary_found names (Ok (place.Location x)) r h = cc
auxiliary_found names (Err why) r h = cc

one_more_found : (p n : ℕ) (i j : Input) (u : Unit {0}) → one_more p n i ≡ Ok (u, j) → (j ≡ i) × ((n ≡ zero) → ⊥)
one_more_found p zero i j u h = cc
one_more_found p (suc n) i j u h = (sym (ap (λ (q : Unit {0} × Input). q.1) (ok_same (tt, i) (u, j) h)), λ (e : suc n ≡ zero). cc)

assignment_found : (names : NameTable) (n : ℕ) (i j : Input) (a : AuxAssign) → assignment text_limits names n i ≡ Ok (a, j) → Passed (IsAssignment text_limits names) i a j × ((n ≡ zero) → ⊥)
unfolding assignment
assignment_found names n i j a h =
    bind_then (next i) _ (a, j) h (λ t l read rest.
    bind_then (allowed t.place (auxiliary_in names (named names t)) l) _ (a, j) rest (λ r m allows rest2.
    bind_then (and_then (and_then (one_more t.place n m) (λ u. expect s.Assign)) (λ u. expression text_limits names)) _ (a, j) rest2 (λ b p two end.
    bind_then (and_then (one_more t.place n m) (λ u. expect s.Assign)) (λ u. expression text_limits names) (b, p) two (λ v o three reads.
    bind_then (one_more t.place n m) (λ u. expect s.Assign) (v, o) three (λ w y more sets.
    allowed_then t.place (auxiliary_in names (named names t)) l (r, m) allows (λ q fine same.
    let found = next_found i l t read in
    let aux = auxiliary_found names (named names t) r (fine ∙ ap (λ (z : ℕ × Input). Ok z.0) same) in
    let one = one_more_found t.place n m y w more in
    let head = takes_then (takes_one names (scalar r) i m t found.0 (named_found names t (place.Scalar r) aux.0) (sym (ap (λ (z : ℕ × Input). z.1) same) ∙ found.1))
    (expect_found names s.Assign m o v (ap (expect s.Assign) (sym one.0) ∙ sets)) in
    let e1 = expression_found names o p b reads in (
      subst (λ (q : AuxAssign × Input). Passed (IsAssignment text_limits names) i q.0 q.1) (ok_same (record { target = r; expr = b }, p) (a, j) end)
          (record {
            is = record { mid = o.cursor; target = head.stand; auxiliary = aux.1; expr_is = e1.is };
            room = let hr = head.room in let er = e1.room in omega arith;
          }),
      one.1,
    )))))))

separator_found : (names : NameTable) (i j : Input) (b : Bool) → separator i ≡ Ok (b, j) → Takes names (sign (if b then s.Comma else s.Greater) ∷ []) 0 i j
unfolding separator
separator_found names i j b h =
    bind_then (next i) goes_on_or_ends (b, j) h (λ t l read rest. let found = next_found i l t read in by t l found.0 found.1 (is_sign s.Comma t.kind) refl rest)
  where
    second : (t : Lexeme) (l : Input) → token i.cursor ≡ Ok t → l ≡ record i { cursor = after i.cursor } → (c : Bool) → is_sign s.Greater t.kind ≡ c
        → ◌≡◌ {A = Outcome Bool} ((if c then pure false else refuse t.place Unexpected) l) (Ok (b, j)) → Takes names (sign (if b then s.Comma else s.Greater) ∷ []) 0 i j
    second t l read at true e g =
        subst (λ (q : Bool × Input). Takes names (sign (if q.0 then s.Comma else s.Greater) ∷ []) 0 i q.1) (ok_same (false, l) (b, j) g)
        (takes_one names (sign s.Greater) i l t read (is_sign_found s.Greater t.kind e) at)
    second t l read at false e g = cc

    by : (t : Lexeme) (l : Input) → token i.cursor ≡ Ok t → l ≡ record i { cursor = after i.cursor } → (c : Bool) → is_sign s.Comma t.kind ≡ c
        → ◌≡◌ {A = Outcome Bool} ((if c then pure true else (if is_sign s.Greater t.kind then pure false else refuse t.place Unexpected)) l) (Ok (b, j))
        → Takes names (sign (if b then s.Comma else s.Greater) ∷ []) 0 i j
    by t l read at true e g =
        subst (λ (q : Bool × Input). Takes names (sign (if q.0 then s.Comma else s.Greater) ∷ []) 0 i q.1) (ok_same (true, l) (b, j) g)
        (takes_one names (sign s.Comma) i l t read (is_sign_found s.Comma t.kind e) at)
    by t l read at false e g = second t l read at (is_sign s.Greater t.kind) refl g

-- the assignments that were read after others
record Behind (names : NameTable) (n : ℕ) (found : List AuxAssign) (i : Input) (all : List AuxAssign) (j : Input) : Type 0 where
  rest : List AuxAssign
  are : all ≡ found ++ rest
  is : AreAssignments text_limits names n i.cursor rest j.cursor
  room : i.room ≡ j.room

assignments_found : (names : NameTable) (n : ℕ) (found all : List AuxAssign) (i j : Input) → assignments_on text_limits names n found i ≡ Ok (all, j) → Behind names n found i all j
unfolding assignments_on
assignments_found names zero found all i j h =
    bind_then (assignment text_limits names zero i) _ (all, j) h (λ a l reads rest. absurd ((assignment_found names zero i l a reads).1 refl))
assignments_found names (suc n) found all i j h =
    bind_then (assignment text_limits names (suc n) i) _ (all, j) h (λ a l reads rest.
    bind_then (separator l) _ (all, j) rest (λ b m sep rest2.
    by a l (assignment_found names (suc n) i l a reads).0 b m (separator_found names l m b sep) (λ v. assignments_found names n (found ++ a ∷ []) all v j) rest2))
  where
    by : (a : AuxAssign) (l : Input) → Passed (IsAssignment text_limits names) i a l → (b : Bool) (m : Input) → Takes names (sign (if b then s.Comma else s.Greater) ∷ []) 0 l m
        → ((v : Input) → assignments_on text_limits names n (found ++ a ∷ []) v ≡ Ok (all, j) → Behind names n (found ++ a ∷ []) v all j)
        → (if b then assignments_on text_limits names n (found ++ a ∷ []) else pure (found ++ a ∷ [])) m ≡ Ok (all, j) → Behind names (suc n) found i all j
    by a l p true m t behind_it rest =
        let b = behind_it m rest in
        record {
          rest = a ∷ b.rest;
          are = b.are ∙ append_assoc found (a ∷ []) b.rest;
          is = g.one_more n a b.rest i.cursor l.cursor m.cursor j.cursor p.is (subst (Stands names (sign s.Comma) l.cursor) (sym t.stand.2) t.stand.1) b.is;
          room = let pr = p.room in let tr = t.room in let br = b.room in omega arith;
        }
    by a l p false m t behind_it rest =
        let same = ok_same (found ++ a ∷ [], m) (all, j) rest in
        let at : m ≡ j = ap (λ (q : List AuxAssign × Input). q.1) same in
        record {
          rest = a ∷ [];
          are = sym (ap (λ (q : List AuxAssign × Input). q.0) same);
          is = g.the_last n a i.cursor l.cursor j.cursor p.is (subst (λ q. Stands names (sign s.Greater) l.cursor q.cursor) at (subst (Stands names (sign s.Greater) l.cursor) (sym t.stand.2) t.stand.1));
          room = let pr = p.room in let tr = t.room in let ar = ap (λ q. q.room) at in omega arith;
        }

pub bracket_found : (names : NameTable) (i j : Input) (b : List AuxAssign) → bracket text_limits names i ≡ Ok (b, j) → Passed (IsBracket text_limits names) i b j
unfolding bracket
bracket_found names i j b h =
    bind_then (peek i) _ (b, j) h (λ t l sees rest.
    let p = peek_found i l t sees in
    by t p.0 (is_sign s.Less t.kind) refl (subst (λ q. bracket_by text_limits names (is_sign s.Less t.kind) q ≡ Ok (b, j)) p.1 rest))
  where
    by : (t : Lexeme) → token i.cursor ≡ Ok t → (c : Bool) → is_sign s.Less t.kind ≡ c → bracket_by text_limits names c i ≡ Ok (b, j) → Passed (IsBracket text_limits names) i b j
    by t read true e rest =
        bind_then (next i) (λ u. assignments_on text_limits names most_assignments []) (b, j) rest (λ w m takes rest2.
        let found = next_found i m w takes in
        let a = assignments_found names most_assignments [] b m j rest2 in
        record {
          is = g.a_bracket b i.cursor m.cursor j.cursor (record { lexeme = t; read = read; matches = is_sign_found s.Less t.kind e; behind = ap (λ q. q.cursor) found.1 })
              (subst (λ l. AreAssignments text_limits names most_assignments m.cursor l j.cursor) (sym a.are) a.is);
          room = let ar = a.room in let fr = ap (λ q. q.room) found.1 in omega arith;
        })
    by t read false e rest =
        let same = ok_same ([], i) (b, j) rest in
        subst (λ (q : List AuxAssign × Input). Passed (IsBracket text_limits names) i q.0 q.1) same (record { is = g.no_bracket i.cursor; room = refl })
