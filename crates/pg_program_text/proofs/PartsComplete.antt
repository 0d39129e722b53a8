-- The parts of a statement that are in the grammar are read.
use Rattle.std.proofs.Common.{◌≡◌, ℕ, suc, ◌-◌, ◌<◌, Bool, true, false, Ok, Err, Some, None, List, [], ◌∷◌, ◌++◌, refl, ap, sym, ◌∙◌, subst, append_assoc}
use Rattle.std.specs.Prelude.{Option, if◌then◌else◌}
use Rattle.pg_lex.specs.declared.token.Sign.{Sign}
use Rattle.pg_lex.specs.declared.token.Sign.TheVariants as s
use Rattle.pg_lex.specs.declared.token.TokenKind.{TokenKind}
use Rattle.pg_lex.specs.declared.token.TokenKind.TheVariants as kind
use Rattle.pg_lex.specs.declared.fault.TextFault.TheVariants.{At}
use Rattle.pg_lex.specs.declared.fault.TextKind.TheVariants.{Unexpected}
use Rattle.pg_lex.specs.Lex.{Cursor, Lexeme, token}
use Rattle.pg_program.specs.NameTable.{NameTable}
use Rattle.pg_program.specs.declared.name_table.NameRef.{NameRef}
use Rattle.pg_program.specs.declared.name_table.NameRef.TheVariants as place
use Rattle.pg_program.specs.declared.syntax.Expr.{Expr}
use Rattle.pg_program.specs.declared.syntax.Cond.{Cond}
use Rattle.pg_program.specs.declared.syntax.Act.{Act}
use Rattle.pg_program.specs.declared.syntax.Act.TheVariants as act
use Rattle.pg_program.specs.declared.syntax.AuxAssign.{AuxAssign}
use Rattle.pg_assertion.specs.declared.atom.RawAtom.{RawAtom}
use Rattle.pg_assertion.specs.Formula.{Plain}
use Rattle.pg_assertion_text.specs.Words.{Stands, sign, word, location, scalar, is_reserved}
use Rattle.pg_assertion_text.specs.Input as input
use Rattle.pg_assertion_text.specs.Input.{Input, Outcome, Parser, and_then, ◌>>◌, ◌>>=◌, pure, refuse, allowed, peek, next, node, expect, is_sign, named}
use Rattle.pg_assertion_text.specs.Atoms.{raw_atom, IsRaw}
use Rattle.pg_assertion_text.proofs.AtomLaws.{raw_found, raw_again, raw_begins}
use Rattle.pg_assertion_text.specs.Parsing.{IsFormulaIn}
use Rattle.pg_assertion_text.proofs.Steps.{bind_value, peek_reads, stands_token, node_reads, expect_reads, location_reads, named_reads, sign_is_same}
use Rattle.pg_assertion_text.proofs.Whole.{formula_within_reads}
use Rattle.pg_program_text.specs.Limits.{Limits}
use Rattle.pg_program_text.specs.declared.keyword.Keyword.{Keyword}
use Rattle.pg_program_text.specs.declared.keyword.Keyword.TheVariants as k
use Rattle.pg_program_text.specs.Keywords.{spelling, keyword, keyword_by, keyword_of}
use Rattle.pg_program_text.specs.Expr as expr
use Rattle.pg_program_text.specs.Expr.{Rule, Is, sum, factor_of, a_number, a_scalar, a_bracket, a_term, a_product, an_expr, a_sum, a_difference}
use Rattle.pg_program_text.specs.Stmt.{with_room, expression, behind, formula, opens_note, opened, note, equal_at, settled, test_sign, a_test, operand, last_operand, swap, load_or_assign, assigned_by, assigned, to_name, act_by, an_act, auxiliary_in, one_more, assignment, goes_on_or_ends, separator, assignments_on, bracket_by, bracket}
use Rattle.pg_program_text.specs.Grammar.{IsExpr, IsNote, IsTest, IsAct, an_assign, a_store, a_load, a_cas, an_mfence, an_sfence, a_flush, a_flushopt, IsAssignment, AreAssignments, the_last, one_more as another, IsBracket, no_bracket, a_bracket as brackets, equality}
use Rattle.pg_program_text.proofs.ExprComplete.{at, EndsExpr, ends_before, expr_reads}
use Rattle.pg_program_text.proofs.PartsSound.{keyword_found}

-- the input further on
abbrev pub to_ : Input → Cursor → Input
to_ i c = record i { cursor = c }

-- ---- expressions, formulas, notes, tests

pub expression_reads : (limits : Limits) (names : NameTable) (i : Input) (a : Expr) (to : Cursor) → IsExpr limits names i.cursor a to → EndsExpr to → expression limits names i ≡ Ok (a, to_ i to)
unfolding expression
expression_reads limits names i a to is ends = ap (with_room i.room) (expr_reads names limits.brackets is.nodes i.cursor to a is.is ends limits.expression_nodes is.few)

pub formula_reads : (limits : Limits) (names : NameTable) (i : Input) (f : Plain RawAtom) (to : Cursor) → IsFormulaIn limits.formula_brackets limits.formula_nodes IsRaw names i.cursor f to → formula limits names i ≡ Ok (f, to_ i to)
unfolding formula
formula_reads limits names i f to is = ap (behind i) (formula_within_reads raw_atom IsRaw raw_found raw_again raw_begins limits.formula_brackets limits.formula_nodes names i.cursor to f is)

opened_reads : (names : NameTable) (i : Input) (to : Cursor) → Stands names (sign s.OpenSquare) i.cursor to → 0 < i.room → opened i ≡ Ok (tt, at to (i.room - 1))
unfolding opened
opened_reads names i to st some =
    bind_value (next i) opens_note st.lexeme (to_ i to) (stands_token names (sign s.OpenSquare) i to st)
    ∙ ap (λ z. (if is_sign s.OpenSquare z then node st.lexeme.place else refuse st.lexeme.place Unexpected) (to_ i to)) st.matches
    ∙ ap (λ b. (if b then node st.lexeme.place else refuse st.lexeme.place Unexpected) (to_ i to)) (sign_is_same s.OpenSquare)
    ∙ node_reads st.lexeme.place (to_ i to) some

pub note_reads : (limits : Limits) (names : NameTable) (i : Input) (f : Plain RawAtom) (to : Cursor) → IsNote limits names i.cursor f to → 0 < i.room → note limits names i ≡ Ok (f, at to (i.room - 1))
unfolding note
note_reads limits names i f to is some =
    ap (λ o. and_then (and_then o (λ u. formula limits names)) (λ f l. and_then (expect s.CloseSquare l) (λ u. pure f))) (opened_reads names i is.mid is.open_square some)
    ∙ ap (λ o. and_then o (λ f l. and_then (expect s.CloseSquare l) (λ u. pure f))) (formula_reads limits names (at is.mid (i.room - 1)) f is.end is.formula)
    ∙ ap (λ o. and_then o (λ u. pure f)) (expect_reads names s.CloseSquare (at is.end (i.room - 1)) to is.close_square)

equal_reads : (t : Lexeme) (b : Bool) → t.kind ≡ kind.Sign (equality b) → equal_at t ≡ Ok b
equal_reads t true h = ap (λ z. if is_sign s.Equal z then Ok true else (if is_sign s.NotEqual z then Ok false else Err (At t.place Unexpected))) h
equal_reads t false h = ap (λ z. if is_sign s.Equal z then Ok true else (if is_sign s.NotEqual z then Ok false else Err (At t.place Unexpected))) h

equality_ends : (names : NameTable) (b : Bool) (from to : Cursor) → Stands names (sign (equality b)) from to → EndsExpr from
equality_ends names true from to st = ends_before names s.Equal from to st refl refl refl
equality_ends names false from to st = ends_before names s.NotEqual from to st refl refl refl

pub test_reads : (limits : Limits) (names : NameTable) (i : Input) (c : Cond) (to : Cursor) → IsTest limits names i.cursor c to → EndsExpr to → a_test limits names i ≡ Ok (c, to_ i to)
unfolding a_test test_sign
test_reads limits names i c to is ends =
    let st = is.equality_is in
    bind_value (expression limits names i) _ c.left (to_ i is.mid) (expression_reads limits names i c.left is.mid is.left (equality_ends names c.equal is.mid is.behind st))
    ∙ bind_value (test_sign (to_ i is.mid)) _ c.equal (to_ i is.behind)
    (bind_value (next (to_ i is.mid)) (λ t. settled (equal_at t)) st.lexeme (to_ i is.behind) (stands_token names (sign (equality c.equal)) (to_ i is.mid) is.behind st)
    ∙ ap (λ r. settled r (to_ i is.behind)) (equal_reads st.lexeme c.equal st.matches))
    ∙ ap (λ o. and_then o (λ b. pure (record { left = c.left; right = b; equal = c.equal }))) (expression_reads limits names (to_ i is.behind) c.right to is.right ends)

-- ---- keywords

keyword_of_spelling : (x : Keyword) → keyword_of (spelling x) ≡ Some x
keyword_of_spelling k.Mfence = refl
keyword_of_spelling k.Sfence = refl
keyword_of_spelling k.Flush = refl
keyword_of_spelling k.Flushopt = refl
keyword_of_spelling k.Cas = refl
keyword_of_spelling k.If = refl
keyword_of_spelling k.Else = refl
keyword_of_spelling k.While = refl

pub keyword_reads : (t : Lexeme) (x : Keyword) → t.kind ≡ kind.Word → t.text ≡ spelling x → keyword t ≡ Some x
unfolding keyword
keyword_reads t x is spelled = ap (λ z. keyword_by z t.text) is ∙ ap keyword_of spelled ∙ keyword_of_spelling x

pub sign_no_keyword : (t : Lexeme) (z : Sign) → t.kind ≡ kind.Sign z → keyword t ≡ None
unfolding keyword
sign_no_keyword t z h = ap (λ q. keyword_by q t.text) h

number_no_keyword : (t : Lexeme) (n : ℕ) → t.kind ≡ kind.Number n → keyword t ≡ None
unfolding keyword
number_no_keyword t n h = ap (λ q. keyword_by q t.text) h

keywords_reserved : (x : Keyword) → is_reserved (spelling x) ≡ true
unfolding is_reserved
keywords_reserved k.Mfence = refl
keywords_reserved k.Sfence = refl
keywords_reserved k.Flush = refl
keywords_reserved k.Flushopt = refl
keywords_reserved k.Cas = refl
keywords_reserved k.If = refl
keywords_reserved k.Else = refl
keywords_reserved k.While = refl

-- a name is no keyword
pub name_no_keyword : (t : Lexeme) → is_reserved t.text ≡ false → keyword t ≡ None
name_no_keyword t free = by (keyword t) refl
  where
    by : (o : Option Keyword) → keyword t ≡ o → o ≡ None
    by None h = refl
    by (Some x) h = let same = ap is_reserved (keyword_found t x h).1 ∙ keywords_reserved x in cc

-- ---- acts

-- the first token of an expression: no keyword, and no name of a location
record FirstOfExpr (limits : Limits) (names : NameTable) (c : Cursor) : Type 0 where
  lexeme : Lexeme
  read : token c ≡ Ok lexeme
  no_keyword : keyword lexeme ≡ None
  assigns : (r : ℕ) → load_or_assign limits names r (named names lexeme) ≡ (expression limits names >>= (λ a. pure (act.Assign r a)))

not_named : (names : NameTable) (t : Lexeme) (z : TokenKind) → t.kind ≡ z → input.named_by names z t.text ≡ Err Unexpected → named names t ≡ Err Unexpected
unfolding named
not_named names t z is err = ap (λ q. input.named_by names q t.text) is ∙ err

expr_first : (limits : Limits) (names : NameTable) (rule : Rule) (m n : ℕ) (from to : Cursor) (a : Expr) → Is names rule m n from a to → FirstOfExpr limits names from
expr_first limits names _ _ _ _ _ _ (a_number m v from to st) = record {
  lexeme = st.lexeme;
  read = st.read;
  no_keyword = number_no_keyword st.lexeme v st.matches;
  assigns = λ r. ap (load_or_assign limits names r) (not_named names st.lexeme (kind.Number v) st.matches refl);
}
expr_first limits names _ _ _ _ _ _ (a_scalar m q from to st) = record {
  lexeme = st.lexeme;
  read = st.read;
  no_keyword = name_no_keyword st.lexeme st.matches.1;
  assigns = λ r. ap (load_or_assign limits names r) (named_reads names st.lexeme (place.Scalar q) st.matches.0 st.matches.1 st.matches.2);
}
expr_first limits names _ _ _ _ _ _ (a_bracket m n from mid end to a st is close) = record {
  lexeme = st.lexeme;
  read = st.read;
  no_keyword = sign_no_keyword st.lexeme s.Open st.matches;
  assigns = λ r. ap (load_or_assign limits names r) (not_named names st.lexeme (kind.Sign s.Open) st.matches refl);
}
expr_first limits names _ _ _ _ _ _ (a_term m n from to a is) = expr_first limits names expr.factor m n from to a is
expr_first limits names _ _ _ _ _ _ (a_product m k n from mid behind to a b is st more) = expr_first limits names expr.term m k from mid a is
expr_first limits names _ _ _ _ _ _ (an_expr m n from to a is) = expr_first limits names expr.term m n from to a is
expr_first limits names _ _ _ _ _ _ (a_sum m k n from mid behind to a b is st more) = expr_first limits names expr.expr m k from mid a is
expr_first limits names _ _ _ _ _ _ (a_difference m k n from mid behind to a b is st more) = expr_first limits names expr.expr m k from mid a is

-- `name :=` in front of what it assigns
named_reads_act : (limits : Limits) (names : NameTable) (i : Input) (q : NameRef) (mid : Cursor) (t : Lexeme) → next i ≡ Ok (t, to_ i mid) → keyword t ≡ None → named names t ≡ Ok q
    → an_act limits names i ≡ to_name limits names q (to_ i mid)
unfolding an_act
named_reads_act limits names i q mid t takes none is =
    bind_value (next i) (λ t. act_by limits names t (keyword t)) t (to_ i mid) takes
    ∙ ap (λ o. act_by limits names t o (to_ i mid)) none
    ∙ ap (λ r. and_then (allowed t.place r (to_ i mid)) (to_name limits names)) is

scalar_act : (limits : Limits) (names : NameTable) (i : Input) (r : ℕ) (mid end : Cursor) → Stands names (scalar r) i.cursor mid → Stands names (sign s.Assign) mid end → an_act limits names i ≡ assigned limits names r (to_ i end)
scalar_act limits names i r mid end st sets =
    named_reads_act limits names i (place.Scalar r) mid st.lexeme (stands_token names (scalar r) i mid st) (name_no_keyword st.lexeme st.matches.1)
    (named_reads names st.lexeme (place.Scalar r) st.matches.0 st.matches.1 st.matches.2)
    ∙ ap (λ o. and_then o (λ u. assigned limits names r)) (expect_reads names s.Assign (to_ i mid) end sets)

assign_reads : (limits : Limits) (names : NameTable) (i : Input) (r : ℕ) (a : Expr) (to : Cursor) → IsExpr limits names i.cursor a to → EndsExpr to → assigned limits names r i ≡ Ok (act.Assign r a, to_ i to)
unfolding assigned
assign_reads limits names i r a to is ends =
    let f = expr_first limits names expr.expr limits.brackets is.nodes i.cursor to a is.is in
    bind_value (peek i) (λ t. assigned_by limits names r t (keyword t)) f.lexeme i (peek_reads i f.lexeme f.read)
    ∙ ap (λ o. assigned_by limits names r f.lexeme o i) f.no_keyword
    ∙ ap (λ (p : Parser Act). p i) (f.assigns r)
    ∙ ap (λ o. and_then o (λ a. pure (act.Assign r a))) (expression_reads limits names i a to is ends)

load_reads : (limits : Limits) (names : NameTable) (i : Input) (r x : ℕ) (to : Cursor) → Stands names (location x) i.cursor to → assigned limits names r i ≡ Ok (act.Load r x, to_ i to)
unfolding assigned
load_reads limits names i r x to st =
    bind_value (peek i) (λ t. assigned_by limits names r t (keyword t)) st.lexeme i (peek_reads i st.lexeme st.read)
    ∙ ap (λ o. assigned_by limits names r st.lexeme o i) (name_no_keyword st.lexeme st.matches.1)
    ∙ ap (λ q. load_or_assign limits names r q i) (named_reads names st.lexeme (place.Location x) st.matches.0 st.matches.1 st.matches.2)
    ∙ ap (λ o. and_then o (λ u. pure (act.Load r x))) (stands_token names (location x) i to st)

operand_reads : (limits : Limits) (names : NameTable) (i : Input) (a : Expr) (mid to : Cursor) → Stands names (sign s.Comma) i.cursor mid → IsExpr limits names mid a to → EndsExpr to → operand limits names i ≡ Ok (a, to_ i to)
unfolding operand
operand_reads limits names i a mid to comma is ends =
    ap (λ o. and_then o (λ u. expression limits names)) (expect_reads names s.Comma i mid comma) ∙ expression_reads limits names (to_ i mid) a to is ends

swap_reads : (limits : Limits) (names : NameTable) (i : Input) (r x : ℕ) (a b : Expr) (c1 c2 c3 c4 c5 c6 to : Cursor) → Stands names (word (spelling k.Cas)) i.cursor c1 → Stands names (sign s.Open) c1 c2
    → Stands names (location x) c2 c3 → Stands names (sign s.Comma) c3 c4 → IsExpr limits names c4 a c5 → Stands names (sign s.Comma) c5 c6 → (last : Cursor) → IsExpr limits names c6 b last → Stands names (sign s.Close) last to
    → assigned limits names r i ≡ Ok (act.Cas r x a b, to_ i to)
unfolding assigned swap last_operand
swap_reads limits names i r x a b c1 c2 c3 c4 c5 c6 to st open_b loc comma e1 comma2 last e2 close =
    let t = st.lexeme in
    bind_value (peek i) (λ t. assigned_by limits names r t (keyword t)) t i (peek_reads i t st.read)
    ∙ ap (λ o. assigned_by limits names r t o i) (keyword_reads t k.Cas st.matches.0 st.matches.1)
    ∙ ap (λ o. and_then o (λ u. swap limits names r)) (stands_token names (word (spelling k.Cas)) i c1 st)
    ∙ bind_value (and_then (expect s.Open (to_ i c1)) (λ u. input.location names)) _ x (to_ i c3)
    (ap (λ o. and_then o (λ u. input.location names)) (expect_reads names s.Open (to_ i c1) c2 open_b) ∙ location_reads names x (to_ i c2) c3 loc)
    ∙ bind_value (operand limits names (to_ i c3)) _ a (to_ i c5) (operand_reads limits names (to_ i c3) a c4 c5 comma e1 (ends_before names s.Comma c5 c6 comma2 refl refl refl))
    ∙ ap (λ o. and_then o (λ b. pure (act.Cas r x a b)))
    (bind_value (operand limits names (to_ i c5)) _ b (to_ i last) (operand_reads limits names (to_ i c5) b c6 last comma2 e2 (ends_before names s.Close last to close refl refl refl))
    ∙ ap (λ o. and_then o (λ u. pure b)) (expect_reads names s.Close (to_ i last) to close))

-- an act that a keyword begins
keyword_act : (limits : Limits) (names : NameTable) (i : Input) (x : Keyword) (mid : Cursor) (st : Stands names (word (spelling x)) i.cursor mid) → an_act limits names i ≡ act_by limits names st.lexeme (Some x) (to_ i mid)
unfolding an_act
keyword_act limits names i x mid st =
    bind_value (next i) (λ t. act_by limits names t (keyword t)) st.lexeme (to_ i mid) (stands_token names (word (spelling x)) i mid st)
    ∙ ap (λ o. act_by limits names st.lexeme o (to_ i mid)) (keyword_reads st.lexeme x st.matches.0 st.matches.1)

pub act_reads : (limits : Limits) (names : NameTable) (room : ℕ) (from : Cursor) (a : Act) (to : Cursor) → IsAct limits names from a to → EndsExpr to → an_act limits names (at from room) ≡ Ok (a, at to room)
act_reads limits names room _ _ _ (an_assign r a from mid to st is) ends =
    scalar_act limits names (at from room) r st.0 st.2.0 st.1 st.2.1
    ∙ assign_reads limits names (at st.2.0 room) r a to (subst (λ c. IsExpr limits names c a to) st.2.2 is) ends
act_reads limits names room _ _ _ (a_store x a from mid to st is) ends =
    named_reads_act limits names (at from room) (place.Location x) st.0 st.1.lexeme (stands_token names (location x) (at from room) st.0 st.1) (name_no_keyword st.1.lexeme st.1.matches.1)
    (named_reads names st.1.lexeme (place.Location x) st.1.matches.0 st.1.matches.1 st.1.matches.2)
    ∙ ap (λ o. and_then (and_then o (λ u. expression limits names)) (λ a. pure (act.Store x a))) (expect_reads names s.Assign (at st.0 room) st.2.0 st.2.1)
    ∙ ap (λ o. and_then o (λ a. pure (act.Store x a))) (expression_reads limits names (at st.2.0 room) a to (subst (λ c. IsExpr limits names c a to) st.2.2 is) ends)
act_reads limits names room _ _ _ (a_load r x from to st) ends =
    scalar_act limits names (at from room) r st.0 st.2.0 st.1 st.2.1
    ∙ load_reads limits names (at st.2.0 room) r x st.2.2.0 st.2.2.1
    ∙ ap (λ c. Ok (act.Load r x, at c room)) (sym st.2.2.2)
act_reads limits names room _ _ _ (a_cas r x a b from mid end behind last to st e1 comma e2 close) ends =
    let rest = st.2.2 in
    scalar_act limits names (at from room) r st.0 st.2.0 st.1 st.2.1
    ∙ swap_reads limits names (at st.2.0 room) r x a b rest.0 rest.2.0 rest.2.2.0 rest.2.2.2.0 end behind to rest.1 rest.2.1 rest.2.2.1 rest.2.2.2.1
    (subst (λ c. IsExpr limits names c a end) rest.2.2.2.2 e1) comma last e2 close
act_reads limits names room _ _ _ (an_mfence from to st) ends = keyword_act limits names (at from room) k.Mfence to st
act_reads limits names room _ _ _ (an_sfence from to st) ends = keyword_act limits names (at from room) k.Sfence to st
act_reads limits names room _ _ _ (a_flush x from to st) ends =
    keyword_act limits names (at from room) k.Flush st.0 st.1
    ∙ ap (λ o. and_then o (λ x. pure (act.Flush x))) (location_reads names x (at st.0 room) st.2.0 st.2.1)
    ∙ ap (λ c. Ok (act.Flush x, at c room)) (sym st.2.2)
act_reads limits names room _ _ _ (a_flushopt x from to st) ends =
    keyword_act limits names (at from room) k.Flushopt st.0 st.1
    ∙ ap (λ o. and_then o (λ x. pure (act.Flushopt x))) (location_reads names x (at st.0 room) st.2.0 st.2.1)
    ∙ ap (λ c. Ok (act.Flushopt x, at c room)) (sym st.2.2)

-- ---- brackets

assignment_reads : (limits : Limits) (names : NameTable) (n room : ℕ) (from : Cursor) (a : AuxAssign) (to : Cursor) → IsAssignment limits names from a to → EndsExpr to → assignment limits names (suc n) (at from room) ≡ Ok (a, at to room)
unfolding assignment
assignment_reads limits names n room from a to is ends =
    let st = is.target in
    let t = st.1.lexeme in
    let m = st.1.matches in
    bind_value (next (at from room)) _ t (at st.0 room) (stands_token names (scalar a.target) (at from room) st.0 st.1)
    ∙ ap (λ q. and_then (allowed t.place (auxiliary_in names q) (at st.0 room)) (λ r i. and_then (and_then (and_then (one_more t.place (suc n) i) (λ u. expect s.Assign)) (λ u. expression limits names)) (λ b. pure (record { target = r; expr = b }))))
    (named_reads names t (place.Scalar a.target) m.0 m.1 m.2)
    ∙ ap (λ b. and_then (allowed t.place (if b then Ok a.target else Err Unexpected) (at st.0 room)) (λ r i. and_then (and_then (and_then (one_more t.place (suc n) i) (λ u. expect s.Assign)) (λ u. expression limits names)) (λ b. pure (record { target = r; expr = b }))))
    is.auxiliary
    ∙ ap (λ o. and_then (and_then o (λ u. expression limits names)) (λ b. pure (record { target = a.target; expr = b }))) (expect_reads names s.Assign (at st.0 room) st.2.0 st.2.1)
    ∙ ap (λ o. and_then o (λ b. pure (record { target = a.target; expr = b }))) (expression_reads limits names (at st.2.0 room) a.expr to (subst (λ c. IsExpr limits names c a.expr to) st.2.2 is.expr_is) ends)

separates : (names : NameTable) (b : Bool) (room : ℕ) (from to : Cursor) → Stands names (sign (if b then s.Comma else s.Greater)) from to → separator (at from room) ≡ Ok (b, at to room)
unfolding separator
separates names true room from to st =
    bind_value (next (at from room)) goes_on_or_ends st.lexeme (at to room) (stands_token names (sign s.Comma) (at from room) to st)
    ∙ ap (λ z. (if is_sign s.Comma z then pure true else (if is_sign s.Greater z then pure false else refuse st.lexeme.place Unexpected)) (at to room)) st.matches
separates names false room from to st =
    bind_value (next (at from room)) goes_on_or_ends st.lexeme (at to room) (stands_token names (sign s.Greater) (at from room) to st)
    ∙ ap (λ z. (if is_sign s.Comma z then pure true else (if is_sign s.Greater z then pure false else refuse st.lexeme.place Unexpected)) (at to room)) st.matches

assignments_read : (limits : Limits) (names : NameTable) (n room : ℕ) (found : List AuxAssign) (from : Cursor) (b : List AuxAssign) (to : Cursor) → AreAssignments limits names n from b to
    → assignments_on limits names n found (at from room) ≡ Ok (found ++ b, at to room)
unfolding assignments_on
assignments_read limits names _ room found _ _ _ (the_last n a from mid to is ends) =
    bind_value (assignment limits names (suc n) (at from room)) _ a (at mid room) (assignment_reads limits names n room from a mid is (ends_before names s.Greater mid to ends refl refl refl))
    ∙ ap (λ o. and_then o (λ more. if more then assignments_on limits names n (found ++ a ∷ []) else pure (found ++ a ∷ []))) (separates names false room mid to ends)
assignments_read limits names _ room found _ _ _ (another n a rest from mid behind to is comma more) =
    bind_value (assignment limits names (suc n) (at from room)) _ a (at mid room) (assignment_reads limits names n room from a mid is (ends_before names s.Comma mid behind comma refl refl refl))
    ∙ ap (λ o. and_then o (λ more. if more then assignments_on limits names n (found ++ a ∷ []) else pure (found ++ a ∷ []))) (separates names true room mid behind comma)
    ∙ assignments_read limits names n room (found ++ a ∷ []) behind rest to more
    ∙ ap (λ l. Ok (l, at to room)) (append_assoc found (a ∷ []) rest)

pub bracket_reads : (limits : Limits) (names : NameTable) (room : ℕ) (from : Cursor) (b : List AuxAssign) (to end : Cursor) → IsBracket limits names from b to → Stands names (sign s.Semicolon) to end → bracket limits names (at from room) ≡ Ok (b, at to room)
unfolding bracket
bracket_reads limits names room _ _ _ end (no_bracket from) semi =
    bind_value (peek (at from room)) (λ t. bracket_by limits names (is_sign s.Less t.kind)) semi.lexeme (at from room) (peek_reads (at from room) semi.lexeme semi.read)
    ∙ ap (λ z. bracket_by limits names (is_sign s.Less z) (at from room)) semi.matches
bracket_reads limits names room _ _ _ end (brackets b from mid to st are) semi =
    bind_value (peek (at from room)) (λ t. bracket_by limits names (is_sign s.Less t.kind)) st.lexeme (at from room) (peek_reads (at from room) st.lexeme st.read)
    ∙ ap (λ z. bracket_by limits names (is_sign s.Less z) (at from room)) st.matches
    ∙ ap (λ o. and_then o (λ u. assignments_on limits names limits.assignments [])) (stands_token names (sign s.Less) (at from room) mid st)
    ∙ assignments_read limits names limits.assignments room [] mid b to are

-- what stands after an act ends its expression
pub bracket_ends : (limits : Limits) (names : NameTable) (from : Cursor) (b : List AuxAssign) (to end : Cursor) → IsBracket limits names from b to → Stands names (sign s.Semicolon) to end → EndsExpr from
bracket_ends limits names _ _ _ end (no_bracket from) semi = ends_before names s.Semicolon from end semi refl refl refl
bracket_ends limits names _ _ _ end (brackets b from mid to st are) semi = ends_before names s.Less from mid st refl refl refl
