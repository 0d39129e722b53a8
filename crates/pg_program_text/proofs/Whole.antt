-- The statements and notes of a body are within the limits of a text.
use Rattle.pg_program_text.specs.Limits.{text_limits}
use Rattle.std.proofs.Common.{◌≡◌, ℕ, ◌+◌, ◌≤◌, Bool, true, false, List, [], ◌∷◌, length, map, refl, sym, ap, subst, ◌∙◌, arith}
use Rattle.std.specs.List.{All}
use Rattle.std.proofs.lemmas.List.{length-map}
use Rattle.std.proofs.lemmas.List.Elements.{All-nil, All-cons, All-head, All-tail, All-weaker}
use Rattle.pg_lex.specs.Lex.{Cursor}
use Rattle.pg_program.specs.declared.syntax.Expr.{Expr, fold-roll-Expr}
use Rattle.pg_program.specs.declared.syntax.Expr.TheVariants as e
use Rattle.pg_program.specs.declared.syntax.Expr.TheOpen as open_expr
use Rattle.pg_program.specs.declared.syntax.AuxAssign.{AuxAssign}
use Rattle.pg_program.specs.declared.syntax.Cond.{Cond}
use Rattle.pg_program.specs.declared.syntax.Stmt.{Stmt, roll-Stmt, out-roll-Stmt}
use Rattle.pg_program.specs.declared.syntax.Act.{Act, out-Act}
use Rattle.pg_program.specs.declared.syntax.Act.TheVariants as act
use Rattle.pg_program.specs.declared.syntax.Act.TheOpen.{Act-F, Stmt-F, Assign, Store, Load, Cas, Mfence, Sfence, Flush, Flushopt, If, While}
use Rattle.pg_program.specs.NameTable.{NameTable, IsNameTable}
use Rattle.pg_program.specs.Graph.{is_test_in}
use Rattle.pg_assertion.specs.declared.atom.ViewAtom.{ViewAtom}
use Rattle.pg_assertion.specs.declared.atom.RawAtom.{RawAtom}
use Rattle.pg_assertion.specs.Atom.{raw_of, RawDeclared}
use Rattle.pg_assertion.specs.Formula.{Plain, AllAtoms, with_atoms}
use Rattle.pg_assertion.specs.Formula as formula
use Rattle.pg_assertion_text.specs.declared.parse.TheConstants.{MAX_NODES}
use Rattle.pg_assertion_text.specs.Words.{location, scalar}
use Rattle.pg_assertion_text.specs.Words as item
use Rattle.pg_assertion_text.specs.Spelling.{AreNames, bracket}
use Rattle.pg_assertion_text.specs.SpellingLaws as formula_laws
use Rattle.pg_assertion_text.specs.ReadAgain.{IsWhole}
use Rattle.pg_assertion_text.specs.Within.{IsWritableRaw, IsWithin}
use Rattle.pg_assertion_text.proofs.Names.{item_fits}
use Rattle.pg_assertion_text.proofs.Within.{assertions_are_within, whole_within}
use Rattle.pg_assertion_text.proofs.Spelling.{bracket_small, each_mapped}
use Rattle.pg_program_text.specs.Limits.{most_assignments}
use Rattle.pg_program_text.specs.Expr as grammar
use Rattle.pg_program_text.specs.Thread.{bare}
use Rattle.pg_program_text.specs.Grammar as g
use Rattle.pg_program_text.specs.Grammar.{IsAct, IsExpr, IsAssignment, AreAssignments, IsBracket, IsTest}
use Rattle.pg_program_text.specs.Spelling.{Tree, number, name, sum, difference, product, tree, tree_step, is_sum, is_binary}
use Rattle.pg_program_text.specs.DeclaredNames.{Declared}
use Rattle.pg_program_text.specs.Measures.{opens, nodes, NumbersFit}
use Rattle.pg_program_text.specs.SpellingLaws.{WholeExpr, WholeTest, WholeAct, WholeAssignment, WholeStmt}
use Rattle.pg_program_text.specs.BodyLaws.{BodiesAreWhole, TextsSpeakOfNames}
use Rattle.pg_program_text.proofs.Bodies.{IsSimple, act_simple, opened, opened_if, opened_while, Meets, body_points}

-- ---- expressions

tree_number : (v : ℕ) → tree (e.Value v) ≡ number v
tree_number v = ap tree (sym (e.rolls-Value v)) ∙ fold-roll-Expr Tree tree_step (open_expr.Value v)

tree_name : (r : ℕ) → tree (e.Scalar r) ≡ name r
tree_name r = ap tree (sym (e.rolls-Scalar r)) ∙ fold-roll-Expr Tree tree_step (open_expr.Scalar r)

tree_sum : (a b : Expr) → tree (e.Add a b) ≡ sum (tree a) (tree b)
tree_sum a b = ap tree (sym (e.rolls-Add a b)) ∙ fold-roll-Expr Tree tree_step (open_expr.Add a b)

tree_difference : (a b : Expr) → tree (e.Sub a b) ≡ difference (tree a) (tree b)
tree_difference a b = ap tree (sym (e.rolls-Sub a b)) ∙ fold-roll-Expr Tree tree_step (open_expr.Sub a b)

tree_product : (a b : Expr) → tree (e.Mul a b) ≡ product (tree a) (tree b)
tree_product a b = ap tree (sym (e.rolls-Mul a b)) ∙ fold-roll-Expr Tree tree_step (open_expr.Mul a b)

-- a phrase of the rule needs a bracket to have this expression as a part
abbrev is_loose : grammar.Rule → Tree → Bool
is_loose grammar.factor t = is_binary t
is_loose grammar.term t = is_sum t
is_loose grammar.expr t = false

-- a looser rule needs no more brackets
below_term : (t : Tree) → bracket (is_sum t) ≤ bracket (is_binary t)
below_term (number v) = omega arith
below_term (name r) = omega arith
below_term (sum a b) = omega arith
below_term (difference a b) = omega arith
below_term (product a b) = omega arith

-- The canonical spelling of a phrase opens no more brackets than the phrase does, and has as many nodes.
record Fits (names : NameTable) (rule : grammar.Rule) (m n : ℕ) (t : Tree) : Type 0 where
  declared : Declared names t
  numbers : NumbersFit t
  shallow : bracket (is_loose rule t) + opens t ≤ m
  count : nodes t ≡ n

sum_fits : (names : NameTable) (m k n : ℕ) (a b : Tree) → Fits names grammar.expr m k a → Fits names grammar.term m n b → Fits names grammar.expr m (1 + (k + n)) (sum a b)
unfolding Declared NumbersFit opens nodes
sum_fits names m k n a b h l = record {
  declared = (h.declared, l.declared);
  numbers = (h.numbers, l.numbers);
  shallow = let left = h.shallow in let right = l.shallow in omega arith;
  count = let left = h.count in let right = l.count in omega arith;
}

difference_fits : (names : NameTable) (m k n : ℕ) (a b : Tree) → Fits names grammar.expr m k a → Fits names grammar.term m n b → Fits names grammar.expr m (1 + (k + n)) (difference a b)
unfolding Declared NumbersFit opens nodes
difference_fits names m k n a b h l = record {
  declared = (h.declared, l.declared);
  numbers = (h.numbers, l.numbers);
  shallow = let left = h.shallow in let right = l.shallow in omega arith;
  count = let left = h.count in let right = l.count in omega arith;
}

product_fits : (names : NameTable) (m k n : ℕ) (a b : Tree) → Fits names grammar.term m k a → Fits names grammar.factor m n b → Fits names grammar.term m (1 + (k + n)) (product a b)
unfolding Declared NumbersFit opens nodes
product_fits names m k n a b h l = record {
  declared = (h.declared, l.declared);
  numbers = (h.numbers, l.numbers);
  shallow = let left = h.shallow in let right = l.shallow in omega arith;
  count = let left = h.count in let right = l.count in omega arith;
}

phrase_fits : (names : NameTable) (rule : grammar.Rule) (m n : ℕ) (from : Cursor) (a : Expr) (to : Cursor) → grammar.Is names rule m n from a to → Fits names rule m n (tree a)
unfolding Declared NumbersFit opens nodes
phrase_fits names _ _ _ _ _ _ (grammar.a_number m v from to st) =
    subst (Fits names grammar.factor m 1) (sym (tree_number v)) (record { declared = tt; numbers = item_fits names (item.number v) from to st; shallow = omega arith; count = refl })
phrase_fits names _ _ _ _ _ _ (grammar.a_scalar m r from to st) =
    subst (Fits names grammar.factor m 1) (sym (tree_name r)) (record { declared = item_fits names (scalar r) from to st; numbers = tt; shallow = omega arith; count = refl })
phrase_fits names _ _ _ _ _ _ (grammar.a_bracket m n from mid end to a st is close) =
    let h = phrase_fits names grammar.expr m n mid a end is in
    let small = bracket_small (is_binary (tree a)) in
    record { declared = h.declared; numbers = h.numbers; shallow = let low = h.shallow in omega arith; count = h.count }
phrase_fits names _ _ _ _ _ _ (grammar.a_term m n from to a is) =
    let h = phrase_fits names grammar.factor m n from a to is in
    let looser = below_term (tree a) in
    record { declared = h.declared; numbers = h.numbers; shallow = let low = h.shallow in omega arith; count = h.count }
phrase_fits names _ _ _ _ _ _ (grammar.a_product m k n from mid behind to a b left st right) =
    subst (Fits names grammar.term m (1 + (k + n))) (sym (tree_product a b))
    (product_fits names m k n (tree a) (tree b) (phrase_fits names grammar.term m k from a mid left) (phrase_fits names grammar.factor m n behind b to right))
phrase_fits names _ _ _ _ _ _ (grammar.an_expr m n from to a is) =
    let h = phrase_fits names grammar.term m n from a to is in
    record { declared = h.declared; numbers = h.numbers; shallow = let low = h.shallow in omega arith; count = h.count }
phrase_fits names _ _ _ _ _ _ (grammar.a_sum m k n from mid behind to a b left st right) =
    subst (Fits names grammar.expr m (1 + (k + n))) (sym (tree_sum a b))
    (sum_fits names m k n (tree a) (tree b) (phrase_fits names grammar.expr m k from a mid left) (phrase_fits names grammar.term m n behind b to right))
phrase_fits names _ _ _ _ _ _ (grammar.a_difference m k n from mid behind to a b left st right) =
    subst (Fits names grammar.expr m (1 + (k + n))) (sym (tree_difference a b))
    (difference_fits names m k n (tree a) (tree b) (phrase_fits names grammar.expr m k from a mid left) (phrase_fits names grammar.term m n behind b to right))

whole_expr : (names : NameTable) (from : Cursor) (a : Expr) (to : Cursor) → IsExpr text_limits names from a to → WholeExpr names a
whole_expr names from a to is =
    let h = phrase_fits names grammar.expr _ is.nodes from a to is.is in
    record {
      writable = (h.declared, h.numbers);
      shallow = let low = h.shallow in omega arith;
      few = let few = is.few in let count = h.count in omega arith;
    }

whole_test : (names : NameTable) (from : Cursor) (c : Cond) (to : Cursor) → IsTest text_limits names from c to → WholeTest names c
whole_test names from c to is = (whole_expr names from c.left is.mid is.left, whole_expr names is.behind c.right to is.right)

-- ---- acts and brackets

whole_act : (names : NameTable) (from : Cursor) (a : Act) (to : Cursor) → IsAct text_limits names from a to → WholeAct names (out-Act a)
whole_act names _ _ _ (g.an_assign r a from mid to st is) =
    subst (WholeAct names) (sym (opened (act.Assign r a) (Assign r a) (act.rolls-Assign r a))) (item_fits names (scalar r) from st.0 st.1, whole_expr names mid a to is)
whole_act names _ _ _ (g.a_store x a from mid to st is) =
    subst (WholeAct names) (sym (opened (act.Store x a) (Store x a) (act.rolls-Store x a))) (item_fits names (location x) from st.0 st.1, whole_expr names mid a to is)
whole_act names _ _ _ (g.a_load r x from to st) =
    subst (WholeAct names) (sym (opened (act.Load r x) (Load r x) (act.rolls-Load r x))) (item_fits names (scalar r) from st.0 st.1, item_fits names (location x) st.2.0 st.2.2.0 st.2.2.1)
whole_act names _ _ _ (g.a_cas r x a b from mid end behind last to st left comma right close) =
    subst (WholeAct names) (sym (opened (act.Cas r x a b) (Cas r x a b) (act.rolls-Cas r x a b)))
    (item_fits names (scalar r) from st.0 st.1, item_fits names (location x) st.2.2.2.0 st.2.2.2.2.0 st.2.2.2.2.1, whole_expr names mid a end left, whole_expr names behind b last right)
whole_act names _ _ _ (g.an_mfence from to st) = subst (WholeAct names) (sym (opened act.Mfence Mfence act.rolls-Mfence)) tt
whole_act names _ _ _ (g.an_sfence from to st) = subst (WholeAct names) (sym (opened act.Sfence Sfence act.rolls-Sfence)) tt
whole_act names _ _ _ (g.a_flush x from to st) = subst (WholeAct names) (sym (opened (act.Flush x) (Flush x) (act.rolls-Flush x))) (item_fits names (location x) st.0 st.2.0 st.2.1)
whole_act names _ _ _ (g.a_flushopt x from to st) =
    subst (WholeAct names) (sym (opened (act.Flushopt x) (Flushopt x) (act.rolls-Flushopt x))) (item_fits names (location x) st.0 st.2.0 st.2.1)

record WholeBracket (names : NameTable) (n : ℕ) (b : List AuxAssign) : Type 0 where
  assignments : All (WholeAssignment names) b
  few : length b ≤ n

whole_assignment : (names : NameTable) (from : Cursor) (a : AuxAssign) (to : Cursor) → IsAssignment text_limits names from a to → WholeAssignment names a
whole_assignment names from a to is =
    record { target = item_fits names (scalar a.target) from is.target.0 is.target.1; auxiliary = is.auxiliary; expr_is = whole_expr names is.mid a.expr to is.expr_is }

whole_assignments : (names : NameTable) (n : ℕ) (from : Cursor) (b : List AuxAssign) (to : Cursor) → AreAssignments text_limits names n from b to → WholeBracket names n b
whole_assignments names _ _ _ _ (g.the_last n a from mid to is st) = record {
  assignments = All-cons (WholeAssignment names) a [] (whole_assignment names from a mid is) (All-nil (WholeAssignment names));
  few = omega arith;
}
whole_assignments names _ _ _ _ (g.one_more n a rest from mid behind to is st others) =
    let h = whole_assignments names n behind rest to others in
    record {
      assignments = All-cons (WholeAssignment names) a rest (whole_assignment names from a mid is) h.assignments;
      few = let few = h.few in omega arith;
    }

whole_bracket : (names : NameTable) (from : Cursor) (b : List AuxAssign) (to : Cursor) → IsBracket text_limits names from b to → WholeBracket names most_assignments b
whole_bracket names _ _ _ (g.no_bracket from) = record { assignments = All-nil (WholeAssignment names); few = omega arith }
whole_bracket names _ _ _ (g.a_bracket b from mid to st is) = whole_assignments names most_assignments mid b to is

-- ---- statements

-- a statement by its parts
record WholeRow (names : NameTable) (y : Stmt-F Act Stmt) : Type 0 where
  act : WholeAct names (out-Act y.act)
  bracket : WholeBracket names most_assignments y.aux
  bare : is_test_in (out-Act y.act) ≡ true → y.aux ≡ []

whole_stmt : (names : NameTable) (y : Stmt-F Act Stmt) → WholeRow names y → WholeStmt names (roll-Stmt y)
whole_stmt names y row =
    let h = subst (WholeRow names) (sym (out-roll-Stmt y)) row in
    record { act = h.act; assignments = h.bracket.assignments; few = h.bracket.few; bare = h.bare }

whole_simple : (names : NameTable) (a : Act) (b : List AuxAssign) → IsSimple (out-Act a) → WholeAct names (out-Act a) → WholeBracket names most_assignments b → WholeStmt names (roll-Stmt (record { act = a; aux = b }))
whole_simple names a b is h k = whole_stmt names (record { act = a; aux = b }) (record { act = h; bracket = k; bare = λ test. let no = is.simple in cc })

whole_bare : (names : NameTable) (a : Act) (x : Act-F Act Stmt) → out-Act a ≡ x → WholeAct names x → WholeStmt names (bare a)
whole_bare names a x is h =
    whole_stmt names (record { act = a; aux = [] }) (record {
      act = subst (WholeAct names) (sym is) h;
      bracket = record { assignments = All-nil (WholeAssignment names); few = omega arith };
      bare = λ test. refl;
    })

whole_statements : (names : NameTable) → Meets names (WholeStmt names)
whole_statements names = record {
  simple = λ a b from mid end is aux. whole_simple names a b (act_simple names from a mid is) (whole_act names from a mid is) (whole_bracket names mid b end aux);
  if_is = λ c a b from to test. whole_bare names (act.If c a b) (If c a b) (opened_if c a b) (whole_test names from c to test);
  while_is = λ c a from to test. whole_bare names (act.While c a) (While c a) (opened_while c a) (whole_test names from c to test);
}

-- ---- the laws

whole_notes : (names : NameTable) (fs : List (Plain ViewAtom)) → IsNameTable names → AreNames names → All (IsWithin IsWritableRaw names) (map (with_atoms raw_of) fs)
    → All (IsWhole formula_laws.IsWritable names) fs
whole_notes names [] table are h = All-nil (IsWhole formula_laws.IsWritable names)
whole_notes names (f ∷ fs) table are h =
    let raws = map (with_atoms raw_of) fs in
    let one = assertions_are_within names (with_atoms raw_of f) f refl (All-head (IsWithin IsWritableRaw names) (with_atoms raw_of f) raws h) in
    All-cons (IsWhole formula_laws.IsWritable names) f fs (whole_within formula_laws.IsWritable names f table are one)
    (whole_notes names fs table are (All-tail (IsWithin IsWritableRaw names) (with_atoms raw_of f) raws h))

pub bodies_are_whole : BodiesAreWhole
bodies_are_whole names from to l notes table are is same =
    let h = body_points names (WholeStmt names) (whole_statements names) from l.stmts l.notes to is.body in
    record {
      table = table;
      names_are = are;
      stmts = h.stmts;
      shallow = h.low;
      points = sym (length-map notes (with_atoms raw_of)) ∙ ap length same ∙ h.count;
      formulas = whole_notes names notes table are (subst (All (IsWithin IsWritableRaw names)) (sym same) h.notes);
    }

pub texts_speak_of_names : TextsSpeakOfNames
texts_speak_of_names names from to l is =
    let h = body_points names (WholeStmt names) (whole_statements names) from l.stmts l.notes to is.body in
    record {
      declared = All-weaker (IsWithin IsWritableRaw names) (AllAtoms (RawDeclared names)) (λ f w. each_mapped (λ (a : RawAtom) (k : IsWritableRaw names a). k.0) f w.atoms) l.notes h.notes;
      few = All-weaker (IsWithin IsWritableRaw names) (λ (f : Plain RawAtom). formula.nodes f ≤ MAX_NODES) (λ f w. w.few) l.notes h.notes;
    }
