-- The statements of a body are over declared names, and the body has a note for each of their points.
use Rattle.pg_program_text.specs.Limits.{text_limits}
use Rattle.std.proofs.Common.{◌≡◌, ℕ, ◌<◌, true, List, [], ◌∷◌, ◌++◌, length, map, refl, sym, ap, subst, ◌∙◌, arith}
use Rattle.std.specs.List.{All}
use Rattle.std.proofs.lemmas.List.Elements.{All-nil, All-cons, All-append}
use Rattle.pg_lex.specs.Lex.{Cursor}
use Rattle.pg_program.specs.declared.syntax.Expr.{Expr, fold-roll-Expr}
use Rattle.pg_program.specs.declared.syntax.Expr.TheVariants as e
use Rattle.pg_program.specs.declared.syntax.Expr.TheOpen as open_expr
use Rattle.pg_program.specs.declared.syntax.AuxAssign.{AuxAssign}
use Rattle.pg_program.specs.declared.syntax.Cond.{Cond}
use Rattle.pg_program.specs.declared.syntax.Stmt.{Stmt, roll-Stmt, out-roll-Stmt}
use Rattle.pg_program.specs.declared.syntax.Act.{Act, out-Act}
use Rattle.pg_program.specs.declared.syntax.Act.TheVariants as act
use Rattle.pg_program.specs.declared.syntax.Act.TheOpen.{Act-F, Stmt-F, Assign, Store, Load, Cas, Mfence, Sfence, Flush, Flushopt, If, While}
use Rattle.pg_program.specs.NameTable.{NameTable, is_auxiliary}
use Rattle.pg_program.specs.Expr.{reads, reads_step}
use Rattle.pg_program.specs.Graph.{is_test_in}
use Rattle.pg_program.specs.Words.{outside_in, locations_in, bracket_scalars}
use Rattle.pg_program.specs.Program.{IsStmt}
use Rattle.pg_assertion_text.specs.Words.{location, scalar}
use Rattle.pg_assertion_text.proofs.Names.{item_fits}
use Rattle.pg_program_text.specs.Expr as grammar
use Rattle.pg_program_text.specs.Thread.{bare}
use Rattle.pg_program_text.specs.Grammar as g
use Rattle.pg_program_text.specs.Grammar.{IsAct, IsExpr, IsAssignment, AreAssignments, IsBracket, IsTest}
use Rattle.pg_program_text.specs.BodyLaws.{BodiesAreThreads}
use Rattle.pg_program_text.proofs.Bodies.{IsSimple, act_simple, opened, opened_if, opened_while, Meets, body_points}

-- ---- expressions

abbrev Declared : NameTable → List ℕ → Type 0
Declared names rs = All (λ r. r < length names.scalars) rs

abbrev Located : NameTable → List ℕ → Type 0
Located names xs = All (λ x. x < length names.locations) xs

reads_number : (v : ℕ) → reads (e.Value v) ≡ []
reads_number v = ap reads (sym (e.rolls-Value v)) ∙ fold-roll-Expr (List ℕ) reads_step (open_expr.Value v)

reads_name : (r : ℕ) → reads (e.Scalar r) ≡ r ∷ []
reads_name r = ap reads (sym (e.rolls-Scalar r)) ∙ fold-roll-Expr (List ℕ) reads_step (open_expr.Scalar r)

reads_sum : (a b : Expr) → reads (e.Add a b) ≡ reads a ++ reads b
reads_sum a b = ap reads (sym (e.rolls-Add a b)) ∙ fold-roll-Expr (List ℕ) reads_step (open_expr.Add a b)

reads_difference : (a b : Expr) → reads (e.Sub a b) ≡ reads a ++ reads b
reads_difference a b = ap reads (sym (e.rolls-Sub a b)) ∙ fold-roll-Expr (List ℕ) reads_step (open_expr.Sub a b)

reads_product : (a b : Expr) → reads (e.Mul a b) ≡ reads a ++ reads b
reads_product a b = ap reads (sym (e.rolls-Mul a b)) ∙ fold-roll-Expr (List ℕ) reads_step (open_expr.Mul a b)

two_sides : (names : NameTable) (a b : Expr) → Declared names (reads a) → Declared names (reads b) → Declared names (reads a ++ reads b)
two_sides names a b h k = All-append (λ (r : ℕ). r < length names.scalars) (reads a) (reads b) h k

phrase_declared : (names : NameTable) (rule : grammar.Rule) (m n : ℕ) (from : Cursor) (a : Expr) (to : Cursor) → grammar.Is names rule m n from a to → Declared names (reads a)
phrase_declared names _ _ _ _ _ _ (grammar.a_number m v from to st) = subst (Declared names) (sym (reads_number v)) (All-nil (λ (r : ℕ). r < length names.scalars))
phrase_declared names _ _ _ _ _ _ (grammar.a_scalar m r from to st) =
    subst (Declared names) (sym (reads_name r)) (All-cons (λ (q : ℕ). q < length names.scalars) r [] (item_fits names (scalar r) from to st) (All-nil (λ (q : ℕ). q < length names.scalars)))
phrase_declared names _ _ _ _ _ _ (grammar.a_bracket m n from mid end to a st is close) = phrase_declared names grammar.expr m n mid a end is
phrase_declared names _ _ _ _ _ _ (grammar.a_term m n from to a is) = phrase_declared names grammar.factor m n from a to is
phrase_declared names _ _ _ _ _ _ (grammar.a_product m k n from mid behind to a b left st right) =
    subst (Declared names) (sym (reads_product a b)) (two_sides names a b (phrase_declared names grammar.term m k from a mid left) (phrase_declared names grammar.factor m n behind b to right))
phrase_declared names _ _ _ _ _ _ (grammar.an_expr m n from to a is) = phrase_declared names grammar.term m n from a to is
phrase_declared names _ _ _ _ _ _ (grammar.a_sum m k n from mid behind to a b left st right) =
    subst (Declared names) (sym (reads_sum a b)) (two_sides names a b (phrase_declared names grammar.expr m k from a mid left) (phrase_declared names grammar.term m n behind b to right))
phrase_declared names _ _ _ _ _ _ (grammar.a_difference m k n from mid behind to a b left st right) =
    subst (Declared names) (sym (reads_difference a b)) (two_sides names a b (phrase_declared names grammar.expr m k from a mid left) (phrase_declared names grammar.term m n behind b to right))

expr_declared : (names : NameTable) (from : Cursor) (a : Expr) (to : Cursor) → IsExpr text_limits names from a to → Declared names (reads a)
expr_declared names from a to is = phrase_declared names grammar.expr _ is.nodes from a to is.is

-- ---- acts

record ActDeclared (names : NameTable) (x : Act-F Act Stmt) : Type 0 where
  scalars : Declared names (outside_in x)
  locations : Located names (locations_in x)

no_scalars : (names : NameTable) → Declared names []
no_scalars names = All-nil (λ (r : ℕ). r < length names.scalars)

with_scalar : (names : NameTable) (r : ℕ) (rs : List ℕ) → r < length names.scalars → Declared names rs → Declared names (r ∷ rs)
with_scalar names r rs h k = All-cons (λ (q : ℕ). q < length names.scalars) r rs h k

no_locations : (names : NameTable) → Located names []
no_locations names = All-nil (λ (x : ℕ). x < length names.locations)

one_location : (names : NameTable) (x : ℕ) → x < length names.locations → Located names (x ∷ [])
one_location names x h = All-cons (λ (y : ℕ). y < length names.locations) x [] h (no_locations names)

act_declared : (names : NameTable) (from : Cursor) (a : Act) (to : Cursor) → IsAct text_limits names from a to → ActDeclared names (out-Act a)
act_declared names _ _ _ (g.an_assign r a from mid to st is) =
    subst (ActDeclared names) (sym (opened (act.Assign r a) (Assign r a) (act.rolls-Assign r a))) (record {
      scalars = with_scalar names r (reads a) (item_fits names (scalar r) from st.0 st.1) (expr_declared names mid a to is);
      locations = no_locations names;
    })
act_declared names _ _ _ (g.a_store x a from mid to st is) =
    subst (ActDeclared names) (sym (opened (act.Store x a) (Store x a) (act.rolls-Store x a))) (record {
      scalars = expr_declared names mid a to is;
      locations = one_location names x (item_fits names (location x) from st.0 st.1);
    })
act_declared names _ _ _ (g.a_load r x from to st) =
    subst (ActDeclared names) (sym (opened (act.Load r x) (Load r x) (act.rolls-Load r x))) (record {
      scalars = with_scalar names r [] (item_fits names (scalar r) from st.0 st.1) (no_scalars names);
      locations = one_location names x (item_fits names (location x) st.2.0 st.2.2.0 st.2.2.1);
    })
act_declared names _ _ _ (g.a_cas r x a b from mid end behind last to st left comma right close) =
    subst (ActDeclared names) (sym (opened (act.Cas r x a b) (Cas r x a b) (act.rolls-Cas r x a b))) (record {
      scalars = with_scalar names r (reads a ++ reads b) (item_fits names (scalar r) from st.0 st.1) (two_sides names a b (expr_declared names mid a end left) (expr_declared names behind b last right));
      locations = one_location names x (item_fits names (location x) st.2.2.2.0 st.2.2.2.2.0 st.2.2.2.2.1);
    })
act_declared names _ _ _ (g.an_mfence from to st) =
    subst (ActDeclared names) (sym (opened act.Mfence Mfence act.rolls-Mfence)) (record { scalars = no_scalars names; locations = no_locations names })
act_declared names _ _ _ (g.an_sfence from to st) =
    subst (ActDeclared names) (sym (opened act.Sfence Sfence act.rolls-Sfence)) (record { scalars = no_scalars names; locations = no_locations names })
act_declared names _ _ _ (g.a_flush x from to st) =
    subst (ActDeclared names) (sym (opened (act.Flush x) (Flush x) (act.rolls-Flush x))) (record {
      scalars = no_scalars names;
      locations = one_location names x (item_fits names (location x) st.0 st.2.0 st.2.1);
    })
act_declared names _ _ _ (g.a_flushopt x from to st) =
    subst (ActDeclared names) (sym (opened (act.Flushopt x) (Flushopt x) (act.rolls-Flushopt x))) (record {
      scalars = no_scalars names;
      locations = one_location names x (item_fits names (location x) st.0 st.2.0 st.2.1);
    })

-- ---- brackets

record BracketDeclared (names : NameTable) (b : List AuxAssign) : Type 0 where
  scalars : Declared names (bracket_scalars b)
  targets : All (λ r. is_auxiliary names r ≡ true) (map (λ a. a.target) b)

no_bracket : (names : NameTable) → BracketDeclared names []
no_bracket names = record { scalars = no_scalars names; targets = All-nil (λ (r : ℕ). is_auxiliary names r ≡ true) }

one_assignment : (names : NameTable) (a : AuxAssign) (rest : List AuxAssign) (from to : Cursor) → IsAssignment text_limits names from a to → BracketDeclared names rest → BracketDeclared names (a ∷ rest)
one_assignment names a rest from to is others = record {
  scalars = with_scalar names a.target (reads a.expr ++ bracket_scalars rest) (item_fits names (scalar a.target) from is.target.0 is.target.1)
      (All-append (λ (r : ℕ). r < length names.scalars) (reads a.expr) (bracket_scalars rest) (expr_declared names is.mid a.expr to is.expr_is) others.scalars);
  targets = All-cons (λ (r : ℕ). is_auxiliary names r ≡ true) a.target (map (λ a. a.target) rest) is.auxiliary others.targets;
}

assignments_declared : (names : NameTable) (n : ℕ) (from : Cursor) (b : List AuxAssign) (to : Cursor) → AreAssignments text_limits names n from b to → BracketDeclared names b
assignments_declared names _ _ _ _ (g.the_last n a from mid to is st) = one_assignment names a [] from mid is (no_bracket names)
assignments_declared names _ _ _ _ (g.one_more n a rest from mid behind to is st others) =
    one_assignment names a rest from mid is (assignments_declared names n behind rest to others)

bracket_declared : (names : NameTable) (from : Cursor) (b : List AuxAssign) (to : Cursor) → IsBracket text_limits names from b to → BracketDeclared names b
bracket_declared names _ _ _ (g.no_bracket from) = no_bracket names
bracket_declared names _ _ _ (g.a_bracket b from mid to st is) = assignments_declared names _ mid b to is

-- ---- statements

-- a statement by its parts
record RowDeclared (names : NameTable) (y : Stmt-F Act Stmt) : Type 0 where
  scalars : Declared names (outside_in (out-Act y.act) ++ bracket_scalars y.aux)
  locations : Located names (locations_in (out-Act y.act))
  targets : All (λ r. is_auxiliary names r ≡ true) (map (λ a. a.target) y.aux)
  bare : is_test_in (out-Act y.act) ≡ true → y.aux ≡ []

is_stmt : (names : NameTable) (y : Stmt-F Act Stmt) → RowDeclared names y → IsStmt names (roll-Stmt y)
is_stmt names y row =
    let h = subst (RowDeclared names) (sym (out-roll-Stmt y)) row in
    record { scalars = h.scalars; locations = h.locations; targets = h.targets; bare = h.bare }

simple_declared : (names : NameTable) (a : Act) (b : List AuxAssign) → IsSimple (out-Act a) → ActDeclared names (out-Act a) → BracketDeclared names b → IsStmt names (roll-Stmt (record { act = a; aux = b }))
simple_declared names a b is h k =
    is_stmt names (record { act = a; aux = b }) (record {
      scalars = All-append (λ (r : ℕ). r < length names.scalars) (outside_in (out-Act a)) (bracket_scalars b) h.scalars k.scalars;
      locations = h.locations;
      targets = k.targets;
      bare = λ test. let no = is.simple in cc;
    })

test_declared : (names : NameTable) (from : Cursor) (c : Cond) (to : Cursor) → IsTest text_limits names from c to → Declared names (reads c.left ++ reads c.right)
test_declared names from c to is = two_sides names c.left c.right (expr_declared names from c.left is.mid is.left) (expr_declared names is.behind c.right to is.right)

bare_declared : (names : NameTable) (a : Act) (x : Act-F Act Stmt) → out-Act a ≡ x → Declared names (outside_in x) → locations_in x ≡ [] → IsStmt names (bare a)
bare_declared names a x is scalars none =
    is_stmt names (record { act = a; aux = [] }) (record {
      scalars = All-append (λ (r : ℕ). r < length names.scalars) (outside_in (out-Act a)) [] (subst (λ (y : Act-F Act Stmt). Declared names (outside_in y)) (sym is) scalars) (no_scalars names);
      locations = subst (Located names) (sym (ap locations_in is ∙ none)) (no_locations names);
      targets = All-nil (λ (r : ℕ). is_auxiliary names r ≡ true);
      bare = λ test. refl;
    })

statements_declared : (names : NameTable) → Meets names (IsStmt names)
statements_declared names = record {
  simple = λ a b from mid end is aux. simple_declared names a b (act_simple names from a mid is) (act_declared names from a mid is) (bracket_declared names mid b end aux);
  if_is = λ c a b from to test. bare_declared names (act.If c a b) (If c a b) (opened_if c a b) (test_declared names from c to test) refl;
  while_is = λ c a from to test. bare_declared names (act.While c a) (While c a) (opened_while c a) (test_declared names from c to test) refl;
}

pub bodies_are_threads : BodiesAreThreads
bodies_are_threads names from to l is =
    let h = body_points names (IsStmt names) (statements_declared names) from l.stmts l.notes to is.body in
    record {
      thread = record { few = let few = is.few in let count = h.count in omega (arith, few, count); stmts = h.stmts };
      notes = h.count;
    }
