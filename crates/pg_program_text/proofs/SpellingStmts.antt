-- What notes, tests, acts and brackets are spelled with stands for them.
use Rattle.pg_program_text.specs.Limits.{text_limits}
use Rattle.std.proofs.Common.{◌≡◌, ℕ, zero, suc, ◌≤◌, Bool, true, false, List, [], ◌∷◌, ◌++◌, length, refl, sym, ap, subst, arith}
use Rattle.std.specs.Prelude.{codes}
use Rattle.std.specs.List.{All}
use Rattle.std.proofs.lemmas.List.Elements.{All-head, All-tail}
use Rattle.pg_lex.specs.declared.token.Sign.TheVariants as s
use Rattle.pg_lex.specs.Lex.{Cursor}
use Rattle.pg_program.specs.NameTable.{NameTable, IsNameTable}
use Rattle.pg_program.specs.declared.syntax.Expr.{Expr}
use Rattle.pg_program.specs.declared.syntax.Cond.{Cond}
use Rattle.pg_program.specs.declared.syntax.AuxAssign.{AuxAssign}
use Rattle.pg_program.specs.declared.syntax.Stmt.{Stmt}
use Rattle.pg_program.specs.declared.syntax.Act.{Act, roll-Act}
use Rattle.pg_program.specs.declared.syntax.Act.TheOpen.{Act-F, Assign, Store, Load, Cas, Mfence, Sfence, Flush, Flushopt, If, While}
use Rattle.pg_program.specs.declared.syntax.Act.TheVariants as act
use Rattle.pg_program.specs.Graph.{is_test_in}
use Rattle.pg_assertion.specs.declared.atom.ViewAtom.{ViewAtom}
use Rattle.pg_assertion.specs.Formula.{Plain, with_atoms}
use Rattle.pg_assertion_text.specs.declared.parse.TheConstants.{MAX_NODES, MAX_OPEN}
use Rattle.pg_assertion_text.specs.Words.{Stands, sign}
use Rattle.pg_assertion_text.specs.Input.{is_sign}
use Rattle.pg_assertion_text.specs.Follows.{Stops}
use Rattle.pg_assertion_text.specs.Atoms.{IsRaw}
use Rattle.pg_assertion_text.specs.Grammar as formulas
use Rattle.pg_assertion_text.specs.Spelling.{AreNames, Ends, spell_atom}
use Rattle.pg_assertion.specs.Atom.{raw_of}
use Rattle.pg_assertion_text.specs.Spelling as formula_spelling
use Rattle.pg_assertion_text.specs.SpellingLaws as formula_laws
use Rattle.pg_assertion_text.specs.ReadAgain.{IsWhole}
use Rattle.pg_assertion_text.proofs.SpellingTokens.{Spells, Anything, Then, joined, blank, mapped, widened, open_stands, close_stands, comma_stands, equal_stands}
use Rattle.pg_assertion_text.proofs.SpellingAtoms.{location_spells, scalar_spells, raw_spelled}
use Rattle.pg_assertion_text.proofs.Spelling as formula_proofs
use Rattle.pg_program_text.specs.Limits.{most_open_brackets, most_assignments}
use Rattle.pg_program_text.specs.Grammar.{IsExpr, IsNote, IsTest, equality, IsAct, an_assign, a_store, a_load, a_cas, an_mfence, an_sfence, a_flush, a_flushopt, IsAssignment, AreAssignments, the_last, one_more, IsBracket, no_bracket, a_bracket}
use Rattle.pg_program_text.specs.Spelling.{tree, spell_expr, spell_test, spell_act, spell_assignment, further, spell_bracket}
use Rattle.pg_program_text.specs.Spelling as spec
use Rattle.pg_program_text.specs.Measures.{nodes}
use Rattle.pg_program_text.specs.SpellingLaws.{WholeExpr, WholeTest, WholeAct, WholeAssignment}
use Rattle.pg_program_text.proofs.SpellingExprs.{expr_spells}
use Rattle.pg_program_text.proofs.SpellingSigns.{assign_stands, not_equal_stands, less_stands, greater_stands, semicolon_stands, open_square_stands, close_square_stands, mfence_stands, sfence_stands, flush_stands, flushopt_stands, cas_stands}

module _ (names : NameTable) (table : IsNameTable names) (are : AreNames names) where
  whole_spells : (e : Expr) → WholeExpr names e → Spells Ends (λ from to. IsExpr text_limits names from e to) (spell_expr names e)
  whole_spells e w =
      mapped (expr_spells names table are e most_open_brackets w.writable w.shallow) (λ from to is. record { nodes = nodes (tree e); is = is; few = w.few })

  -- ---- notes

  formula_spells : (f : Plain ViewAtom) → IsWhole formula_laws.IsWritable names f
      → Spells Ends (λ from to. formulas.Is names (IsRaw names) formulas.formula MAX_OPEN from (with_atoms raw_of f) to) (formula_spelling.spell (spell_atom names) f)
  formula_spells f w =
      let rule = formula_spelling.rule_of f in
      mapped
      (formula_proofs.spells names (IsRaw names) raw_of (spell_atom names) f MAX_OPEN (formula_proofs.each_mapped (λ a h. raw_spelled names a table are h) f w.atoms) w.shallow)
      (λ from to phrase. formula_proofs.loosened names (IsRaw names) raw_of (spell_atom names) rule formulas.formula MAX_OPEN from to (with_atoms raw_of f) (formula_proofs.at_most rule) phrase)

  stops : (c to : Cursor) → Stands names (sign s.CloseSquare) c to → Stops c
  stops c to h = record {
    lexeme = h.lexeme;
    read = h.read;
    and = ap (is_sign s.And) h.matches;
    or = ap (is_sign s.Or) h.matches;
    arrow = ap (is_sign s.Arrow) h.matches;
  }

  pub note_spells : (f : Plain ViewAtom) → IsWhole formula_laws.IsWritable names f
      → Spells Anything (λ from to. IsNote text_limits names from (with_atoms raw_of f) to) (codes "[" ++ (formula_spelling.spell (spell_atom names) f ++ codes "]"))
  note_spells f w =
      mapped
      (joined (open_square_stands names) (joined (formula_spells f w) (close_square_stands names) (λ more ok. refl)) (λ more ok. tt))
      (λ from to way. record {
        mid = way.0;
        end = way.2.0;
        open_square = way.1;
        formula = record {
          is = way.2.1;
          few = subst (λ k. k ≤ MAX_NODES) (sym (formula_proofs.nodes-with_atoms raw_of f)) w.few;
          stops = stops way.2.0 to way.2.2;
        };
        close_square = way.2.2;
      })

  -- ---- tests

  sided : (equal : Bool) (e : Expr) → WholeExpr names e
      → Spells Ends (Then (Stands names (sign (equality equal))) (λ from to. IsExpr text_limits names from e to)) (spec.equality equal ++ spell_expr names e)
  sided true e w = blank (joined (equal_stands names) (blank (whole_spells e w)) (λ more ok. tt))
  sided false e w = blank (joined (not_equal_stands names) (blank (whole_spells e w)) (λ more ok. tt))

  sign_ends : (equal : Bool) (w more : List ℕ) → Ends ((spec.equality equal ++ w) ++ more)
  sign_ends true w more = refl
  sign_ends false w more = refl

  pub test_spells : (c : Cond) → WholeTest names c → Spells Ends (λ from to. IsTest text_limits names from c to) (spell_test names c)
  test_spells c w =
      mapped (joined (whole_spells c.left w.0) (sided c.equal c.right w.1) (λ more ok. sign_ends c.equal (spell_expr names c.right) more))
      (λ from to way. record { mid = way.0; behind = way.2.0; left = way.1; equality_is = way.2.1; right = way.2.2 })

  -- ---- acts

  -- ` := e`
  assigned : (e : Expr) → WholeExpr names e → Spells Ends (Then (Stands names (sign s.Assign)) (λ from to. IsExpr text_limits names from e to)) (codes " := " ++ spell_expr names e)
  assigned e w = blank (joined (assign_stands names) (blank (whole_spells e w)) (λ more ok. tt))

  pub act_spells : (x : Act-F Act Stmt) → WholeAct names x → is_test_in x ≡ false → Spells Ends (λ from to. IsAct text_limits names from (roll-Act x) to) (spell_act names x)
  act_spells (Assign r e) w h =
      mapped (joined (scalar_spells names r table are w.0) (assigned e w.1) (λ more ok. refl))
      (λ from to way. subst (λ (a : Act). IsAct text_limits names from a to) (sym (act.rolls-Assign r e)) (an_assign r e from way.2.0 to (way.0, way.1, (way.2.0, way.2.1, refl)) way.2.2))
  act_spells (Store x e) w h =
      mapped (joined (location_spells names x table are w.0) (assigned e w.1) (λ more ok. refl))
      (λ from to way. subst (λ (a : Act). IsAct text_limits names from a to) (sym (act.rolls-Store x e)) (a_store x e from way.2.0 to (way.0, way.1, (way.2.0, way.2.1, refl)) way.2.2))
  act_spells (Load r x) w h =
      mapped (joined (scalar_spells names r table are w.0) (blank (joined (assign_stands names) (blank (location_spells names x table are w.1)) (λ more ok. tt))) (λ more ok. refl))
      (λ from to way. subst (λ (a : Act). IsAct text_limits names from a to) (sym (act.rolls-Load r x)) (a_load r x from to (way.0, way.1, (way.2.0, way.2.1, (to, way.2.2, refl)))))
  act_spells (Cas r x e d) w h =
      mapped
      (widened
      (joined (scalar_spells names r table are w.0)
      (blank (joined (assign_stands names)
      (blank (joined (cas_stands names)
      (joined (open_stands names)
      (joined (location_spells names x table are w.1)
      (joined (comma_stands names)
      (blank (joined (whole_spells e w.2)
      (joined (comma_stands names) (blank (joined (whole_spells d w.3) (close_stands names) (λ more ok. refl))) (λ more ok. tt)) (λ more ok. refl)))
      (λ more ok. tt)) (λ more ok. refl)) (λ more ok. tt)) (λ more ok. refl))) (λ more ok. tt))) (λ more ok. refl)))
      (λ from to way.
      let a1 = way.2 in
      let a2 = a1.2 in
      let a3 = a2.2 in
      let a4 = a3.2 in
      let a5 = a4.2 in
      let a6 = a5.2 in
      let a7 = a6.2 in
      let a8 = a7.2 in
      subst (λ (a : Act). IsAct text_limits names from a to) (sym (act.rolls-Cas r x e d))
      (a_cas r x e d from a5.0 a6.0 a7.0 a8.0 to
      (way.0, way.1, (a1.0, a1.1, (a2.0, a2.1, (a3.0, a3.1, (a4.0, a4.1, (a5.0, a5.1, refl)))))) a6.1 a7.1 a8.1 a8.2))
  act_spells Mfence w h = mapped (mfence_stands names) (λ from to is. subst (λ (a : Act). IsAct text_limits names from a to) (sym act.rolls-Mfence) (an_mfence from to is))
  act_spells Sfence w h = mapped (sfence_stands names) (λ from to is. subst (λ (a : Act). IsAct text_limits names from a to) (sym act.rolls-Sfence) (an_sfence from to is))
  act_spells (Flush x) w h =
      mapped (joined (flush_stands names) (blank (location_spells names x table are w)) (λ more ok. refl))
      (λ from to way. subst (λ (a : Act). IsAct text_limits names from a to) (sym (act.rolls-Flush x)) (a_flush x from to (way.0, way.1, (to, way.2, refl))))
  act_spells (Flushopt x) w h =
      mapped (joined (flushopt_stands names) (blank (location_spells names x table are w)) (λ more ok. refl))
      (λ from to way. subst (λ (a : Act). IsAct text_limits names from a to) (sym (act.rolls-Flushopt x)) (a_flushopt x from to (way.0, way.1, (to, way.2, refl))))
  act_spells (If c a b) w h = absurd (cc)
  act_spells (While c a) w h = absurd (cc)

  -- ---- brackets

  assignment_spells : (a : AuxAssign) → WholeAssignment names a → Spells Ends (λ from to. IsAssignment text_limits names from a to) (spell_assignment names a)
  assignment_spells a w =
      mapped (joined (scalar_spells names a.target table are w.target) (assigned a.expr w.expr_is) (λ more ok. refl))
      (λ from to way. record { mid = way.2.0; target = (way.0, way.1, (way.2.0, way.2.1, refl)); auxiliary = w.auxiliary; expr_is = way.2.2 })

  assignments_spell : (n : ℕ) (a : AuxAssign) (rest : List AuxAssign) → length (a ∷ rest) ≤ n → All (WholeAssignment names) (a ∷ rest)
      → Spells Anything (λ from to. AreAssignments text_limits names n from (a ∷ rest) to) (spell_assignment names a ++ further names rest)
  assignments_spell zero a rest few w = absurd (omega arith)
  assignments_spell (suc n) a [] few w =
      mapped (joined (assignment_spells a (All-head (WholeAssignment names) a [] w)) (blank (greater_stands names)) (λ more ok. refl))
      (λ from to way. the_last n a from way.0 to way.1 way.2)
  assignments_spell (suc n) a (b ∷ rest) few w =
      mapped
      (joined (assignment_spells a (All-head (WholeAssignment names) a (b ∷ rest) w))
      (joined (comma_stands names) (blank (assignments_spell n b rest (omega arith) (All-tail (WholeAssignment names) a (b ∷ rest) w))) (λ more ok. tt))
      (λ more ok. refl))
      (λ from to way. one_more n a (b ∷ rest) from way.0 way.2.0 to way.1 way.2.1 way.2.2)

  -- a bracket or none, and the `;` after it
  abbrev pub Ending : List AuxAssign → Cursor → Cursor → Type 0
  Ending aux from to = (mid : Cursor) × IsBracket text_limits names from aux mid × Stands names (sign s.Semicolon) mid to

  pub ending_spells : (aux : List AuxAssign) → All (WholeAssignment names) aux → length aux ≤ most_assignments
      → Spells Anything (Ending aux) (spell_bracket names aux ++ codes ";")
  ending_spells [] w few = mapped (semicolon_stands names) (λ from to is. (from, no_bracket from, is))
  ending_spells (a ∷ rest) w few =
      mapped
      (joined (blank (joined (less_stands names) (blank (assignments_spell most_assignments a rest few w)) (λ more ok. tt))) (semicolon_stands names) (λ more ok. tt))
      (λ from to way. (way.0, a_bracket (a ∷ rest) from way.1.0 way.0 way.1.1 way.1.2, way.2))

  pub ending_ends : (aux : List AuxAssign) (more : List ℕ) → Ends ((spell_bracket names aux ++ codes ";") ++ more)
  ending_ends [] more = refl
  ending_ends (a ∷ rest) more = refl
