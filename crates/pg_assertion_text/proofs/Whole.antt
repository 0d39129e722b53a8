-- Reading a whole formula: it is the formula of the grammar, and there is no other.
use Rattle.std.proofs.Common.{◌≡◌, ℕ, Ok, Err, refl, ap, sym, ◌∙◌, subst, arith}
use Rattle.std.specs.Prelude.{◌≢◌, Result, IfOk}
use Rattle.std.specs.Result.{result_unwrap_or}
use Rattle.pg_lex.specs.declared.fault.TextFault.{TextFault}
use Rattle.pg_lex.specs.declared.fault.TextFault.TheVariants.{At, NoMemory}
use Rattle.pg_lex.specs.Lex.{Cursor}
use Rattle.pg_program.specs.NameTable.{NameTable}
use Rattle.pg_assertion.specs.declared.formula.Formula.{Formula}
use Rattle.pg_assertion.specs.Formula.{Plain, plain}
use Rattle.pg_assertion_text.specs.Limits.{most_nodes, most_open}
use Rattle.pg_assertion_text.specs.Input.{Input, Outcome, Parser}
use Rattle.pg_assertion_text.specs.Reading.{formula}
use Rattle.pg_assertion_text.specs.Laws.{FindsAtoms, ReadsAtoms, BeginsAtoms}
use Rattle.pg_assertion_text.specs.Parsing.{IsFormulaIn, IsFormula, formula_within, Answers, HasOneReading, placed, formula_at, ReadsAt}
use Rattle.pg_assertion_text.specs.Reading.{unary}
use Rattle.pg_assertion_text.proofs.Sound.{formula_found}
use Rattle.pg_assertion_text.proofs.Stopped.{formula_stopped}
use Rattle.pg_assertion_text.proofs.Complete.{at, formula_reads}

pub same_result : {A : Type 0} (p q : A × Cursor) → ◌≡◌ {A = Result (A × Cursor) TextFault} (Ok p) (Ok q) → p ≡ q
same_result {A} p q h = let value : Result (A × Cursor) TextFault → A × Cursor = λ r. result_unwrap_or r p in ap value h

-- an outcome that gives a formula, and where it stands then
pub placed_then : {A X : Type 0} (o : Outcome A) (a : A) (to : Cursor) → placed o ≡ Ok (a, to) → ((j : Input) → o ≡ Ok (a, j) → j.cursor ≡ to → X) → X
placed_then {A} (Ok p) a to h use_it =
    let same = same_result (p.0, p.1.cursor) (a, to) h in
    use_it p.1 (ap (λ x. Ok (x, p.1)) (ap (λ (q : A × Cursor). q.0) same)) (ap (λ (q : A × Cursor). q.1) same)
placed_then (Err e) a to h use_it = cc

module _ {T : Type 0} (read : NameTable → Parser T) (stands : NameTable → Cursor → T → Cursor → Type 0)
    (finds : FindsAtoms read stands) (again : ReadsAtoms read stands) (begins : BeginsAtoms stands) where
  -- what is read is the formula of the grammar
  pub formula_at_found : (names : NameTable) (c to : Cursor) (f : Plain T) → formula_at read names c ≡ Ok (f, to) → IsFormula stands names c f to
  unfolding formula_at
  formula_at_found names c to f h =
      placed_then (formula (read names) most_open (at c most_nodes)) f to h (λ j reads behind.
      let found = formula_found names (read names) (stands names) (λ i j a r. finds names i j a r) most_open (at c most_nodes) j f reads in
      subst (IsFormula stands names c f) behind (record {
        is = found.is;
        few = let room = found.room in omega arith;
        stops = formula_stopped (unary (read names) most_open) (at c most_nodes) j f reads;
      }))

  -- a formula of the grammar is read, with any limits
  pub formula_within_reads : (open_most nodes_most : ℕ) (names : NameTable) (c to : Cursor) (f : Plain T) → IsFormulaIn open_most nodes_most stands names c f to → formula_within open_most nodes_most read names c ≡ Ok (f, to)
  formula_within_reads open_most nodes_most names c to f is =
      ap placed (formula_reads names (read names) (stands names) (λ from to a r st some. again names (at from r) a to st some) (λ from to a st. begins names from to a st)
      open_most nodes_most c to f is.is is.few is.stops)

  -- the formula of the grammar is what is read
  pub formula_at_reads : (names : NameTable) (c to : Cursor) (f : Plain T) → IsFormula stands names c f to → formula_at read names c ≡ Ok (f, to)
  unfolding formula_at
  formula_at_reads names c to f is = formula_within_reads most_open most_nodes names c to f is

  pub one_reading : HasOneReading stands
  one_reading names c a b f g first second =
      let same = same_result (f, a) (g, b) (sym (formula_at_reads names c a f first) ∙ formula_at_reads names c b g second) in
      (ap (λ (q : Plain T × Cursor). q.0) same, ap (λ (q : Plain T × Cursor). q.1) same)

  -- ---- answers

  pub answer_found : (names : NameTable) (old new : Cursor) (r : Result (Formula T) TextFault) → ReadsAt (formula_at read names old) r new
      → IfOk r (λ f. IsFormula stands names old (plain f) new)
  answer_found names old new (Ok f) reads = formula_at_found names old new (plain f) reads
  answer_found names old new (Err e) reads = tt

  only_memory : (names : NameTable) (old to : Cursor) (f : Plain T) (e : TextFault) → (e ≢ NoMemory → formula_at read names old ≡ Err e) → IsFormula stands names old f to → e ≡ NoMemory
  only_memory names old to f NoMemory reads is = refl
  only_memory names old to f (At p k) reads is = let fails = reads (λ (e : At p k ≡ NoMemory). cc) in let gives = formula_at_reads names old to f is in cc

  pub answer_only : (names : NameTable) (old new : Cursor) (r : Result (Formula T) TextFault) → ReadsAt (formula_at read names old) r new
      → (f : Plain T) (to : Cursor) → IsFormula stands names old f to → Answers f to r new
  answer_only names old new (Ok g) reads f to is =
      let same = same_result (plain g, new) (f, to) (sym reads ∙ formula_at_reads names old to f is) in
      (ap (λ (q : Plain T × Cursor). q.0) same, ap (λ (q : Plain T × Cursor). q.1) same)
  answer_only names old new (Err e) reads f to is = only_memory names old to f e reads is
