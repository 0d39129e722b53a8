-- What a formula is spelled with stands for it.
use Rattle.std.proofs.Common.{◌≡◌, ℕ, zero, suc, ◌+◌, ◌≤◌, Bool, true, false, List, ◌++◌, length, refl, sym, ap, ap₂, subst, append_assoc, arith, ltb-false}
use Rattle.pg_lex.specs.Lex.{Cursor}
use Rattle.pg_lex.specs.Grammar.{Stops}
use Rattle.pg_program.specs.NameTable.{NameTable}
use Rattle.pg_assertion.specs.declared.atom.CrashAtom.{CrashAtom}
use Rattle.pg_assertion.specs.Formula.{Plain, top, bottom, atom, neg, both, either, implies, nodes, AllAtoms, with_atoms}
use Rattle.pg_assertion_text.specs.Atoms.{IsRaw, IsCrash}
use Rattle.pg_assertion_text.specs.Grammar.{Rule, unary, conj, disj, formula, Is, a_true, a_false, an_atom, a_not, a_bracket, a_conj, an_and, a_disj, an_or, a_formula, an_implies}
use Rattle.pg_assertion_text.specs.Spelling.{Ends, spell, spell_atom, spell_crash, opens, rule_of, looseness, is_loose, in_brackets, bracket}
use Rattle.pg_assertion.specs.Atom.{raw_of}
use Rattle.pg_assertion_text.specs.SpellingLaws.{cursor, SpellingStands, CrashSpellingStands}
use Rattle.pg_assertion_text.proofs.SpellingTokens.{Spells, joined, blank, mapped, widened, here, is_equal, not_stands, and_stands, or_stands, arrow_stands, open_stands, close_stands, true_stands, false_stands}
use Rattle.pg_assertion_text.proofs.SpellingAtoms.{IsSpelled, raw_spelled, crash_spelled}

at_least : (r : Rule) → looseness unary ≤ looseness r
at_least r = omega arith

pub at_most : (r : Rule) → looseness r ≤ looseness formula
at_most unary = omega arith
at_most conj = omega arith
at_most disj = omega arith
at_most formula = omega arith

pub bracket_small : (b : Bool) → bracket b ≤ 1
bracket_small true = omega arith
bracket_small false = omega arith

pub each_mapped : {T : Type 0} {P Q : T → Type 0} → ((a : T) → P a → Q a) → (f : Plain T) → AllAtoms P f → AllAtoms Q f
each_mapped h top each = tt
each_mapped h bottom each = tt
each_mapped h (atom a) each = h a each
each_mapped h (neg f) each = each_mapped h f each
each_mapped h (both f g) each = (each_mapped h f each.0, each_mapped h g each.1)
each_mapped h (either f g) each = (each_mapped h f each.0, each_mapped h g each.1)
each_mapped h (implies f g) each = (each_mapped h f each.0, each_mapped h g each.1)

pub same_atoms : {T : Type 0} (f : Plain T) → with_atoms (λ a. a) f ≡ f
unfolding with_atoms
same_atoms top = refl
same_atoms bottom = refl
same_atoms (atom a) = refl
same_atoms (neg f) = ap neg (same_atoms f)
same_atoms (both f g) = ap₂ both (same_atoms f) (same_atoms g)
same_atoms (either f g) = ap₂ either (same_atoms f) (same_atoms g)
same_atoms (implies f g) = ap₂ implies (same_atoms f) (same_atoms g)

-- other atoms are as many nodes
pub nodes-with_atoms : {T U : Type 0} (image : T → U) (f : Plain T) → nodes (with_atoms image f) ≡ nodes f
unfolding with_atoms
nodes-with_atoms image top = refl
nodes-with_atoms image bottom = refl
nodes-with_atoms image (atom a) = refl
nodes-with_atoms image (neg f) = ap (λ (n : ℕ). 1 + n) (nodes-with_atoms image f)
nodes-with_atoms image (both f g) = ap₂ (λ (n m : ℕ). 1 + (n + m)) (nodes-with_atoms image f) (nodes-with_atoms image g)
nodes-with_atoms image (either f g) = ap₂ (λ (n m : ℕ). 1 + (n + m)) (nodes-with_atoms image f) (nodes-with_atoms image g)
nodes-with_atoms image (implies f g) = ap₂ (λ (n m : ℕ). 1 + (n + m)) (nodes-with_atoms image f) (nodes-with_atoms image g)

module _ {T U : Type 0} (names : NameTable) (IsAtom : Cursor → U → Cursor → Type 0) (image : T → U) (of_atom : T → List ℕ) where
  -- from one place to another there stands the formula
  abbrev pub Phrase : Rule → ℕ → Plain T → Cursor → Cursor → Type 0
  Phrase rule n f from to = Is names IsAtom rule n from (with_atoms image f) to

  -- a phrase of a rule is one of each looser rule
  pub loosened : (r q : Rule) (n : ℕ) (from to : Cursor) (f : Plain U) → looseness r ≤ looseness q → Is names IsAtom r n from f to → Is names IsAtom q n from f to
  loosened unary unary n from to f h is = is
  loosened unary conj n from to f h is = a_conj n from to f is
  loosened unary disj n from to f h is = a_disj n from to f (a_conj n from to f is)
  loosened unary formula n from to f h is = a_formula n from to f (a_disj n from to f (a_conj n from to f is))
  loosened conj unary n from to f h is = absurd (omega arith)
  loosened conj conj n from to f h is = is
  loosened conj disj n from to f h is = a_disj n from to f is
  loosened conj formula n from to f h is = a_formula n from to f (a_disj n from to f is)
  loosened disj unary n from to f h is = absurd (omega arith)
  loosened disj conj n from to f h is = absurd (omega arith)
  loosened disj disj n from to f h is = is
  loosened disj formula n from to f h is = a_formula n from to f is
  loosened formula unary n from to f h is = absurd (omega arith)
  loosened formula conj n from to f h is = absurd (omega arith)
  loosened formula disj n from to f h is = absurd (omega arith)
  loosened formula formula n from to f h is = is

  -- the part's brackets, where it needs some
  part_spells : (loose : Bool) (rule : Rule) (f : Plain T) (n : ℕ)
      → is_loose rule f ≡ loose → bracket loose + opens f ≤ n
      → ((m : ℕ) → opens f ≤ m → Spells Ends (Phrase (rule_of f) m f) (spell of_atom f))
      → Spells Ends (Phrase rule n f) (in_brackets loose (spell of_atom f))
  part_spells false rule f n is h spells =
      mapped (spells n (omega arith)) (λ from to phrase. loosened (rule_of f) rule n from to (with_atoms image f) (ltb-false (looseness rule) (looseness (rule_of f)) is) phrase)
  part_spells true rule f zero is h spells = absurd (omega arith)
  part_spells true rule f (suc n) is h spells =
      mapped (widened (joined (open_stands names) (joined (spells n (omega arith)) (close_stands names) (λ more ok. refl)) (λ more ok. tt)))
      (λ from to way.
      let inner = loosened (rule_of f) formula n way.0 way.2.0 (with_atoms image f) (at_most (rule_of f)) way.2.1 in
      loosened unary rule (suc n) from to (with_atoms image f) (at_least rule) (a_bracket n from way.0 way.2.0 to (with_atoms image f) way.1 inner way.2.2))

  -- no spelling begins with `=`
  part_begins : (loose : Bool) (w more : List ℕ) → ((rest : List ℕ) → Stops is_equal (w ++ rest)) → Stops is_equal (in_brackets loose w ++ more)
  part_begins true w more h = refl
  part_begins false w more h = h more

  first_begins : (loose : Bool) (w v more : List ℕ) → ((rest : List ℕ) → Stops is_equal (w ++ rest)) → Stops is_equal ((in_brackets loose w ++ v) ++ more)
  first_begins loose w v more h = subst (Stops is_equal) (sym (append_assoc (in_brackets loose w) v more)) (part_begins loose w (v ++ more) h)

  begins : (f : Plain T) → AllAtoms (IsSpelled IsAtom image of_atom) f → (more : List ℕ) → Stops is_equal (spell of_atom f ++ more)
  unfolding spell
  begins top each more = refl
  begins bottom each more = refl
  begins (atom a) each more = each.begins more
  begins (neg f) each more = refl
  begins (both f g) each more = first_begins (is_loose conj f) (spell of_atom f) _ more (begins f each.0)
  begins (either f g) each more = first_begins (is_loose disj f) (spell of_atom f) _ more (begins f each.0)
  begins (implies f g) each more = first_begins (is_loose disj f) (spell of_atom f) _ more (begins f each.0)

  pub spells : (f : Plain T) (n : ℕ) → AllAtoms (IsSpelled IsAtom image of_atom) f → opens f ≤ n → Spells Ends (Phrase (rule_of f) n f) (spell of_atom f)
  unfolding spell opens with_atoms
  spells top n each h = mapped (true_stands names) (λ from to stands. a_true n from to stands)
  spells bottom n each h = mapped (false_stands names) (λ from to stands. a_false n from to stands)
  spells (atom a) n each h = mapped each.spells (λ from to is. an_atom n from to (image a) is)
  spells (neg f) zero each h = absurd (omega arith)
  spells (neg f) (suc n) each h =
      mapped
      (joined (not_stands names) (part_spells (is_loose unary f) unary f n refl (omega arith) (λ m k. spells f m each k))
      (λ more ok. part_begins (is_loose unary f) (spell of_atom f) more (begins f each)))
      (λ from to way. a_not n from way.0 to (with_atoms image f) way.1 way.2)
  spells (both f g) n each h =
      mapped
      (joined (part_spells (is_loose conj f) conj f n refl (omega arith) (λ m k. spells f m each.0 k))
      (blank (joined (and_stands names) (blank (part_spells (is_loose unary g) unary g n refl (omega arith) (λ m k. spells g m each.1 k))) (λ more ok. tt)))
      (λ more ok. refl))
      (λ from to way. an_and n from way.0 way.2.0 to (with_atoms image f) (with_atoms image g) way.1 way.2.1 way.2.2)
  spells (either f g) n each h =
      mapped
      (joined (part_spells (is_loose disj f) disj f n refl (omega arith) (λ m k. spells f m each.0 k))
      (blank (joined (or_stands names) (blank (part_spells (is_loose conj g) conj g n refl (omega arith) (λ m k. spells g m each.1 k))) (λ more ok. tt)))
      (λ more ok. refl))
      (λ from to way. an_or n from way.0 way.2.0 to (with_atoms image f) (with_atoms image g) way.1 way.2.1 way.2.2)
  spells (implies f g) n each h =
      mapped
      (joined (part_spells (is_loose disj f) disj f n refl (omega arith) (λ m k. spells f m each.0 k))
      (blank (joined (arrow_stands names) (blank (spells g n each.1 (omega arith))) (λ more ok. tt)))
      (λ more ok. refl))
      (λ from to way.
      let right = loosened (rule_of g) formula n way.2.0 to (with_atoms image g) (at_most (rule_of g)) way.2.2 in
      an_implies n from way.0 way.2.0 to (with_atoms image f) (with_atoms image g) way.1 way.2.1 right)

  whole : (f : Plain T) (n at : ℕ) (more : List ℕ) → AllAtoms (IsSpelled IsAtom image of_atom) f → opens f ≤ n → Ends more
      → Phrase formula n f (cursor at (spell of_atom f ++ more)) (cursor (at + length (spell of_atom f)) more)
  whole f n at more each h ok =
      let from = cursor at (spell of_atom f ++ more) in
      loosened (rule_of f) formula n from (cursor (at + length (spell of_atom f)) more) (with_atoms image f) (at_most (rule_of f)) ((spells f n each h).stands from at more ok (here from))

pub spelling_stands : SpellingStands
spelling_stands names f n at more table are each h ok =
    whole names (IsRaw names) raw_of (spell_atom names) f n at more (each_mapped (λ a w. raw_spelled names a table are w) f each) h ok

pub crash_spelling_stands : CrashSpellingStands
crash_spelling_stands names f n at more table are each h ok =
    let from = cursor at (spell (spell_crash names) f ++ more) in
    let to = cursor (at + length (spell (spell_crash names) f)) more in
    subst (λ (g : Plain CrashAtom). Is names (IsCrash names) formula n from g to) (same_atoms f)
    (whole names (IsCrash names) (λ a. a) (spell_crash names) f n at more (each_mapped (λ a w. crash_spelled names a table are w) f each) h ok)
