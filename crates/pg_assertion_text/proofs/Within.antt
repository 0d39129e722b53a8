-- What stands in a text is within the limits of a text.
use Rattle.std.proofs.Common.{◌≡◌, ℕ, ◌+◌, ◌≤◌, refl, sym, ap, ap₂, subst, arith}
use Rattle.std.specs.Prelude.{max}
use Rattle.pg_lex.specs.Lex.{Cursor}
use Rattle.pg_program.specs.NameTable.{NameTable, IsNameTable}
use Rattle.pg_assertion.specs.declared.atom.ViewAtom.{ViewAtom}
use Rattle.pg_assertion.specs.declared.atom.ViewAtom.TheVariants as view
use Rattle.pg_assertion.specs.declared.atom.RawAtom.{RawAtom}
use Rattle.pg_assertion.specs.declared.atom.RawAtom.TheVariants as raw
use Rattle.pg_assertion.specs.declared.atom.CrashAtom.{CrashAtom}
use Rattle.pg_assertion.specs.declared.atom.CrashAtom.TheVariants as crash
use Rattle.pg_assertion.specs.Atom.{raw_of}
use Rattle.pg_assertion.specs.Formula.{Plain, top, bottom, atom, neg, both, either, implies, AllAtoms, with_atoms}
use Rattle.pg_assertion_text.specs.Limits.{most_nodes, most_open}
use Rattle.pg_assertion_text.specs.Atoms.{raw_items, crash_items, IsRaw, IsCrash}
use Rattle.pg_assertion_text.specs.Grammar.{Rule, unary, conj, disj, formula, Is, a_true, a_false, an_atom, a_not, a_bracket, a_conj, an_and, a_disj, an_or, a_formula, an_implies}
use Rattle.pg_assertion_text.specs.Spelling.{AreNames, opens, rule_of, is_loose, bracket}
use Rattle.pg_assertion_text.specs.SpellingLaws.{IsWritable, IsWritableCrash}
use Rattle.pg_assertion_text.specs.ReadAgain.{IsWhole}
use Rattle.pg_assertion_text.specs.Within.{IsWritableRaw, IsWithin, FormulasAreWithin, CrashFormulasAreWithin, AssertionsAreWithin}
use Rattle.pg_assertion_text.proofs.Names.{items_fit}
use Rattle.pg_assertion_text.proofs.Spelling.{bracket_small, nodes-with_atoms}

-- ---- levels

-- a looser rule needs no more brackets
below_conj : {T : Type 0} (f : Plain T) → bracket (is_loose conj f) ≤ bracket (is_loose unary f)
below_conj top = omega arith
below_conj bottom = omega arith
below_conj (atom a) = omega arith
below_conj (neg f) = omega arith
below_conj (both f g) = omega arith
below_conj (either f g) = omega arith
below_conj (implies f g) = omega arith

below_disj : {T : Type 0} (f : Plain T) → bracket (is_loose disj f) ≤ bracket (is_loose conj f)
below_disj top = omega arith
below_disj bottom = omega arith
below_disj (atom a) = omega arith
below_disj (neg f) = omega arith
below_disj (both f g) = omega arith
below_disj (either f g) = omega arith
below_disj (implies f g) = omega arith

below_formula : {T : Type 0} (f : Plain T) → bracket (is_loose formula f) ≤ bracket (is_loose disj f)
below_formula top = omega arith
below_formula bottom = omega arith
below_formula (atom a) = omega arith
below_formula (neg f) = omega arith
below_formula (both f g) = omega arith
below_formula (either f g) = omega arith
below_formula (implies f g) = omega arith

module _ {T : Type 0} (names : NameTable) (IsAtom : Cursor → T → Cursor → Type 0) where
  -- the canonical spelling opens no more levels than the text does
  levels : (rule : Rule) (n : ℕ) (from : Cursor) (f : Plain T) (to : Cursor) → Is names IsAtom rule n from f to → bracket (is_loose rule f) + opens f ≤ n
  unfolding opens
  levels _ _ _ _ _ (a_true n from to st) = omega arith
  levels _ _ _ _ _ (a_false n from to st) = omega arith
  levels _ _ _ _ _ (an_atom n from to a st) = omega arith
  levels _ _ _ _ _ (a_not n from mid to f st is) = let h = levels unary n mid f to is in omega arith
  levels _ _ _ _ _ (a_bracket n from mid end to f st is close) =
      let h = levels formula n mid f end is in
      let small = bracket_small (is_loose unary f) in
      omega arith
  levels _ _ _ _ _ (a_conj n from to f is) = let h = levels unary n from f to is in let low = below_conj f in omega arith
  levels _ _ _ _ _ (an_and n from mid behind to f g left st right) =
      let h = levels conj n from f mid left in let k = levels unary n behind g to right in omega arith
  levels _ _ _ _ _ (a_disj n from to f is) = let h = levels conj n from f to is in let low = below_disj f in omega arith
  levels _ _ _ _ _ (an_or n from mid behind to f g left st right) =
      let h = levels disj n from f mid left in let k = levels conj n behind g to right in omega arith
  levels _ _ _ _ _ (a_formula n from to f is) = let h = levels disj n from f to is in let low = below_formula f in omega arith
  levels _ _ _ _ _ (an_implies n from mid behind to f g left st right) =
      let h = levels disj n from f mid left in let k = levels formula n behind g to right in omega arith

  -- each atom stands somewhere in the text
  atoms : (P : T → Type 0) → ((from to : Cursor) (a : T) → IsAtom from a to → P a)
      → (rule : Rule) (n : ℕ) (from : Cursor) (f : Plain T) (to : Cursor) → Is names IsAtom rule n from f to → AllAtoms P f
  atoms P each _ _ _ _ _ (a_true n from to st) = tt
  atoms P each _ _ _ _ _ (a_false n from to st) = tt
  atoms P each _ _ _ _ _ (an_atom n from to a st) = each from to a st
  atoms P each _ _ _ _ _ (a_not n from mid to f st is) = atoms P each unary n mid f to is
  atoms P each _ _ _ _ _ (a_bracket n from mid end to f st is close) = atoms P each formula n mid f end is
  atoms P each _ _ _ _ _ (a_conj n from to f is) = atoms P each unary n from f to is
  atoms P each _ _ _ _ _ (an_and n from mid behind to f g left st right) = (atoms P each conj n from f mid left, atoms P each unary n behind g to right)
  atoms P each _ _ _ _ _ (a_disj n from to f is) = atoms P each conj n from f to is
  atoms P each _ _ _ _ _ (an_or n from mid behind to f g left st right) = (atoms P each disj n from f mid left, atoms P each conj n behind g to right)
  atoms P each _ _ _ _ _ (a_formula n from to f is) = atoms P each disj n from f to is
  atoms P each _ _ _ _ _ (an_implies n from mid behind to f g left st right) = (atoms P each disj n from f mid left, atoms P each formula n behind g to right)

-- ---- atoms

raw_writable : (names : NameTable) (from to : Cursor) (a : RawAtom) → IsRaw names from a to → IsWritableRaw names a
raw_writable names from to (raw.Scalar r k) st = let h = items_fit names (raw_items (raw.Scalar r k)) from to st in (h.0, h.1.1.0)
raw_writable names from to (raw.Last x v) st = let h = items_fit names (raw_items (raw.Last x v)) from to st in (h.1.1.0, h.1.1.1.1.0)
raw_writable names from to (raw.Read t x v) st =
    let h = items_fit names (raw_items (raw.Read t x v)) from to st in let of_x = h.1.1.1.1 in (of_x.0, (h.1.1.0, of_x.1.1.0))
raw_writable names from to (raw.Persist x v) st = let h = items_fit names (raw_items (raw.Persist x v)) from to st in (h.1.1.0, h.1.1.1.1.0)
raw_writable names from to (raw.Async t x v) st =
    let h = items_fit names (raw_items (raw.Async t x v)) from to st in let of_x = h.1.1.1.1 in (of_x.0, (h.1.1.0, of_x.1.1.0))
raw_writable names from to (raw.Then t x v y w) st =
    let h = items_fit names (raw_items (raw.Then t x v y w)) from to st in
    let of_x = h.1.1.1.1 in
    let of_y = of_x.1.1.1.1 in
    ((of_x.0, of_y.0), (h.1.1.0, of_x.1.1.0, of_y.1.1.0))
raw_writable names from to (raw.Newest t x) st = let h = items_fit names (raw_items (raw.Newest t x)) from to st in (h.1.1.1.1.0, h.1.1.0)
raw_writable names from to (raw.Ordered t x) st = let h = items_fit names (raw_items (raw.Ordered t x)) from to st in (h.1.1.1.1.0, h.1.1.0)
raw_writable names from to (raw.Fenced t x) st = let h = items_fit names (raw_items (raw.Fenced t x)) from to st in (h.1.1.1.1.0, h.1.1.0)

crash_writable : (names : NameTable) (from to : Cursor) (a : CrashAtom) → IsCrash names from a to → IsWritableCrash names a
crash_writable names from to (crash.Scalar r k) st = let h = items_fit names (crash_items (crash.Scalar r k)) from to st in (h.0, h.1.1.0)
crash_writable names from to (crash.Location x v) st = let h = items_fit names (crash_items (crash.Location x v)) from to st in (h.0, h.1.1.0)

view_writable : (names : NameTable) (a : ViewAtom) → IsWritableRaw names (raw_of a) → IsWritable names a
view_writable names (view.Scalar r k) h = h
view_writable names (view.Last x v) h = h
view_writable names (view.Read t x v) h = h
view_writable names (view.Persist x v) h = h
view_writable names (view.Async t x v) h = h
view_writable names (view.Then t x v y w) h = h
view_writable names (view.Newest t x) h = h
view_writable names (view.Ordered t x) h = h
view_writable names (view.Fenced t x) h = h

-- ---- other atoms

module _ {T U : Type 0} (image : T → U) where
  rule-with_atoms : (f : Plain T) → rule_of (with_atoms image f) ≡ rule_of f
  unfolding with_atoms
  rule-with_atoms top = refl
  rule-with_atoms bottom = refl
  rule-with_atoms (atom a) = refl
  rule-with_atoms (neg f) = refl
  rule-with_atoms (both f g) = refl
  rule-with_atoms (either f g) = refl
  rule-with_atoms (implies f g) = refl

  part-with_atoms : (rule : Rule) (f : Plain T) → opens (with_atoms image f) ≡ opens f
      → bracket (is_loose rule (with_atoms image f)) + opens (with_atoms image f) ≡ bracket (is_loose rule f) + opens f
  part-with_atoms rule f same = rw (rule-with_atoms f, same) refl

  opens-with_atoms : (f : Plain T) → opens (with_atoms image f) ≡ opens f
  unfolding with_atoms opens
  opens-with_atoms top = refl
  opens-with_atoms bottom = refl
  opens-with_atoms (atom a) = refl
  opens-with_atoms (neg f) = ap (λ (n : ℕ). 1 + n) (part-with_atoms unary f (opens-with_atoms f))
  opens-with_atoms (both f g) = ap₂ max (part-with_atoms conj f (opens-with_atoms f)) (part-with_atoms unary g (opens-with_atoms g))
  opens-with_atoms (either f g) = ap₂ max (part-with_atoms disj f (opens-with_atoms f)) (part-with_atoms conj g (opens-with_atoms g))
  opens-with_atoms (implies f g) = ap₂ max (part-with_atoms disj f (opens-with_atoms f)) (opens-with_atoms g)

  each-with_atoms : (P : U → Type 0) (Q : T → Type 0) → ((a : T) → P (image a) → Q a) → (f : Plain T) → AllAtoms P (with_atoms image f) → AllAtoms Q f
  unfolding with_atoms
  each-with_atoms P Q h top each = tt
  each-with_atoms P Q h bottom each = tt
  each-with_atoms P Q h (atom a) each = h a each
  each-with_atoms P Q h (neg f) each = each-with_atoms P Q h f each
  each-with_atoms P Q h (both f g) each = (each-with_atoms P Q h f each.0, each-with_atoms P Q h g each.1)
  each-with_atoms P Q h (either f g) each = (each-with_atoms P Q h f each.0, each-with_atoms P Q h g each.1)
  each-with_atoms P Q h (implies f g) each = (each-with_atoms P Q h f each.0, each-with_atoms P Q h g each.1)

-- ---- the laws

pub formulas_are_within : FormulasAreWithin
formulas_are_within names from to f is = record {
  atoms = atoms names (IsRaw names) (IsWritableRaw names) (raw_writable names) formula most_open from f to is.is;
  shallow = let low = levels names (IsRaw names) formula most_open from f to is.is in omega arith;
  few = is.few;
}

pub crash_formulas_are_within : CrashFormulasAreWithin
crash_formulas_are_within names from to f is = record {
  atoms = atoms names (IsCrash names) (IsWritableCrash names) (crash_writable names) formula most_open from f to is.is;
  shallow = let low = levels names (IsCrash names) formula most_open from f to is.is in omega arith;
  few = is.few;
}

assertion_within : (names : NameTable) (g : Plain ViewAtom) → IsWithin IsWritableRaw names (with_atoms raw_of g) → IsWithin IsWritable names g
assertion_within names g h = record {
  atoms = each-with_atoms raw_of (IsWritableRaw names) (IsWritable names) (view_writable names) g h.atoms;
  shallow = subst (λ n. n ≤ most_open) (opens-with_atoms raw_of g) h.shallow;
  few = subst (λ n. n ≤ most_nodes) (nodes-with_atoms raw_of g) h.few;
}

pub assertions_are_within : AssertionsAreWithin
assertions_are_within names f g same h = assertion_within names g (subst (IsWithin IsWritableRaw names) (sym same) h)

-- over names of the grammar that is all that reading again asks for
pub whole_within : {T : Type 0} (Writable : NameTable → T → Type 0) (names : NameTable) (f : Plain T) → IsNameTable names → AreNames names → IsWithin Writable names f → IsWhole Writable names f
whole_within Writable names f table are h = record { table = table; names_are = are; atoms = h.atoms; shallow = h.shallow; few = h.few }
