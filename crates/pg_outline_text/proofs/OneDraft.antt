-- An outline is told by what a text has of it.
use Rattle.std.proofs.Common.{◌≡◌, List, [], ◌∷◌, map, refl, ap, ap₂, sym, ◌∙◌}
use Rattle.pg_assertion.specs.declared.atom.ViewAtom.{ViewAtom}
use Rattle.pg_assertion.specs.declared.atom.ViewAtom.TheVariants as view
use Rattle.pg_assertion.specs.declared.atom.RawAtom.{RawAtom}
use Rattle.pg_assertion.specs.declared.atom.RawAtom.TheVariants as raw
use Rattle.pg_assertion.specs.Atom.{raw_of}
use Rattle.pg_assertion.specs.Formula.{Plain, top, bottom, atom, neg, both, either, implies, with_atoms}
use Rattle.pg_outline.specs.Outline.{OutlineTable, Draft, draft_of}

abbrev view_of : RawAtom → ViewAtom
view_of (raw.Scalar r k) = view.Scalar r k
view_of (raw.Last x v) = view.Last x v
view_of (raw.Read t x v) = view.Read t x v
view_of (raw.Persist x v) = view.Persist x v
view_of (raw.Async t x v) = view.Async t x v
view_of (raw.Then t x v y w) = view.Then t x v y w
view_of (raw.Newest t x) = view.Newest t x
view_of (raw.Ordered t x) = view.Ordered t x
view_of (raw.Fenced t x) = view.Fenced t x

view_again : (a : ViewAtom) → view_of (raw_of a) ≡ a
view_again (view.Scalar r k) = refl
view_again (view.Last x v) = refl
view_again (view.Read t x v) = refl
view_again (view.Persist x v) = refl
view_again (view.Async t x v) = refl
view_again (view.Then t x v y w) = refl
view_again (view.Newest t x) = refl
view_again (view.Ordered t x) = refl
view_again (view.Fenced t x) = refl

formula_again : (f : Plain ViewAtom) → with_atoms view_of (with_atoms raw_of f) ≡ f
unfolding with_atoms
formula_again top = refl
formula_again bottom = refl
formula_again (atom a) = ap atom (view_again a)
formula_again (neg f) = ap neg (formula_again f)
formula_again (both f g) = ap₂ both (formula_again f) (formula_again g)
formula_again (either f g) = ap₂ either (formula_again f) (formula_again g)
formula_again (implies f g) = ap₂ implies (formula_again f) (formula_again g)

notes_again : (fs : List (Plain ViewAtom)) → map (with_atoms view_of) (map (with_atoms raw_of) fs) ≡ fs
notes_again [] = refl
notes_again (f ∷ fs) = ap₂ (λ f fs. f ∷ fs) (formula_again f) (notes_again fs)

all_again : (ns : List (List (Plain ViewAtom))) → map (map (with_atoms view_of)) (map (map (with_atoms raw_of)) ns) ≡ ns
all_again [] = refl
all_again (n ∷ ns) = ap₂ (λ n ns. n ∷ ns) (notes_again n) (all_again ns)

abbrev outline_of : Draft → OutlineTable
outline_of d = record { program = d.program; pre = with_atoms view_of d.pre; crash = d.crash; notes = map (map (with_atoms view_of)) d.notes }

outline_again : (o : OutlineTable) → outline_of (draft_of o) ≡ o
outline_again o = ap₂ (λ f ns. record { program = o.program; pre = f; crash = o.crash; notes = ns }) (formula_again o.pre) (all_again o.notes)

pub one_outline : (a b : OutlineTable) → draft_of a ≡ draft_of b → a ≡ b
one_outline a b same = sym (outline_again a) ∙ ap outline_of same ∙ outline_again b
