-- What a printer appended part by part is the spelling of the whole.
use Rattle.std.proofs.Common.{◌≡◌, ℕ, Bool, true, false, Ok, Err, List, ◌++◌, ap, ◌∙◌}
use Rattle.std.specs.Prelude.{Result, OnOk, codes, is_ok, if◌then◌else◌}
use Rattle.std.proofs.lemmas.List.{append_assoc}
use Rattle.pg_assertion.specs.Formula.{Plain, both, either, implies}
use Rattle.pg_assertion_text.specs.Grammar.{unary, conj, disj}
use Rattle.pg_assertion_text.specs.Spelling.{is_loose, in_brackets, spell}

-- what a part appends, by the result of its call
pub appended : {T E : Type 0} (r : Result T E) (new old part : List ℕ) → new ≡ (if is_ok r then old ++ part else old) → OnOk r (new ≡ old ++ part)
appended (Ok u) new old part h = h
appended (Err e) new old part h = tt

-- three parts, one behind another
three_parts : {T E : Type 0} (r : Result T E) (old one two three a b c : List ℕ) → one ≡ old ++ a → two ≡ one ++ b → OnOk r (three ≡ two ++ c)
    → OnOk r (three ≡ old ++ (a ++ (b ++ c)))
three_parts (Ok u) old one two three a b c first second third =
    third ∙ ap (λ x. x ++ c) (second ∙ ap (λ x. x ++ b) first ∙ append_assoc old a b) ∙ append_assoc old (a ++ b) c ∙ ap (λ x. old ++ x) (append_assoc a b c)
three_parts (Err e) old one two three a b c first second third = tt

-- the text in its brackets, or without
pub in_its_brackets : {T E : Type 0} (r : Result T E) (old one two three text : List ℕ) (loose : Bool) → loose ≡ true
    → one ≡ old ++ codes "(" → two ≡ one ++ text → OnOk r (three ≡ two ++ codes ")") → OnOk r (three ≡ old ++ in_brackets loose text)
in_its_brackets r old one two three text true is first second third = three_parts r old one two three (codes "(") text (codes ")") first second third
in_its_brackets r old one two three text false is first second third = absurd (cc)

pub without_brackets : {T E : Type 0} (r : Result T E) (old new text : List ℕ) (loose : Bool) → loose ≡ false
    → OnOk r (new ≡ old ++ text) → OnOk r (new ≡ old ++ in_brackets loose text)
without_brackets r old new text true is appended = absurd (cc)
without_brackets r old new text false is appended = appended

module _ {A : Type 0} (of_atom : A → List ℕ) {T E : Type 0} (r : Result T E) where
  pub spells_both : (whole f g : Plain A) (old one two three : List ℕ) → whole ≡ both f g
      → one ≡ old ++ in_brackets (is_loose conj f) (spell of_atom f) → two ≡ one ++ codes " & "
      → OnOk r (three ≡ two ++ in_brackets (is_loose unary g) (spell of_atom g)) → OnOk r (three ≡ old ++ spell of_atom whole)
  unfolding spell
  spells_both whole f g old one two three is first second third =
      rw is (three_parts r old one two three (in_brackets (is_loose conj f) (spell of_atom f)) (codes " & ") (in_brackets (is_loose unary g) (spell of_atom g)) first second third)

  pub spells_either : (whole f g : Plain A) (old one two three : List ℕ) → whole ≡ either f g
      → one ≡ old ++ in_brackets (is_loose disj f) (spell of_atom f) → two ≡ one ++ codes " | "
      → OnOk r (three ≡ two ++ in_brackets (is_loose conj g) (spell of_atom g)) → OnOk r (three ≡ old ++ spell of_atom whole)
  unfolding spell
  spells_either whole f g old one two three is first second third =
      rw is (three_parts r old one two three (in_brackets (is_loose disj f) (spell of_atom f)) (codes " | ") (in_brackets (is_loose conj g) (spell of_atom g)) first second third)

  pub spells_implies : (whole f g : Plain A) (old one two three : List ℕ) → whole ≡ implies f g
      → one ≡ old ++ in_brackets (is_loose disj f) (spell of_atom f) → two ≡ one ++ codes " -> "
      → OnOk r (three ≡ two ++ spell of_atom g) → OnOk r (three ≡ old ++ spell of_atom whole)
  unfolding spell
  spells_implies whole f g old one two three is first second third =
      rw is (three_parts r old one two three (in_brackets (is_loose disj f) (spell of_atom f)) (codes " -> ") (spell of_atom g) first second third)
