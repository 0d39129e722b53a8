-- The canonical spelling of formulas: one blank on each side of a sign, none after `!`, and brackets just where the
-- formula would be read otherwise.
use Rattle.std.specs.Prelude.{◌≡◌, ℕ, ◌+◌, ◌^◌, ◌<◌, ◌≤◌, max, Bool, true, false, nat_lt, List, [], ◌∷◌, ◌++◌, length, codes, decimal, All, option_map, unwrap_or, slice_get}
use Rattle.pg_lex.specs.Piece.{is_lower, is_word}
use Rattle.pg_lex.specs.Grammar.{AllIn, Begins, Stops}
use Rattle.pg_program.specs.NameTable.{NameTable}
use Rattle.pg_assertion.specs.declared.atom.ViewAtom.{ViewAtom}
use Rattle.pg_assertion.specs.declared.atom.ViewAtom.TheVariants as view
use Rattle.pg_assertion.specs.declared.atom.CrashAtom.{CrashAtom}
use Rattle.pg_assertion.specs.declared.atom.CrashAtom.TheVariants as crash
use Rattle.pg_assertion.specs.Formula.{Plain, top, bottom, atom, neg, both, either, implies}
use Rattle.pg_assertion_text.specs.Words.{is_reserved}
use Rattle.pg_assertion_text.specs.Grammar.{Rule, unary, conj, disj, formula}

-- ---- names

-- the name that stands at a place
abbrev pub name_in : {E : Type 0} → (E → List ℕ) → List E → ℕ → List ℕ
name_in name entries i = unwrap_or (option_map name (slice_get entries i)) []

abbrev pub location_name : NameTable → ℕ → List ℕ
location_name names x = name_in (λ l. l.name) names.locations x

abbrev pub scalar_name : NameTable → ℕ → List ℕ
scalar_name names r = name_in (λ e. e.0) names.scalars r

-- ---- atoms

-- `name = k`
abbrev pub equation : List ℕ → ℕ → List ℕ
equation name k = name ++ (codes " = " ++ decimal k)

-- what stands in the brackets of an atom, with a comma between, and the closing bracket; no blanks
abbrev pub arguments : List (List ℕ) → List ℕ
arguments [] = codes ")"
arguments (w ∷ []) = w ++ codes ")"
arguments (w ∷ v ∷ ws) = w ++ (codes "," ++ arguments (v ∷ ws))

abbrev pub spell_atom : NameTable → ViewAtom → List ℕ
spell_atom names (view.Scalar r k) = equation (scalar_name names r) k
spell_atom names (view.Last x v) = codes "L(" ++ arguments (location_name names x ∷ decimal v ∷ [])
spell_atom names (view.Read t x v) = codes "R(" ++ arguments (decimal t ∷ location_name names x ∷ decimal v ∷ [])
spell_atom names (view.Persist x v) = codes "P(" ++ arguments (location_name names x ∷ decimal v ∷ [])
spell_atom names (view.Async t x v) = codes "A(" ++ arguments (decimal t ∷ location_name names x ∷ decimal v ∷ [])
spell_atom names (view.Then t x v y w) = codes "C(" ++ arguments (decimal t ∷ location_name names x ∷ decimal v ∷ location_name names y ∷ decimal w ∷ [])
spell_atom names (view.Newest t x) = codes "N(" ++ arguments (decimal t ∷ location_name names x ∷ [])
spell_atom names (view.Ordered t x) = codes "O(" ++ arguments (decimal t ∷ location_name names x ∷ [])
spell_atom names (view.Fenced t x) = codes "F(" ++ arguments (decimal t ∷ location_name names x ∷ [])

abbrev pub spell_crash : NameTable → CrashAtom → List ℕ
spell_crash names (crash.Scalar r k) = equation (scalar_name names r) k
spell_crash names (crash.Location x v) = equation (location_name names x) v

-- ---- formulas

-- the rule that a formula without a bracket round it is a phrase of
abbrev pub rule_of : {T : Type 0} → Plain T → Rule
rule_of top = unary
rule_of bottom = unary
rule_of (atom a) = unary
rule_of (neg f) = unary
rule_of (both f g) = conj
rule_of (either f g) = disj
rule_of (implies f g) = formula

abbrev pub looseness : Rule → ℕ
looseness unary = 0
looseness conj = 1
looseness disj = 2
looseness formula = 3

-- a phrase of the rule needs a bracket to have this formula as a part
abbrev pub is_loose : {T : Type 0} → Rule → Plain T → Bool
is_loose rule f = nat_lt (looseness rule) (looseness (rule_of f))

abbrev pub in_brackets : Bool → List ℕ → List ℕ
in_brackets true text = codes "(" ++ (text ++ codes ")")
in_brackets false text = text

unfoldable pub spell : {T : Type 0} → (T → List ℕ) → Plain T → List ℕ
spell of_atom top = codes "true"
spell of_atom bottom = codes "false"
spell of_atom (atom a) = of_atom a
spell of_atom (neg f) = codes "!" ++ in_brackets (is_loose unary f) (spell of_atom f)
spell of_atom (both f g) = in_brackets (is_loose conj f) (spell of_atom f) ++ (codes " & " ++ in_brackets (is_loose unary g) (spell of_atom g))
spell of_atom (either f g) = in_brackets (is_loose disj f) (spell of_atom f) ++ (codes " | " ++ in_brackets (is_loose conj g) (spell of_atom g))
spell of_atom (implies f g) = in_brackets (is_loose disj f) (spell of_atom f) ++ (codes " -> " ++ spell of_atom g)

-- ---- what can be read again

-- how many brackets and `!` are open at once in the spelling
abbrev pub bracket : Bool → ℕ
bracket true = 1
bracket false = 0

unfoldable pub opens : {T : Type 0} → Plain T → ℕ
opens top = 0
opens bottom = 0
opens (atom a) = 0
opens (neg f) = 1 + (bracket (is_loose unary f) + opens f)
opens (both f g) = max (bracket (is_loose conj f) + opens f) (bracket (is_loose unary g) + opens g)
opens (either f g) = max (bracket (is_loose disj f) + opens f) (bracket (is_loose conj g) + opens g)
opens (implies f g) = max (bracket (is_loose disj f) + opens f) (opens g)

-- a word that may be a name
pub record IsName (w : List ℕ) : Type 0 where
  pub begins : Begins is_lower w
  pub word : AllIn is_word w
  pub short : length w ≤ 32
  pub free : is_reserved w ≡ false

-- the names of a table are names of the grammar
pub record AreNames (t : NameTable) : Type 0 where
  pub locations : All (λ l. IsName l.name) t.locations
  pub scalars : All (λ e. IsName e.0) t.scalars

-- a text may follow a word or a number
abbrev pub Ends : List ℕ → Type 0
Ends more = Stops is_word more

-- the numbers of an atom can be read
abbrev pub NumbersFit : ViewAtom → Type 0
NumbersFit (view.Scalar r k) = k < 2 ^ 32
NumbersFit (view.Last x v) = v < 2 ^ 32
NumbersFit (view.Read t x v) = (t < 2 ^ 32) × (v < 2 ^ 32)
NumbersFit (view.Persist x v) = v < 2 ^ 32
NumbersFit (view.Async t x v) = (t < 2 ^ 32) × (v < 2 ^ 32)
NumbersFit (view.Then t x v y w) = (t < 2 ^ 32) × (v < 2 ^ 32) × (w < 2 ^ 32)
NumbersFit (view.Newest t x) = t < 2 ^ 32
NumbersFit (view.Ordered t x) = t < 2 ^ 32
NumbersFit (view.Fenced t x) = t < 2 ^ 32

abbrev pub CrashFits : CrashAtom → Type 0
CrashFits (crash.Scalar r k) = k < 2 ^ 32
CrashFits (crash.Location x v) = v < 2 ^ 32
