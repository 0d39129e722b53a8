-- What stands at a place of a derivation's text, or the first fault from there on.
--
-- A word ends before the next space, the next newline or the end of the text. Words have one space between them, so a fault stands at
-- the first byte of a word that can't stand where it is, also of an empty one; at the newline where a word is missing; or at the
-- text's length where it ends early.
use Rattle.std.specs.Prelude.{ℕ, zero, suc, ◌+◌, ◌-◌, ◌*◌, ◌^◌, Bool, true, false, not, ◌&&◌, ◌||◌, ◌==◌, nat_le, nat_lt, if◌then◌else◌, List, [], ◌∷◌, length, drop, slice_index, take_while, bytes_eq, codes, Option, Some, None, Result, Ok, Err}
use Rattle.std.specs.List.{prefix_len}
use Rattle.pg_document.specs.declared.fault.DocFault.{DocFault}
use Rattle.pg_document.specs.declared.fault.DocFault.TheVariants.{Unexpected, Version}
use Rattle.pg_region.specs.Literal.{Literal}
use Rattle.pg_derivation.specs.Derivation.{Node, split, leaf}

-- a place of a text, and the bytes from there on
pub record Cursor : Type 0 where
  pub at : ℕ
  pub rest : List ℕ

-- what was read from a place, and the place behind it; or the first fault
abbrev pub Read : Type 0 → Type 0
Read A = Result (A × Cursor) DocFault

abbrev pub fault : {A : Type 0} → Cursor → Result A DocFault
fault c = Err (Unexpected c.at)

infixl 10 ◌>>=◌
abbrev pub ◌>>=◌ : {A B : Type 0} → Result A DocFault → (A → Result B DocFault) → Result B DocFault
(Ok x) >>= f = f x
(Err e) >>= f = Err e

-- the cursor n bytes further on
abbrev pub advance : ℕ → Cursor → Cursor
advance n c = record { at = c.at + n; rest = drop n c.rest }

-- ---- words

abbrev pub in_word : ℕ → Bool
in_word b = not (b == 32 || b == 10)

abbrev pub word : Cursor → List ℕ
word c = take_while in_word c.rest

abbrev pub behind : Cursor → Cursor
behind c = advance (prefix_len in_word c.rest) c

abbrev pub says : List ℕ → Cursor → Bool
says w c = bytes_eq (word c) w

-- this word stands here
abbrev pub keyword : List ℕ → Cursor → Result Cursor DocFault
keyword w c = if says w c then Ok (behind c) else fault c

-- behind a word: one more word follows
abbrev pub space_at : ℕ → List ℕ → Result Cursor DocFault
space_at at [] = Err (Unexpected at)
space_at at (b ∷ bs) = if b == 32 then Ok (record { at = at + 1; rest = bs }) else Err (Unexpected at)

abbrev pub space : Cursor → Result Cursor DocFault
space c = space_at c.at c.rest

-- behind a word: the line ends; no word can stand behind a space
abbrev pub newline_at : ℕ → List ℕ → Result Cursor DocFault
newline_at at [] = Err (Unexpected at)
newline_at at (b ∷ bs) = if b == 10 then Ok (record { at = at + 1; rest = bs }) else Err (Unexpected (at + 1))

abbrev pub newline : Cursor → Result Cursor DocFault
newline c = newline_at c.at c.rest

-- ---- numbers and literals

abbrev pub is_digit : ℕ → Bool
is_digit b = nat_le 48 b && nat_le b 57

abbrev pub all_digits : List ℕ → Bool
all_digits [] = true
all_digits (b ∷ bs) = is_digit b && all_digits bs

-- the number that digits spell after digits that spell n
abbrev pub value_from : ℕ → List ℕ → ℕ
value_from n [] = n
value_from n (d ∷ ds) = value_from (n * 10 + (d - 48)) ds

-- what digits spell after digits that spell n, unless it is above 2147483647
abbrev pub value_after : ℕ → List ℕ → Option ℕ
value_after n ds = if all_digits ds && nat_lt (value_from n ds) (2 ^ 31) then Some (value_from n ds) else None

-- digits without a leading zero, of 1 to 2147483647
unfoldable pub number_in : List ℕ → Option ℕ
number_in [] = None
number_in (b ∷ bs) = if b == 48 then None else value_after 0 (b ∷ bs)

abbrev pub meant : Bool → Option ℕ → Option Literal
meant positive None = None
meant positive (Some n) = Some (record { atom = n; positive = positive })

-- the number of an atom, with `-` in front of it where the atom is meant to be false
unfoldable pub literal_in : List ℕ → Option Literal
literal_in [] = None
literal_in (b ∷ bs) = if b == 45 then meant false (number_in bs) else meant true (number_in (b ∷ bs))

abbrev pub told : {A : Type 0} → Cursor → Option A → Read A
told c None = fault c
told c (Some x) = Ok (x, behind c)

abbrev pub number : Cursor → Read ℕ
number c = told c (number_in (word c))

abbrev pub literal : Cursor → Read Literal
literal c = told c (literal_in (word c))

-- ---- lines

-- the first word says the version
unfoldable pub header : Cursor → Result Cursor DocFault
header c = do
  title ← keyword (codes "derivation") c
  from ← space title
  version ← number from
  if version.0 == 1 then newline version.1 else Err (Version version.0)

-- the line of the obligation with this number
unfoldable pub obligation : ℕ → Cursor → Result Cursor DocFault
obligation i c = do
  title ← keyword (codes "obligation") c
  from ← space title
  given ← number from
  if given.0 == i then newline given.1 else fault from

-- a number, and those behind it up to the end of the line: at most so many
unfoldable pub numbers : ℕ → Cursor → Read (List ℕ)
numbers zero c = fault c
numbers (suc n) c = do
  first ← number c
  if slice_index first.1.rest 0 == 32
      then (numbers n (advance 1 first.1) >>= λ more. Ok (first.0 ∷ more.0, more.1))
      else (newline first.1 >>= λ next. Ok (first.0 ∷ [], next))

unfoldable pub split_line : Cursor → Read Node
split_line c = do
  title ← keyword (codes "split") c
  from ← space title
  chosen ← literal from
  next ← newline chosen.1
  Ok (split chosen.0, next)

unfoldable pub leaf_line : Cursor → Read Node
leaf_line c = do
  title ← keyword (codes "leaf") c
  from ← space title
  given ← numbers (length from.rest) from
  Ok (leaf given.0, given.1)

abbrev pub node : Cursor → Read Node
node c = if says (codes "split") c then split_line c else leaf_line c

-- ---- trees

abbrev pub is_node : Cursor → Bool
is_node c = says (codes "split") c || says (codes "leaf") c

-- a line, and those behind it that are lines of a tree: at most so many
unfoldable pub nodes : ℕ → Cursor → Read (List Node)
nodes zero c = fault c
nodes (suc n) c = do
  first ← node c
  if is_node first.1
      then (nodes n first.1 >>= λ more. Ok (first.0 ∷ more.0, more.1))
      else Ok (first.0 ∷ [], first.1)

unfoldable pub tree : ℕ → Cursor → Read (List Node)
tree i c = do
  from ← obligation i c
  nodes (length from.rest) from

-- the trees from the obligation with this number on: at most so many
unfoldable pub trees : ℕ → ℕ → Cursor → Read (List (List Node))
trees zero i c = fault c
trees (suc n) i c =
    if says (codes "obligation") c
    then (tree i c >>= λ first. trees n (i + 1) first.1 >>= λ more. Ok (first.0 ∷ more.0, more.1))
    else Ok ([], c)

-- nothing stands behind the line that says `end`
unfoldable pub closing : Cursor → Result Cursor DocFault
closing c = do
  title ← keyword (codes "end") c
  next ← newline title
  if length next.rest == 0 then Ok next else fault next

-- the trees that a text says, or its first fault; each line of it takes a byte, so these turns are enough
unfoldable pub derivation_of : List ℕ → Result (List (List Node)) DocFault
derivation_of text = do
  from ← header (record { at = 0; rest = text })
  given ← trees (length from.rest) 1 from
  next ← closing given.1
  Ok given.0
