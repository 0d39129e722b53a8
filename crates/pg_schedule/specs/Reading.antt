-- The schedule that a text stands for, or its first fault.
use Rattle.std.specs.Prelude.{ℕ, ◌+◌, ◌-◌, ◌*◌, ◌^◌, Bool, false, not, ◌&&◌, ◌==◌, nat_lt, if◌then◌else◌, List, [], ◌∷◌, ◌++◌, length, codes, bytes_eq, Option, Some, None, Result, Ok, Err}
use Rattle.std.specs.Str.{all_ascii_digits}
use Rattle.pg_document.specs.declared.fault.DocFault.{DocFault}
use Rattle.pg_document.specs.declared.fault.DocFault.TheVariants.{Unexpected, Version}
use Rattle.pg_schedule.specs.Words.{Piece, Words, TextLine, is_empty, lines, saying}
use Rattle.pg_schedule.specs.Schedule.{Act, step, crash, Line, ScheduleTable}

-- ---- numbers

-- the number that digits spell after digits that spell n
abbrev pub value_from : ℕ → List ℕ → ℕ
value_from n [] = n
value_from n (d ∷ ds) = value_from (10 * n + (d - 48)) ds

-- the number that decimal digits are, also with zeros in front
abbrev pub number_in : List ℕ → Option ℕ
number_in text =
    if not (is_empty text) && all_ascii_digits text && nat_lt (value_from 0 text) (2 ^ 32) then Some (value_from 0 text) else None

-- ---- readers: what is read of the words of a line, with the words behind it, or the fault

abbrev pub Read : Type 0 → Type 0
Read A = Result (A × Words) DocFault

abbrev pub Reader : Type 0 → Type 0
Reader A = Words → Read A

abbrev pub then_read : {A B : Type 0} → Read A → (A → Reader B) → Read B
then_read (Ok p) f = f p.0 p.1
then_read (Err e) f = Err e

infixl 10 ◌>>=◌
abbrev pub ◌>>=◌ : {A B : Type 0} → Reader A → (A → Reader B) → Reader B
p >>= f = λ w. then_read (p w) f

infixl 10 ◌>>◌
abbrev pub ◌>>◌ : {A B : Type 0} → Reader A → Reader B → Reader B
p >> q = p >>= (λ _. q)

abbrev pub pure : {A : Type 0} → A → Reader A
pure a w = Ok (a, w)

-- ---- the next word

abbrev pub place_of : List Piece → ℕ → ℕ
place_of [] end = end
place_of (p ∷ ps) end = p.place

-- the first word that is left can't stand, or one is missing
abbrev pub unexpected : {A : Type 0} → Reader A
unexpected w = Err (Unexpected (place_of w.left w.end))

abbrev pub behind_first : List Piece → List Piece
behind_first [] = []
behind_first (p ∷ ps) = ps

abbrev pub behind : Words → Words
behind w = record w { left = behind_first w.left }

abbrev pub is_first : List ℕ → List Piece → Bool
is_first text [] = false
is_first text (p ∷ ps) = bytes_eq p.text text

-- the next word is this one
unfoldable pub keyword : List ℕ → Reader (Unit {0})
keyword text w = if is_first text w.left then Ok (tt, behind w) else unexpected w

abbrev pub first_number : List Piece → Option ℕ
first_number [] = None
first_number (p ∷ ps) = number_in p.text

abbrev pub taken : Option ℕ → Reader ℕ
taken (Some n) w = Ok (n, behind w)
taken None w = unexpected w

-- the next word is a number
unfoldable pub number : Reader ℕ
number w = taken (first_number w.left) w

-- no word is left
unfoldable pub ended : Reader (Unit {0})
ended w = if is_empty w.left then Ok (tt, w) else unexpected w

-- ---- lines

abbrev pub event : ℕ → Option ℕ → Act
event t choice = step (record { thread = t; choice = choice })

-- behind `step T`: nothing, or `at P`
unfoldable pub choice : Reader (Option ℕ)
choice w = if is_empty w.left then Ok (None, w) else (keyword (codes "at") >> number >>= (λ p. ended >> pure (Some p))) w

-- `step T`, or `step T at P`
unfoldable pub step_line : Reader Act
step_line = keyword (codes "step") >> number >>= (λ t. choice >>= (λ c. pure (event t c)))

-- a number, if there is one at this place, and those behind it
abbrev pub and_number : ℕ → Option ℕ → Read (List ℕ) → Read (List ℕ)
and_number place (Some n) (Ok p) = Ok (n ∷ p.0, p.1)
and_number place (Some n) (Err e) = Err e
and_number place None rest = Err (Unexpected place)

-- numbers up to the end of the line
abbrev pub numbers : List Piece → ℕ → Read (List ℕ)
numbers [] end = Ok ([], record { left = []; end = end })
numbers (p ∷ ps) end = and_number p.place (number_in p.text) (numbers ps end)

unfoldable pub positions : Reader (List ℕ)
positions w = numbers w.left w.end

-- `crash at P1 .. Pn`, with any n, also 0
unfoldable pub crash_line : Reader Act
crash_line = keyword (codes "crash") >> keyword (codes "at") >> positions >>= (λ ps. pure (crash ps))

unfoldable pub act : Reader Act
act w = if is_first (codes "step") w.left then step_line w else crash_line w

-- ---- the text

abbrev pub version : ℕ → Reader (Unit {0})
version n = if n == 1 then ended else (λ w. Err (Version n))

-- `schedule 1`, on the first line of the text; another number there is that of a version that is not known, whatever follows it
unfoldable pub header : ℕ → Reader (Unit {0})
header line = if line == 1 then keyword (codes "schedule") >> number >>= version else unexpected

abbrev pub line_with : ℕ → Act → Line
line_with n a = record { number = n; act = a }

abbrev pub and_line : ℕ → Read Act → Result ScheduleTable DocFault → Result ScheduleTable DocFault
and_line n (Ok p) (Ok ls) = Ok (line_with n p.0 ∷ ls)
and_line n (Ok p) (Err e) = Err e
and_line n (Err e) rest = Err e

-- the lines so far, and one with what is read of it
abbrev pub added : ℕ → ScheduleTable → Read Act → Result ScheduleTable DocFault
added n ls (Ok p) = Ok (ls ++ line_with n p.0 ∷ [])
added n ls (Err e) = Err e

-- an act on each line that says something
abbrev pub acts : List TextLine → Result ScheduleTable DocFault
acts [] = Ok []
acts (l ∷ ls) = and_line l.number (act l.words) (acts ls)

abbrev pub behind_header : Read (Unit {0}) → Result ScheduleTable DocFault → Result ScheduleTable DocFault
behind_header (Ok p) rest = rest
behind_header (Err e) rest = Err e

-- the header on the first line that says something, and then the acts; a text that says nothing ends too early
abbrev pub schedule_of : ℕ → List TextLine → Result ScheduleTable DocFault
schedule_of end [] = Err (Unexpected end)
schedule_of end (l ∷ ls) = behind_header (header l.number l.words) (acts ls)

unfoldable pub schedule : List ℕ → Result ScheduleTable DocFault
schedule text = schedule_of (length text) (saying (lines text))
