-- The same of the readers of atoms.
use Rattle.std.proofs.Common.{◌≡◌, ℕ, Bool, true, false, Ok, arith}
use Rattle.std.specs.Prelude.{if◌then◌else◌, ◌==◌}
use Rattle.pg_lex.specs.declared.token.Sign.TheVariants as s
use Rattle.pg_lex.specs.declared.token.TokenKind.{TokenKind}
use Rattle.pg_lex.specs.declared.token.TokenKind.TheVariants as kind
use Rattle.pg_lex.specs.declared.fault.TextKind.TheVariants.{Unexpected}
use Rattle.pg_lex.specs.Lex.{Cursor, Lexeme, token}
use Rattle.pg_program.specs.NameTable.{NameTable}
use Rattle.pg_assertion.specs.declared.atom.RawAtom.{RawAtom}
use Rattle.pg_assertion.specs.declared.atom.RawAtom.TheVariants as raw
use Rattle.pg_assertion_text.specs.Input as input
use Rattle.pg_assertion_text.specs.Input.{Input, Outcome, Parser, and_then, ◌>>=◌, ◌>>◌, pure, refuse, allowed, next, node, expect, named, scalar_in}
use Rattle.pg_assertion_text.specs.Atoms.{equals, cell, thread, last, seen, read, two_reads, lettered, scalar_atom, raw_by, raw_atom}
use Rattle.pg_assertion_text.proofs.Moves.{Later, Past, Moves, shift, bind_at, bind_moves, moves_then, moves_pure, token_moves, one_later, allowed_at, refused_at, node_at, expect_moves, number_moves, location_moves}

pub equals_moves : Moves equals
unfolding equals
equals_moves = moves_then (expect s.Equal) (λ u. input.number) (expect_moves s.Equal) (λ u. number_moves)

pub comma_moves : Moves (expect s.Comma >> input.number)
comma_moves = moves_then (expect s.Comma) (λ u. input.number) (expect_moves s.Comma) (λ u. number_moves)

pub cell_moves : (names : NameTable) → Moves (cell names)
unfolding cell
cell_moves names = moves_then (input.location names) (λ x. (expect s.Comma >> input.number) >>= (λ v. pure (x, v))) (location_moves names)
    (λ x. moves_then (expect s.Comma >> input.number) (λ v. pure (x, v)) comma_moves (λ v. moves_pure {A = ℕ × ℕ} (x, v)))

pub thread_moves : Moves thread
unfolding thread
thread_moves = moves_then input.number (λ t. expect s.Comma >> pure t) number_moves (λ t. moves_then (expect s.Comma) (λ u. pure t) (expect_moves s.Comma) (λ u. moves_pure t))

pub closed_moves : {A : Type 0} (a : A) → Moves (expect s.Close >> pure a)
closed_moves a = moves_then (expect s.Close) (λ u. pure a) (expect_moves s.Close) (λ u. moves_pure a)

pub opened_moves : Moves (expect s.Open >> thread)
opened_moves = moves_then (expect s.Open) (λ u. thread) (expect_moves s.Open) (λ u. thread_moves)

pub last_moves : (names : NameTable) → Moves (last names)
unfolding last
last_moves names = moves_then (expect s.Open >> cell names) (λ c. expect s.Close >> pure c) (moves_then (expect s.Open) (λ u. cell names) (expect_moves s.Open) (λ u. cell_moves names)) (λ c. closed_moves c)

pub seen_moves : (names : NameTable) → Moves (seen names)
unfolding seen
seen_moves names = moves_then (expect s.Open >> thread) (λ t. input.location names >>= (λ x. expect s.Close >> pure (t, x))) opened_moves
    (λ t. moves_then (input.location names) (λ x. expect s.Close >> pure (t, x)) (location_moves names) (λ x. closed_moves {A = ℕ × ℕ} (t, x)))

pub read_moves : (names : NameTable) → Moves (read names)
unfolding read
read_moves names = moves_then (expect s.Open >> thread) (λ t. cell names >>= (λ c. expect s.Close >> pure (t, c))) opened_moves
    (λ t. moves_then (cell names) (λ c. expect s.Close >> pure (t, c)) (cell_moves names) (λ c. closed_moves {A = ℕ × (ℕ × ℕ)} (t, c)))

pub second_moves : (names : NameTable) → Moves (expect s.Comma >> cell names)
second_moves names = moves_then (expect s.Comma) (λ u. cell names) (expect_moves s.Comma) (λ u. cell_moves names)

pub two_moves : (names : NameTable) → Moves (two_reads names)
unfolding two_reads
two_moves names = moves_then (expect s.Open >> thread) (λ t. cell names >>= (λ c. (expect s.Comma >> cell names) >>= (λ d. expect s.Close >> pure (t, c, d)))) opened_moves
    (λ t. moves_then (cell names) (λ c. (expect s.Comma >> cell names) >>= (λ d. expect s.Close >> pure (t, c, d))) (cell_moves names)
    (λ c. moves_then (expect s.Comma >> cell names) (λ d. expect s.Close >> pure (t, c, d)) (second_moves names) (λ d. closed_moves {A = ℕ × (ℕ × ℕ) × (ℕ × ℕ)} (t, c, d))))

-- ---- behind the first token

module _ (names : NameTable) (c : Cursor) (r : ℕ) (t : Lexeme) (is : token c ≡ Ok t) where
  from_later : {A : Type 0} (p : Parser A) → Moves p → (j : Input) → Later 0 c r j → Past 0 c r (p j)
  from_later p moves j later = shift 0 0 c r later.k j.cursor j.room (p j) later.is (omega arith) later.room (moves j)

  made : {A : Type 0} (p : Parser A) (make : A → RawAtom) → Moves p → (j : Input) → Later 0 c r j → Past 0 c r (and_then (p j) (λ a. pure (make a)))
  made p make moves j later = from_later (p >>= (λ a. pure (make a))) (moves_then p (λ a. pure (make a)) moves (λ a. moves_pure (make a))) j later

  either : (v : Bool) (p q : Parser RawAtom) (j : Input) → Past 0 c r (p j) → Past 0 c r (q j) → Past 0 c r ((if v then p else q) j)
  either true p q j a b = a
  either false p q j a b = b

  lettered_at : (b : ℕ) (j : Input) → Later 0 c r j → Past 0 c r (lettered names t.place b j)
  lettered_at b j later =
      either (b == 76) _ _ j (made (last names) (λ c. raw.Last c.0 c.1) (last_moves names) j later)
      (either (b == 80) _ _ j (made (last names) (λ c. raw.Persist c.0 c.1) (last_moves names) j later)
      (either (b == 82) _ _ j (made (read names) (λ a. raw.Read a.0 a.1.0 a.1.1) (read_moves names) j later)
      (either (b == 65) _ _ j (made (read names) (λ a. raw.Async a.0 a.1.0 a.1.1) (read_moves names) j later)
      (either (b == 67) _ _ j (made (two_reads names) (λ a. raw.Then a.0 a.1.0 a.1.1 a.2.0 a.2.1) (two_moves names) j later)
      (either (b == 78) _ _ j (made (seen names) (λ a. raw.Newest a.0 a.1) (seen_moves names) j later)
      (either (b == 79) _ _ j (made (seen names) (λ a. raw.Ordered a.0 a.1) (seen_moves names) j later)
      (either (b == 70) _ _ j (made (seen names) (λ a. raw.Fenced a.0 a.1) (seen_moves names) j later)
      (refused_at RawAtom c r t Unexpected is j))))))))

  scalar_at : (j : Input) → Later 0 c r j → Past 0 c r (scalar_atom names t j)
  scalar_at j later =
      bind_at 0 c r (allowed t.place (scalar_in (named names t)) j) (λ r. (node t.place >> equals) >>= (λ k. pure (raw.Scalar r k))) (allowed_at c r t (scalar_in (named names t)) is j later) (λ x k e l.
      bind_moves 0 c r (and_then (node t.place k) (λ u. equals)) (λ n. pure (raw.Scalar x n))
      (bind_moves 0 c r (node t.place k) (λ u. equals) (node_at c r t is k l) (λ u. equals_moves)) (λ n. moves_pure (raw.Scalar x n)))

  raw_at : (k : TokenKind) (j : Input) → Later 0 c r j → Past 0 c r (raw_by names t k j)
  raw_at (kind.Letter b) j later = bind_at 0 c r (node t.place j) (λ u. lettered names t.place b) (node_at c r t is j later) (λ u k e l. lettered_at b k l)
  raw_at kind.Word j later = scalar_at j later
  raw_at (kind.Number n) j later = scalar_at j later
  raw_at (kind.Sign z) j later = scalar_at j later
  raw_at kind.End j later = scalar_at j later

pub raw_moves : (names : NameTable) → Moves (raw_atom names)
unfolding raw_atom
raw_moves names = token_moves (λ t. raw_by names t t.kind) (λ c r t is j at room. raw_at names c r t is t.kind j (one_later c r j at room))
