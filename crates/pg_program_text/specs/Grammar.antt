-- The grammar of threads:
--
--   body = ( note stmt )* note     note = "[" formula "]"     block = "{" ( note stmt )* "}"
--   stmt = act [ aux ] ";" | "if" test block [ "else" block ] | "while" test block
--   act = SCALAR ":=" LOCATION | SCALAR ":=" "cas" "(" LOCATION "," expr "," expr ")" | SCALAR ":=" expr | LOCATION ":=" expr
--       | "mfence" | "sfence" | "flush" LOCATION | "flushopt" LOCATION
--   aux = "<" AUXILIARY ":=" expr ( "," AUXILIARY ":=" expr )* ">"     test = expr ( "=" | "!=" ) expr
--
-- The relations say what stands from one place of a text to another, within some limits.
use Rattle.std.specs.Prelude.{◌≡◌, ℕ, suc, ◌≤◌, Bool, true, false, List, [], ◌∷◌, ◌++◌, length, Ok}
use Rattle.pg_lex.specs.declared.token.Sign.{Sign}
use Rattle.pg_lex.specs.declared.token.Sign.TheVariants as s
use Rattle.pg_lex.specs.Lex.{Cursor, Lexeme, token}
use Rattle.pg_program.specs.NameTable.{NameTable, is_auxiliary}
use Rattle.pg_program.specs.declared.syntax.Expr.{Expr}
use Rattle.pg_program.specs.declared.syntax.Cond.{Cond}
use Rattle.pg_program.specs.declared.syntax.Act.{Act}
use Rattle.pg_program.specs.declared.syntax.Act.TheVariants as act
use Rattle.pg_program.specs.declared.syntax.AuxAssign.{AuxAssign}
use Rattle.pg_program.specs.declared.syntax.Stmt.{Stmt, roll-Stmt}
use Rattle.pg_assertion.specs.declared.atom.RawAtom.{RawAtom}
use Rattle.pg_assertion.specs.Formula.{Plain}
use Rattle.pg_assertion_text.specs.Words.{Stands, Stand, sign, word, location, scalar}
use Rattle.pg_assertion_text.specs.Atoms.{IsRaw}
use Rattle.pg_assertion_text.specs.Parsing.{IsFormulaIn}
use Rattle.pg_program_text.specs.declared.keyword.Keyword.TheVariants as k
use Rattle.pg_program_text.specs.Limits.{Limits, text_limits, most_points}
use Rattle.pg_program_text.specs.Keywords.{spelling}
use Rattle.pg_program_text.specs.Expr as expr
use Rattle.pg_program_text.specs.Expr.{Is}
use Rattle.pg_program_text.specs.Thread.{Lines, begins, bare}

-- an expression
pub record IsExpr (limits : Limits) (names : NameTable) (from : Cursor) (a : Expr) (to : Cursor) : Type 0 where
  pub nodes : ℕ
  pub is : Is names expr.expr limits.brackets nodes from a to
  pub few : nodes ≤ limits.expression_nodes

-- a note
pub record IsNote (limits : Limits) (names : NameTable) (from : Cursor) (f : Plain RawAtom) (to : Cursor) : Type 0 where
  pub mid : Cursor
  pub end : Cursor
  pub open_square : Stands names (sign s.OpenSquare) from mid
  pub formula : IsFormulaIn limits.formula_brackets limits.formula_nodes IsRaw names mid f end
  pub close_square : Stands names (sign s.CloseSquare) end to

-- the sign of a test
abbrev pub equality : Bool → Sign
equality true = s.Equal
equality false = s.NotEqual

pub record IsTest (limits : Limits) (names : NameTable) (from : Cursor) (c : Cond) (to : Cursor) : Type 0 where
  pub mid : Cursor
  pub behind : Cursor
  pub left : IsExpr limits names from c.left mid
  pub equality_is : Stands names (sign (equality c.equal)) mid behind
  pub right : IsExpr limits names behind c.right to

-- ---- acts

pub data IsAct (limits : Limits) (names : NameTable) : Cursor → Act → Cursor → Type 0 where
  an_assign : (r : ℕ) (a : Expr) (from mid to : Cursor) → Stand names (scalar r ∷ sign s.Assign ∷ []) from mid → IsExpr limits names mid a to → IsAct limits names from (act.Assign r a) to
  a_store : (x : ℕ) (a : Expr) (from mid to : Cursor) → Stand names (location x ∷ sign s.Assign ∷ []) from mid → IsExpr limits names mid a to → IsAct limits names from (act.Store x a) to
  a_load : (r x : ℕ) (from to : Cursor) → Stand names (scalar r ∷ sign s.Assign ∷ location x ∷ []) from to → IsAct limits names from (act.Load r x) to
  a_cas : (r x : ℕ) (a b : Expr) (from mid end behind last to : Cursor)
      → Stand names (scalar r ∷ sign s.Assign ∷ word (spelling k.Cas) ∷ sign s.Open ∷ location x ∷ sign s.Comma ∷ []) from mid
      → IsExpr limits names mid a end → Stands names (sign s.Comma) end behind → IsExpr limits names behind b last → Stands names (sign s.Close) last to
      → IsAct limits names from (act.Cas r x a b) to
  an_mfence : (from to : Cursor) → Stands names (word (spelling k.Mfence)) from to → IsAct limits names from act.Mfence to
  an_sfence : (from to : Cursor) → Stands names (word (spelling k.Sfence)) from to → IsAct limits names from act.Sfence to
  a_flush : (x : ℕ) (from to : Cursor) → Stand names (word (spelling k.Flush) ∷ location x ∷ []) from to → IsAct limits names from (act.Flush x) to
  a_flushopt : (x : ℕ) (from to : Cursor) → Stand names (word (spelling k.Flushopt) ∷ location x ∷ []) from to → IsAct limits names from (act.Flushopt x) to

-- ---- brackets

pub record IsAssignment (limits : Limits) (names : NameTable) (from : Cursor) (a : AuxAssign) (to : Cursor) : Type 0 where
  pub mid : Cursor
  pub target : Stand names (scalar a.target ∷ sign s.Assign ∷ []) from mid
  pub auxiliary : is_auxiliary names a.target ≡ true
  pub expr_is : IsExpr limits names mid a.expr to

-- at most n assignments, and the `>` after them
pub data AreAssignments (limits : Limits) (names : NameTable) : ℕ → Cursor → List AuxAssign → Cursor → Type 0 where
  the_last : (n : ℕ) (a : AuxAssign) (from mid to : Cursor) → IsAssignment limits names from a mid → Stands names (sign s.Greater) mid to → AreAssignments limits names (suc n) from (a ∷ []) to
  one_more : (n : ℕ) (a : AuxAssign) (rest : List AuxAssign) (from mid behind to : Cursor)
      → IsAssignment limits names from a mid → Stands names (sign s.Comma) mid behind → AreAssignments limits names n behind rest to
      → AreAssignments limits names (suc n) from (a ∷ rest) to

-- a bracket, or none
pub data IsBracket (limits : Limits) (names : NameTable) : Cursor → List AuxAssign → Cursor → Type 0 where
  no_bracket : (from : Cursor) → IsBracket limits names from [] from
  a_bracket : (b : List AuxAssign) (from mid to : Cursor) → Stands names (sign s.Less) from mid → AreAssignments limits names limits.assignments mid b to → IsBracket limits names from b to

-- ---- statements and blocks

pub data Part : Type 0 where
  -- one statement
  stmt : Part
  -- notes with a statement after each
  lines : Part
  -- a block with its braces
  block : Part
  -- `else` and a block, or nothing
  other : Part

-- These statements, and the notes of the points within them, where at most n blocks are open at once.
pub data IsPart (limits : Limits) (names : NameTable) : Part → ℕ → Cursor → List Stmt → List (Plain RawAtom) → Cursor → Type 0 where
  a_simple : (n : ℕ) (a : Act) (b : List AuxAssign) (from mid end to : Cursor)
      → IsAct limits names from a mid → IsBracket limits names mid b end → Stands names (sign s.Semicolon) end to
      → IsPart limits names stmt n from (roll-Stmt (record { act = a; aux = b }) ∷ []) [] to
  an_if : (n : ℕ) (c : Cond) (yes no : List Stmt) (ns ms : List (Plain RawAtom)) (from mid end behind to : Cursor)
      → Stands names (word (spelling k.If)) from mid → IsTest limits names mid c end → IsPart limits names block n end yes ns behind → IsPart limits names other n behind no ms to
      → IsPart limits names stmt n from (bare (act.If c yes no) ∷ []) (ns ++ ms) to
  a_while : (n : ℕ) (c : Cond) (body : List Stmt) (ns : List (Plain RawAtom)) (from mid end to : Cursor)
      → Stands names (word (spelling k.While)) from mid → IsTest limits names mid c end → IsPart limits names block n end body ns to
      → IsPart limits names stmt n from (bare (act.While c body) ∷ []) ns to
  an_else : (n : ℕ) (ss : List Stmt) (ns : List (Plain RawAtom)) (from mid to : Cursor)
      → Stands names (word (spelling k.Else)) from mid → IsPart limits names block n mid ss ns to → IsPart limits names other n from ss ns to
  no_else : (n : ℕ) (from : Cursor) → IsPart limits names other n from [] [] from
  in_braces : (n : ℕ) (ss : List Stmt) (ns : List (Plain RawAtom)) (from mid end to : Cursor)
      → Stands names (sign s.OpenBrace) from mid → IsPart limits names lines n mid ss ns end → Stands names (sign s.CloseBrace) end to
      → IsPart limits names block (suc n) from ss ns to
  no_lines : (n : ℕ) (from : Cursor) → IsPart limits names lines n from [] [] from
  a_line : (n : ℕ) (f : Plain RawAtom) (a : Stmt) (ss : List Stmt) (ms ns : List (Plain RawAtom)) (from mid end to : Cursor)
      → IsNote limits names from f mid → IsPart limits names stmt n mid (a ∷ []) ms end → IsPart limits names lines n end ss ns to
      → IsPart limits names lines n from (a ∷ ss) (f ∷ (ms ++ ns)) to

-- ---- threads

pub data IsBody (limits : Limits) (names : NameTable) : Cursor → List Stmt → List (Plain RawAtom) → Cursor → Type 0 where
  last_note : (f : Plain RawAtom) (from to : Cursor) → IsNote limits names from f to → IsBody limits names from [] (f ∷ []) to
  body_line : (f : Plain RawAtom) (a : Stmt) (ss : List Stmt) (ms ns : List (Plain RawAtom)) (from mid end to : Cursor)
      → IsNote limits names from f mid → IsPart limits names stmt limits.blocks mid (a ∷ []) ms end → IsBody limits names end ss ns to
      → IsBody limits names from (a ∷ ss) (f ∷ (ms ++ ns)) to

-- the next token begins no statement
pub record BeginsNone (names : NameTable) (c : Cursor) : Type 0 where
  pub lexeme : Lexeme
  pub read : token c ≡ Ok lexeme
  pub begins_none : begins names lexeme ≡ false

-- A body within the limits, which no statement goes on: what there is to read at a place.
pub record IsThreadText (names : NameTable) (from : Cursor) (l : Lines) (to : Cursor) : Type 0 where
  pub body : IsBody text_limits names from l.stmts l.notes to
  pub few : length l.notes ≤ most_points
  pub stops : BeginsNone names to
