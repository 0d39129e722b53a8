-- The statements of a body by the grammar: a fact that holds of each kind of statement holds of all, the body has a note
-- for each of their points, each note is within the limits, and few blocks are open at once.
use Rattle.pg_program_text.specs.Limits.{text_limits}
use Rattle.std.proofs.Common.{◌≡◌, ℕ, ◌+◌, ◌-◌, ◌≤◌, Bool, true, false, List, [], ◌∷◌, ◌++◌, length, refl, sym, ap, subst, ◌∙◌, arith}
use Rattle.std.specs.Prelude.{max, if◌then◌else◌}
use Rattle.std.specs.List.{All}
use Rattle.std.proofs.lemmas.List.{length-append, append-nil}
use Rattle.std.proofs.lemmas.List.Elements.{All-nil, All-cons, All-head, All-tail, All-append}
use Rattle.pg_lex.specs.Lex.{Cursor}
use Rattle.pg_program.specs.declared.syntax.AuxAssign.{AuxAssign}
use Rattle.pg_program.specs.declared.syntax.Cond.{Cond}
use Rattle.pg_program.specs.declared.syntax.Stmt.{Stmt, out-Stmt, roll-Stmt, out-roll-Stmt}
use Rattle.pg_program.specs.declared.syntax.Act.{Act, out-Act, roll-Act, out-roll-Act}
use Rattle.pg_program.specs.declared.syntax.Act.TheVariants as act
use Rattle.pg_program.specs.declared.syntax.Act.TheOpen.{Act-F, Stmt-F, Assign, Store, Load, Cas, Mfence, Sfence, Flush, Flushopt, If, While}
use Rattle.pg_program.specs.NameTable.{NameTable}
use Rattle.pg_program.specs.Block.{Block, done, node, block, blocks_of, first_in, second_in}
use Rattle.pg_program.specs.Graph.{size, statements, is_test, is_test_in}
use Rattle.pg_program.proofs.BlockLemmas.{split-block}
use Rattle.pg_program.proofs.ExprLemmas.{All-front, All-behind}
use Rattle.pg_assertion.specs.declared.atom.RawAtom.{RawAtom}
use Rattle.pg_assertion.specs.Formula.{Plain}
use Rattle.pg_assertion_text.specs.Within.{IsWritableRaw, IsWithin}
use Rattle.pg_assertion_text.proofs.Within.{formulas_are_within}
use Rattle.pg_program_text.specs.Limits.{most_open_blocks}
use Rattle.pg_program_text.specs.Thread.{bare}
use Rattle.pg_program_text.specs.Grammar as g
use Rattle.pg_program_text.specs.Grammar.{Part, IsPart, IsBody, IsAct, IsBracket, IsTest, IsNote}
use Rattle.pg_program_text.specs.Measures.{nesting}

abbrev Notes : Type 0
Notes = List (Plain RawAtom)

-- ---- acts

pub opened : (a : Act) (x : Act-F Act Stmt) → roll-Act x ≡ a → out-Act a ≡ x
opened a x rolls = ap out-Act (sym rolls) ∙ out-roll-Act x

-- an act that is no test has no blocks
pub record IsSimple (x : Act-F Act Stmt) : Type 0 where
  pub simple : is_test_in x ≡ false
  pub first : first_in x ≡ []
  pub second : second_in x ≡ []

pub act_simple : (names : NameTable) (from : Cursor) (a : Act) (to : Cursor) → IsAct text_limits names from a to → IsSimple (out-Act a)
act_simple names _ _ _ (g.an_assign r a from mid to st is) =
    subst IsSimple (sym (opened (act.Assign r a) (Assign r a) (act.rolls-Assign r a))) (record { simple = refl; first = refl; second = refl })
act_simple names _ _ _ (g.a_store x a from mid to st is) =
    subst IsSimple (sym (opened (act.Store x a) (Store x a) (act.rolls-Store x a))) (record { simple = refl; first = refl; second = refl })
act_simple names _ _ _ (g.a_load r x from to st) =
    subst IsSimple (sym (opened (act.Load r x) (Load r x) (act.rolls-Load r x))) (record { simple = refl; first = refl; second = refl })
act_simple names _ _ _ (g.a_cas r x a b from mid end behind last to st left comma right close) =
    subst IsSimple (sym (opened (act.Cas r x a b) (Cas r x a b) (act.rolls-Cas r x a b))) (record { simple = refl; first = refl; second = refl })
act_simple names _ _ _ (g.an_mfence from to st) = subst IsSimple (sym (opened act.Mfence Mfence act.rolls-Mfence)) (record { simple = refl; first = refl; second = refl })
act_simple names _ _ _ (g.an_sfence from to st) = subst IsSimple (sym (opened act.Sfence Sfence act.rolls-Sfence)) (record { simple = refl; first = refl; second = refl })
act_simple names _ _ _ (g.a_flush x from to st) =
    subst IsSimple (sym (opened (act.Flush x) (Flush x) (act.rolls-Flush x))) (record { simple = refl; first = refl; second = refl })
act_simple names _ _ _ (g.a_flushopt x from to st) =
    subst IsSimple (sym (opened (act.Flushopt x) (Flushopt x) (act.rolls-Flushopt x))) (record { simple = refl; first = refl; second = refl })

pub opened_if : (c : Cond) (a b : List Stmt) → out-Act (act.If c a b) ≡ If c a b
opened_if c a b = opened (act.If c a b) (If c a b) (act.rolls-If c a b)

pub opened_while : (c : Cond) (a : List Stmt) → out-Act (act.While c a) ≡ While c a
opened_while c a = opened (act.While c a) (While c a) (act.rolls-While c a)

-- ---- statements and their blocks

-- whether a statement is a test, and the lists of statements within it
record Splits (y : Stmt-F Act Stmt) (test : Bool) (first second : List Stmt) : Type 0 where
  test_is : is_test_in (out-Act y.act) ≡ test
  first_is : first_in (out-Act y.act) ≡ first
  second_is : second_in (out-Act y.act) ≡ second

abbrev Split : Stmt → Bool → List Stmt → List Stmt → Type 0
Split s test first second = Splits (out-Stmt s) test first second

-- a statement is its first point, with the blocks of its two lists after it
split_whole : (s : Stmt) (test : Bool) (first second : List Stmt) → Split s test first second → block (s ∷ []) ≡ node s (block first) (block second) done
split_whole s test first second h = split-block (s ∷ []) first second [] s refl (sym h.first_is) (sym h.second_is)

split_simple : (a : Act) (b : List AuxAssign) → IsSimple (out-Act a) → Split (roll-Stmt (record { act = a; aux = b })) false [] []
split_simple a b h =
    let y : Stmt-F Act Stmt = record { act = a; aux = b } in
    subst (λ (z : Stmt-F Act Stmt). Splits z false [] []) (sym (out-roll-Stmt y)) (record { test_is = h.simple; first_is = h.first; second_is = h.second })

split_bare : (a : Act) (first second : List Stmt) → is_test_in (out-Act a) ≡ true → first_in (out-Act a) ≡ first → second_in (out-Act a) ≡ second → Split (bare a) true first second
split_bare a first second test_is first_is second_is =
    let y : Stmt-F Act Stmt = record { act = a; aux = [] } in
    subst (λ (z : Stmt-F Act Stmt). Splits z true first second) (sym (out-roll-Stmt y)) (record { test_is = test_is; first_is = first_is; second_is = second_is })

split_if : (c : Cond) (a b : List Stmt) → Split (bare (act.If c a b)) true a b
split_if c a b = let is = opened_if c a b in split_bare (act.If c a b) a b (ap is_test_in is) (ap first_in is) (ap second_in is)

split_while : (c : Cond) (a : List Stmt) → Split (bare (act.While c a)) true a []
split_while c a = let is = opened_while c a in split_bare (act.While c a) a [] (ap is_test_in is) (ap first_in is) (ap second_in is)

-- ---- how deep blocks nest

-- what the nesting k of a part's statements is at most, where n blocks may be open: a block is one of them itself
abbrev Low : Part → ℕ → ℕ → Type 0
Low g.stmt n k = k ≤ n
Low g.lines n k = k ≤ n
Low g.block n k = 1 + k ≤ n
Low g.other n k = k ≤ n - 1

low_simple : (test : Bool) (i j n : ℕ) → test ≡ false → max (if test then 1 + max i j else 0) 0 ≤ n
low_simple true i j n h = absurd (cc)
low_simple false i j n h = omega arith

low_test : (test : Bool) (i j n : ℕ) → test ≡ true → Low g.block n i → Low g.other n j → max (if test then 1 + max i j else 0) 0 ≤ n
low_test true i j n h one two = omega arith
low_test false i j n h one two = absurd (cc)

low_line : (one rest n : ℕ) → max one 0 ≤ n → rest ≤ n → max one rest ≤ n
low_line one rest n h k = omega arith

-- ---- parts of a body

-- the points of a part that have their note outside it
abbrev outer : Part → ℕ
outer g.stmt = 1
outer g.lines = 0
outer g.block = 0
outer g.other = 0

abbrev IsNoteWithin : NameTable → Plain RawAtom → Type 0
IsNoteWithin names f = IsWithin IsWritableRaw names f

note_within : (names : NameTable) (from : Cursor) (f : Plain RawAtom) (to : Cursor) → IsNote text_limits names from f to → IsNoteWithin names f
note_within names from f to is = formulas_are_within names is.mid is.end f is.formula

-- what holds of the statements of a part and of its notes
record Points (names : NameTable) (P : Stmt → Type 0) (part : Part) (n : ℕ) (b : Block) (ns : Notes) : Type 0 where
  stmts : All P (statements b)
  count : outer part + length ns ≡ size b
  low : Low part n (nesting b)
  notes : All (IsNoteWithin names) ns

-- what holds of a whole body
pub record Body (names : NameTable) (P : Stmt → Type 0) (b : Block) (ns : Notes) : Type 0 where
  pub stmts : All P (statements b)
  pub count : length ns ≡ size b + 1
  pub low : nesting b ≤ most_open_blocks
  pub notes : All (IsWithin IsWritableRaw names) ns

-- the fact holds of each kind of statement, whatever is in its blocks
pub record Meets (names : NameTable) (P : Stmt → Type 0) : Type 0 where
  pub simple : (a : Act) (b : List AuxAssign) (from mid end : Cursor) → IsAct text_limits names from a mid → IsBracket text_limits names mid b end → P (roll-Stmt (record { act = a; aux = b }))
  pub if_is : (c : Cond) (a b : List Stmt) (from to : Cursor) → IsTest text_limits names from c to → P (bare (act.If c a b))
  pub while_is : (c : Cond) (a : List Stmt) (from to : Cursor) → IsTest text_limits names from c to → P (bare (act.While c a))

module _ (names : NameTable) (P : Stmt → Type 0) (meets : Meets names P) where
  none : (part : Part) (n : ℕ) → outer part ≡ 0 → Low part n 0 → Points names P part n (block []) []
  unfolding nesting
  none part n h low = record { stmts = All-nil P; count = omega (arith, h); low = low; notes = All-nil (IsNoteWithin names) }

  simple_points : (n : ℕ) (s : Stmt) → Split s false [] [] → P s → Points names P g.stmt n (block (s ∷ [])) []
  unfolding nesting
  simple_points n s split h =
      subst (λ (w : Block). Points names P g.stmt n w []) (sym (split_whole s false [] [] split)) (record {
        stmts = All-cons P s [] h (All-nil P);
        count = refl;
        low = low_simple (is_test s) 0 0 n split.test_is;
        notes = All-nil (IsNoteWithin names);
      })

  test_points : (n : ℕ) (s : Stmt) (a b : List Stmt) (ns ms : Notes) → Split s true a b → P s → Points names P g.block n (block a) ns → Points names P g.other n (block b) ms
      → Points names P g.stmt n (block (s ∷ [])) (ns ++ ms)
  unfolding nesting
  test_points n s a b ns ms split h first second =
      subst (λ (w : Block). Points names P g.stmt n w (ns ++ ms)) (sym (split_whole s true a b split)) (record {
        stmts = All-cons P s (statements (block a) ++ (statements (block b) ++ [])) h
            (All-append P (statements (block a)) (statements (block b) ++ []) first.stmts (All-append P (statements (block b)) [] second.stmts (All-nil P)));
        count =
            let many = length-append ns ms in
            let one = first.count in
            let two = second.count in
            omega (arith, many, one, two);
        low = low_test (is_test s) (nesting (block a)) (nesting (block b)) n split.test_is first.low second.low;
        notes = All-append (IsNoteWithin names) ns ms first.notes second.notes;
      })

  -- the statements of a block's first one, and those of the rest
  all_stmts : (s : Stmt) (ss : List Stmt) → All P (statements (block (s ∷ []))) → All P (statements (block ss)) → All P (statements (block (s ∷ ss)))
  all_stmts s ss one rest =
      let a = statements (blocks_of s).0 in
      let b = statements (blocks_of s).1 in
      let inner = All-tail P s (a ++ (b ++ [])) one in
      All-cons P s (a ++ (b ++ statements (block ss))) (All-head P s (a ++ (b ++ [])) one)
      (All-append P a (b ++ statements (block ss)) (All-front P a (b ++ []) inner)
      (All-append P b (statements (block ss)) (All-front P b [] (All-behind P a (b ++ []) inner)) rest))

  line_low : (n : ℕ) (s : Stmt) (ss : List Stmt) → nesting (block (s ∷ [])) ≤ n → nesting (block ss) ≤ n → nesting (block (s ∷ ss)) ≤ n
  unfolding nesting
  line_low n s ss one rest =
      let own = if is_test s then 1 + max (nesting (blocks_of s).0) (nesting (blocks_of s).1) else 0 in
      low_line own (nesting (block ss)) n one rest

  line_notes : (f : Plain RawAtom) (ms ns : Notes) → IsNoteWithin names f → All (IsNoteWithin names) ms → All (IsNoteWithin names) ns → All (IsNoteWithin names) (f ∷ (ms ++ ns))
  line_notes f ms ns h one rest = All-cons (IsNoteWithin names) f (ms ++ ns) h (All-append (IsNoteWithin names) ms ns one rest)

  part_points : (part : Part) (n : ℕ) (from : Cursor) (ss : List Stmt) (ns : Notes) (to : Cursor) → IsPart text_limits names part n from ss ns to → Points names P part n (block ss) ns
  part_points _ _ _ _ _ _ (g.a_simple n a b from mid end to is aux close) =
      simple_points n (roll-Stmt (record { act = a; aux = b })) (split_simple a b (act_simple names from a mid is)) (meets.simple a b from mid end is aux)
  part_points _ _ _ _ _ _ (g.an_if n c first second ns ms from mid end behind to st test one two) =
      test_points n (bare (act.If c first second)) first second ns ms (split_if c first second) (meets.if_is c first second mid end test) (part_points g.block n end first ns behind one) (part_points g.other n behind second ms to two)
  part_points _ _ _ _ _ _ (g.a_while n c body ns from mid end to st test first) =
      subst (λ (l : Notes). Points names P g.stmt n (block (bare (act.While c body) ∷ [])) l) (append-nil ns)
      (test_points n (bare (act.While c body)) body [] ns [] (split_while c body) (meets.while_is c body mid end test) (part_points g.block n end body ns to first) (none g.other n refl (omega arith)))
  part_points _ _ _ _ _ _ (g.an_else n ss ns from mid to st is) =
      let h = part_points g.block n mid ss ns to is in
      record { stmts = h.stmts; count = h.count; low = let low = h.low in omega arith; notes = h.notes }
  part_points _ _ _ _ _ _ (g.no_else n from) = none g.other n refl (omega arith)
  part_points _ _ _ _ _ _ (g.in_braces n ss ns from mid end to st is close) =
      let h = part_points g.lines n mid ss ns end is in
      record { stmts = h.stmts; count = h.count; low = let low = h.low in omega arith; notes = h.notes }
  part_points _ _ _ _ _ _ (g.no_lines n from) = none g.lines n refl (omega arith)
  part_points _ _ _ _ _ _ (g.a_line n f a ss ms ns from mid end to note is rest) =
      let one = part_points g.stmt n mid (a ∷ []) ms end is in
      let others = part_points g.lines n end ss ns to rest in
      record {
        stmts = all_stmts a ss one.stmts others.stmts;
        count =
            let many = length-append ms ns in
            let first = one.count in
            let behind = others.count in
            omega (arith, many, first, behind);
        low = line_low n a ss one.low others.low;
        notes = line_notes f ms ns (note_within names from f mid note) one.notes others.notes;
      }

  pub body_points : (from : Cursor) (ss : List Stmt) (ns : Notes) (to : Cursor) → IsBody text_limits names from ss ns to → Body names P (block ss) ns
  unfolding nesting
  body_points _ _ _ _ (g.last_note f from to note) = record {
    stmts = All-nil P;
    count = refl;
    low = omega arith;
    notes = All-cons (IsNoteWithin names) f [] (note_within names from f to note) (All-nil (IsNoteWithin names));
  }
  body_points _ _ _ _ (g.body_line f a ss ms ns from mid end to note is rest) =
      let others = body_points end ss ns to rest in
      let one = part_points g.stmt most_open_blocks mid (a ∷ []) ms end is in
      record {
        stmts = all_stmts a ss one.stmts others.stmts;
        count =
            let many = length-append ms ns in
            let first = one.count in
            let behind = others.count in
            omega (arith, many, first, behind);
        low = line_low most_open_blocks a ss one.low others.low;
        notes = line_notes f ms ns (note_within names from f mid note) one.notes others.notes;
      }
