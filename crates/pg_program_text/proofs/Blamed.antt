-- The fault of a text without a body is at a token with which no body goes on.
use Rattle.std.proofs.Common.{◌≡◌, ℕ, zero, suc, ◌+◌, ◌-◌, ◌<◌, ◌≤◌, Bool, true, false, Ok, Err, List, [], ◌∷◌, length, length-append, refl, ap, sym, ◌∙◌, subst, arith, inl, inr}
use Rattle.std.proofs.lemmas.Bool.Decides.{leb_tells}
use Rattle.std.specs.Prelude.{◌≢◌, ◌⊎◌, Result}
use Rattle.std.specs.Result.{result_unwrap_or}
use Rattle.pg_lex.specs.declared.token.TokenKind.{TokenKind}
use Rattle.pg_lex.specs.declared.token.TokenKind.TheVariants as kind
use Rattle.pg_lex.specs.declared.fault.TextFault.{TextFault}
use Rattle.pg_lex.specs.declared.fault.TextFault.TheVariants.{At}
use Rattle.pg_lex.specs.declared.fault.TextKind.{TextKind}
use Rattle.pg_lex.specs.declared.scan.Piece.{Piece}
use Rattle.pg_lex.specs.Lex.{Cursor, Lexeme, token, after, advance, behind_gap, lexeme_at}
use Rattle.pg_lex.specs.Piece.{gap_len, piece, piece_len}
use Rattle.pg_lex.specs.Grammar.{nothing}
use Rattle.pg_lex.proofs.Cursors.{end_stays}
use Rattle.pg_lex.proofs.Gaps.{gap_is_longest}
use Rattle.pg_lex.proofs.Reading.{gap_passed}
use Rattle.pg_program.specs.NameTable.{NameTable}
use Rattle.pg_program.specs.declared.syntax.Stmt.{Stmt}
use Rattle.pg_assertion.specs.declared.atom.RawAtom.{RawAtom}
use Rattle.pg_assertion.specs.Formula.{Plain}
use Rattle.pg_assertion_text.specs.Words.{sign}
use Rattle.pg_lex.specs.declared.token.Sign.TheVariants as s
use Rattle.pg_assertion_text.specs.Input.{Input, Outcome, Parser, and_then}
use Rattle.pg_assertion_text.specs.Agreement.{ahead, Alike, FaultAt, IsLimit}
use Rattle.pg_assertion_text.proofs.Moves.{ahead-add}
use Rattle.pg_assertion_text.proofs.Reaches.{Solid, item_solid, alike-at, alike-less}
use Rattle.pg_assertion_text.proofs.Blames.{ahead_less, not_both, placed_err}
use Rattle.pg_assertion_text.proofs.Local.{Same, LikeErr, Local}
use Rattle.pg_program_text.specs.Limits.{Limits, text_limits, AreLarger, most_points}
use Rattle.pg_program_text.specs.declared.thread.ThreadText.{ThreadText}
use Rattle.pg_program_text.specs.Stmt.{formula}
use Rattle.pg_program_text.specs.Thread.{Lines, no_lines, with_note, with_stmt, statement, body_goes_on, body_on, body, line_of_body, thread_at}
use Rattle.pg_program_text.specs.Text.{ReadsAt}
use Rattle.pg_program_text.specs.Grammar as g
use Rattle.pg_program_text.specs.Grammar.{IsNote, IsBody, last_note, body_line, BeginsNone}
use Rattle.pg_program_text.specs.FirstFaults.{GoesOn, IsBlamed, BlamesToken}
use Rattle.pg_program_text.proofs.ExprComplete.{at}
use Rattle.pg_program_text.proofs.PartsComplete.{formula_reads, note_reads}
use Rattle.pg_program_text.proofs.ThreadComplete.{body_line_reads, stmt_begins, body_stands, claims, body_reads}
use Rattle.pg_program_text.proofs.LocalParts.{AllGrown, none_grown, local_formula}
use Rattle.pg_program_text.proofs.LocalThread.{local_statement, after_note, local_after_note, body_free, local_rest, local_body}

-- ---- behind the end of a text, and behind what the lexer refuses, the same is met again

advance_none : (c : Cursor) → advance 0 c ≡ c
advance_none c = let e : c.at + 0 ≡ c.at = omega arith in ap (λ n. record { at = n; rest = c.rest }) e

fault_stays : (c : Cursor) (e : TextFault) → token c ≡ Err e → token (after c) ≡ Err e
unfolding token after
fault_stays c e is =
    let b = behind_gap c in
    let refused = piece_refused b (piece b.rest) e is in
    let here : advance (piece_len (piece b.rest)) b ≡ b = ap (λ o. advance (piece_len o) b) refused.1 ∙ advance_none b in
    let none : gap_len false b.rest ≡ 0 = gap_passed [] b.rest (nothing b.rest) (gap_is_longest false c.rest) in
    let again : behind_gap b ≡ b = ap (λ n. advance n b) none ∙ advance_none b in
    ap (λ d. lexeme_at (behind_gap d) (piece (behind_gap d).rest)) here ∙ ap (λ d. lexeme_at d (piece d.rest)) again ∙ is
  where
    piece_refused : (b : Cursor) (o : Result Piece TextKind) (e : TextFault) → lexeme_at b o ≡ Err e → (k : TextKind) × (o ≡ Err k)
    piece_refused b (Ok p) e h = absurd (cc)
    piece_refused b (Err k) e h = (k, refl)

faults_stay : (j : ℕ) (c : Cursor) (e : TextFault) → token c ≡ Err e → token (ahead j c) ≡ Err e
faults_stay zero c e is = is
faults_stay (suc j) c e is = faults_stay j (after c) e (fault_stays c e is)

ends_stay : (j : ℕ) (c : Cursor) (l : Lexeme) → token c ≡ Ok l → l.kind ≡ kind.End → token (ahead j c) ≡ Ok l
ends_stay zero c l is end = is
ends_stay (suc j) c l is end = ends_stay j (after c) l (end_stays c l is end).2 end

-- so what is before a token of a phrase is one too
solid_before : (m k : ℕ) (c : Cursor) → m ≤ k → Solid (ahead k c) → Solid (ahead m c)
solid_before m k c most solid = by (token (ahead m c)) refl
  where
    same : ahead (k - m) (ahead m c) ≡ ahead k c
    same = let sum : m + (k - m) ≡ k = omega (arith, most) in ahead-add (k - m) m c ∙ ap (λ n. ahead n c) sum

    by : (v : Result Lexeme TextFault) → token (ahead m c) ≡ v → Solid (ahead m c)
    by (Ok l) is = (
      l,
      is,
      λ end.
          let there = sym (ap token same) ∙ ends_stay (k - m) (ahead m c) l is end in
          let one : l ≡ solid.0 = ap (λ (r : Result Lexeme TextFault). result_unwrap_or r l) (sym there ∙ solid.1) in
          solid.2 (sym (ap (λ (l : Lexeme). l.kind) one) ∙ end),
    )
    by (Err e) is = absurd (let there = sym (faults_stay (k - m) (ahead m c) e is) ∙ ap token same ∙ solid.1 in cc)

-- ---- the tokens of a body

-- some tokens, the last of which is no end
record Spans (c to : Cursor) : Type 0 where
  k : ℕ
  is : to ≡ ahead (suc k) c
  last : Solid (ahead k c)

read_spans : {A : Type 0} (p : Parser A) → Local ⊥ p p → (c to : Cursor) (r s : ℕ) (a : A) → p (at c r) ≡ Ok (a, at to s) → (k : ℕ) × (to ≡ ahead k c)
read_spans p same c to r s a is = let w = subst (λ o. Same ⊥ c r o (λ d t. p (at d t))) is (same c r) in (w.k, w.is)

note_spans : (limits : Limits) (names : NameTable) (f : Plain RawAtom) (from to : Cursor) → IsNote limits names from f to → Spans from to
note_spans limits names f from to is =
    let inner = read_spans (formula limits names) (local_formula ⊥ limits limits names (none_grown ⊥ limits)) is.mid is.end 0 0 f (formula_reads limits names (at is.mid 0) f is.end is.formula) in
    let end : is.end ≡ ahead (suc inner.0) from = inner.1 ∙ ap (ahead inner.0) is.open_square.behind in
    record {
      k = suc inner.0;
      is = let sum : suc inner.0 + 1 ≡ suc (suc inner.0) = omega arith in is.close_square.behind ∙ ap after end ∙ ahead-add 1 (suc inner.0) from ∙ ap (λ n. ahead n from) sum;
      last = subst Solid end (item_solid names (sign s.CloseSquare) is.end to is.close_square);
    }

body_spans : (limits : Limits) (names : NameTable) (from to : Cursor) (ss : List Stmt) (ns : List (Plain RawAtom)) → IsBody limits names from ss ns to → Spans from to
body_spans limits names _ _ _ _ (last_note f from to noted) = note_spans limits names f from to noted
body_spans limits names _ _ _ _ (body_line f a ss ms ns from mid end to noted is rest) =
    let one = note_spans limits names f from mid noted in
    let two = read_spans (statement limits names limits.blocks) (local_statement ⊥ limits limits names (none_grown ⊥ limits) limits.blocks limits.blocks (inl refl)) mid end (length ms) (length ms - length ms) (record { stmt = a; notes = ms })
    (claims limits names g.stmt limits.blocks mid end (a ∷ []) ms is (body_stands limits names end to ss ns rest) (length ms) (omega arith)) in
    let three = body_spans limits names end to ss ns rest in
    let before : end ≡ ahead (suc one.k + two.0) from = two.1 ∙ ap (ahead two.0) one.is ∙ ahead-add two.0 (suc one.k) from in
    record {
      k = suc one.k + two.0 + three.k;
      is =
          let sum : suc one.k + two.0 + suc three.k ≡ suc (suc one.k + two.0 + three.k) = omega arith in
          three.is ∙ ap (ahead (suc three.k)) before ∙ ahead-add (suc three.k) (suc one.k + two.0) from ∙ ap (λ n. ahead n from) sum;
      last = subst Solid (ap (ahead three.k) before ∙ ahead-add three.k (suc one.k + two.0) from) three.last;
    }

-- ---- behind the last note of a body that is read

abbrev tail : Limits → NameTable → ℕ → Lines → Parser Lines
tail limits names n l = λ i. and_then (after_note limits names l i) (body_goes_on (body_on limits names n))

record Read (limits : Limits) (names : NameTable) (o : Outcome Lines) (to : Cursor) : Type 0 where
  lines : Lines
  room : ℕ
  turns : ℕ
  enough : room < turns
  is : o ≡ tail limits names turns lines (at to room)

last_read : (limits : Limits) (names : NameTable) (k r : ℕ) (before : Lines) (f : Plain RawAtom) (from to : Cursor) → IsNote limits names from f to → 0 < r → r < k → Read limits names (body_on limits names k before (at from r)) to
unfolding body_on line_of_body
last_read limits names zero r before f from to noted some turns = absurd (omega arith)
last_read limits names (suc k) r before f from to noted some turns = record {
  lines = with_note before f;
  room = r - 1;
  turns = k;
  enough = omega arith;
  is = ap (λ o. and_then (and_then o (λ f. after_note limits names (with_note before f))) (body_goes_on (body_on limits names k))) (note_reads limits names (at from r) f to noted some);
}

body_read : (limits : Limits) (names : NameTable) (from to : Cursor) (ss : List Stmt) (ns : List (Plain RawAtom)) → IsBody limits names from ss ns to → (r : ℕ) → length ns ≤ r → (k : ℕ) → r < k → (before : Lines)
    → Read limits names (body_on limits names k before (at from r)) to
body_read limits names _ _ _ _ (last_note f from to noted) r room k turns before = last_read limits names k r before f from to noted (omega arith) turns
body_read limits names _ _ _ _ (body_line f a ss ms ns from mid end to noted is rest) r room k turns before =
    let many = length-append ms ns in
    let one = body_line_reads limits names k r before f (record { stmt = a; notes = ms }) from mid end noted (stmt_begins limits names limits.blocks mid end (a ∷ []) ms is) (omega arith) (omega arith)
    (claims limits names g.stmt limits.blocks mid end (a ∷ []) ms is (body_stands limits names end to ss ns rest) (r - 1) (omega arith)) in
    subst (λ o. Read limits names o to) (sym one) (body_read limits names end to ss ns rest (r - 1 - length ms) (omega arith) (k - 1) (omega arith) (with_stmt (with_note before f) (record { stmt = a; notes = ms })))

-- a fault behind it is at one of the tokens there
fault_behind : (k l : ℕ) (c b : Cursor) (e : TextFault) → b ≡ ahead k c → FaultAt b l e → FaultAt c (k + l) e
fault_behind k l c b e is f =
    subst (λ d. ((x : Lexeme) × (why : TextKind) × (token d ≡ Ok x) × (e ≡ At x.place why)) ⊎ (token d ≡ Err e)) (ap (ahead l) is ∙ ahead-add l k c) f

same_fault : {A : Type 0} (p : Parser A) → Local ⊥ p p → (c : Cursor) (r : ℕ) (e : TextFault) → p (at c r) ≡ Err e → LikeErr ⊥ c r e (λ d t. p (at d t))
same_fault p same c r e is = subst (λ o. Same ⊥ c r o (λ d t. p (at d t))) is (same c r)

tail_fault : (limits : Limits) (names : NameTable) (n : ℕ) (l : Lines) (c : Cursor) (r : ℕ) (e : TextFault) → r < n → tail limits names n l (at c r) ≡ Err e → (j : ℕ) × FaultAt c j e
tail_fault limits names n l c r e turns is = by (after_note limits names l (at c r)) (local_after_note ⊥ limits limits names (none_grown ⊥ limits) l c r) is
  where
    goes : (k : ℕ) (m : Lines) (b : Bool) (i : Input) → i.cursor ≡ ahead k c → i.room < n → body_goes_on (body_on limits names n) (m, b) i ≡ Err e → (j : ℕ) × FaultAt c j e
    goes k m true i at_k less h =
        let w = same_fault (λ i. body_on limits names (i.room + 1) m i) (local_rest ⊥ limits limits names (none_grown ⊥ limits) m) i.cursor i.room e (sym (body_free limits names n m i less) ∙ h) in
        (k + w.m, fault_behind k w.m c i.cursor e at_k w.at)
    goes k m false i at_k less h = absurd (cc)

    by : (o : Outcome (Lines × Bool)) → Same ⊥ c r o (λ d t. after_note limits names l (at d t)) → and_then o (body_goes_on (body_on limits names n)) ≡ Err e → (j : ℕ) × FaultAt c j e
    by (Ok p) w h = let less = w.room in goes w.k p.0.0 p.0.1 p.1 w.is (omega (arith, less, turns)) h
    by (Err f) w h = (w.m, subst (FaultAt c w.m) (same_err f e h) w.at)
      where
        same_err : (a b : TextFault) → ◌≡◌ {A = Outcome Lines} (Err a) (Err b) → a ≡ b
        same_err a b h = cc

-- ---- what is blamed

alike_ahead : (m : ℕ) (c d : Cursor) → Alike (suc m) c d → token (ahead m c) ≡ token (ahead m d)
alike_ahead zero c d al = al.0
alike_ahead (suc m) c d al = alike_ahead m (after c) (after d) al.1

fault_alike : (m : ℕ) (c d : Cursor) (e : TextFault) → Alike (suc m) c d → FaultAt c m e → FaultAt d m e
fault_alike m c d e al (inl f) = inl (f.0, f.1, sym (alike_ahead m c d al) ∙ f.2, f.3)
fault_alike m c d e al (inr f) = inr (sym (alike_ahead m c d al) ∙ f)

alike_more : (k : ℕ) (c d : Cursor) → Alike k c d → token (ahead k c) ≡ token (ahead k d) → Alike (suc k) c d
alike_more zero c d al same = (same, tt)
alike_more (suc k) c d al same = (al.0, alike_more k (after c) (after d) al.1 same)

-- the same token is met from there on
alike_on : (m n : ℕ) (c d : Cursor) (v : Result Lexeme TextFault) → ((j : ℕ) → token (ahead j (ahead m c)) ≡ v) → ((j : ℕ) → token (ahead j (ahead m d)) ≡ v) → Alike (suc m) c d → Alike (suc m + n) c d
alike_on m zero c d v here there al = alike-at (suc m) (suc m + zero) c d (omega arith) al
alike_on m (suc n) c d v here there al =
    let so_far = alike_on m n c d v here there al in
    let k : m + (n + 1) ≡ suc m + n = omega arith in
    let one = sym (ap (λ x. token (ahead x c)) k) ∙ sym (ap token (ahead-add (n + 1) m c)) ∙ here (n + 1) in
    let two = sym (ap (λ x. token (ahead x d)) k) ∙ sym (ap token (ahead-add (n + 1) m d)) ∙ there (n + 1) in
    alike-at (suc (suc m + n)) (suc m + suc n) c d (omega arith) (alike_more (suc m + n) c d so_far (one ∙ sym two))

-- texts that are alike up to a fault are alike up to each token that the fault may be said to be at
alike_fault : (m n : ℕ) (c d : Cursor) (e : TextFault) → FaultAt c m e → FaultAt c n e → Alike (suc m) c d → Alike (suc n) c d
alike_fault m n c d e here other al = elim (leb_tells n m) [
  | inl most ↦ let z = most.1 in alike-less (suc m) (suc n) c d (omega (arith, z)) al
  | inr more ↦ let z = more.1 in
      let sum : suc m + (n - m) ≡ suc n = omega (arith, z) in
      alike-at (suc m + (n - m)) (suc n) c d sum (by (n - m) z (token (ahead m c)) refl)
]
  where
    by : (k : ℕ) → m < n → (v : Result Lexeme TextFault) → token (ahead m c) ≡ v → Alike (suc m + k) c d
    by k less (Err f) is = alike_on m k c d (Err f) (λ j. faults_stay j (ahead m c) f is) (λ j. faults_stay j (ahead m d) f (sym (alike_ahead m c d al) ∙ is)) al
    by k less (Ok l) is = kinds l.kind refl
      where
        no_end : l.kind ≢ kind.End → Alike (suc m + k) c d
        no_end free = absurd (not_both c m n e (l, is, free) here less other)

        kinds : (z : TokenKind) → l.kind ≡ z → Alike (suc m + k) c d
        kinds kind.End end = alike_on m k c d (Ok l) (λ j. ends_stay j (ahead m c) l is end) (λ j. ends_stay j (ahead m d) l (sym (alike_ahead m c d al) ∙ is) end) al
        kinds kind.Word h = no_end (λ end. let z = sym h ∙ end in cc)
        kinds (kind.Number v) h = no_end (λ end. let z = sym h ∙ end in cc)
        kinds (kind.Letter b) h = no_end (λ end. let z = sym h ∙ end in cc)
        kinds (kind.Sign s) h = no_end (λ end. let z = sym h ∙ end in cc)

-- no body of the text goes on beyond the token of its fault
not_beyond : (limits : Limits) (names : NameTable) (m : ℕ) (d to : Cursor) (ss : List Stmt) (ns : List (Plain RawAtom)) (e : TextFault) → IsBody limits names d ss ns to → length ns ≤ limits.points → FaultAt d m e
    → body_on limits names (limits.points + 1) no_lines (at d limits.points) ≡ Err e → (ahead m d).at < to.at → ⊥
not_beyond limits names m d to ss ns e is few here fails beyond =
    let spans = body_spans limits names d to ss ns is in
    let read = body_read limits names d to ss ns is limits.points few (limits.points + 1) (omega arith) no_lines in
    let behind = tail_fault limits names read.turns read.lines to read.room e read.enough (sym read.is ∙ fails) in
    let less : m ≤ spans.k = elim (leb_tells m spans.k) [
      | inl most ↦ most.1
      | inr more ↦
          let z = more.1 in let a = ahead_less (suc spans.k) m d (omega (arith, z)) in let b = ap (λ (d : Cursor). d.at) spans.is in absurd (omega (arith, a, b, beyond))
    ] in
    not_both d m (suc spans.k + behind.0) e (solid_before m spans.k d less spans.last) here (omega (arith, less)) (fault_behind (suc spans.k) behind.0 d to e spans.is behind.1)

-- nor is one there to be read
no_body : (limits : Limits) (names : NameTable) (m : ℕ) (c : Cursor) (e : TextFault) → FaultAt c m e → (goes : GoesOn limits names (suc m) m c)
    → body_on limits names (limits.points + 1) no_lines (at goes.text limits.points) ≡ Err e → ((ahead m goes.text).at < goes.to.at) ⊎ BeginsNone names goes.to → ⊥
no_body limits names m c e here goes fails (inl beyond) =
    not_beyond limits names m goes.text goes.to goes.lines.stmts goes.lines.notes e goes.body goes.few (fault_alike m c goes.text e goes.alike here) fails beyond
no_body limits names m c e here goes fails (inr stops) =
    let reads = body_reads limits names goes.text goes.to goes.lines.stmts goes.lines.notes goes.body stops limits.points goes.few (limits.points + 1) (omega arith) no_lines in
    let both = sym reads ∙ fails in cc

fault_is_blamed : (names : NameTable) (c : Cursor) (e : TextFault) → thread_at names c ≡ Err e → IsBlamed names c e
unfolding thread_at
fault_is_blamed names c e is =
    placed_err (body text_limits names (at c most_points)) e is (λ err.
    let w = same_fault (body text_limits names) (local_body ⊥ text_limits text_limits names (none_grown ⊥ text_limits)) c most_points e err in
    record {
      before = w.m;
      at = w.at;
      no_more = λ goes. no_body text_limits names w.m c e w.at goes (exact goes.text (w.like goes.text most_points (inl refl) goes.alike)) goes.whole;
      never = λ free more larger goes.
          let u = subst (λ o. Same (Unit {0}) c most_points o (λ d t. body more names (at d t))) err (local_body (Unit {0}) text_limits more names (all_grown more larger) c most_points) in
          no_body more names w.m c e w.at goes (loose free more goes.text (u.like goes.text more.points (inr (tt, larger.points)) (alike_fault w.m u.m c goes.text e w.at u.at goes.alike))) goes.whole;
    })
  where
    exact : (d : Cursor) → (⊥ × IsLimit e) ⊎ (body text_limits names (at d most_points) ≡ Err e) → body text_limits names (at d most_points) ≡ Err e
    exact d (inl none) = absurd none.0
    exact d (inr stops) = stops

    loose : (IsLimit e → ⊥) → (more : Limits) (d : Cursor) → (Unit {0} × IsLimit e) ⊎ (body more names (at d more.points) ≡ Err e) → body more names (at d more.points) ≡ Err e
    loose free more d (inl limit) = absurd (free limit.1)
    loose free more d (inr stops) = stops

    all_grown : (more : Limits) → AreLarger more text_limits → AllGrown (Unit {0}) text_limits more
    all_grown more larger = record {
      blocks = inr (tt, larger.blocks);
      assignments = inr (tt, larger.assignments);
      expression_nodes = inr (tt, larger.expression_nodes);
      brackets = inr (tt, larger.brackets);
      formula_nodes = inr (tt, larger.formula_nodes);
      formula_brackets = inr (tt, larger.formula_brackets);
    }

pub answer_blames : (names : NameTable) (old new : Cursor) (r : Result ThreadText TextFault) → ReadsAt (thread_at names old) r new → BlamesToken names old r
answer_blames names old new (Ok t) reads = tt
answer_blames names old new (Err e) reads = λ free. fault_is_blamed names old e (reads free)
