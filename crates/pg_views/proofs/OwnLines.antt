-- Where each location has a cache line of its own, steps, crashes and atoms are those of version 1.
use Rattle.std.proofs.Common.{◌≡◌, ℕ, ◌<◌, max, nat_le, List, [], length, get_or, Option, Some, None, slice_get, refl, sym, ap, ◌∙◌, arith}
use Rattle.std.specs.List.{All}
use Rattle.std.proofs.lemmas.List.{get_or-map}
use Rattle.std.proofs.lemmas.List.Elements.{All-head}
use Rattle.std.proofs.lemmas.Option.{slice_get-get_or}
use Rattle.pg_program.specs.declared.syntax.Stmt.{Stmt}
use Rattle.pg_program.specs.declared.syntax.Act.{Act}
use Rattle.pg_program.specs.declared.syntax.Act.TheOpen.{Act-F, Assign, Store, Load, Cas, Mfence, Sfence, Flush, Flushopt, If, While}
use Rattle.pg_program.specs.Words.{locations_in}
use Rattle.pg_program.specs.NameTable.{Location}
use Rattle.pg_program.specs.Program.{ProgramTable, IsProgram}
use Rattle.pg_assertion.specs.declared.atom.ViewAtom.{ViewAtom}
use Rattle.pg_assertion.specs.declared.atom.ViewAtom.TheVariants.{Scalar, Last, Read, Persist, Async, Then, Newest, Ordered, Fenced}
use Rattle.pg_assertion.specs.Layout.{sizes, IsAtom}
use Rattle.pg_machine.specs.declared.event.Event.{Event}
use Rattle.pg_machine.specs.Memory.{Memory, line_of, last}
use Rattle.pg_machine.specs.State.{Views, State, IsWellFormed, vpa_of, committed, greatest_on, ordered}
use Rattle.pg_machine.specs.Moves.{Seen, flush_seen, vpa_raised, flushed, flush_begun}
use Rattle.pg_machine.specs.Step.{Left, Row, IsStep, leaves, act_of, seen_by, views_of}
use Rattle.pg_machine.proofs.Formed.{stmt_locations}
use Rattle.pg_machine.proofs.Reached.{reaches-less}
use Rattle.pg_views.specs.Atom.{is_shown, atom_holds}
use Rattle.pg_views.specs.Crash.{cut, IsCrashChoice}
use Rattle.pg_views.specs.Version1 as one
use Rattle.pg_views.specs.Version1.{HasOwnLines, AgreesAt, LinesOfTheirOwnAgree, Version1HasOwnLines}
use Rattle.pg_views.proofs.Found.{locations-count, lines-count}
use Rattle.pg_views.proofs.Kept.{reaches-cut}
use Rattle.pg_views.proofs.Lines.{greatest_on-own}

-- each location of a memory has its line, which is its own
record AreOwn (m : Memory) : Type 0 where
  pub lined : length m.lines ≡ length m.initial
  pub own : (x : ℕ) → x < length m.initial → line_of m x ≡ x

-- so of some positions that of the location is the one on its line
alone-there : (m : Memory) (ps : List ℕ) (x : ℕ) → AreOwn m → x < length m.initial → greatest_on m.lines ps (line_of m x) ≡ get_or ps x 0
alone-there m ps x h inside =
    let lined = h.lined in
    ap (greatest_on m.lines ps) (h.own x inside)
    ∙ greatest_on-own m.lines ps x (λ i lt. h.own i (omega (arith, lined, lt))) (omega (arith, lined, inside))

-- ---- steps

ordered-own : (m : Memory) (w : Views) (x : ℕ) → AreOwn m → x < length m.initial → ordered m.lines w (line_of m x) ≡ one.ordered w x
ordered-own m w x h inside = ap (λ (c : ℕ). max c w.vpr) (alone-there m w.coh x h inside)

flushed-own : (n : Seen) (x : ℕ) → AreOwn n.memory → x < length n.memory.initial → flushed n x ≡ one.flushed n x
flushed-own n x h inside = ap (λ (l : ℕ). let k : Seen = record n { views = flush_seen n.views l } in k) (h.own x inside)

begun-own : (n : Seen) (x : ℕ) → AreOwn n.memory → x < length n.memory.initial → flush_begun n x ≡ one.flush_begun n x
begun-own n x h inside =
    let with : ℕ → ℕ → Seen = λ l p. record n { views = vpa_raised n.views l p } in
    ap (with (line_of n.memory x)) (ordered-own n.memory n.views x h inside) ∙ ap (λ (l : ℕ). with l (one.ordered n.views x)) (h.own x inside)

module _ (d : ℕ) (n : Seen) (r : List ℕ) (left : Left) (h : AreOwn n.memory) where
  row-to : (act : Act-F Act Stmt) (choice : Option ℕ) → All (λ x. x < length n.memory.initial) (locations_in act) → Row d n r act choice left → one.Row d n r act choice left
  row-to (Flush x) None inside row = row ∙ ap (λ (k : Seen). leaves k r) (flushed-own n x h (All-head (λ (y : ℕ). y < length n.memory.initial) x [] inside))
  row-to (Flush x) (Some p) inside row = row
  row-to (Flushopt x) None inside row = row ∙ ap (λ (k : Seen). leaves k r) (begun-own n x h (All-head (λ (y : ℕ). y < length n.memory.initial) x [] inside))
  row-to (Flushopt x) (Some p) inside row = row
  row-to (Assign q e) choice inside row = row
  row-to (Store x e) choice inside row = row
  row-to (Load q x) choice inside row = row
  row-to (Cas q x e f) choice inside row = row
  row-to Mfence choice inside row = row
  row-to Sfence choice inside row = row
  row-to (If test a b) choice inside row = row
  row-to (While test a) choice inside row = row

  row-from : (act : Act-F Act Stmt) (choice : Option ℕ) → All (λ x. x < length n.memory.initial) (locations_in act) → one.Row d n r act choice left → Row d n r act choice left
  row-from (Flush x) None inside row = row ∙ sym (ap (λ (k : Seen). leaves k r) (flushed-own n x h (All-head (λ (y : ℕ). y < length n.memory.initial) x [] inside)))
  row-from (Flush x) (Some p) inside row = row
  row-from (Flushopt x) None inside row = row ∙ sym (ap (λ (k : Seen). leaves k r) (begun-own n x h (All-head (λ (y : ℕ). y < length n.memory.initial) x [] inside)))
  row-from (Flushopt x) (Some p) inside row = row
  row-from (Assign q e) choice inside row = row
  row-from (Store x e) choice inside row = row
  row-from (Load q x) choice inside row = row
  row-from (Cas q x e f) choice inside row = row
  row-from Mfence choice inside row = row
  row-from Sfence choice inside row = row
  row-from (If test a b) choice inside row = row
  row-from (While test a) choice inside row = row

-- ---- a state whose locations have lines of their own

module _ (p : ProgramTable) (s : State) (built : IsProgram p) (formed : IsWellFormed p s) (own : HasOwnLines s) where
  are-own : AreOwn s.memory
  are-own = record { lined = lines-count p s formed; own = own }

  step-to : (e : Event) (next : State) → IsStep p s e next → one.IsStep p s e next
  step-to e next h = record {
    thread = h.1.thread;
    stmt = h.1.stmt;
    stands = h.1.stands;
    left = h.1.left;
    row = row-to p.names.domain (seen_by s e.thread) s.scalars h.1.left are-own (act_of h.1.stmt) e.choice
        (stmt_locations p s built formed e.thread _ h.1.stmt h.1.thread.0 h.1.thread.1 h.1.stands) h.1.row;
    step = h.0;
    taken = h.1.taken;
    becomes = h.1.becomes;
  }

  step-from : (e : Event) (next : State) → one.IsStep p s e next → IsStep p s e next
  step-from e next h = (
    h.step,
    record {
      thread = h.thread;
      stmt = h.stmt;
      stands = h.stands;
      left = h.left;
      row = row-from p.names.domain (seen_by s e.thread) s.scalars h.left are-own (act_of h.stmt) e.choice
          (stmt_locations p s built formed e.thread _ h.stmt h.thread.0 h.thread.1 h.stands) h.row;
      taken = h.taken;
      becomes = h.becomes;
    },
  )

  committed-own : (x : ℕ) → x < length s.memory.initial → committed s (line_of s.memory x) ≡ one.committed s x
  committed-own x inside = ap (committed s) (own x inside)

  crash-to : (ps : List ℕ) → IsCrashChoice s ps → one.IsCrashChoice s ps
  crash-to ps h = record {
    size = h.size;
    positions = λ x inside.
        let same = committed-own x inside in
        reaches-less s.memory.messages x 0 (one.committed s x) 0 (cut s ps (line_of s.memory x)) (omega arith) (omega (arith, same)) (get_or ps x 0) (h.positions x inside);
  }

  crash-from : (ps : List ℕ) → one.IsCrashChoice s ps → IsCrashChoice s ps
  crash-from ps h = record {
    size = h.size;
    positions = λ x inside.
        let same = committed-own x inside in
        let alone = alone-there s.memory ps x are-own inside in
        reaches-cut s.memory.messages x (one.committed s x) (cut s ps (line_of s.memory x)) (get_or ps x 0) (h.positions x inside) (omega (arith, same, alone));
  }

  declared : (x : ℕ) → x < length p.names.locations → x < length s.memory.initial
  declared x lt = let count = locations-count p s formed in omega (arith, count, lt)

  atom-own : (a : ViewAtom) → IsAtom (sizes p.names (length p.threads)) a → atom_holds s a ≡ one.atom_holds s a
  atom-own (Persist x v) h = ap (λ (c : ℕ). is_shown s.memory x 0 c v) (committed-own x (declared x h.0))
  atom-own (Async t x v) h =
      ap (λ (c : ℕ). is_shown s.memory x 0 (max c (vpa_of (views_of s t) (line_of s.memory x))) v) (committed-own x (declared x h.1))
      ∙ ap (λ (l : ℕ). is_shown s.memory x 0 (max (one.committed s x) (vpa_of (views_of s t) l)) v) (own x (declared x h.1))
  atom-own (Ordered t x) h = ap (nat_le (last s.memory.messages x)) (ordered-own s.memory (views_of s t) x are-own (declared x h.1))
  atom-own (Scalar r k) h = refl
  atom-own (Last x v) h = refl
  atom-own (Read t x v) h = refl
  atom-own (Then t x v y w) h = refl
  atom-own (Newest t x) h = refl
  atom-own (Fenced t x) h = refl

pub lines_of_their_own_agree : LinesOfTheirOwnAgree
lines_of_their_own_agree p s built formed own = record {
  steps = λ e next. (step-to p s built formed own e next, step-from p s built formed own e next);
  crashes = λ ps. (crash-to p s built formed own ps, crash-from p s built formed own ps);
  atoms = atom-own p s built formed own;
}

-- ---- version 1

pub version_1_has_own_lines : Version1HasOwnLines
version_1_has_own_lines p s table first formed = λ x inside.
    let none : Location = record { name = []; init = 0; line = 0 } in
    let count = locations-count p s formed in
    let declared : x < length p.names.locations = omega (arith, count, inside) in
    let found : slice_get p.names.locations x ≡ Some (get_or p.names.locations x none) = slice_get-get_or p.names.locations x none declared in
    ap (λ (ks : List ℕ). get_or ks x 0) formed.memory.lines
    ∙ (get_or-map (λ (l : Location). l.line) p.names.locations x none 0 declared ∙ table.apart first x (get_or p.names.locations x none) found)
