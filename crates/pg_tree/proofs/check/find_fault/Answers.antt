use Rattle.std.proofs.Common.{◌≡◌, ◌<◌, ◌+◌, ◌++◌, ◌∷◌, [], ℕ, List, Bool, Some, None, true, false, length, take, drop, refl, sym, ap, subst, ◌∙◌, arith}
use Rattle.std.proofs.lemmas.List.{drop_all}
use Rattle.std.specs.Bool.{MatchBool}
use Rattle.pg_region.specs.Literal.{Literal, negated}
use Rattle.pg_decider.specs.Assignment.{on}
use Rattle.pg_decider.specs.Trail.{lit}
use Rattle.pg_derivation.specs.Derivation.{TreeLine, line_at}
use Rattle.pg_derivation.specs.Lent.{node_of}
use Rattle.pg_tree.specs.Checking.{Checking}
use Rattle.pg_tree.specs.Fault.{leaf_fault, may_split}
use Rattle.pg_tree.specs.Path.{PathTable, mark}
use Rattle.pg_tree.specs.declared.fault.TreeFault.TheVariants.{TooMuch, BadLiteral}
use Rattle.pg_tree.proofs.Marks.{no-marks, marks-few, last-mark, ends-early, ends-well, next-line, line-too-much, line-bad, line-leaf, checking-split, checking-leaf}
use Rattle.pg_tree.proofs.check.find_fault.Goals.{in-Split+else-not-may_stand, in-Leaf+in_default}
use Rattle.pg_tree.proofs.check.find_fault.Goals as goal

pub lines-init : goal.lines-init
lines-init c = (
  ap (λ (p : PathTable). p.atoms) c.undo.ensures,
  c.truncate.ensures.capacity,
  (refl, refl),
  rw (c.undo.ensures, c.truncate.ensures.items) (record { marks = λ z. no-marks; is = refl }),
)

pub returns-then-not-is_open : goal.returns-then-not-is_open
returns-then-not-is_open c =
    let n = c.args.reader.now.atoms in
    let cs = c.args.reader.now.clauses in
    let xs = c.args.tree.now in
    let ls = c.lines.path.literals in
    let ms = c.lines.marks.items in
    let x = line_at xs (c.lines.k + 1) in
    let rest = drop (c.lines.k + 1) xs in
    let h = subst (λ (b : Bool). Checking n cs xs ls ms b c.lines.last (x ∷ rest)) c.if-not-is_open.true
    (subst (λ (r : List TreeLine). Checking n cs xs ls ms c.lines.is_open c.lines.last r) (next-line xs c.lines.k (omega arith)) c.lines.invariant.3) in
    record { exact = ap (λ (k : ℕ). Some (TooMuch k)) c.line-line.ensures ∙ sym (line-too-much n cs xs ls ms c.lines.last x rest h); atoms = c.lines.invariant.0; room = c.lines.invariant.1 }

pub returns-then-not-may_stand : goal.returns-then-not-may_stand
returns-then-not-may_stand c =
    let n = c.args.reader.now.atoms in
    let cs = c.args.reader.now.clauses in
    let xs = c.args.tree.now in
    let ls = c.lines.path.literals in
    let ms = c.lines.marks.items in
    let x = line_at xs (c.lines.k + 1) in
    let rest = drop (c.lines.k + 1) xs in
    let l = c.in-Split.literal in
    let h = subst (λ (b : Bool). Checking n cs xs ls ms b c.lines.last (x ∷ rest)) c.if-not-is_open.false
    (subst (λ (r : List TreeLine). Checking n cs xs ls ms c.lines.is_open c.lines.last r) (next-line xs c.lines.k (omega arith)) c.lines.invariant.3) in
    let no : may_split n (on ls) l ≡ false = ap (λ (a : ℕ). may_split a (on ls) l) (sym c.lines.invariant.2.1) ∙ (sym c.may_stand.ensures ∙ c.if-not-may_stand.true) in
    record { exact = ap (λ (k : ℕ). Some (BadLiteral k)) c.line-line.ensures ∙ sym (line-bad n cs xs ls ms c.lines.last x rest l h (sym c.node.ensures.said ∙ ap node_of c.in-Split.is) no); atoms = c.lines.invariant.0; room = c.lines.invariant.1 }

pub returns-in-Some : goal.returns-in-Some
returns-in-Some c =
    let n = c.args.reader.now.atoms in
    let cs = c.args.reader.now.clauses in
    let xs = c.args.tree.now in
    let ls = c.lines.path.literals in
    let ms = c.lines.marks.items in
    let x = line_at xs (c.lines.k + 1) in
    let rest = drop (c.lines.k + 1) xs in
    let ns = c.in-Leaf.numbers.now in
    let h = subst (λ (b : Bool). Checking n cs xs ls ms b c.lines.last (x ∷ rest)) c.if-not-is_open.false
    (subst (λ (r : List TreeLine). Checking n cs xs ls ms c.lines.is_open c.lines.last r) (next-line xs c.lines.k (omega arith)) c.lines.invariant.3) in
    let no : leaf_fault cs x.number (on ls) ns ≡ Some c.in-Some.fault =
    ap (λ (ds : List (List Literal)). leaf_fault ds x.number (on ls) ns) (sym c.lines.invariant.2.0)
    ∙ (ap (λ (k : ℕ). leaf_fault c.lines.reader.clauses k (on ls) ns) (sym c.line-line.ensures) ∙ (sym c.check_leaf.ensures.exact ∙ c.in-Some.is)) in
    record { exact = sym (line-leaf n cs xs ls ms c.lines.last x rest ns c.in-Some.fault h (sym c.node.ensures.said ∙ ap node_of c.in-Leaf.is) no); atoms = ap (λ (p : PathTable). p.atoms) c.check_leaf.ensures.path ∙ c.lines.invariant.0; room = c.lines.invariant.1 }

pub go_down-requires-clause-few : goal.go_down-requires-clause-few
go_down-requires-clause-few c = marks-few c.lines.path.literals c.lines.marks.items (c.lines.invariant.3.marks c.if-not-is_open.false)

pub go_down-requires-clause-room : goal.go_down-requires-clause-room
go_down-requires-clause-room c = omega (arith, c.requires.room, c.lines.invariant.0, c.lines.invariant.1)

pub go_back-is_open-requires : goal.go_back-is_open-requires
go_back-is_open-requires c =
    let ms = c.lines.marks.items in
    λ i e. subst (λ (p : PathTable). mark ms i < length p.literals) (sym c.check_leaf.ensures.path)
    (last-mark c.lines.path.literals ms i (c.lines.invariant.3.marks c.if-not-is_open.false) e)

pub returns-then-is_open : goal.returns-then-is_open
returns-then-is_open c =
    let n = c.args.reader.now.atoms in
    let cs = c.args.reader.now.clauses in
    let xs = c.args.tree.now in
    let ls = c.lines.path.literals in
    let ms = c.lines.marks.items in
    let h = subst (λ (b : Bool). Checking n cs xs ls ms b c.lines.last (drop c.lines.k xs)) c.if-is_open.true c.lines.invariant.3 in
    let none : drop c.lines.k xs ≡ [] = drop_all c.lines.k xs (omega arith) in
    record {
      exact = sym (ends-early n cs xs ls ms c.lines.last (subst (λ (r : List TreeLine). Checking n cs xs ls ms true c.lines.last r) none h));
      atoms = c.lines.invariant.0;
      room = c.lines.invariant.1;
    }

pub returns-else-is_open : goal.returns-else-is_open
returns-else-is_open c =
    let n = c.args.reader.now.atoms in
    let cs = c.args.reader.now.clauses in
    let xs = c.args.tree.now in
    let ls = c.lines.path.literals in
    let ms = c.lines.marks.items in
    let h = subst (λ (b : Bool). Checking n cs xs ls ms b c.lines.last (drop c.lines.k xs)) c.if-is_open.false c.lines.invariant.3 in
    let none : drop c.lines.k xs ≡ [] = drop_all c.lines.k xs (omega arith) in
    record {
      exact = sym (ends-well n cs xs ls ms c.lines.last (subst (λ (r : List TreeLine). Checking n cs xs ls ms false c.lines.last r) none h));
      atoms = c.lines.invariant.0;
      room = c.lines.invariant.1;
    }

pub lines-preserved : goal.lines-preserved
lines-preserved c =
    let n = c.args.reader.now.atoms in
    let cs = c.args.reader.now.clauses in
    let xs = c.args.tree.now in
    let ls = c.lines.path.literals in
    let ms = c.lines.marks.items in
    let x = line_at xs (c.lines.k + 1) in
    let rest = drop (c.lines.k + 1) xs in
    let h = subst (λ (b : Bool). Checking n cs xs ls ms b c.lines.last (x ∷ rest)) c.if-not-is_open.false
    (subst (λ (r : List TreeLine). Checking n cs xs ls ms c.lines.is_open c.lines.last r) (next-line xs c.lines.k (omega arith)) c.lines.invariant.3) in
    elim c.match-node.branch [
      | in-Split+else-not-may_stand w ↦
          let l = w.in-Split.literal in
          let ok : may_split n (on ls) l ≡ true = ap (λ (a : ℕ). may_split a (on ls) l) (sym c.lines.invariant.2.1) ∙ (sym w.may_stand.ensures ∙ w.if-not-may_stand.false) in
          rw (w.reader-is, w.path-is, w.marks-is, w.is_open-is, w.go_down.ensures.path, w.go_down.ensures.marks) (
            c.lines.invariant.0,
            w.go_down.ensures.room ∙ c.lines.invariant.1,
            c.lines.invariant.2,
            subst (λ (b : Bool). Checking n cs xs (ls ++ l ∷ []) (ms ++ length ls ∷ []) b c.line-line.result rest) (sym c.if-not-is_open.false)
                (subst (λ (k : ℕ). Checking n cs xs (ls ++ l ∷ []) (ms ++ length ls ∷ []) true k rest) (sym c.line-line.ensures)
                (checking-split n cs xs ls ms c.lines.last x rest l h (sym c.node.ensures.said ∙ ap node_of w.in-Split.is) ok)),
          )
      | in-Leaf+in_default w ↦
          let ns = w.in-Leaf.numbers.now in
          let b = w.go_back-is_open.result in
          let us = w.go_back-is_open.new.path.literals in
          let ds = w.go_back-is_open.new.marks.items in
          let ok : leaf_fault cs x.number (on ls) ns ≡ None =
          ap (λ (ds : List (List Literal)). leaf_fault ds x.number (on ls) ns) (sym c.lines.invariant.2.0)
          ∙ (ap (λ (k : ℕ). leaf_fault c.lines.reader.clauses k (on ls) ns) (sym c.line-line.ensures) ∙ (sym w.check_leaf.ensures.exact ∙ w.in_default.is)) in
          let moved = subst (λ (p : PathTable). MatchBool b ((m : ℕ) × (ms ≡ ds ++ m ∷ []) × (us ≡ take m p.literals ++ negated (lit p.literals m) ∷ [])) (ms ≡ [])) w.check_leaf.ensures.path w.go_back-is_open.ensures.moved in
          rw (w.reader-is, w.path-is, w.marks-is, w.is_open-is) (
            w.go_back-is_open.ensures.atoms ∙ (ap (λ (p : PathTable). p.atoms) w.check_leaf.ensures.path ∙ c.lines.invariant.0),
            w.go_back-is_open.ensures.room ∙ c.lines.invariant.1,
            (w.check_leaf.ensures.reader.0 ∙ c.lines.invariant.2.0, w.check_leaf.ensures.reader.1 ∙ c.lines.invariant.2.1),
            subst (λ (k : ℕ). Checking n cs xs us ds b k rest) (sym c.line-line.ensures)
                (checking-leaf n cs xs ls us ms ds c.lines.last x rest ns b h (sym c.node.ensures.said ∙ ap node_of w.in-Leaf.is) ok moved),
          )
    ]
