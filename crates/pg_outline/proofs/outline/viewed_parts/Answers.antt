-- Each part has no fault, or its fault is the first one.
use Rattle.std.proofs.Common.{map, Vec, Global, Some, None}
use Rattle.std.proofs.lemmas.Result.{err_from_is_err_and}
use Rattle.pg_assertion.specs.declared.atom.RawAtom.{RawAtom}
use Rattle.pg_assertion.specs.declared.formula.Formula.{Formula}
use Rattle.pg_assertion.specs.Formula.{plain}
use Rattle.pg_outline.specs.Outline.{Draft}
use Rattle.pg_outline.proofs.Parts.{Counts, pre_first, crash_first, notes_first, expansion_first, atoms_inside}
use Rattle.pg_outline.proofs.outline.viewed_parts.Goals as goal

pub returns-in_err-pre : goal.returns-in_err-pre
returns-in_err-pre c =
    let o : Draft = record { program = c.args.program.now; pre = plain c.args.pre.now; crash = plain c.args.crash.now; notes = map (λ (t : Vec (Formula RawAtom) Global). map plain t.items) c.args.notes.now } in
    let counts : Counts c.of-scope.result.domain c.of-scope.result.threads o = record { domain = c.of-scope.ensures.domain; threads = c.of-scope.ensures.threads } in
    let p = err_from_is_err_and c.from_residual.result c.from_residual.ensures.1 in
    rw (p.1, p.2) (λ real. pre_first c.of-scope.result.domain c.of-scope.result.threads o c.in_err-pre.field-0.0 counts (c.in_err-pre.ensures real))

pub returns-in_err-check_crash : goal.returns-in_err-check_crash
returns-in_err-check_crash c =
    let o : Draft = record { program = c.args.program.now; pre = plain c.args.pre.now; crash = plain c.args.crash.now; notes = map (λ (t : Vec (Formula RawAtom) Global). map plain t.items) c.args.notes.now } in
    let counts : Counts c.of-scope.result.domain c.of-scope.result.threads o = record { domain = c.of-scope.ensures.domain; threads = c.of-scope.ensures.threads } in
    let p = err_from_is_err_and c.from_residual-in_err-check_crash.result c.from_residual-in_err-check_crash.ensures.1 in
    rw (p.1, p.2) (λ real. crash_first c.of-scope.result.domain c.of-scope.result.threads o c.in_err-check_crash.field-0.0 counts c.in_ok-pre.ensures.1 (c.in_err-check_crash.ensures real))

pub returns-in_err-notes : goal.returns-in_err-notes
returns-in_err-notes c =
    let o : Draft = record { program = c.args.program.now; pre = plain c.args.pre.now; crash = plain c.args.crash.now; notes = map (λ (t : Vec (Formula RawAtom) Global). map plain t.items) c.args.notes.now } in
    let counts : Counts c.of-scope.result.domain c.of-scope.result.threads o = record { domain = c.of-scope.ensures.domain; threads = c.of-scope.ensures.threads } in
    let p = err_from_is_err_and c.from_residual-in_err-notes.result c.from_residual-in_err-notes.ensures.1 in
    rw (p.1, p.2) (λ real. notes_first c.of-scope.result.domain c.of-scope.result.threads o c.in_err-notes.field-0.0 counts c.in_ok-pre.ensures.1 c.in_ok-check_crash.ensures (c.in_err-notes.ensures real))

pub expanded-requires-clause-crash : goal.expanded-requires-clause-crash
expanded-requires-clause-crash c =
    let names = c.args.program.now.names in
    let inside = atoms_inside c.of-scope.result.domain names (plain c.args.crash.now) c.of-scope.ensures.domain c.requires.atoms c.in_ok-check_crash.ensures in
    rw c.names.ensures.names (record { atoms = inside; few = c.requires.few })

pub returns-in_err-expanded : goal.returns-in_err-expanded
returns-in_err-expanded c =
    let o : Draft = record { program = c.args.program.now; pre = plain c.args.pre.now; crash = plain c.args.crash.now; notes = map (λ (t : Vec (Formula RawAtom) Global). map plain t.items) c.args.notes.now } in
    let counts : Counts c.of-scope.result.domain c.of-scope.result.threads o = record { domain = c.of-scope.ensures.domain; threads = c.of-scope.ensures.threads } in
    let p = err_from_is_err_and c.from_residual-in_err-expanded.result c.from_residual-in_err-expanded.ensures.1 in
    rw (p.1, p.2) (λ real. expansion_first c.of-scope.result.domain c.of-scope.result.threads o (Some c.in_err-expanded.field-0.0) counts c.in_ok-pre.ensures.1 c.in_ok-check_crash.ensures c.in_ok-notes.ensures.1 (rw c.names.ensures.names at (c.in_err-expanded.ensures real)))

pub returns : goal.returns
returns c =
    let o : Draft = record { program = c.args.program.now; pre = plain c.args.pre.now; crash = plain c.args.crash.now; notes = map (λ (t : Vec (Formula RawAtom) Global). map plain t.items) c.args.notes.now } in
    let counts : Counts c.of-scope.result.domain c.of-scope.result.threads o = record { domain = c.of-scope.ensures.domain; threads = c.of-scope.ensures.threads } in
    record {
      pre = c.in_ok-pre.ensures.0;
      expanded = rw c.names.ensures.names at c.in_ok-expanded.ensures.0;
      notes = c.in_ok-notes.ensures.0;
      faultless = expansion_first c.of-scope.result.domain c.of-scope.result.threads o None counts c.in_ok-pre.ensures.1 c.in_ok-check_crash.ensures c.in_ok-notes.ensures.1 (rw c.names.ensures.names at c.in_ok-expanded.ensures.1);
    }
