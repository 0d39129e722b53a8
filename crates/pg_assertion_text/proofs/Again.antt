-- Reading what was printed gives the formula again.
use Rattle.std.proofs.Common.{ℕ, ◌+◌, ◌≤◌, [], ◌++◌, length, Ok, refl, ap, sym, ◌∙◌, subst, zero-add}
use Rattle.std.proofs.lemmas.List.{append-nil}
use Rattle.pg_lex.specs.Lex.{Cursor, token}
use Rattle.pg_program.specs.NameTable.{NameTable}
use Rattle.pg_assertion.specs.declared.atom.ViewAtom.{ViewAtom}
use Rattle.pg_assertion.specs.declared.atom.CrashAtom.{CrashAtom}
use Rattle.pg_assertion.specs.Formula.{Plain, with_atoms}
use Rattle.pg_assertion_text.specs.Limits.{most_nodes, most_open}
use Rattle.pg_assertion_text.specs.Atoms.{raw_atom, crash_atom, IsRaw, IsCrash}
use Rattle.pg_assertion_text.proofs.AtomLaws.{raw_found, raw_again, raw_begins, crash_found, crash_again, crash_begins}
use Rattle.pg_assertion_text.specs.Follows.{Stops}
use Rattle.pg_assertion_text.specs.Parsing.{formula_at}
use Rattle.pg_assertion_text.specs.Spelling.{spell, spell_atom, spell_crash}
use Rattle.pg_assertion.specs.Atom.{raw_of}
use Rattle.pg_assertion_text.specs.SpellingLaws.{cursor}
use Rattle.pg_assertion_text.specs.ReadAgain.{FormulasAreReadAgain, CrashFormulasAreReadAgain, IsReadAgain, IsCrashReadAgain}
use Rattle.pg_assertion_text.proofs.Spelling.{spelling_stands, crash_spelling_stands, nodes-with_atoms}
use Rattle.pg_assertion_text.proofs.Whole.{formula_at_reads}

pub formulas_read_again : FormulasAreReadAgain
formulas_read_again names f at more whole ends stops =
    formula_at_reads raw_atom IsRaw raw_found raw_again raw_begins names (cursor at (spell (spell_atom names) f ++ more)) (cursor (at + length (spell (spell_atom names) f)) more)
    (with_atoms raw_of f) (record {
      is = spelling_stands names f most_open at more whole.table whole.names_are whole.atoms whole.shallow ends;
      few = subst (λ k. k ≤ most_nodes) (sym (nodes-with_atoms raw_of f)) whole.few;
      stops = stops;
    })

pub crash_formulas_read_again : CrashFormulasAreReadAgain
crash_formulas_read_again names f at more whole ends stops =
    formula_at_reads crash_atom IsCrash crash_found crash_again crash_begins names (cursor at (spell (spell_crash names) f ++ more)) (cursor (at + length (spell (spell_crash names) f)) more)
    f (record {
      is = crash_spelling_stands names f most_open at more whole.table whole.names_are whole.atoms whole.shallow ends;
      few = whole.few;
      stops = stops;
    })

-- at the end of a text no formula goes on
end_stops : (n : ℕ) → Stops (cursor n [])
unfolding Rattle.pg_lex.specs.Lex.token Rattle.pg_lex.specs.Piece.piece
end_stops n = record { lexeme = _; read = refl; and = refl; or = refl; arrow = refl }

pub whole_read_again : (names : NameTable) (f : Plain ViewAtom) → IsReadAgain names f
whole_read_again names f whole =
    let text = spell (spell_atom names) f in
    ap (λ t. formula_at raw_atom names (cursor 0 t)) (sym (append-nil text))
    ∙ formulas_read_again names f 0 [] whole tt (end_stops (0 + length text))
    ∙ ap (λ n. Ok (with_atoms raw_of f, cursor n [])) (zero-add (length text))

pub whole_crash_read_again : (names : NameTable) (f : Plain CrashAtom) → IsCrashReadAgain names f
whole_crash_read_again names f whole =
    let text = spell (spell_crash names) f in
    ap (λ t. formula_at crash_atom names (cursor 0 t)) (sym (append-nil text))
    ∙ crash_formulas_read_again names f 0 [] whole tt (end_stops (0 + length text))
    ∙ ap (λ n. Ok (f, cursor n [])) (zero-add (length text))
