-- The canonical text of a thread is in the grammar, and so it is read.
use Rattle.std.proofs.Common.{◌≡◌, ℕ, ◌+◌, ◌≤◌, ◌++◌, length, sym, ap, subst, ◌∙◌}
use Rattle.std.proofs.lemmas.List.{length-map}
use Rattle.pg_lex.specs.Lex.{Cursor, token, lexeme_at, behind_gap}
use Rattle.pg_lex.specs.Piece.{piece}
use Rattle.pg_program.specs.NameTable.{NameTable}
use Rattle.pg_assertion.specs.Formula.{with_atoms}
use Rattle.pg_assertion.specs.Atom.{raw_of}
use Rattle.pg_assertion_text.specs.SpellingLaws.{cursor}
use Rattle.pg_program_text.specs.Limits.{most_points}
use Rattle.pg_program_text.specs.Grammar.{BeginsNone}
use Rattle.pg_program_text.specs.Spelling.{spell_thread}
use Rattle.pg_program_text.specs.ReadAgain.{ThreadsAreReadAgain, lines_of}
use Rattle.pg_program_text.proofs.SpellingThreads.{threads_stand}
use Rattle.pg_program_text.proofs.ThreadComplete.{thread_reads}

-- the token after a place is the token after the blanks there
token_behind : (c d : Cursor) → behind_gap c ≡ behind_gap d → token c ≡ token d
unfolding token
token_behind c d same = ap (λ (b : Cursor). lexeme_at b (piece b.rest)) same

begins_none : (names : NameTable) (c d : Cursor) → behind_gap c ≡ behind_gap d → BeginsNone names d → BeginsNone names c
begins_none names c d same none = record { lexeme = none.lexeme; read = token_behind c d same ∙ none.read; begins_none = none.begins_none }

pub read_again : ThreadsAreReadAgain
read_again names ss notes at more whole few none =
    let text = spell_thread names ss notes in
    let behind = cursor (at + length text) more in
    let stands = threads_stand names ss notes at more whole in
    record {
      to = stands.to;
      reads = thread_reads names (cursor at (text ++ more)) stands.to (lines_of ss notes) (record {
        body = stands.body;
        few = subst (λ (n : ℕ). n ≤ most_points) (sym (length-map notes (with_atoms raw_of))) few;
        stops = begins_none names stands.to behind stands.ends none;
      });
      ends = stands.ends;
    }
