use Rattle.pg_outline_text.proofs.SpellingOutlines.{canonical_text_stands}
use Rattle.pg_outline_text.proofs.print.print_outline.Goals as goal

pub returns-in_err-put_outline-clause-again : goal.returns-in_err-put_outline-clause-again
returns-in_err-put_outline-clause-again c = canonical_text_stands c.args.o.now c.put_outline.ensures.made

pub returns-clause-again : goal.returns-clause-again
returns-clause-again c = canonical_text_stands c.args.o.now c.put_outline.ensures.made
