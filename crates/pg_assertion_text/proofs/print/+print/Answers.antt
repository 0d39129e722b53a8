use Rattle.std.proofs.Common.{rules, ◌∙◌, sym}
use Rattle.pg_assertion.specs.declared.formula.Formula.{the_lemmas}
use Rattle.pg_assertion.specs.Formula.{plain}
use Rattle.std.specs.Prelude.{codes}
use Rattle.pg_assertion_text.specs.Parts.{rule}
use Rattle.pg_assertion_text.specs.Spelling.{is_loose, spell}
use Rattle.pg_assertion_text.proofs.Appended.{appended, in_its_brackets, without_brackets, spells_both, spells_either, spells_implies}
use Rattle.pg_assertion_text.proofs.print.+print.Goals as goal

pub spell-returns-in_ok-extend_from_slice-in-And : goal.spell-returns-in_ok-extend_from_slice-in-And
spell-returns-in_ok-extend_from_slice-in-And g t c =
    spells_both (g.T.PrintAtom.spelled c.args.names.now) c.spell_part-in-And-2.result (plain c.args.f.now) (plain c.get-in-And.result.now) (plain c.get-in-And-2.result.now)
    c.args.into.now.items c.spell_part-in-And.new.into.items c.extend_from_slice-in-And.new.self.items c.spell_part-in-And-2.new.into.items
    (search (rules, the_lemmas)) c.in_ok-spell_part-in-And.ensures c.in_ok-extend_from_slice-in-And.ensures.items c.spell_part-in-And-2.ensures

pub spell-returns-in_ok-extend_from_slice-in-Or : goal.spell-returns-in_ok-extend_from_slice-in-Or
spell-returns-in_ok-extend_from_slice-in-Or g t c =
    spells_either (g.T.PrintAtom.spelled c.args.names.now) c.spell_part-in-Or-2.result (plain c.args.f.now) (plain c.get-in-Or.result.now) (plain c.get-in-Or-2.result.now)
    c.args.into.now.items c.spell_part-in-Or.new.into.items c.extend_from_slice-in-Or.new.self.items c.spell_part-in-Or-2.new.into.items
    (search (rules, the_lemmas)) c.in_ok-spell_part-in-Or.ensures c.in_ok-extend_from_slice-in-Or.ensures.items c.spell_part-in-Or-2.ensures

pub spell-returns-in_ok-extend_from_slice-in-Implies : goal.spell-returns-in_ok-extend_from_slice-in-Implies
spell-returns-in_ok-extend_from_slice-in-Implies g t c =
    spells_implies (g.T.PrintAtom.spelled c.args.names.now) c.spell.result (plain c.args.f.now) (plain c.get-in-Implies.result.now) (plain c.get-in-Implies-2.result.now)
    c.args.into.now.items c.spell_part-in-Implies.new.into.items c.extend_from_slice-in-Implies.new.self.items c.spell.new.into.items
    (search (rules, the_lemmas)) c.in_ok-spell_part-in-Implies.ensures c.in_ok-extend_from_slice-in-Implies.ensures.items c.spell.ensures

pub spell_part-returns-in_ok-spell : goal.spell_part-returns-in_ok-spell
spell_part-returns-in_ok-spell g t c =
    in_its_brackets c.extend_from_slice-then-is_loose.result c.args.into.now.items c.extend_from_slice.new.self.items c.spell.new.into.items c.extend_from_slice-then-is_loose.new.self.items
    (spell (g.T.PrintAtom.spelled c.args.names.now) (plain c.args.f.now)) (is_loose (rule c.args.part) (plain c.args.f.now)) (sym c.is_loose.ensures ∙ c.if-is_loose.true)
    c.in_ok-extend_from_slice.ensures.items c.in_ok-spell.ensures
    (appended c.extend_from_slice-then-is_loose.result c.extend_from_slice-then-is_loose.new.self.items c.spell.new.into.items (codes ")") c.extend_from_slice-then-is_loose.ensures.items)

pub spell_part-returns-else-is_loose : goal.spell_part-returns-else-is_loose
spell_part-returns-else-is_loose g t c =
    without_brackets c.spell-else-is_loose.result c.args.into.now.items c.spell-else-is_loose.new.into.items
    (spell (g.T.PrintAtom.spelled c.args.names.now) (plain c.args.f.now)) (is_loose (rule c.args.part) (plain c.args.f.now)) (sym c.is_loose.ensures ∙ c.if-is_loose.false)
    c.spell-else-is_loose.ensures
