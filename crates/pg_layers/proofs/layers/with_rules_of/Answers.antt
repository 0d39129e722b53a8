use Rattle.std.proofs.Common.{Some, sym, refl, ◌∙◌}
use Rattle.std.proofs.lemmas.Bool.{false≢true}
use Rattle.pg_layers.proofs.Laying.{marks_within, kept, rules_room, ruled}
use Rattle.pg_layers.proofs.layers.with_rules_of.Goals as goal

pub release-requires : goal.release-requires
release-requires c = (marks_within c.args.o.now c.args.k c.requires.lies.0 c.args.region.now.clauses c.requires.lies.1).0

pub returns-then-is_kept : goal.returns-then-is_kept
returns-then-is_kept c =
    kept c.args.o.now (Some c.args.step) c.args.k c.args.region.now c.release.new.self c.requires.lies.0 c.requires.lies.1 c.release.ensures
    (c.is_kept.ensures.0 c.if-is_kept.true)

pub release-requires-2 : goal.release-requires-2
release-requires-2 c = (marks_within c.args.o.now c.args.k c.requires.lies.0 c.args.region.now.clauses c.requires.lies.1).1

pub lay_rules-requires-clause-room : goal.lay_rules-requires-clause-room
lay_rules-requires-clause-room c =
    rules_room c.args.o.now c.args.step c.args.k c.args.region.now c.release-2.new.self c.requires.lies.0 c.bounded.ensures.bounds c.requires.step c.requires.room c.requires.lies.1 c.release-2.ensures

pub returns : goal.returns
returns c =
    ruled c.args.o.now c.args.step c.args.k _ c.args.region.now c.release-2.new.self c.lay_rules.new.region c.requires.lies.0 c.requires.step c.requires.lies.1 c.release-2.ensures
    c.lay_rules.ensures (λ h. absurd (false≢true (sym c.if-is_kept.false ∙ c.is_kept.ensures.1 h))) refl refl refl refl c.mark.ensures c.clauses.ensures
