use Rattle.std.proofs.Common.{ap, sym, ◌∙◌, [], ◌∷◌, map}
use Rattle.std.proofs.lemmas.List.{map-append}
use Rattle.pg_assertion.specs.Formula.{plain}
use Rattle.pg_assertion_text.specs.Reading as spec
use Rattle.pg_assertion_text.proofs.Chains.{implied-append}
use Rattle.pg_assertion_text.proofs.formula.implied.Goals as goal

pub premises-preserved : goal.premises-preserved
premises-preserved g c =
    let left = c.pop.new.self.items in
    ap (spec.implied (map plain left)) c.in_ok-whole.ensures
    ∙ sym (implied-append (map plain left) (plain c.in-Some.premise) (plain c.premises.whole))
    ∙ ap (λ fs. spec.implied fs (plain c.premises.whole))
    (sym (ap (map plain) c.in-Some.ensures.items ∙ map-append plain left (c.in-Some.premise ∷ [])))
    ∙ c.premises.invariant
