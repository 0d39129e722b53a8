use Rattle.std.proofs.Common.{◌≡◌, ◌∙◌, sym, ◌<◌, arith}
use Rattle.pg_assertion.specs.declared.expansion.TheConstants.{MAX_EXPANSION_NODES}
use Rattle.pg_assertion.specs.Formula.{plain, nodes}
use Rattle.pg_assertion.specs.Expansion.{named, expansion}
use Rattle.pg_assertion.proofs.ExpansionSizes.{size_found, size_built, values_fit}
use Rattle.pg_assertion.proofs.expansion.expand.Goals as goal

pub returns-then-is_too_large-clause-too_large : goal.returns-then-is_too_large-clause-too_large
returns-then-is_too_large-clause-too_large c =
    let t = c.args.names.now in
    let f = plain c.args.f.now in
    let s = c.expansion_size-size.result in
    let e : s ≡ nodes (expansion t f) = size_found t f c.domain-domain.result c.locations-locations.result s c.requires.domain.0 c.domain-domain.ensures c.locations-locations.ensures.count c.expansion_size-size.ensures in
    let large : MAX_EXPANSION_NODES < s = omega arith in
    λ n. (
      (λ h. let same : s ≡ n = cc in (sym same ∙ e, omega arith)),
      (λ h. let same : s ≡ n = e ∙ sym h.0 in cc),
    )

pub expanded-requires : goal.expanded-requires
expanded-requires c = values_fit c.args.names.now (plain c.args.f.now) c.requires.domain.1 c.requires.atoms

pub returns-in-Ok-clause-small : goal.returns-in-Ok-clause-small
returns-in-Ok-clause-small c =
    let f = plain c.args.f.now in
    let d = c.domain-domain.result in
    let s = c.expansion_size-size.result in
    let e : nodes (plain c.in-Ok.g) ≡ s = size_built d s (named c.locations-locations.result f) f (plain c.in-Ok.g) (omega arith) c.in-Ok.ensures c.expansion_size-size.ensures in
    omega arith

pub returns-in-Ok-clause-too_large : goal.returns-in-Ok-clause-too_large
returns-in-Ok-clause-too_large c =
    let t = c.args.names.now in
    let f = plain c.args.f.now in
    let s = c.expansion_size-size.result in
    let e : s ≡ nodes (expansion t f) = size_found t f c.domain-domain.result c.locations-locations.result s c.requires.domain.0 c.domain-domain.ensures c.locations-locations.ensures.count c.expansion_size-size.ensures in
    λ n. ((λ h. cc), (λ h. absurd (omega (arith, h.0, h.1))))

pub returns-in-Err-clause-too_large : goal.returns-in-Err-clause-too_large
returns-in-Err-clause-too_large c =
    let t = c.args.names.now in
    let f = plain c.args.f.now in
    let s = c.expansion_size-size.result in
    let e : s ≡ nodes (expansion t f) = size_found t f c.domain-domain.result c.locations-locations.result s c.requires.domain.0 c.domain-domain.ensures c.locations-locations.ensures.count c.expansion_size-size.ensures in
    λ n. ((λ h. cc), (λ h. absurd (omega (arith, h.0, h.1))))
