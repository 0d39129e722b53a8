-- What was made before stands beside what is made next.
use Rattle.std.proofs.Common.{map, ap, ◌∙◌, arith}
use Rattle.pg_assertion.specs.Formula.{plain}
use Rattle.pg_made.proofs.Outlines.{ready, told}
use Rattle.pg_made.proofs.outline.of_parts.Goals as goal

pub outlined-requires : goal.outlined-requires
outlined-requires c =
    let two = c.in_ok-crash-2.ensures.ok in
    let three = c.in_ok-crash-3.ensures.ok in
    let four = c.in_ok-crash-4.ensures.ok in
    ready c.args.n c.in_ok-crash-4.program (plain c.in_ok-crash-4.pre) (plain c.in_ok-crash-4.crash) (map (λ t. map plain t.items) c.in_ok-crash-4.notes.items)
    (rw four.1 at c.made_program.ensures)
    (ap (λ p. plain p.0.1) four.0 ∙ ap (λ p. plain p.1) three.0 ∙ rw two.1 at c.pre.ensures)
    (ap (λ p. plain p.0.0) four.0 ∙ ap (λ p. plain p.0) three.0 ∙ ap plain two.0 ∙ c.in_ok-crash.ensures)
    (ap (λ p. map (λ t. map plain t.items) p.1.items) four.0 ∙ rw three.1 at c.notes.ensures)
    (omega (arith, c.requires))

pub returns : goal.returns
returns c =
    let two = c.in_ok-crash-2.ensures.ok in
    let three = c.in_ok-crash-3.ensures.ok in
    let four = c.in_ok-crash-4.ensures.ok in
    told c.args.n c.in_ok-crash-4.program (plain c.in_ok-crash-4.pre) (plain c.in_ok-crash-4.crash) (map (λ t. map plain t.items) c.in_ok-crash-4.notes.items)
    (rw four.1 at c.made_program.ensures)
    (ap (λ p. plain p.0.1) four.0 ∙ ap (λ p. plain p.1) three.0 ∙ rw two.1 at c.pre.ensures)
    (ap (λ p. plain p.0.0) four.0 ∙ ap (λ p. plain p.0) three.0 ∙ ap plain two.0 ∙ c.in_ok-crash.ensures)
    (ap (λ p. map (λ t. map plain t.items) p.1.items) four.0 ∙ rw three.1 at c.notes.ensures)
    c.in_ok-outline.outline c.in_ok-outline.ensures
