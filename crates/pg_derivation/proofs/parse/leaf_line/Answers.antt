use Rattle.std.proofs.Common.{◌≡◌, length, arith}
use Rattle.pg_derivation.specs.Place.{cursor}
use Rattle.pg_derivation.proofs.Nodes.{leaf-appended, leaf-stays}
use Rattle.pg_derivation.proofs.parse.leaf_line.Goals as goal

pub returns-clause-said : goal.returns-clause-said
returns-clause-said c =
    let first : c.len-first.result ≡ length c.args.kept.now.items = omega (arith, c.len-first.ensures) in
    let last : c.len-last.result ≡ length c.numbers.new.into.items = omega (arith, c.len-last.ensures) in
    leaf-appended _ _ _ _ _ _ c.in_ok-push.ensures.items first last c.requires.whole
    _ _ _ _ c.in_ok-keyword.ensures.said c.in_ok-from.ensures.said c.in_ok-next.ensures.said

pub returns-clause-whole : goal.returns-clause-whole
returns-clause-whole c =
    let first : c.len-first.result ≡ length c.args.kept.now.items = omega (arith, c.len-first.ensures) in
    let last : c.len-last.result ≡ length c.numbers.new.into.items = omega (arith, c.len-last.ensures) in
    leaf-stays _ _ _ _ _ _ c.in_ok-push.ensures.items first last c.requires.whole
    (cursor c.in_ok-from.from) (cursor c.in_ok-next.next) c.in_ok-next.ensures.said c.in_ok-next.ensures.some c.in_ok-next.ensures.fits
