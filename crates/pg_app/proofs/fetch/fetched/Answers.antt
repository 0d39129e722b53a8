-- A file above its limit ends the call.
use Rattle.std.proofs.Common.{◌≡◌, ◌<◌, Err, arith}
use Rattle.pg_io.specs.declared.outside.RoomFault.TheVariants.{TooLong}
use Rattle.pg_app.specs.File.{file_of, longest}
use Rattle.pg_app.proofs.Endings.{long_stops}
use Rattle.pg_app.proofs.fetch.fetched.Goals as goal

pub returns-in-Err-TooLong-clause-stops : goal.returns-in-Err-TooLong-clause-stops
returns-in-Err-TooLong-clause-stops g c =
    let n = c.in-Err-TooLong.field-0-0 in
    let is_long : c.fetch.result ≡ Err (TooLong n) = cc in
    let said = c.fetch.ensures.too_long n is_long in
    let above : longest c.args.kind < n = omega (arith, said.0) in
    long_stops (file_of c.args.name.now c.args.kind) _ _ n above said.1 (rw c.limit.ensures at said.2) c.refuse_length.ensures
