-- A room that tells nothing says no more of the bytes than that.
use Rattle.std.proofs.Common.{◌≡◌, Ok, Err, OnOk, refl, arith}
use Rattle.pg_io.specs.Counts.{raised}
use Rattle.pg_io.proofs.real.FileRoomRoom.TheImpl.Goals as goal

pub fetch-tells : goal.fetch-tells
fetch-tells g c = record {
  told = λ _. refl;
  faults_stay = λ _. c.ensures.faults_stay;
  taken_stays = c.ensures.taken_stays;
  within = c.ensures.within;
  bytes = elim c.result as (λ r. OnOk r (Unit {0})) [ Ok _ ↦ tt | Err _ ↦ tt ];
  empty = c.ensures.empty;
  failed = λ is_failed.
      let rose : c.new.self.now.faults ≡ raised 1 c.args.self.now.faults = c.ensures.failed is_failed in
      omega (arith, rose);
  too_long = λ n is_long. let said = c.ensures.too_long n is_long in (said.0, said.1, tt);
}
