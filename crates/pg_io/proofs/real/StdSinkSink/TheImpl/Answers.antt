-- A sink that tells nothing says no more of its bytes than that, before and after.
use Rattle.std.proofs.Common.{◌≡◌, List, ℕ, Option, None, Ok, Err, OnOk, refl, arith}
use Rattle.pg_io.specs.Counts.{raised}
use Rattle.pg_io.proofs.real.StdSinkSink.TheImpl.Goals as goal

pub put-tells : goal.put-tells
put-tells g c = record {
  faults_stay = c.ensures.faults_stay;
  ok = elim c.result as (λ r. let told : Option (List ℕ) = None in OnOk r (told ≡ None)) [ Ok _ ↦ refl | Err _ ↦ tt ];
  part = λ _. (0, refl);
  failed = λ is_failed.
      let rose : c.new.self.now ≡ raised 1 c.args.self.now = rw is_failed at c.ensures.failed in
      omega (arith, rose);
  no_memory = λ _. refl;
}
