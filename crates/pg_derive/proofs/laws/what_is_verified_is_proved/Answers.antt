use Rattle.pg_derive.proofs.Verified.{verified-proved}
use Rattle.pg_derive.proofs.laws.what_is_verified_is_proved.Goals as goal

pub returns : goal.returns
returns c = verified-proved
