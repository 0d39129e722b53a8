-- What is printed of each obligation is what has to follow.
use Rattle.std.proofs.Common.{refl, sym}
use Rattle.std.proofs.lemmas.Simd.{map-map}
use Rattle.pg_obligations.specs.declared.obligation.Obligation.TheVariants.{Fresh, Entry, EntryCrash, Local, Crash, Interfere}
use Rattle.pg_assertion.specs.declared.layout.Side.TheVariants.{Before}
use Rattle.pg_obligations.specs.Follow.{on, fresh_values}
use Rattle.pg_report.specs.Obligations.{assertion}
use Rattle.pg_report.specs.Meaning.{meaning, WhatIsPrintedIsMeant}

pub printed_is_meant : WhatIsPrintedIsMeant
printed_is_meant o rules Fresh = record { given = sym (map-map (λ s. on Before (meaning o s)) assertion (fresh_values o.program)); shown = refl }
printed_is_meant o rules (Entry t) = record { given = refl; shown = refl }
printed_is_meant o rules EntryCrash = record { given = refl; shown = refl }
printed_is_meant o rules (Local s) = record { given = refl; shown = refl }
printed_is_meant o rules (Crash s) = record { given = refl; shown = refl }
printed_is_meant o rules (Interfere s at) = record { given = refl; shown = refl }
