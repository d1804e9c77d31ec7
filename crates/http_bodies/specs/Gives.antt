-- What a reader of bodies answers.
use Rattle.std.specs.Prelude.{◌≡◌, Option, Some, None, Result, Ok, Err}
use Rattle.http_bodies.specs.declared.fault.BodyFault.{BodyFault}
use Rattle.http_bodies.specs.declared.fault.BodyFault.TheVariants.{Bad, Memory}

-- Ok is what is wanted, and Bad says that there is nothing; want of memory may always come
abbrev pub Gives : {T : Type 0} → Option T → Result T BodyFault → Type 0
Gives wanted (Ok t) = wanted ≡ Some t
Gives wanted (Err Bad) = wanted ≡ None
Gives wanted (Err Memory) = Unit {0}
