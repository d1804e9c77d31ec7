-- The names so far differ from all others.
use Rattle.std.proofs.Common.{◌≡◌, drop}
use Rattle.http_bodies.specs.Parts.{names_differ as differ_test}
use Rattle.http_bodies.proofs.parts.names_differ.Given as goal

abbrev pub invariant-loop-i : goal.invariant-loop-i
invariant-loop-i l = differ_test l.parts ≡ differ_test (drop l.i l.parts)
