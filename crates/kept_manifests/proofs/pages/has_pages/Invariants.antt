use Rattle.std.proofs.Common.{◌≡◌, ◌*◌, take}
use Rattle.std.specs.List.{concat}
use Rattle.kept_definitions.specs.Stored.{stored_bytes}
use Rattle.kept_manifests.specs.Slots.{stored_of}
use Rattle.kept_manifests.proofs.pages.has_pages.Given as goal

abbrev pub invariant-loop-page : goal.invariant-loop-page
invariant-loop-page l = concat (take l.page l.pages) ≡ take (256 * l.page) (stored_bytes (stored_of l.m))
