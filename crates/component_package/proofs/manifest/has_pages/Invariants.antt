use Rattle.std.proofs.Common.{◌≡◌, ◌*◌, take}
use Rattle.std.specs.List.{concat}
use Rattle.component_package.specs.packages.Manifest.{stored_of, stored_bytes}
use Rattle.component_package.proofs.manifest.has_pages.Given as goal

abbrev pub invariant-loop-page : goal.invariant-loop-page
invariant-loop-page l = concat (take l.page l.pages) ≡ take (256 * l.page) (stored_bytes (stored_of l.m))
