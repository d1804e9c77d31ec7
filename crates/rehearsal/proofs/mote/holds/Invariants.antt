use Rattle.std.proofs.Common.{◌≡◌, ◌<◌, ℕ, [], slice_index_or}
use Rattle.flash_pages.specs.Memory.{memory_state}
use Rattle.component_package.specs.link.Pages.{page_in}
use Rattle.rehearsal.proofs.mote.holds.Given as goal

abbrev pub invariant-loop-page : goal.invariant-loop-page
invariant-loop-page l = (k : ℕ) → k < l.page → slice_index_or (memory_state l.mote).prog k [] ≡ page_in l.whole k
