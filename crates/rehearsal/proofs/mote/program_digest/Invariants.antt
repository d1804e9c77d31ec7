use Rattle.std.proofs.Common.{take}
use Rattle.std.specs.List.{concat}
use Rattle.sha2.specs.Hashers.{Holds256}
use Rattle.flash_pages.specs.Memory.{memory_state}
use Rattle.rehearsal.proofs.mote.program_digest.Given as goal

abbrev pub invariant-loop-page : goal.invariant-loop-page
invariant-loop-page l = Holds256 l.hasher (concat (take l.page (memory_state l.mote).prog))
