use Rattle.std.proofs.Common.{◌≡◌, ◌++◌, ◌+◌, ◌≤◌, take, length}
use Rattle.component_package.specs.link.Link.{sites_in}
use Rattle.full_linker.proofs.sites.push_sites.Given as goal

abbrev pub invariant-loop-index : goal.invariant-loop-index
invariant-loop-index l = (l.out.items ≡ l.initial.out.items ++ take l.index (sites_in l.k l.part)) × (length l.out.items ≤ length l.initial.out.items + l.index)
