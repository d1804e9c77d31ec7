use Rattle.std.proofs.Common.{◌≡◌, ◌*◌, ◌≤◌, take, length}
use Rattle.std.specs.List.{flat_map, enumerate_from}
use Rattle.component_package.specs.link.Link.{sites_in}
use Rattle.full_linker.proofs.sites.all_sites.Given as goal

abbrev pub invariant-loop-k : goal.invariant-loop-k
invariant-loop-k l = (l.sites.items ≡ flat_map (λ c. sites_in c.0 c.1) (take l.k (enumerate_from 0 l.set))) × (length l.sites.items ≤ 65535 * l.k)
