use Rattle.std.proofs.Common.{arith}
use Rattle.full_linker.proofs.sites.sites_of.Goals as goal

pub overflow_cast-result : goal.overflow_cast-result
overflow_cast-result c =
    let len = c.len-then-len.ensures in
    let small = c.in_ok-sites.ensures.small in
    grind (arith, len, small, c.in_ok-sites.sites.len)
