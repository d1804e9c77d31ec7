use Rattle.std.proofs.Common.{◌<◌, length, arith}
use Rattle.component_package.proofs.ReadAgain.{length-spelling}
use Rattle.component_package.proofs.write.numbers_of.Goals as goal

pub overflow_cast-result-3 : goal.overflow_cast-result-3
overflow_cast-result-3 c =
    let p = c.args.p.now in
    let small : length p.exports < 65536 = omega (arith, length-spelling p, c.requires.short) in
    record { fits = rw (c.as_slice-3.ensures) (rw (← c.p.view_is) at small) }

pub overflow_cast-result-4 : goal.overflow_cast-result-4
overflow_cast-result-4 c =
    let p = c.args.p.now in
    let small : length p.relocs < 65536 = omega (arith, length-spelling p, c.requires.short) in
    record { fits = rw (c.as_slice-4.ensures) (rw (← c.p.view_is) at small) }
