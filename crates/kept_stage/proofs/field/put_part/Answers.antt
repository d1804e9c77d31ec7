use Rattle.std.proofs.Common.{◌<◌, ◌^◌, rules, w64, SFits}
use Rattle.std.proofs.lemmas.Int.{to_z-of_z, to_z_pos}
use Rattle.kept_stage.proofs.Window.{window_patched}
use Rattle.kept_stage.proofs.field.put_part.Goals as goal

pub returns-in-Ok : goal.returns-in-Ok
returns-in-Ok c = λ possible.
    let x = c.args.x.now in
    let sum : SFits w64 x.s_plus_a = search rules in
    let small : x.place < 2 ^ 63 = search rules in
    let gives = simp (to_z-of_z, to_z_pos w64 x.place small) at c.in-Ok.ensures.bytes in
    let is = simp (to_z-of_z, to_z_pos w64 x.place small) at c.in-Ok.ensures.patch in
    window_patched x c.args.base c.in-Ok.patch c.args.page.now c.put_bytes.new.page is gives c.put_bytes.ensures
