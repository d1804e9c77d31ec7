use Rattle.std.proofs.Common.{◌∙◌, sym, ap, Some}
use Rattle.std.proofs.lemmas.Option.{slice_get-get_or}
use Rattle.full_linker.proofs.Views.{read_more}
use Rattle.full_linker.proofs.parts.views_of.Goals as goal

pub loop-bytes-preserved : goal.loop-bytes-preserved
loop-bytes-preserved c =
    let here = slice_get-get_or c.args.set.now c.loop-bytes.bytes-index c.bytes-item.result c.loop-bytes-test.true in
    read_more c.args.set.now c.loop-bytes.bytes-index c.loop-bytes.views.items c.push.new.self.items c.as_slice.result.now c.in-Ok.view c.loop-bytes.invariant (here ∙ ap Some (sym (c.as_slice.ensures ∙ c.bytes-item.is))) c.in-Ok.ensures.component
    c.in-Ok.ensures.spells.component c.in_ok-push-in-Ok.ensures.items
