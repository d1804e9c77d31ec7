use Rattle.std.proofs.Common.{◌≡◌, ◌∙◌, refl, sym, arith}
use Rattle.flash_pages.specs.Memory.{memory_state, memory_sizes}
use Rattle.component_package.specs.link.Pages.{page_in}
use Rattle.rehearsal.proofs.Pages.{pages_are, one_more}
use Rattle.rehearsal.proofs.mote.holds.Goals as goal

pub loop-page-preserved : goal.loop-page-preserved
loop-page-preserved c = one_more (page_in c.args.whole.now) (memory_state c.args.mote.now).prog c.loop-page.page c.loop-page.invariant
    (sym c.prog_page.ensures ∙ sym c.as_slice.ensures ∙ c.is_same.ensures.0 c.if-not-is_same.false)

pub returns : goal.returns
returns c same =
    let s = memory_state c.args.mote.now in
    let every : c.loop-page.page ≡ 480 = omega (arith, c.loop-page.auto.page-end) in
    pages_are (page_in c.args.whole.now) s.prog 480 (memory_sizes c.args.mote.now s refl).prog (λ k lt. c.loop-page.invariant k (omega (arith, lt, every)))
