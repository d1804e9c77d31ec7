use Rattle.std.proofs.Common.{◌≡◌, ◌∙◌, refl, arith, ap, sym, subst, ℕ, List, take, ◌++◌, length}
use Rattle.std.specs.List.{concat}
use Rattle.std.proofs.lemmas.List.{take_all}
use Rattle.sha2.specs.Hashers.{Holds256}
use Rattle.flash_pages.specs.Memory.{memory_state, memory_sizes}
use Rattle.rehearsal.proofs.Pages.{joined_more}
use Rattle.rehearsal.proofs.mote.program_digest.Goals as goal

pub loop-page-preserved : goal.loop-page-preserved
loop-page-preserved c =
    let s = memory_state c.args.mote.now in
    let prog = s.prog in
    let long : length prog ≡ 480 = (memory_sizes c.args.mote.now s refl).prog in
    subst (λ (bytes : List ℕ). Holds256 c.update.new.self bytes) (ap (λ (page : List ℕ). concat (take c.loop-page.page prog) ++ page) (c.as_slice.ensures ∙ c.prog_page.ensures) ∙ sym (joined_more prog c.loop-page.page (omega (arith, long, c.loop-page.auto.page-end)))) (c.update.ensures (concat (take c.loop-page.page prog)) c.loop-page.invariant)

pub returns : goal.returns
returns c =
    let s = memory_state c.args.mote.now in
    let long : length s.prog ≡ 480 = (memory_sizes c.args.mote.now s refl).prog in
    c.finalize.ensures (concat s.prog) (subst (λ (pages : List (List ℕ)). Holds256 c.loop-page.hasher (concat pages)) (take_all c.loop-page.page s.prog (omega (arith, long, c.loop-page.auto.page-end))) c.loop-page.invariant)
