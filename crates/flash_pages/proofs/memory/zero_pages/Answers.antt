use Rattle.std.proofs.Common.{ℕ, List, [], ◌∷◌, ◌++◌, replicate, ap, ◌∙◌, subst, sym}
use Rattle.std.specs.Prelude.{All}
use Rattle.std.proofs.lemmas.List.{replicate_more}
use Rattle.flash_pages.specs.State.{IsPage}
use Rattle.flash_pages.proofs.Pages.{zeros_are_pages}
use Rattle.flash_pages.proofs.memory.zero_pages.Goals as goal

pub loop-done-preserved : goal.loop-done-preserved
loop-done-preserved c =
    c.in_ok-push.ensures.items ∙ ap (λ (l : List (List ℕ)). l ++ replicate 256 0 ∷ []) c.loop-done.invariant ∙ replicate_more c.loop-done.done (replicate 256 0)

pub returns-clause-pages : goal.returns-clause-pages
returns-clause-pages c = subst (All IsPage) (sym c.loop-done.invariant) (zeros_are_pages c.loop-done.done)
