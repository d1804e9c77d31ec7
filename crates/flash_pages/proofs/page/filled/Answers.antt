use Rattle.std.proofs.Common.{ℕ, List, ◌++◌, length, drop, ap₂, ◌∙◌}
use Rattle.flash_pages.proofs.Filled.{filled_over}
use Rattle.flash_pages.proofs.page.filled.Goals as goal

pub returns : goal.returns
returns c =
    let b : List ℕ = c.args.bytes.now in
    ap₂ (λ (x y : List ℕ). x ++ drop (length b) y) c.copy_from_slice.ensures.after c.blank-page.ensures ∙ filled_over b c.requires
