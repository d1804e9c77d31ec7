use Rattle.std.proofs.Common.{◌∙◌, sym, ap, ℕ, get_or, []}
use Rattle.external_flash.specs.Gates.{closed_page}
use Rattle.kept_laws.specs.Formatted.{formatted_ext}
use Rattle.kept_core.proofs.Emptying.{page_eight, page_zero}
use Rattle.kept_core.proofs.formatting.empty_board_page.Goals as goal

pub returns-then-page-eq-MANIFEST_A : goal.returns-then-page-eq-MANIFEST_A
returns-then-page-eq-MANIFEST_A c = c.empty_release.ensures ∙ page_eight ∙ ap (λ (n : ℕ). get_or (formatted_ext closed_page) n []) (sym c.if-page-eq-MANIFEST_A.true)

pub returns-else-page-eq-MANIFEST_A : goal.returns-else-page-eq-MANIFEST_A
returns-else-page-eq-MANIFEST_A c = page_zero c.args.page c.requires c.if-page-eq-MANIFEST_A.false
