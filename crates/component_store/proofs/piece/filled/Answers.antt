use Rattle.std.proofs.Common.{◌≡◌, ℕ, ◌+◌, ◌-◌, ◌≤◌, ◌++◌, List, length, take, drop, replicate, sym, ap, ap₂, ◌∙◌, arith}
use Rattle.std.proofs.lemmas.List.{drop-replicate, take-replicate}
use Rattle.std.proofs.Math.Seq.{take-append-add}
use Rattle.component_package.specs.mote.Page.{filled_page}
use Rattle.component_store.proofs.piece.filled.Goals as goal

filled_is : (b : List ℕ) → length b ≤ 256 → b ++ drop (length b) (replicate 256 255) ≡ filled_page b
unfolding filled_page
filled_is b short =
    let whole : 256 ≡ length b + (256 - length b) = omega arith in
    ap (λ (l : List ℕ). b ++ l) (drop-replicate (length b) 256 255 ∙ sym (take-replicate (256 - length b) 256 255 (omega arith)))
    ∙ sym (ap (λ (k : ℕ). take k (b ++ replicate 256 255)) whole ∙ take-append-add b (replicate 256 255) (256 - length b))

pub returns : goal.returns
returns c =
    let b : List ℕ = c.args.bytes.now in
    ap₂ (λ (x y : List ℕ). x ++ drop (length b) y) c.copy_from_slice.ensures.after c.blank_page-page.ensures ∙ filled_is b c.requires
