-- Pages that begin with some bytes and are 0xFF from there.
use Rattle.std.proofs.Common.{◌≡◌, ℕ, ◌+◌, ◌-◌, ◌≤◌, ◌++◌, List, length, take, drop, replicate, sym, ap, ◌∙◌, arith}
use Rattle.std.proofs.lemmas.List.{drop-replicate, take-replicate}
use Rattle.std.proofs.Math.Seq.{take-append-add}
use Rattle.flash_pages.specs.Page.{blank_page, filled_page}

-- no more bytes than a page has, and 0xFF behind them
pub filled_is : (b : List ℕ) → length b ≤ 256 → filled_page b ≡ b ++ replicate (256 - length b) 255
unfolding filled_page
filled_is b short =
    let whole : 256 ≡ length b + (256 - length b) = omega arith in
    ap (λ (k : ℕ). take k (b ++ replicate 256 255)) whole ∙ take-append-add b (replicate 256 255) (256 - length b)
    ∙ ap (λ (l : List ℕ). b ++ l) (take-replicate (256 - length b) 256 255 (omega arith))

-- the bytes put over a page of 0xFF
pub filled_over : (b : List ℕ) → length b ≤ 256 → b ++ drop (length b) blank_page ≡ filled_page b
filled_over b short = ap (λ (l : List ℕ). b ++ l) (drop-replicate (length b) 256 255) ∙ sym (filled_is b short)
