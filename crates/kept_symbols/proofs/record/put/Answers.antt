use Rattle.std.proofs.Common.{◌≡◌, ℕ, ◌+◌, ◌-◌, ◌*◌, List, take, drop, ◌++◌, ap, ap₂, ◌∙◌, arith}
use Rattle.component_package.specs.link.Areas.{symbol_bytes}
use Rattle.kept_symbols.proofs.Areas.{record_put}
use Rattle.kept_symbols.proofs.record.put.Goals as goal

pub returns : goal.returns
returns c = λ records more count page bytes.
    let at : ℕ = 8 * c.args.i in
    let raw : List ℕ = symbol_bytes more in
    let wide : at + 8 - at ≡ 8 = omega arith in
    let put : c.copy_from_slice.new.self ≡ raw = c.copy_from_slice.ensures.after ∙ bytes in
    let low = c.requires in
    ap (λ (n : ℕ). take at c.args.page.now ++ (c.copy_from_slice.new.self ++ drop n (drop at c.args.page.now))) wide
    ∙ ap₂ (λ (old new : List ℕ). take at old ++ (new ++ drop 8 (drop at old))) page put
    ∙ record_put 256 c.args.i records more count (omega (arith, low))
