use Rattle.std.proofs.Common.{rules, ◌≡◌, ℕ, ◌+◌, ◌-◌, List, length, min, arith, sym, ap, ◌∙◌, get_or}
use Rattle.component_store.specs.Sets.{part_of}
use Rattle.kept_stage.proofs.Parts.{copied, length_mid, not_copied}
use Rattle.kept_stage.proofs.Sets.{part_long}
use Rattle.kept_stage.proofs.plain.copy_part.Goals as goal

pub returns-in_ok-part_bytes-clause-bytes : goal.returns-in_ok-part_bytes-clause-bytes
returns-in_ok-part_bytes-clause-bytes g c = λ s told comp here j lt.
    let part : List ℕ = part_of comp c.args.in_init in
    let long : length part ≡ c.part_length.result = part_long s c.args.set.now c.args.k comp c.args.in_init here ∙ sym c.part_length.ensures in
    let wide : length c.args.into.now ≡ 256 = search rules in
    let low : ℕ = c.max-low.result in
    let high : ℕ = c.min-high.result in
    let is_high : high ≡ min (c.args.place + length part) (c.args.base + 256) = c.min-high.ensures ∙ ap (λ (n : ℕ). min (c.args.place + n) (c.args.base + 256)) (sym long) in
    let a : ℕ = low - c.args.base in
    let n : ℕ = high - c.args.base - a in
    copied part c.args.into.now c.part_bytes.new.into c.args.place c.args.base low high _ (length_mid a n c.args.into.now
    (omega (arith, wide, c.min-high.ensures, c.max-low.ensures, c.if-low-high.true))) wide
    c.max-low.ensures is_high c.if-low-high.true (c.in_ok-part_bytes.ensures.answer s told comp here) j lt

pub returns-else-low-high-clause-bytes : goal.returns-else-low-high-clause-bytes
returns-else-low-high-clause-bytes g c = λ s told comp here j lt.
    let part : List ℕ = part_of comp c.args.in_init in
    let long : length part ≡ c.part_length.result = part_long s c.args.set.now c.args.k comp c.args.in_init here ∙ sym c.part_length.ensures in
    let is_high : c.min-high.result ≡ min (c.args.place + length part) (c.args.base + 256) = c.min-high.ensures ∙ ap (λ (n : ℕ). min (c.args.place + n) (c.args.base + 256)) (sym long) in
    not_copied part c.args.place c.args.base c.max-low.result c.min-high.result j (get_or c.args.into.now j 0) c.max-low.ensures is_high (omega (arith, c.if-low-high.false)) lt
