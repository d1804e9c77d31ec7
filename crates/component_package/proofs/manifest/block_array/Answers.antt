use Rattle.std.proofs.Common.{◌≡◌, ℕ, [], Option, length, replicate, sym, ap, ◌∙◌, arith, rules}
use Rattle.std.specs.Option.{option_map_or}
use Rattle.component_package.specs.declared.manifest.Entry.{Entry}
use Rattle.component_package.specs.packages.Manifest.{Placed, placed_bytes, stored_of}
use Rattle.component_package.proofs.StoredLemmas.{pair_at, length-pairs, element_past}
use Rattle.component_package.proofs.manifest.block_array.Goals as goal

abbrev none : Entry
none = record { component = 0; version = 0; length = 0; digest = [] }

abbrev mk : Entry × ℕ → Placed
mk x = record { entry = x.0; slot = x.1 }

pub returns-then-i-m : goal.returns-then-i-m
returns-then-i-m c =
    let m = c.args.m.now in
    let room : length m.manifest.entries ≡ 16 = search rules in
    let slot_room : length m.slots ≡ 16 = search rules in
    let here = pair_at mk m.manifest.entries m.slots m.manifest.count c.args.i none 0 c.if-i-m.true (omega arith) (omega arith) in
    c.placed_array.ensures ∙ ap (λ (o : Option Placed). option_map_or placed_bytes o (replicate 64 0)) (sym here)

pub returns : goal.returns
returns c =
    let m = c.args.m.now in
    let room : length m.manifest.entries ≡ 16 = search rules in
    let slot_room : length m.slots ≡ 16 = search rules in
    let count = length-pairs mk m.manifest.entries m.slots m.manifest.count (omega arith) (omega arith) in
    c.no_place.ensures ∙ ap (λ (o : Option Placed). option_map_or placed_bytes o (replicate 64 0)) (sym (element_past (stored_of m).placed c.args.i (omega (arith, count, c.if-i-m.false))))
