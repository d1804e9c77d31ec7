use Rattle.std.proofs.Common.{Option, replicate, sym, ap, ◌∙◌, arith}
use Rattle.std.specs.Option.{option_map_or}
use Rattle.component_package.proofs.Lists.{length-list_of, slice_get-list_of}
use Rattle.component_package.proofs.StoredLemmas.{element_past}
use Rattle.kept_definitions.specs.Stored.{Placed, placed_bytes}
use Rattle.kept_manifests.specs.Slots.{place_of, stored_of}
use Rattle.kept_manifests.proofs.pages.block_array.Goals as goal

pub returns-then-i-m : goal.returns-then-i-m
returns-then-i-m c =
    let m = c.args.m.now in
    c.placed_array.ensures ∙ ap (λ (o : Option Placed). option_map_or placed_bytes o (replicate 64 0)) (sym (slice_get-list_of (place_of m) m.manifest.count c.args.i c.if-i-m.true))

pub returns : goal.returns
returns c =
    let m = c.args.m.now in
    let count = length-list_of (place_of m) m.manifest.count in
    c.no_place.ensures ∙ ap (λ (o : Option Placed). option_map_or placed_bytes o (replicate 64 0)) (sym (element_past (stored_of m).placed c.args.i (omega (arith, count, c.if-i-m.false))))
