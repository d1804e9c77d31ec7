-- The parts so far, before those of the items that are left, are all parts.
use Rattle.std.proofs.Common.{◌≡◌, ◌++◌, drop, option_map}
use Rattle.serde_json.specs.View.{items_view}
use Rattle.http_bodies.specs.Parts.{all_parts}
use Rattle.http_bodies.proofs.parts.all_parts_of.Given as goal

abbrev pub invariant-loop-item : goal.invariant-loop-item
invariant-loop-item l =
    all_parts (items_view l.items) ≡ option_map (λ ps. l.parts.items ++ ps) (all_parts (items_view (drop l.item-index l.items)))
