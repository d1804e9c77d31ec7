-- What a map of symbols says of the exports of a set.
use Rattle.std.specs.Prelude.{◌≡◌, ℕ, ◌==◌, List, [], ◌∷◌, length, map, Option, Some, None}
use Rattle.std.specs.List.{filter, find}
use Rattle.std.specs.Option.{option_map, option_and_then}
use Rattle.std.specs.Ordering.{nat_cmp}
use Rattle.std.specs.BTreeMap.{BTreeMap, get, btree_map_len}
use Rattle.component_package.specs.declared.part.Export.{Export}
use Rattle.component_package.specs.link.Link.{is_strong_export_of, distinct}
use Rattle.full_linker.specs.declared.symbols.Slot.{Slot}

-- the second of a list, if there is one
abbrev pub second_of : List ℕ → Option ℕ
second_of [] = None
second_of (i ∷ []) = None
second_of (i ∷ j ∷ others) = Some j

-- of the exports of a symbol: the first, the first that is not weak, and the component of the second that is not weak
abbrev pub slot_of : List (ℕ × Export) → ℕ → Slot
slot_of exports s = record {
  first = find (λ x. x.1.symbol == s) exports;
  strong = find (is_strong_export_of s) exports;
  second = second_of (map (λ x. x.0) (filter (is_strong_export_of s) exports));
}

-- how many different symbols these exports have
abbrev pub different_symbols : List (ℕ × Export) → ℕ
different_symbols exports = length (distinct (map (λ x. x.1.symbol) exports))

-- the slot that is kept of a symbol: none where nothing exports it
abbrev pub kept_slot : List (ℕ × Export) → ℕ → Option Slot
kept_slot exports s = option_map (λ _. slot_of exports s) (find (λ x. x.1.symbol == s) exports)

-- a slot for each exported symbol
pub record AreSlots (exports : List (ℕ × Export)) (slots : BTreeMap ℕ Slot) : Type 0 where
  pub each : (s : ℕ) → get nat_cmp slots s ≡ kept_slot exports s
  pub count : btree_map_len slots ≡ different_symbols exports

-- the components of the first two exports that are not weak, if there are two
abbrev pub twice_of : Slot → Option (ℕ × ℕ)
twice_of slot = option_and_then (λ x. option_map (λ j. (x.0, j)) slot.second) slot.strong
