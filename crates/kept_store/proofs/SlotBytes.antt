-- The bytes of slots, as calls read them.
use Rattle.std.proofs.Common.{◌≡◌, ℕ, ◌+◌, ◌*◌, ◌<◌, ◌≤◌, List, [], take, drop, get_or, sym, ap, ◌∙◌, arith}
use Rattle.std.proofs.lemmas.List.FromFn.{get_or-map-range_with_len}
use Rattle.flash_pages.specs.State.{State, IsState}
use Rattle.external_flash.specs.Areas.{bytes_from}
use Rattle.external_flash.proofs.Areas.{bytes_from-area}
use Rattle.kept_definitions.specs.Kept.{slot_from, inbox_of, tables_of}

-- slot s of the 16 of either kind
pub inbox_is : (ext : List (List ℕ)) (s : ℕ) → s < 16 → get_or (inbox_of ext) s [] ≡ slot_from 786 ext s
unfolding inbox_of
inbox_is ext s lt = get_or-map-range_with_len (slot_from 786 ext) 0 16 s s [] lt (omega arith)

pub table_is : (ext : List (List ℕ)) (s : ℕ) → s < 16 → get_or (tables_of ext) s [] ≡ slot_from 1410 ext s
unfolding tables_of
table_is ext s lt = get_or-map-range_with_len (slot_from 1410 ext) 0 16 s s [] lt (omega arith)

-- bytes of an inbox slot
pub inbox_read : (s : State) → IsState s → (slot from n : ℕ) → slot < 16 → from + n ≤ 9984
    → take n (drop from (bytes_from (786 + 39 * slot) s)) ≡ take n (drop from (get_or (inbox_of s.ext) slot []))
inbox_read s is slot from n low within =
    bytes_from-area (786 + 39 * slot) 39 from n s is (omega arith) (omega arith) ∙ ap (λ (l : List ℕ). take n (drop from l)) (sym (inbox_is s.ext slot low))

-- and of a table slot
pub table_read : (s : State) → IsState s → (slot from n : ℕ) → slot < 16 → from + n ≤ 9984
    → take n (drop from (bytes_from (1410 + 39 * slot) s)) ≡ take n (drop from (get_or (tables_of s.ext) slot []))
table_read s is slot from n low within =
    bytes_from-area (1410 + 39 * slot) 39 from n s is (omega arith) (omega arith) ∙ ap (λ (l : List ℕ). take n (drop from l)) (sym (table_is s.ext slot low))
