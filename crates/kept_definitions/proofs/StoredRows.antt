-- Stored releases as bytes.
use Rattle.std.proofs.Common.{◌≡◌, ℕ, Bool, List, [], ◌∷◌, ◌++◌, ◌+◌, ◌*◌, ◌^◌, true, false, refl, ap, replicate, take, drop, length, slice_range, arith, ◌<◌, inl, inr, subst, sym}
use Rattle.std.specs.Prelude.{slice_index}
use Rattle.std.proofs.lemmas.Bool.{cases_lt}
use Rattle.std.proofs.lemmas.List.{get_or-replicate, get_or_past}
use Rattle.avr_reloc.specs.Field.{AreBytes}
use Rattle.component_package.specs.declared.manifest.Entry.{Entry}
use Rattle.component_package.specs.packages.Manifest.{IsManifestEntry}
use Rattle.kept_definitions.specs.Layouts.{LayoutsDiffer}
use Rattle.kept_definitions.specs.Stored.{Placed, StoredRelease, IsStored, Stores, placed_bytes, stored_bytes, stored_in}
use Rattle.kept_definitions.proofs.Samples.{empty_release, first, second}

-- an entry whose numbers all differ
abbrev entry : ℕ → Entry
entry low = record { component = 256 * 2 + low; version = 256 * 4 + 3; length = 256 * 6 + 5; digest = replicate 32 7 }

abbrev placed : ℕ → ℕ → Bool → Placed
placed low slot fresh = record { entry = entry low; slot = slot; fresh = fresh }

-- component, version, length, digest, slot, 1 where it is fresh, 24 zeros
fresh_bytes : placed_bytes (placed 1 15 true) ≡ 1 ∷ 2 ∷ 3 ∷ 4 ∷ 5 ∷ 6 ∷ (replicate 32 7 ++ 15 ∷ 1 ∷ replicate 24 0)
fresh_bytes = refl

held_bytes : placed_bytes (placed 1 15 false) ≡ 1 ∷ 2 ∷ 3 ∷ 4 ∷ 5 ∷ 6 ∷ (replicate 32 7 ++ 15 ∷ 0 ∷ replicate 24 0)
held_bytes = refl

-- five entries
abbrev five : StoredRelease
five = record {
  number = 4 * 2 ^ 24 + 3 * 2 ^ 16 + 2 * 2 ^ 8 + 1;
  placed = placed 1 4 true ∷ placed 2 3 false ∷ placed 3 2 true ∷ placed 4 1 false ∷ placed 5 15 true ∷ [];
}

-- page 0 is the number, the count, the layout and 250 zeros; entries stand four a page from page 1 on; what is behind them is zeros
five_pages : (take 256 (stored_bytes five) ≡ 1 ∷ 2 ∷ 3 ∷ 4 ∷ 5 ∷ 2 ∷ replicate 250 0) × (slice_range (stored_bytes five) 256 320 ≡ placed_bytes (placed 1 4 true))
    × (slice_range (stored_bytes five) 448 512 ≡ placed_bytes (placed 4 1 false)) × (slice_range (stored_bytes five) 512 576 ≡ placed_bytes (placed 5 15 true))
    × (drop 576 (stored_bytes five) ≡ replicate 704 0)
five_pages = (refl, refl, refl, refl, refl)

-- the empty release has its layout too
empty_pages : stored_bytes empty_release ≡ 0 ∷ 0 ∷ 0 ∷ 0 ∷ 0 ∷ 2 ∷ replicate 1274 0
empty_pages = refl

-- what is stored is read again
read_again : (stored_in (stored_bytes five) ≡ five) × (stored_in (stored_bytes first) ≡ first) × (stored_in (stored_bytes second) ≡ second) × (stored_in (stored_bytes empty_release) ≡ empty_release)
read_again = (refl, refl, refl, refl)

-- whatever a side stores, byte 5 is 2
pub layout_is_told : (b : List ℕ) (m : StoredRelease) → Stores b m → slice_index b 5 ≡ 2
layout_is_told b m stores = ap (λ (x : List ℕ). slice_index x 5) stores.bytes

-- so what the first layout stores, the second doesn't: a board of the first is unformatted here
pub layouts_differ : LayoutsDiffer
layouts_differ b m n old new =
    let zero_there : slice_index b 5 ≡ 0 = ap (λ (x : List ℕ). slice_index x 5) old.bytes in
    let two_there : slice_index b 5 ≡ 2 = layout_is_told b n new in
    omega (arith, zero_there, two_there)

-- ---- which releases there are

-- the digest is bytes
sevens : AreBytes (replicate 32 7)
sevens i = elim (cases_lt i 32) [
  | inl within ↦ subst (λ n. n < 256) (sym (get_or-replicate 32 i 7 0 within)) (omega arith)
  | inr past ↦ subst (λ n. n < 256) (sym (get_or_past (replicate 32 7) i 0 past)) (omega arith)
]

good : (low : ℕ) → low < 256 → IsManifestEntry (entry low)
good low small = record {
  component = omega (arith, small);
  version = omega arith;
  least = omega arith;
  most = omega arith;
  digest = refl;
  bytes = sevens;
}

-- the five entries are one
five_is_stored : IsStored five
five_is_stored = record {
  number = omega arith;
  few = omega arith;
  entries = (good 1 (omega arith), (good 2 (omega arith), (good 3 (omega arith), (good 4 (omega arith), (good 5 (omega arith), tt)))));
  distinct = (refl, (refl, (refl, (refl, (refl, tt)))));
  slots = (omega arith, (omega arith, (omega arith, (omega arith, (omega arith, tt)))));
  apart = (refl, (refl, (refl, (refl, (refl, tt)))));
}

abbrev one : Placed → StoredRelease
one p = record { number = 1; placed = p ∷ [] }

abbrev both : Placed → Placed → StoredRelease
both a b = record { number = 1; placed = a ∷ b ∷ [] }

-- slot 16, two entries in one slot, two of one component, a package too short or too long, a seventeenth entry, a number of more than 32 bits
slot_too_high : IsStored (one (placed 1 16 true)) → ⊥
slot_too_high is = omega (arith, is.slots.0)

same_slot : IsStored (both (placed 1 3 true) (placed 2 3 true)) → ⊥
same_slot is = (let same = is.apart.0 in cc)

same_component : IsStored (both (placed 1 3 true) (placed 1 4 false)) → ⊥
same_component is = (let same = is.distinct.0 in cc)

too_short : IsStored (one (record (placed 1 3 true) { entry = record (entry 1) { length = 31 } })) → ⊥
too_short is = omega (arith, is.entries.0.least)

too_long : IsStored (one (record (placed 1 3 true) { entry = record (entry 1) { length = 9985 } })) → ⊥
too_long is = omega (arith, is.entries.0.most)

too_many : (ps : List Placed) → length ps ≡ 17 → IsStored (record { number = 1; placed = ps }) → ⊥
too_many ps many is = omega (arith, many, is.few)

too_great : IsStored (record { number = 2 ^ 32; placed = [] }) → ⊥
too_great is = omega (arith, is.number)
