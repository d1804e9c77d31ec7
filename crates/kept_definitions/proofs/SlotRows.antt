-- Where slots stand in external flash, and which slots entries get.
use Rattle.std.proofs.Common.{◌≡◌, ℕ, Bool, List, [], ◌∷◌, ◌++◌, ◌+◌, true, false, refl, replicate, take, drop, map, length}
use Rattle.std.specs.Prelude.{slice_index_or}
use Rattle.std.specs.List.{range_with_len}
use Rattle.component_package.specs.declared.manifest.Entry.{Entry}
use Rattle.component_package.specs.packages.Manifest.{release_in}
use Rattle.kept_definitions.specs.Stored.{StoredRelease}
use Rattle.kept_definitions.specs.Kept.{inbox_of, tables_of, slots_for}
use Rattle.kept_definitions.specs.Sides.{parts_of}
use Rattle.kept_definitions.proofs.Samples.{manifest, empty_release, first, second, other}

-- ---- places

-- a flash whose pages hold their numbers
abbrev numbered : List (List ℕ)
numbered = map (λ page. page ∷ []) (range_with_len 0 2048)

-- 16 inbox slots from page 786 on and 16 table slots from page 1410 on, 39 pages each
places : (map length (inbox_of numbered) ≡ replicate 16 39) × (map length (tables_of numbered) ≡ replicate 16 39)
    × (slice_index_or (inbox_of numbered) 0 [] ≡ range_with_len 786 39) × (slice_index_or (inbox_of numbered) 1 [] ≡ range_with_len 825 39)
    × (slice_index_or (inbox_of numbered) 15 [] ≡ range_with_len 1371 39)
    × (slice_index_or (tables_of numbered) 0 [] ≡ range_with_len 1410 39) × (slice_index_or (tables_of numbered) 15 [] ≡ range_with_len 1995 39)
unfolding inbox_of tables_of
places = (refl, refl, refl, refl, refl, refl, refl)

-- the sides and areas
areas : ((parts_of [] numbered).side_a ≡ range_with_len 8 5) × ((parts_of [] numbered).side_b ≡ range_with_len 13 5) × ((parts_of [] numbered).symbols ≡ range_with_len 18 32)
    × ((parts_of [] numbered).relocs ≡ range_with_len 50 256) × ((parts_of [] numbered).staged ≡ map (λ page. page ∷ []) (range_with_len 306 480))
areas = (refl, refl, refl, refl, refl)

-- a gate is open where its page begins with 165, and there are eight
gates : (map (parts_of [] (map (λ page. (160 + page) ∷ []) (range_with_len 0 2048))).gates (range_with_len 0 8) ≡ false ∷ false ∷ false ∷ false ∷ false ∷ true ∷ false ∷ false ∷ [])
    × ((parts_of [] (replicate 9 (165 ∷ []))).gates 8 ≡ false)
gates = (refl, refl)

-- ---- slots for entries

abbrev slots_of_release : StoredRelease → List ℕ
slots_of_release m = map (λ p. p.slot) m.placed

abbrev marks_of_release : StoredRelease → List Bool
marks_of_release m = map (λ p. p.fresh) m.placed

-- over the first release
abbrev over_first : List Entry → StoredRelease
over_first es = slots_for first (record { number = 2; entries = es })

-- P's entry and Q's
abbrev both : List Entry
both = (release_in manifest).entries

-- the first release gets slots 0 and 1, fresh, and the second over it 1 and 0, held
in_both : (slots_of_release first ≡ 0 ∷ 1 ∷ []) × (marks_of_release first ≡ true ∷ true ∷ []) × (slots_of_release second ≡ 1 ∷ 0 ∷ []) × (marks_of_release second ≡ false ∷ false ∷ [])
in_both = (refl, refl, refl, refl)

-- a new component beside Q gets slot 0, also where it stands before Q: no held entry has it; beside P it gets slot 1
beside_held : (slots_of_release (over_first (drop 1 both ++ other 9 ∷ [])) ≡ 1 ∷ 0 ∷ []) × (slots_of_release (over_first (other 9 ∷ drop 1 both)) ≡ 0 ∷ 1 ∷ [])
    × (slots_of_release (over_first (other 9 ∷ take 1 both)) ≡ 1 ∷ 0 ∷ []) × (marks_of_release (over_first (other 9 ∷ take 1 both)) ≡ true ∷ false ∷ [])
beside_held = (refl, refl, refl, refl)

-- two new ones get 0 and 1 again, since nothing of the first release is held
all_new : (slots_of_release (over_first (other 8 ∷ other 9 ∷ [])) ≡ 0 ∷ 1 ∷ []) × (marks_of_release (over_first (other 8 ∷ other 9 ∷ [])) ≡ true ∷ true ∷ [])
all_new = (refl, refl)

-- an entry that differs from Q's in one field alone is fresh, and gets slot 0
abbrev q_changed : (Entry → Entry) → StoredRelease
q_changed change = over_first (map change (drop 1 both))

each_field : (marks_of_release (q_changed (λ e. e)) ≡ false ∷ []) × (marks_of_release (q_changed (λ e. record e { component = 9 })) ≡ true ∷ [])
    × (marks_of_release (q_changed (λ e. record e { version = 2 })) ≡ true ∷ []) × (marks_of_release (q_changed (λ e. record e { length = 42 })) ≡ true ∷ [])
    × (marks_of_release (q_changed (λ e. record e { digest = replicate 32 0 })) ≡ true ∷ []) × (slots_of_release (q_changed (λ e. record e { version = 2 })) ≡ 0 ∷ [])
each_field = (refl, refl, refl, refl, refl, refl)

-- sixteen components, and then sixteen others: each time slots 0 to 15
abbrev sixteen : ℕ → List Entry
sixteen from = map other (range_with_len from 16)

abbrev sixteen_first : StoredRelease
sixteen_first = slots_for empty_release (record { number = 1; entries = sixteen 1 })

sixteen_slots : (slots_of_release sixteen_first ≡ range_with_len 0 16)
    × (slots_of_release (slots_for sixteen_first (record { number = 2; entries = sixteen 17 })) ≡ range_with_len 0 16)
    × (slots_of_release (slots_for sixteen_first (record { number = 2; entries = sixteen 9 })) ≡ range_with_len 8 8 ++ range_with_len 0 8)
sixteen_slots = (refl, refl, refl)
