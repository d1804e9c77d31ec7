-- The incoming set, and why there is none. The digest of 32 zeros is the one that `sha256sum` prints.
use Rattle.std.proofs.Common.{◌≡◌, ℕ, List, [], ◌∷◌, ◌++◌, true, false, Some, None, refl, replicate, take, drop}
use Rattle.sha2.specs.Sha256.{sha256, digest_bytes, hash_after, compress, rounds, schedule, first_words}
use Rattle.component_package.specs.declared.manifest.Entry.{Entry}
use Rattle.component_package.specs.packages.Reading.{component_of}
use Rattle.component_package.specs.mote.Store.{Missing, BadPackage}
use Rattle.kept_definitions.specs.Stored.{Placed, StoredRelease}
use Rattle.kept_definitions.specs.Kept.{Chosen, coming_set, set_fault}
use Rattle.kept_definitions.proofs.Samples.{p, q, digest_p, digest_q, first, second}

-- a release of entries in slots 0, 1 and so on
abbrev fresh_in : ℕ → Entry → Placed
fresh_in slot e = record { entry = e; slot = slot; fresh = true }

abbrev held_in : ℕ → Entry → Placed
held_in slot e = record { entry = e; slot = slot; fresh = false }

abbrev two : Placed → Placed → StoredRelease
two a b = record { number = 2; placed = a ∷ b ∷ [] }

abbrev entry_p : Entry
entry_p = record { component = 1; version = 1; length = 46; digest = digest_p }

abbrev entry_q : Entry
entry_q = record { component = 2; version = 1; length = 40; digest = digest_q }

-- 32 zeros, which are no package
abbrev nothing : Entry
nothing = record {
  component = 3;
  version = 1;
  length = 32;
  digest = 102 ∷ 104 ∷ 122 ∷ 173 ∷ 248 ∷ 98 ∷ 189 ∷ 119 ∷ 108 ∷ 143 ∷ 193 ∷ 139 ∷ 142 ∷ 159 ∷ 142 ∷ 32 ∷ 8 ∷ 151 ∷ 20 ∷ 133 ∷ 110 ∷ 226 ∷ 51 ∷ 179 ∷ 144 ∷ 42 ∷ 89 ∷ 29 ∷ 13 ∷ 95 ∷ 41 ∷ 37 ∷ [];
}

-- slots with something behind the packages
abbrev with_p : List ℕ
with_p = p ++ 255 ∷ 255 ∷ []

abbrev with_q : List ℕ
with_q = q ++ 0 ∷ []

abbrev zeros : List ℕ
zeros = replicate 40 0

-- ---- why there is no set

-- nothing is wrong; the slots of entries that aren't fresh aren't looked at
whole : (set_fault (with_p ∷ with_q ∷ []) first ≡ None) × (set_fault [] second ≡ None) × (set_fault (zeros ∷ with_q ∷ []) (two (held_in 0 entry_p) (fresh_in 1 entry_q)) ≡ None)
unfolding sha256 digest_bytes hash_after compress rounds schedule first_words
whole = (refl, refl, refl)

-- the first that is missing
missing : (set_fault (with_q ∷ with_p ∷ []) first ≡ Some (Missing 0)) × (set_fault (with_p ∷ with_p ∷ []) first ≡ Some (Missing 1))
    × (set_fault (zeros ∷ zeros ∷ []) (two (held_in 0 entry_p) (fresh_in 1 entry_q)) ≡ Some (Missing 1))
unfolding sha256 digest_bytes hash_after compress rounds schedule first_words
missing = (refl, refl, refl)

-- a package of another component or version is bad by 13, and what is no package by its own fault; what is missing comes first
bad : (set_fault (with_p ∷ with_q ∷ []) (two (fresh_in 0 (record entry_p { component = 9 })) (fresh_in 1 entry_q)) ≡ Some (BadPackage 0 13))
    × (set_fault (with_p ∷ with_q ∷ []) (two (fresh_in 0 entry_p) (fresh_in 1 (record entry_q { version = 2 }))) ≡ Some (BadPackage 1 13))
    × (set_fault (with_p ∷ zeros ∷ []) (two (fresh_in 0 entry_p) (fresh_in 1 nothing)) ≡ Some (BadPackage 1 2))
    × (set_fault (zeros ∷ with_p ∷ []) (two (fresh_in 0 nothing) (fresh_in 1 (record entry_p { component = 9 }))) ≡ Some (BadPackage 0 2))
    × (set_fault (with_p ∷ with_p ∷ []) (two (fresh_in 0 (record entry_p { component = 9 })) (fresh_in 1 entry_q)) ≡ Some (Missing 1))
    × (set_fault (with_p ∷ with_q ∷ []) (two (held_in 0 (record entry_p { component = 9 })) (fresh_in 1 (record entry_q { version = 2 }))) ≡ Some (BadPackage 1 13))
unfolding sha256 digest_bytes hash_after compress rounds schedule first_words
bad = (refl, refl, refl, refl, refl, refl)

-- ---- the set that comes in

-- the first release and its set
abbrev now : Chosen
now = record { release = first; set = component_of p ∷ component_of q ∷ [] }

-- P in version 2
abbrev later_p : List ℕ
later_p = take 6 p ++ 2 ∷ drop 7 p

-- a fresh component is the inbox slot's, and another one the current set's, whatever the inbox holds
coming : coming_set now ((later_p ++ 255 ∷ []) ∷ zeros ∷ []) (two (held_in 1 entry_q) (fresh_in 0 (record entry_p { version = 2 }))) ≡ component_of q ∷ component_of later_p ∷ []
unfolding coming_set
coming = refl
