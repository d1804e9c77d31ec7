-- Rows of the mote machine: each pins one test of a frame, or which of two tests comes first.
use Rattle.std.specs.Prelude.{◌≡◌, ℕ, ◌-◌, List, [], ◌∷◌, ◌++◌, length, take, replicate, true, false, Some, None}
use Rattle.component_package.specs.declared.answer.Answer.TheVariants.{BadFrame, BadManifest, BadPiece, Committed, Held, ManifestIs, NoManifest, NotLinked, Piece, Reboot, Stale, Status}
use Rattle.component_package.specs.packages.Manifest.{StoredRelease, release_in}
use Rattle.component_package.specs.mote.Store.{slots_for}
use Rattle.component_package.specs.mote.Machine.{Mote, answers_from}
use Rattle.definition_rows.specs.Samples.{p, q, entry_p, entry_q, manifest, frame, bare, formatted}

-- ---- motes

-- release 1 of both packages, with the slots that it gets over the empty release
abbrev pub release_1 : StoredRelease
release_1 = slots_for formatted.current (release_in manifest)

-- a slot that was zeros, with a package of one page in it
abbrev pub slot_with : List ℕ → List ℕ
slot_with bytes = bytes ++ (replicate (256 - length bytes) 255 ++ replicate 9728 0)

-- both packages, and 30 slots of zeros
abbrev pub both_slots : List (List ℕ)
both_slots = slot_with p ∷ slot_with q ∷ replicate 30 (replicate 9984 0)

-- release 1 is linked
abbrev pub linked_mote : Mote
linked_mote = record { current = formatted.current; incoming = Some release_1; store = both_slots; linked = true; standing = false }

-- its commit stands
abbrev pub standing_mote : Mote
standing_mote = record { current = release_1; incoming = None; store = both_slots; linked = false; standing = true }

-- it boots as release 2
abbrev pub second_mote : Mote
second_mote = record { current = record release_1 { number = 2 }; incoming = None; store = both_slots; linked = false; standing = false }

-- ---- manifests

-- release 1 with its entries the other way round, release 2 with the same entries, and release 3
abbrev pub manifest_swapped : List ℕ
manifest_swapped = 1 ∷ 0 ∷ 0 ∷ 0 ∷ 2 ∷ (entry_q ++ entry_p)

abbrev pub manifest_2 : List ℕ
manifest_2 = 2 ∷ 0 ∷ 0 ∷ 0 ∷ 2 ∷ (entry_p ++ entry_q)

abbrev pub manifest_3 : List ℕ
manifest_3 = 3 ∷ 0 ∷ 0 ∷ 0 ∷ 2 ∷ (entry_p ++ entry_q)

-- ---- rows

pub record MachineRows : Type 0 where
  -- the incoming release is the same by its number and its entries: other entries unlink, and so does another number
  pub other_entries : answers_from linked_mote (frame 1 manifest_swapped ∷ bare 4 ∷ bare 6 ∷ []) ≡ ManifestIs 1 0 ∷ NotLinked ∷ Status 0 1 1 ∷ []
  pub other_number : answers_from linked_mote (frame 1 manifest_2 ∷ bare 4 ∷ bare 6 ∷ []) ≡ ManifestIs 2 0 ∷ NotLinked ∷ Status 0 2 1 ∷ []
  -- the same manifest leaves it linked, and so does a piece that is there
  pub same_manifest : answers_from linked_mote (frame 1 manifest ∷ bare 6 ∷ bare 4 ∷ bare 6 ∷ []) ≡ ManifestIs 1 0 ∷ Status 0 1 2 ∷ Committed 1 ∷ Status 1 0 3 ∷ []
  pub same_piece : answers_from linked_mote (frame 2 (1 ∷ 0 ∷ q) ∷ bare 6 ∷ bare 4 ∷ bare 6 ∷ []) ≡ Piece 1 0 ∷ Status 0 1 2 ∷ Committed 1 ∷ Status 1 0 3 ∷ []
  -- another piece unlinks
  pub other_piece : answers_from linked_mote (frame 2 (1 ∷ 0 ∷ take 40 p) ∷ bare 6 ∷ bare 4 ∷ []) ≡ Piece 1 0 ∷ Status 0 1 1 ∷ NotLinked ∷ []
  -- while a commit stands: what is no frame, a bad manifest, a piece and LINK of nothing
  pub standing : answers_from standing_mote (bare 9 ∷ frame 1 [] ∷ frame 2 (0 ∷ 0 ∷ []) ∷ bare 3 ∷ bare 7 ∷ bare 4 ∷ bare 6 ∷ []) ≡ BadFrame 9 ∷ Reboot 1 ∷ Reboot 1 ∷ Reboot 1 ∷ Reboot 1 ∷ Committed 1 ∷ Status 1 0 3 ∷ []
  -- `stale` tells the current release, of an earlier manifest and of its own; a manifest that is bad and stale is bad
  pub stale : answers_from second_mote (frame 1 manifest ∷ frame 1 manifest_2 ∷ frame 1 (manifest ++ 0 ∷ []) ∷ []) ≡ Stale 2 ∷ Stale 2 ∷ BadManifest 1 ∷ []
  -- a held component's piece of a wrong length is bad, and one of the right length is held, even with other bytes
  pub held : answers_from second_mote (frame 1 manifest_3 ∷ frame 2 (0 ∷ 0 ∷ take 45 p) ∷ frame 2 (0 ∷ 0 ∷ p) ∷ frame 2 (0 ∷ 0 ∷ take 46 manifest) ∷ []) ≡ ManifestIs 3 2 ∷ BadPiece ∷ Held 0 ∷ Held 0 ∷ []
  -- where nothing comes in, a piece that is none meets no manifest
  pub none : answers_from formatted (frame 2 [] ∷ frame 2 (0 ∷ 0 ∷ []) ∷ frame 2 (0 ∷ 0 ∷ p) ∷ []) ≡ NoManifest ∷ NoManifest ∷ NoManifest ∷ []
