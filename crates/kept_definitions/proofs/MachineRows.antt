-- Answers of the mote machine, and what it then holds: each row pins one test, which of two tests comes first, or one field of the state.
use Rattle.std.proofs.Common.{◌≡◌, ℕ, List, [], ◌∷◌, ◌++◌, ◌-◌, true, false, Some, None, refl, replicate, take, length}
use Rattle.sha2.specs.Sha256.{sha256, digest_bytes, hash_after, compress, rounds, schedule, first_words}
use Rattle.component_package.specs.declared.answer.Answer.TheVariants.{Booted, Status, NoManifest, BadFrame, ManifestIs, Piece, Linked, Committed, Held, BadPiece, Missing, NotLinked, Undefined, Reboot, Stale, BadManifest}
use Rattle.component_package.specs.packages.Component.{Component}
use Rattle.component_package.specs.packages.Reading.{component_of}
use Rattle.component_package.specs.packages.Manifest.{release_in}
use Rattle.component_package.specs.link.Link.{link_cause}
use Rattle.component_package.specs.mote.Page.{filled_page}
use Rattle.kept_definitions.specs.Kept.{Chosen, coming_set, slots_for}
use Rattle.kept_definitions.specs.Machine.{Mote, step, answers_from, session_answers, session_commits}
use Rattle.kept_definitions.proofs.Samples.{p, q, entry_p, entry_q, manifest, first, other, frame, bare, formatted}

-- ---- motes

-- a slot that was zeros, with a package of one page in it
abbrev slot_with : List ℕ → List ℕ
slot_with bytes = bytes ++ (replicate (256 - length bytes) 255 ++ replicate 9728 0)

-- slots of zeros
abbrev empty_slots : ℕ → List (List ℕ)
empty_slots n = replicate n (replicate 9984 0)

abbrev both_slots : List (List ℕ)
both_slots = slot_with p ∷ slot_with q ∷ empty_slots 14

abbrev both_components : List Component
both_components = component_of p ∷ component_of q ∷ []

-- release 1 comes in, is linked, and its commit stands
abbrev coming_mote : Mote
coming_mote = record formatted { incoming = Some first }

abbrev linked_mote : Mote
linked_mote = record { current = formatted.current; incoming = Some first; inbox = both_slots; linked = true; standing = false }

abbrev chosen : Chosen
chosen = record { release = first; set = both_components }

abbrev standing_mote : Mote
standing_mote = record { current = chosen; incoming = None; inbox = both_slots; linked = false; standing = true }

-- it boots as release 2, and nothing of its packages is in the inbox
abbrev second_mote : Mote
second_mote = record { current = record chosen { release = record first { number = 2 } }; incoming = None; inbox = empty_slots 16; linked = false; standing = false }

-- ---- manifests

-- release 1 with its entries the other way round, release 2 with the same entries, and release 3
abbrev manifest_swapped : List ℕ
manifest_swapped = 1 ∷ 0 ∷ 0 ∷ 0 ∷ 2 ∷ (entry_q ++ entry_p)

abbrev manifest_2 : List ℕ
manifest_2 = 2 ∷ 0 ∷ 0 ∷ 0 ∷ 2 ∷ (entry_p ++ entry_q)

abbrev manifest_3 : List ℕ
manifest_3 = 3 ∷ 0 ∷ 0 ∷ 0 ∷ 2 ∷ (entry_p ++ entry_q)

-- ---- answers

-- the incoming release is the same by its number and its entries: other entries unlink, and so does another number
other_release : (answers_from linked_mote (frame 1 manifest_swapped ∷ bare 4 ∷ bare 6 ∷ []) ≡ ManifestIs 1 0 ∷ NotLinked ∷ Status 0 1 1 ∷ [])
    × (answers_from linked_mote (frame 1 manifest_2 ∷ bare 4 ∷ bare 6 ∷ []) ≡ ManifestIs 2 0 ∷ NotLinked ∷ Status 0 2 1 ∷ [])
other_release = (refl, refl)

-- the same manifest leaves it linked, and so does a piece that is there; another piece unlinks
same_again : (answers_from linked_mote (frame 1 manifest ∷ bare 6 ∷ bare 4 ∷ bare 6 ∷ []) ≡ ManifestIs 1 0 ∷ Status 0 1 2 ∷ Committed 1 ∷ Status 1 0 3 ∷ [])
    × (answers_from linked_mote (frame 2 (1 ∷ 0 ∷ q) ∷ bare 6 ∷ bare 4 ∷ bare 6 ∷ []) ≡ Piece 1 0 ∷ Status 0 1 2 ∷ Committed 1 ∷ Status 1 0 3 ∷ [])
    × (answers_from linked_mote (frame 2 (1 ∷ 0 ∷ take 40 p) ∷ bare 6 ∷ bare 4 ∷ []) ≡ Piece 1 0 ∷ Status 0 1 1 ∷ NotLinked ∷ [])
unfolding filled_page
same_again = (refl, refl, refl)

-- while a commit stands: what is no frame, a bad manifest, a piece, LINK, ABORT, COMMIT and STATUS
standing : answers_from standing_mote (bare 9 ∷ frame 1 [] ∷ frame 2 (0 ∷ 0 ∷ []) ∷ bare 3 ∷ bare 7 ∷ bare 4 ∷ bare 6 ∷ [])
    ≡ BadFrame 9 ∷ Reboot 1 ∷ Reboot 1 ∷ Reboot 1 ∷ Reboot 1 ∷ Committed 1 ∷ Status 1 0 3 ∷ []
standing = refl

-- `stale` tells the current release, of an earlier manifest and of its own; a manifest that is bad and stale is bad
stale : answers_from second_mote (frame 1 manifest ∷ frame 1 manifest_2 ∷ frame 1 (manifest ++ 0 ∷ []) ∷ []) ≡ Stale 2 ∷ Stale 2 ∷ BadManifest 1 ∷ []
stale = refl

-- a held component's piece of a wrong length is bad, and one of the right length is held, even with other bytes
held : answers_from second_mote (frame 1 manifest_3 ∷ frame 2 (0 ∷ 0 ∷ take 45 p) ∷ frame 2 (0 ∷ 0 ∷ p) ∷ frame 2 (0 ∷ 0 ∷ take 46 manifest) ∷ [])
    ≡ ManifestIs 3 2 ∷ BadPiece ∷ Held 0 ∷ Held 0 ∷ []
held = refl

-- pieces that are none: too short, of no entry, of no page; and where nothing comes in
no_piece : (answers_from coming_mote (frame 2 (0 ∷ 0 ∷ []) ∷ frame 2 (2 ∷ 0 ∷ q) ∷ frame 2 (1 ∷ 1 ∷ q) ∷ frame 2 (1 ∷ 0 ∷ take 39 q) ∷ []) ≡ BadPiece ∷ BadPiece ∷ BadPiece ∷ BadPiece ∷ [])
    × (answers_from formatted (frame 2 [] ∷ frame 2 (0 ∷ 0 ∷ p) ∷ bare 3 ∷ bare 4 ∷ []) ≡ NoManifest ∷ NoManifest ∷ NoManifest ∷ NoManifest ∷ [])
no_piece = (refl, refl)

-- LINK before the second piece
too_early : answers_from coming_mote (frame 2 (0 ∷ 0 ∷ p) ∷ bare 3 ∷ bare 4 ∷ bare 6 ∷ []) ≡ Piece 0 0 ∷ Missing 1 ∷ NotLinked ∷ Status 0 1 1 ∷ []
unfolding sha256 digest_bytes hash_after compress rounds schedule first_words filled_page
too_early = refl

-- installed components need nothing in the inbox, and none of their pieces
linked_again : answers_from second_mote (frame 1 manifest_3 ∷ bare 3 ∷ bare 4 ∷ bare 5 ∷ bare 6 ∷ []) ≡ ManifestIs 3 2 ∷ Linked 3 ∷ Committed 3 ∷ Booted 3 ∷ Status 3 0 0 ∷ []
unfolding link_cause coming_set
linked_again = refl

-- what refuses a set is told of the incoming one: P alone, whose symbol Q exports
refused : answers_from second_mote (frame 1 (3 ∷ 0 ∷ 0 ∷ 0 ∷ 1 ∷ entry_p) ∷ bare 3 ∷ bare 4 ∷ bare 6 ∷ []) ≡ ManifestIs 3 1 ∷ Undefined 0 0 16 ∷ NotLinked ∷ Status 2 3 1 ∷ []
unfolding link_cause coming_set
refused = refl

-- STATUS: where a commit stands nothing else counts, and what is linked counts before what comes in
status : (answers_from (record linked_mote { standing = true }) (bare 6 ∷ []) ≡ Status 0 0 3 ∷ []) × (answers_from linked_mote (bare 6 ∷ []) ≡ Status 0 1 2 ∷ [])
    × (answers_from coming_mote (bare 6 ∷ []) ≡ Status 0 1 1 ∷ []) × (answers_from second_mote (bare 6 ∷ []) ≡ Status 2 0 0 ∷ [])
status = (refl, refl, refl, refl)

-- ---- the state

-- MANIFEST: the release comes in, with slots over the current one, and isn't linked
after_manifest : ((step formatted (frame 1 manifest)).mote ≡ coming_mote) × ((step linked_mote (frame 1 manifest_2)).mote.linked ≡ false)
after_manifest = (refl, refl)

-- PIECE: the page of the component's inbox slot is the bytes, and 0xFF up to 256; it isn't linked
after_piece : ((step coming_mote (frame 2 (1 ∷ 0 ∷ q))).mote.inbox ≡ replicate 9984 0 ∷ slot_with q ∷ empty_slots 14)
    × ((step linked_mote (frame 2 (1 ∷ 0 ∷ take 40 p))).mote.linked ≡ false) × ((step linked_mote (frame 2 (1 ∷ 0 ∷ take 40 p))).mote.current ≡ formatted.current)
unfolding filled_page
after_piece = (refl, refl, refl)

-- the slot is the entry's, and the page is the piece's; the last page has what is left of the package
abbrev elsewhere : Mote
elsewhere = record formatted { incoming = Some (record { number = 1; placed = record { entry = record (other 7) { length = 300 }; slot = 2; fresh = true } ∷ [] }) }

after_last_piece : ((step elsewhere (frame 2 (0 ∷ 1 ∷ replicate 44 9))).mote.inbox
    ≡ empty_slots 2 ++ (replicate 256 0 ++ (replicate 44 9 ++ (replicate 212 255 ++ replicate 9472 0))) ∷ empty_slots 13)
    × (answers_from elsewhere (frame 2 (0 ∷ 1 ∷ replicate 45 9) ∷ frame 2 (0 ∷ 0 ∷ replicate 255 9) ∷ frame 2 (0 ∷ 0 ∷ replicate 256 9) ∷ []) ≡ BadPiece ∷ BadPiece ∷ Piece 0 0 ∷ [])
    × ((step (record elsewhere { inbox = empty_slots 2 ++ (replicate 300 9 ++ replicate 9684 255) ∷ []; linked = true }) (frame 2 (0 ∷ 1 ∷ replicate 44 9))).mote.linked ≡ true)
unfolding filled_page
after_last_piece = (refl, refl, refl)

-- LINK: it is linked
after_link : (step (record linked_mote { linked = false }) (bare 3)).mote ≡ linked_mote
unfolding sha256 digest_bytes hash_after compress rounds schedule first_words link_cause coming_set
after_link = refl

-- COMMIT: the incoming release and its set are current, nothing comes in, it isn't linked, a commit stands
after_commit : (step linked_mote (bare 4)).mote ≡ standing_mote
unfolding coming_set
after_commit = refl

-- BOOT: no commit stands; ABORT: nothing comes in, and it isn't linked
after_boot : ((step standing_mote (bare 5)).mote ≡ record standing_mote { standing = false }) × ((step linked_mote (bare 5)).mote ≡ linked_mote)
    × ((step linked_mote (bare 7)).mote ≡ record linked_mote { incoming = None; linked = false })
after_boot = (refl, refl, refl)

-- ---- commits

-- what commits made current, each once
commits : session_commits linked_mote (bare 4 ∷ bare 4 ∷ bare 5 ∷ frame 1 manifest_2 ∷ bare 3 ∷ bare 4 ∷ [])
    ≡ chosen ∷ record { release = slots_for first (release_in manifest_2); set = both_components } ∷ []
unfolding link_cause coming_set
commits = refl

-- the next session after a cut in the commit's gate: the commit stands, or it has to come again
cut_commit : (session_answers standing_mote (bare 6 ∷ []) ≡ Booted 1 ∷ Status 1 0 0 ∷ []) × (session_answers linked_mote (bare 6 ∷ bare 4 ∷ []) ≡ Booted 0 ∷ Status 0 1 2 ∷ Committed 1 ∷ [])
cut_commit = (refl, refl)
