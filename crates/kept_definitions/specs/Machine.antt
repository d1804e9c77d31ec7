-- The mote machine over layout 2: what a mote answers to frames, and what it then holds. It knows no gates, sides, tables or spoilt pages.
use Rattle.std.specs.Prelude.{ℕ, ◌+◌, ◌*◌, ◌==◌, ◌&&◌, not, nat_lt, Bool, true, false, List, [], ◌∷◌, length, drop, map, filter, slice_get, slice_index, slice_index_or, slice_range, slice_set, Option, Some, None, is_some, if◌then◌else◌}
use Rattle.std.specs.List.{flat_map}
use Rattle.component_package.specs.declared.answer.Answer.{Answer}
use Rattle.component_package.specs.declared.answer.Answer.TheVariants as answers
use Rattle.component_package.specs.declared.frames.TheConstants.{MANIFEST, PIECE, LINK, COMMIT, BOOT, STATUS, ABORT}
use Rattle.component_package.specs.declared.manifest.Entry.{Entry}
use Rattle.component_package.specs.declared.manifest.ManifestFault.{ManifestFault}
use Rattle.component_package.specs.link.Link.{Cause, link_cause}
use Rattle.component_package.specs.packages.Manifest.{Release, manifest_fault, number_of_manifest_fault, release_in}
use Rattle.kept_definitions.specs.Stored.{Placed, StoredRelease}
use Rattle.kept_definitions.specs.Kept.{Chosen, set_fault, coming_set, held_slot, slots_for}
use Rattle.component_package.specs.mote.Store.{SetFault, Missing, BadPackage, is_same}
use Rattle.component_package.specs.mote.Machine.{is_same_entries, is_piece_of, with_page_of, cause_answer, is_bad_frame, boot_frame}
use Rattle.component_package.specs.mote.Page.{filled_page}
use Rattle.component_package.specs.mote.Frames.{Frame}
use Rattle.component_package.specs.mote.Lines.{line_of}

-- what a mote holds: the release that boots with its set, one that comes in, 16 inbox slots, whether the incoming one is linked, and whether a
-- commit stands that the next boot installs
pub record Mote : Type 0 where
  pub current : Chosen
  pub incoming : Option StoredRelease
  pub inbox : List (List ℕ)
  pub linked : Bool
  pub standing : Bool

-- what becomes of a mote, and what it answers
pub record Step : Type 0 where
  pub mote : Mote
  pub answer : Answer

-- an answer that changes nothing
abbrev pub refuses : Mote → Answer → Step
refuses s a = record { mote = s; answer = a }

-- ---- MANIFEST

-- the two releases have the same number and the same entries
abbrev pub is_incoming : Option StoredRelease → Release → Bool
is_incoming None r = false
is_incoming (Some m) r = m.number == r.number && is_same_entries (map (λ p. p.entry) m.placed) r.entries

-- how many components of a release the current one has too
abbrev pub held_count : StoredRelease → List Entry → ℕ
held_count current es = length (filter (λ e. is_some (held_slot current e)) es)

-- the number of the release, and how many of its components are held
abbrev pub manifest_is : Mote → Release → Answer
manifest_is s r = answers.ManifestIs r.number (held_count s.current.release r.entries)

-- a bad manifest, a stale release, the one that comes in already, or a new one: it comes in, and is not linked
abbrev pub take_manifest : Mote → Option ManifestFault → Release → Step
take_manifest s (Some fault) r = refuses s (answers.BadManifest (number_of_manifest_fault fault))
take_manifest s None r =
    if not (nat_lt s.current.release.number r.number) then refuses s (answers.Stale s.current.release.number)
    else if is_incoming s.incoming r then refuses s (manifest_is s r)
    else record { mote = record s { incoming = Some (slots_for s.current.release r); linked = false }; answer = manifest_is s r }

-- ---- PIECE

-- a held component's piece, one that is there already, or a new one: it is put in the inbox slot, and the release is not linked
abbrev pub store_piece : Mote → ℕ → Placed → ℕ → List ℕ → Step
store_piece s k p page bytes =
    let slot = slice_index_or s.inbox p.slot [] in
    let done = answers.Piece k page in
    if not p.fresh then refuses s (answers.Held k)
    else if is_same (slice_range slot (256 * page) (256 * page + 256)) (filled_page bytes) then refuses s done
    else record { mote = record s { inbox = slice_set s.inbox p.slot (with_page_of page bytes slot); linked = false }; answer = done }

-- a piece of an entry that there is, of a page that it has, and of the right length
abbrev pub take_piece_of : Mote → List ℕ → Option Placed → Step
take_piece_of s payload None = refuses s answers.BadPiece
take_piece_of s payload (Some p) =
    if is_piece_of p.entry.length (slice_index payload 1) (drop 2 payload)
    then store_piece s (slice_index payload 0) p (slice_index payload 1) (drop 2 payload)
    else refuses s answers.BadPiece

-- a piece where something comes in, with an ordinal, a page and a byte at least
abbrev pub take_piece : Mote → List ℕ → Option StoredRelease → Step
take_piece s payload None = refuses s answers.NoManifest
take_piece s payload (Some m) = if nat_lt (length payload) 3 then refuses s answers.BadPiece else take_piece_of s payload (slice_get m.placed (slice_index payload 0))

-- ---- LINK

-- a set that something refuses, or one that is linked
abbrev pub link_set : Mote → ℕ → Option Cause → Step
link_set s n (Some cause) = refuses s (cause_answer cause)
link_set s n None = record { mote = record s { linked = true }; answer = answers.Linked n }

-- what is missing, then what is bad, then what refuses the set
abbrev pub link_held : Mote → StoredRelease → Option SetFault → Step
link_held s m (Some (Missing k)) = refuses s (answers.Missing k)
link_held s m (Some (BadPackage k f)) = refuses s (answers.BadPackage k f)
link_held s m None = link_set s m.number (link_cause (coming_set s.current s.inbox m))

-- LINK where something comes in: what is linked is not looked at again
abbrev pub link_incoming : Mote → Option StoredRelease → Step
link_incoming s None = refuses s answers.NoManifest
link_incoming s (Some m) = if s.linked then refuses s (answers.Linked m.number) else link_held s m (set_fault s.inbox m)

-- ---- COMMIT, STATUS

-- COMMIT where something comes in: what is linked becomes current with its set, and a commit stands
abbrev pub commit_incoming : Mote → Option StoredRelease → Step
commit_incoming s None = refuses s answers.NoManifest
commit_incoming s (Some m) =
    if s.linked then record {
      mote = record s { current = record { release = m; set = coming_set s.current s.inbox m }; incoming = None; linked = false; standing = true };
      answer = answers.Committed m.number;
    }
    else refuses s answers.NotLinked

-- the number of the release that comes in, or 0
abbrev pub incoming_number : Option StoredRelease → ℕ
incoming_number None = 0
incoming_number (Some m) = m.number

-- 3 where a commit stands, else 2 where the incoming release is linked, 1 where there is one, else 0
abbrev pub status_number : Mote → ℕ
status_number s = if s.standing then 3 else if s.linked then 2 else if is_some s.incoming then 1 else 0

-- ---- the step

-- until it is booted, a commit answers this to what would change a release
abbrev pub unless_standing : Mote → Step → Step
unless_standing s step = if s.standing then refuses s (answers.Reboot s.current.release.number) else step

-- one frame: the first row that holds
abbrev pub step : Mote → Frame → Step
step s f =
    if is_bad_frame f then refuses s (answers.BadFrame f.kind)
    else if f.kind == MANIFEST then unless_standing s (take_manifest s (manifest_fault f.payload) (release_in f.payload))
    else if f.kind == PIECE then unless_standing s (take_piece s f.payload s.incoming)
    else if f.kind == LINK then unless_standing s (link_incoming s s.incoming)
    else if f.kind == COMMIT then (if s.standing then refuses s (answers.Committed s.current.release.number) else commit_incoming s s.incoming)
    else if f.kind == BOOT then record { mote = record s { standing = false }; answer = answers.Booted s.current.release.number }
    else if f.kind == STATUS then refuses s (answers.Status s.current.release.number (if s.standing then 0 else incoming_number s.incoming) (status_number s))
    else if f.kind == ABORT then unless_standing s (record { mote = record s { incoming = None; linked = false }; answer = answers.Aborted })
    else refuses s answers.Ended

-- ---- runs: BOOT, followed by frames

-- the mote after frames
abbrev pub mote_from : Mote → List Frame → Mote
mote_from s [] = s
mote_from s (f ∷ fs) = mote_from (step s f).mote fs

-- the answers to frames
abbrev pub answers_from : Mote → List Frame → List Answer
answers_from s [] = []
answers_from s (f ∷ fs) = (step s f).answer ∷ answers_from (step s f).mote fs

-- a commit came to stand in this step
abbrev pub commits : Mote → Frame → Bool
commits s f = not s.standing && (step s f).mote.standing

-- what commits made current, in order
abbrev pub commits_from : Mote → List Frame → List Chosen
commits_from s [] = []
commits_from s (f ∷ fs) =
    let next = (step s f).mote in
    if commits s f then next.current ∷ commits_from next fs else commits_from next fs

-- the answers of a session
abbrev pub session_answers : Mote → List Frame → List Answer
session_answers s fs = answers_from s (boot_frame ∷ fs)

-- their lines
abbrev pub session_lines : Mote → List Frame → List ℕ
session_lines s fs = flat_map line_of (session_answers s fs)

-- the mote after it
abbrev pub session_mote : Mote → List Frame → Mote
session_mote s fs = mote_from s (boot_frame ∷ fs)

-- the sets that its commits chose
abbrev pub session_commits : Mote → List Frame → List Chosen
session_commits s fs = commits_from s (boot_frame ∷ fs)
