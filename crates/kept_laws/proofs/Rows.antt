-- The rows of the mote machine, with what is known where each of them is taken.
use Rattle.std.proofs.Common.{◌≡◌, ℕ, ◌<◌, Bool, true, false, not, cond, eqb, ltb, ◌+◌, ◌*◌, List, [], length, drop, Option, Some, None, refl, slice_get, ap}
use Rattle.std.specs.Prelude.{slice_index, slice_index_or, slice_set, slice_range}
use Rattle.std.proofs.lemmas.Bool.{ltb-true, not-false}
use Rattle.component_package.specs.declared.answer.Answer.{Answer}
use Rattle.component_package.specs.declared.answer.Answer.TheVariants as answers
use Rattle.component_package.specs.declared.manifest.ManifestFault.{ManifestFault}
use Rattle.component_package.specs.packages.Manifest.{manifest_fault, number_of_manifest_fault, release_in}
use Rattle.kept_definitions.specs.Stored.{StoredRelease, Placed}
use Rattle.kept_definitions.specs.Kept.{set_fault, coming_set, slots_for}
use Rattle.component_package.specs.mote.Store.{SetFault, Missing, BadPackage, is_same}
use Rattle.component_package.specs.link.Link.{Cause, FlashFull, RamFull, Symbols, Relocations, Duplicate, Undefined, Range, link_cause}
use Rattle.component_package.specs.mote.Frames.{Frame}
use Rattle.component_package.specs.mote.Page.{filled_page}
use Rattle.component_package.specs.mote.Machine.{is_bad_frame, is_piece_of, with_page_of, cause_answer}
use Rattle.kept_definitions.specs.Machine.{Mote, Step, unless_standing, is_incoming, incoming_number, status_number, refuses, manifest_is, take_manifest, take_piece, take_piece_of, link_set, link_held, link_incoming, commit_incoming, step}
use Rattle.mote_laws.specs.Runs.{is_served, is_of_current}

-- what holds of the step in each row
pub record Rows (s : Mote) (f : Frame) (P : Step → Type 0) : Type 0 where
  -- a refusal, and what only tells
  pub refused : (a : Answer) → is_served a ≡ true → is_of_current a ≡ false → P (refuses s a)
  -- a commit that comes again
  pub repeated : s.standing ≡ true → P (refuses s (answers.Committed s.current.release.number))
  -- BOOT
  pub booted : P (record { mote = record s { standing = false }; answer = answers.Booted s.current.release.number })
  -- a manifest of another release, above the current one
  pub manifest : s.standing ≡ false → manifest_fault f.payload ≡ None → s.current.release.number < (release_in f.payload).number
      → P (record { mote = record s { incoming = Some (slots_for s.current.release (release_in f.payload)); linked = false }; answer = manifest_is s (release_in f.payload) })
  -- a piece that is another than what is there
  pub piece : (m : StoredRelease) (p : Placed) (k page : ℕ) (bytes : List ℕ) → s.standing ≡ false → s.incoming ≡ Some m → slice_get m.placed k ≡ Some p → p.fresh ≡ true
      → is_piece_of p.entry.length page bytes ≡ true → bytes ≡ drop 2 f.payload
      → P (record { mote = record s { inbox = slice_set s.inbox p.slot (with_page_of page bytes (slice_index_or s.inbox p.slot [])); linked = false }; answer = answers.Piece k page })
  -- LINK of a set that is whole and that nothing refuses
  pub linked : (m : StoredRelease) → s.standing ≡ false → s.incoming ≡ Some m → s.linked ≡ false → set_fault s.inbox m ≡ None → link_cause (coming_set s.current s.inbox m) ≡ None
      → P (record { mote = record s { linked = true }; answer = answers.Linked m.number })
  -- COMMIT of what is linked
  pub committed : (m : StoredRelease) → s.standing ≡ false → s.incoming ≡ Some m → s.linked ≡ true
      → P (record {
        mote = record s { current = record { release = m; set = coming_set s.current s.inbox m }; incoming = None; linked = false; standing = true };
        answer = answers.Committed m.number;
      })
  -- ABORT
  pub aborted : s.standing ≡ false → P (record { mote = record s { incoming = None; linked = false }; answer = answers.Aborted })

-- the page is already so
abbrev is_there : Mote → Placed → ℕ → List ℕ → Bool
is_there s p page bytes = is_same (slice_range (slice_index_or s.inbox p.slot []) (256 * page) (256 * page + 256)) (filled_page bytes)

-- a fact of both branches, with what the test says
split : (P : Step → Type 0) (b : Bool) (x y : Step) → (b ≡ true → P x) → (b ≡ false → P y) → P (cond b x y)
split P true x y then_x else_y = then_x refl
split P false x y then_x else_y = else_y refl

module _ (s : Mote) (f : Frame) (P : Step → Type 0) (rows : Rows s f P) where
  -- the rows of MANIFEST
  manifest_row : (fault : Option ManifestFault) → manifest_fault f.payload ≡ fault → s.standing ≡ false → P (take_manifest s fault (release_in f.payload))
  manifest_row (Some fault) is calm = rows.refused (answers.BadManifest (number_of_manifest_fault fault)) refl refl
  manifest_row None is calm =
      split P (not (ltb s.current.release.number (release_in f.payload).number)) _ _ (λ stale. rows.refused (answers.Stale s.current.release.number) refl refl) (λ above.
      split P (is_incoming s.incoming (release_in f.payload)) _ _ (λ same. rows.refused (manifest_is s (release_in f.payload)) refl refl) (λ other.
      rows.manifest calm is (ltb-true s.current.release.number (release_in f.payload).number (not-false (ltb s.current.release.number (release_in f.payload).number) above))))

  -- of PIECE, where there is such an entry or not
  piece_of_row : (payload : List ℕ) (m : StoredRelease) (p : Option Placed) → payload ≡ f.payload → s.standing ≡ false
      → s.incoming ≡ Some m → slice_get m.placed (slice_index payload 0) ≡ p → P (take_piece_of s payload p)
  piece_of_row payload m None whole calm coming is = rows.refused answers.BadPiece refl refl
  piece_of_row payload m (Some p) whole calm coming is =
      split P (is_piece_of p.entry.length (slice_index payload 1) (drop 2 payload)) _ _ (λ fits.
      split P (not p.fresh) _ _ (λ held. rows.refused (answers.Held (slice_index payload 0)) refl refl) (λ new.
      split P (is_there s p (slice_index payload 1) (drop 2 payload)) _ _ (λ same. rows.refused (answers.Piece (slice_index payload 0) (slice_index payload 1)) refl refl) (λ other.
      rows.piece m p (slice_index payload 0) (slice_index payload 1) (drop 2 payload) calm coming is (not-false p.fresh new) fits (ap (λ (b : List ℕ). drop 2 b) whole))))
      (λ unfit. rows.refused answers.BadPiece refl refl)

  -- of PIECE
  piece_row : (incoming : Option StoredRelease) → s.incoming ≡ incoming → s.standing ≡ false → P (take_piece s f.payload incoming)
  piece_row None is calm = rows.refused answers.NoManifest refl refl
  piece_row (Some m) is calm =
      split P (ltb (length f.payload) 3) _ _ (λ short. rows.refused answers.BadPiece refl refl) (λ long. piece_of_row f.payload m (slice_get m.placed (slice_index f.payload 0)) refl calm is refl)

  -- a cause's line is served
  served_cause : (cause : Cause) → is_served (cause_answer cause) ≡ true
  served_cause (FlashFull t) = refl
  served_cause (RamFull t) = refl
  served_cause (Symbols n) = refl
  served_cause (Relocations n) = refl
  served_cause (Duplicate a i j) = refl
  served_cause (Undefined k r a) = refl
  served_cause (Range k r c) = refl

  -- and names no current release
  current_cause : (cause : Cause) → is_of_current (cause_answer cause) ≡ false
  current_cause (FlashFull t) = refl
  current_cause (RamFull t) = refl
  current_cause (Symbols n) = refl
  current_cause (Relocations n) = refl
  current_cause (Duplicate a i j) = refl
  current_cause (Undefined k r a) = refl
  current_cause (Range k r c) = refl

  -- the rows of LINK, of a whole set
  set_row : (m : StoredRelease) (cause : Option Cause) → s.standing ≡ false → s.incoming ≡ Some m → s.linked ≡ false
      → set_fault s.inbox m ≡ None → link_cause (coming_set s.current s.inbox m) ≡ cause → P (link_set s m.number cause)
  set_row m (Some cause) calm is unlinked whole caused = rows.refused (cause_answer cause) (served_cause cause) (current_cause cause)
  set_row m None calm is unlinked whole caused = rows.linked m calm is unlinked whole caused

  -- of what the slots hold
  held_row : (m : StoredRelease) (fault : Option SetFault) → s.standing ≡ false → s.incoming ≡ Some m → s.linked ≡ false → set_fault s.inbox m ≡ fault → P (link_held s m fault)
  held_row m (Some (Missing k)) calm is unlinked faulty = rows.refused (answers.Missing k) refl refl
  held_row m (Some (BadPackage k n)) calm is unlinked faulty = rows.refused (answers.BadPackage k n) refl refl
  held_row m None calm is unlinked whole = set_row m (link_cause (coming_set s.current s.inbox m)) calm is unlinked whole refl

  -- of LINK
  link_row : (incoming : Option StoredRelease) → s.incoming ≡ incoming → s.standing ≡ false → P (link_incoming s incoming)
  link_row None is calm = rows.refused answers.NoManifest refl refl
  link_row (Some m) is calm = split P s.linked _ _ (λ linked. rows.refused (answers.Linked m.number) refl refl) (λ unlinked. held_row m (set_fault s.inbox m) calm is unlinked refl)

  -- of COMMIT
  commit_row : (incoming : Option StoredRelease) → s.incoming ≡ incoming → s.standing ≡ false → P (commit_incoming s incoming)
  commit_row None is calm = rows.refused answers.NoManifest refl refl
  commit_row (Some m) is calm = split P s.linked _ _ (λ linked. rows.committed m calm is linked) (λ unlinked. rows.refused answers.NotLinked refl refl)

  -- a row that a standing commit refuses
  reboot : (x : Step) → (s.standing ≡ false → P x) → P (unless_standing s x)
  reboot x calm = split P s.standing _ _ (λ stands. rows.refused (answers.Reboot s.current.release.number) refl refl) calm

  -- the step is one of its rows
  pub each_row : P (step s f)
  each_row =
      split P (is_bad_frame f) _ _ (λ bad. rows.refused (answers.BadFrame f.kind) refl refl) (λ good.
      split P (eqb f.kind 1) _ _ (λ k. reboot _ (manifest_row (manifest_fault f.payload) refl)) (λ k.
      split P (eqb f.kind 2) _ _ (λ k. reboot _ (piece_row s.incoming refl)) (λ k.
      split P (eqb f.kind 3) _ _ (λ k. reboot _ (link_row s.incoming refl)) (λ k.
      split P (eqb f.kind 4) _ _ (λ k. split P s.standing _ _ (λ stands. rows.repeated stands) (commit_row s.incoming refl)) (λ k.
      split P (eqb f.kind 5) _ _ (λ k. rows.booted) (λ k.
      split P (eqb f.kind 6) _ _ (λ k. rows.refused (answers.Status s.current.release.number (cond s.standing 0 (incoming_number s.incoming)) (status_number s)) refl refl) (λ k.
      split P (eqb f.kind 7) _ _ (λ k. reboot _ rows.aborted) (λ k.
      rows.refused answers.Ended refl refl))))))))
