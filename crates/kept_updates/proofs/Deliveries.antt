-- Packages that are delivered: their release is one, and the update's frames are frames.
use Rattle.std.proofs.Common.{◌≡◌, ℕ, zero, suc, ◌+◌, ◌*◌, ◌/◌, ◌%◌, ◌<◌, ◌≤◌, Bool, true, false, cond, eqb}
use Rattle.std.proofs.Common.{List, [], ◌∷◌, ◌++◌, length, take, drop, map, refl, sym, ap, ◌∙◌, subst, arith, length-append}
use Rattle.std.specs.Prelude.{slice_index}
use Rattle.std.specs.List.{AllByRecursion}
use Rattle.std.specs.Int.{to_be_bytes, w32}
use Rattle.std.proofs.lemmas.Bool.{cond-true, cond-false, eq-eqb, ne_eqb, both_ways, false≢true}
use Rattle.std.proofs.lemmas.List.{length-map, length-take, append-nil}
use Rattle.std.proofs.lemmas.Simd.{map-map}
use Rattle.sha2.specs.Sha256.{sha256, digest_bytes}
use Rattle.sha2.proofs.Facts256.{length-sha256}
use Rattle.avr_reloc.specs.Field.{AreBytes}
use Rattle.component_package.specs.declared.frames.TheConstants.{LINK, COMMIT, END}
use Rattle.component_package.specs.declared.manifest.Entry.{Entry}
use Rattle.component_package.specs.packages.Component.{spelling}
use Rattle.component_package.specs.packages.Reading.{component_of}
use Rattle.component_package.specs.packages.Manifest.{Release, IsManifestEntry, IsRelease, AreDistinct, manifest_entry_bytes}
use Rattle.component_package.specs.mote.Frames.{Frame, IsFrame, Frames, OnlyLastEnds, is_end, stream_of}
use Rattle.kept_updates.specs.Update.{Delivered, entry_of, release_of_packages, bare_frame, manifest_frame, pages_of, pieces_of, pieces_from}
use Rattle.kept_updates.specs.Update.{has_version, update_frames, IsDelivered, AreOneVersion, IsUpdate}
use Rattle.kept_updates.specs.Laws.{AreLine, UpdatesAreFrames, OneTableAgrees}
use Rattle.component_package.proofs.ManifestLemmas.{length-among, entry_wide}
use Rattle.component_package.proofs.ReadAgain.{length-spelling}
use Rattle.kept_updates.proofs.SpelledBytes.{Bytes, none, more, both, two, all_written, bytes_append, spelled_bytes}

-- ---- digests are bytes

word_bytes : (n : ℕ) → AreBytes (to_be_bytes w32 n)
word_bytes n zero = omega arith
word_bytes n (suc zero) = omega arith
word_bytes n (suc (suc zero)) = omega arith
word_bytes n (suc (suc (suc zero))) = omega arith
word_bytes n (suc (suc (suc (suc i)))) = omega arith

words_bytes : (h : List ℕ) (n : ℕ) → AreBytes (digest_bytes h n)
unfolding digest_bytes
words_bytes h zero = λ i. omega arith
words_bytes h (suc n) = bytes_append (digest_bytes h n) (to_be_bytes w32 (slice_index h n)) (words_bytes h n) (word_bytes (slice_index h n))

sha256_bytes : (m : List ℕ) → AreBytes (sha256 m)
unfolding sha256
sha256_bytes m = words_bytes _ 8

-- ---- versions

-- where one table has the package of each component and version, two lists of its packages agree
one_agrees : (table : ℕ → ℕ → List ℕ) (d : Delivered) (os : List Delivered) → d.bytes ≡ table d.component d.version
    → AllByRecursion (λ o. o.bytes ≡ table o.component o.version) os → AllByRecursion (AreOneVersion d) os
one_agrees table d [] own all = tt
one_agrees table d (o ∷ os) own all = ((λ component version. all.0 ∙ (λ i. table (component i) (version i)) ∙ sym own), one_agrees table d os own all.1)

pub one_table_agrees : OneTableAgrees
one_table_agrees table olds [] older newer = tt
one_table_agrees table olds (d ∷ ds) older newer = (one_agrees table d olds newer.0 older, one_table_agrees table olds ds older newer.1)

-- ---- the release is one

-- how long a package is
delivered_size : (d : Delivered) → IsDelivered d → (32 ≤ length d.bytes) × (length d.bytes ≤ 9984)
delivered_size d is =
    let width : length d.bytes ≡ length (spelling (component_of d.bytes)) = ap (λ (b : List ℕ). length b) is.spelled.bytes in
    (omega (arith, width, length-spelling (component_of d.bytes)), omega (arith, width, is.spelled.component.short))

-- an entry of a package is one
good_entry : (d : Delivered) → IsDelivered d → IsManifestEntry (entry_of d)
good_entry d is = record {
  component = subst (λ (n : ℕ). n < 65536) is.component is.spelled.component.component;
  version = subst (λ (n : ℕ). n < 65536) is.version is.spelled.component.version;
  least = (delivered_size d is).0;
  most = (delivered_size d is).1;
  digest = length-sha256 d.bytes;
  bytes = sha256_bytes d.bytes;
}

-- and so are those of all
pub good_entries : (ds : List Delivered) → AllByRecursion IsDelivered ds → AllByRecursion IsManifestEntry (map entry_of ds)
good_entries [] all = tt
good_entries (d ∷ ds) all = (good_entry d all.0, good_entries ds all.1)

pub good_release : (have number : ℕ) (olds news : List Delivered) → IsUpdate have olds number news → IsRelease (release_of_packages number news)
good_release have number olds news up = record {
  number = up.small;
  some = omega (arith, up.some, length-map news entry_of);
  few = omega (arith, up.few, length-map news entry_of);
  entries = good_entries news up.delivered;
  distinct = subst AreDistinct (sym (map-map (λ (e : Entry). e.component) entry_of news)) up.distinct;
}

-- ---- frames

-- a frame that isn't END
record Good (f : Frame) : Type 0 where
  frame : IsFrame f
  going : is_end f ≡ false

-- an entry on the line
entry_bytes : (e : Entry) → IsManifestEntry e → Bytes (manifest_entry_bytes e)
entry_bytes e is = two e.component is.component (two e.version is.version (two e.length (omega (arith, is.most)) (record { are = is.bytes })))

-- a manifest
manifest_good : (r : Release) → IsRelease r → Good (manifest_frame r)
manifest_good r is = record {
  frame = record {
    kind = omega arith;
    short = omega (arith, is.few, length-among IsManifestEntry manifest_entry_bytes 38 entry_wide r.entries is.entries);
    bytes = (more (r.number % 256) (omega arith) (more (r.number / 256 % 256) (omega arith) (more (r.number / 65536 % 256) (omega arith) (more (r.number / 16777216) (omega (arith, is.number))
        (more (length r.entries) (omega (arith, is.few)) (all_written IsManifestEntry manifest_entry_bytes entry_bytes r.entries is.entries)))))).are;
  };
  going = refl;
}

-- the first bytes, and the others
bytes_front : (n : ℕ) (b : List ℕ) → Bytes b → Bytes (take n b)
bytes_front zero b are = none
bytes_front (suc n) [] are = none
bytes_front (suc n) (x ∷ b) are = more x (are.are 0) (bytes_front n b (record { are = λ i. are.are (suc i) }))

bytes_behind : (n : ℕ) (b : List ℕ) → Bytes b → Bytes (drop n b)
bytes_behind zero b are = are
bytes_behind (suc n) [] are = none
bytes_behind (suc n) (x ∷ b) are = bytes_behind n b (record { are = λ i. are.are (suc i) })

-- the pieces of one package
pieces_good : (k page n : ℕ) (b : List ℕ) → k < 256 → page + n ≤ 256 → Bytes b → AllByRecursion Good (pieces_of k page n b)
pieces_good k page zero b small low are = tt
pieces_good k page (suc n) b small low are = (
  record {
    frame = record { kind = omega arith; short = omega (arith, length-take 256 b); bytes = (more k small (more page (omega arith) (bytes_front 256 b are))).are };
    going = refl;
  },
  pieces_good k (page + 1) n (drop 256 b) small (omega arith) (bytes_behind 256 b are),
)

pieces_count : (k page n : ℕ) (b : List ℕ) → length (pieces_of k page n b) ≡ n
pieces_count k page zero b = refl
pieces_count k page (suc n) b = ap suc (pieces_count k (page + 1) n (drop 256 b))

-- all of two lists
all_both : {X : Type 0} (P : X → Type 0) (xs ys : List X) → AllByRecursion P xs → AllByRecursion P ys → AllByRecursion P (xs ++ ys)
all_both P [] ys all others = others
all_both P (x ∷ xs) ys all others = (all.0, all_both P xs ys all.1 others)

-- a choice of frames that may be none
choice_good : (held : Bool) (fs : List Frame) → AllByRecursion Good fs → AllByRecursion Good (cond held [] fs)
choice_good true fs all = tt
choice_good false fs all = all

choice_count : (held : Bool) (fs : List Frame) → length (cond held [] fs) ≤ length fs
choice_count true fs = omega arith
choice_count false fs = omega arith

-- the pieces of all
from_good : (olds : List Delivered) (k : ℕ) (ds : List Delivered) → k + length ds ≤ 16 → AllByRecursion IsDelivered ds → AllByRecursion Good (pieces_from olds k ds)
from_good olds k [] few delivered = tt
from_good olds k (d ∷ ds) few delivered =
    let size = delivered_size d delivered.0 in
    let own = pieces_good k 0 (pages_of d.bytes) d.bytes (omega arith) (omega (arith, size.1)) (record { are = spelled_bytes d.bytes _ delivered.0.spelled }) in
    all_both Good _ _ (choice_good (has_version olds d) _ own) (from_good olds (k + 1) ds (omega arith) delivered.1)

from_count : (olds : List Delivered) (k : ℕ) (ds : List Delivered) → AllByRecursion IsDelivered ds → length (pieces_from olds k ds) ≤ 39 * length ds
from_count olds k [] delivered = omega arith
from_count olds k (d ∷ ds) delivered =
    let own : List Frame = pieces_of k 0 (pages_of d.bytes) d.bytes in
    let rest : List Frame = pieces_from olds (k + 1) ds in
    let first = (delivered_size d delivered.0).1 in
    let others = from_count olds (k + 1) ds delivered.1 in
    omega (arith, first, pieces_count k 0 (pages_of d.bytes) d.bytes, choice_count (has_version olds d) own, others, length-append (cond (has_version olds d) [] own) rest)

-- ---- END comes last

-- frames of which none is END, and then others
only_last : (fs gs : List Frame) → AllByRecursion Good fs → OnlyLastEnds gs → OnlyLastEnds (fs ++ gs)
only_last [] gs all ends = ends
only_last (f ∷ fs) gs all ends = (all.0.frame, (λ t. absurd (both_ways (is_end f) all.0.going t)), only_last fs gs all.1 ends)

-- a frame with nothing in it
bare_is : (kind : ℕ) → kind < 256 → IsFrame (bare_frame kind)
bare_is kind small = record { kind = small; short = omega arith; bytes = none.are }

-- on the line
stream_bytes : (fs : List Frame) → OnlyLastEnds fs → Bytes (stream_of fs)
stream_bytes [] ends = none
stream_bytes (f ∷ fs) ends =
    let short : length f.payload ≤ 1024 = ends.0.short in
    let payload : Bytes f.payload = record { are = ends.0.bytes } in
    both (more f.kind ends.0.kind (more (length f.payload % 256) (omega arith) (more (length f.payload / 256) (omega arith) payload))) (stream_bytes fs ends.2)

module _ (have number : ℕ) (olds news : List Delivered) (up : IsUpdate have olds number news) where
  abbrev front : List Frame
  front = manifest_frame (release_of_packages number news) ∷ pieces_from olds 0 news

  abbrev last : List Frame
  last = bare_frame LINK ∷ bare_frame COMMIT ∷ bare_frame END ∷ []

  pub frames_are : update_frames have olds number news ≡ front ++ last
  frames_are = cond-false (eqb have number) _ _ (ne_eqb have number (λ same. let later : have < number = up.later in omega arith))

  front_good : AllByRecursion Good front
  front_good = (manifest_good (release_of_packages number news) (good_release have number olds news up), from_good olds 0 news (omega (arith, up.few)) up.delivered)

  ends : OnlyLastEnds (front ++ last)
  ends = only_last front last front_good
      (bare_is LINK (omega arith), (λ t. absurd (false≢true t)), (bare_is COMMIT (omega arith), (λ t. absurd (false≢true t)), (bare_is END (omega arith), (λ t. refl), tt)))

  frames : Frames (stream_of (front ++ last)) (front ++ last) []
  frames = record { whole = sym (append-nil (stream_of (front ++ last))); each = ends; rest_partial = tt; rest_after_end = λ t. refl }

  bytes : Bytes (stream_of (front ++ last))
  bytes = stream_bytes (front ++ last) ends

  count : length (front ++ last) ≤ 628
  count = omega (arith, up.few, from_count olds 0 news up.delivered, length-append (pieces_from olds 0 news) last)

pub updates_are_frames : UpdatesAreFrames
updates_are_frames = record {
  line = λ have number olds news up. subst AreLine (sym (frames_are have number olds news up))
      (record { frames = frames have number olds news up; bytes = (bytes have number olds news up).are; count = count have number olds news up });
  none = λ number olds news. cond-true (eqb number number) _ _ (eq-eqb number number refl);
}
