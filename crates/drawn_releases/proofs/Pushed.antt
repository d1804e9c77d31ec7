-- The frames of an update, one pushed behind the other.
use Rattle.std.proofs.Common.{◌≡◌, refl, sym, ap, ◌∙◌, ℕ, suc, ◌+◌, ◌-◌, ◌*◌, ◌<◌, ◌≤◌, arith, List, [], ◌∷◌, ◌++◌, length, take, drop, map, append_assoc, length-drop}
use Rattle.std.specs.Prelude.{min, slice_range, if◌then◌else◌}
use Rattle.std.specs.List.{flat_map}
use Rattle.std.proofs.lemmas.List.{append-nil, take_min, drop-drop}
use Rattle.component_package.specs.mote.Frames.{Frame, frame_bytes, stream_of}
use Rattle.std.proofs.lemmas.List.Folds.{flat_map-map}
use Rattle.sha2.proofs.Facts256.{length-sha256}
use Rattle.component_package.specs.packages.Manifest.{manifest_bytes, manifest_entry_bytes}
use Rattle.component_package.proofs.Lists.{length-entries}
use Rattle.update_laws.specs.Update.{Delivered, entry_of, release_of_packages, has_version, pages_of, piece_frame, pieces_of, pieces_from}

pub stream_append : (fs gs : List Frame) → stream_of (fs ++ gs) ≡ stream_of fs ++ stream_of gs
stream_append [] gs = refl
stream_append (f ∷ fs) gs = ap (λ bytes. frame_bytes f ++ bytes) (stream_append fs gs) ∙ sym (append_assoc (frame_bytes f) (stream_of fs) (stream_of gs))

-- a manifest fits a frame
entry_long : (d : Delivered) → length (manifest_entry_bytes (entry_of d)) ≡ 38
entry_long d = omega (arith, length-sha256 d.bytes)

pub manifest_short : (number : ℕ) (ds : List Delivered) → length ds ≤ 16 → length (manifest_bytes (release_of_packages number ds)) ≤ 1024
manifest_short number ds few =
    let entries : length (flat_map manifest_entry_bytes (map entry_of ds)) ≡ 38 * length ds =
    ap length (flat_map-map manifest_entry_bytes entry_of ds) ∙ length-entries (λ d. manifest_entry_bytes (entry_of d)) 38 entry_long ds in
    omega (arith, entries, few)

-- one page more of a package
pub pieces_on : (k page at : ℕ) (b done new all : List ℕ) → at < length b
    → new ≡ done ++ frame_bytes (piece_frame k page (slice_range b at (min (at + 256) (length b))))
    → done ++ stream_of (pieces_of k page (pages_of (drop at b)) (drop at b)) ≡ all
    → new ++ stream_of (pieces_of k (page + 1) (pages_of (drop (at + 256) b)) (drop (at + 256) b)) ≡ all
pieces_on k page at b done new all within pushed was =
    let rest = drop at b in
    let behind = drop (at + 256) b in
    let count : pages_of rest ≡ suc (pages_of behind) = omega (arith, length-drop at b, length-drop (at + 256) b, within) in
    let next : drop 256 rest ≡ behind = drop-drop 256 at b in
    let size : min (at + 256) (length b) - at ≡ min 256 (length rest) = omega (arith, length-drop at b, within) in
    let piece : slice_range b at (min (at + 256) (length b)) ≡ take 256 rest = ap (λ (n : ℕ). take n rest) size ∙ take_min 256 rest in
    let first = frame_bytes (piece_frame k page (take 256 rest)) in
    let tail = stream_of (pieces_of k (page + 1) (pages_of behind) behind) in
    ap (λ (bytes : List ℕ). bytes ++ tail) (pushed ∙ ap (λ (bytes : List ℕ). done ++ frame_bytes (piece_frame k page bytes)) piece)
    ∙ append_assoc done first tail
    ∙ ap (λ (r : List ℕ). done ++ (first ++ stream_of (pieces_of k (page + 1) (pages_of behind) r))) (sym next)
    ∙ ap (λ (n : ℕ). done ++ stream_of (pieces_of k page n rest)) (sym count) ∙ was

-- the pieces of one component more
pub news_on : (olds : List Delivered) (k : ℕ) (d : Delivered) (ds all_ds : List Delivered) (done new all : List ℕ) → all_ds ≡ d ∷ ds
    → new ≡ done ++ stream_of (if has_version olds d then [] else pieces_of k 0 (pages_of d.bytes) d.bytes)
    → done ++ stream_of (pieces_from olds k all_ds) ≡ all
    → new ++ stream_of (pieces_from olds (k + 1) ds) ≡ all
news_on olds k d ds all_ds done new all are pushed was =
    let here = if has_version olds d then [] else pieces_of k 0 (pages_of d.bytes) d.bytes in
    ap (λ (bytes : List ℕ). bytes ++ stream_of (pieces_from olds (k + 1) ds)) pushed
    ∙ append_assoc done (stream_of here) (stream_of (pieces_from olds (k + 1) ds))
    ∙ ap (λ (bytes : List ℕ). done ++ bytes) (sym (stream_append here (pieces_from olds (k + 1) ds)))
    ∙ ap (λ (x : List Delivered). done ++ stream_of (pieces_from olds k x)) (sym are) ∙ was

-- all frames, from what was pushed in turn
pub all_pushed : (m l c e : Frame) (ps : List Frame) (after_m after_ps after_l after_c bytes : List ℕ)
    → after_m ≡ frame_bytes m → after_ps ≡ after_m ++ stream_of ps → after_l ≡ after_ps ++ frame_bytes l → after_c ≡ after_l ++ frame_bytes c
    → bytes ≡ after_c ++ frame_bytes e → bytes ≡ stream_of (m ∷ (ps ++ l ∷ c ∷ e ∷ []))
all_pushed m l c e ps after_m after_ps after_l after_c bytes is_m is_ps is_l is_c is_e =
    is_e ∙ ap (λ (x : List ℕ). x ++ frame_bytes e) (is_c ∙ ap (λ (x : List ℕ). x ++ frame_bytes c) (is_l ∙ ap (λ (x : List ℕ). x ++ frame_bytes l) (is_ps ∙ ap (λ (x : List ℕ). x ++ stream_of ps) is_m)))
    ∙ append_assoc ((frame_bytes m ++ stream_of ps) ++ frame_bytes l) (frame_bytes c) (frame_bytes e)
    ∙ append_assoc (frame_bytes m ++ stream_of ps) (frame_bytes l) (frame_bytes c ++ frame_bytes e)
    ∙ append_assoc (frame_bytes m) (stream_of ps) (frame_bytes l ++ (frame_bytes c ++ frame_bytes e))
    ∙ ap (λ (x : List ℕ). frame_bytes m ++ (stream_of ps ++ (frame_bytes l ++ (frame_bytes c ++ x)))) (sym (append-nil (frame_bytes e)))
    ∙ ap (λ (x : List ℕ). frame_bytes m ++ x) (sym (stream_append ps (l ∷ c ∷ e ∷ [])))
