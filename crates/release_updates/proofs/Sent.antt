-- Frames on the line, one behind another: pieces page by page and component by component.
use Rattle.std.proofs.Common.{◌≡◌, ℕ, zero, suc, ◌+◌, ◌-◌, ◌*◌, ◌/◌, ◌<◌, ◌≤◌, min, Bool, true, false, cond, eqb, List, [], ◌∷◌, ◌++◌, length, take, drop, map, get_or, refl, sym, ap, ap₂, ◌∙◌, arith, length-append, append_assoc}
use Rattle.std.specs.Prelude.{◌==◌, ◌&&◌, ◌||◌}
use Rattle.std.specs.List.{list_any}
use Rattle.std.proofs.lemmas.Bool.{cond-true, cond-false, ne_eqb}
use Rattle.std.proofs.lemmas.List.{append-nil, length-take, length-drop, drop_min, take_min}
use Rattle.component_package.specs.mote.Frames.{Frame, frame_bytes, stream_of}
use Rattle.release_rows.specs.declared.part.Numbered.{Numbered}
use Rattle.component_package.specs.declared.frames.TheConstants.{LINK, COMMIT, END}
use Rattle.component_package.specs.packages.Manifest.{Release}
use Rattle.update_laws.specs.Update.{Delivered, bare_frame, manifest_frame, release_of_packages, update_frames, piece_frame, pages_of, pieces_of, pieces_from, has_version}
use Rattle.release_updates.specs.Updates.{with_packages, parts_alone}

-- ---- frames

pub stream_append : (fs gs : List Frame) → stream_of (fs ++ gs) ≡ stream_of fs ++ stream_of gs
stream_append [] gs = refl
stream_append (f ∷ fs) gs = ap (λ (x : List ℕ). frame_bytes f ++ x) (stream_append fs gs) ∙ sym (append_assoc (frame_bytes f) (stream_of fs) (stream_of gs))

-- one more
pub stream_push : (fs : List Frame) (f : Frame) → stream_of (fs ++ f ∷ []) ≡ stream_of fs ++ frame_bytes f
stream_push fs f = stream_append fs (f ∷ []) ∙ ap (λ (x : List ℕ). stream_of fs ++ x) (append-nil (frame_bytes f))

-- ---- the pieces of one package

drop_none : (n : ℕ) → drop {A = ℕ} n [] ≡ []
drop_none zero = refl
drop_none (suc n) = refl

drop_drop : (a b : ℕ) (l : List ℕ) → drop b (drop a l) ≡ drop (a + b) l
drop_drop zero b l = let none : 0 + b ≡ b = omega arith in rw none refl
drop_drop (suc a) b [] = drop_none b ∙ sym (drop_none (suc a + b))
drop_drop (suc a) b (x ∷ l) = let one : suc a + b ≡ suc (a + b) = omega arith in rw one (drop_drop a b l)

-- the bytes of a page
abbrev pub page_bytes : ℕ → List ℕ → List ℕ
page_bytes n b = take 256 (drop (256 * n) b)

pub pieces_more : (k page n : ℕ) (b : List ℕ) → pieces_of k page (suc n) b ≡ pieces_of k page n b ++ piece_frame k (page + n) (page_bytes n b) ∷ []
pieces_more k page zero b =
    let same : page ≡ page + 0 = omega arith in
    ap (λ (p : ℕ). piece_frame k p (take 256 b) ∷ []) same
pieces_more k page (suc n) b =
    let first : Frame = piece_frame k page (take 256 b) in
    let rest : List Frame = pieces_of k (page + 1) n (drop 256 b) in
    let later : page + 1 + n ≡ page + suc n = omega arith in
    let behind : 256 + 256 * n ≡ 256 * suc n = omega arith in
    ap (λ (fs : List Frame). first ∷ fs) (pieces_more k (page + 1) n (drop 256 b)
    ∙ ap₂ (λ (p : ℕ) (c : List ℕ). rest ++ piece_frame k p (take 256 c) ∷ []) later (drop_drop 256 (256 * n) b ∙ ap (λ (m : ℕ). drop m b) behind))

-- one page more behind what was sent
pub page_sent : (old out more : List ℕ) (k n : ℕ) (b : List ℕ) → out ≡ old ++ stream_of (pieces_of k 0 n b) → more ≡ out ++ frame_bytes (piece_frame k n (page_bytes n b))
    → more ≡ old ++ stream_of (pieces_of k 0 (n + 1) b)
page_sent old out more k n b before is =
    let fs : List Frame = pieces_of k 0 n b in
    let f : Frame = piece_frame k n (page_bytes n b) in
    let next : n + 1 ≡ suc n = omega arith in
    let whole : stream_of (pieces_of k 0 (n + 1) b) ≡ stream_of fs ++ frame_bytes f =
    ap (λ (m : ℕ). stream_of (pieces_of k 0 m b)) next ∙ ap stream_of (pieces_more k 0 n b) ∙ stream_push fs (piece_frame k (0 + n) (page_bytes n b))
    ∙ ap (λ (m : ℕ). stream_of fs ++ frame_bytes (piece_frame k m (page_bytes n b))) (let none : 0 + n ≡ n = omega arith in none) in
    is ∙ ap (λ (x : List ℕ). x ++ frame_bytes f) before ∙ append_assoc old (stream_of fs) (frame_bytes f) ∙ ap (λ (x : List ℕ). old ++ x) (sym whole)

-- a page between two places that are at most the end
pub page_between : (b : List ℕ) (page start end : ℕ) → start ≡ min (length b) (256 * page) → end ≡ min (length b) (256 * page + 256) → take (end - start) (drop start b) ≡ page_bytes page b
page_between b page start end from to =
    let first : start ≡ min (256 * page) (length b) = omega (arith, from) in
    let rest : List ℕ = drop (256 * page) b in
    let count : end - start ≡ min 256 (length rest) = omega (arith, from, to, length-drop (256 * page) b) in
    ap₂ (λ (n m : ℕ). take n (drop m b)) count first ∙ ap (take (min 256 (length rest))) (drop_min (256 * page) b) ∙ take_min 256 rest

-- how many bytes they have on the line, where they are all
pub pieces_wide : (k page n : ℕ) (b : List ℕ) → length b ≤ 256 * n → length (stream_of (pieces_of k page n b)) ≡ length b + 5 * n
pieces_wide k page zero b all = omega (arith, all)
pieces_wide k page (suc n) b all =
    let f : Frame = piece_frame k page (take 256 b) in
    let rest : List Frame = pieces_of k (page + 1) n (drop 256 b) in
    let cut = length-drop 256 b in
    let front = length-take 256 b in
    omega (arith, all, cut, front, length-append (frame_bytes f) (stream_of rest), pieces_wide k (page + 1) n (drop 256 b) (omega (arith, all, cut)))

-- ---- the pieces of all

-- one part with its package
abbrev pub delivered_at : Numbered → List ℕ → Delivered
delivered_at p b = record { component = p.component; version = p.version; bytes = b }

-- one component more
pub from_more : (olds : List Delivered) (k : ℕ) (ds : List Delivered) (d : Delivered) → pieces_from olds k (ds ++ d ∷ []) ≡ pieces_from olds k ds ++ pieces_from olds (k + length ds) (d ∷ [])
from_more olds k [] d = let same : k ≡ k + 0 = omega arith in ap (λ (j : ℕ). pieces_from olds j (d ∷ [])) same
from_more olds k (e ∷ ds) d =
    let later : k + 1 + length ds ≡ k + length (e ∷ ds) = omega arith in
    let own : List Frame = cond (has_version olds e) [] (pieces_of k 0 (pages_of e.bytes) e.bytes) in
    ap (λ (x : List Frame). own ++ x) (from_more olds (k + 1) ds d ∙ ap (λ (j : ℕ). pieces_from olds (k + 1) ds ++ pieces_from olds j (d ∷ [])) later)
    ∙ sym (append_assoc own (pieces_from olds (k + 1) ds) (pieces_from olds (k + length (e ∷ ds)) (d ∷ [])))

-- a component that is held, and one that isn't
pub held_none : (olds : List Delivered) (k : ℕ) (d : Delivered) → has_version olds d ≡ true → pieces_from olds k (d ∷ []) ≡ []
held_none olds k d held = append-nil _ ∙ cond-true (has_version olds d) _ _ held

pub new_all : (olds : List Delivered) (k : ℕ) (d : Delivered) → has_version olds d ≡ false → pieces_from olds k (d ∷ []) ≡ pieces_of k 0 (pages_of d.bytes) d.bytes
new_all olds k d new = append-nil _ ∙ cond-false (has_version olds d) _ _ new

-- ---- which are held

-- only components and versions count
pub held_alone : (ps : List Numbered) (d : Delivered) → list_any (λ o. o.component == d.component && o.version == d.version) ps ≡ has_version (parts_alone ps) d
held_alone [] d = refl
held_alone (p ∷ ps) d = ap (λ (x : Bool). (p.component == d.component && p.version == d.version) || x) (held_alone ps d)

pub held_with : (ps : List Numbered) (bs : List (List ℕ)) (d : Delivered) → length ps ≡ length bs → has_version (parts_alone ps) d ≡ has_version (with_packages ps bs) d
held_with [] bs d same = refl
held_with (p ∷ ps) [] d same = absurd (omega (arith, same))
held_with (p ∷ ps) (b ∷ bs) d same = ap (λ (x : Bool). (p.component == d.component && p.version == d.version) || x) (held_with ps bs d (omega (arith, same)))

-- so the pieces are those over the older release's packages
pub from_with : (ps : List Numbered) (bs : List (List ℕ)) (k : ℕ) (ds : List Delivered) → length ps ≡ length bs → pieces_from (parts_alone ps) k ds ≡ pieces_from (with_packages ps bs) k ds
from_with ps bs k [] same = refl
from_with ps bs k (d ∷ ds) same =
    ap₂ (λ (held : Bool) (rest : List Frame). cond held [] (pieces_of k 0 (pages_of d.bytes) d.bytes) ++ rest) (held_with ps bs d same) (from_with ps bs (k + 1) ds same)

-- ---- the whole update

-- MANIFEST, the pieces, and LINK, COMMIT and END
pub update_sent : (have last : ℕ) (olds news : List Delivered) → (have ≡ last → ⊥)
    → stream_of (update_frames have olds last news)
    ≡ frame_bytes (manifest_frame (release_of_packages last news)) ++ (stream_of (pieces_from olds 0 news) ++ stream_of (bare_frame LINK ∷ bare_frame COMMIT ∷ bare_frame END ∷ []))
update_sent have last olds news other =
    let first : Frame = manifest_frame (release_of_packages last news) in
    let ends : List Frame = bare_frame LINK ∷ bare_frame COMMIT ∷ bare_frame END ∷ [] in
    ap stream_of (cond-false (eqb have last) (bare_frame END ∷ []) (first ∷ (pieces_from olds 0 news ++ ends)) (ne_eqb have last other))
    ∙ ap (λ (x : List ℕ). frame_bytes first ++ x) (stream_append (pieces_from olds 0 news) ends)

-- what was sent in these three steps
pub sent_is : (have last : ℕ) (olds news : List Delivered) (release : Release) (one two three : List ℕ) → (have ≡ last → ⊥) → release ≡ release_of_packages last news
    → one ≡ frame_bytes (manifest_frame release) → two ≡ one ++ stream_of (pieces_from olds 0 news) → three ≡ two ++ stream_of (bare_frame LINK ∷ bare_frame COMMIT ∷ bare_frame END ∷ [])
    → three ≡ stream_of (update_frames have olds last news)
sent_is have last olds news release one two three other is first second third =
    let ends : List ℕ = stream_of (bare_frame LINK ∷ bare_frame COMMIT ∷ bare_frame END ∷ []) in
    let pieces : List ℕ = stream_of (pieces_from olds 0 news) in
    let head : one ≡ frame_bytes (manifest_frame (release_of_packages last news)) = first ∙ ap (λ (r : Release). frame_bytes (manifest_frame r)) is in
    third ∙ ap (λ (x : List ℕ). x ++ ends) (second ∙ ap (λ (x : List ℕ). x ++ pieces) head)
    ∙ append_assoc (frame_bytes (manifest_frame (release_of_packages last news))) pieces ends ∙ sym (update_sent have last olds news other)
