-- Bytes of a part of a component, in its package or in program flash.
use Rattle.std.proofs.Common.{◌≡◌, ℕ, ◌+◌, ◌-◌, ◌*◌, ◌/◌, ◌%◌, ◌<◌, ◌≤◌, Bool, true, false, cond, All, List, [], ◌++◌, length, take, drop, get_or, refl, sym, ap, ap₂, subst, ◌∙◌, arith}
use Rattle.std.proofs.Common.{slice_range, length-append, append_assoc}
use Rattle.std.specs.Prelude.{bit_and}
use Rattle.std.specs.List.{concat, flat_map}
use Rattle.std.proofs.lemmas.List.{take-append-le, drop-append-le, drop-drop, length-drop, length-take-le, get_or-take, get_or-drop}
use Rattle.std.proofs.lemmas.List.FromFn.{get_or-map-range_with_len}
use Rattle.std.proofs.lemmas.Slice.{take-put_mid}
use Rattle.std.proofs.Math.Seq.{drop-append-add}
use borrow.Rule.Slice.PartMut.{put_mid}
use Rattle.flash_pages.specs.State.{State, IsState, Prog, page_at, AreBytes}
use Rattle.external_flash.specs.Areas.{bytes_from}
use Rattle.external_flash.proofs.Areas.{concat_at}
use Rattle.component_package.specs.declared.part.Header.{Header}
use Rattle.component_package.specs.declared.part.Reloc.{Reloc}
use Rattle.component_package.specs.packages.Component.{Component, header_bytes, export_bytes, reloc_bytes, spelling}
use Rattle.component_package.specs.packages.Reading.{header_of_component}
use Rattle.component_package.proofs.Lists.{length-list_of}
use Rattle.component_package.proofs.StoredLemmas.{take_further, bytes_joined}
use Rattle.component_store.specs.Sets.{length_of_part, part_of}
use Rattle.mote_laws.proofs.Invariant.{bytes_take, bytes_drop}
use Rattle.kept_definitions.specs.Runs.{bits_kept, part_from}
use Rattle.kept_code.specs.Clear.{cleared_from}
use Rattle.kept_code.proofs.Cleared.{filled}
use Rattle.kept_store.specs.declared.set.StoredSet.{StoredSet}
use Rattle.kept_store.specs.Sets.{IsSet, IsComponentOf, header_at, is_fresh, part_at}
use Rattle.kept_store.specs.Records.{slot_page}
use Rattle.kept_store.proofs.SlotBytes.{inbox_read}
use Rattle.kept_store.proofs.RestLemmas.{slot_low}
use Rattle.kept_store.proofs.RecordLemmas.{range_of}

-- ---- loops that fill a buffer

-- the next bytes of a buffer were read
pub put_more : (d : List ℕ) (from at e : ℕ) (into new : List ℕ) → at ≤ e → e ≤ length into → length new ≡ e - at → take at into ≡ take at (drop from d)
    → new ≡ take (length (take (e - at) (drop at into))) (drop (from + at) d) → take e (put_mid at (e - at) into new) ≡ take e (drop from d)
put_more d from at e into new ahead short wide was read =
    let middle : length (take (e - at) (drop at into)) ≡ e - at = length-take-le (e - at) (drop at into) (omega (arith, length-drop at into)) in
    let here : new ≡ take (e - at) (drop at (drop from d)) = read ∙ ap (λ (n : ℕ). take n (drop (from + at) d)) middle ∙ ap (take (e - at)) (sym (drop-drop at from d)) in
    let next : at + (e - at) ≡ e = omega arith in
    take-put_mid at (e - at) into new e (omega arith) (omega arith)
    ∙ ap₂ (λ (x y : List ℕ). x ++ y) was here ∙ sym (take_further (drop from d) at (e - at)) ∙ ap (λ (k : ℕ). take k (drop from d)) next

-- bytes that lie in one page
in_one : (ps : List (List ℕ)) (j at n : ℕ) → All (λ p. length p ≡ 256) ps → j < length ps → at + n ≤ 256
    → take n (drop at (get_or ps j [])) ≡ take n (drop (256 * j + at) (concat ps))
in_one ps j at n all within short =
    let page : List ℕ = get_or ps j [] in
    let rest : List ℕ = drop (256 * (j + 1)) (concat ps) in
    let len : length page ≡ 256 = all j [] within in
    let there : drop (256 * j + at) (concat ps) ≡ drop at page ++ rest =
    sym (drop-drop at (256 * j) (concat ps)) ∙ ap (λ (l : List ℕ). drop at l) (concat_at 256 ps j all within) ∙ drop-append-le at page rest (omega arith) in
    sym (ap (take n) there ∙ take-append-le n (drop at page) rest (omega (arith, length-drop at page)))

-- so of program flash
pub prog_part : (s : State) → IsState s → (place n : ℕ) → place < 122880 → place % 256 + n ≤ 256
    → take n (drop (place % 256) (page_at s (Prog (place / 256)))) ≡ take n (drop place (concat s.prog))
prog_part s is place n low short =
    let split : 256 * (place / 256) + place % 256 ≡ place = omega arith in
    let there : place / 256 < length s.prog = omega (arith, is.prog, split) in
    in_one s.prog (place / 256) (place % 256) n (λ k d lt. (is.prog_pages k d lt).0) there short ∙ ap (λ (k : ℕ). take n (drop k (concat s.prog))) split

-- ---- in a package

-- bytes of a list that stands behind another and before more
in_middle : (a b d : List ℕ) (from n : ℕ) → from + n ≤ length b → take n (drop (length a + from) (a ++ (b ++ d))) ≡ take n (drop from b)
in_middle a b d from n within =
    ap (take n) (drop-append-add a (b ++ d) from ∙ drop-append-le from b d (omega arith)) ∙ take-append-le n (drop from b) d (omega (arith, length-drop from b))

-- what stands behind code and data
tail_of : Component → List ℕ
tail_of c = flat_map export_bytes c.exports ++ flat_map reloc_bytes c.relocs

part_in_spelling : (c : Component) (in_init : Bool) (rest : List ℕ) (from n : ℕ) → from + n ≤ length (part_of c in_init)
    → take n (drop (32 + cond in_init (length c.code) 0 + from) (spelling c ++ rest)) ≡ take n (drop from (part_of c in_init))
unfolding tail_of
part_in_spelling c false rest from n within =
    let grouped : spelling c ++ rest ≡ header_bytes c ++ (c.code ++ ((c.init ++ tail_of c) ++ rest)) =
    append_assoc (header_bytes c) (c.code ++ (c.init ++ tail_of c)) rest ∙ ap (λ (x : List ℕ). header_bytes c ++ x) (append_assoc c.code (c.init ++ tail_of c) rest) in
    ap (λ (x : List ℕ). take n (drop (32 + 0 + from) x)) grouped ∙ in_middle (header_bytes c) c.code ((c.init ++ tail_of c) ++ rest) from n within
part_in_spelling c true rest from n within =
    let front : List ℕ = header_bytes c ++ c.code in
    let long : length front ≡ 32 + length c.code = length-append (header_bytes c) c.code in
    let grouped : spelling c ++ rest ≡ front ++ (c.init ++ (tail_of c ++ rest)) =
    append_assoc (header_bytes c) (c.code ++ (c.init ++ tail_of c)) rest ∙ ap (λ (x : List ℕ). header_bytes c ++ x) (append_assoc c.code (c.init ++ tail_of c) rest)
    ∙ sym (append_assoc (header_bytes c) c.code ((c.init ++ tail_of c) ++ rest)) ∙ ap (λ (x : List ℕ). front ++ x) (append_assoc c.init (tail_of c) rest) in
    ap (λ (x : List ℕ). take n (drop (32 + length c.code + from) x)) grouped
    ∙ ap (λ (k : ℕ). take n (drop (k + from) (front ++ (c.init ++ (tail_of c ++ rest))))) (sym long) ∙ in_middle front c.init (tail_of c ++ rest) from n within

-- the header says how long a part is
length-part : (c : Component) (in_init : Bool) → length_of_part (header_of_component c) in_init ≡ length (part_of c in_init)
length-part c false = refl
length-part c true = refl

-- where a fresh component has its part
pub fresh_there : (s : State) (sizes : IsState s) (set : StoredSet) (k : ℕ) (c : Component) → IsSet set → k < set.slots.manifest.count → IsComponentOf s set k c → is_fresh set k ≡ true
    → (in_init : Bool) (from n : ℕ) → from + n ≤ length_of_part (header_at set k) in_init → 32 + cond in_init (header_at set k).code 0 + from + n ≤ 9984
    → take n (drop (32 + cond in_init (header_at set k).code 0 + from) (bytes_from (slot_page set k) s)) ≡ slice_range (part_of c in_init) from (from + n)
fresh_there s sizes set k c is lt own fresh in_init from n within room =
    let h : Header = header_at set k in
    let slot : ℕ = get_or set.slots.slots k 0 in
    let start : ℕ = 32 + cond in_init h.code 0 + from in
    let low : slot < 16 = slot_low set.slots k is.manifest lt in
    let b = own.readable.came fresh in
    let long : length_of_part h in_init ≡ length (part_of c in_init) = ap (λ (x : Header). length_of_part x in_init) own.header ∙ length-part c in_init in
    subst (λ (f : Bool). take n (drop start (bytes_from (cond f (786 + 39 * slot) (1410 + 39 * slot)) s)) ≡ slice_range (part_of c in_init) from (from + n)) (sym fresh) (
    inbox_read s sizes slot start n low room
    ∙ ap₂ (λ (x : Header) (l : List ℕ). take n (drop (32 + cond in_init x.code 0 + from) l)) own.header b.is
    ∙ part_in_spelling c in_init b.rest from n (omega (arith, within, long)) ∙ range_of (part_of c in_init) from n
    )

-- ---- in program flash

-- a window of a part that is taken back from an image is that window of the image, cleared
window_cleared : (image part : List ℕ) (base size from n : ℕ) (init : Bool) (rs : List Reloc) → part_from image base size init rs ≡ part → length part ≡ size → from + n ≤ size
    → length (take n (drop (base + from) image)) ≡ n → cleared_from from init rs (take n (drop (base + from) image)) ≡ take n (drop from part)
window_cleared image part base size from n init rs is long within room =
    let window : List ℕ = take n (drop (base + from) image) in
    let whole : List ℕ = slice_range image base (base + size) in
    let f : ℕ → ℕ = λ i. bit_and (get_or window i 0) (bits_kept init rs (from + i)) in
    let g : ℕ → ℕ = λ i. bit_and (get_or whole i 0) (bits_kept init rs i) in
    let wide : length whole ≡ size = sym (length-list_of g (length whole)) ∙ ap length is ∙ long in
    let same : length (take n (drop from part)) ≡ length window = length-take-le n (drop from part) (omega (arith, length-drop from part)) ∙ sym room in
    let each : (k : ℕ) → k < length window → get_or (take n (drop from part)) k 0 ≡ f k =
    λ k lt.
    let below : k < n = omega (arith, lt, room) in
    let end : base + size - base ≡ size = omega arith in
    let one : base + (from + k) ≡ base + from + k = omega arith in
    let byte : get_or whole (from + k) 0 ≡ get_or window k 0 =
    get_or-take (base + size - base) (drop base image) (from + k) 0 (omega arith) ∙ get_or-drop base image (from + k) 0 ∙ ap (λ (i : ℕ). get_or image i 0) one
    ∙ sym (get_or-take n (drop (base + from) image) k 0 below ∙ get_or-drop (base + from) image k 0) in
    get_or-take n (drop from part) k 0 below ∙ get_or-drop from part k 0 ∙ ap (λ (l : List ℕ). get_or l (from + k) 0) (sym is)
    ∙ get_or-map-range_with_len g 0 (length whole) (from + k) (from + k) 0 (omega (arith, wide, below)) (omega arith)
    ∙ ap (λ (x : ℕ). bit_and x (bits_kept init rs (from + k))) byte in
    sym (filled f window (take n (drop from part)) same each)

-- where an installed component has its part
taken_from : (s : State) (set : StoredSet) (k : ℕ) (c : Component) → IsComponentOf s set k c → is_fresh set k ≡ false → (in_init : Bool)
    → part_from (concat s.prog) (part_at set k in_init) (length (part_of c in_init)) in_init c.relocs ≡ part_of c in_init
taken_from s set k c own rests false = own.readable.code rests
taken_from s set k c own rests true = own.readable.init rests

pub installed_there : (s : State) (sizes : IsState s) (set : StoredSet) (k : ℕ) (c : Component) → IsComponentOf s set k c → is_fresh set k ≡ false
    → (in_init : Bool) (from n : ℕ) (read bytes : List ℕ) → from + n ≤ length_of_part (header_at set k) in_init
    → read ≡ take n (drop (part_at set k in_init + from) (concat s.prog)) → length read ≡ n → (AreBytes read → bytes ≡ cleared_from from in_init c.relocs read)
    → bytes ≡ slice_range (part_of c in_init) from (from + n)
installed_there s sizes set k c own rests in_init from n read bytes within is room clears =
    let image : List ℕ = concat s.prog in
    let base : ℕ = part_at set k in_init in
    let part : List ℕ = part_of c in_init in
    let long : length_of_part (header_at set k) in_init ≡ length part = ap (λ (x : Header). length_of_part x in_init) own.header ∙ length-part c in_init in
    let flash : AreBytes image = bytes_joined s.prog (λ i d lt. (sizes.prog_pages i d lt).1) in
    let are : AreBytes read = subst AreBytes (sym is) (bytes_take n (drop (base + from) image) (bytes_drop (base + from) image flash)) in
    clears are ∙ ap (cleared_from from in_init c.relocs) is
    ∙ window_cleared image part base (length part) from n in_init c.relocs (taken_from s set k c own rests in_init) refl (omega (arith, within, long)) (ap length (sym is) ∙ room)
    ∙ range_of part from n
