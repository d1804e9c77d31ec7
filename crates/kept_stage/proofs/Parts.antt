-- Parts that are copied into a page.
use Rattle.std.proofs.Common.{◌≡◌, ℕ, zero, suc, ◌+◌, ◌-◌, ◌<◌, ◌≤◌, inl, inr, List, [], ◌∷◌, ◌++◌, length, get_or, take, drop, replicate, min, max, refl, sym, ap, ap₂, subst, ◌∙◌, arith, slice_range, length-append, length-drop}
use Rattle.std.specs.Prelude.{nat_le, slice_get, Some}
use borrow.Rule.Slice.PartMut.{put_mid, mid_of}
use Rattle.std.proofs.lemmas.Bool.{cases_lt, le-leb, lt-ltb, le-ltb, lt-leb}
use Rattle.std.proofs.Math.Bool.{and-false}
use Rattle.std.specs.List.{flat_map, sum_by}
use Rattle.std.proofs.lemmas.Option.{slice_get_within, get_or_from_slice_get}
use Rattle.std.proofs.lemmas.List.Concat.{flat_map-cons}
use Rattle.std.proofs.lemmas.List.Sums.{sum_by-cons}
use Rattle.component_package.specs.link.Layout.{Room, room_of}
use Rattle.component_package.specs.link.Link.{rooms_of}
use Rattle.std.proofs.lemmas.Grind.{flat_map-append}
use Rattle.component_package.specs.packages.Component.{Component}
use Rattle.std.proofs.lemmas.List.{append-nil, take_more, take-append-drop, get_or-replicate, length-take, get_or-take, get_or-drop, get_or_past, get_or_default, take_all, length-map}
use Rattle.std.proofs.Math.ListN.{get_or-append}
use Rattle.std.proofs.Math.Seq.{get_or-append_right}
use Rattle.avr_reloc.proofs.Fixups.{get_or-slice, length-field}
use Rattle.component_package.specs.link.Pages.{padded}
use Rattle.kept_stage.specs.Windows.{copied_in, Shows}
use Rattle.kept_stage.proofs.Window.{padded_in, padded_past}

copied_here : (part : List ℕ) (place at old : ℕ) → place ≤ at → at < place + length part → copied_in part place at old ≡ get_or part (at - place) 0
copied_here part place at old le lt = rw (le-leb place at le, lt-ltb at (place + length part) lt) refl

copied_before : (part : List ℕ) (place at old : ℕ) → at < place → copied_in part place at old ≡ old
copied_before part place at old lt = rw (lt-leb place at lt) refl

copied_behind : (part : List ℕ) (place at old : ℕ) → place + length part ≤ at → copied_in part place at old ≡ old
copied_behind part place at old le = rw (le-ltb at (place + length part) le, and-false (nat_le place at)) refl

-- the middle of a page that is a piece of a part
pub copied : (part into piece : List ℕ) (place base low high m : ℕ) → m ≡ high - base - (low - base) → length into ≡ 256 → low ≡ max place base
    → high ≡ min (place + length part) (base + 256) → low < high
    → piece ≡ slice_range part (low - place) (low - place + m) → (k : ℕ) → k < 256
    → get_or (put_mid (low - base) (high - base - (low - base)) into piece) k 0 ≡ copied_in part place (base + k) (get_or into k 0)
copied part into piece place base low high m same_m wide is_low is_high some cut k lt =
    let a = low - base in
    let n = high - base - a in
    let is : piece ≡ slice_range part (low - place) (low - place + n) = subst (λ (j : ℕ). piece ≡ slice_range part (low - place) (low - place + j)) same_m cut in
    let front = length-take a into in
    let len : length piece ≡ n = ap length is ∙ length-field part (low - place) n (omega (arith, is_low, is_high, some)) in
    elim (cases_lt (base + k) low) [
      | inl below ↦
          get_or-append (take a into) (piece ++ drop n (drop a into)) 0 k (omega (arith, front, wide, below, lt, is_low)) ∙ get_or-take a into k 0 (omega (arith, below))
          ∙ sym (copied_before part place (base + k) (get_or into k 0) (omega (arith, below, is_low)))
      | inr from ↦ get_or-append_right (take a into) (piece ++ drop n (drop a into)) k 0 (omega (arith, front, wide, from, is_low)) ∙ elim (cases_lt (base + k) high) [
        | inl inside ↦
            get_or-append piece (drop n (drop a into)) 0 (k - length (take a into)) (omega (arith, front, wide, from, inside, len, is_low))
            ∙ ap (λ (l : List ℕ). get_or l (k - length (take a into)) 0) is ∙ get_or-slice part (low - place) (low - place + n) (k - length (take a into))
            (omega (arith, front, wide, from, inside, is_low))
            ∙ ap (λ (i : ℕ). get_or part i 0) (omega (arith, front, wide, from, inside, is_low, is_high))
            ∙ sym (copied_here part place (base + k) (get_or into k 0) (omega (arith, from, is_low)) (omega (arith, inside, is_high)))
        | inr behind ↦
            get_or-append_right piece (drop n (drop a into)) (k - length (take a into)) 0 (omega (arith, front, wide, from, behind, len, is_low))
            ∙ get_or-drop n (drop a into) (k - length (take a into) - length piece) 0
            ∙ get_or-drop a into (n + (k - length (take a into) - length piece)) 0 ∙ ap (λ (i : ℕ). get_or into i 0) (omega (arith, front, wide, from, behind, len, is_low, some))
            ∙ sym (copied_behind part place (base + k) (get_or into k 0) (omega (arith, behind, is_high, lt)))
      ]
    ]

-- nothing of a part that lies elsewhere
pub not_copied : (part : List ℕ) (place base low high k old : ℕ) → low ≡ max place base → high ≡ min (place + length part) (base + 256) → high ≤ low → k < 256
    → old ≡ copied_in part place (base + k) old
not_copied part place base low high k old is_low is_high none lt =
    elim (cases_lt (base + k) place) [
      | inl below ↦ sym (copied_before part place (base + k) old below)
      | inr from ↦ elim (cases_lt (base + k) (place + length part)) [
        | inl inside ↦ absurd (omega (arith, is_low, is_high, none, lt, from, inside))
        | inr behind ↦ sym (copied_behind part place (base + k) old behind)
      ]
    ]

pub length_mid : (a n : ℕ) (xs : List ℕ) → a + n ≤ length xs → length (mid_of a n xs) ≡ n
length_mid a n xs room = omega (arith, length-take n (drop a xs), length-drop a xs, room)

-- ---- all parts

get_or-front : (b back : List ℕ) (at d : ℕ) → at < length b → get_or (b ++ back) at d ≡ get_or b at d
get_or-front b back at d lt = get_or-append b back d at lt

-- one part more
pub shows_more : (b part old new : List ℕ) (base place : ℕ) → place ≡ length b → Shows base b old → ((k : ℕ) → k < 256 → get_or new k 0 ≡ copied_in part place (base + k) (get_or old k 0))
    → Shows base (b ++ part) new
shows_more b part old new base place is shows copies k lt =
    elim (cases_lt (base + k) place) [
      | inl below ↦ copies k lt ∙ copied_before part place (base + k) (get_or old k 0) below ∙ shows k lt ∙ sym (get_or-front b part (base + k) 255 (omega (arith, below, is)))
      | inr from ↦ elim (cases_lt (base + k) (place + length part)) [
        | inl inside ↦ copies k lt ∙ copied_here part place (base + k) (get_or old k 0) from inside ∙ get_or_default part (base + k - place) 0 255 (omega (arith, from, inside))
            ∙ ap (λ (i : ℕ). get_or part (base + k - i) 255) is
            ∙ sym (get_or-append_right b part (base + k) 255 (omega (arith, from, is)))
        | inr behind ↦ copies k lt ∙ copied_behind part place (base + k) (get_or old k 0) behind ∙ shows k lt ∙ get_or_past b (base + k) 255 (omega (arith, from, is))
            ∙ sym (get_or_past (b ++ part) (base + k) 255 (omega (arith, behind, is, length-append b part)))
      ]
    ]

-- nothing yet
pub shows_none : (base : ℕ) (page : List ℕ) → ((k : ℕ) → k < 256 → get_or page k 0 ≡ 255) → Shows base [] page
shows_none base page each k lt = each k lt

pub shows_padded : (b page : List ℕ) (base : ℕ) → base + 256 ≤ 122880 → Shows base b page → (k : ℕ) → k < 256 → get_or page k 0 ≡ get_or (padded b) (base + k) 0
shows_padded b page base low shows k lt =
    elim (cases_lt (base + k) (length b)) [
      | inl inside ↦ shows k lt ∙ get_or_default b (base + k) 255 0 inside ∙ padded_in b (base + k) inside
      | inr past ↦ shows k lt ∙ get_or_past b (base + k) 255 past ∙ padded_past b (base + k) past (omega (arith, low, lt))
    ]

-- a component's part among all
pub record IsPartAt (f : Component → List ℕ) (set : List Component) (i : ℕ) (part : List ℕ) : Type 0 where
  pub more : flat_map f (take (i + 1) set) ≡ flat_map f (take i set) ++ part
  pub room : length (flat_map f (take i set)) + length part ≤ length (flat_map f set)

pub part_at : (f : Component → List ℕ) (set : List Component) (i : ℕ) (c : Component) → slice_get set i ≡ Some c → IsPartAt f set i (f c)
part_at f set i c here =
    let lt = slice_get_within set i c here in
    let is : c ≡ get_or set i c = sym (get_or_from_slice_get set i c c here) in
    let one : flat_map f (c ∷ []) ≡ f c = append-nil (f c) in
    let more : flat_map f (take (i + 1) set) ≡ flat_map f (take i set) ++ f c =
    ap (flat_map f) (take_more set i c lt ∙ ap (λ (d : Component). take i set ++ d ∷ []) (sym is)) ∙ flat_map-append f (take i set) (c ∷ []) ∙ ap (λ (r : List ℕ). flat_map f (take i set) ++ r) one in
    let whole : flat_map f set ≡ flat_map f (take (i + 1) set) ++ flat_map f (drop (i + 1) set) = ap (flat_map f) (sym (take-append-drop (i + 1) set))
    ∙ flat_map-append f (take (i + 1) set) (drop (i + 1) set) in
    record {
      more = more;
      room = omega (arith, ap length whole, length-append (flat_map f (take (i + 1) set)) (flat_map f (drop (i + 1) set)), ap length more, length-append (flat_map f (take i set)) (f c));
    }

pub blank_page : (k : ℕ) → k < 256 → get_or (replicate {A = ℕ} 256 255) k 0 ≡ 255
blank_page k lt = get_or-replicate {A = ℕ} 256 k 255 0 lt

-- where a part begins, by the rooms of the components before it
pub base_is : (f : Component → List ℕ) (h : Room → ℕ) (set : List Component) (k : ℕ) → ((c : Component) → h (room_of c) ≡ length (f c))
    → sum_by h (take k (rooms_of set)) ≡ length (flat_map f (take k set))
base_is f h [] zero each = refl
base_is f h [] (suc k) each = refl
base_is f h (c ∷ cs) zero each = refl
base_is f h (c ∷ cs) (suc k) each =
    sum_by-cons h (room_of c) (take k (rooms_of cs)) ∙ ap₂ (λ (a b : ℕ). a + b) (each c) (base_is f h cs k each)
    ∙ sym (ap (λ (l : List ℕ). length l) (flat_map-cons f c (take k cs)) ∙ length-append (f c) (flat_map f (take k cs)))

pub total_is : (f : Component → List ℕ) (h : Room → ℕ) (set : List Component) → ((c : Component) → h (room_of c) ≡ length (f c)) → sum_by h (rooms_of set) ≡ length (flat_map f set)
total_is f h set each =
    let n : ℕ = length set in
    sym (ap (sum_by h) (take_all n (rooms_of set) (omega (arith, length-map set room_of)))) ∙ base_is f h set n each
    ∙ ap (λ (l : List Component). length (flat_map f l)) (take_all n set (omega arith))
