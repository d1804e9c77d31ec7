-- A formatted board is sound.
use Rattle.std.proofs.Common.{◌≡◌, ℕ, zero, suc, ◌+◌, ◌-◌, ◌*◌, ◌<◌, ◌≤◌, true, false, List, [], ◌++◌, length, take, drop, map, get_or, replicate, eqb, None, refl, sym, ap, ◌∙◌, subst, arith}
use Rattle.std.specs.List.{concat, range_with_len}
use Rattle.std.proofs.lemmas.List.{get_or-replicate, take-replicate, drop-replicate, length-replicate, replicate-append-replicate, same_lists}
use Rattle.std.proofs.lemmas.List.FromFn.{length-map-range_with_len, get_or-map-range_with_len}
use Rattle.component_package.specs.link.Link.{link_cause, IsImage}
use Rattle.component_package.specs.link.Pages.{page_in, cut, IsPages}
use Rattle.component_package.specs.packages.Manifest.{StoredRelease, Stores}
use Rattle.component_package.specs.mote.Store.{slot_at, slots_of}
use Rattle.component_package.specs.mote.Sides.{Parts, parts_of, is_open, pages_from, fmt, man, sym as sym_gate, rel, img, go_a, go_b, sel, chosen_side, is_pending}
use Rattle.component_package.specs.mote.Sound.{IsSound, HasNoCause, HasImage}
use Rattle.component_package.specs.mote.Machine.{Mote}
use Rattle.component_package.specs.mote.Headline.{has_incoming, is_linked, StandsFor}
use Rattle.mote_laws.specs.Formatted.{blank_prog, formatted_ext, formatted_mote, FormattedIsSound}

-- ---- program flash

-- a page of a long run of 0xFF
page_of_ones : (n p : ℕ) → 122880 ≤ n → p < 480 → page_in (replicate n 255) p ≡ replicate 256 255
page_of_ones n p long low =
    let dropped : drop (256 * p) (replicate {A = ℕ} n 255) ≡ replicate (n - 256 * p) 255 = drop-replicate {X = ℕ} (256 * p) n 255 in
    let wide : (256 * p + 256) - 256 * p ≡ 256 = omega arith in
    ap (λ k. take k (drop (256 * p) (replicate n 255))) wide ∙ ap (λ (l : List ℕ). take 256 l) dropped ∙ take-replicate 256 (n - 256 * p) 255 (omega arith)

-- blank program flash is such a run, cut into pages
blank_pages : (n : ℕ) → 122880 ≤ n → blank_prog ≡ cut (replicate n 255)
unfolding blank_prog
blank_pages n long = same_lists (replicate 480 (replicate {A = ℕ} 256 255)) (cut (replicate n 255)) (length-replicate {A = List ℕ} 480 (replicate {A = ℕ} 256 255) ∙ sym (length-map-range_with_len (page_in (replicate {A = ℕ} n 255)) 0 480)) each
  where
    each : (k : ℕ) (d : List ℕ) → k < length (replicate 480 (replicate {A = ℕ} 256 255)) → get_or (replicate 480 (replicate 256 255)) k d ≡ get_or (map (page_in (replicate n 255)) (range_with_len 0 480)) k d
    each k d within =
        let low : k < 480 = omega (arith, length-replicate 480 (replicate {A = ℕ} 256 255)) in
        get_or-replicate 480 k (replicate 256 255) d low
        ∙ sym (get_or-map-range_with_len (page_in (replicate n 255)) 0 480 k k d low (omega arith) ∙ page_of_ones n k long low)

-- the empty set has the empty image
empty_image : IsImage [] []
unfolding link_cause
empty_image = record { possible = refl; bytes = λ i. omega arith; put = record { size = refl; plain = λ at covered. refl; fields = tt } }

-- the pages of the empty set, over an image that is empty
pub empty_pages : (image : List ℕ) → image ≡ [] → IsPages [] blank_prog
empty_pages image is = record {
  image = image;
  is = subst (λ (b : List ℕ). IsImage [] b) (sym is) empty_image;
  are = blank_pages (122880 - length image) (omega (arith, ap length is)) ∙ ap cut (sym (ap (λ (b : List ℕ). b ++ replicate (122880 - length image) 255) is));
}

-- ---- the sides and the slots

-- pages of zeros behind page 0
zero_pages : (first count : ℕ) (page : List ℕ) → first + count ≤ 2047 → pages_from (suc first) count (formatted_ext page) ≡ replicate count (replicate 256 0)
unfolding formatted_ext
zero_pages first count page within =
    ap (λ (l : List (List ℕ)). take count l) (drop-replicate first 2047 (replicate 256 0)) ∙ take-replicate count (2047 - first) (replicate 256 0) (omega arith)

-- pages of zeros joined are zeros
pub joined_zeros : (n : ℕ) → concat (replicate n (replicate 256 0)) ≡ replicate (256 * n) 0
joined_zeros zero = refl
joined_zeros (suc n) = ap (λ (l : List ℕ). replicate 256 0 ++ l) (joined_zeros n) ∙ replicate-append-replicate 256 (256 * n) 0 ∙ ap (λ k. replicate k 0) (let e : 256 + 256 * n ≡ 256 * suc n = omega arith in e)

-- a slot of zeros
zero_slot : (page : List ℕ) (s : ℕ) → s < 32 → slot_at (formatted_ext page) s ≡ replicate 9984 0
zero_slot page s low =
    ap (λ n. concat (pages_from n 39 (formatted_ext page))) (let e : 786 + 39 * s ≡ suc (785 + 39 * s) = omega arith in e)
    ∙ ap concat (zero_pages (785 + 39 * s) 39 page (omega arith)) ∙ joined_zeros 39

-- all slots are zeros
zero_slots : (page : List ℕ) → slots_of (formatted_ext page) ≡ replicate 32 (replicate 9984 0)
unfolding slots_of
zero_slots page = same_lists _ _ (length-map-range_with_len (slot_at (formatted_ext page)) 0 32 ∙ sym (length-replicate 32 (replicate {A = ℕ} 9984 0))) each
  where
    each : (k : ℕ) (d : List ℕ) → k < length (map (slot_at (formatted_ext page)) (range_with_len 0 32)) → get_or (map (slot_at (formatted_ext page)) (range_with_len 0 32)) k d ≡ get_or (replicate 32 (replicate 9984 0)) k d
    each k d within =
        let low : k < 32 = omega (arith, length-map-range_with_len (slot_at (formatted_ext page)) 0 32) in
        get_or-map-range_with_len (slot_at (formatted_ext page)) 0 32 k k d low (omega arith) ∙ zero_slot page k low ∙ sym (get_or-replicate 32 k (replicate 9984 0) d low)

-- release 0, with no component
abbrev empty_release : StoredRelease
empty_release = record { number = 0; placed = [] }

-- five pages of zeros store it
empty_stored : (side : List ℕ) → side ≡ replicate 1280 0 → Stores side empty_release
empty_stored side zeros = record {
  stored = record { number = omega arith; few = omega arith; entries = tt; distinct = tt; slots = tt; apart = tt };
  bytes = zeros;
}

-- side A is five pages of zeros
zero_side : (page : List ℕ) → concat (pages_from 8 5 (formatted_ext page)) ≡ replicate 1280 0
zero_side page = ap concat (zero_pages 7 5 page (omega arith)) ∙ joined_zeros 5

-- nothing refuses the empty set
empty_no_cause : (slots : List (List ℕ)) (side : List ℕ) → side ≡ replicate 1280 0 → HasNoCause slots side
unfolding HasNoCause link_cause
empty_no_cause slots side zeros = (empty_release, empty_stored side zeros, tt, refl)

-- blank program flash is its image
empty_has_image : (slots : List (List ℕ)) (side : List ℕ) → side ≡ replicate 1280 0 → HasImage slots side blank_prog
unfolding HasImage
empty_has_image slots side zeros = (empty_release, empty_stored side zeros, empty_pages [] refl)

-- ---- the gates

-- each gate behind Fmt is closed
zero_gate : (page : List ℕ) (g : ℕ) → g < 2047 → is_open (formatted_ext page) (suc g) ≡ false
unfolding formatted_ext
zero_gate page g low = ap (λ (l : List ℕ). eqb (get_or l 0 0) 165) (get_or-replicate 2047 g (replicate 256 0) [] low)

-- where Fmt alone is open, side A is chosen
module _ (p : Parts) (no_man : p.gates man ≡ false) (no_sym : p.gates sym_gate ≡ false) (no_rel : p.gates rel ≡ false) (no_img : p.gates img ≡ false)
    (no_a : p.gates go_a ≡ false) (no_b : p.gates go_b ≡ false) (no_sel : p.gates sel ≡ false) where
  -- side A
  side_a_chosen : chosen_side p ≡ p.side_a
  side_a_chosen = grind arith

  -- such parts are sound where side A and program flash are
  alone_sound : p.gates fmt ≡ true → HasNoCause p.slots p.side_a → HasImage p.slots p.side_a p.prog → IsSound p
  alone_sound formatted cause image = grind arith

  -- and stand for a mote with nothing but a release
  alone_stands : (s : Mote) → s ≡ record { current = empty_release; incoming = None; store = p.slots; linked = false; standing = false } → Stores p.side_a empty_release → StandsFor p s
  alone_stands s is stores =
      let nothing : has_incoming p ≡ false = grind arith in
      let unlinked : is_linked p ≡ false = grind arith in
      let calm : is_pending p ≡ false = grind arith in
      subst (StandsFor p) (sym is) (record {
        current = subst (λ (b : List ℕ). Stores b empty_release) (sym side_a_chosen) stores;
        incoming = nothing;
        store = refl;
        linked = sym unlinked;
        standing = sym calm;
      })

-- the formatted mote, over its slots
mote_is : (slots : List (List ℕ)) → slots ≡ replicate 32 (replicate 9984 0) → formatted_mote ≡ record { current = empty_release; incoming = None; store = slots; linked = false; standing = false }
unfolding formatted_mote
mote_is slots zeros = sym (ap (λ (store : List (List ℕ)). let s : Mote = record { current = empty_release; incoming = None; store = store; linked = false; standing = false } in s) zeros)

-- Fmt is open
fmt_open : (page : List ℕ) → get_or page 0 0 ≡ 165 → is_open (formatted_ext page) 0 ≡ true
unfolding formatted_ext
fmt_open page opens = ap (λ n. eqb n 165) opens

-- a formatted board is sound
formatted_sound : (page : List ℕ) → get_or page 0 0 ≡ 165 → IsSound (parts_of blank_prog (formatted_ext page))
formatted_sound page opens =
    alone_sound (parts_of blank_prog (formatted_ext page)) (zero_gate page 0 (omega arith)) (zero_gate page 1 (omega arith)) (zero_gate page 2 (omega arith)) (zero_gate page 3 (omega arith))
    (zero_gate page 4 (omega arith)) (zero_gate page 5 (omega arith)) (zero_gate page 6 (omega arith)) (fmt_open page opens)
    (empty_no_cause (slots_of (formatted_ext page)) _ (zero_side page)) (empty_has_image (slots_of (formatted_ext page)) _ (zero_side page))

-- and stands for the formatted mote
formatted_stands : (page : List ℕ) → get_or page 0 0 ≡ 165 → StandsFor (parts_of blank_prog (formatted_ext page)) formatted_mote
formatted_stands page opens =
    alone_stands (parts_of blank_prog (formatted_ext page)) (zero_gate page 0 (omega arith)) (zero_gate page 1 (omega arith)) (zero_gate page 2 (omega arith)) (zero_gate page 3 (omega arith))
    (zero_gate page 4 (omega arith)) (zero_gate page 5 (omega arith)) (zero_gate page 6 (omega arith)) formatted_mote
    (mote_is (slots_of (formatted_ext page)) (zero_slots page)) (empty_stored _ (zero_side page))

pub formatted_is_sound : FormattedIsSound
formatted_is_sound = record { sound = formatted_sound; stands = formatted_stands }
