-- A formatted board is sound.
use Rattle.std.proofs.Common.{◌≡◌, ℕ, ◌+◌, ◌-◌, ◌*◌, ◌<◌, ◌≤◌, true, false, List, [], ◌∷◌, ◌++◌, length, take, map, get_or, replicate, eqb, None, refl, sym, ap, ◌∙◌, subst, arith}
use Rattle.std.specs.List.{concat, range_with_len}
use Rattle.std.proofs.lemmas.List.{get_or-replicate, take-replicate, drop-replicate, length-replicate, same_lists}
use Rattle.std.proofs.Math.Seq.{drop-append-add}
use Rattle.std.proofs.lemmas.List.FromFn.{length-map-range_with_len, get_or-map-range_with_len}
use Rattle.component_package.specs.mote.Sides.{is_open, pages_from, fmt, man, sym as sym_gate, rel, img, go_a, go_b, sel}
use Rattle.kept_definitions.specs.Stored.{StoredRelease, Stores}
use Rattle.kept_definitions.specs.Kept.{slot_from, inbox_of, tables_of, kept_packages}
use Rattle.kept_definitions.specs.Sides.{Parts, parts_of, chosen_side, is_pending, kept_set}
use Rattle.kept_definitions.specs.Sound.{IsSound, IsInstalled}
use Rattle.kept_definitions.specs.Machine.{Mote}
use Rattle.kept_definitions.specs.Headline.{has_incoming, is_linked, StandsFor}
use Rattle.mote_laws.specs.Formatted.{blank_prog}
use Rattle.mote_laws.proofs.Formatted.{empty_pages, joined_zeros}
use Rattle.kept_laws.specs.Formatted.{empty_page, formatted_ext, formatted_mote, FormattedIsSound}
use Rattle.kept_laws.proofs.Steps.{at_rest}

-- pages of zeros behind page 8
zero_pages : (first count : ℕ) (page : List ℕ) → first + count ≤ 2039 → pages_from (9 + first) count (formatted_ext page) ≡ replicate count (replicate 256 0)
unfolding formatted_ext
zero_pages first count page within =
    ap (λ (l : List (List ℕ)). take count l) (drop-append-add (page ∷ replicate 7 (replicate 256 0) ++ empty_page ∷ []) (replicate 2039 (replicate {A = ℕ} 256 0)) first
    ∙ drop-replicate first 2039 (replicate 256 0))
    ∙ take-replicate count (2039 - first) (replicate 256 0) (omega arith)

-- an inbox slot of zeros
zero_slot : (page : List ℕ) (s : ℕ) → s < 16 → slot_from 786 (formatted_ext page) s ≡ replicate 9984 0
zero_slot page s low =
    ap (λ n. concat (pages_from n 39 (formatted_ext page))) (let e : 786 + 39 * s ≡ 9 + (777 + 39 * s) = omega arith in e)
    ∙ ap concat (zero_pages (777 + 39 * s) 39 page (omega arith)) ∙ joined_zeros 39

-- all of them
zero_inbox : (page : List ℕ) → inbox_of (formatted_ext page) ≡ replicate 16 (replicate 9984 0)
unfolding inbox_of
zero_inbox page = same_lists _ _ (length-map-range_with_len (slot_from 786 (formatted_ext page)) 0 16 ∙ sym (length-replicate 16 (replicate {A = ℕ} 9984 0))) each
  where
    each : (k : ℕ) (d : List ℕ) → k < length (map (slot_from 786 (formatted_ext page)) (range_with_len 0 16))
        → get_or (map (slot_from 786 (formatted_ext page)) (range_with_len 0 16)) k d ≡ get_or (replicate 16 (replicate 9984 0)) k d
    each k d within =
        let low : k < 16 = omega (arith, length-map-range_with_len (slot_from 786 (formatted_ext page)) 0 16) in
        get_or-map-range_with_len (slot_from 786 (formatted_ext page)) 0 16 k k d low (omega arith) ∙ zero_slot page k low ∙ sym (get_or-replicate 16 k (replicate 9984 0) d low)

-- release 0, with no component
abbrev empty_release : StoredRelease
empty_release = record { number = 0; placed = [] }

abbrev empty_side : List ℕ
empty_side = empty_page ++ replicate 1024 0

empty_stored : (side : List ℕ) → side ≡ empty_side → Stores side empty_release
empty_stored side is = record {
  stored = record { number = omega arith; few = omega arith; entries = tt; distinct = tt; slots = tt; apart = tt };
  bytes = is;
}

-- its page, and those behind it
page_eight : (page : List ℕ) → pages_from 8 5 (formatted_ext page) ≡ empty_page ∷ pages_from 9 4 (formatted_ext page)
unfolding formatted_ext
page_eight page = refl

-- side A is that page and four of zeros
side_there : (page : List ℕ) → concat (pages_from 8 5 (formatted_ext page)) ≡ empty_side
side_there page =
    ap concat (page_eight page ∙ ap (λ (l : List (List ℕ)). empty_page ∷ l) (zero_pages 0 4 page (omega arith))) ∙ ap (λ (l : List ℕ). empty_page ++ l) (joined_zeros 4)

-- blank program flash has the empty set
empty_installed : (tables : List (List ℕ)) (side : List ℕ) → side ≡ empty_side → IsInstalled tables blank_prog side
unfolding IsInstalled kept_packages
empty_installed tables side is = (empty_release, empty_stored side is, tt, empty_pages [] refl)

empty_set : (tables pages : List (List ℕ)) → kept_set tables pages empty_release ≡ []
unfolding kept_packages
empty_set tables pages = refl

-- ---- the gates

-- each gate behind Fmt is closed
record Gates (page : List ℕ) : Type 0 where
  pub one : is_open (formatted_ext page) 1 ≡ false
  pub two : is_open (formatted_ext page) 2 ≡ false
  pub three : is_open (formatted_ext page) 3 ≡ false
  pub four : is_open (formatted_ext page) 4 ≡ false
  pub five : is_open (formatted_ext page) 5 ≡ false
  pub six : is_open (formatted_ext page) 6 ≡ false
  pub seven : is_open (formatted_ext page) 7 ≡ false

gates : (page : List ℕ) → Gates page
unfolding formatted_ext
gates page = record { one = refl; two = refl; three = refl; four = refl; five = refl; six = refl; seven = refl }

-- where Fmt alone is open, side A is chosen
module _ (p : Parts) (no_man : p.gates man ≡ false) (no_sym : p.gates sym_gate ≡ false) (no_rel : p.gates rel ≡ false) (no_img : p.gates img ≡ false)
    (no_a : p.gates go_a ≡ false) (no_b : p.gates go_b ≡ false) (no_sel : p.gates sel ≡ false) where
  side_a_chosen : chosen_side p ≡ p.side_a
  side_a_chosen = grind arith

  alone_sound : p.gates fmt ≡ true → IsInstalled p.tables p.prog p.side_a → IsSound p
  alone_sound formatted installed = grind arith

  alone_stands : (s : Mote) → s ≡ record { current = record { release = empty_release; set = [] }; incoming = None; inbox = p.inbox; linked = false; standing = false }
      → Stores p.side_a empty_release → kept_set p.tables p.prog empty_release ≡ [] → StandsFor p s
  alone_stands s is stores none =
      let nothing : has_incoming p ≡ false = grind arith in
      let unlinked : is_linked p ≡ false = grind arith in
      let calm : is_pending p ≡ false = grind arith in
      subst (StandsFor p) (sym is) (record {
        current = record { release = subst (λ (b : List ℕ). Stores b empty_release) (sym side_a_chosen) stores; set = at_rest p empty_release calm ∙ none };
        incoming = nothing;
        inbox = refl;
        linked = sym unlinked;
        standing = sym calm;
      })

-- the formatted mote, over its inbox
mote_is : (slots : List (List ℕ)) → slots ≡ replicate 16 (replicate 9984 0)
    → formatted_mote ≡ record { current = record { release = empty_release; set = [] }; incoming = None; inbox = slots; linked = false; standing = false }
unfolding formatted_mote
mote_is slots zeros =
    sym (ap (λ (inbox : List (List ℕ)). let s : Mote = record { current = record { release = empty_release; set = [] }; incoming = None; inbox = inbox; linked = false; standing = false } in s) zeros)

fmt_open : (page : List ℕ) → get_or page 0 0 ≡ 165 → is_open (formatted_ext page) 0 ≡ true
unfolding formatted_ext
fmt_open page opens = ap (λ n. eqb n 165) opens

formatted_sound : (page : List ℕ) → get_or page 0 0 ≡ 165 → IsSound (parts_of blank_prog (formatted_ext page))
formatted_sound page opens =
    let g = gates page in
    alone_sound (parts_of blank_prog (formatted_ext page)) g.one g.two g.three g.four g.five g.six g.seven (fmt_open page opens)
    (empty_installed (tables_of (formatted_ext page)) (concat (pages_from 8 5 (formatted_ext page))) (side_there page))

formatted_stands : (page : List ℕ) → get_or page 0 0 ≡ 165 → StandsFor (parts_of blank_prog (formatted_ext page)) formatted_mote
formatted_stands page opens =
    let g = gates page in
    alone_stands (parts_of blank_prog (formatted_ext page)) g.one g.two g.three g.four g.five g.six g.seven formatted_mote
    (mote_is (inbox_of (formatted_ext page)) (zero_inbox page)) (empty_stored (concat (pages_from 8 5 (formatted_ext page))) (side_there page)) (empty_set (tables_of (formatted_ext page)) blank_prog)

pub formatted_is_sound : FormattedIsSound
formatted_is_sound = record { sound = formatted_sound; stands = formatted_stands }
