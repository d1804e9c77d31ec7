-- The bytes of slots, and what a program of one of their pages makes of them.
use Rattle.std.proofs.Common.{◌≡◌, ℕ, ◌+◌, ◌*◌, ◌<◌, ◌≤◌, List, [], ◌∷◌, length, take, drop, get_or, set, sym, ap, ◌∙◌, arith}
use Rattle.std.specs.Prelude.{All, None, nat_le}
use Rattle.std.specs.List.{AllByRecursion}
use Rattle.std.proofs.lemmas.Bool.{leb-false}
use Rattle.std.proofs.lemmas.List.{length-take-le, length-drop}
use Rattle.std.proofs.lemmas.List.Elements.{All-head, All-tail, All-take, All-drop}
use Rattle.std.proofs.lemmas.List.FromFn.{get_or-map-range_with_len}
use Rattle.flash_pages.specs.State.{State, IsState, IsPage}
use Rattle.component_package.specs.mote.Page.{filled_page}
use Rattle.component_package.specs.mote.Machine.{with_page_of}
use Rattle.component_package.specs.mote.Store.{slot_at, slots_of}
use Rattle.component_package.specs.mote.Sides.{pages_from, Parts}
use Rattle.component_package.proofs.First.{passed}
use Rattle.component_store.specs.declared.set.StoreFault.TheVariants.{Page}
use Rattle.component_store.specs.Pieces.{piece_fault}
use Rattle.mote_laws.specs.Programs.{IsWholePage}
use Rattle.mote_laws.proofs.Programs.{each_page_is_in_one_part, joined_page_is_put}

-- slot s of the 32
pub slot_is : (ext : List (List ℕ)) (s : ℕ) → s < 32 → get_or (slots_of ext) s [] ≡ slot_at ext s
unfolding slots_of
slot_is ext s lt = get_or-map-range_with_len (slot_at ext) 0 32 s s [] lt (omega arith)

by_recursion : (ps : List (List ℕ)) → All IsPage ps → AllByRecursion IsWholePage ps
by_recursion [] all = tt
by_recursion (p ∷ ps) all = ((All-head IsPage p ps all).0, by_recursion ps (All-tail IsPage p ps all))

-- a slot's page is programmed: it holds the piece, and all other slots are as they were
pub piece_put : (s : State) → IsState s → (slot page : ℕ) (bytes : List ℕ) → slot < 32 → page < 39
    → slots_of (set s.ext (786 + 39 * slot + page) (filled_page bytes)) ≡ set (slots_of s.ext) slot (with_page_of page bytes (get_or (slots_of s.ext) slot []))
piece_put s is slot page bytes low within =
    let ext = s.ext in
    let first : ℕ = 786 + 39 * slot in
    let whole : All IsPage (drop first ext) = All-drop IsPage first ext is.ext_pages in
    let pages : All IsPage (take 39 (drop first ext)) = All-take IsPage 39 (drop first ext) whole in
    let count : length (take 39 (drop first ext)) ≡ 39 = length-take-le 39 (drop first ext) (omega (arith, length-drop first ext, is.ext)) in
    let one = each_page_is_in_one_part.slot s.prog ext slot page (filled_page bytes) low within in
    let put = joined_page_is_put (pages_from first 39 ext) page (filled_page bytes) (by_recursion (take 39 (drop first ext)) pages) (omega (arith, count)) in
    ap (λ (p : Parts). p.slots) one ∙ ap (λ (b : List ℕ). set (slots_of ext) slot b) (put ∙ ap (with_page_of page bytes) (sym (slot_is ext slot low)))

-- a page that a package of at most 9,984 bytes has is one of the slot's
pub page_below : (size page count : ℕ) → size ≤ 9984 → piece_fault size page count ≡ None → page < 39
page_below size page count most none =
    let over = passed (nat_le size (256 * page)) Page _ none in
    let more : 256 * page < size = leb-false size (256 * page) over.0 in
    omega arith
