-- What PIECE does.
use Rattle.std.proofs.Common.{◌≡◌, ◌≢◌, inl, ⊎_elim, ◌↔◌, IsTrue, ℕ, ◌+◌, ◌-◌, ◌*◌, ◌<◌, min, Bool, true, false, not, cond, eqb, ltb, leb, ◌&&◌, ◌||◌, List, [], length, take, drop, get_or, set, Option, Some, None, is_some, refl, sym, ap, ◌∙◌, subst, arith, slice_get}
use Rattle.std.specs.Prelude.{slice_index, slice_range, All}
use Rattle.std.specs.Option.{option_and_then}
use Rattle.std.proofs.lemmas.Bool.{and_parts, ltb-true, lt-ltb, eqb-true, false_from_ne_true, false≢true}
use Rattle.std.proofs.lemmas.Bool.Decides.{nat_tests}
use Rattle.std.specs.List.{concat}
use Rattle.std.proofs.lemmas.List.{length-take-le, length-drop, get_or-take, get_or-drop, take_all}
use Rattle.std.proofs.lemmas.List.Elements.{All-take, All-drop}
use Rattle.flash_pages.specs.State.{State, Place, Prog, Ext, IsState, IsPage, page_at, with_page, MayHold, ext_pages}
use Rattle.flash_pages.specs.Board.{View, Programs}
use Rattle.flash_pages.specs.Moments.{LeavesOnly}
use Rattle.flash_pages.proofs.Runs.{starts, weaker, programs}
use Rattle.flash_pages.proofs.Pages.{only_starts, only_programs}
use Rattle.component_package.specs.declared.answer.Answer.{Answer}
use Rattle.component_package.specs.declared.answer.Answer.TheVariants as answers
use Rattle.component_package.specs.packages.Manifest.{StoredRelease, Placed, Stores}
use Rattle.component_package.specs.mote.Page.{filled_page}
use Rattle.component_package.specs.mote.Store.{slots_of, held_slot, is_same}
use Rattle.component_package.specs.mote.Sides.{Parts, sym as sym_gate, chosen_side, other_side}
use Rattle.component_package.specs.mote.Headline.{StandsFor, StandsForIncoming}
use Rattle.component_package.specs.mote.Frames.{Frame}
use Rattle.component_package.specs.mote.Machine.{Mote, Step as MachineStep, step, refuses, take_piece, take_piece_of, store_piece, is_piece_of, with_page_of}
use Rattle.component_package.proofs.First.{passed}
use Rattle.component_package.proofs.StoredLemmas.{joined_slice}
use Rattle.component_store.specs.declared.set.StoreFault.{StoreFault}
use Rattle.component_store.specs.declared.set.StoreFault.TheVariants.{Page, PieceLength}
use Rattle.component_store.specs.Pieces.{piece_fault, piece_place}
use Rattle.component_store.proofs.SlotBytes.{slot_is}
use Rattle.mote_laws.specs.Steps.{Keeps, IsUnused}
use Rattle.mote_laws.specs.Runs.{is_refusal}
use Rattle.mote_laws.proofs.Steps.{slot_writing_keeps}
use Rattle.mote_laws.proofs.Programs.{each_page_is_in_one_part}
use Rattle.mote_laws.proofs.Sets.{other_sets_stay, same_lists_are, is_same_itself}
use Rattle.mote_laws.proofs.Stands.{resting_steps_stand, not_held}
use Rattle.mote_laws.proofs.Motes.{comes_next}
use Rattle.install_journal.specs.Steps.{parts, Stands, Step, Takes, any_mote, unlinks, unlinked}
use Rattle.mote_core.specs.Reading.{frame_of}
use Rattle.mote_core.specs.Serving.{piece_pages, entry_of_piece, may_change, Serves, Kept, IsServed}
use Rattle.mote_core.proofs.Works.{Within, first_part, next_part, step_keeps}
use Rattle.mote_core.proofs.Rows.{resting_row}
use Rattle.mote_laws.proofs.Standing.{sound_parts_tell}

-- ---- what fits a page

pub fits : (total page : ℕ) (bytes : List ℕ) → piece_fault total page (length bytes) ≡ None → is_piece_of total page bytes ≡ true
fits total page bytes none =
    let over = passed (leb total (256 * page)) Page _ none in
    grind (arith, nat_tests, over.0, piece_long (eqb (length bytes) (min (total - 256 * page) 256)) refl over.1)
  where
    piece_long : (b : Bool) → eqb (length bytes) (min (total - 256 * page) 256) ≡ b → cond b None (Some PieceLength) ≡ None → length bytes ≡ min (total - 256 * page) 256
    piece_long true is passed = eqb-true (length bytes) (min (total - 256 * page) 256) is
    piece_long false is passed = absurd (let q : ⊥ = cc in q)

pub unfit : (total page : ℕ) (bytes : List ℕ) (f : StoreFault) → piece_fault total page (length bytes) ≡ Some f → is_piece_of total page bytes ≡ false
unfit total page bytes f faulty = false_from_ne_true (is_piece_of total page bytes) (λ fits.
    let parts = and_parts (ltb (256 * page) total) (eqb (length bytes) (min 256 (total - 256 * page))) fits in
    let more : 256 * page < total = ltb-true (256 * page) total parts.0 in
    let long : length bytes ≡ min 256 (total - 256 * page) = eqb-true (length bytes) (min 256 (total - 256 * page)) parts.1 in
    let low : leb total (256 * page) ≡ false = grind (arith, nat_tests) in
    let same : eqb (length bytes) (min (total - 256 * page) 256) ≡ true = grind (arith, nat_tests) in
    let none : piece_fault total page (length bytes) ≡ None = rw (low, same) refl in
    let q : Some f ≡ None = sym faulty ∙ none in
    let r : ⊥ = cc in r)

-- ---- the page that is there

page_is : (s : State) → IsState s → (slot page : ℕ) → slot < 32 → page < 39
    → page_at s (piece_place slot page) ≡ slice_range (get_or (slots_of s.ext) slot []) (256 * page) (256 * page + 256)
page_is s is slot page low within =
    let ext = s.ext in
    let first : ℕ = 786 + 39 * slot in
    let pages : All IsPage (take 39 (drop first ext)) = All-take IsPage 39 (drop first ext) (All-drop IsPage first ext is.ext_pages) in
    let count : length (take 39 (drop first ext)) ≡ 39 = length-take-le 39 (drop first ext) (omega (arith, length-drop first ext, is.ext)) in
    let joined = joined_slice (take 39 (drop first ext)) page 0 256 (λ k d lt. (pages k d lt).0) (omega (arith, count)) (omega arith) in
    let one : get_or (take 39 (drop first ext)) page [] ≡ get_or ext (first + page) [] = get_or-take 39 (drop first ext) page [] within ∙ get_or-drop first ext page [] in
    let long : length (get_or ext (first + page) []) ≡ 256 = (is.ext_pages (first + page) [] (omega (arith, is.ext))).0 in
    sym (
    ap (λ (b : List ℕ). slice_range b (256 * page) (256 * page + 256)) (slot_is ext slot low)
    ∙ ap (λ (k : ℕ). slice_range (concat (take 39 (drop first ext))) k (k + 256)) (let e : 256 * page ≡ 256 * page + 0 = omega arith in e)
    ∙ joined
    ∙ ap (λ (p : List ℕ). take 256 p) one
    ∙ take_all 256 (get_or ext (first + page) []) (omega (arith, long))
    )

-- the page of a store's slot is this piece already
abbrev pub is_there : List (List ℕ) → ℕ → ℕ → List ℕ → Bool
is_there store slot page bytes = is_same (slice_range (get_or store slot []) (256 * page) (256 * page + 256)) (filled_page bytes)

-- it says whether the page is another
abbrev pub Differs : State → ℕ → ℕ → List ℕ → Bool → Type 0
Differs s slot page bytes d = IsTrue d ↔ (page_at s (piece_place slot page) ≢ filled_page bytes)

-- the slots of x are those of w with this piece put
abbrev pub PutSlots : State → ℕ → ℕ → List ℕ → State → Type 0
PutSlots w slot page bytes x = slots_of x.ext ≡ set (slots_of w.ext) slot (with_page_of page bytes (get_or (slots_of w.ext) slot []))

-- of two lists that are the same or not
same_or_not : (d : Bool) (xs ys : List ℕ) → IsTrue d ↔ (xs ≢ ys) → is_same xs ys ≡ not d
same_or_not true xs ys differs = false_from_ne_true (is_same xs ys) (λ same. differs.0 refl (same_lists_are xs ys same))
same_or_not false xs ys differs = at (is_same xs ys) refl
  where
    at : (b : Bool) → is_same xs ys ≡ b → b ≡ true
    at true is = refl
    at false is = absurd (let q = differs.1 (λ same. false≢true (sym is ∙ ap (λ (p : List ℕ). is_same p ys) same ∙ is_same_itself ys)) in let r : ⊥ = cc in r)

pub same_page : (s : State) → IsState s → (slot page : ℕ) (bytes : List ℕ) (d : Bool) → slot < 32 → page < 39 → IsTrue d ↔ (page_at s (piece_place slot page) ≢ filled_page bytes)
    → is_same (slice_range (get_or (slots_of s.ext) slot []) (256 * page) (256 * page + 256)) (filled_page bytes) ≡ not d
same_page s is slot page bytes d low within differs =
    ap (λ (p : List ℕ). is_same p (filled_page bytes)) (sym (page_is s is slot page low within)) ∙ same_or_not d (page_at s (piece_place slot page)) (filled_page bytes) differs

-- ---- rows

abbrev Of : Mote → List ℕ → MachineStep
Of t payload = step t (frame_of 2 payload)

pub piece_none : (t : Mote) (payload : List ℕ) → t.standing ≡ false → t.incoming ≡ None → Of t payload ≡ refuses t answers.NoManifest
piece_none t payload rests none = resting_row t _ rests ∙ ap (take_piece t payload) none

module _ (t : Mote) (payload : List ℕ) (m : StoredRelease) (rests : t.standing ≡ false) (coming : t.incoming ≡ Some m) where
  takes : Of t payload ≡ take_piece t payload (Some m)
  takes = resting_row t _ rests ∙ ap (take_piece t payload) coming

  pub piece_short : length payload < 3 → Of t payload ≡ refuses t answers.BadPiece
  piece_short short = takes ∙ ap (λ (b : Bool). cond b (refuses t answers.BadPiece) (take_piece_of t payload (slice_get m.placed (slice_index payload 0)))) (lt-ltb (length payload) 3 short)

  module _ (long : ltb (length payload) 3 ≡ false) where
    takes_of : (o : Option Placed) → slice_get m.placed (slice_index payload 0) ≡ o → Of t payload ≡ take_piece_of t payload o
    takes_of o is = takes ∙ ap (λ (b : Bool). cond b (refuses t answers.BadPiece) (take_piece_of t payload (slice_get m.placed (slice_index payload 0)))) long ∙ ap (take_piece_of t payload) is

    pub piece_no_entry : slice_get m.placed (slice_index payload 0) ≡ None → Of t payload ≡ refuses t answers.BadPiece
    piece_no_entry none = takes_of None none

    module _ (p : Placed) (here : slice_get m.placed (slice_index payload 0) ≡ Some p) where
      abbrev page : ℕ
      page = slice_index payload 1

      abbrev bytes : List ℕ
      bytes = drop 2 payload

      fitting : (b : Bool) → is_piece_of p.entry.length page bytes ≡ b
          → Of t payload ≡ cond b (store_piece t (slice_index payload 0) p page bytes) (refuses t answers.BadPiece)
      fitting b is = takes_of (Some p) here ∙ ap (λ (c : Bool). cond c (store_piece t (slice_index payload 0) p page bytes) (refuses t answers.BadPiece)) is

      pub piece_unfit : is_piece_of p.entry.length page bytes ≡ false → Of t payload ≡ refuses t answers.BadPiece
      piece_unfit is = fitting false is

      abbrev there : Bool
      there = is_same (slice_range (get_or t.store p.slot []) (256 * page) (256 * page + 256)) (filled_page bytes)

      abbrev done : Answer
      done = answers.Piece (slice_index payload 0) page

      abbrev stored : MachineStep
      stored = record { mote = record t { store = set t.store p.slot (with_page_of page bytes (get_or t.store p.slot [])); linked = false }; answer = done }

      pub piece_held : is_piece_of p.entry.length page bytes ≡ true → is_some (held_slot t.current p.entry) ≡ true → Of t payload ≡ refuses t (answers.Held (slice_index payload 0))
      piece_held is held = fitting true is ∙ ap (λ (b : Bool). cond b (refuses t (answers.Held (slice_index payload 0))) (cond there (refuses t done) stored)) held

      new_row : is_piece_of p.entry.length page bytes ≡ true → is_some (held_slot t.current p.entry) ≡ false → Of t payload ≡ cond there (refuses t done) stored
      new_row is new = fitting true is ∙ ap (λ (b : Bool). cond b (refuses t (answers.Held (slice_index payload 0))) (cond there (refuses t done) stored)) new

      pub piece_there : is_piece_of p.entry.length page bytes ≡ true → is_some (held_slot t.current p.entry) ≡ false → there ≡ true → Of t payload ≡ refuses t done
      piece_there is new same = new_row is new ∙ ap (λ (b : Bool). cond b (refuses t done) stored) same

      pub piece_new : is_piece_of p.entry.length page bytes ≡ true → is_some (held_slot t.current p.entry) ≡ false → there ≡ false → Of t payload ≡ stored
      piece_new is new other = new_row is new ∙ ap (λ (b : Bool). cond b (refuses t done) stored) other

-- ---- the work

module _ (z : State) (t : Mote) (m : StoredRelease) (p : Placed) (payload : List ℕ) (stands : Stands z t) (coming : t.incoming ≡ Some m)
    (here : slice_get m.placed (slice_index payload 0) ≡ Some p) (low : p.slot < 32) (within : slice_index payload 1 < 39) where
  abbrev F : Frame
  F = frame_of 2 payload

  abbrev pages : Place → Bool
  pages = piece_pages (Some p) (slice_index payload 1)

  entry_is : entry_of_piece t payload ≡ Some p
  entry_is = ap (option_and_then (λ (r : StoredRelease). slice_get r.placed (slice_index payload 0))) coming ∙ here

  inside : Within pages (may_change t z F)
  inside = subst (λ (o : Option Placed). Within pages (piece_pages o (slice_index payload 1))) (sym entry_is) (λ place out. out)

  no_gate : (place : Place) → pages place ≡ false → ext_pages 2 4 place ≡ false
  no_gate (Prog q) out = refl
  no_gate (Ext q) out = or_none (leb 2 q && leb q 4) (eqb q (786 + 39 * p.slot + slice_index payload 1)) out
    where
      or_none : (a b : Bool) → (a || b) ≡ false → a ≡ false
      or_none true b none = none
      or_none false b none = refl

  -- the gates are closed
  pub unlinks_first : (old mid : View) → Takes (Step any_mote (ext_pages 2 4) z) (ext_pages 2 4) 3 old mid → LeavesOnly (Serves t F z) 3 old mid
  unlinks_first old mid takes =
      first_part t F (ext_pages 2 4) z (λ place out. no_gate place (inside place out)) (λ rests page. refl) 3 3 old mid (omega arith) stands
      (weaker (Step any_mote (ext_pages 2 4) z) (Kept (ext_pages 2 4) z) 3 3 old mid (omega arith) (λ x took. step_keeps any_mote (ext_pages 2 4) t z x took stands tt) takes.leaves)

  module _ (rests : t.standing ≡ false) (new : is_some (held_slot t.current p.entry) ≡ false) (w : State) (parts_w : parts w ≡ unlinked (parts z)) (stands_w : Stands w (unlinks t)) where
    -- the current release has no package in the slot
    unused : (r : StoredRelease) → Stores (chosen_side (parts w)) r → IsUnused r p.slot
    unused r stores =
        let chosen : Stores (chosen_side (parts z)) r = subst (λ (q : Parts). Stores (chosen_side q) r) parts_w stores in
        let same : r ≡ t.current = sound_parts_tell.current (parts z) t r stands.mote chosen in
        let comes : StandsForIncoming (parts z) (Some m) = subst (StandsForIncoming (parts z)) coming stands.mote.incoming in
        other_sets_stay.piece (chosen_side (parts z)) (other_side (parts z)) r m (slice_index payload 0) p (comes_next (parts z) stands.sound comes.0) chosen comes.1 here
        (not_held (held_slot r p.entry) (ap (λ (c : StoredRelease). is_some (held_slot c p.entry)) same ∙ new))

    sym_closed : (parts w).gates sym_gate ≡ false
    sym_closed = ap (λ (q : Parts). q.gates sym_gate) parts_w

    place_in : pages (piece_place p.slot (slice_index payload 1)) ≡ true
    place_in = or_same (leb 2 (786 + 39 * p.slot + slice_index payload 1) && leb (786 + 39 * p.slot + slice_index payload 1) 4) (786 + 39 * p.slot + slice_index payload 1)
      where
        or_same : (a : Bool) (n : ℕ) → (a || eqb n n) ≡ true
        or_same true n = refl
        or_same false n = grind (arith, nat_tests)

    -- whatever bytes the page comes to hold
    spoilt : (bytes : List ℕ) → Keeps (parts w) (parts (with_page w (piece_place p.slot (slice_index payload 1)) bytes))
    spoilt bytes =
        subst (Keeps (parts w)) (sym (each_page_is_in_one_part.slot w.prog w.ext p.slot (slice_index payload 1) bytes low within))
        (slot_writing_keeps (parts w) p.slot _ stands_w.sound sym_closed unused)

    same_keeps : Keeps (parts w) (parts w)
    same_keeps = record { sound = stands_w.sound; chosen = λ c chooses. chooses }

    keeps : (needed : State → Type 0) (y : State) → MayHold needed (piece_place p.slot (slice_index payload 1)) w y → Kept pages w y
    keeps needed y may = record {
      pages = only_programs pages needed (piece_place p.slot (slice_index payload 1)) w w y (only_starts pages w) place_in may;
      prog = λ none. ⊎_elim (λ (same : y ≡ w). ap (λ (v : State). v.prog) same) (λ s. ap (λ (v : State). v.prog) s.1.is) may;
      keeps = ⊎_elim (λ (same : y ≡ w). subst (λ (v : State). Keeps (parts w) (parts v)) (sym same) same_keeps) (λ s. subst (λ (v : State). Keeps (parts w) (parts v)) (sym s.1.is) (spoilt s.1.bytes)) may;
    }

    -- and then the page
    pub puts_then : (needed : State → Type 0) (old mid new : View) → mid.state ≡ Some w → LeavesOnly (Serves t F z) 3 old mid
        → Programs needed (piece_place p.slot (slice_index payload 1)) mid new → LeavesOnly (Serves t F z) 4 old new
    puts_then needed old mid new told first program =
        next_part t F pages z inside (λ r page. refl) 3 1 w old mid new told first
        (programs (Kept pages w) 0 needed (piece_place p.slot (slice_index payload 1)) mid mid new w (starts (Kept pages w) mid w told (keeps needed w (inl refl))) told program (keeps needed))

    -- the page is there
    pub put_does : (x : State) (new : View) (a : Answer) → new.state ≡ Some x → x ≡ with_page w (piece_place p.slot (slice_index payload 1)) (filled_page (drop 2 payload))
        → slots_of x.ext ≡ set (slots_of w.ext) p.slot (with_page_of (slice_index payload 1) (drop 2 payload) (get_or (slots_of w.ext) p.slot []))
        → Of t payload ≡ record { mote = record t { store = set t.store p.slot (with_page_of (slice_index payload 1) (drop 2 payload) (get_or t.store p.slot [])); linked = false }; answer = a } → is_refusal a ≡ false
        → IsServed t F a z new
    put_does x new a told is slots row other =
        let one : parts (with_page w (piece_place p.slot (slice_index payload 1)) (filled_page (drop 2 payload))) ≡ record (parts w) { slots = _ } =
        each_page_is_in_one_part.slot w.prog w.ext p.slot (slice_index payload 1) (filled_page (drop 2 payload)) low within in
        let same : parts x ≡ record (parts w) { slots = slots_of x.ext } =
        ap parts is ∙ one ∙ ap (λ (s : List (List ℕ)). record (parts w) { slots = s }) (sym (ap (λ (q : Parts). q.slots) (ap parts is ∙ one))) in
        let store : t.store ≡ slots_of w.ext = stands_w.mote.store in
        let now : slots_of x.ext ≡ set t.store p.slot (with_page_of (slice_index payload 1) (drop 2 payload) (get_or t.store p.slot [])) =
        slots ∙ ap (λ (s : List (List ℕ)). set s p.slot (with_page_of (slice_index payload 1) (drop 2 payload) (get_or s p.slot []))) (sym store) in
        record {
          end = x;
          told = told;
          mote = subst (λ (v : MachineStep). StandsFor (parts x) v.mote) (sym row)
              (subst (λ (q : Parts). StandsFor q (record (unlinks t) { store = set t.store p.slot (with_page_of (slice_index payload 1) (drop 2 payload) (get_or t.store p.slot [])) })) (sym same)
              (subst (λ (s : List (List ℕ)). StandsFor (record (parts w) { slots = slots_of x.ext }) (record (unlinks t) { store = s })) now
              (resting_steps_stand.slot (parts w) (unlinks t) (slots_of x.ext) stands_w.mote)));
          answer = sym (ap (λ (v : MachineStep). v.answer) row);
          refused = λ refusal. absurd (false≢true (sym other ∙ refusal));
        }
