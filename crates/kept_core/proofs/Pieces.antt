-- What PIECE does.
use Rattle.std.proofs.Common.{◌≡◌, ◌≢◌, inl, inr, ⊎_elim, ◌↔◌, IsTrue, ℕ, zero, suc, ◌+◌, ◌-◌, ◌*◌, ◌<◌, min, Bool, true, false, not, cond, eqb, ltb, leb, ◌&&◌, ◌||◌, List, [], ◌∷◌, length, take, drop, get_or, set, Option, Some, None, refl, sym, ap, ◌∙◌, subst, arith, slice_get}
use Rattle.std.specs.Prelude.{slice_index, slice_range, All}
use Rattle.std.specs.Option.{option_and_then}
use Rattle.std.proofs.lemmas.Bool.{cases_eq, and_parts, ltb-true, lt-ltb, eqb-true, false_from_ne_true, false≢true}
use Rattle.std.proofs.lemmas.Bool.Decides.{nat_tests}
use Rattle.std.specs.List.{concat}
use Rattle.std.proofs.lemmas.List.{length-take-le, length-drop, length-set, get_or-take, get_or-drop, get_or-set_same, get_or-set_other, same_lists, take_all}
use Rattle.std.proofs.lemmas.List.FromFn.{length-map-range_with_len}
use Rattle.std.proofs.lemmas.List.Elements.{All-take, All-drop}
use Rattle.flash_pages.specs.State.{State, Place, Prog, Ext, IsState, IsPage, page_at, with_page, MayHold, ext_pages}
use Rattle.flash_pages.specs.Board.{View, Programs}
use Rattle.flash_pages.specs.Moments.{LeavesOnly}
use Rattle.flash_pages.proofs.Runs.{starts, weaker, programs}
use Rattle.flash_pages.proofs.Pages.{only_starts, only_programs}
use Rattle.component_package.specs.declared.answer.Answer.{Answer}
use Rattle.component_package.specs.declared.answer.Answer.TheVariants as answers
use Rattle.kept_definitions.specs.Stored.{StoredRelease, Placed}
use Rattle.component_package.specs.mote.Page.{filled_page}
use Rattle.component_package.specs.mote.Store.{slots_of, slot_at, is_same}
use Rattle.kept_definitions.specs.Kept.{inbox_of}
use Rattle.kept_definitions.specs.Sides.{Parts, is_pending}
use Rattle.component_package.specs.mote.Sides.{sym as sym_gate}
use Rattle.kept_definitions.specs.Headline.{StandsFor}
use Rattle.component_package.specs.mote.Frames.{Frame}
use Rattle.kept_definitions.specs.Machine.{Mote, Step as MachineStep, step, refuses, take_piece, take_piece_of, store_piece}
use Rattle.component_package.specs.mote.Machine.{is_piece_of, with_page_of}
use Rattle.component_package.proofs.First.{passed}
use Rattle.component_package.proofs.StoredLemmas.{joined_slice}
use Rattle.component_store.specs.declared.set.StoreFault.{StoreFault}
use Rattle.component_store.specs.declared.set.StoreFault.TheVariants.{Page, PieceLength}
use Rattle.component_store.specs.Pieces.{piece_fault, piece_place}
use Rattle.component_store.proofs.SlotBytes.{slot_is}
use Rattle.kept_laws.specs.Steps.{Keeps}
use Rattle.mote_laws.specs.Runs.{is_refusal}
use Rattle.kept_laws.proofs.Steps.{writing_keeps}
use Rattle.kept_laws.proofs.Programs.{each_page_is_in_one_part}
use Rattle.mote_laws.proofs.Sets.{same_lists_are, is_same_itself}
use Rattle.kept_laws.proofs.Stands.{resting_steps_stand}
use Rattle.kept_journal.specs.Steps.{parts, Stands, Step, Takes, any_mote, unlinks, unlinked}
use Rattle.kept_core.specs.Reading.{frame_of}
use Rattle.kept_core.specs.Serving.{piece_pages, entry_of_piece, may_change, Serves, Kept, IsServed}
use Rattle.kept_core.proofs.Works.{Within, first_part, next_part, step_keeps}
use Rattle.kept_core.proofs.Rows.{resting_row}
use Rattle.kept_core.proofs.Below.{length-inbox, inbox_place}

-- ---- what fits a page

pub fits : (total page : ℕ) (bytes : List ℕ) → piece_fault total page (length bytes) ≡ None → is_piece_of total page bytes ≡ true
fits total page bytes none =
    let over = passed (leb total (256 * page)) Page _ none in
    grind (arith, nat_tests, over.0, piece_long (eqb (length bytes) (min (total - 256 * page) 256)) refl over.1)
  where
    piece_long : (b : Bool) → eqb (length bytes) (min (total - 256 * page) 256) ≡ b → cond b None (Some PieceLength) ≡ None → length bytes ≡ min (total - 256 * page) 256
    piece_long true is passed = eqb-true (length bytes) (min (total - 256 * page) 256) is
    piece_long false is passed = absurd (let q : ⊥ = cc in q)

pub unfit : (total page : ℕ) (bytes : List ℕ) (f : StoreFault) → piece_fault total page (length bytes) ≡ Some f → is_piece_of total page bytes ≡ false
unfit total page bytes f faulty = false_from_ne_true (is_piece_of total page bytes) (λ fits.
    let parts = and_parts (ltb (256 * page) total) (eqb (length bytes) (min 256 (total - 256 * page))) fits in
    let more : 256 * page < total = ltb-true (256 * page) total parts.0 in
    let long : length bytes ≡ min 256 (total - 256 * page) = eqb-true (length bytes) (min 256 (total - 256 * page)) parts.1 in
    let low : leb total (256 * page) ≡ false = grind (arith, nat_tests) in
    let same : eqb (length bytes) (min (total - 256 * page) 256) ≡ true = grind (arith, nat_tests) in
    let none : piece_fault total page (length bytes) ≡ None = rw (low, same) refl in
    let q : Some f ≡ None = sym faulty ∙ none in
    let r : ⊥ = cc in r)

-- ---- the page that is there

page_is : (s : State) → IsState s → (slot page : ℕ) → slot < 16 → page < 39
    → page_at s (piece_place slot page) ≡ slice_range (get_or (inbox_of s.ext) slot []) (256 * page) (256 * page + 256)
page_is s is slot page low within =
    let ext = s.ext in
    let first : ℕ = 786 + 39 * slot in
    let pages : All IsPage (take 39 (drop first ext)) = All-take IsPage 39 (drop first ext) (All-drop IsPage first ext is.ext_pages) in
    let count : length (take 39 (drop first ext)) ≡ 39 = length-take-le 39 (drop first ext) (omega (arith, length-drop first ext, is.ext)) in
    let joined = joined_slice (take 39 (drop first ext)) page 0 256 (λ k d lt. (pages k d lt).0) (omega (arith, count)) (omega arith) in
    let one : get_or (take 39 (drop first ext)) page [] ≡ get_or ext (first + page) [] = get_or-take 39 (drop first ext) page [] within ∙ get_or-drop first ext page [] in
    let long : length (get_or ext (first + page) []) ≡ 256 = (is.ext_pages (first + page) [] (omega (arith, is.ext))).0 in
    sym (
    ap (λ (b : List ℕ). slice_range b (256 * page) (256 * page + 256)) (inbox_place ext slot low)
    ∙ ap (λ (k : ℕ). slice_range (concat (take 39 (drop first ext))) k (k + 256)) (let e : 256 * page ≡ 256 * page + 0 = omega arith in e)
    ∙ joined
    ∙ ap (λ (p : List ℕ). take 256 p) one
    ∙ take_all 256 (get_or ext (first + page) []) (omega (arith, long))
    )

-- the page of a store's slot is this piece already
abbrev pub is_there : List (List ℕ) → ℕ → ℕ → List ℕ → Bool
is_there store slot page bytes = is_same (slice_range (get_or store slot []) (256 * page) (256 * page + 256)) (filled_page bytes)

any_default : (xs : List (List ℕ)) (k : ℕ) (d e : List ℕ) → k < length xs → get_or xs k d ≡ get_or xs k e
any_default [] k d e within = absurd (omega arith)
any_default (x ∷ xs) zero d e within = refl
any_default (x ∷ xs) (suc k) d e within = any_default xs k d e (omega arith)

slots_room : (ext : List (List ℕ)) (slot : ℕ) → slot < 16 → slot < length (slots_of ext)
unfolding slots_of
slots_room ext slot low = omega (arith, low, length-map-range_with_len (slot_at ext) 0 32)

-- it says whether the page is another
abbrev pub Differs : State → ℕ → ℕ → List ℕ → Bool → Type 0
Differs s slot page bytes d = IsTrue d ↔ (page_at s (piece_place slot page) ≢ filled_page bytes)

-- the slots of x are those of w with this piece put
abbrev pub PutSlots : State → ℕ → ℕ → List ℕ → State → Type 0
PutSlots w slot page bytes x = slots_of x.ext ≡ set (slots_of w.ext) slot (with_page_of page bytes (get_or (slots_of w.ext) slot []))

-- then the inbox of x is that of w with this piece put
put_inbox : (w x : State) (slot page : ℕ) (bytes : List ℕ) → slot < 16 → PutSlots w slot page bytes x
    → inbox_of x.ext ≡ set (inbox_of w.ext) slot (with_page_of page bytes (get_or (inbox_of w.ext) slot []))
put_inbox w x slot page bytes low put = same_lists (inbox_of x.ext) (set (inbox_of w.ext) slot new) (length-inbox x.ext ∙ sym (length-inbox w.ext) ∙ sym (length-set (inbox_of w.ext) slot new)) each
  where
    new : List ℕ
    new = with_page_of page bytes (get_or (inbox_of w.ext) slot [])

    old : List ℕ
    old = with_page_of page bytes (get_or (slots_of w.ext) slot [])

    in_row : (s : State) (k : ℕ) → k < 16 → get_or (inbox_of s.ext) k [] ≡ get_or (slots_of s.ext) k []
    in_row s k lt = inbox_place s.ext k lt ∙ sym (slot_is s.ext k (omega arith))

    there : (k : ℕ) → k < 16 → get_or (inbox_of x.ext) k [] ≡ get_or (set (inbox_of w.ext) slot new) k []
    there k lt =
        in_row x k lt ∙ ap (λ (l : List (List ℕ)). get_or l k []) put
        ∙ elim (cases_eq k slot) [
          | inl same ↦
              let long : slot < length (slots_of w.ext) = slots_room w.ext slot low in
              ap (λ (j : ℕ). get_or (set (slots_of w.ext) slot old) j []) same ∙ get_or-set_same (slots_of w.ext) slot old [] long
              ∙ ap (with_page_of page bytes) (sym (in_row w slot low))
              ∙ sym (ap (λ (j : ℕ). get_or (set (inbox_of w.ext) slot new) j []) same ∙ get_or-set_same (inbox_of w.ext) slot new [] (omega (arith, length-inbox w.ext)))
          | inr other ↦
              get_or-set_other (slots_of w.ext) slot k old [] other ∙ sym (in_row w k lt) ∙ sym (get_or-set_other (inbox_of w.ext) slot k new [] other)
        ]

    each : (k : ℕ) (d : List ℕ) → k < length (inbox_of x.ext) → get_or (inbox_of x.ext) k d ≡ get_or (set (inbox_of w.ext) slot new) k d
    each k d within =
        let lt : k < 16 = omega (arith, length-inbox x.ext) in
        any_default (inbox_of x.ext) k d [] within ∙ there k lt
        ∙ sym (any_default (set (inbox_of w.ext) slot new) k d [] (omega (arith, lt, length-inbox w.ext, length-set (inbox_of w.ext) slot new)))

-- of two lists that are the same or not
same_or_not : (d : Bool) (xs ys : List ℕ) → IsTrue d ↔ (xs ≢ ys) → is_same xs ys ≡ not d
same_or_not true xs ys differs = false_from_ne_true (is_same xs ys) (λ same. differs.0 refl (same_lists_are xs ys same))
same_or_not false xs ys differs = at (is_same xs ys) refl
  where
    at : (b : Bool) → is_same xs ys ≡ b → b ≡ true
    at true is = refl
    at false is = absurd (let q = differs.1 (λ same. false≢true (sym is ∙ ap (λ (p : List ℕ). is_same p ys) same ∙ is_same_itself ys)) in let r : ⊥ = cc in r)

pub same_page : (s : State) → IsState s → (slot page : ℕ) (bytes : List ℕ) (d : Bool) → slot < 16 → page < 39 → IsTrue d ↔ (page_at s (piece_place slot page) ≢ filled_page bytes)
    → is_same (slice_range (get_or (inbox_of s.ext) slot []) (256 * page) (256 * page + 256)) (filled_page bytes) ≡ not d
same_page s is slot page bytes d low within differs =
    ap (λ (p : List ℕ). is_same p (filled_page bytes)) (sym (page_is s is slot page low within)) ∙ same_or_not d (page_at s (piece_place slot page)) (filled_page bytes) differs

-- ---- rows

abbrev Of : Mote → List ℕ → MachineStep
Of t payload = step t (frame_of 2 payload)

pub piece_none : (t : Mote) (payload : List ℕ) → t.standing ≡ false → t.incoming ≡ None → Of t payload ≡ refuses t answers.NoManifest
piece_none t payload rests none = resting_row t _ rests ∙ ap (take_piece t payload) none

module _ (t : Mote) (payload : List ℕ) (m : StoredRelease) (rests : t.standing ≡ false) (coming : t.incoming ≡ Some m) where
  takes : Of t payload ≡ take_piece t payload (Some m)
  takes = resting_row t _ rests ∙ ap (take_piece t payload) coming

  pub piece_short : length payload < 3 → Of t payload ≡ refuses t answers.BadPiece
  piece_short short = takes ∙ ap (λ (b : Bool). cond b (refuses t answers.BadPiece) (take_piece_of t payload (slice_get m.placed (slice_index payload 0)))) (lt-ltb (length payload) 3 short)

  module _ (long : ltb (length payload) 3 ≡ false) where
    takes_of : (o : Option Placed) → slice_get m.placed (slice_index payload 0) ≡ o → Of t payload ≡ take_piece_of t payload o
    takes_of o is = takes ∙ ap (λ (b : Bool). cond b (refuses t answers.BadPiece) (take_piece_of t payload (slice_get m.placed (slice_index payload 0)))) long ∙ ap (take_piece_of t payload) is

    pub piece_no_entry : slice_get m.placed (slice_index payload 0) ≡ None → Of t payload ≡ refuses t answers.BadPiece
    piece_no_entry none = takes_of None none

    module _ (p : Placed) (here : slice_get m.placed (slice_index payload 0) ≡ Some p) where
      abbrev page : ℕ
      page = slice_index payload 1

      abbrev bytes : List ℕ
      bytes = drop 2 payload

      fitting : (b : Bool) → is_piece_of p.entry.length page bytes ≡ b
          → Of t payload ≡ cond b (store_piece t (slice_index payload 0) p page bytes) (refuses t answers.BadPiece)
      fitting b is = takes_of (Some p) here ∙ ap (λ (c : Bool). cond c (store_piece t (slice_index payload 0) p page bytes) (refuses t answers.BadPiece)) is

      pub piece_unfit : is_piece_of p.entry.length page bytes ≡ false → Of t payload ≡ refuses t answers.BadPiece
      piece_unfit is = fitting false is

      abbrev there : Bool
      there = is_same (slice_range (get_or t.inbox p.slot []) (256 * page) (256 * page + 256)) (filled_page bytes)

      abbrev done : Answer
      done = answers.Piece (slice_index payload 0) page

      abbrev stored : MachineStep
      stored = record { mote = record t { inbox = set t.inbox p.slot (with_page_of page bytes (get_or t.inbox p.slot [])); linked = false }; answer = done }

      pub piece_held : is_piece_of p.entry.length page bytes ≡ true → p.fresh ≡ false → Of t payload ≡ refuses t (answers.Held (slice_index payload 0))
      piece_held is held = fitting true is ∙ ap (λ (b : Bool). cond (not b) (refuses t (answers.Held (slice_index payload 0))) (cond there (refuses t done) stored)) held

      new_row : is_piece_of p.entry.length page bytes ≡ true → p.fresh ≡ true → Of t payload ≡ cond there (refuses t done) stored
      new_row is new = fitting true is ∙ ap (λ (b : Bool). cond (not b) (refuses t (answers.Held (slice_index payload 0))) (cond there (refuses t done) stored)) new

      pub piece_there : is_piece_of p.entry.length page bytes ≡ true → p.fresh ≡ true → there ≡ true → Of t payload ≡ refuses t done
      piece_there is new same = new_row is new ∙ ap (λ (b : Bool). cond b (refuses t done) stored) same

      pub piece_new : is_piece_of p.entry.length page bytes ≡ true → p.fresh ≡ true → there ≡ false → Of t payload ≡ stored
      piece_new is new other = new_row is new ∙ ap (λ (b : Bool). cond b (refuses t done) stored) other

-- ---- the work

module _ (z : State) (t : Mote) (m : StoredRelease) (p : Placed) (payload : List ℕ) (stands : Stands z t) (coming : t.incoming ≡ Some m)
    (here : slice_get m.placed (slice_index payload 0) ≡ Some p) (low : p.slot < 16) (within : slice_index payload 1 < 39) where
  abbrev F : Frame
  F = frame_of 2 payload

  abbrev pages : Place → Bool
  pages = piece_pages (Some p) (slice_index payload 1)

  entry_is : entry_of_piece t payload ≡ Some p
  entry_is = ap (option_and_then (λ (r : StoredRelease). slice_get r.placed (slice_index payload 0))) coming ∙ here

  inside : Within pages (may_change t z F)
  inside = subst (λ (o : Option Placed). Within pages (piece_pages o (slice_index payload 1))) (sym entry_is) (λ place out. out)

  no_gate : (place : Place) → pages place ≡ false → ext_pages 2 4 place ≡ false
  no_gate (Prog q) out = refl
  no_gate (Ext q) out = or_none (leb 2 q && leb q 4) (eqb q (786 + 39 * p.slot + slice_index payload 1)) out
    where
      or_none : (a b : Bool) → (a || b) ≡ false → a ≡ false
      or_none true b none = none
      or_none false b none = refl

  -- the gates are closed
  pub unlinks_first : (old mid : View) → Takes (Step any_mote (ext_pages 2 4) z) (ext_pages 2 4) 3 old mid → LeavesOnly (Serves t F z) 3 old mid
  unlinks_first old mid takes =
      first_part t F (ext_pages 2 4) z (λ place out. no_gate place (inside place out)) (λ rests page. refl) 3 3 old mid (omega arith) stands
      (weaker (Step any_mote (ext_pages 2 4) z) (Kept (ext_pages 2 4) z) 3 3 old mid (omega arith) (λ x took. step_keeps any_mote (ext_pages 2 4) t z x took stands tt) takes.leaves)

  module _ (rests : t.standing ≡ false) (w : State) (parts_w : parts w ≡ unlinked (parts z)) (stands_w : Stands w (unlinks t)) where
    rests_w : is_pending (parts w) ≡ false
    rests_w = sym stands_w.mote.standing ∙ rests

    sym_closed : (parts w).gates sym_gate ≡ false
    sym_closed = ap (λ (q : Parts). q.gates sym_gate) parts_w

    place_in : pages (piece_place p.slot (slice_index payload 1)) ≡ true
    place_in = or_same (leb 2 (786 + 39 * p.slot + slice_index payload 1) && leb (786 + 39 * p.slot + slice_index payload 1) 4) (786 + 39 * p.slot + slice_index payload 1)
      where
        or_same : (a : Bool) (n : ℕ) → (a || eqb n n) ≡ true
        or_same true n = refl
        or_same false n = grind (arith, nat_tests)

    -- whatever bytes the page comes to hold
    spoilt : (bytes : List ℕ) → Keeps (parts w) (parts (with_page w (piece_place p.slot (slice_index payload 1)) bytes))
    spoilt bytes =
        subst (Keeps (parts w)) (sym (each_page_is_in_one_part.inbox w.prog w.ext p.slot (slice_index payload 1) bytes low within))
        (writing_keeps.inbox (parts w) _ stands_w.sound rests_w sym_closed)

    same_keeps : Keeps (parts w) (parts w)
    same_keeps = record { sound = stands_w.sound; chosen = λ c chooses. chooses }

    keeps : (needed : State → Type 0) (y : State) → MayHold needed (piece_place p.slot (slice_index payload 1)) w y → Kept pages w y
    keeps needed y may = record {
      pages = only_programs pages needed (piece_place p.slot (slice_index payload 1)) w w y (only_starts pages w) place_in may;
      prog = λ none. ⊎_elim (λ (same : y ≡ w). ap (λ (v : State). v.prog) same) (λ s. ap (λ (v : State). v.prog) s.1.is) may;
      keeps = ⊎_elim (λ (same : y ≡ w). subst (λ (v : State). Keeps (parts w) (parts v)) (sym same) same_keeps) (λ s. subst (λ (v : State). Keeps (parts w) (parts v)) (sym s.1.is) (spoilt s.1.bytes)) may;
    }

    -- and then the page
    pub puts_then : (needed : State → Type 0) (old mid new : View) → mid.state ≡ Some w → LeavesOnly (Serves t F z) 3 old mid
        → Programs needed (piece_place p.slot (slice_index payload 1)) mid new → LeavesOnly (Serves t F z) 4 old new
    puts_then needed old mid new told first program =
        next_part t F pages z inside (λ r page. refl) 3 1 w old mid new told first
        (programs (Kept pages w) 0 needed (piece_place p.slot (slice_index payload 1)) mid mid new w (starts (Kept pages w) mid w told (keeps needed w (inl refl))) told program (keeps needed))

    -- the page is there
    pub put_does : (x : State) (new : View) (a : Answer) → new.state ≡ Some x → x ≡ with_page w (piece_place p.slot (slice_index payload 1)) (filled_page (drop 2 payload))
        → PutSlots w p.slot (slice_index payload 1) (drop 2 payload) x
        → Of t payload ≡ record { mote = record t { inbox = set t.inbox p.slot (with_page_of (slice_index payload 1) (drop 2 payload) (get_or t.inbox p.slot [])); linked = false }; answer = a } → is_refusal a ≡ false
        → IsServed t F a z new
    put_does x new a told is slots row other =
        let one : parts (with_page w (piece_place p.slot (slice_index payload 1)) (filled_page (drop 2 payload))) ≡ record (parts w) { inbox = _ } =
        each_page_is_in_one_part.inbox w.prog w.ext p.slot (slice_index payload 1) (filled_page (drop 2 payload)) low within in
        let same : parts x ≡ record (parts w) { inbox = inbox_of x.ext } =
        ap parts is ∙ one ∙ ap (λ (s : List (List ℕ)). record (parts w) { inbox = s }) (sym (ap (λ (q : Parts). q.inbox) (ap parts is ∙ one))) in
        let store : t.inbox ≡ inbox_of w.ext = stands_w.mote.inbox in
        let now : inbox_of x.ext ≡ set t.inbox p.slot (with_page_of (slice_index payload 1) (drop 2 payload) (get_or t.inbox p.slot [])) =
        put_inbox w x p.slot (slice_index payload 1) (drop 2 payload) low slots ∙ ap (λ (s : List (List ℕ)). set s p.slot (with_page_of (slice_index payload 1) (drop 2 payload) (get_or s p.slot []))) (sym store) in
        record {
          end = x;
          told = told;
          mote = subst (λ (v : MachineStep). StandsFor (parts x) v.mote) (sym row)
              (subst (λ (q : Parts). StandsFor q (record (unlinks t) { inbox = set t.inbox p.slot (with_page_of (slice_index payload 1) (drop 2 payload) (get_or t.inbox p.slot [])) })) (sym same)
              (subst (λ (s : List (List ℕ)). StandsFor (record (parts w) { inbox = inbox_of x.ext }) (record (unlinks t) { inbox = s })) now
              (resting_steps_stand.slot (parts w) (unlinks t) (inbox_of x.ext) stands_w.mote rests_w)));
          answer = sym (ap (λ (v : MachineStep). v.answer) row);
          refused = λ refusal. absurd (false≢true (sym other ∙ refusal));
        }
