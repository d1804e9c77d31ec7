-- One more change of a board that keeps its changes.
use Rattle.std.proofs.Common.{◌≡◌, ◌≢◌, ◌⊎◌, inl, inr, ⊎_elim, ℕ, ◌≤◌, true, false, List, [], ◌∷◌, ◌++◌, Some, Result, Ok, Err, OnOk, OnErr, is_err, length, refl, sym, ◌∙◌, ap, subst, arith, get_or, take, reverse}
use Rattle.std.proofs.Math.Nat.{lt_irrefl}
use Rattle.std.proofs.lemmas.Bool.Decides.{nat_tests}
use Rattle.std.proofs.lemmas.Option.{same_Some}
use Rattle.std.proofs.lemmas.List.{set-set, set-get_or, reverse-append, take_at, drop_at, take_all, append-nil}
use Rattle.flash_pages.specs.State.{State, Place, Prog, Ext, IsPage, Spoils, MayHold, always, page_at, with_page, with_sent, SendsPart}
use Rattle.flash_pages.specs.Board.{View, Elapses, Programs, IsProgrammed, UsesLine}
use Rattle.flash_pages.specs.Log.{Forms, undo, Inside, LeftSince, is_program, is_program_of, count_changes, logged_view}
use Rattle.flash_pages.specs.declared.board.Failed.{Failed}
use Rattle.flash_pages.specs.declared.log.Change.{Change}
use Rattle.flash_pages.specs.declared.log.Change.TheVariants.{ProgHeld, ExtHeld, SentSoFar}

-- what a program of this page takes the place of
abbrev pub held : Place → State → Change
held (Prog page) s = ProgHeld page (page_at s (Prog page))
held (Ext page) s = ExtHeld page (page_at s (Ext page))

undo-held : (place : Place) (s : State) (bytes : List ℕ) → undo (with_page s place bytes) (held place s) ≡ s
undo-held (Prog page) s bytes = λ i. record s { prog = (set-set s.prog page bytes (get_or s.prog page []) ∙ set-get_or s.prog page []) i }
undo-held (Ext page) s bytes = λ i. record s { ext = (set-set s.ext page bytes (get_or s.ext page []) ∙ set-get_or s.ext page []) i }

inside_held : (place : Place) (s before after x : State) → Inside (held place s) before after x → Spoils place before x
inside_held (Prog page) s before after x inside = inside
inside_held (Ext page) s before after x inside = inside

held_inside : (place : Place) (s before after x : State) → Spoils place before x → Inside (held place s) before after x
held_inside (Prog page) s before after x spoilt = spoilt
held_inside (Ext page) s before after x spoilt = spoilt

is_program-held : (place : Place) (s : State) → is_program (held place s) ≡ true
is_program-held (Prog page) s = refl
is_program-held (Ext page) s = refl

is_program_of-held : (place : Place) (s : State) → is_program_of place (held place s) ≡ true
is_program_of-held (Prog page) s = grind (arith, nat_tests)
is_program_of-held (Ext page) s = grind (arith, nat_tests)

is_program_of-other : (other place : Place) (s : State) → other ≢ place → is_program_of other (held place s) ≡ false
is_program_of-other (Prog p) (Prog page) s apart = let numbers : p ≢ page = λ e. apart (ap Prog e) in grind (arith, nat_tests)
is_program_of-other (Ext p) (Ext page) s apart = let numbers : p ≢ page = λ e. apart (ap Ext e) in grind (arith, nat_tests)
is_program_of-other (Prog p) (Ext page) s apart = refl
is_program_of-other (Ext p) (Prog page) s apart = refl

module _ (s : State) (sizes : Forms s) (left : List ℕ) (log : List Change) (flash line : ℕ) where
  abbrev old : View
  old = logged_view s sizes left log flash line

  -- a call that failed before it did anything
  pub failed_programs : (place : Place) (new_sizes : Forms s) (new_flash : ℕ) → flash ≤ new_flash → Programs always place old (logged_view s new_sizes left log new_flash line)
  failed_programs place new_sizes new_flash more = record {
    state = λ x is. (x, is, inl refl);
    cut = record { later = omega arith; nothing_else = λ x y t is le was. inl was; keeps = λ x t le was. was };
    others = λ x other is apart. refl;
    at_most = λ x is. (omega arith, omega arith);
    no_less = λ x is. (omega arith, omega arith);
    none = λ x is free. (refl, refl);
    spoils = λ x y t is le counted spoilt. absurd (lt_irrefl (count_changes (is_program_of place) log) counted);
    uses = record { untold = λ none. none; left = refl; line = refl; flash = more };
  }

  module _ (place : Place) (bytes : List ℕ) (whole : IsPage bytes) where
    elapses : (new_sizes : Forms (with_page s place bytes)) (new_flash : ℕ) → Elapses old (logged_view (with_page s place bytes) new_sizes left (held place s ∷ log) new_flash line) (MayHold always place)
    elapses new_sizes new_flash = record {
      later = omega arith;
      nothing_else = λ x y t is le. split x y t is;
      keeps = λ x t le was. inr (le, inr (subst (λ z. LeftSince z log t x) (sym (undo-held place s bytes)) was));
    }
      where
        spoilt : (x y : State) → Some s ≡ Some x → Spoils place s y → MayHold always place x y
        spoilt x y is here = inr (tt, subst (λ z. Spoils place z y) (same_Some s x is) here)

        split : (x y : State) (t : ℕ) → Some s ≡ Some x → LeftSince (with_page s place bytes) (held place s ∷ log) t y → LeftSince s log t y ⊎ MayHold always place x y
        split x y t is (inl now) = inr (spoilt x y is (record { bytes = bytes; whole = whole; is = now }))
        split x y t is (inr past) = ⊎_elim
            (λ inside. inr (spoilt x y is (subst (λ z. Spoils place z y) (undo-held place s bytes) (inside_held place s (undo (with_page s place bytes) (held place s)) (with_page s place bytes) y inside))))
            (λ was. inl (subst (λ z. LeftSince z log t y) (undo-held place s bytes) was))
            past.1

    pub programs_logged : (new_sizes : Forms (with_page s place bytes)) (new_flash : ℕ) → flash ≤ new_flash → Programs always place old (logged_view (with_page s place bytes) new_sizes left (held place s ∷ log) new_flash line)
    programs_logged new_sizes new_flash more = record {
      state = λ x is. (with_page s place bytes, refl, inr (tt, subst (λ z. Spoils place z (with_page s place bytes)) (same_Some s x is) (record { bytes = bytes; whole = whole; is = refl })));
      cut = elapses new_sizes new_flash;
      others = λ x other is apart. rw (is_program_of-other other place s apart) (omega arith);
      at_most = λ x is. (rw (is_program_of-held place s) (omega arith), rw (is_program-held place s) (omega arith));
      no_less = λ x is. (rw (is_program_of-held place s) (omega arith), rw (is_program-held place s) (omega arith));
      none = λ x is free. absurd (free tt);
      spoils = λ x y t is le counted spoilt.
          let was : undo (with_page s place bytes) (held place s) ≡ x = undo-held place s bytes ∙ same_Some s x is in
          inr (le, inl (held_inside place s (undo (with_page s place bytes) (held place s)) (with_page s place bytes) y (subst (λ z. Spoils place z y) (sym was) spoilt)));
      uses = record { untold = λ none. absurd (cc none); left = refl; line = refl; flash = more };
    }

    pub is_programmed_logged : (new_sizes : Forms (with_page s place bytes)) → IsProgrammed place bytes old (logged_view (with_page s place bytes) new_sizes left (held place s ∷ log) flash line)
    is_programmed_logged new_sizes = record {
      state = λ x is. ap (λ z. Some (with_page z place bytes)) (same_Some s x is);
      programs = λ x is. rw (is_program_of-held place s) (omega arith);
      all_programs = λ x is. rw (is_program-held place s) (omega arith);
    }

-- the same, whether the change was made or there was no room for it
pub programs_result : (place : Place) (s new_s : State) (sizes : Forms s) (new_sizes : Forms new_s) (left bytes : List ℕ) (items new_items : List Change) (flash new_flash line : ℕ) (change : Change) (result : Result (Unit {0}) Failed)
    → IsPage bytes → change ≡ held place s → flash ≤ new_flash
    → OnOk result (new_s ≡ with_page s place bytes) → OnOk result (new_items ≡ items ++ change ∷ []) → OnErr result (new_s ≡ s) → OnErr result (new_items ≡ items)
    → Programs always place (logged_view s sizes left (reverse items) flash line) (logged_view new_s new_sizes left (reverse new_items) new_flash line)
programs_result place s new_s sizes new_sizes left bytes items new_items flash new_flash line change (Ok u) whole change_is more state_is items_are _ _ =
    let old = logged_view s sizes left (reverse items) flash line in
    let reversed : reverse new_items ≡ held place s ∷ reverse items = ap reverse items_are ∙ reverse-append items (change ∷ []) ∙ ap (λ c. c ∷ reverse items) change_is in
    let To : State → Type 0 = λ x. (z : Forms x) → Programs always place old (logged_view x z left (reverse new_items) new_flash line) in
    subst To (sym state_is)
    (λ z. subst (λ (l : List Change). Programs always place old (logged_view (with_page s place bytes) z left l new_flash line)) (sym reversed) (programs_logged s sizes left (reverse items) flash line place bytes whole z new_flash more))
    new_sizes
programs_result place s new_s sizes new_sizes left bytes items new_items flash new_flash line change (Err e) whole change_is more _ _ state_is items_are =
    let old = logged_view s sizes left (reverse items) flash line in
    let To : State → Type 0 = λ x. (z : Forms x) → Programs always place old (logged_view x z left (reverse new_items) new_flash line) in
    subst To (sym state_is)
    (λ z. subst (λ (l : List Change). Programs always place old (logged_view s z left (reverse l) new_flash line)) (sym items_are) (failed_programs s sizes left (reverse items) flash line place z new_flash more))
    new_sizes

pub programmed_result : (wanted : List ℕ) (place : Place) (s new_s : State) (sizes : Forms s) (new_sizes : Forms new_s) (left bytes : List ℕ) (items new_items : List Change) (flash line : ℕ) (change : Change)
    → bytes ≡ wanted → IsPage bytes → change ≡ held place s → new_s ≡ with_page s place bytes → new_items ≡ items ++ change ∷ []
    → IsProgrammed place wanted (logged_view s sizes left (reverse items) flash line) (logged_view new_s new_sizes left (reverse new_items) flash line)
programmed_result wanted place s new_s sizes new_sizes left bytes items new_items flash line change wanted_is whole change_is state_is items_are =
    let old = logged_view s sizes left (reverse items) flash line in
    let reversed : reverse new_items ≡ held place s ∷ reverse items = ap reverse items_are ∙ reverse-append items (change ∷ []) ∙ ap (λ c. c ∷ reverse items) change_is in
    let To : State → Type 0 = λ x. (z : Forms x) → IsProgrammed place bytes old (logged_view x z left (reverse new_items) flash line) in
    subst (λ w. IsProgrammed place w old (logged_view new_s new_sizes left (reverse new_items) flash line)) wanted_is (subst To (sym state_is)
    (λ z. subst (λ (l : List Change). IsProgrammed place bytes old (logged_view (with_page s place bytes) z left l flash line)) (sym reversed) (is_programmed_logged s sizes left (reverse items) flash line place bytes whole z))
    new_sizes)

pub at_ok : {P : Type 0} (result : Result (Unit {0}) Failed) → false ≡ is_err result → OnOk result P → P
at_ok (Ok u) is here = here
at_ok (Err e) is here = absurd (cc is)

-- one more piece sent
module _ (s : State) (sizes : Forms s) (left : List ℕ) (log : List Change) (flash line : ℕ) (piece : List ℕ) where
  undo_sent : undo (with_sent s piece) (SentSoFar (length s.sent)) ≡ s
  undo_sent = λ i. record s { sent = take_at s.sent piece (length s.sent) refl i }

  inside_sent : (x : State) → Inside (SentSoFar (length s.sent)) (undo (with_sent s piece) (SentSoFar (length s.sent))) (with_sent s piece) x → SendsPart piece s x
  inside_sent x inside = record {
    count = inside.0;
    is = inside.1 ∙ (λ i. with_sent (undo_sent i) (take inside.0 (drop_at s.sent piece (length s.sent) refl i)));
  }

  pub sends_logged : (new_sizes : Forms (with_sent s piece)) (new_line : ℕ) → line ≤ new_line → UsesLine (SendsPart piece) (logged_view s sizes left log flash line) (logged_view (with_sent s piece) new_sizes left (SentSoFar (length s.sent) ∷ log) flash new_line)
  sends_logged new_sizes new_line more = record {
    untold = λ none. absurd (cc none);
    untold_left = λ none. absurd (cc none);
    cut = record {
      later = omega arith;
      nothing_else = λ x y t is le. split x y t is;
      keeps = λ x t le was. inr (le, inr (subst (λ z. LeftSince z log t x) (sym undo_sent) was));
    };
    programs = λ place. count place;
    all_programs = omega arith;
    line = more;
    flash = refl;
  }
    where
      count : (place : Place) → count_changes (is_program_of place) (SentSoFar (length s.sent) ∷ log) ≡ count_changes (is_program_of place) log
      count (Prog page) = omega arith
      count (Ext page) = omega arith

      part : (x y : State) → Some s ≡ Some x → SendsPart piece s y → SendsPart piece x y
      part x y is here = subst (λ z. SendsPart piece z y) (same_Some s x is) here

      split : (x y : State) (t : ℕ) → Some s ≡ Some x → LeftSince (with_sent s piece) (SentSoFar (length s.sent) ∷ log) t y → LeftSince s log t y ⊎ SendsPart piece x y
      split x y t is (inl now) = inr (part x y is (record { count = length piece; is = now ∙ ap (λ (l : List ℕ). with_sent s l) (sym (take_all (length piece) piece (omega arith))) }))
      split x y t is (inr past) = ⊎_elim
          (λ inside. inr (part x y is (inside_sent y inside)))
          (λ was. inl (subst (λ z. LeftSince z log t y) undo_sent was))
          past.1

  pub failed_sends : (new_sizes : Forms s) (new_line : ℕ) → line ≤ new_line → UsesLine (SendsPart piece) (logged_view s sizes left log flash line) (logged_view s new_sizes left log flash new_line)
  failed_sends new_sizes new_line more = record {
    untold = λ none. none;
    untold_left = λ none. none;
    cut = record { later = omega arith; nothing_else = λ x y t is le was. inl was; keeps = λ x t le was. was };
    programs = λ place. refl;
    all_programs = refl;
    line = more;
    flash = refl;
  }

pub sends_result : (s new_s : State) (sizes : Forms s) (new_sizes : Forms new_s) (left : List ℕ) (items new_items : List Change) (flash line new_line : ℕ) (piece : List ℕ) (result : Result (Unit {0}) Failed)
    → line ≤ new_line
    → OnOk result (new_s ≡ with_sent s piece) → OnOk result (new_items ≡ items ++ SentSoFar (length s.sent) ∷ []) → OnErr result (new_s ≡ s) → OnErr result (new_items ≡ items)
    → UsesLine (SendsPart piece) (logged_view s sizes left (reverse items) flash line) (logged_view new_s new_sizes left (reverse new_items) flash new_line)
sends_result s new_s sizes new_sizes left items new_items flash line new_line piece (Ok u) more state_is items_are _ _ =
    let old = logged_view s sizes left (reverse items) flash line in
    let reversed : reverse new_items ≡ SentSoFar (length s.sent) ∷ reverse items = ap reverse items_are ∙ reverse-append items (SentSoFar (length s.sent) ∷ []) in
    let To : State → Type 0 = λ x. (z : Forms x) → UsesLine (SendsPart piece) old (logged_view x z left (reverse new_items) flash new_line) in
    subst To (sym state_is)
    (λ z. subst (λ (l : List Change). UsesLine (SendsPart piece) old (logged_view (with_sent s piece) z left l flash new_line)) (sym reversed) (sends_logged s sizes left (reverse items) flash line piece z new_line more))
    new_sizes
sends_result s new_s sizes new_sizes left items new_items flash line new_line piece (Err e) more _ _ state_is items_are =
    let old = logged_view s sizes left (reverse items) flash line in
    let To : State → Type 0 = λ x. (z : Forms x) → UsesLine (SendsPart piece) old (logged_view x z left (reverse new_items) flash new_line) in
    subst To (sym state_is)
    (λ z. subst (λ (l : List Change). UsesLine (SendsPart piece) old (logged_view s z left (reverse l) flash new_line)) (sym items_are) (failed_sends s sizes left (reverse items) flash line piece z new_line more))
    new_sizes

pub sends_nothing : (s x y : State) (piece : List ℕ) → Some s ≡ Some x → y ≡ s → (z : State) × (Some y ≡ Some z) × SendsPart piece x z
sends_nothing s x y piece is same = (y, refl, record { count = 0; is = same ∙ same_Some s x is ∙ sym (nothing x) })
  where
    nothing : (x : State) → with_sent x (take 0 piece) ≡ x
    nothing x = λ i. record x { sent = append-nil x.sent i }

pub at_err : {P : Type 0} (result : Result (Unit {0}) Failed) → true ≡ is_err result → OnErr result P → P
at_err (Ok u) is here = absurd (cc is)
at_err (Err e) is here = here
