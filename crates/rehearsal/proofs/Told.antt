-- Lines that were sent, one more.
use Rattle.std.proofs.Common.{◌≡◌, ◌∙◌, inl, inr, codes, refl, sym, ap, subst, ℕ, suc, ◌+◌, ◌-◌, ◌*◌, ◌<◌, ◌≤◌, arith, Bool, true, false, List, [], ◌++◌, Some, append_assoc}
use Rattle.std.specs.Prelude.{◌==◌, ◌%◌, ◌/◌, Result, Ok, Err, OnOk, IfOk, is_ok}
use Rattle.update_laws.specs.Update.{Delivered, components_in}
use Rattle.drawn_releases.specs.Generator.{release_drawn}
use Rattle.std.proofs.lemmas.List.{append-nil}
use Rattle.std.proofs.lemmas.Bool.{false≢true}
use Rattle.std.proofs.lemmas.Bool.Decides.{nat_tests}
use Rattle.flash_pages.specs.State.{State}
use Rattle.flash_pages.specs.Board.{View}
use Rattle.rehearsal.specs.Lines.{TellsSet, IsLine, IsLineFor, IsCutLine, Tells, HasLines, SendsLines, SendsPiece}

pub owed_none : {A E : Type 0} (r : Result A E) (owed : List ℕ) → OnOk r (owed ≡ []) → is_ok r ≡ true → owed ≡ []
owed_none (Ok a) owed none is = none
owed_none (Err e) owed none is = absurd (false≢true is)

pub none_told : (number : ℕ) (s : State) (v : View) → v.state ≡ Some s → HasLines number 0 s v
none_told number s v told = record { lines = []; are = refl; end = s; told = told; sent = sym (append-nil s.sent) }

pub line_told : (number count : ℕ) (line : List ℕ) (s : State) (mid new : View) → HasLines number count s mid → IsLine number count line
    → ((z : State) → mid.state ≡ Some z → SendsPiece line true z new) → HasLines number (suc count) s new
line_told number count line s mid new has is sends =
    let piece = sends has.end has.told in
    record {
      lines = has.lines ++ line;
      are = (has.lines, line, has.are, is, refl);
      end = piece.end;
      told = piece.told;
      sent = sym (piece.sent ∙ ap (λ (owed : List ℕ). piece.end.sent ++ owed) (piece.whole refl) ∙ append-nil piece.end.sent)
          ∙ ap (λ (bytes : List ℕ). bytes ++ line) has.sent ∙ append_assoc s.sent has.lines line;
    }

-- it stops between two lines, in a line, or behind the last
pub stops : (number count status : ℕ) (s : State) (v : View) → count ≤ 41 → (status ≡ 0 → ⊥) → HasLines number count s v → SendsLines number status s v
stops number count status s v few other has = record {
  count = count;
  few = few;
  lines = has.lines;
  are = has.are;
  end = has.end;
  told = has.told;
  owed = [];
  sent = sym has.sent ∙ sym (append-nil has.end.sent);
  whole = λ done. absurd (other done);
}

pub stops_in_line : (number count status : ℕ) (line : List ℕ) (s : State) (mid new : View) → count + 1 ≤ 41 → (status ≡ 0 → ⊥) → HasLines number count s mid
    → IsLine number count line → ((z : State) → mid.state ≡ Some z → SendsPiece line false z new) → SendsLines number status s new
stops_in_line number count status line s mid new few other has is sends =
    let piece = sends has.end has.told in
    record {
      count = suc count;
      few = omega (arith, few);
      lines = has.lines ++ line;
      are = (has.lines, line, has.are, is, refl);
      end = piece.end;
      told = piece.told;
      owed = piece.owed;
      sent = sym (append_assoc s.sent has.lines line) ∙ ap (λ (bytes : List ℕ). bytes ++ line) (sym has.sent) ∙ piece.sent;
      whole = λ done. absurd (other done);
    }

pub ends : (number : ℕ) (s : State) (v : View) → HasLines number 41 s v → SendsLines number 0 s v
ends number s v has = record {
  count = 41;
  few = omega arith;
  lines = has.lines;
  are = has.are;
  end = has.end;
  told = has.told;
  owed = [];
  sent = sym has.sent ∙ sym (append-nil has.end.sent);
  whole = λ done. (refl, refl);
}

-- ---- which line it is

line_for : (b c : Bool) (number k r : ℕ) (line : List ℕ) (d : Bool) → b ≡ false → c ≡ d → k ≡ r → IsLineFor false d number r line → IsLineFor b c number k line
line_for b c number k r line d eb ec ek is =
    subst (λ x. IsLineFor x c number k line) (sym eb) (subst (λ y. IsLineFor false y number k line) (sym ec) (subst (λ z. IsLineFor false d number z line) (sym ek) is))

below_forty : (i : ℕ) → i < 40 → (i == 40) ≡ false
below_forty i small = grind (arith, nat_tests)

pub cut_is : (number i r : ℕ) (line : List ℕ) → 1 ≤ r → r ≤ 20 → i ≡ 2 * (r - 1) → IsCutLine number r line → IsLine number i line
cut_is number i r line some few is cut =
    let even : i % 2 ≡ 0 = omega (arith, is) in
    let place : i / 2 + 1 ≡ r = omega (arith, is, some) in
    let small : i < 40 = omega (arith, is, few) in
    line_for (i == 40) (i % 2 == 0) number (i / 2 + 1) r line true (below_forty i small) (ap (λ (n : ℕ). n == 0) even) place cut

pub boot_is : (number i r : ℕ) (line : List ℕ) → 1 ≤ r → r ≤ 20 → i ≡ 2 * (r - 1) + 1 → IsLineFor false false number r line → IsLine number i line
boot_is number i r line some few is boot =
    let odd : i % 2 ≡ 1 = omega (arith, is) in
    let place : i / 2 + 1 ≡ r = omega (arith, is, some) in
    let small : i < 40 = omega (arith, is, few, some) in
    line_for (i == 40) (i % 2 == 0) number (i / 2 + 1) r line false (below_forty i small) (ap (λ (n : ℕ). n == 0) odd) place boot

-- the line behind a cut, of the new release or of the one before
pub cut_new : {X E : Type 0} (bytes : X → List ℕ) (number next : ℕ) (news : List Delivered) (r : Result X E) → news ≡ (release_drawn number next).packages
    → IfOk r (λ v. TellsSet (codes "cut ") next (components_in news) (bytes v)) → IfOk r (λ v. IsCutLine number next (bytes v))
cut_new bytes number next news (Ok v) are tells =
    record { release = next; which = inr refl; tells = subst (λ (ds : List Delivered). TellsSet (codes "cut ") next (components_in ds) (bytes v)) are tells }
cut_new bytes number next news (Err e) are tells = tt

pub cut_old : {X E : Type 0} (bytes : X → List ℕ) (number before next : ℕ) (olds : List Delivered) (r : Result X E) → before + 1 ≡ next
    → olds ≡ (release_drawn number before).packages
    → IfOk r (λ v. TellsSet (codes "cut ") (next - 1) (components_in olds) (bytes v)) → IfOk r (λ v. IsCutLine number next (bytes v))
cut_old bytes number before next olds (Ok v) after are tells =
    let is : next - 1 ≡ before = omega (arith, after) in
    record {
      release = before;
      which = inl after;
      tells = subst (λ (ds : List Delivered). TellsSet (codes "cut ") before (components_in ds) (bytes v)) are
          (subst (λ (n : ℕ). TellsSet (codes "cut ") n (components_in olds) (bytes v)) is tells);
    }
cut_old bytes number before next olds (Err e) after are tells = tt

pub boot_told : (number next : ℕ) (news : List Delivered) (line : List ℕ) → news ≡ (release_drawn number next).packages
    → TellsSet (codes "boot ") next (components_in news) line → Tells (codes "boot ") number next line
boot_told number next news line are tells = subst (λ (ds : List Delivered). TellsSet (codes "boot ") next (components_in ds) line) are tells

-- ---- the two lines of release r

pub cut_line_is : (number r : ℕ) (line said : List ℕ) → 1 ≤ r → r ≤ 20 → line ≡ said → IsCutLine number r said → IsLine number (2 * (r - 1)) line
cut_line_is number r line said some few spelled is =
    cut_is number (2 * (r - 1)) r line some few refl (subst (λ (bytes : List ℕ). IsCutLine number r bytes) (sym spelled) is)

pub boot_line_is : (number r : ℕ) (line said : List ℕ) → 1 ≤ r → r ≤ 20 → line ≡ said → Tells (codes "boot ") number r said → IsLine number (suc (2 * (r - 1))) line
boot_line_is number r line said some few spelled is =
    boot_is number (suc (2 * (r - 1))) r line some few (omega arith) (subst (λ (bytes : List ℕ). Tells (codes "boot ") number r bytes) (sym spelled) is)

pub cut_told : (number r : ℕ) (line said : List ℕ) (s : State) (mid new : View) → 1 ≤ r → r ≤ 20 → HasLines number (2 * (r - 1)) s mid → line ≡ said
    → IsCutLine number r said → ((z : State) → mid.state ≡ Some z → SendsPiece line true z new) → HasLines number (suc (2 * (r - 1))) s new
cut_told number r line said s mid new some few has spelled is sends =
    line_told number (2 * (r - 1)) line s mid new has (cut_line_is number r line said some few spelled is) sends

pub both_told : (number r : ℕ) (line said : List ℕ) (s : State) (mid new : View) → 1 ≤ r → r ≤ 20 → HasLines number (suc (2 * (r - 1))) s mid → line ≡ said
    → Tells (codes "boot ") number r said → ((z : State) → mid.state ≡ Some z → SendsPiece line true z new) → HasLines number (2 * (r + 1 - 1)) s new
both_told number r line said s mid new some few has spelled is sends =
    let count : suc (suc (2 * (r - 1))) ≡ 2 * (r + 1 - 1) = omega (arith, some) in
    subst (λ (n : ℕ). HasLines number n s new) count
    (line_told number (suc (2 * (r - 1))) line s mid new has (boot_line_is number r line said some few spelled is) sends)

pub all_told : (number end : ℕ) (s : State) (v : View) → end ≡ 21 → HasLines number (2 * (end - 1)) s v → HasLines number 40 s v
all_told number end s v is has = subst (λ (n : ℕ). HasLines number (2 * (n - 1)) s v) is has
