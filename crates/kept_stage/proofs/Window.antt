-- One field after the other on one page.
use Rattle.std.proofs.Common.{rules, ◌≡◌, ℕ, zero, suc, ◌+◌, ◌-◌, ◌*◌, ◌<◌, ◌≤◌, ◌≢◌, inl, inr, Bool, true, false, cond, eqb, List, [], ◌∷◌, ◌++◌, length, get_or, take, replicate, Option, Some, None, pos, refl, sym, ap, subst, ◌∙◌, arith, length-append}
use Rattle.std.specs.Prelude.{◌||◌, slice_get, nat_le, nat_lt, bit_and, bit_or, ℤ, negsuc, ◌^◌, FitsSigned}
use Rattle.std.specs.List.{list_any, AllByRecursion}
use Rattle.std.proofs.lemmas.Bool.{cases_eq, eq-eqb, ne_eqb, cases_Bool, cases_lt, and_parts, leb-true, ltb-true, le-leb, lt-ltb, le-ltb, lt-leb}
use Rattle.std.proofs.lemmas.List.{take_more, get_or-replicate}
use Rattle.std.proofs.lemmas.List.Folds.{list_any-append}
use Rattle.std.proofs.lemmas.Option.{get_or_from_slice_get, slice_get_within, slice_get_past}
use Rattle.std.proofs.lemmas.Grind.{same_number_lists}
use Rattle.avr_reloc.specs.declared.fixup.Fixup.{Fixup}
use Rattle.avr_reloc.specs.Kind.{shape_of, width_of, fault_of}
use Rattle.std.specs.Int.{w32}
use Rattle.avr_reloc.specs.Field.{AreBytes, IsPatchOf, GivesBytes, IsNear}
use Rattle.avr_reloc.specs.declared.patch.Patch.{Patch}
use Rattle.avr_reloc.specs.Fixups.{end_of, covers, field_of, HasField, CanBePut, ArePut, AreApart}
use Rattle.avr_reloc.proofs.Fixups.{get_or-slice, length-field, AreBytes-slice, free}
use Rattle.component_package.proofs.Lists.{all_at}
use Rattle.component_package.specs.link.Areas.{FieldsRise, IsEntry, Lists}
use Rattle.component_package.specs.link.Pages.{padded, page_in, ArePatched}
use Rattle.link_laws.proofs.Own.{padded_bytes}
use Rattle.std.proofs.Math.Bool.{and-false}
use Rattle.std.proofs.Math.ListN.{get_or-append}
use Rattle.std.proofs.Math.Seq.{get_or-append_right}
use Rattle.kept_relocs.specs.List.{before, first_above}
use Rattle.kept_stage.specs.Windows.{byte_in, PatchesWindow, ArePassed}

-- ---- fields that rise

-- the fields before one end where it begins
rise_before : (xs : List Fixup) (low i : ℕ) (x : Fixup) → FieldsRise low xs → slice_get xs i ≡ Some x → (low ≤ x.place) × AllByRecursion (AreApart x) (take i xs)
rise_before [] low i x rise here = absurd cc
rise_before (y ∷ ys) low zero x rise here = let same : y ≡ x = cc in (subst (λ (z : Fixup). low ≤ z.place) same rise.0, tt)
rise_before (y ∷ ys) low (suc i) x rise here =
    let rest = rise_before ys (end_of y) i x rise.1 here in
    (omega (arith, rise.0, rest.0), (inl rest.0, rest.1))

covers-below : (x : Fixup) (at : ℕ) → at < x.place → covers at x ≡ false
covers-below x at lt = rw (lt-leb x.place at lt) refl

pub covers-behind : (x : Fixup) (at : ℕ) → end_of x ≤ at → covers at x ≡ false
covers-behind x at le = rw (le-ltb at (end_of x) le) (and-false (nat_le x.place at))

none_later : (xs : List Fixup) (low at : ℕ) → FieldsRise low xs → at < low → list_any (covers at) xs ≡ false
none_later [] low at rise lt = refl
none_later (x ∷ xs) low at rise lt =
    rw (covers-below x at (omega (arith, rise.0, lt)), none_later xs (end_of x) at rise.1 (omega (arith, rise.0, lt))) refl

-- what begins behind covers nothing before
pub ends : (xs : List Fixup) (low i end at : ℕ) → FieldsRise low xs → before end (slice_get xs i) ≡ None → at < end → list_any (covers at) (take i xs) ≡ list_any (covers at) xs
ends [] low zero end at rise none lt = refl
ends [] low (suc i) end at rise none lt = refl
ends (x ∷ xs) low zero end at rise none lt =
    elim (cases_lt x.place end) [
      | inl begins ↦ absurd (let b = lt-ltb x.place end begins in cc)
      | inr le ↦ sym (none_later (x ∷ xs) x.place at (omega arith, rise.1) (omega (arith, le, lt)))
    ]
ends (x ∷ xs) low (suc i) end at rise none lt = ap (λ (b : Bool). covers at x || b) (ends xs (end_of x) i end at rise.1 none lt)

-- ---- a page

-- the page, where the first i fields are patched
pub record IsDone (xs : List Fixup) (old w : List ℕ) (base i : ℕ) (page : List ℕ) : Type 0 where
  pub byte : (k : ℕ) → k < 256 → get_or page k 0 ≡ cond (list_any (covers (base + k)) (take i xs)) (get_or w (base + k) 0) (get_or old (base + k) 0)

take_one : (xs : List Fixup) (i : ℕ) (x : Fixup) → slice_get xs i ≡ Some x → take (i + 1) xs ≡ take i xs ++ x ∷ []
take_one xs i x here =
    take_more xs i x (slice_get_within xs i x here) ∙ ap (λ (y : Fixup). take i xs ++ y ∷ []) (get_or_from_slice_get xs i x x here)

any_one : (at : ℕ) (xs : List Fixup) (i : ℕ) (x : Fixup) → slice_get xs i ≡ Some x → list_any (covers at) (take (i + 1) xs) ≡ (list_any (covers at) (take i xs) || (covers at x || false))
any_one at xs i x here = ap (list_any (covers at)) (take_one xs i x here) ∙ list_any-append (covers at) (take i xs) (x ∷ [])

byte_of_field : (b : List ℕ) (x : Fixup) (at : ℕ) → covers at x ≡ true → get_or (field_of b x) (at - x.place) 0 ≡ get_or b at 0
byte_of_field b x at inside =
    let both = and_parts (nat_le x.place at) (nat_lt at (end_of x)) inside in
    let low = leb-true x.place at both.0 in
    let high = ltb-true at (end_of x) both.1 in
    let k : x.place + (at - x.place) ≡ at = omega (arith, low) in
    get_or-slice b x.place (end_of x) (at - x.place) (omega (arith, low, high)) ∙ ap (λ i. get_or b i 0) k

pub done_more : (xs : List Fixup) (old w page new : List ℕ) (base i : ℕ) (x : Fixup) → FieldsRise 0 xs → slice_get xs i ≡ Some x → AreBytes old → AreBytes w
    → length (field_of old x) ≡ width_of (shape_of x.kind)
    → ArePut xs old w → PatchesWindow x base page new → IsDone xs old w base i page → IsDone xs old w base (i + 1) new
done_more xs old w page new base i x rise here p q wide put patches done = record { byte = byte }
  where
    byte : (k : ℕ) → k < 256 → get_or new k 0 ≡ cond (list_any (covers (base + k)) (take (i + 1) xs)) (get_or w (base + k) 0) (get_or old (base + k) 0)
    byte k lt =
        let more = any_one (base + k) xs i x here in
        elim (cases_Bool (covers (base + k) x)) [
          | inl inside ↦
              let both = and_parts (nat_le x.place (base + k)) (nat_lt (base + k) (end_of x)) inside in
              let before_it : list_any (covers (base + k)) (take i xs) ≡ false = free x (take i xs) (base + k) (rise_before xs 0 i x rise here).1 (leb-true x.place (base + k) both.0)
              (ltb-true (base + k) (end_of x) both.1) in
              let was = rw before_it at (done.byte k lt) in
              let there = patches.inside k (field_of old x) (field_of w x) lt inside (AreBytes-slice old x.place (end_of x) p) (AreBytes-slice w x.place (end_of x) q) wide
              (all_at (HasField old w) xs i x put.fields here)
              (was ∙ sym (byte_of_field old x (base + k) inside)) in
              rw (more, before_it, inside) (there ∙ byte_of_field w x (base + k) inside)
          | inr outside ↦
              let same = patches.outside k lt outside in
              rw (more, outside) (same ∙ (rw (or_none (list_any (covers (base + k)) (take i xs))) (done.byte k lt)))
        ]
      where
        or_none : (b : Bool) → (b || (false || false)) ≡ b
        or_none true = refl
        or_none false = refl

-- at the end each byte is the patched one
pub page_done : (xs : List Fixup) (old w page : List ℕ) (base i : ℕ) → FieldsRise 0 xs → before (base + 256) (slice_get xs i) ≡ None → ArePut xs old w → IsDone xs old w base i page
    → (k : ℕ) → k < 256 → get_or page k 0 ≡ get_or w (base + k) 0
page_done xs old w page base i rise none put done k lt =
    let all = ends xs 0 i (base + 256) (base + k) rise none (omega (arith, lt)) in
    let here = rw all at (done.byte k lt) in
    here ∙ elim (cases_Bool (list_any (covers (base + k)) xs)) [ inl e ↦ rw e refl | inr e ↦ rw e (sym (put.plain (base + k) e)) ]

-- before the first field that reaches the page nothing is patched
pub done_start : (xs : List Fixup) (old w page : List ℕ) (base i : ℕ) → ArePassed xs base i → ((k : ℕ) → k < 256 → get_or page k 0 ≡ get_or old (base + k) 0) → IsDone xs old w base i page
done_start xs old w page base i passed each = record { byte = λ k lt. rw (passed (base + k) (le-leb base (base + k) (omega arith))) (each k lt) }

-- ---- fields that are passed

none_up_to : (xs : List Fixup) (low at i : ℕ) (x : Fixup) → FieldsRise low xs → slice_get xs i ≡ Some x → end_of x ≤ at → list_any (covers at) (take (suc i) xs) ≡ false
none_up_to [] low at i x rise here le = absurd cc
none_up_to (y ∷ ys) low at zero x rise here le = let same : y ≡ x = cc in rw (covers-behind y at (subst (λ (z : Fixup). end_of z ≤ at) (sym same) le)) refl
none_up_to (y ∷ ys) low at (suc i) x rise here le =
    let before_x = (rise_before ys (end_of y) i x rise.1 here).0 in
    rw (covers-behind y at (omega (arith, before_x, le)), none_up_to ys (end_of y) at i x rise.1 here le) refl

-- a field that ends at or below `base`, and all before it
pub passed_next : (xs : List Fixup) (base i : ℕ) (x : Fixup) → FieldsRise 0 xs → slice_get xs i ≡ Some x → end_of x ≤ base → ArePassed xs base (i + 1)
passed_next xs base i x rise here le at above =
    let one : suc i ≡ i + 1 = omega arith in
    subst (λ (n : ℕ). list_any (covers at) (take n xs) ≡ false) one (none_up_to xs 0 at i x rise here (omega (arith, le, leb-true base at above)))

-- what is passed stays passed
pub passed_later : (xs : List Fixup) (base later i : ℕ) → base ≤ later → ArePassed xs base i → ArePassed xs later i
passed_later xs base later i le passed at above = passed at (le-leb base at (omega (arith, le, leb-true later at above)))

-- at the list's start nothing has to be passed
pub starts_passed : (xs : List Fixup) (base : ℕ) → ArePassed xs base 0
starts_passed xs base at above = refl

take_one_more : (n : ℕ) (x : Fixup) (xs : List Fixup) → take (1 + n) (x ∷ xs) ≡ x ∷ take n xs
take_one_more n x xs = let e : suc n ≡ 1 + n = omega arith in subst (λ (m : ℕ). take m (x ∷ xs) ≡ x ∷ take n xs) e refl

-- the fields before the first that ends above `base`
passed_above : (xs : List Fixup) (base at : ℕ) → base ≤ at → list_any (covers at) (take (first_above base xs) xs) ≡ false
passed_above [] base at le = refl
passed_above (x ∷ xs) base at le =
    elim (cases_Bool (nat_le (end_of x) base)) [
      | inl e ↦ let gone = covers-behind x at (omega (arith, le, leb-true (end_of x) base e)) in rw (e, take_one_more (first_above base xs) x xs, gone) (passed_above xs base at le)
      | inr e ↦ rw e refl
    ]

pub passed_first : (xs : List Fixup) (base i : ℕ) → i ≡ first_above base xs → ArePassed xs base i
passed_first xs base i is at above = ap (λ (n : ℕ). list_any (covers at) (take n xs)) is ∙ passed_above xs base at (leb-true base at above)

-- ---- one field

-- one byte more
pub byte_more : (keep set : List ℕ) (from n at first now new : ℕ) → now ≡ byte_in keep set from n at first
    → new ≡ cond (eqb at (from + n)) (bit_or (bit_and now (get_or keep n 0)) (get_or set n 0)) now → new ≡ byte_in keep set from (n + 1) at first
byte_more keep set from n at first now new was is =
    elim (cases_eq at (from + n)) [
      | inl same ↦
          let behind : nat_lt at (from + n) ≡ false = le-ltb at (from + n) (omega (arith, same)) in
          let kept : now ≡ first = rw (behind, and-false (nat_le from at)) at was in
          let low : nat_le from at ≡ true = le-leb from at (omega (arith, same)) in
          let high : nat_lt at (from + (n + 1)) ≡ true = lt-ltb at (from + (n + 1)) (omega (arith, same)) in
          let k : at - from ≡ n = omega (arith, same) in
          is ∙ rw (eq-eqb at (from + n) same, low, high, k, kept) refl
      | inr other ↦ is ∙ rw (ne_eqb at (from + n) other) (was ∙ same_test other)
    ]
  where
    same_test : at ≢ from + n → byte_in keep set from n at first ≡ byte_in keep set from (n + 1) at first
    same_test other = elim (cases_lt at (from + n)) [
      | inl lt ↦ rw (lt-ltb at (from + n) lt, lt-ltb at (from + (n + 1)) (omega (arith, lt))) refl
      | inr le ↦ rw (le-ltb at (from + n) le, le-ltb at (from + (n + 1)) (omega (arith, le, other))) refl
    ]

-- a whole patch
pub window_patched : (x : Fixup) (base : ℕ) (p : Patch) (old new : List ℕ) → IsPatchOf x.kind x.s_plus_a (pos x.place) p → GivesBytes x.kind x.s_plus_a (pos x.place) p
    → ((k : ℕ) → k < 256 → get_or new k 0 ≡ byte_in p.keep p.set x.place p.width (base + k) (get_or old k 0)) → PatchesWindow x base old new
window_patched x base p old new is gives each = record {
  outside = λ k lt out. each k lt ∙ rw (is.width, out) refl;
  inside = λ k q f lt inside q_bytes f_bytes wide field was.
      let both = and_parts (nat_le x.place (base + k)) (nat_lt (base + k) (end_of x)) inside in
      let in_field : base + k - x.place < width_of (shape_of x.kind) = omega (arith, leb-true x.place (base + k) both.0, ltb-true (base + k) (end_of x) both.1) in
      each k lt ∙ rw (is.width, inside) (ap (λ (o : ℕ). bit_or (bit_and o (get_or p.keep (base + k - x.place) 0)) (get_or p.set (base + k - x.place) 0)) was
      ∙ gives q q f q_bytes f_bytes wide refl field (base + k - x.place) in_field);
}

-- ---- the bytes behind

pub padded_in : (plain : List ℕ) (at : ℕ) → at < length plain → get_or plain at 0 ≡ get_or (padded plain) at 0
padded_in plain at lt = sym (get_or-append plain (replicate (122880 - length plain) 255) 0 at lt)

pub padded_past : (plain : List ℕ) (at : ℕ) → length plain ≤ at → at < 122880 → 255 ≡ get_or (padded plain) at 0
padded_past plain at le lt = sym (get_or-append_right plain (replicate (122880 - length plain) 255) at 0 le
    ∙ get_or-replicate {A = ℕ} (122880 - length plain) (at - length plain) 255 0 (omega (arith, le, lt)))

pub before_some : (o : Option Fixup) (end : ℕ) (x : Fixup) → Some x ≡ before end o → o ≡ Some x
before_some None end x e = absurd cc
before_some (Some y) end x e = elim (cases_Bool (nat_lt y.place end)) [ inl f ↦ sym (rw f at e) | inr f ↦ absurd (let g = rw f at e in cc) ]

-- an entry of a list that fits
pub record IsAmong (xs : List Fixup) (plain : List ℕ) (i : ℕ) (x : Fixup) : Type 0 where
  pub here : slice_get xs i ≡ Some x
  pub near : IsNear x.s_plus_a
  pub place : x.place < 2 ^ 24
  pub possible : fault_of x.kind x.s_plus_a (pos x.place) ≡ None
  pub wide : length (field_of (padded plain) x) ≡ width_of (shape_of x.kind)

pub near : (z : ℤ) → FitsSigned w32 z → IsNear z
near (pos n) fits = (search rules, search rules)
near (negsuc n) fits = (grind arith, grind arith)

pub among : (b : List ℕ) (xs : List Fixup) (plain : List ℕ) (end i : ℕ) (x : Fixup) → Lists b xs → AllByRecursion (CanBePut (length plain)) xs → Some x ≡ before end (slice_get xs i)
    → IsAmong xs plain i x
among b xs plain end i x l fits is =
    let here = before_some (slice_get xs i) end x is in
    let entry = all_at IsEntry xs i x l.entries here in
    let fit = all_at (CanBePut (length plain)) xs i x fits here in
    record {
      here = here;
      near = near x.s_plus_a entry.sum;
      place = entry.place;
      possible = fit.possible;
      wide = length-field (padded plain) x.place (width_of (shape_of x.kind)) (omega (arith, fit.room, length-append plain (replicate (122880 - length plain) 255)));
    }

-- the next field of a page
pub next_done : (b : List ℕ) (xs : List Fixup) (plain w page new : List ℕ) (base end i : ℕ) (x : Fixup) → Lists b xs → AllByRecursion (CanBePut (length plain)) xs
    → Some x ≡ before end (slice_get xs i) → AreBytes plain → AreBytes w
    → ArePatched xs plain w → PatchesWindow x base page new → IsDone xs (padded plain) w base i page → IsDone xs (padded plain) w base (i + 1) new
next_done b xs plain w page new base end i x l fits is p q put patches done =
    let a = among b xs plain end i x l fits is in
    done_more xs (padded plain) w page new base i x l.rise a.here (padded_bytes plain p) q a.wide put patches done

pub before_past : (xs : List Fixup) (end i : ℕ) → length xs ≤ i → before end (slice_get xs i) ≡ None
before_past xs end i past = ap (before end) (slice_get_past xs i past)

-- a page by its bytes
pub page_of_whole : (w page : List ℕ) (p : ℕ) → length page ≡ 256 → length w ≡ 122880 → p < 480 → ((k : ℕ) → k < 256 → get_or page k 0 ≡ get_or w (256 * p + k) 0) → page ≡ page_in w p
page_of_whole w page p wide whole low each =
    same_number_lists page (page_in w p) (wide ∙ sym (length-field w (256 * p) 256 (omega (arith, whole, low))))
    (λ k lt. each k (omega (arith, lt, wide)) ∙ sym (get_or-slice w (256 * p) (256 * p + 256) k (omega (arith, lt, wide))))
