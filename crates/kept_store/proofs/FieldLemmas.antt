-- Fields of a component rise, so those before a window of a part stand in front, and those behind it at the end.
use Rattle.std.proofs.Common.{◌≡◌, inl, inr, ℕ, zero, suc, ◌+◌, ◌-◌, ◌<◌, ◌≤◌, Bool, true, false, cond, Some, List, [], ◌∷◌, length, take, get_or, refl, sym, ap, subst, ◌∙◌, arith}
use Rattle.std.specs.Prelude.{slice_get, not, nat_le, nat_lt, ◌&&◌, ◌||◌, bit_and}
use Rattle.std.proofs.lemmas.Bool.{cases_lt, and_left, and_right, leb-true, le-leb, le-ltb, lt-leb}
use Rattle.std.proofs.lemmas.Option.{same_Some}
use Rattle.avr_reloc.specs.Field.{AreBytes, keep_of}
use Rattle.avr_reloc.specs.Kind.{shape_of}
use Rattle.component_package.specs.declared.part.Reloc.{Reloc}
use Rattle.component_package.specs.packages.Component.{Component}
use Rattle.component_package.specs.packages.Grammar.{IsComponent, IsReloc, RelocsRise, position_in}
use Rattle.component_package.specs.packages.Reading.{reloc_end, reloc_width}
use Rattle.component_package.proofs.InGrammar.{widths}
use Rattle.component_package.proofs.Lists.{all_at}
use Rattle.kept_definitions.specs.Runs.{has_field_at, bits_kept}
use Rattle.kept_code.specs.Clear.{cleared_from}
use Rattle.kept_code.proofs.Cleared.{none_cleared, next_cleared}
use Rattle.kept_manifests.proofs.Numbered.{list_of_same}
use Rattle.kept_store.specs.Fields.{is_before, is_past, AreBefore}

-- ---- positions

above : (c : Component) (low : ℕ) (rs : List Reloc) (j : ℕ) (y : Reloc) → RelocsRise c low rs → slice_get rs j ≡ Some y → low ≤ position_in c y
above c low [] j y rise at = absurd cc
above c low (r ∷ rs) zero y rise at = let e : r ≡ y = cc in subst (λ (x : Reloc). low ≤ position_in c x) e rise.0
above c low (r ∷ rs) (suc j) y rise at = omega (arith, rise.0, above c (position_in c r + reloc_width r) rs j y rise.1 at)

-- a field ends before a later one begins
apart : (c : Component) (low : ℕ) (rs : List Reloc) (i j : ℕ) (x y : Reloc) → RelocsRise c low rs → i < j → slice_get rs i ≡ Some x → slice_get rs j ≡ Some y
    → position_in c x + reloc_width x ≤ position_in c y
apart c low [] i j x y rise lt at_x at_y = absurd cc
apart c low (r ∷ rs) i zero x y rise lt at_x at_y = absurd (omega arith)
apart c low (r ∷ rs) zero (suc j) x y rise lt at_x at_y =
    let e : r ≡ x = cc in subst (λ (z : Reloc). position_in c z + reloc_width z ≤ position_in c y) e (above c (position_in c r + reloc_width r) rs j y rise.1 at_y)
apart c low (r ∷ rs) (suc i) (suc j) x y rise lt at_x at_y = apart c (position_in c r + reloc_width r) rs i j x y rise.1 (omega arith) at_x at_y

-- ---- before and past, by numbers: p and q say which of two fields stands in data

before_first : (init p q : Bool) (n from a u b v : ℕ) → 1 ≤ v → cond p n 0 + a + u ≤ cond q n 0 + b → (q ≡ false → b + v ≤ n)
    → cond q (init && nat_le (b + v) from) (init || nat_le (b + v) from) ≡ true → cond p (init && nat_le (a + u) from) (init || nat_le (a + u) from) ≡ true
before_first true true true n from a u b v some le inside is = le-leb (a + u) from (omega (arith, leb-true (b + v) from is))
before_first true true false n from a u b v some le inside is = absurd (omega (arith, le, inside refl))
before_first true false q n from a u b v some le inside is = refl
before_first false true true n from a u b v some le inside is = absurd cc
before_first false false true n from a u b v some le inside is = absurd cc
before_first false true false n from a u b v some le inside is = absurd (omega (arith, le, inside refl))
before_first false false false n from a u b v some le inside is = le-leb (a + u) from (omega (arith, le, leb-true (b + v) from is))

past_next : (init p q : Bool) (n end a u b v : ℕ) → 1 ≤ v → cond p n 0 + a + u ≤ cond q n 0 + b → (q ≡ false → b + v ≤ n)
    → cond p (not init || nat_le end a) (not init && nat_le end a) ≡ true → cond q (not init || nat_le end b) (not init && nat_le end b) ≡ true
past_next true true true n end a u b v some le inside is = le-leb end b (omega (arith, leb-true end a is))
past_next true true false n end a u b v some le inside is = absurd (omega (arith, le, inside refl))
past_next true false q n end a u b v some le inside is = absurd cc
past_next false p true n end a u b v some le inside is = refl
past_next false true false n end a u b v some le inside is = absurd (omega (arith, le, inside refl))
past_next false false false n end a u b v some le inside is = le-leb end b (omega (arith, le, leb-true end a is))

-- a field lies in its part
module _ (c : Component) (w : IsComponent c) where
  some_wide : (r : Reloc) → 1 ≤ reloc_width r
  some_wide r = (widths (shape_of r.kind)).some

  in_code : (j : ℕ) (r : Reloc) → slice_get c.relocs j ≡ Some r → r.in_init ≡ false → reloc_end r ≤ length c.code
  in_code j r at code = let is = all_at (IsReloc c) c.relocs j r w.relocs at in subst (λ (b : Bool). reloc_end r ≤ length (cond b c.init c.code)) code is.inside

  -- one that ends before a byte has none but such before it
  pub before_all : (init : Bool) (from j : ℕ) (r : Reloc) → slice_get c.relocs j ≡ Some r → is_before init from r ≡ true → AreBefore init from (j + 1) c.relocs
  before_all init from j r at is i x lt at_x =
      elim (cases_lt i j) [
        | inl below ↦
            before_first init x.in_init r.in_init (length c.code) from x.offset (reloc_width x) r.offset (reloc_width r) (some_wide r)
            (apart c 0 c.relocs i j x r w.reloc_order below at_x at) (in_code j r at) is
        | inr not_below ↦
            let here : i ≡ j = omega arith in
            let same : r ≡ x = same_Some r x (sym at ∙ ap (slice_get c.relocs) (sym here) ∙ at_x) in
            subst (λ (y : Reloc). is_before init from y ≡ true) same is
      ]

  -- and behind one that begins at a byte or later all do
  pub past_all : (init : Bool) (end j : ℕ) (r : Reloc) → slice_get c.relocs j ≡ Some r → is_past init end r ≡ true → (i : ℕ) (x : Reloc) → j ≤ i → slice_get c.relocs i ≡ Some x → is_past init end x ≡ true
  past_all init end j r at is i x le at_x =
      elim (cases_lt j i) [
        | inl later ↦
            past_next init r.in_init x.in_init (length c.code) end r.offset (reloc_width r) x.offset (reloc_width x) (some_wide x)
            (apart c 0 c.relocs j i r x w.reloc_order later at at_x) (in_code i x at_x) is
        | inr not_later ↦
            let here : i ≡ j = omega arith in
            let same : r ≡ x = same_Some r x (sym at ∙ ap (slice_get c.relocs) (sym here) ∙ at_x) in
            subst (λ (y : Reloc). is_past init end y ≡ true) same is
      ]

-- ---- bytes that such fields don't cover

free_before : (init part : Bool) (from at offset end : ℕ) → from ≤ at → cond part (init && nat_le end from) (init || nat_le end from) ≡ true
    → (cond init part (not part) && (nat_le offset at && nat_lt at end)) ≡ false
free_before true true from at offset end le is = and_right (nat_le offset at) (nat_lt at end) (le-ltb at end (omega (arith, leb-true end from is)))
free_before true false from at offset end le is = refl
free_before false true from at offset end le is = absurd cc
free_before false false from at offset end le is = and_right (nat_le offset at) (nat_lt at end) (le-ltb at end (omega (arith, leb-true end from is)))

free_past : (init part : Bool) (end at offset finish : ℕ) → at < end → cond part (not init || nat_le end offset) (not init && nat_le end offset) ≡ true
    → (cond init part (not part) && (nat_le offset at && nat_lt at finish)) ≡ false
free_past true true end at offset finish lt is = and_left (nat_le offset at) (nat_lt at finish) (lt-leb offset at (omega (arith, leb-true end offset is)))
free_past true false end at offset finish lt is = refl
free_past false true end at offset finish lt is = refl
free_past false false end at offset finish lt is = and_left (nat_le offset at) (nat_lt at finish) (lt-leb offset at (omega (arith, leb-true end offset is)))

-- no bits are taken where no field is
all_kept : (init : Bool) (rs : List Reloc) (at : ℕ) → ((i : ℕ) (x : Reloc) → slice_get rs i ≡ Some x → has_field_at init at x ≡ false) → bits_kept init rs at ≡ 255
all_kept init [] at free = refl
all_kept init (r ∷ rs) at free = rw (free 0 r refl) (all_kept init rs at (λ i x here. free (suc i) x here))

-- and those behind a front where none of the others is
front_kept : (init : Bool) (rs : List Reloc) (n at : ℕ) → ((i : ℕ) (x : Reloc) → n ≤ i → slice_get rs i ≡ Some x → has_field_at init at x ≡ false) → bits_kept init (take n rs) at ≡ bits_kept init rs at
front_kept init [] zero at free = refl
front_kept init [] (suc n) at free = refl
front_kept init (r ∷ rs) zero at free = sym (all_kept init (r ∷ rs) at (λ i x here. free i x (omega arith) here))
front_kept init (r ∷ rs) (suc n) at free =
    ap (λ (k : ℕ). cond (has_field_at init at r) (get_or (keep_of (shape_of r.kind)) (at - r.offset) 0) k) (front_kept init rs n at (λ i x le here. free (suc i) x (omega arith) here))

taken_element : {X : Type 0} (xs : List X) (n i : ℕ) (x : X) → slice_get (take n xs) i ≡ Some x → (i < n) × (slice_get xs i ≡ Some x)
taken_element [] zero i x at = absurd cc
taken_element [] (suc n) i x at = absurd cc
taken_element (y ∷ ys) zero i x at = absurd cc
taken_element (y ∷ ys) (suc n) zero x at = (omega arith, at)
taken_element (y ∷ ys) (suc n) (suc i) x at = let rest = taken_element ys n i x at in (omega (arith, rest.0), rest.1)

-- lists that keep the same bits clear alike
cleared_same : (from : ℕ) (init : Bool) (rs qs : List Reloc) (bytes : List ℕ) → ((i : ℕ) → i < length bytes → bits_kept init rs (from + i) ≡ bits_kept init qs (from + i))
    → cleared_from from init rs bytes ≡ cleared_from from init qs bytes
cleared_same from init rs qs bytes same =
    list_of_same (λ i. bit_and (get_or bytes i 0) (bits_kept init rs (from + i))) (λ i. bit_and (get_or bytes i 0) (bits_kept init qs (from + i))) (length bytes) (λ i lt. ap (bit_and (get_or bytes i 0)) (same i lt))

-- the first fields clear nothing of a window behind them
pub starts_cleared : (from : ℕ) (init : Bool) (rs : List Reloc) (n : ℕ) (bytes : List ℕ) → AreBytes bytes → AreBefore init from n rs → bytes ≡ cleared_from from init (take n rs) bytes
starts_cleared from init rs n bytes are before =
    none_cleared from init bytes are
    ∙ cleared_same from init [] (take n rs) bytes (λ i lt. sym (all_kept init (take n rs) (from + i) (λ j x at.
    let t = taken_element rs n j x at in free_before init x.in_init from (from + i) x.offset (reloc_end x) (omega arith) (before j x t.0 t.1))))

-- the last ones neither
pub ends_cleared : (c : Component) → IsComponent c → (from : ℕ) (init : Bool) (n : ℕ) (r : Reloc) (bytes : List ℕ) → slice_get c.relocs n ≡ Some r → is_past init (from + length bytes) r ≡ true
    → cleared_from from init (take n c.relocs) bytes ≡ cleared_from from init c.relocs bytes
ends_cleared c w from init n r bytes at is =
    cleared_same from init (take n c.relocs) c.relocs bytes (λ i lt. front_kept init c.relocs n (from + i) (λ j x le at_x.
    free_past init x.in_init (from + length bytes) (from + i) x.offset (reloc_end x) (omega arith) (past_all c w init (from + length bytes) n r at is j x le at_x)))

-- one more field
pub more_cleared : (c : Component) → IsComponent c → (from : ℕ) (init : Bool) (i : ℕ) (r : Reloc) (bytes before after : List ℕ) → AreBytes bytes → slice_get c.relocs i ≡ Some r
    → before ≡ cleared_from from init (take i c.relocs) bytes → after ≡ cleared_from from init (r ∷ []) before → after ≡ cleared_from from init (take (i + 1) c.relocs) bytes
more_cleared c w from init i r bytes before after are here was is =
    let one : suc i ≡ i + 1 = omega arith in
    subst (λ (n : ℕ). after ≡ cleared_from from init (take n c.relocs) bytes) one
    (next_cleared from init c.relocs i r bytes before after (record { component = c; is = w; relocs = refl }) are here was is)
