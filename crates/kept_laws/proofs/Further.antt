-- Fields are cleared one after another.
use Rattle.std.proofs.Common.{◌≡◌, inl, inr, ℕ, ◌+◌, ◌<◌, ◌≤◌, Bool, true, false, cond, List, [], ◌∷◌, ◌++◌, length, refl, sym, ap, subst, ◌∙◌, arith}
use Rattle.std.specs.Prelude.{◌&&◌, not, nat_le, nat_lt, bit_and}
use Rattle.std.specs.List.{list_any}
use Rattle.std.proofs.lemmas.Bool.{cases_Bool, and_parts, and_left, and_right, or_parts, or_from, leb-true, le-ltb, both_ways}
use Rattle.std.proofs.lemmas.Nat.{and_le_l}
use Rattle.avr_reloc.proofs.Tables.{same_below}
use Rattle.component_package.specs.declared.part.Reloc.{Reloc}
use Rattle.component_package.specs.packages.Component.{Component}
use Rattle.component_package.specs.packages.Reading.{reloc_width, reloc_end}
use Rattle.component_package.specs.packages.Grammar.{position_in, RelocsRise}
use Rattle.kept_definitions.specs.Runs.{is_in_part, has_field_at, bits_kept}
use Rattle.kept_laws.specs.Clearing.{ClearingGoesOn}

-- all bits of a byte
all_bits : (b : ℕ) → b < 256 → bit_and b 255 ≡ b
all_bits b lt = same_below (λ b. bit_and b 255) (λ b. b) 256 refl b lt

-- where no field is, all bits are kept
free_bits : (init : Bool) (at : ℕ) (rs : List Reloc) → list_any (has_field_at init at) rs ≡ false → bits_kept init rs at ≡ 255
free_bits init at [] none = refl
free_bits init at (r ∷ rs) none =
    let both = or_parts (has_field_at init at r) (list_any (has_field_at init at) rs) none in
    rw both.0 (free_bits init at rs both.1)

-- and one more decides
next_bits : (init : Bool) (at : ℕ) (front : List Reloc) (r : Reloc) → list_any (has_field_at init at) front ≡ false → bits_kept init (front ++ r ∷ []) at ≡ bits_kept init (r ∷ []) at
next_bits init at [] r none = refl
next_bits init at (x ∷ front) r none =
    let both = or_parts (has_field_at init at x) (list_any (has_field_at init at) front) none in
    rw both.0 (next_bits init at front r both.1)

-- where one is, it decides
first_bits : (init : Bool) (at : ℕ) (front : List Reloc) (r : Reloc) → list_any (has_field_at init at) front ≡ true → bits_kept init (front ++ r ∷ []) at ≡ bits_kept init front at
first_bits init at [] r some = absurd cc
first_bits init at (x ∷ front) r some =
    elim (cases_Bool (has_field_at init at x)) [
      | inl e ↦ rw e refl
      | inr e ↦ rw e (first_bits init at front r (rw e at some))
    ]

-- ---- fields of a component are apart

-- positions behind a front
behind : (c : Component) (low : ℕ) (front back : List Reloc) (r : Reloc) → RelocsRise c low (front ++ r ∷ back) → low ≤ position_in c r
behind c low [] back r rise = rise.0
behind c low (x ∷ front) back r rise = omega (arith, rise.0, behind c (position_in c x + reloc_width x) front back r rise.1)

-- two fields of one part, the first of which ends where the other begins or before
in_one : (init p q : Bool) (n x v y : ℕ) → cond init p (not p) ≡ true → cond init q (not q) ≡ true → cond p n 0 + x + v ≤ cond q n 0 + y → x + v ≤ y
in_one true true true n x v y a b h = omega (arith, h)
in_one true true false n x v y a b h = absurd cc
in_one true false q n x v y a b h = absurd cc
in_one false false false n x v y a b h = omega (arith, h)
in_one false false true n x v y a b h = absurd cc
in_one false true q n x v y a b h = absurd cc

-- a byte in a field is in none before it
none_before : (c : Component) (init : Bool) (at low : ℕ) (front back : List Reloc) (r : Reloc) → RelocsRise c low (front ++ r ∷ back) → has_field_at init at r ≡ true
    → list_any (has_field_at init at) front ≡ false
none_before c init at low [] back r rise here = refl
none_before c init at low (x ∷ front) back r rise here =
    let rest = none_before c init at (position_in c x + reloc_width x) front back r rise.1 here in
    let after = behind c (position_in c x + reloc_width x) front back r rise.1 in
    let both = and_parts (is_in_part init r) (nat_le r.offset at && nat_lt at (reloc_end r)) here in
    let low_r = leb-true r.offset at (and_parts (nat_le r.offset at) (nat_lt at (reloc_end r)) both.1).0 in
    let one : has_field_at init at x ≡ false =
    elim (cases_Bool (is_in_part init x)) [
      | inl e ↦
          let apart = in_one init x.in_init r.in_init (length c.code) x.offset (reloc_width x) r.offset e both.0 after in
          and_right (is_in_part init x) (nat_le x.offset at && nat_lt at (reloc_end x))
          (and_right (nat_le x.offset at) (nat_lt at (reloc_end x)) (le-ltb at (reloc_end x) (omega (arith, apart, low_r))))
      | inr e ↦ and_left (is_in_part init x) (nat_le x.offset at && nat_lt at (reloc_end x)) e
    ] in
    or_from (has_field_at init at x) (list_any (has_field_at init at) front) one rest

pub clearing_goes_on : ClearingGoesOn
clearing_goes_on c front back r init at b w is lt =
    let rise = subst (RelocsRise c 0) is w.reloc_order in
    let small : bit_and b (bits_kept init front at) < 256 = omega (arith, and_le_l b (bits_kept init front at), lt) in
    elim (cases_Bool (list_any (has_field_at init at) front)) [
      | inl some ↦
          let gone : has_field_at init at r ≡ false =
          not_both (has_field_at init at r) (λ here. both_ways (list_any (has_field_at init at) front) (none_before c init at 0 front back r rise here) some) in
          let all : bits_kept init (r ∷ []) at ≡ 255 = rw gone refl in
          ap (bit_and (bit_and b (bits_kept init front at))) all ∙ all_bits (bit_and b (bits_kept init front at)) small ∙ ap (bit_and b) (sym (first_bits init at front r some))
      | inr none ↦
          ap (λ (k : ℕ). bit_and (bit_and b k) (bits_kept init (r ∷ []) at)) (free_bits init at front none) ∙ ap (λ (x : ℕ). bit_and x (bits_kept init (r ∷ []) at)) (all_bits b lt)
          ∙ ap (bit_and b) (sym (next_bits init at front r none))
    ]
  where
    not_both : (t : Bool) → (t ≡ true → ⊥) → t ≡ false
    not_both true h = absurd (h refl)
    not_both false h = refl
