-- The records of the list in the bytes of its area.
use Rattle.std.proofs.Common.{◌≡◌, ℕ, ◌+◌, ◌-◌, ◌*◌, ◌/◌, ◌%◌, ◌<◌, ◌≤◌, inl, inr, List, [], length, get_or, take, drop, replicate, Some, None, refl, sym, ap, ap₂, subst, ◌∙◌, arith, slice_range}
use Rattle.std.specs.Prelude.{slice_get}
use Rattle.std.specs.List.{flat_map}
use Rattle.std.specs.Int.{w32, cast_unsigned}
use Rattle.std.proofs.lemmas.List.{get_or-replicate}
use Rattle.std.proofs.lemmas.Int.{to_z-of_z}
use Rattle.std.proofs.lemmas.Option.{slice_get_cases}
use Rattle.std.proofs.Math.Facts.{sfits_to_z}
use Rattle.std.proofs.Math.Seq.{get_or-append_right}
use Rattle.avr_reloc.specs.declared.kind.RelocType.{RelocType}
use Rattle.avr_reloc.specs.declared.fixup.Fixup.{Fixup}
use Rattle.avr_reloc.specs.Kind.{kind_of, number_of}
use Rattle.avr_reloc.proofs.Fixups.{get_or-slice}
use Rattle.avr_reloc.proofs.Numbers.{kind_of-number, kind_past}
use Rattle.flash_pages.specs.State.{State, IsState, Ext, page_at}
use Rattle.external_flash.proofs.Areas.{reads_one, bytes_from-area}
use Rattle.component_package.specs.link.Areas.{entry_bytes, entry_of, IsEntry, list_bytes, Lists}
use Rattle.component_package.proofs.Lists.{all_at, entry_in, length-entries}
use Rattle.kept_relocs.specs.List.{list_area}

-- entry i's bytes stand in page i / 32
pub raw_there : (s : State) (i : ℕ) → IsState s → i < 8192
    → slice_range (page_at s (Ext (50 + i / 32))) (8 * (i % 32)) (8 * (i % 32) + 8) ≡ slice_range (list_area s) (8 * i) (8 * i + 8)
raw_there s i is lt =
    let at : ℕ = 8 * i in
    let n1 : 8 * (i % 32) + 8 - 8 * (i % 32) ≡ 8 = omega arith in
    let n2 : 8 * i + 8 - 8 * i ≡ 8 = omega arith in
    let page : i / 32 ≡ at / 256 = omega arith in
    let low : 8 * (i % 32) ≡ at % 256 = omega arith in
    ap (λ (n : ℕ). take n (drop (8 * (i % 32)) (page_at s (Ext (50 + i / 32))))) n1
    ∙ ap₂ (λ (a p : ℕ). take 8 (drop a (page_at s (Ext (50 + p))))) low page
    ∙ reads_one s 50 at is 8 (omega arith) (omega arith) (omega arith)
    ∙ bytes_from-area 50 256 at 8 s is (omega arith) (omega arith)
    ∙ ap (λ (n : ℕ). take n (drop at (list_area s))) (sym n2)

three : (n : ℕ) → n % 256 + 256 * (n / 256 % 256) + 65536 * (n / 65536) ≡ n
three n = omega arith

four : (n : ℕ) → n % 256 + 256 * (n / 256 % 256) + 65536 * (n / 65536 % 256 + 256 * (n / 16777216)) ≡ n
four n = omega arith

-- a record that is written is read again
pub entry_again : (x : Fixup) → IsEntry x → entry_of (entry_bytes x) ≡ x
entry_again x is = rw (three x.place, kind_of-number x.kind, four (cast_unsigned w32 x.s_plus_a), to_z-of_z w32 x.s_plus_a is.sum) refl

-- the bytes of a record in its place
pub entry_there : (b : List ℕ) (xs : List Fixup) (i : ℕ) (x : Fixup) → Lists b xs → slice_get xs i ≡ Some x → slice_range b (8 * i) (8 * i + 8) ≡ entry_bytes x
entry_there b xs i x l here =
    ap (λ (bytes : List ℕ). slice_range bytes (8 * i) (8 * i + 8)) l.spelled
    ∙ subst (λ (n : ℕ). slice_range (list_bytes xs) n (n + 8) ≡ entry_bytes x) (omega arith) (entry_in entry_bytes 8 (λ x. refl) xs [] (replicate (65536 - 8 * length xs) 255) i x here)

-- and 0xFF behind all records
pub blank_there : (b : List ℕ) (xs : List Fixup) (at : ℕ) → Lists b xs → 8 * length xs ≤ at → at < 65536 → get_or b at 0 ≡ 255
blank_there b xs at l past low =
    let n = length-entries entry_bytes 8 (λ x. refl) xs in
    ap (λ (bytes : List ℕ). get_or bytes at 0) l.spelled ∙ (get_or-append_right (flat_map entry_bytes xs) (replicate (65536 - 8 * length xs) 255) at 0 (omega (arith, n, past))
    ∙ get_or-replicate {A = ℕ} (65536 - 8 * length xs) (at - length (flat_map entry_bytes xs)) 255 0 (omega (arith, n, past, low)))

-- no type has the number 255
number_not : (t : RelocType) → number_of t ≡ 255 → ⊥
number_not t e = absurd (let g = sym (kind_past 255 (omega arith)) ∙ ap kind_of (sym e) ∙ kind_of-number t in cc)

-- a record that is read in its place: none
pub read_blank : (b raw : List ℕ) (xs : List Fixup) (i : ℕ) → Lists b xs → raw ≡ slice_range b (8 * i) (8 * i + 8) → get_or raw 3 0 ≡ 255 → None ≡ slice_get xs i
read_blank b raw xs i l is blank =
    elim (slice_get_cases xs i).1 [
      | inl some ↦ absurd (number_not some.0.kind (sym (ap (λ (r : List ℕ). get_or r 3 0) (is ∙ entry_there b xs i some.0 l some.2)) ∙ blank))
      | inr none ↦ sym none.1
    ]

-- or an entry
pub read_entry : (b raw : List ℕ) (xs : List Fixup) (i : ℕ) → Lists b xs → i < 8192 → raw ≡ slice_range b (8 * i) (8 * i + 8) → (get_or raw 3 0 ≡ 255 → ⊥) → Some (entry_of raw) ≡ slice_get xs i
read_entry b raw xs i l low is other =
    elim (slice_get_cases xs i).1 [
      | inl some ↦ ap (λ (r : List ℕ). Some (entry_of r)) (is ∙ entry_there b xs i some.0 l some.2) ∙ ap Some (entry_again some.0 (all_at IsEntry xs i some.0 l.entries some.2)) ∙ sym some.2
      | inr none ↦
          absurd (other (ap (λ (r : List ℕ). get_or r 3 0) is ∙ get_or-slice b (8 * i) (8 * i + 8) 3 (omega arith)
          ∙ blank_there b xs (8 * i + 3) l (omega (arith, none.0)) (omega (arith, low))))
    ]

-- whatever the bytes are
pub any_entry : (raw : List ℕ) → ((i : ℕ) → get_or raw i 0 < 256) → IsEntry (entry_of raw)
any_entry raw bytes = record {
  place = omega (arith, bytes 0, bytes 1, bytes 2);
  sum = sfits_to_z (omega (arith, bytes 4, bytes 5, bytes 6, bytes 7));
}
