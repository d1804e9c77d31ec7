-- The parts of a byte that a field's value may take, each known by trying all bytes.
use Rattle.std.proofs.Common.{◌≡◌, ℕ, ◌+◌, ◌-◌, ◌*◌, ◌/◌, ◌%◌, ◌<◌, Bool, true, eqb, refl, sym, ap, ap₂, ◌∙◌, arith}
use Rattle.std.specs.Prelude.{bit_and, bit_or}
use Rattle.std.specs.Int.Bits.{and_self, and_zero_r}
use Rattle.std.proofs.lemmas.Bool.{agree_below}
use Rattle.std.proofs.lemmas.Nat.{and_assoc, and_or_apart, or_comm, or_of_8, and_le_l}
use Rattle.avr_reloc.proofs.Tables.{same_below}

-- read sees bits outside k alone
abbrev reads_outside : (ℕ → ℕ) → ℕ → Bool
reads_outside read k = agree_below (λ b. eqb (read b) (read (bit_and b (0xFF - k)))) (λ b. true) 256

-- make puts back what read sees, beside the bits in k
abbrev is_made_of : (ℕ → ℕ) → (ℕ → ℕ) → ℕ → Bool
is_made_of read make k = agree_below (λ b. eqb b (bit_and b k + make (read b))) (λ b. true) 256

-- what read sees of a byte, and make puts back, are the bits outside k
pub record Part (k : ℕ) : Type 0 where
  pub read : ℕ → ℕ
  pub make : ℕ → ℕ
  pub sees : reads_outside read k ≡ true
  pub makes : is_made_of read make k ≡ true
  pub split : bit_and k (0xFF - k) ≡ 0

-- all bits
abbrev pub whole : Part 0x00
whole = record { read = λ b. b; make = λ n. n; sees = refl; makes = refl; split = refl }

-- bits 0 to 3
abbrev pub low_four : Part 0xF0
low_four = record { read = λ b. b % 16; make = λ n. n; sees = refl; makes = refl; split = refl }

-- bits 3 to 7
abbrev pub high_five : Part 0x07
high_five = record { read = λ b. b / 8; make = λ n. n * 8; sees = refl; makes = refl; split = refl }

-- bits 0 and 1
abbrev pub low_two : Part 0xFC
low_two = record { read = λ b. b % 4; make = λ n. n; sees = refl; makes = refl; split = refl }

-- bit 0
abbrev pub lowest : Part 0xFE
lowest = record { read = λ b. b % 2; make = λ n. n; sees = refl; makes = refl; split = refl }

-- bits 0 to 2
abbrev pub low_three : Part 0xF8
low_three = record { read = λ b. b % 8; make = λ n. n; sees = refl; makes = refl; split = refl }

-- bits 2, 3 and 5
abbrev pub displacement_high : Part 0xD3
displacement_high = record { read = λ b. b / 4 % 4 + 4 * (b / 32 % 2); make = λ n. n % 4 * 4 + n / 4 * 32; sees = refl; makes = refl; split = refl }

-- bits 0 to 3, 6 and 7
abbrev pub adiw_low : Part 0x30
adiw_low = record { read = λ b. b % 16 + 16 * (b / 64); make = λ n. n % 16 + n / 16 * 64; sees = refl; makes = refl; split = refl }

-- bit 0 and bits 4 to 7
abbrev pub call_low : Part 0x0E
call_low = record { read = λ b. b % 2 + 2 * (b / 16); make = λ n. n % 2 + n / 2 * 16; sees = refl; makes = refl; split = refl }

-- no bit
abbrev pub nothing : Part 0xFF
nothing = record { read = λ b. 0; make = λ n. 0; sees = refl; makes = refl; split = refl }

-- a byte f that is patched: its other bits are those of b, and what is read of it is what is read of s
pub record OneByte (read : ℕ → ℕ) (b k s f : ℕ) : Type 0 where
  pub narrow : f < 256
  pub outside : bit_and f k ≡ bit_and b k
  pub inside : read f ≡ read s

-- a patch of one byte
pub one_byte : (k : ℕ) (p : Part k) (b s : ℕ) → b < 256 → s < 256 → bit_and s k ≡ 0 → OneByte p.read b k s (bit_or (bit_and b k) s)
one_byte k p b s b_lt s_lt apart =
    let low : bit_and b k < 256 = omega (arith, and_le_l b k, b_lt) in
    let narrow : bit_or (bit_and b k) s < 256 = or_of_8 (bit_and b k) s low s_lt in
    let none : bit_and (bit_and b k) (0xFF - k) ≡ 0 = and_assoc (0xFF - k) b k ∙ ap (bit_and b) p.split ∙ and_zero_r b in
    let alone : bit_and (bit_or (bit_and b k) s) (0xFF - k) ≡ bit_and s (0xFF - k) =
    ap (λ (f : ℕ). bit_and f (0xFF - k)) (or_comm (bit_and b k) s) ∙ and_or_apart (0xFF - k) s (bit_and b k) none in
    let whole = same_below p.read (λ b. p.read (bit_and b (0xFF - k))) 256 p.sees in
    record {
      narrow = narrow;
      outside = and_or_apart k (bit_and b k) s apart ∙ and_assoc k b k ∙ ap (bit_and b) (and_self k);
      inside = whole (bit_or (bit_and b k) s) narrow ∙ ap p.read alone ∙ sym (whole s s_lt);
    }

-- two bytes that read alike and agree outside the part are the same
pub same_byte : (k : ℕ) (p : Part k) (a b : ℕ) → a < 256 → b < 256 → p.read a ≡ p.read b → bit_and a k ≡ bit_and b k → a ≡ b
same_byte k p a b a_lt b_lt read kept =
    let whole = same_below (λ b. b) (λ b. bit_and b k + p.make (p.read b)) 256 p.makes in
    whole a a_lt ∙ ap₂ (λ (x y : ℕ). x + p.make y) kept read ∙ sym (whole b b_lt)
