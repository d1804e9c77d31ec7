-- What is drawn is a component.
use Rattle.std.proofs.Common.{◌≡◌, refl, sym, ap, subst, ◌∙◌, inl, inr, ℕ, zero, suc, ◌+◌, ◌-◌, ◌*◌, ◌<◌, ◌≤◌, arith, List, [], ◌∷◌, ◌++◌, length, true, false, Bool, append_assoc, length-append, rules}
use Rattle.std.specs.Prelude.{◌%◌, ◌==◌, pos, FitsSigned, slice_range, if◌then◌else◌}
use Rattle.std.specs.List.{flat_map, AllByRecursion}
use Rattle.std.specs.Int.{w16}
use Rattle.std.proofs.lemmas.Bool.{false≢true}
use Rattle.std.proofs.lemmas.Bool.Decides.{nat_tests}
use Rattle.std.proofs.lemmas.List.{drop_at, take_at}
use Rattle.avr_reloc.specs.declared.kind.Shape.TheVariants as shapes
use Rattle.avr_reloc.specs.Field.{HasZeroValue}
use Rattle.component_package.specs.packages.Numbers.{u16_bytes}
use Rattle.component_package.specs.packages.Component.{Component, spelling}
use Rattle.component_package.specs.packages.Grammar.{IsComponent, IsReloc, RelocsRise}
use Rattle.component_package.proofs.ReadAgain.{length-spelling}
use Rattle.update_laws.proofs.SpelledBytes.{Bytes, none, more, two}
use Rattle.drawn_releases.specs.declared.code.Instruction.{Instruction}
use Rattle.drawn_releases.specs.declared.code.Instruction.TheVariants.{Word, Call}
use Rattle.drawn_releases.specs.Generator.{drawn, next, instructions, instruction_bytes, calls_from, drawn_bytes, data_bytes, data_relocs, pointer_reloc, made, drawn_code, data_size, behind_code, behind_data}
use Rattle.drawn_releases.proofs.Drawing.{two_left}

-- ---- instructions

-- a word has two bytes, and a call is of a component's symbol
abbrev pub IsDrawn : Instruction → Type 0
IsDrawn (Word w) = w < 65536
IsDrawn (Call s) = (16 ≤ s) × (s < 28)

call_or_word : (b : Bool) (x : ℕ) → IsDrawn (if b then Call (16 + drawn 12 x) else Word (drawn 65536 x))
call_or_word true x = (omega arith, omega arith)
call_or_word false x = omega arith

either : (P : List Instruction → Type 0) (b : Bool) (u v : List Instruction) → P u → P v → P (if b then u else v)
either P true u v p q = p
either P false u v p q = q

pub are_drawn : (left at x : ℕ) → AllByRecursion IsDrawn (instructions left at x)
are_drawn zero at x = tt
are_drawn (suc zero) at x = (call_or_word false x, tt)
are_drawn (suc (suc n)) at x = (
  subst IsDrawn (sym (two_left n at x)) (call_or_word (at % 8 == 0) x),
  either (AllByRecursion IsDrawn) (at % 8 == 0) _ _ (are_drawn n (at + 2) (next x)) (are_drawn (suc n) (at + 1) (next x)),
)

-- two bytes a word
long_by : (b : Bool) (n c w : ℕ) (u v : List Instruction) → length (flat_map instruction_bytes u) ≡ 2 * n → length (flat_map instruction_bytes v) ≡ 2 * suc n
    → length (flat_map instruction_bytes ((if b then Call c else Word w) ∷ (if b then u else v))) ≡ 2 * suc (suc n)
long_by true n c w u v eu ev = omega (arith, length-append (instruction_bytes (Call c)) (flat_map instruction_bytes u), eu)
long_by false n c w u v eu ev = omega (arith, length-append (instruction_bytes (Word w)) (flat_map instruction_bytes v), ev)

pub words_long : (left at x : ℕ) → length (flat_map instruction_bytes (instructions left at x)) ≡ 2 * left
words_long zero at x = refl
words_long (suc zero) at x = refl
words_long (suc (suc n)) at x =
    subst (λ i. length (flat_map instruction_bytes (i ∷ (if at % 8 == 0 then instructions n (at + 2) (next x) else instructions (suc n) (at + 1) (next x)))) ≡ 2 * suc (suc n)) (sym (two_left n at x))
    (long_by (at % 8 == 0) n _ _ _ _ (words_long n (at + 2) (next x)) (words_long (suc n) (at + 1) (next x)))

code_bytes : (is : List Instruction) → AllByRecursion IsDrawn is → Bytes (flat_map instruction_bytes is)
code_bytes [] are = none
code_bytes (Word w ∷ is) are = two w are.0 (code_bytes is are.1)
code_bytes (Call s ∷ is) are = more 14 (omega arith) (more 148 (omega arith) (more 0 (omega arith) (more 0 (omega arith) (code_bytes is are.1))))

drawn_are : (n x : ℕ) → Bytes (drawn_bytes n x)
drawn_are zero x = none
drawn_are (suc n) x = more (drawn 256 x) (omega arith) (drawn_are n (next x))

drawn_long : (n x : ℕ) → length (drawn_bytes n x) ≡ n
drawn_long zero x = refl
drawn_long (suc n) x = ap suc (drawn_long n (next x))

-- ---- data

data_are : (b : Bool) (n x : ℕ) → Bytes (if b then [] else 0 ∷ 0 ∷ drawn_bytes n x)
data_are true n x = none
data_are false n x = more 0 (omega arith) (more 0 (omega arith) (drawn_are n x))

data_long : (b : Bool) (half x : ℕ) → (2 * half == 0) ≡ b → length (if b then [] else 0 ∷ 0 ∷ drawn_bytes (2 * half - 2) x) ≡ 2 * half
data_long true zero x is = refl
data_long true (suc half) x is = absurd (let r = is in grind (arith, nat_tests))
data_long false zero x is = absurd (false≢true (sym is))
data_long false (suc half) x is = omega (arith, drawn_long (2 * suc half - 2) x)

-- ---- relocations

-- bytes between others
middle : (front mid back : List ℕ) (w : ℕ) → length mid ≡ w → slice_range (front ++ (mid ++ back)) (length front) (length front + w) ≡ mid
middle front mid back w wide = let n : length front + w - length front ≡ w = omega arith in rw (n, drop_at front (mid ++ back) (length front) refl) (take_at mid back w wide)

fits_zero : FitsSigned w16 (pos 0)
fits_zero = search rules

-- each call's field lies in the code
calls_are : (c : Component) (is : List Instruction) (front : List ℕ) → length front % 2 ≡ 0 → c.code ≡ front ++ flat_map instruction_bytes is
    → AllByRecursion IsDrawn is → AllByRecursion (IsReloc c) (calls_from (length front) is)
calls_are c [] front even code are = tt
calls_are c (Word w ∷ is) front even code are =
    subst (λ n. AllByRecursion (IsReloc c) (calls_from n is)) (length-append front (u16_bytes w))
    (calls_are c is (front ++ u16_bytes w) (omega (arith, length-append front (u16_bytes w), even))
    (code ∙ sym (append_assoc front (u16_bytes w) (flat_map instruction_bytes is))) are.1)
calls_are c (Call s ∷ is) front even code are =
    let bytes = instruction_bytes (Call s) in
    let whole : length c.code ≡ length front + length (bytes ++ flat_map instruction_bytes is) = ap length code ∙ length-append front (bytes ++ flat_map instruction_bytes is) in
    let long : length c.code ≡ length front + (4 + length (flat_map instruction_bytes is)) = omega (arith, whole, length-append bytes (flat_map instruction_bytes is)) in (
      record {
        inside = omega (arith, long);
        aligned = λ _. even;
        target = inr are.0.0;
        weak = λ is_weak. absurd (false≢true is_weak);
        small = omega (arith, are.0.1);
        addend = fits_zero;
        clear = subst (HasZeroValue shapes.Call) (sym (ap (λ (b : List ℕ). slice_range b (length front) (length front + 4)) code ∙ middle front bytes (flat_map instruction_bytes is) 4 refl)) refl;
      },
      subst (λ n. AllByRecursion (IsReloc c) (calls_from n is)) (length-append front bytes)
          (calls_are c is (front ++ bytes) (omega (arith, length-append front bytes, even))
          (code ∙ sym (append_assoc front bytes (flat_map instruction_bytes is))) are.1),
    )

pointer_is : (c : Component) (b : Bool) (rest : List ℕ) → c.init ≡ (if b then [] else 0 ∷ 0 ∷ rest) → AllByRecursion (IsReloc c) (if b then [] else pointer_reloc ∷ [])
pointer_is c true rest init = tt
pointer_is c false rest init = (
  record {
    inside = omega (arith, ap length init);
    aligned = λ h. absurd (false≢true h);
    target = inl (omega arith);
    weak = λ is_weak. absurd (false≢true is_weak);
    small = omega arith;
    addend = fits_zero;
    clear = subst (HasZeroValue shapes.Word) (sym (ap (λ (b : List ℕ). slice_range b 0 2) init)) refl;
  },
  tt,
)

all_append : {X : Type 0} (P : X → Type 0) (xs ys : List X) → AllByRecursion P xs → AllByRecursion P ys → AllByRecursion P (xs ++ ys)
all_append P [] ys p q = q
all_append P (x ∷ xs) ys p q = (p.0, all_append P xs ys p.1 q)

-- none begins before the former one's end
pointer_rises : (c : Component) (b : Bool) (low : ℕ) → low ≤ length c.code → RelocsRise c low (if b then [] else pointer_reloc ∷ [])
pointer_rises c true low within = tt
pointer_rises c false low within = (omega (arith, within), tt)

calls_rise : (c : Component) (is : List Instruction) (b : Bool) (low at : ℕ) → low ≤ at → length c.code ≡ at + length (flat_map instruction_bytes is)
    → RelocsRise c low (calls_from at is ++ (if b then [] else pointer_reloc ∷ []))
calls_rise c [] b low at below long = pointer_rises c b low (omega (arith, below, long))
calls_rise c (Word w ∷ is) b low at below long = calls_rise c is b low (at + 2) (omega (arith, below)) (omega (arith, long, length-append (u16_bytes w) (flat_map instruction_bytes is)))
calls_rise c (Call s ∷ is) b low at below long = (
  omega (arith, below),
  calls_rise c is b (0 + at + 4) (at + 4) (omega arith) (omega (arith, long, length-append (instruction_bytes (Call s)) (flat_map instruction_bytes is))),
)

-- a call takes four bytes
pub calls_few : (is : List Instruction) (at : ℕ) → 4 * length (calls_from at is) ≤ length (flat_map instruction_bytes is)
calls_few [] at = omega arith
calls_few (Word w ∷ is) at = omega (arith, calls_few is (at + 2), length-append (u16_bytes w) (flat_map instruction_bytes is))
calls_few (Call s ∷ is) at = omega (arith, calls_few is (at + 4), length-append (instruction_bytes (Call s)) (flat_map instruction_bytes is))

pointer_few : (b : Bool) → length (if b then [] else pointer_reloc ∷ []) ≤ 1
pointer_few true = omega arith
pointer_few false = omega arith

-- ---- the component

pub init_long : (x : ℕ) → length (data_bytes (data_size x) (next (behind_code x))) ≡ data_size x
init_long x = data_long (data_size x == 0) (drawn 20 (behind_code x)) (next (behind_code x)) refl

pub code_long : (x : ℕ) → length (flat_map instruction_bytes (drawn_code x)) ≡ 2 * (32 + drawn 600 x)
code_long x = words_long (32 + drawn 600 x) 0 (next x)

pub made_short : (c v x : ℕ) → length (spelling (made c v x)) ≤ 9984
made_short c v x =
    let m = made c v x in
    let is = drawn_code x in
    let words : drawn 600 x < 600 = omega arith in
    let half : drawn 20 (behind_code x) < 20 = omega arith in
    let relocs : length m.relocs ≡ length (calls_from 0 is) + length (data_relocs (data_size x)) = length-append (calls_from 0 is) (data_relocs (data_size x)) in
    omega (arith, length-spelling m, relocs, calls_few is 0, pointer_few (data_size x == 0), code_long x, init_long x, words, half)

pub is_component : (c v x : ℕ) → 1 ≤ c → c ≤ 12 → v < 65536 → IsComponent (made c v x)
is_component c v x some known small =
    let m = made c v x in
    let is = drawn_code x in
    let drawn_all = are_drawn (32 + drawn 600 x) 0 (next x) in
    let zeroed : drawn 20 (behind_data x) < 20 = omega arith in
    record {
      component = omega (arith, known);
      version = omega (arith, small);
      code = (code_bytes is drawn_all).are;
      init = (data_are (data_size x == 0) (data_size x - 2) (next (behind_code x))).are;
      even_code = omega (arith, code_long x);
      even_init = omega (arith, init_long x);
      even_bss = omega arith;
      bss = omega (arith, zeroed);
      short = made_short c v x;
      exports = (record { symbol = omega (arith, known); value = omega arith }, tt);
      export_order = (omega (arith, some), tt);
      relocs = all_append (IsReloc m) (calls_from 0 is) (data_relocs (data_size x)) (calls_are m is [] refl refl drawn_all) (pointer_is m (data_size x == 0) _ refl);
      reloc_order = calls_rise m is (data_size x == 0) 0 0 (omega arith) (omega arith);
    }
