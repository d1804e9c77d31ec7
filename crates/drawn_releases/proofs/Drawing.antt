-- Steps of the drawing of code.
use Rattle.std.proofs.Common.{◌≡◌, refl, sym, ap, ◌∙◌, ℕ, zero, suc, ◌+◌, ◌-◌, ◌*◌, ◌<◌, arith, List, [], ◌∷◌, ◌++◌, length, true, false, Bool, subst, lt-ltb, append_assoc}
use Rattle.std.specs.Prelude.{◌%◌, ◌==◌, nat_lt, if◌then◌else◌}
use Rattle.std.specs.List.{flat_map}
use Rattle.component_package.specs.declared.part.Reloc.{Reloc}
use Rattle.drawn_releases.specs.declared.code.Instruction.{Instruction}
use Rattle.drawn_releases.specs.declared.code.Instruction.TheVariants.{Word, Call}
use Rattle.drawn_releases.specs.Generator.{drawn, next, after, instruction_at, instructions, instruction_bytes, calls_from, drawn_bytes, Drawn, with_one, with_more, remade_one, changed}
use Rattle.drawn_releases.specs.Code.{width_of}

-- with an instruction chosen by a test, what follows is by its width
follows : (b : Bool) (n at x c w : ℕ) (i : Instruction) → i ≡ (if b then Call c else Word w)
    → (i ∷ (if b then instructions n (at + 2) (next x) else instructions (suc n) (at + 1) (next x)))
    ≡ i ∷ instructions (suc (suc n) - width_of i) (at + width_of i) (next x)
follows true n at x c w i is = subst (λ j. (j ∷ instructions n (at + 2) (next x)) ≡ j ∷ instructions (suc (suc n) - width_of j) (at + width_of j) (next x)) (sym is)
    (let e : suc (suc n) - 2 ≡ n = omega arith in rw e refl)
follows false n at x c w i is = subst (λ j. (j ∷ instructions (suc n) (at + 1) (next x)) ≡ j ∷ instructions (suc (suc n) - width_of j) (at + width_of j) (next x)) (sym is)
    (let e : suc (suc n) - 1 ≡ suc n = omega arith in rw e refl)

-- the test of an instruction where two words are left
pub two_left : (n at x : ℕ) → instruction_at at (suc (suc n)) x ≡ (if at % 8 == 0 then Call (16 + drawn 12 x) else Word (drawn 65536 x))
two_left n at x = let e : nat_lt 1 (suc (suc n)) ≡ true = lt-ltb 1 (suc (suc n)) (omega arith) in rw e refl

-- the next instruction, and those behind it
pub step_instructions : (left at x : ℕ) (i : Instruction) → 0 < left → i ≡ instruction_at at left x
    → instructions left at x ≡ i ∷ instructions (left - width_of i) (at + width_of i) (next x)
step_instructions zero at x i some is = absurd (omega (arith, some))
step_instructions (suc zero) at x i some is = subst (λ j. instructions 1 at x ≡ j ∷ instructions (1 - width_of j) (at + width_of j) (next x)) (sym is) refl
step_instructions (suc (suc n)) at x i some is =
    subst (λ j. (j ∷ (if at % 8 == 0 then instructions n (at + 2) (next x) else instructions (suc n) (at + 1) (next x))) ≡ i ∷ instructions (suc (suc n) - width_of i) (at + width_of i) (next x)) is
    (follows (at % 8 == 0) n at x (16 + drawn 12 x) (drawn 65536 x) i (is ∙ two_left n at x))

-- the relocations of an instruction and of those behind it
pub calls_step : (at : ℕ) (i : Instruction) (is : List Instruction) → calls_from (2 * at) (i ∷ is) ≡ calls_from (2 * at) (i ∷ []) ++ calls_from (2 * (at + width_of i)) is
calls_step at (Word w) is = let e : 2 * at + 2 ≡ 2 * (at + 1) = omega arith in rw e refl
calls_step at (Call c) is = let e : 2 * at + 4 ≡ 2 * (at + 2) = omega arith in rw e refl

-- what was done, and what is left, once the instruction is pushed
pub bytes_on : (left at x more_left more_at : ℕ) (i : Instruction) (done new all : List ℕ)
    → instructions left at x ≡ i ∷ instructions more_left more_at (next x) → new ≡ done ++ instruction_bytes i
    → done ++ flat_map instruction_bytes (instructions left at x) ≡ all → new ++ flat_map instruction_bytes (instructions more_left more_at (next x)) ≡ all
bytes_on left at x more_left more_at i done new all step pushed was =
    ap (λ bytes. bytes ++ flat_map instruction_bytes (instructions more_left more_at (next x))) pushed
    ∙ append_assoc done (instruction_bytes i) (flat_map instruction_bytes (instructions more_left more_at (next x)))
    ∙ ap (λ is. done ++ flat_map instruction_bytes is) (sym step) ∙ was

pub calls_on : (left at x : ℕ) (i : Instruction) (done new all : List Reloc)
    → instructions left at x ≡ i ∷ instructions (left - width_of i) (at + width_of i) (next x) → new ≡ done ++ calls_from (2 * at) (i ∷ [])
    → done ++ calls_from (2 * at) (instructions left at x) ≡ all
    → new ++ calls_from (2 * (at + width_of i)) (instructions (left - width_of i) (at + width_of i) (next x)) ≡ all
calls_on left at x i done new all step pushed was =
    let rest = instructions (left - width_of i) (at + width_of i) (next x) in
    ap (λ calls. calls ++ calls_from (2 * (at + width_of i)) rest) pushed
    ∙ append_assoc done (calls_from (2 * at) (i ∷ [])) (calls_from (2 * (at + width_of i)) rest)
    ∙ ap (λ calls. done ++ calls) (sym (calls_step at i rest)) ∙ ap (λ is. done ++ calls_from (2 * at) is) (sym step) ∙ was

pub state_on : (left at x more_left more_at all : ℕ) (i : Instruction) → instructions left at x ≡ i ∷ instructions more_left more_at (next x)
    → after (length (instructions left at x)) x ≡ all → after (length (instructions more_left more_at (next x))) (next x) ≡ all
state_on left at x more_left more_at all i step was = sym (ap (λ is. after (length is) x) step) ∙ was

-- one byte more
pub byte_on : (count done x : ℕ) (front new all : List ℕ) → done < count → new ≡ front ++ drawn 256 x ∷ []
    → front ++ drawn_bytes (count - done) x ≡ all → new ++ drawn_bytes (count - (done + 1)) (next x) ≡ all
byte_on count done x front new all some pushed was =
    let e : count - done ≡ suc (count - (done + 1)) = omega (arith, some) in
    ap (λ bytes. bytes ++ drawn_bytes (count - (done + 1)) (next x)) pushed
    ∙ append_assoc front (drawn 256 x ∷ []) (drawn_bytes (count - (done + 1)) (next x))
    ∙ ap (λ n. front ++ drawn_bytes n x) (sym e) ∙ was

pub byte_state_on : (count done x all : ℕ) → done < count → after (count - done) x ≡ all → after (count - (done + 1)) (next x) ≡ all
byte_state_on count done x all some was =
    let e : count - done ≡ suc (count - (done + 1)) = omega (arith, some) in ap (λ n. after n x) (sym e) ∙ was

-- one component more, and one change more
pub more_on : (c : ℕ) (d all : Drawn) → c < 13 → with_more (13 - c) c d ≡ all → with_more (13 - (c + 1)) (c + 1) (with_one c d) ≡ all
more_on c d all some was = let e : 13 - c ≡ suc (13 - (c + 1)) = omega (arith, some) in ap (λ n. with_more n c d) (sym e) ∙ was

pub changed_on : (count done : ℕ) (d all : Drawn) → done < count → changed (count - done) d ≡ all
    → changed (count - (done + 1)) (remade_one d) ≡ all
changed_on count done d all some was = let e : count - done ≡ suc (count - (done + 1)) = omega (arith, some) in ap (λ n. changed n d) (sym e) ∙ was
