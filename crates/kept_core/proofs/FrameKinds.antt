-- Which frame it is.
use Rattle.std.proofs.Common.{◌≡◌, ℕ, ◌≤◌, true, false, List, [], ◌∷◌, length, refl, ap, ◌∙◌, arith}
use Rattle.std.proofs.lemmas.Bool.Decides.{nat_tests}
use Rattle.component_package.specs.declared.answer.Answer.TheVariants as answers
use Rattle.component_package.specs.mote.Frames.{Frame}
use Rattle.kept_definitions.specs.Machine.{Mote, refuses, step}
use Rattle.component_package.specs.mote.Machine.{is_bad_frame}
use Rattle.kept_core.specs.Reading.{frame_of}

-- a type that there isn't, or a payload where none belongs
pub bad_row : (t : Mote) (f : Frame) → is_bad_frame f ≡ true → step t f ≡ refuses t (answers.BadFrame f.kind)
bad_row t f bad = rw bad refl

-- a frame with nothing in it
empty_list : (xs : List ℕ) → length xs ≡ 0 → xs ≡ []
empty_list [] none = refl
empty_list (x ∷ xs) none = absurd (omega arith)

pub bare : (kind : ℕ) (payload : List ℕ) → is_bad_frame (frame_of kind payload) ≡ false → 3 ≤ kind → payload ≡ []
bare kind payload good late = empty_list payload (grind (arith, nat_tests))

pub within_eight : (kind : ℕ) (payload : List ℕ) → is_bad_frame (frame_of kind payload) ≡ false → (1 ≤ kind) × (kind ≤ 8)
within_eight kind payload good = (grind (arith, nat_tests), grind (arith, nat_tests))

pub same_frame : (kind n : ℕ) (payload : List ℕ) → kind ≡ n → payload ≡ [] → frame_of kind payload ≡ frame_of n []
same_frame kind n payload is none = ap (λ (k : ℕ). frame_of k payload) is ∙ ap (frame_of n) none

pub kind_frame : (kind n : ℕ) (payload : List ℕ) → kind ≡ n → frame_of kind payload ≡ frame_of n payload
kind_frame kind n payload is = ap (λ (k : ℕ). frame_of k payload) is

-- of the types that there are it is the last
pub end_frame : (kind : ℕ) (payload : List ℕ) → is_bad_frame (frame_of kind payload) ≡ false → (kind ≡ 1 → ⊥) → (kind ≡ 2 → ⊥) → (kind ≡ 3 → ⊥) → (kind ≡ 4 → ⊥) → (kind ≡ 5 → ⊥) → (kind ≡ 6 → ⊥) → (kind ≡ 7 → ⊥)
    → frame_of kind payload ≡ frame_of 8 []
end_frame kind payload good one two three four five six seven =
    let within = within_eight kind payload good in
    let last : kind ≡ 8 = omega (arith, within.0, within.1, one, two, three, four, five, six, seven) in
    same_frame kind 8 payload last (bare kind payload good (omega arith))
