-- Where the fields of a page begin in the list.
use Rattle.std.proofs.Common.{◌≡◌, ℕ, zero, suc, ◌<◌, ◌≤◌, inl, inr, true, false, List, [], ◌∷◌, length, arith}
use Rattle.std.specs.Prelude.{slice_get, nat_le}
use Rattle.std.proofs.lemmas.Bool.{cases_Bool, le-leb, leb-true}
use Rattle.std.proofs.lemmas.List.Sums.{prefix_len-le-length}
use Rattle.avr_reloc.specs.declared.fixup.Fixup.{Fixup}
use Rattle.avr_reloc.specs.Fixups.{end_of}
use Rattle.component_package.specs.link.Areas.{FieldsRise}
use Rattle.kept_relocs.specs.List.{has_ended, first_above}

end_low : (xs : List Fixup) (low base i : ℕ) → FieldsRise low xs → has_ended base (slice_get xs i) ≡ true → low ≤ base
end_low [] low base i rise ended = absurd cc
end_low (x ∷ xs) low base zero rise ended = omega (arith, rise.0, leb-true (end_of x) base ended)
end_low (x ∷ xs) low base (suc i) rise ended = omega (arith, rise.0, end_low xs (end_of x) base i rise.1 ended)

-- a field that has ended stands before the first that has not
pub ended_before : (xs : List Fixup) (low base i : ℕ) → FieldsRise low xs → has_ended base (slice_get xs i) ≡ true → i < first_above base xs
ended_before [] low base i rise ended = absurd cc
ended_before (x ∷ xs) low base zero rise ended = rw ended (omega arith)
ended_before (x ∷ xs) low base (suc i) rise ended =
    let here : nat_le (end_of x) base ≡ true = le-leb (end_of x) base (end_low xs (end_of x) base i rise.1 ended) in
    let rest = ended_before xs (end_of x) base i rise.1 ended in
    rw here (omega (arith, rest))

-- and one that has not does not
pub other_from : (xs : List Fixup) (base i : ℕ) → has_ended base (slice_get xs i) ≡ false → first_above base xs ≤ i
other_from [] base i other = omega arith
other_from (x ∷ xs) base zero other = rw other (omega arith)
other_from (x ∷ xs) base (suc i) other =
    let rest = other_from xs base i other in
    elim (cases_Bool (nat_le (end_of x) base)) [ inl e ↦ rw e (omega (arith, rest)) | inr e ↦ rw e (omega arith) ]

pub first_low : (xs : List Fixup) (base : ℕ) → first_above base xs ≤ length xs
first_low xs base = prefix_len-le-length (λ x. nat_le (end_of x) base) xs
