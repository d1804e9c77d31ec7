-- The worked history, by computing.
use Rattle.std.proofs.Common.{◌≡◌, ℕ, ◌<◌, true, List, length, refl, sym, ◌∙◌, inl, inr, arith, subst}
use Rattle.std.specs.Prelude.{slice_index, nat_lt}
use Rattle.std.specs.List.{list_all}
use Rattle.std.proofs.lemmas.List.{get_or_past}
use Rattle.std.proofs.lemmas.Bool.{cases_lt, false≢true}
use Rattle.std.proofs.lemmas.List.Folds.{list_all_at}
use Rattle.std.proofs.lemmas.Bool.Decides.{nat_tests}
use Rattle.avr_elf.specs.Number.{u16_at, u32_at}
use Rattle.avr_elf.specs.Header.{header_of}
use Rattle.avr_elf.specs.Entry.{symbol_entry, rela_entry}
use Rattle.avr_elf.specs.Object.{AreBytes}
use Rattle.component_package.specs.link.Link.{link_cause}
use Rattle.release_laws.specs.Worked.{radio_object, WorkedHistory}

-- bytes, by trying each
bytes_by_test : (b : List ℕ) → list_all (λ x. nat_lt x 256) b ≡ true → AreBytes b
bytes_by_test b e i = elim (cases_lt i (length b)) [
  | inl within ↦ elim (cases_lt (slice_index b i) 256) [
    | inl small ↦ small
    | inr great ↦ absurd (false≢true (sym (list_all_at (λ x. nat_lt x 256) b i 0 within (let r = great in grind (arith, nat_tests))) ∙ e))
  ]
  | inr past ↦ subst (λ n. n < 256) (sym (get_or_past b i 0 past)) (omega arith)
]

pub worked_history : WorkedHistory
unfolding u16_at u32_at header_of symbol_entry rela_entry link_cause
worked_history = record {
  may = (
    record { allowed = omega arith; bytes = bytes_by_test radio_object refl },
    (record { allowed = (omega arith, omega arith); bytes = tt }, (record { allowed = tt; bytes = tt }, (record { allowed = (omega arith, omega arith); bytes = tt }, tt))),
  );
  symbols = refl;
  component = refl;
  packages = refl;
  files = refl;
  word = refl;
  no_other = refl;
}
