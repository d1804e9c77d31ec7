-- What has to hold where an object is refused for want of numbers, and where it is not refused.
use Rattle.std.proofs.Common.{◌≡◌, ℕ, ◌+◌, ◌<◌, Bool, true, false, cond, Option, Some, None, List, [], length, refl, arith}
use Rattle.std.specs.Prelude.{ℤ, nat_lt, not}
use Rattle.std.proofs.lemmas.Bool.Decides.{nat_tests}
use Rattle.avr_elf.specs.declared.fault.ElfFault.{ElfFault}
use Rattle.avr_elf.specs.FaultNumber as elf
use Rattle.avr_elf.specs.Faults.{elf_fault}
use Rattle.avr_elf.specs.Object.{Object, object_of}
use Rattle.component_package.specs.packages.Component.{spelling}
use Rattle.object_packer.specs.declared.fault.PackFault.{PackFault}
use Rattle.object_packer.specs.Faults as packing
use Rattle.object_packer.specs.Faults.{pack_fault}
use Rattle.object_packer.specs.Names.{names, number_in}
use Rattle.object_packer.specs.Packed.{packed}
use Rattle.release_rows.specs.declared.change.Effect.TheVariants as effects
use Rattle.release_rows.specs.Tables.{Tables, symbol_count}
use Rattle.release_rows.specs.Kept.{AreKept}
use Rattle.release_judging.specs.declared.judged.Judged.TheVariants.{Does, Refused}
use Rattle.release_versions.specs.Versions.{are_symbols, numbers_of, new_symbols, component_for, version_for, judged_names, judged_next, judged_component, judged_object, judged_file, judged_version}
use Rattle.release_versions.proofs.KeptNumbers.{kept_numbers_differ}

-- the refusal's number
number_is : (m n : ℕ) (v w : List ℤ) → Refused m v ≡ Refused n w → m ≡ n
number_is m n v w e = cc

at_names : (t : Tables) (name : List ℕ) (o : Object) (component version : ℕ) → AreKept t → judged_names t name o component version ≡ Refused 51 [] → 65520 < symbol_count t + length (new_symbols t o)
at_names t name o component version kept e =
    from (nat_lt 65520 (symbol_count t + length (new_symbols t o))) (are_symbols (numbers_of t o)) refl (kept_numbers_differ t o kept) e
  where
    from : (b c : Bool) → nat_lt 65520 (symbol_count t + length (new_symbols t o)) ≡ b → c ≡ true
        → cond b (Refused 51 []) (cond (not c) (Refused 51 []) (Does (effects.Version name component version (new_symbols t o) (spelling (packed o component version (number_in (names o) (numbers_of t o))))))) ≡ Refused 51 []
        → 65520 < symbol_count t + length (new_symbols t o)
    from true c above good e = grind (arith, nat_tests, above)
    from false true above good e = absurd cc
    from false false above good e = absurd cc

at_next : (t : Tables) (name : List ℕ) (o : Object) (component : ℕ) (v : Option ℕ) → AreKept t → judged_next t name o component v ≡ Refused 51 [] → 65520 < symbol_count t + length (new_symbols t o)
at_next t name o component None kept e = absurd (omega (arith, number_is 53 51 [] [] e))
at_next t name o component (Some version) kept e = at_names t name o component version kept e

at_component : (t : Tables) (name : List ℕ) (o : Object) (c : Option ℕ) → AreKept t → judged_component t name o c ≡ Refused 51 [] → 65520 < symbol_count t + length (new_symbols t o)
at_component t name o None kept e = absurd (omega (arith, number_is 52 51 [] [] e))
at_component t name o (Some component) kept e = at_next t name o component (version_for t component) kept e

at_object : (t : Tables) (name : List ℕ) (o : Object) (f : Option PackFault) → AreKept t → judged_object t name o f ≡ Refused 51 [] → 65520 < symbol_count t + length (new_symbols t o)
at_object t name o (Some f) kept e = absurd (omega (arith, number_is (200 + packing.number_of f) 51 _ [] e))
at_object t name o None kept e = at_component t name o (component_for t name) kept e

at_file : (t : Tables) (name file : List ℕ) (f : Option ElfFault) → AreKept t → judged_file t name file f ≡ Refused 51 [] → 65520 < symbol_count t + length (new_symbols t (object_of file))
at_file t name file (Some f) kept e = absurd (omega (arith, number_is (100 + elf.number_of f) 51 _ [] e))
at_file t name file None kept e = at_object t name (object_of file) (pack_fault (object_of file)) kept e

pub refused_for_want : (t : Tables) (name file : List ℕ) → AreKept t → judged_version t name file ≡ Refused 51 [] → 65520 < symbol_count t + length (new_symbols t (object_of file))
refused_for_want t name file kept e = at_file t name file (elf_fault file) kept e
