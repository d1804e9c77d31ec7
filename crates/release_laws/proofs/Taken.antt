-- What a version that the rules take is.
use Rattle.std.proofs.Common.{◌≡◌, ℕ, ◌+◌, ◌≤◌, Bool, true, false, cond, not, Option, Some, None, List, [], length, refl, ltb, ℤ}
use Rattle.std.proofs.lemmas.Bool.{ltb-false}
use Rattle.avr_elf.specs.declared.fault.ElfFault.{ElfFault}
use Rattle.avr_elf.specs.Faults.{elf_fault}
use Rattle.avr_elf.specs.Object.{Object, object_of}
use Rattle.component_package.specs.packages.Component.{spelling}
use Rattle.object_packer.specs.declared.fault.PackFault.{PackFault}
use Rattle.object_packer.specs.Names.{names, number_in}
use Rattle.object_packer.specs.Faults.{pack_fault}
use Rattle.object_packer.specs.Packed.{packed}
use Rattle.release_rows.specs.declared.change.Effect.{Effect}
use Rattle.release_rows.specs.declared.change.Effect.TheVariants as effects
use Rattle.release_rows.specs.Tables.{Tables, symbol_count}
use Rattle.release_judging.specs.declared.judged.Judged.TheVariants.{Does, Refused}
use Rattle.release_versions.specs.Versions.{numbers_of, new_symbols, are_symbols, component_for, version_for, judged_names, judged_next, judged_component, judged_object, judged_file, judged_version}

-- the effect of a version
abbrev pub version_effect : Tables → List ℕ → Object → ℕ → ℕ → Effect
version_effect t name o component version = effects.Version name component version (new_symbols t o) (spelling (packed o component version (number_in (names o) (numbers_of t o))))

-- the file is an object that can be packed, there are numbers for all, and this is done
pub record IsTaken (t : Tables) (name file : List ℕ) (e : Effect) : Type 0 where
  pub component : ℕ
  pub version : ℕ
  pub elf : elf_fault file ≡ None
  pub packs : pack_fault (object_of file) ≡ None
  pub component_is : component_for t name ≡ Some component
  pub version_is : version_for t component ≡ Some version
  pub room : symbol_count t + length (new_symbols t (object_of file)) ≤ 65520
  pub numbers : are_symbols (numbers_of t (object_of file)) ≡ true
  pub effect : version_effect t name (object_of file) component version ≡ e

refused_not : (n : ℕ) (vs : List ℤ) (e : Effect) → Refused n vs ≡ Does e → ⊥
refused_not n vs e is = absurd cc

does_same : (x e : Effect) → Does x ≡ Does e → x ≡ e
does_same x e is = cc

-- tests that were passed
passed : (b c : Bool) (x e : Effect) → cond b (Refused 51 []) (cond (not c) (Refused 51 []) (Does x)) ≡ Does e → (b ≡ false) × (c ≡ true) × (x ≡ e)
passed true c x e is = absurd (refused_not 51 [] e is)
passed false false x e is = absurd (refused_not 51 [] e is)
passed false true x e is = (refl, refl, does_same x e is)

module _ (t : Tables) (name file : List ℕ) (e : Effect) where
  module _ (elf : elf_fault file ≡ None) (packs : pack_fault (object_of file) ≡ None) where
    taken_names : (component version : ℕ) → component_for t name ≡ Some component → version_for t component ≡ Some version
        → judged_names t name (object_of file) component version ≡ Does e → IsTaken t name file e
    taken_names component version component_is version_is is =
        let tests = passed (ltb 65520 (symbol_count t + length (new_symbols t (object_of file)))) (are_symbols (numbers_of t (object_of file))) (version_effect t name (object_of file) component version) e is in
        record {
          component = component;
          version = version;
          elf = elf;
          packs = packs;
          component_is = component_is;
          version_is = version_is;
          room = ltb-false 65520 (symbol_count t + length (new_symbols t (object_of file))) tests.0;
          numbers = tests.1;
          effect = tests.2;
        }

    taken_next : (component : ℕ) → component_for t name ≡ Some component → (v : Option ℕ) → version_for t component ≡ v → judged_next t name (object_of file) component v ≡ Does e → IsTaken t name file e
    taken_next component component_is None v is = absurd (refused_not 53 [] e is)
    taken_next component component_is (Some version) v is = taken_names component version component_is v is

    taken_component : (c : Option ℕ) → component_for t name ≡ c → judged_component t name (object_of file) c ≡ Does e → IsTaken t name file e
    taken_component None c is = absurd (refused_not 52 [] e is)
    taken_component (Some component) c is = taken_next component c (version_for t component) refl is

  taken_object : elf_fault file ≡ None → (f : Option PackFault) → pack_fault (object_of file) ≡ f → judged_object t name (object_of file) f ≡ Does e → IsTaken t name file e
  taken_object elf (Some f) packs is = absurd (refused_not _ _ e is)
  taken_object elf None packs is = taken_component elf packs (component_for t name) refl is

  taken_file : (f : Option ElfFault) → elf_fault file ≡ f → judged_file t name file f ≡ Does e → IsTaken t name file e
  taken_file (Some f) elf is = absurd (refused_not _ _ e is)
  taken_file None elf is = taken_object elf (pack_fault (object_of file)) refl is

  pub taken : judged_version t name file ≡ Does e → IsTaken t name file e
  taken is = taken_file (elf_fault file) refl is
