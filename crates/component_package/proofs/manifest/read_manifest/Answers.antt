use Rattle.std.proofs.Common.{◌≡◌, ℕ, ◌<◌, Some, None, Option, is_none, is_some, true, refl, ap, List, [], ◌∷◌, ◌++◌, add-one, length, take, sym, ap₂, subst, ◌∙◌, arith, rules}
use Rattle.std.specs.Option.{option_or}
use Rattle.std.proofs.lemmas.List.{take_more_set, length-set}
use Rattle.avr_reloc.specs.Field.{AreBytes}
use Rattle.component_package.specs.declared.manifest.Entry.{Entry}
use Rattle.component_package.specs.declared.manifest.ManifestFault.{ManifestFault}
use Rattle.component_package.specs.packages.Reading.{list_of, first_fault}
use Rattle.component_package.specs.packages.Manifest.{Release, release_of, manifest_entry, manifest_count, entry_fault, manifest_fault, release_in, SpellsRelease}
use Rattle.component_package.specs.packages.ManifestSteps.{size_fault, fault_of_entry}
use Rattle.component_package.proofs.First.{first_fault-at, first_fault-more}
use Rattle.component_package.proofs.Lists.{list_of_more}
use Rattle.component_package.proofs.ManifestLemmas.{fault_parts, sized, spelled_release}
use Rattle.component_package.proofs.manifest.read_manifest.Goals as goal

-- where none was found there is none
no_fault : (b : List ℕ) (found : Option ManifestFault) → is_none found ≡ is_none (size_fault b) → found ≡ None → size_fault b ≡ None
no_fault b found same none = is_none-None (size_fault b) (sym same ∙ ap is_none none)
  where
    is_none-None : (o : Option ManifestFault) → is_none o ≡ true → o ≡ None
    is_none-None None is = refl
    is_none-None (Some f) is = absurd cc

-- the fault of an entry behind those that were read is that of the manifest's entry
same_fault : (b : List ℕ) (entries : List Entry) (i : ℕ) (e : Entry) → take i entries ≡ list_of (manifest_entry b) i → e ≡ manifest_entry b i → fault_of_entry (take i entries) e ≡ entry_fault b i
same_fault b entries i e read is = ap₂ fault_of_entry read is

-- the first entry at fault gives the manifest's fault
first_at : (b : List ℕ) (found : Option ManifestFault) (entries : List Entry) (i : ℕ) (e : Entry) (f : ManifestFault)
    → is_none found ≡ is_none (size_fault b) → found ≡ None → i < manifest_count b → first_fault (entry_fault b) i ≡ None
    → take i entries ≡ list_of (manifest_entry b) i → e ≡ manifest_entry b i → fault_of_entry (take i entries) e ≡ Some f → manifest_fault b ≡ Some f
first_at b found entries i e f same none within before read is fault =
    let here : entry_fault b i ≡ Some f = sym (same_fault b entries i e read is) ∙ fault in
    let first : first_fault (entry_fault b) (manifest_count b) ≡ Some f = first_fault-at (entry_fault b) (manifest_count b) i f within before here in
    fault_parts b ∙ ap₂ (λ (x y : Option ManifestFault). option_or x y) (no_fault b found same none) first

pub returns-in-Some-entry_fault-clause-fault : goal.returns-in-Some-entry_fault-clause-fault
returns-in-Some-entry_fault-clause-fault c _small =
    sym (first_at c.args.bytes.now _ _ _ _ _ c.size_fault.ensures.none c.in_default.is c.loop-i-test.true c.loop-i.invariant.none c.loop-i.invariant.read c.entry_in-entry.ensures
    (sym c.entry_fault.ensures ∙ c.in-Some-entry_fault.is))

pub returns-in-Some-entry_fault-clause-refused : goal.returns-in-Some-entry_fault-clause-refused
returns-in-Some-entry_fault-clause-refused c =
    sym (ap is_some (first_at c.args.bytes.now _ _ _ _ _ c.size_fault.ensures.none c.in_default.is c.loop-i-test.true c.loop-i.invariant.none c.loop-i.invariant.read c.entry_in-entry.ensures
    (sym c.entry_fault.ensures ∙ c.in-Some-entry_fault.is)))

pub loop-i-preserved : goal.loop-i-preserved
loop-i-preserved c =
    let b = c.args.bytes.now in
    let i = c.loop-i.i in
    let none : size_fault b ≡ None = no_fault b _ c.size_fault.ensures.none c.in_default.is in
    let size = sized b none in
    let within : i < length c.loop-i.entries = omega (arith, c.loop-i-test.true, size.few, c.loop-i.invariant.room) in
    let here : entry_fault b i ≡ None = sym (same_fault b c.loop-i.entries i c.entry_in-entry.result c.loop-i.invariant.read c.entry_in-entry.ensures) ∙ sym c.entry_fault.ensures ∙ c.in_default-entry_fault.is in
    record {
      room = length-set c.loop-i.entries i c.entry_in-entry.result ∙ c.loop-i.invariant.room;
      read =
          take_more_set c.loop-i.entries i c.entry_in-entry.result within
          ∙ ap₂ (λ (xs : List Entry) (e : Entry). xs ++ e ∷ []) c.loop-i.invariant.read c.entry_in-entry.ensures
          ∙ sym (subst (λ (n : ℕ). list_of (manifest_entry b) n ≡ list_of (manifest_entry b) i ++ manifest_entry b i ∷ []) (sym (add-one i)) (list_of_more (manifest_entry b) i));
      none = first_fault-more (entry_fault b) i c.loop-i.invariant.none here;
    }

pub returns-clause-spells : goal.returns-clause-spells
returns-clause-spells c =
    let b = c.args.bytes.now in
    let bytes : AreBytes b = search rules in
    let count : manifest_count b ≡ c.loop-i.i = omega (arith, c.loop-i-test.false, c.loop-i.auto.i-end) in
    let none : size_fault b ≡ None = no_fault b _ c.size_fault.ensures.none c.in_default.is in
    let first : first_fault (entry_fault b) (manifest_count b) ≡ None = subst (λ (n : ℕ). first_fault (entry_fault b) n ≡ None) (sym count) c.loop-i.invariant.none in
    let faultless : manifest_fault b ≡ None = fault_parts b ∙ ap₂ (λ (x y : Option ManifestFault). option_or x y) none first in
    let read : take (manifest_count b) c.loop-i.entries ≡ list_of (manifest_entry b) (manifest_count b) = subst (λ (n : ℕ). take n c.loop-i.entries ≡ list_of (manifest_entry b) n) (sym count) c.loop-i.invariant.read in
    let same : release_of (record { release = c.u32_in.result; count = manifest_count b; entries = c.loop-i.entries }) ≡ release_in b = ap₂ the_release c.u32_in.ensures read in
    subst (λ (r : Release). SpellsRelease b r) (sym same) (spelled_release b bytes faultless)
  where
    the_release : ℕ → List Entry → Release
    the_release n es = record { number = n; entries = es }
