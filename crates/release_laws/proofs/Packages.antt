-- The package of an object whose names have numbers: it is one, and names only symbols with these numbers.
use Rattle.std.proofs.Common.{◌≡◌, ◌⊎◌, ℕ, ◌+◌, ◌≤◌, Bool, true, false, cond, Option, Some, None, List, [], ◌∷◌, map, refl, sym, ap, subst, arith, eqb, inl, inr}
use Rattle.std.specs.List.{AllByRecursion}
use Rattle.std.proofs.lemmas.List.Elements.{All-from_recursion}
use Rattle.avr_elf.specs.Object.{SymbolParts, Object}
use Rattle.avr_elf.specs.WellFormed.{IsWellFormed}
use Rattle.component_package.specs.declared.part.Place.{Place}
use Rattle.component_package.specs.declared.part.Place.TheVariants as places
use Rattle.component_package.specs.declared.part.Export.{Export}
use Rattle.component_package.specs.declared.part.Reloc.{Reloc}
use Rattle.component_package.specs.packages.Component.{Component, spelling}
use Rattle.component_package.specs.packages.Reading.{component_of}
use Rattle.component_package.specs.packages.Grammar.{ExportsRise, IsComponent, Spells}
use Rattle.component_package.proofs.Laws.{faultless_bytes_spell}
use Rattle.object_packer.specs.Sections.{symbol_at}
use Rattle.object_packer.specs.References.{is_local, symbol_home, outside_of, linker_target, own_target, fixed, local_reference, global_reference, reference_of}
use Rattle.object_packer.specs.Relocations.{ordered}
use Rattle.object_packer.specs.Names.{exported, names, number_in}
use Rattle.object_packer.specs.Faults.{pack_fault}
use Rattle.object_packer.specs.Packed.{target_number, export_of, packed_exports, reloc_of, packed}
use Rattle.object_packer.proofs.Sorting.{all_sorted}
use Rattle.object_packer.proofs.Sound.{IsKept, faultless, all_kept}
use Rattle.object_packer.proofs.Numbered.{export_symbol}
use Rattle.name_laws.proofs.Types.{Kept, Home}
use Rattle.release_rows.specs.Tables.{Tables}
use Rattle.release_rows.specs.Change.{IsPackageOf}
use Rattle.release_rows.specs.Kept.{IsSymbol, NamesSymbols}
use Rattle.release_laws.proofs.Lists.{all_each, all_so, all_mapped}
use Rattle.release_laws.proofs.Named.{number_or_none}

-- ---- a package is one of its component in its version

pub package_of : (c : Component) → IsComponent c → IsPackageOf c.component c.version (spelling c)
package_of c is =
    let s : Spells (spelling c) c = record { component = is; bytes = refl } in
    let said = faultless_bytes_spell.said (spelling c) c s in
    record {
      sound = faultless_bytes_spell.faultless (spelling c) c s;
      spelled = subst (λ (d : Component). Spells (spelling c) d) (sym said) s;
      component_is = ap (λ (d : Component). d.component) said;
      version_is = ap (λ (d : Component). d.version) said;
    }

pub component_said : (c : Component) → IsComponent c → component_of (spelling c) ≡ c
component_said c is = faultless_bytes_spell.said (spelling c) c (record { component = is; bytes = refl })

-- ---- what its exports and relocations name

own_low : (p : Place) → own_target p ≤ 10
own_low places.Code = omega arith
own_low places.Init = omega arith
own_low places.Bss = omega arith
own_low places.Absolute = omega arith

linker_low : (name : List ℕ) (t : ℕ) → linker_target name ≡ Some t → t ≤ 10
linker_low name t e = from _ _ _ _ _ _ _ e
  where
    is : (n : ℕ) → n ≤ 10 → Some n ≡ Some t → t ≤ 10
    is n le e = let same : n ≡ t = cc in subst (λ (k : ℕ). k ≤ 10) same le

    from : (a b c d e f g : Bool) → cond a (Some 3) (cond b (Some 4) (cond c (Some 5) (cond d (Some 6) (cond e (Some 7) (cond f (Some 8) (cond g (Some 9) None)))))) ≡ Some t → t ≤ 10
    from true b c d e f g h = is 3 (omega arith) h
    from false true c d e f g h = is 4 (omega arith) h
    from false false true d e f g h = is 5 (omega arith) h
    from false false false true e f g h = is 6 (omega arith) h
    from false false false false true f g h = is 7 (omega arith) h
    from false false false false false true g h = is 8 (omega arith) h
    from false false false false false false true h = is 9 (omega arith) h
    from false false false false false false false h = absurd cc

module _ (t : Tables) (o : Object) (w : IsWellFormed o) (none : pack_fault o ≡ None) (component version : ℕ) (numbers : List ℕ) (all : AllByRecursion (IsSymbol t) numbers) where
  abbrev f : List ℕ → ℕ
  f = number_in (names o) numbers

  abbrev IsNamed : ℕ → Type 0
  IsNamed n = (n ≡ 0) ⊎ IsSymbol t n

  above : (low : ℕ) → 16 ≤ low → (es : List Export) → ExportsRise low es → AllByRecursion (λ e. IsNamed e.symbol) es → AllByRecursion (λ e. IsSymbol t e.symbol) es
  above low le [] rise named = tt
  above low le (e ∷ es) rise named = let here = rise.0 in (elim named.0 [ inl zero_is ↦ absurd (omega (arith, le, here, zero_is)) | inr is ↦ is ], above (e.symbol + 1) (omega (arith, le, here)) es rise.1 named.1)

  exports_named : AllByRecursion (λ e. IsNamed e.symbol) (packed_exports o f)
  exports_named = all_sorted (λ (e : Export). e.symbol) (λ (e : Export). IsNamed e.symbol) (map (export_of o f) (exported o))
      (all_mapped (λ (e : Export). IsNamed e.symbol) (export_of o f) (exported o)
      (all_each (λ (i : ℕ). IsNamed (export_of o f i).symbol) (exported o)
      (λ i. subst IsNamed (sym (export_symbol o f i)) (number_or_none (IsSymbol t) (names o) numbers (symbol_at o i).name all))))

  abbrev IsTarget : ℕ → Type 0
  IsTarget n = (n ≤ 10) ⊎ IsSymbol t n

  reference_named : (i n : ℕ) → IsTarget n → IsTarget (target_number (reference_of o i).target n)
  reference_named i n is = from (is_local s) (eqb i 0) (symbol_home o s) (linker_target s.name) refl
    where
      s : SymbolParts
      s = symbol_at o i

      from : (l z : Bool) (h : Option Home) (g : Option ℕ) → linker_target s.name ≡ g
          → IsTarget (target_number (cond l (local_reference i s h (outside_of o s)) (cond z (fixed 10 s.value (outside_of o s)) (global_reference s g (outside_of o s)))).target n)
      from true z (Some home) g q = inl (own_low home.place)
      from true z None g q = inl (omega arith)
      from false true h g q = inl (omega arith)
      from false false h (Some target) q = inl (linker_low s.name target q)
      from false false h None q = is

  named_target : (name : List ℕ) → IsTarget (f name)
  named_target name = elim (number_or_none (IsSymbol t) (names o) numbers name all) [ inl zero_is ↦ inl (omega (arith, zero_is)) | inr is ↦ inr is ]

  reloc_named : (x : Kept) → IsKept o x → IsTarget (reloc_of o f x).target
  reloc_named x is =
      subst (λ g. IsTarget (target_number g (f (symbol_at o x.symbol).name))) (sym is.target) (reference_named x.symbol (f (symbol_at o x.symbol).name) (named_target (symbol_at o x.symbol).name))

  relocs_named : AllByRecursion (λ (r : Reloc). IsTarget r.target) (map (reloc_of o f) (ordered o))
  relocs_named = all_mapped (λ (r : Reloc). IsTarget r.target) (reloc_of o f) (ordered o)
      (all_so (IsKept o) (λ (x : Kept). IsTarget (reloc_of o f x).target) (ordered o) reloc_named (all_kept o w (faultless o none)))

  pub names_symbols : IsComponent (packed o component version f) → NamesSymbols t (packed o component version f)
  names_symbols is = record {
    exports = All-from_recursion (λ (e : Export). IsSymbol t e.symbol) (packed_exports o f) (above 16 (omega arith) (packed_exports o f) is.export_order exports_named);
    targets = All-from_recursion (λ (r : Reloc). IsTarget r.target) (map (reloc_of o f) (ordered o)) relocs_named;
  }
