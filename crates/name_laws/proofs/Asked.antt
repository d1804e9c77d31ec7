-- A package asks only for the numbers of its own names.
use Rattle.std.proofs.Common.{◌≡◌, ℕ, ◌<◌, Bool, true, false, cond, Option, Some, None, List, [], ◌∷◌, length, map, refl, sym, ap, ◌∙◌, inl, inr, eqb, bytes_eq}
use Rattle.std.specs.Cmp.Lexicographic.{bytes_decides}
use Rattle.std.proofs.lemmas.Bool.{cases_Bool}
use Rattle.avr_elf.specs.Object.{SymbolParts, Object}
use Rattle.avr_elf.specs.WellFormed.{IsWellFormed}
use Rattle.component_package.specs.declared.part.Place.TheVariants as places
use Rattle.component_package.specs.declared.part.Export.{Export}
use Rattle.component_package.specs.declared.part.Reloc.{Reloc}
use Rattle.component_package.specs.packages.Component.{Component}
use Rattle.object_packer.specs.Sections.{symbol_at}
use Rattle.object_packer.specs.Parts.{part_length}
use Rattle.object_packer.specs.References.{is_local, symbol_home, outside_of, linker_target, fixed, local_reference, global_reference, reference_of}
use Rattle.object_packer.specs.Relocations.{ordered}
use Rattle.object_packer.specs.Names.{is_exported, exported, names, number_in}
use Rattle.object_packer.specs.Faults.{pack_fault}
use Rattle.object_packer.specs.Order.{sorted_by}
use Rattle.object_packer.specs.Packed.{packed_code, packed_init, export_at, export_of, packed_exports, target_number, reloc_of, packed}
use Rattle.object_packer.proofs.Sound.{faultless, exported_are}
use Rattle.object_packer.proofs.Numbered.{occurs, exported_named}
use Rattle.name_laws.proofs.Types.{Kept, Home}
use Rattle.name_laws.proofs.Lists.{map_same, all_so}
use Rattle.name_laws.proofs.Defined.{IsIn, all_in_set}
use Rattle.name_laws.proofs.Targets.{used_named}
use Rattle.name_laws.proofs.Told.{IsSound, all_sound}

-- the number of a name among names that have these numbers
number_of_name : (f : List ℕ → ℕ) (ns : List (List ℕ)) (name : List ℕ) → occurs name ns ≡ true → number_in ns (map f ns) name ≡ f name
number_of_name f [] name e = absurd cc
number_of_name f (n ∷ ns) name e =
    elim (cases_Bool (bytes_eq n name)) [
      | inl hit ↦ ap (λ b. cond b (f n) (number_in ns (map f ns) name)) hit ∙ ap f ((bytes_decides n name).0 hit)
      | inr miss ↦ ap (λ b. cond b (f n) (number_in ns (map f ns) name)) miss ∙ number_of_name f ns name (rw miss at e)
    ]

-- the target of a reference asks for the number of a name that is used
same_target : (o : Object) (i m n : ℕ) → (is_local (symbol_at o i) ≡ false → linker_target (symbol_at o i).name ≡ None → m ≡ n)
    → target_number (reference_of o i).target m ≡ target_number (reference_of o i).target n
same_target o i m n same = from (is_local (symbol_at o i)) (eqb i 0) (symbol_home o (symbol_at o i)) (linker_target (symbol_at o i).name) same
  where
    s : SymbolParts
    s = symbol_at o i

    from : (l z : Bool) (h : Option Home) (t : Option ℕ) → (l ≡ false → t ≡ None → m ≡ n)
        → target_number (cond l (local_reference i s h (outside_of o s)) (cond z (fixed 10 s.value (outside_of o s)) (global_reference s t (outside_of o s)))).target m
        ≡ target_number (cond l (local_reference i s h (outside_of o s)) (cond z (fixed 10 s.value (outside_of o s)) (global_reference s t (outside_of o s)))).target n
    from true z (Some home) t e = refl
    from true z None t e = refl
    from false true h t e = refl
    from false false h (Some target) e = refl
    from false false h None e = e refl refl

module _ (o : Object) (w : IsWellFormed o) (none : pack_fault o ≡ None) (f g : List ℕ → ℕ) (agree : (name : List ℕ) → occurs name (names o) ≡ true → f name ≡ g name) where
  same_exports : packed_exports o f ≡ packed_exports o g
  same_exports =
      ap (sorted_by (λ (e : Export). e.symbol))
      (map_same (export_of o f) (export_of o g) (exported o)
      (all_so (λ i. (i < length o.symbols) × (is_exported o i ≡ true)) (λ i. export_of o f i ≡ export_of o g i) (exported o)
      (λ i is. ap (λ n. export_at n (symbol_at o i) (symbol_home o (symbol_at o i))) (agree (symbol_at o i).name (exported_named o (faultless o none) i is.0 is.1))) (exported_are o (length o.symbols))))

  inside : IsIn (o ∷ []) o
  inside = (all_in_set (o ∷ []) ((w, none), tt)).0

  reloc_same : (x : Kept) → IsSound o x → reloc_of o f x ≡ reloc_of o g x
  reloc_same x s =
      let name = (symbol_at o x.symbol).name in
      ap (λ t. record { offset = x.offset; in_init = x.in_init; weak = x.weak; kind = x.kind; target = t; addend = x.addend })
      (ap (λ t. target_number t (f name)) s.is.target
      ∙ same_target o x.symbol (f name) (g name) (λ global other. agree name (used_named o w (faultless o none) x.symbol s.is.symbol global other s.is.outside s.used))
      ∙ sym (ap (λ t. target_number t (g name)) s.is.target))

  same_relocs : map (reloc_of o f) (ordered o) ≡ map (reloc_of o g) (ordered o)
  same_relocs = map_same (reloc_of o f) (reloc_of o g) (ordered o) (all_so (IsSound o) (λ x. reloc_of o f x ≡ reloc_of o g x) (ordered o) reloc_same (all_sound (o ∷ []) o inside))

  -- so is the package
  pub same_package : (component version : ℕ) → packed o component version f ≡ packed o component version g
  same_package component version =
      ap (whole (map (reloc_of o f) (ordered o))) same_exports ∙ ap (λ rs. whole rs (packed_exports o g)) same_relocs
    where
      whole : List Reloc → List Export → Component
      whole rs es =
          record {
            component = component;
            version = version;
            code = packed_code o;
            init = packed_init o;
            bss = part_length o places.Bss;
            exports = es;
            relocs = rs;
          }

-- a package with the numbers that f gives to the names
pub with_numbers : (o : Object) → IsWellFormed o → pack_fault o ≡ None → (component version : ℕ) (f : List ℕ → ℕ)
    → packed o component version (number_in (names o) (map f (names o))) ≡ packed o component version f
with_numbers o w none component version f = same_package o w none (number_in (names o) (map f (names o))) f (number_of_name f (names o)) component version
