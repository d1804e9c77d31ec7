-- The fields of the packages are those of the objects, with the same values.
use Rattle.std.proofs.Common.{◌≡◌, ℕ, ◌+◌, Bool, true, Option, Some, None, List, [], ◌∷◌, length, map, refl, sym, ap, ◌∙◌, pos, ◌+ℤ◌, ℤ, unwrap_or, if◌then◌else◌}
use Rattle.std.specs.Prelude.{is_some}
use Rattle.std.specs.Option.{option_map, option_to_list}
use Rattle.std.specs.List.{flat_map, enumerate_from, range_with_len, AllByRecursion}
use Rattle.std.proofs.lemmas.List.{length-append, length-map}
use Rattle.avr_reloc.specs.declared.kind.RelocType.{RelocType}
use Rattle.avr_reloc.specs.declared.fixup.Fixup.{Fixup}
use Rattle.avr_reloc.specs.Kind.{kind_of}
use Rattle.avr_elf.specs.Object.{Object, relas_at}
use Rattle.component_package.specs.declared.part.Place.{Place}
use Rattle.component_package.specs.declared.part.Place.TheVariants as places
use Rattle.component_package.specs.declared.part.Site.{Site}
use Rattle.component_package.specs.declared.part.Reloc.{Reloc}
use Rattle.component_package.specs.packages.Component.{Component}
use Rattle.component_package.specs.link.Layout.{Room, code_base, load_base}
use Rattle.component_package.specs.link.Link.{rooms_of, exports_of, address_of, sites_of, target_of, fixup_of}
use Rattle.object_packer.specs.Sections.{symbol_at, rela_at}
use Rattle.object_packer.specs.Parts.{is_place, home_of}
use Rattle.object_packer.specs.References.{reference_of}
use Rattle.object_packer.specs.Relocations.{kept_of, kept_at, kept_with, kept_in, kept, ordered}
use Rattle.object_packer.specs.Names.{is_used}
use Rattle.object_packer.specs.Packed.{target_number, reloc_of}
use Rattle.object_packer.proofs.Sorting.{all_sorted, length_sorted}
use Rattle.object_packer.proofs.Sound.{faultless, IsKept, all_kept}
use Rattle.object_packer.proofs.Elements.{all_in, all_both}
use Rattle.name_laws.specs.NameImage.{Start, rooms_of_objects, start_of, value_of_symbol, Entry, entries_at, entries_with, entries_in, entries, image_base, named_fixup}
use Rattle.name_laws.specs.Laws.{ArePackable, IsNumbering}
use Rattle.name_laws.proofs.Types.{Kept, Home}
use Rattle.name_laws.proofs.Lists.{map_flat, map_same, map_twice, map_numbered, flat_same, all_flat, flat_all, all_map, map_all, all_so, all_with, all_of, unsorted, all_numbered}
use Rattle.name_laws.proofs.Defined.{IsIn, all_in_set, exports_packed, same_address}
use Rattle.name_laws.proofs.Targets.{Means, target_value, same_sum, same_some, means, used_named}
use Rattle.name_laws.proofs.Packed.{site_at, packed_sites}

-- ---- fields

-- where the image has data or code of object k
abbrev pub base_at : List Room → ℕ → Bool → ℕ
base_at rooms k in_init = if in_init then load_base rooms k else code_base rooms k

-- a field with its value, and whether there is one
abbrev pub told : List Object → ℕ → Object → Kept → Fixup × Bool
told os k o x = (
  record { place = base_at (rooms_of_objects os) k x.in_init + x.offset; kind = x.kind; s_plus_a = pos (unwrap_or (value_of_symbol os k o x.symbol) 0) +ℤ (rela_at o x.section x.entry).addend },
  is_some (value_of_symbol os k o x.symbol),
)

-- ---- of entries

abbrev pub tell_entry : List Object → Entry → Fixup × Bool
tell_entry os e = (named_fixup (rooms_of_objects os) e, is_some e.value)

abbrev starts : Home → Start
starts home = record { part = home.place; offset = home.start }

base_is : (rooms : List Room) (k : ℕ) (p : Place) → image_base rooms k p ≡ base_at rooms k (is_place places.Init (Some p))
base_is rooms k places.Code = refl
base_is rooms k places.Init = refl
base_is rooms k places.Bss = refl
base_is rooms k places.Absolute = refl

entry_told : (os : List Object) (k : ℕ) (o : Object) (section : ℕ) (home : Home) (i : ℕ)
    → map (tell_entry os) (entries_at os k o section (starts home) i) ≡ map (told os k o) (option_to_list (kept_at o section home i))
entry_told os k o section home i = from (kind_of (rela_at o section i).kind)
  where
    from : (q : Option RelocType)
        → map (tell_entry os) (option_to_list (option_map (λ kind. record { object = k; start = starts home; rela = rela_at o section i; kind = kind; value = value_of_symbol os k o (rela_at o section i).symbol }) q))
        ≡ map (told os k o) (option_to_list (option_map (kept_of o section home i) q))
    from None = refl
    from (Some t) =
        ap (λ b. (
          record { place = b + (home.start + (rela_at o section i).offset); kind = t; s_plus_a = pos (unwrap_or (value_of_symbol os k o (rela_at o section i).symbol) 0) +ℤ (rela_at o section i).addend },
          is_some (value_of_symbol os k o (rela_at o section i).symbol),
        ) ∷ []) (base_is (rooms_of_objects os) k home.place)

section_told : (os : List Object) (k : ℕ) (o : Object) (section : ℕ) (h : Option Home)
    → map (tell_entry os) (entries_with os k o section (option_map (λ home. record { part = home.place; offset = home.start }) h)) ≡ map (told os k o) (kept_with o section h)
section_told os k o section None = refl
section_told os k o section (Some home) =
    let is = range_with_len 0 (length (relas_at o section)) in
    map_flat (tell_entry os) (entries_at os k o section (starts home)) is
    ∙ flat_same (λ i. map (tell_entry os) (entries_at os k o section (starts home) i)) (λ i. map (told os k o) (option_to_list (kept_at o section home i))) is
    (all_of (λ i. map (tell_entry os) (entries_at os k o section (starts home) i) ≡ map (told os k o) (option_to_list (kept_at o section home i))) is (entry_told os k o section home))
    ∙ sym (map_flat (told os k o) (λ i. option_to_list (kept_at o section home i)) is)

object_told : (os : List Object) (k : ℕ) (o : Object) → map (tell_entry os) (entries_in os k o) ≡ map (told os k o) (kept o)
object_told os k o =
    let ss = range_with_len 0 (length o.sections) in
    map_flat (tell_entry os) (λ s. entries_with os k o s (start_of o s)) ss
    ∙ flat_same (λ s. map (tell_entry os) (entries_with os k o s (start_of o s))) (λ s. map (told os k o) (kept_in o s)) ss
    (all_of (λ s. map (tell_entry os) (entries_with os k o s (start_of o s)) ≡ map (told os k o) (kept_in o s)) ss (λ s. section_told os k o s (home_of o s)))
    ∙ sym (map_flat (told os k o) (kept_in o) ss)

-- those of all objects, by section and entry
abbrev pub told_kept : List Object → List (Fixup × Bool)
told_kept os = flat_map (λ (c : ℕ × Object). map (told os c.0 c.1) (kept c.1)) (enumerate_from 0 os)

pub entries_told : (os : List Object) → map (tell_entry os) (entries os) ≡ told_kept os
entries_told os =
    let cs = enumerate_from 0 os in
    map_flat (tell_entry os) (λ (c : ℕ × Object). entries_in os c.0 c.1) cs
    ∙ flat_same (λ (c : ℕ × Object). map (tell_entry os) (entries_in os c.0 c.1)) (λ (c : ℕ × Object). map (told os c.0 c.1) (kept c.1)) cs
    (all_of (λ (c : ℕ × Object). map (tell_entry os) (entries_in os c.0 c.1) ≡ map (told os c.0 c.1) (kept c.1)) cs (λ c. object_told os c.0 c.1))

-- ---- of relocations

-- the addend of a relocation that is kept is that of its entry and the reference's number
abbrev pub HasAddend : Object → Kept → Type 0
HasAddend o x = x.addend ≡ pos (reference_of o x.symbol).value +ℤ (rela_at o x.section x.entry).addend

addends : (o : Object) → AllByRecursion (HasAddend o) (kept o)
addends o = all_flat (HasAddend o) (kept_in o) (range_with_len 0 (length o.sections)) (all_of (λ s. AllByRecursion (HasAddend o) (kept_in o s)) (range_with_len 0 (length o.sections)) (λ s. inside s (home_of o s)))
  where
    one : (s : ℕ) (home : Home) (i : ℕ) (q : Option RelocType) → AllByRecursion (HasAddend o) (option_to_list (option_map (kept_of o s home i) q))
    one s home i None = tt
    one s home i (Some t) = (refl, tt)

    inside : (s : ℕ) (h : Option Home) → AllByRecursion (HasAddend o) (kept_with o s h)
    inside s None = tt
    inside s (Some home) =
        all_flat (HasAddend o) (λ i. option_to_list (kept_at o s home i)) (range_with_len 0 (length (relas_at o s)))
        (all_of (λ i. AllByRecursion (HasAddend o) (option_to_list (kept_at o s home i))) (range_with_len 0 (length (relas_at o s))) (λ i. one s home i (kind_of (rela_at o s i).kind)))

-- what is known of each
pub record IsSound (o : Object) (x : Kept) : Type 0 where
  pub is : IsKept o x
  pub used : is_used o x.symbol ≡ true
  pub addend : HasAddend o x

pub all_sound : (os : List Object) (o : Object) → IsIn os o → AllByRecursion (IsSound o) (ordered o)
all_sound os o h =
    all_with (IsKept o) (λ x. (is_used o x.symbol ≡ true) × HasAddend o x) (IsSound o) (ordered o) (λ x is more. record { is = is; used = more.0; addend = more.1 })
    (all_kept o h.sound (faultless o h.faultless))
    (all_sorted (λ x. x.position) (λ x. (is_used o x.symbol ≡ true) × HasAddend o x) (kept o)
    (all_both (λ x. is_used o x.symbol ≡ true) (HasAddend o) (kept o) (all_in (λ x. x.symbol) [] (kept o)) (addends o)))

-- those of all objects, by part and offset
abbrev pub told_ordered : List Object → List (Fixup × Bool)
told_ordered os = flat_map (λ (c : ℕ × Object). map (told os c.0 c.1) (ordered c.1)) (enumerate_from 0 os)

abbrev pub tell_site : List Component → Site → Fixup × Bool
tell_site set x = (fixup_of set x, is_some (target_of set x))

module _ (os : List Object) (f : List ℕ → ℕ) (packable : ArePackable os) (numbers : IsNumbering os f) (set : List Component) (rooms : rooms_of set ≡ rooms_of_objects os)
    (exports : exports_of set ≡ exports_packed f (enumerate_from 0 os)) where
  -- a packed relocation's field
  reloc_told : (k : ℕ) (o : Object) → IsIn os o → (x : Kept) → IsSound o x → tell_site set (site_at k (0, reloc_of o f x)) ≡ told os k o x
  reloc_told k o h x s =
      ap (λ (r : List Room). pair (base_at r k x.in_init + x.offset) (pos (unwrap_or target 0) +ℤ x.addend) (is_some target)) rooms
      ∙ ap (λ (t : Option ℕ). pair place (pos (unwrap_or t 0) +ℤ x.addend) (is_some t)) same_target
      ∙ ap (λ z. pair place (pos (unwrap_or meant 0) +ℤ z) (is_some meant)) s.addend
      ∙ ap (λ z. pair place z (is_some meant)) (same_sum meant (value_of_symbol os k o x.symbol) (reference_of o x.symbol).value (rela_at o x.section x.entry).addend m)
      ∙ ap (λ b. pair place (pos (unwrap_or (value_of_symbol os k o x.symbol) 0) +ℤ (rela_at o x.section x.entry).addend) b) (same_some meant (value_of_symbol os k o x.symbol) (reference_of o x.symbol).value m)
    where
      n : ℕ
      n = f (symbol_at o x.symbol).name

      place : ℕ
      place = base_at (rooms_of_objects os) k x.in_init + x.offset

      pair : ℕ → ℤ → Bool → Fixup × Bool
      pair p z b = (record { place = p; kind = x.kind; s_plus_a = z }, b)

      target : Option ℕ
      target = target_value set k (target_number x.target n) (address_of set (target_number x.target n)) x.weak

      meant : Option ℕ
      meant = target_value set k (target_number (reference_of o x.symbol).target n) (address_of set (target_number (reference_of o x.symbol).target n)) (reference_of o x.symbol).weak

      same_target : target ≡ meant
      same_target =
          ap (λ t. target_value set k (target_number t n) (address_of set (target_number t n)) x.weak) s.is.target
          ∙ ap (λ w. target_value set k (target_number (reference_of o x.symbol).target n) (address_of set (target_number (reference_of o x.symbol).target n)) w) s.is.weak

      m : Means meant (value_of_symbol os k o x.symbol) (reference_of o x.symbol).value
      m = means os set rooms k o x.symbol n
          (λ global other.
          let is = h.named (symbol_at o x.symbol).name (used_named o h.sound (faultless o h.faultless) x.symbol s.is.symbol global other s.is.outside s.used) in
          record { high = numbers.high (symbol_at o x.symbol).name is; address = same_address os f packable numbers set rooms exports (symbol_at o x.symbol).name is })

  object_sites : (c : ℕ × Object) → IsIn os c.1 → map (tell_site set) (packed_sites f c) ≡ map (told os c.0 c.1) (ordered c.1)
  object_sites c h =
      let rs = map (reloc_of c.1 f) (ordered c.1) in
      map_twice (tell_site set) (site_at c.0) (enumerate_from 0 rs) ∙ map_numbered (λ (r : Reloc). tell_site set (site_at c.0 (0, r))) 0 rs
      ∙ map_twice (λ (r : Reloc). tell_site set (site_at c.0 (0, r))) (reloc_of c.1 f) (ordered c.1)
      ∙ map_same (λ x. tell_site set (site_at c.0 (0, reloc_of c.1 f x))) (told os c.0 c.1) (ordered c.1)
      (all_so (IsSound c.1) (λ x. tell_site set (site_at c.0 (0, reloc_of c.1 f x)) ≡ told os c.0 c.1 x) (ordered c.1) (reloc_told c.0 c.1 h) (all_sound os c.1 h))

  pub sites_told : sites_of set ≡ flat_map (packed_sites f) (enumerate_from 0 os) → map (tell_site set) (sites_of set) ≡ told_ordered os
  sites_told sites =
      let cs = enumerate_from 0 os in
      ap (map (tell_site set)) sites ∙ map_flat (tell_site set) (packed_sites f) cs
      ∙ flat_same (λ c. map (tell_site set) (packed_sites f c)) (λ (c : ℕ × Object). map (told os c.0 c.1) (ordered c.1)) cs
      (all_so (λ (c : ℕ × Object). IsIn os c.1) (λ (c : ℕ × Object). map (tell_site set) (packed_sites f c) ≡ map (told os c.0 c.1) (ordered c.1)) cs object_sites
      (all_numbered (IsIn os) 0 os (all_in_set os packable)))

-- ---- the same fields in two orders

pub kept_from_ordered : (P : Fixup × Bool → Type 0) (os : List Object) → AllByRecursion P (told_ordered os) → AllByRecursion P (told_kept os)
kept_from_ordered P os all =
    let cs = enumerate_from 0 os in
    all_flat P (λ (c : ℕ × Object). map (told os c.0 c.1) (kept c.1)) cs
    (all_so (λ (c : ℕ × Object). AllByRecursion P (map (told os c.0 c.1) (ordered c.1))) (λ (c : ℕ × Object). AllByRecursion P (map (told os c.0 c.1) (kept c.1))) cs
    (λ c here. all_map P (told os c.0 c.1) (kept c.1) (unsorted (λ x. x.position) (λ x. P (told os c.0 c.1 x)) (kept c.1) (map_all P (told os c.0 c.1) (ordered c.1) here)))
    (flat_all P (λ (c : ℕ × Object). map (told os c.0 c.1) (ordered c.1)) cs all))

pub ordered_from_kept : (P : Fixup × Bool → Type 0) (os : List Object) → AllByRecursion P (told_kept os) → AllByRecursion P (told_ordered os)
ordered_from_kept P os all =
    let cs = enumerate_from 0 os in
    all_flat P (λ (c : ℕ × Object). map (told os c.0 c.1) (ordered c.1)) cs
    (all_so (λ (c : ℕ × Object). AllByRecursion P (map (told os c.0 c.1) (kept c.1))) (λ (c : ℕ × Object). AllByRecursion P (map (told os c.0 c.1) (ordered c.1))) cs
    (λ c here. all_map P (told os c.0 c.1) (ordered c.1) (all_sorted (λ x. x.position) (λ x. P (told os c.0 c.1 x)) (kept c.1) (map_all P (told os c.0 c.1) (kept c.1) here)))
    (flat_all P (λ (c : ℕ × Object). map (told os c.0 c.1) (kept c.1)) cs all))

-- as many
same_length : (os : List Object) (cs : List (ℕ × Object)) → length (flat_map (λ (c : ℕ × Object). map (told os c.0 c.1) (ordered c.1)) cs) ≡ length (flat_map (λ (c : ℕ × Object). map (told os c.0 c.1) (kept c.1)) cs)
same_length os [] = refl
same_length os (c ∷ cs) =
    length-append (map (told os c.0 c.1) (ordered c.1)) _ ∙ ap (λ n. n + length (flat_map (λ (c : ℕ × Object). map (told os c.0 c.1) (ordered c.1)) cs))
    (length-map (ordered c.1) (told os c.0 c.1) ∙ length_sorted (λ x. x.position) (kept c.1) ∙ sym (length-map (kept c.1) (told os c.0 c.1)))
    ∙ ap (λ n. length (map (told os c.0 c.1) (kept c.1)) + n) (same_length os cs) ∙ sym (length-append (map (told os c.0 c.1) (kept c.1)) _)

pub as_many : (os : List Object) → length (told_ordered os) ≡ length (told_kept os)
as_many os = same_length os (enumerate_from 0 os)
