-- What the packages of objects give: rooms, exports, relocations and bytes.
use Rattle.std.proofs.Common.{◌≡◌, ℕ, ◌+◌, Bool, true, false, List, [], ◌∷◌, ◌++◌, length, map, refl, ap, ◌∙◌}
use Rattle.std.specs.List.{filter, flat_map, enumerate_from}
use Rattle.avr_elf.specs.Object.{Object}
use Rattle.avr_elf.specs.WellFormed.{IsWellFormed}
use Rattle.component_package.specs.declared.part.Place.TheVariants as places
use Rattle.component_package.specs.declared.part.Export.{Export}
use Rattle.component_package.specs.declared.part.Reloc.{Reloc}
use Rattle.component_package.specs.declared.part.Site.{Site}
use Rattle.component_package.specs.packages.Component.{Component}
use Rattle.component_package.specs.link.Layout.{Room, room_of}
use Rattle.component_package.specs.link.Link.{rooms_of, exports_of, sites_in, sites_of, plain_of}
use Rattle.object_packer.specs.Parts.{part_length, part_bytes}
use Rattle.object_packer.specs.Relocations.{ordered}
use Rattle.object_packer.specs.Packed.{stands_in, part_of, cleared, packed_init, packed_exports, reloc_of}
use Rattle.object_packer.proofs.Clearing.{length_cleared}
use Rattle.object_packer.proofs.Sound.{length_part}
use Rattle.name_laws.specs.NameImage.{rooms_of_objects}
use Rattle.name_laws.specs.Laws.{ArePackable, ArePackages}
use Rattle.name_laws.proofs.Defined.{exports_packed}

-- the bytes of one part of a package, data or code
abbrev pub packed_part : Bool → Object → List ℕ
packed_part b o = cleared (filter (stands_in b) (ordered o)) (part_bytes o (part_of b))

-- they are as many as the part's
pub length_packed : (b : Bool) (o : Object) → IsWellFormed o → length (packed_part b o) ≡ part_length o (part_of b)
length_packed b o w = length_cleared (filter (stands_in b) (ordered o)) (part_bytes o (part_of b)) ∙ length_part o w b

-- rooms
pub rooms_are : (f : List ℕ → ℕ) (os : List Object) (set : List Component) → ArePackable os → ArePackages f os set → rooms_of set ≡ rooms_of_objects os
rooms_are f [] [] all are = refl
rooms_are f [] (c ∷ cs) all are = absurd are
rooms_are f (o ∷ os) [] all are = absurd are
rooms_are f (o ∷ os) (c ∷ cs) all are =
    ap (λ (c : Component). room_of c ∷ rooms_of cs) are.0
    ∙ ap (λ n. record { code = n; init = length (packed_init o); bss = part_length o places.Bss } ∷ rooms_of cs) (length_packed false o all.0.0)
    ∙ ap (λ n. record { code = part_length o places.Code; init = n; bss = part_length o places.Bss } ∷ rooms_of cs) (length_packed true o all.0.0)
    ∙ ap (λ (rs : List Room). record { code = part_length o places.Code; init = part_length o places.Init; bss = part_length o places.Bss } ∷ rs) (rooms_are f os cs all.1 are.1)

-- exports
numbered_exports : (f : List ℕ → ℕ) (n : ℕ) (os : List Object) (set : List Component) → ArePackages f os set
    → flat_map (λ (c : ℕ × Component). map (λ (e : Export). (c.0, e)) c.1.exports) (enumerate_from n set) ≡ exports_packed f (enumerate_from n os)
numbered_exports f n [] [] are = refl
numbered_exports f n [] (c ∷ cs) are = absurd are
numbered_exports f n (o ∷ os) [] are = absurd are
numbered_exports f n (o ∷ os) (c ∷ cs) are =
    ap (λ (d : Component). map (λ (e : Export). (n, e)) d.exports ++ flat_map (λ (c : ℕ × Component). map (λ (e : Export). (c.0, e)) c.1.exports) (enumerate_from (n + 1) cs)) are.0
    ∙ ap (λ (xs : List (ℕ × Export)). map (λ (e : Export). (n, e)) (packed_exports o f) ++ xs) (numbered_exports f (n + 1) os cs are.1)

pub exports_are : (f : List ℕ → ℕ) (os : List Object) (set : List Component) → ArePackages f os set → exports_of set ≡ exports_packed f (enumerate_from 0 os)
exports_are f os set are = numbered_exports f 0 os set are

-- relocations
abbrev pub site_at : ℕ → (ℕ × Reloc) → Site
site_at k r = record { component = k; index = r.0; reloc = r.1 }

abbrev pub packed_sites : (List ℕ → ℕ) → (ℕ × Object) → List Site
packed_sites f c = map (site_at c.0) (enumerate_from 0 (map (reloc_of c.1 f) (ordered c.1)))

numbered_sites : (f : List ℕ → ℕ) (n : ℕ) (os : List Object) (set : List Component) → ArePackages f os set
    → flat_map (λ (c : ℕ × Component). sites_in c.0 c.1) (enumerate_from n set) ≡ flat_map (packed_sites f) (enumerate_from n os)
numbered_sites f n [] [] are = refl
numbered_sites f n [] (c ∷ cs) are = absurd are
numbered_sites f n (o ∷ os) [] are = absurd are
numbered_sites f n (o ∷ os) (c ∷ cs) are =
    ap (λ (d : Component). sites_in n d ++ flat_map (λ (c : ℕ × Component). sites_in c.0 c.1) (enumerate_from (n + 1) cs)) are.0
    ∙ ap (λ (xs : List Site). packed_sites f (n, o) ++ xs) (numbered_sites f (n + 1) os cs are.1)

pub sites_are : (f : List ℕ → ℕ) (os : List Object) (set : List Component) → ArePackages f os set → sites_of set ≡ flat_map (packed_sites f) (enumerate_from 0 os)
sites_are f os set are = numbered_sites f 0 os set are

-- bytes
codes_are : (f : List ℕ → ℕ) (os : List Object) (set : List Component) → ArePackages f os set → flat_map (λ (c : Component). c.code) set ≡ flat_map (packed_part false) os
codes_are f [] [] are = refl
codes_are f [] (c ∷ cs) are = absurd are
codes_are f (o ∷ os) [] are = absurd are
codes_are f (o ∷ os) (c ∷ cs) are =
    ap (λ (d : Component). d.code ++ flat_map (λ (c : Component). c.code) cs) are.0 ∙ ap (λ xs. packed_part false o ++ xs) (codes_are f os cs are.1)

inits_are : (f : List ℕ → ℕ) (os : List Object) (set : List Component) → ArePackages f os set → flat_map (λ (c : Component). c.init) set ≡ flat_map (packed_part true) os
inits_are f [] [] are = refl
inits_are f [] (c ∷ cs) are = absurd are
inits_are f (o ∷ os) [] are = absurd are
inits_are f (o ∷ os) (c ∷ cs) are =
    ap (λ (d : Component). d.init ++ flat_map (λ (c : Component). c.init) cs) are.0 ∙ ap (λ xs. packed_part true o ++ xs) (inits_are f os cs are.1)

pub plain_is : (f : List ℕ → ℕ) (os : List Object) (set : List Component) → ArePackages f os set → plain_of set ≡ flat_map (packed_part false) os ++ flat_map (packed_part true) os
plain_is f os set are = ap (λ xs. xs ++ flat_map (λ (c : Component). c.init) set) (codes_are f os set are) ∙ ap (λ xs. flat_map (packed_part false) os ++ xs) (inits_are f os set are)
