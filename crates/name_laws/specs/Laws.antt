-- Laws that join the image of objects by names to the image of their packages, each proved on a function of src/lib.rt.
use Rattle.std.specs.Prelude.{◌≡◌, ◌↔◌, ℕ, ◌≤◌, Bool, true, bytes_eq, List, [], ◌∷◌, map, None}
use Rattle.std.specs.List.{list_any, AllByRecursion}
use Rattle.avr_elf.specs.Object.{Object}
use Rattle.avr_elf.specs.WellFormed.{IsWellFormed}
use Rattle.component_package.specs.packages.Component.{Component}
use Rattle.component_package.specs.link.Link.{IsImage}
use Rattle.object_packer.specs.Names.{names, number_in}
use Rattle.object_packer.specs.Faults.{pack_fault}
use Rattle.object_packer.specs.Packed.{packed}
use Rattle.name_laws.specs.NameImage.{IsNameImage}

-- objects that can be packed
abbrev pub ArePackable : List Object → Type 0
ArePackable os = AllByRecursion (λ o. IsWellFormed o × (pack_fault o ≡ None)) os

-- the name needs a number in one of the objects
abbrev pub is_named : List Object → List ℕ → Bool
is_named os name = list_any (λ o. list_any (λ n. bytes_eq n name) (names o)) os

-- f gives each name that needs a number one of its own, of 16 or above
pub record IsNumbering (os : List Object) (f : List ℕ → ℕ) : Type 0 where
  pub high : (name : List ℕ) → is_named os name ≡ true → 16 ≤ f name
  pub once : (a b : List ℕ) → is_named os a ≡ true → is_named os b ≡ true → f a ≡ f b → a ≡ b

-- the packages of the objects, in order, where f gives the numbers of names; components have any numbers and versions
abbrev pub ArePackages : (List ℕ → ℕ) → List Object → List Component → Type 0
ArePackages f [] [] = Unit {0}
ArePackages f [] (c ∷ cs) = ⊥
ArePackages f (o ∷ os) [] = ⊥
ArePackages f (o ∷ os) (c ∷ cs) = (c ≡ packed o c.component c.version f) × ArePackages f os cs

-- the image of objects by names is the image of their packages, and no other bytes are
abbrev pub NameImageIsImage : Type 0
NameImageIsImage =
    (os : List Object) (f : List ℕ → ℕ) (set : List Component) (b : List ℕ) → ArePackable os → IsNumbering os f → ArePackages f os set
    → IsNameImage os b ↔ IsImage set b

-- a package made with the numbers that f gives to the object's names is the one where f gives the numbers of names
abbrev pub PackageAsksItsNames : Type 0
PackageAsksItsNames =
    (o : Object) → IsWellFormed o → pack_fault o ≡ None → (component version : ℕ) (f : List ℕ → ℕ)
    → packed o component version (number_in (names o) (map f (names o))) ≡ packed o component version f

-- objects have one image by names at most
abbrev pub NameImageIsOne : Type 0
NameImageIsOne = (os : List Object) (a b : List ℕ) → IsNameImage os a → IsNameImage os b → a ≡ b
