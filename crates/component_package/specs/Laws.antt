-- Laws over the definitions.
use Rattle.std.specs.Prelude.{◌≡◌, ℕ, ◌+◌, ◌-◌, List, ◌++◌, length, take, replicate, slice_range, Option, Some, None, Ok}
use Rattle.std.specs.Option.{option_or}
use Rattle.std.specs.Result.{result_err}
use Rattle.avr_reloc.specs.Field.{AreBytes}
use Rattle.component_package.specs.declared.part.Export.{Export}
use Rattle.component_package.specs.declared.part.Header.{Header}
use Rattle.component_package.specs.declared.part.Reloc.{Reloc}
use Rattle.component_package.specs.declared.fault.PackageFault.{PackageFault}
use Rattle.component_package.specs.packages.Component.{Component}
use Rattle.component_package.specs.packages.Reading.{first_fault, header_of, header_fault, check_export_of, raw_export, symbol_before, export_of, check_reloc_of, raw_reloc, reloc_before, reloc_of, field_span_of, package_fault, component_of}
use Rattle.component_package.specs.packages.Grammar.{Spells}
use Rattle.component_package.specs.packages.Manifest.{Release, StoredRelease, SpellsRelease, Stores, manifest_fault, release_in, stored_in}
use Rattle.component_package.specs.mote.Frames.{Frame, Frames}

-- the frames of a list of bytes are one list, and so is the rest
abbrev pub FramesAreOne : Type 0
FramesAreOne = (bytes : List ℕ) (fs gs : List Frame) (r s : List ℕ) → Frames bytes fs r → Frames bytes gs s → (fs ≡ gs) × (r ≡ s)

-- bytes have no fault exactly where they spell some component, which is the one that they say
pub record FaultlessBytesSpell : Type 0 where
  pub spells : (b : List ℕ) → AreBytes b → package_fault b ≡ None → Spells b (component_of b)
  pub faultless : (b : List ℕ) (c : Component) → Spells b c → package_fault b ≡ None
  pub said : (b : List ℕ) (c : Component) → Spells b c → component_of b ≡ c

-- one component has one spelling, and one list of bytes spells one component at most
pub record SpellingIsOne : Type 0 where
  pub bytes : (b d : List ℕ) (c : Component) → Spells b c → Spells d c → b ≡ d
  pub component : (b : List ℕ) (c d : Component) → Spells b c → Spells b d → c ≡ d

-- ---- a package read piece by piece

-- the field that `field_span` names, with zeros up to four; zeros where it names none
abbrev pub spanned_field : List ℕ → Option (ℕ × ℕ) → List ℕ
spanned_field b None = replicate 4 0
spanned_field b (Some span) = slice_range b span.0 (span.0 + span.1) ++ replicate (4 - span.1) 0

-- the fault of export i, by its six bytes
abbrev pub export_step : Header → List ℕ → ℕ → Option PackageFault
export_step h b i = result_err (check_export_of h (symbol_before b i) i (raw_export b i))

-- the fault of relocation i, by its eight bytes and the field that they name
abbrev pub reloc_step : Header → List ℕ → ℕ → Option PackageFault
reloc_step h b i = let raw = raw_reloc b i in result_err (check_reloc_of h (reloc_before b i) i raw (spanned_field b (field_span_of h raw)))

-- the first fault that the steps find: of the first 32 bytes, then of each export, then of each relocation
abbrev pub fault_by_steps : List ℕ → Option PackageFault
fault_by_steps b =
    let h = header_of (take 32 b) in
    option_or (header_fault (take 32 b) (length b))
    (option_or (first_fault (export_step h b) h.exports) (first_fault (reloc_step h b) h.relocs))

-- a package that is read piece by piece has the fault that it has as a whole, and what the steps accept is what the bytes say
pub record StepsFindTheFault : Type 0 where
  pub fault : (b : List ℕ) → fault_by_steps b ≡ package_fault b
  pub header : (b : List ℕ) → header_of (take 32 b) ≡ header_of b
  pub export : (h : Header) (before : Option ℕ) (i : ℕ) (raw : List ℕ) (e : Export)
      → check_export_of h before i raw ≡ Ok e → e ≡ export_of raw
  pub reloc : (h : Header) (before : Option Reloc) (i : ℕ) (raw field : List ℕ) (r : Reloc)
      → check_reloc_of h before i raw field ≡ Ok r → r ≡ reloc_of raw

-- bytes have no fault of a manifest exactly where they spell some release, which is the one that they say
pub record FaultlessManifestsSpell : Type 0 where
  pub spells : (b : List ℕ) → AreBytes b → manifest_fault b ≡ None → SpellsRelease b (release_in b)
  pub faultless : (b : List ℕ) (r : Release) → SpellsRelease b r → manifest_fault b ≡ None
  pub said : (b : List ℕ) (r : Release) → SpellsRelease b r → release_in b ≡ r

-- one release has one spelling, and one list of bytes spells one release at most
pub record ManifestIsOne : Type 0 where
  pub bytes : (b d : List ℕ) (r : Release) → SpellsRelease b r → SpellsRelease d r → b ≡ d
  pub release : (b : List ℕ) (r s : Release) → SpellsRelease b r → SpellsRelease b s → r ≡ s

-- one stored release has one form in bytes, and one list of bytes is one stored release's at most, which is the one that they say
pub record StoredReleaseIsOne : Type 0 where
  pub bytes : (b d : List ℕ) (m : StoredRelease) → Stores b m → Stores d m → b ≡ d
  pub release : (b : List ℕ) (m n : StoredRelease) → Stores b m → Stores b n → m ≡ n
  pub said : (b : List ℕ) (m : StoredRelease) → Stores b m → stored_in b ≡ m
