-- What a view of a package keeps: a helper of the proofs, which nobody needs to believe.
use Rattle.std.specs.Prelude.{◌≡◌, ℕ, List, None, length}
use Rattle.avr_reloc.specs.Field.{AreBytes}
use Rattle.component_package.specs.declared.part.Header.{Header}
use Rattle.component_package.specs.packages.Reading.{header_of, total_of, package_fault}

-- bytes that were read and have no fault, with their header
pub record IsRead (b : List ℕ) (h : Header) : Type 0 where
  pub bytes : AreBytes b
  pub sound : package_fault b ≡ None
  pub header : h ≡ header_of b
  pub whole : length b ≡ total_of h
