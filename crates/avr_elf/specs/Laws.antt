-- What holds of the definitions themselves.
use Rattle.std.specs.Prelude.{◌≡◌, ℕ, ◌↔◌, List, None}
use Rattle.avr_elf.specs.Faults.{elf_fault}
use Rattle.avr_elf.specs.Object.{Object, AreBytes, IsObject}
use Rattle.avr_elf.specs.WellFormed.{IsWellFormed}

-- bytes have no fault exactly where some object is meant by them
abbrev pub NoFaultMeansObject : Type 0
NoFaultMeansObject = (file : List ℕ) → AreBytes file → (elf_fault file ≡ None) ↔ ((o : Object) × IsObject file o)

-- and no file means two objects
abbrev pub MeansOneObject : Type 0
MeansOneObject = (file : List ℕ) (o p : Object) → IsObject file o → IsObject file p → o ≡ p

-- and what is meant is well formed
abbrev pub MeansWellFormed : Type 0
MeansWellFormed = (file : List ℕ) (o : Object) → IsObject file o → IsWellFormed o
