-- Pieces of packages, and the faults of a store.
use Rattle.std.specs.Prelude.{◌≡◌, ℕ, ◌-◌, ◌*◌, ◌==◌, nat_le, min, Bool, true, false, Option, Some, None, Result, Ok, Err, if◌then◌else◌}
use Rattle.flash_pages.specs.State.{State, Place, Ext}
use Rattle.component_package.specs.mote.Store.{page_of_slot}
use Rattle.component_store.specs.declared.set.StoreFault.{StoreFault}
use Rattle.component_store.specs.declared.set.StoreFault.TheVariants.{Fault, Page, PieceLength, Package, Identity}

-- what is wrong with a piece of so many bytes for this page of a package of this length
abbrev pub piece_fault : ℕ → ℕ → ℕ → Option StoreFault
piece_fault length page count =
    if nat_le length (256 * page) then Some Page
    else if count == min (length - 256 * page) 256 then None
    else Some PieceLength

-- nothing is wrong with it
abbrev pub IsPiece : ℕ → ℕ → ℕ → State → Type 0
IsPiece length page count s = piece_fault length page count ≡ None

-- page `page` of a slot
abbrev pub piece_place : ℕ → ℕ → Place
piece_place slot page = Ext (page_of_slot slot page)

-- a call of the board failed
abbrev pub is_fault : {A : Type 0} → Result A StoreFault → Bool
is_fault (Ok a) = false
is_fault (Err Fault) = true
is_fault (Err Page) = false
is_fault (Err PieceLength) = false
is_fault (Err (Package f)) = false
is_fault (Err Identity) = false
