-- The relocation list in its area, and what is answered of it.
use Rattle.std.specs.Prelude.{◌≡◌, ℕ, ◌+◌, ◌<◌, nat_le, nat_lt, Bool, true, false, List, take, Option, Some, None, Result, Ok, Err, if◌then◌else◌}
use Rattle.std.specs.List.{concat, sum_by, prefix_len}
use Rattle.flash_pages.specs.State.{State, Ext, page_at}
use Rattle.flash_pages.specs.Board.{View}
use Rattle.avr_reloc.specs.declared.fixup.Fixup.{Fixup}
use Rattle.avr_reloc.specs.Fixups.{end_of}
use Rattle.component_package.specs.declared.areas.TheConstants.{RELOCATIONS}
use Rattle.component_package.specs.declared.part.Site.{Site}
use Rattle.component_package.specs.packages.Component.{Component}
use Rattle.component_package.specs.link.Link.{Cause, Relocations, Undefined, Range, first_cause, range_cause, target_with, sites_of}
use Rattle.component_package.specs.link.Areas.{MergedSymbol, Lists}
use Rattle.component_package.specs.link.Pages.{address_in}
use Rattle.component_package.specs.mote.Sides.{pages_from}
use Rattle.kept_store.specs.declared.set.StoredSet.{StoredSet}
use Rattle.kept_relocs.specs.declared.fault.BuildFault.{BuildFault}
use Rattle.kept_relocs.specs.declared.fault.BuildFault.TheVariants as faults
use Rattle.kept_relocs.specs.declared.list.ListReader.{ListReader}

-- the bytes of the relocation list's area
abbrev pub list_area : State → List ℕ
list_area s = concat (pages_from RELOCATIONS 256 s.ext)

-- the board's area holds a relocation list of these records
pub record HasList (v : View) (xs : List Fixup) : Type 0 where
  pub state : State
  pub told : v.state ≡ Some state
  pub lists : Lists (list_area state) xs

-- how many relocations the headers count
abbrev pub relocs_of : StoredSet → ℕ
relocs_of set = sum_by (λ h. h.relocs) (take set.slots.manifest.count set.headers)

-- ---- faults

-- why a relocation's field can't be patched, where f gives the addresses of symbols
abbrev pub cause_with : (ℕ → Option ℕ) → List Component → Site → Option Cause
cause_with f set x = range_cause set x (target_with f set x)

-- the first such cause, by component and then by relocation, with the addresses of a table
abbrev pub cause_from : List MergedSymbol → List Component → Option Cause
cause_from table set = first_cause (cause_with (address_in table) set) (sites_of set)

-- a call of the board failed
abbrev pub is_build_fault : {A : Type 0} → Result A BuildFault → Bool
is_build_fault (Ok a) = false
is_build_fault (Err faults.Fault) = true
is_build_fault (Err (faults.Relocations n)) = false
is_build_fault (Err (faults.Undefined k r s)) = false
is_build_fault (Err (faults.Range k r f)) = false

-- where no call of the board failed, this is the cause that is answered
abbrev pub CauseIs : {A : Type 0} → Result A BuildFault → Option Cause → Type 0
CauseIs (Ok a) cause = cause ≡ None
CauseIs (Err faults.Fault) cause = ⊥
CauseIs (Err (faults.Relocations n)) cause = cause ≡ Some (Relocations n)
CauseIs (Err (faults.Undefined k r s)) cause = cause ≡ Some (Undefined k r s)
CauseIs (Err (faults.Range k r f)) cause = cause ≡ Some (Range k r f)

-- the number of relocations, or that they are too many
abbrev pub CountIs : Result ℕ BuildFault → ℕ → Type 0
CountIs (Ok count) n = (count ≡ n) × (nat_lt 8192 n ≡ false)
CountIs (Err (faults.Relocations count)) n = (count ≡ n) × (nat_lt 8192 n ≡ true)
CountIs (Err faults.Fault) n = ⊥
CountIs (Err (faults.Undefined k r s)) n = ⊥
CountIs (Err (faults.Range k r f)) n = ⊥

-- the faults of one relocation, and that a call of the board failed
abbrev pub is_at_site : BuildFault → Bool
is_at_site faults.Fault = true
is_at_site (faults.Relocations n) = false
is_at_site (faults.Undefined k r s) = true
is_at_site (faults.Range k r f) = true

-- ---- entries

-- an entry whose field begins below `end`
abbrev pub before : ℕ → Option Fixup → Option Fixup
before end None = None
before end (Some x) = if nat_lt x.place end then Some x else None

-- an entry whose field ends at or below `base`
abbrev pub has_ended : ℕ → Option Fixup → Bool
has_ended base None = false
has_ended base (Some x) = nat_le (end_of x) base

-- the first entry whose field ends above `base`, or the number of entries where none does
abbrev pub first_above : ℕ → List Fixup → ℕ
first_above base xs = prefix_len (λ x. nat_le (end_of x) base) xs

-- the page that a reader of the list keeps is the area's, where it has read one
abbrev pub KeepsList : State → ListReader → Type 0
KeepsList s r = r.page < 256 → r.bytes ≡ page_at s (Ext (50 + r.page))
