-- LINK, step by step, over a set that was opened.
use Rattle.std.specs.Prelude.{◌⊎◌, ◌≡◌, ℕ, Bool, true, false, List, Option, Some, None}
use Rattle.flash_pages.specs.State.{State}
use Rattle.flash_pages.specs.Board.{View, Told}
use Rattle.flash_pages.specs.Moments.{LeavesOnly}
use Rattle.component_package.specs.declared.answer.Answer.{Answer}
use Rattle.component_package.specs.declared.answer.Answer.TheVariants as answers
use Rattle.kept_relocs.specs.declared.fault.BuildFault.{BuildFault}
use Rattle.kept_relocs.specs.declared.fault.BuildFault.TheVariants as faults
use Rattle.kept_manifests.specs.declared.pages.SlotManifest.{SlotManifest}
use Rattle.kept_manifests.specs.Slots.{stored_of}
use Rattle.component_package.specs.link.Link.{Cause, link_cause, rooms_of, room_cause, symbols_cause, relocations_cause}
use Rattle.component_package.specs.mote.Sides.{sym, rel, img}
use Rattle.kept_definitions.specs.Machine.{Mote}
use Rattle.component_package.specs.mote.Machine.{cause_answer, range_number}
use Rattle.component_package.specs.packages.Component.{Component}
use Rattle.kept_definitions.specs.Kept.{coming_set, HasComing}
use Rattle.kept_store.specs.declared.set.StoredSet.{StoredSet}
use Rattle.kept_store.specs.Sets.{HoldsSet}
use Rattle.kept_journal.specs.Steps.{parts, Stands}
use Rattle.kept_core.specs.Serving.{is_late_cause, link_pages, Kept}

-- the components of what comes in, by what the mote holds
abbrev pub comes_of : Mote → StoredSet → List Component
comes_of t set = coming_set t.current t.inbox (stored_of set.slots)

-- LINK goes on with a set: no commit stands, the set is what comes in and isn't linked, its packages are there, and the board holds its components
pub record IsLinking (t : Mote) (set : StoredSet) (s : State) : Type 0 where
  pub stands : Stands s t
  pub rests : t.standing ≡ false
  pub incoming : t.incoming ≡ Some (stored_of set.slots)
  pub unlinked : t.linked ≡ false
  pub there : HasComing t.current t.inbox (stored_of set.slots)
  pub held : HoldsSet s set (comes_of t set)

-- LINK begins: no commit stands, and what comes in isn't linked; these are the current release and what comes in
pub record Opens (t : Mote) (now next : SlotManifest) (s : State) : Type 0 where
  pub stands : Stands s t
  pub rests : t.standing ≡ false
  pub current : stored_of now ≡ t.current.release
  pub incoming : t.incoming ≡ Some (stored_of next)
  pub unlinked : t.linked ≡ false

-- the answer is the line of the linker's cause for these components
pub record Refuses (components : List Component) (a : Answer) : Type 0 where
  pub cause : Cause
  pub is : link_cause components ≡ Some cause
  pub answer : a ≡ cause_answer cause

-- no cause is found before symbols are merged
pub record IsEarlyFree (components : List Component) : Type 0 where
  pub room : room_cause (rooms_of components) ≡ None
  pub symbols : symbols_cause components ≡ None
  pub relocs : relocations_cause components ≡ None

-- the gates Sym and Rel stand so, and the others as they stood
pub record Gates (symbols relocs : Bool) (s x : State) : Type 0 where
  pub sym_is : (parts x).gates sym ≡ symbols
  pub rel_is : (parts x).gates rel ≡ relocs
  pub img_is : (parts x).gates img ≡ (parts s).gates img

-- a step of it that was done, or that found a cause; the gates stand so behind it
pub record Goes (t : Mote) (set : StoredSet) (symbols relocs : Bool) (a : Option Answer) (s : State) (v : View) : Type 0 where
  pub end : State
  pub told : v.state ≡ Some end
  pub linking : IsLinking t set end
  pub gates : a ≡ None → Gates symbols relocs s end
  pub refuses : (b : Answer) → a ≡ Some b → Refuses (comes_of t set) b

-- a cause was found
pub record Refused (t : Mote) (set : StoredSet) (a : Answer) (s : State) (v : View) : Type 0 where
  pub end : State
  pub told : v.state ≡ Some end
  pub linking : IsLinking t set end
  pub refuses : Refuses (comes_of t set) a
  pub same : is_late_cause a ≡ false → end ≡ s

-- what a cut in a step may leave
abbrev pub LeavesLink : StoredSet → (Mote → State → Type 0) → ℕ → View → View → Type 0
LeavesLink set P most old new = Told old (λ s. (t : Mote) → IsLinking t set s → P t s → LeavesOnly (Kept link_pages s) most old new)

-- the line of a relocation's cause
abbrev pub site_answer : BuildFault → Option Answer
site_answer faults.Fault = None
site_answer (faults.Relocations n) = None
site_answer (faults.Undefined k r s) = Some (answers.Undefined k r s)
site_answer (faults.Range k r f) = Some (answers.Range k r (range_number f))

-- the image is staged and its gate open, and nothing refuses the set
pub record IsStagedFor (t : Mote) (set : StoredSet) (v : View) : Type 0 where
  pub end : State
  pub told : v.state ≡ Some end
  pub stands : Stands end (record t { linked = true })
  pub free : link_cause (comes_of t set) ≡ None

-- what limits say of a set that has room: nothing, or the line of a cause
abbrev pub Counts : Option Answer → List Component → Type 0
Counts None components = (symbols_cause components ≡ None) × (relocations_cause components ≡ None)
Counts (Some a) components = Refuses components a × (is_late_cause a ≡ false)

-- the flags say what the gates are, and the image isn't staged
pub record Flags (symbols relocs : Bool) (s : State) : Type 0 where
  pub sym_is : symbols ≡ (parts s).gates sym
  pub rel_is : relocs ≡ (parts s).gates rel
  pub img_is : (parts s).gates img ≡ false

-- LINK was answered: the set is linked, or the linker's cause is the line's; nothing was changed but where that is found late
abbrev pub Links : Mote → StoredSet → Answer → State → View → Type 0
Links t set a s v = ((a ≡ answers.Linked (stored_of set.slots).number) × IsStagedFor t set v) ⊎ Refused t set a s v
