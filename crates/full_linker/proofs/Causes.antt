-- The first of the five kinds of causes.
use Rattle.std.proofs.Common.{◌≡◌, List, Option, Some, None, refl}
use Rattle.component_package.specs.packages.Component.{Component}
use Rattle.component_package.specs.link.Link.{Cause, link_cause, rooms_of, room_cause, symbols_cause, relocations_cause, duplicate_cause, sites_cause}
use Rattle.full_linker.specs.declared.fault.LinkFault.{LinkFault}
use Rattle.full_linker.specs.declared.fault.LinkFault.TheVariants as faults
use Rattle.full_linker.specs.Faults.{Says, Finds}

-- a fault that was found says a cause that is the same
pub says_found : (f : LinkFault) (part whole : Option Cause) → Finds (Some f) part → ((d : Cause) → part ≡ Some d → whole ≡ Some d) → Says f whole
says_found (faults.Flash t) part whole found same = same _ found.0
says_found (faults.Ram t) part whole found same = same _ found.0
says_found (faults.Symbols n) part whole found same = same _ found.0
says_found (faults.Relocations n) part whole found same = same _ found.0
says_found (faults.Duplicate s i j) part whole found same = same _ found.0
says_found (faults.Undefined k r s) part whole found same = same _ found.0
says_found (faults.Range k r e) part whole found same = same _ found.0
says_found faults.Memory part whole found same = tt

-- what a fault says of a part holds of the whole
says_more : (f : LinkFault) (part whole : Option Cause) → Says f part → ((d : Cause) → part ≡ Some d → whole ≡ Some d) → Says f whole
says_more (faults.Flash t) part whole says same = same _ says
says_more (faults.Ram t) part whole says same = same _ says
says_more (faults.Symbols n) part whole says same = same _ says
says_more (faults.Relocations n) part whole says same = same _ says
says_more (faults.Duplicate s i j) part whole says same = same _ says
says_more (faults.Undefined k r s) part whole says same = same _ says
says_more (faults.Range k r e) part whole says same = same _ says
says_more faults.Memory part whole says same = tt

-- a fault of the layout comes first
pub says_room : (set : List Component) (f : LinkFault) → Says f (room_cause (rooms_of set)) → Says f (link_cause set)
unfolding link_cause
says_room set f says = says_more f (room_cause (rooms_of set)) (link_cause set) says (λ d e. rw e refl)

-- then too many symbols
pub says_symbols : (set : List Component) (f : LinkFault) → room_cause (rooms_of set) ≡ None → Says f (symbols_cause set) → Says f (link_cause set)
unfolding link_cause
says_symbols set f a says = says_more f (symbols_cause set) (link_cause set) says (λ d e. rw (a, e) refl)

-- then too many relocations
pub says_relocations : (set : List Component) (f : LinkFault) → room_cause (rooms_of set) ≡ None → symbols_cause set ≡ None → Says f (relocations_cause set) → Says f (link_cause set)
unfolding link_cause
says_relocations set f a b says = says_more f (relocations_cause set) (link_cause set) says (λ d e. rw (a, b, e) refl)

-- then a symbol exported twice
pub says_duplicate : (set : List Component) (f : LinkFault) → room_cause (rooms_of set) ≡ None → symbols_cause set ≡ None → relocations_cause set ≡ None → Finds (Some f) (duplicate_cause set) → Says f (link_cause set)
unfolding link_cause
says_duplicate set f a b c found = says_found f (duplicate_cause set) (link_cause set) found (λ d e. rw (a, b, c, e) refl)

-- then the first fault at a relocation
pub says_sites : (set : List Component) (f : LinkFault) → room_cause (rooms_of set) ≡ None → symbols_cause set ≡ None → relocations_cause set ≡ None → duplicate_cause set ≡ None → Says f (sites_cause set) → Says f (link_cause set)
unfolding link_cause
says_sites set f a b c d says = says_more f (sites_cause set) (link_cause set) says (λ x e. rw (a, b, c, d, e) refl)

-- where none of the five holds there is no cause
pub says_nothing : (set : List Component) → room_cause (rooms_of set) ≡ None → symbols_cause set ≡ None → relocations_cause set ≡ None → duplicate_cause set ≡ None → sites_cause set ≡ None → link_cause set ≡ None
unfolding link_cause
says_nothing set a b c d e = rw (a, b, c, d, e) refl
