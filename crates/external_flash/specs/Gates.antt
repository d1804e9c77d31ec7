-- Gates: a page each, open exactly where its first byte is 0xA5.
use Rattle.std.specs.Prelude.{◌≡◌, true, false, ◌==◌, ℕ, Bool, if◌then◌else◌, List, ◌∷◌, replicate, slice_index}
use Rattle.external_flash.specs.declared.Gate.{Gate}
use Rattle.external_flash.specs.declared.Gate.TheVariants.{Fmt, Man, Sym, Rel, Img, GoA, GoB, Sel}
use Rattle.flash_pages.specs.State.{State, Place, Ext, page_at, with_page}

-- the page of the external flash that a gate stands on
abbrev pub gate_page : Gate → ℕ
gate_page Fmt = 0
gate_page Man = 1
gate_page Sym = 2
gate_page Rel = 3
gate_page Img = 4
gate_page GoA = 5
gate_page GoB = 6
gate_page Sel = 7

-- the same, as a page of a board
abbrev pub gate_place : Gate → Place
gate_place gate = Ext (gate_page gate)

-- a page whose first byte is 0xA5
abbrev pub opens : List ℕ → Bool
opens page = slice_index page 0 == 165

-- the gate's page is such a page
abbrev pub is_open : Gate → State → Bool
is_open gate s = opens (page_at s (gate_place gate))

-- what opening a gate programs: 0xA5 and 255 zeros
abbrev pub open_page : List ℕ
open_page = 165 ∷ replicate 255 0

-- what closing a gate programs: 256 zeros
abbrev pub closed_page : List ℕ
closed_page = replicate 256 0

-- s with this gate open; an open gate's page stays as it is
abbrev pub opened : Gate → State → State
opened gate s = if is_open gate s then s else with_page s (gate_place gate) open_page

-- s with this gate closed; the page of a gate that isn't open stays as it is
abbrev pub closed : Gate → State → State
closed gate s = if is_open gate s then with_page s (gate_place gate) closed_page else s

-- where opening a gate programs its page
abbrev pub IsShut : Gate → State → Type 0
IsShut gate s = is_open gate s ≡ false

-- where closing a gate programs its page
abbrev pub IsOpen : Gate → State → Type 0
IsOpen gate s = is_open gate s ≡ true
