-- What a mote keeps: program flash, external flash, and what went down the line; and what a power cut may leave of it.
use Rattle.std.specs.Prelude.{◌≡◌, ◌&&◌, Bool, false, nat_le, ◌⊎◌, ℕ, List, [], ◌++◌, length, take, drop, slice_index, slice_index_or, slice_set, All, ◌<◌}

-- the pages of both flashes, and the bytes that went down the line
pub record State : Type 0 where
  -- the pages of program flash, the first one first
  pub prog : List (List ℕ)
  -- the pages of external flash
  pub ext : List (List ℕ)
  -- the bytes that were sent, the first one first
  pub sent : List ℕ

-- a page of one of the two flashes
pub data Place : Type 0 where
  Prog : (page : ℕ) → Place
  Ext : (page : ℕ) → Place

-- each of these numbers is a byte, below 256
abbrev pub AreBytes : List ℕ → Type 0
AreBytes bytes = (i : ℕ) → slice_index bytes i < 256

-- a page is 256 bytes
abbrev pub IsPage : List ℕ → Type 0
IsPage page = (length page ≡ 256) × AreBytes page

-- a state is 480 pages of program flash, 2,048 pages of external flash, and bytes that were sent
pub record IsState (s : State) : Type 0 where
  pub prog : length s.prog ≡ 480
  pub ext : length s.ext ≡ 2048
  pub prog_pages : All IsPage s.prog
  pub ext_pages : All IsPage s.ext
  pub sent : AreBytes s.sent

-- the bytes that a page holds
abbrev pub page_at : State → Place → List ℕ
page_at s (Prog page) = slice_index_or s.prog page []
page_at s (Ext page) = slice_index_or s.ext page []

-- the state with these bytes in that page
abbrev pub with_page : State → Place → List ℕ → State
with_page s (Prog page) bytes = record s { prog = slice_set s.prog page bytes }
with_page s (Ext page) bytes = record s { ext = slice_set s.ext page bytes }

-- the state with these bytes sent too
abbrev pub with_sent : State → List ℕ → State
with_sent s bytes = record s { sent = s.sent ++ bytes }

-- the same, but that this page holds some 256 bytes
pub record Spoils (place : Place) (s x : State) : Type 0 where
  pub bytes : List ℕ
  pub whole : IsPage bytes
  pub is : x ≡ with_page s place bytes

-- what a cut inside a call may leave that programs this page where needed: what was there, or any bytes in that page
abbrev pub MayHold : (State → Type 0) → Place → State → State → Type 0
MayHold needed place s x = (x ≡ s) ⊎ (needed s × Spoils place s x)

-- a program that is needed in any state
abbrev pub always : State → Type 0
always s = Unit {0}

-- what a cut inside a send may leave: some first part of the piece is sent
pub record SendsPart (piece : List ℕ) (s x : State) : Type 0 where
  pub count : ℕ
  pub is : x ≡ with_sent s (take count piece)

-- only these pages may have changed
pub record OnlyPages (may : Place → Bool) (s x : State) : Type 0 where
  pub sent : x.sent ≡ s.sent
  pub page : (place : Place) → may place ≡ false → page_at x place ≡ page_at s place

-- the pages of external flash from the first to the last of these
abbrev pub ext_pages : ℕ → ℕ → Place → Bool
ext_pages first last (Prog page) = false
ext_pages first last (Ext page) = nat_le first page && nat_le page last

-- so many pages of the external flash from this one on
abbrev pub area : ℕ → ℕ → State → List (List ℕ)
area first count s = take count (drop first s.ext)
