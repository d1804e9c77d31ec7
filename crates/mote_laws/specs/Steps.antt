-- Each step of the install journal keeps a mote sound, whatever bytes a cut leaves in the page that it programs.
use Rattle.std.specs.Prelude.{◌≡◌, ℕ, ◌==◌, Bool, true, false, List, map, slice_set, if◌then◌else◌}
use Rattle.component_package.specs.packages.Manifest.{StoredRelease, Stores}
use Rattle.component_package.specs.mote.Store.{components_of, is_taken}
use Rattle.component_package.specs.mote.Sides.{Parts, man, sym, rel, img, go_a, go_b, sel, is_on_b, chosen_side, other_side, is_pending}
use Rattle.component_package.specs.mote.Sound.{HoldsSet, HasNoCause, HasLateCause, HasTable, HasList, HasImage, IsNext, IsSound}
use Rattle.component_package.specs.mote.Machine.{Chosen}
use Rattle.component_package.specs.mote.Headline.{Chooses}

-- ---- parts after a program

-- the parts with a gate so
abbrev pub with_gate : ℕ → Bool → Parts → Parts
with_gate gate stands p = record p { gates = λ g. if g == gate then stands else p.gates g }

-- the parts with other bytes on the side that isn't chosen
abbrev pub with_other_side : List ℕ → Parts → Parts
with_other_side bytes p = record p { side_a = if is_on_b p then bytes else p.side_a; side_b = if is_on_b p then p.side_b else bytes }

-- the Go gate of the side that isn't chosen, and of the chosen one
abbrev pub other_go : Parts → ℕ
other_go p = if is_on_b p then go_a else go_b

abbrev pub chosen_go : Parts → ℕ
chosen_go p = if is_on_b p then go_b else go_a

-- ---- what a step keeps

-- the parts after it are sound, and choose the release and the set that they chose before
pub record Keeps (p q : Parts) : Type 0 where
  pub sound : IsSound q
  pub chosen : (c : Chosen) → Chooses p c → Chooses q c

-- the other side has that release and that set
pub record HasOther (p : Parts) (c : Chosen) : Type 0 where
  pub release : Stores (other_side p) c.release
  pub set : components_of p.slots c.release ≡ c.set

-- the release has no package in this slot
abbrev pub IsUnused : StoredRelease → ℕ → Type 0
IsUnused m s = is_taken (map (λ p. p.slot) m.placed) s ≡ false

-- ---- gates that are closed

-- A gate that is closed may stand either way until it is done, and what rests on it is closed before. A gate closed while one that rests
-- on it is open would leave that one to vouch for what isn't there.
pub record ClosingKeeps : Type 0 where
  pub image : (p : Parts) (b : Bool) → IsSound p → p.gates img ≡ true → Keeps p (with_gate img b p)
  pub relocs : (p : Parts) (b : Bool) → IsSound p → p.gates rel ≡ true → p.gates img ≡ false → Keeps p (with_gate rel b p)
  pub symbols : (p : Parts) (b : Bool) → IsSound p → p.gates sym ≡ true → p.gates rel ≡ false → p.gates img ≡ false → Keeps p (with_gate sym b p)
  pub manifest : (p : Parts) (b : Bool) → IsSound p → p.gates man ≡ true → p.gates sym ≡ false → p.gates rel ≡ false → p.gates img ≡ false
      → Keeps p (with_gate man b p)

-- ---- pages that are written

-- A page changes only while its gate is closed. A manifest's page written while Man or Sym is open would make them vouch for another
-- release; a page of an area, for what it isn't.
pub record WritingKeeps : Type 0 where
  pub side : (p : Parts) (bytes : List ℕ) → IsSound p → is_pending p ≡ false → p.gates man ≡ false → Keeps p (with_other_side bytes p)
  pub symbols : (p : Parts) (area : List ℕ) → IsSound p → p.gates sym ≡ false → Keeps p (record p { symbols = area })
  pub relocs : (p : Parts) (area : List ℕ) → IsSound p → p.gates rel ≡ false → Keeps p (record p { relocs = area })
  pub staged : (p : Parts) (pages : List (List ℕ)) → IsSound p → is_pending p ≡ false → p.gates img ≡ false → Keeps p (record p { staged = pages })
  -- program flash changes only while the staged image is there to finish it: without a Go gate a cut would leave no image that boots
  pub prog : (p : Parts) (pages : List (List ℕ)) → IsSound p → is_pending p ≡ true → Keeps p (record p { prog = pages })

-- A slot changes, to any bytes, only where the chosen release has no package in it and the symbols that were merged from it don't count.
-- A held component's slot is the chosen release's too: to write it would spoil the set that boots.
abbrev pub SlotWritingKeeps : Type 0
SlotWritingKeeps = (p : Parts) (s : ℕ) (bytes : List ℕ) → IsSound p → p.gates sym ≡ false
    → ((m : StoredRelease) → Stores (chosen_side p) m → IsUnused m s) → Keeps p (record p { slots = slice_set p.slots s bytes })

-- ---- gates that are opened

-- A gate is opened where what it vouches for holds, so that it may stand either way meanwhile. Opened before, it would vouch for what isn't
-- there yet.
pub record OpeningKeeps : Type 0 where
  pub manifest : (p : Parts) (b : Bool) → IsSound p → is_pending p ≡ false → p.gates man ≡ false → IsNext (chosen_side p) (other_side p)
      → Keeps p (with_gate man b p)
  pub symbols : (p : Parts) (b : Bool) → IsSound p → is_pending p ≡ false → p.gates sym ≡ false → p.gates man ≡ true → HoldsSet p.slots (other_side p)
      → HasLateCause p.slots (other_side p) → HasTable p.slots (other_side p) p.symbols → Keeps p (with_gate sym b p)
  pub relocs : (p : Parts) (b : Bool) → IsSound p → is_pending p ≡ false → p.gates rel ≡ false → p.gates sym ≡ true → HasNoCause p.slots (other_side p)
      → HasList p.slots (other_side p) p.relocs → Keeps p (with_gate rel b p)
  pub image : (p : Parts) (b : Bool) → IsSound p → is_pending p ≡ false → p.gates img ≡ false → p.gates rel ≡ true
      → HasImage p.slots (other_side p) p.staged → Keeps p (with_gate img b p)

-- ---- a commit, and its end

-- The other side's Go gate is opened where the image gate is open: the mote is sound either way, and chooses the other side's release where the gate
-- came to be open, else what it chose before. Opened with the image gate closed, it would choose a release whose image isn't staged.
pub record Commits (p : Parts) (b : Bool) (q : Parts) : Type 0 where
  pub sound : IsSound q
  pub before : b ≡ false → (c : Chosen) → Chooses p c → Chooses q c
  pub behind : b ≡ true → (c : Chosen) → HasOther p c → Chooses q c

abbrev pub CommitIsWhole : Type 0
CommitIsWhole = (p : Parts) (b : Bool) → IsSound p → is_pending p ≡ false → p.gates img ≡ true → Commits p b (with_gate (other_go p) b p)

-- Sel is brought over to the chosen side while a Go gate is open. Brought over before, it would choose the other side with no image.
abbrev pub SelectingKeeps : Type 0
SelectingKeeps = (p : Parts) (b : Bool) → IsSound p → is_pending p ≡ true → Keeps p (with_gate sel b p)

-- The Go gate is closed last: program flash is the staged image, Sel stands at the chosen side, and nothing incoming counts. Closed before Sel is
-- brought over, it would choose the former side while program flash is the new one's image.
abbrev pub FinishingKeeps : Type 0
FinishingKeeps = (p : Parts) (b : Bool) → IsSound p → is_pending p ≡ true → p.gates sel ≡ is_on_b p → p.gates img ≡ false → p.gates rel ≡ false
    → p.gates sym ≡ false → p.gates man ≡ false
    → p.prog ≡ p.staged → Keeps p (with_gate (chosen_go p) b p)
