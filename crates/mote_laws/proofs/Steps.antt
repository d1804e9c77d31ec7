-- Each step of the install journal keeps a mote sound.
use Rattle.std.proofs.Common.{◌≡◌, ℕ, List, Bool, true, false, set, refl, sym as flip, ap, ◌∙◌, subst, arith}
use Rattle.component_package.specs.packages.Manifest.{StoredRelease, Stores}
use Rattle.component_package.specs.mote.Store.{components_of}
use Rattle.component_package.specs.mote.Sides.{Parts, man, sym, rel, img, sel, is_on_b, chosen_side, other_side, is_pending}
use Rattle.component_package.specs.mote.Sound.{IsSound, HoldsSet, HasNoCause, HasLateCause, HasTable, HasList, HasImage, IsNext}
use Rattle.component_package.specs.mote.Machine.{Chosen}
use Rattle.component_package.specs.mote.Headline.{Chooses}
use Rattle.mote_laws.specs.Steps.{with_gate, with_other_side, other_go, chosen_go, ClosingKeeps, WritingKeeps, SlotWritingKeeps, OpeningKeeps, CommitIsWhole, SelectingKeeps, FinishingKeeps}
use Rattle.mote_laws.proofs.Kept.{no_cause_kept, image_kept, components_kept}

-- the same side and the same components choose the same
pub chooses_kept : (p q : Parts) → chosen_side q ≡ chosen_side p → ((m : StoredRelease) → Stores (chosen_side p) m → components_of q.slots m ≡ components_of p.slots m) → (c : Chosen) → Chooses p c → Chooses q c
chooses_kept p q side slots c chooses = record {
  release = subst (λ (b : List ℕ). Stores b c.release) (flip side) chooses.release;
  set = slots c.release chooses.release ∙ chooses.set;
}

-- the same side and the same slots
chooses_same : (p q : Parts) → chosen_side q ≡ chosen_side p → q.slots ≡ p.slots → (c : Chosen) → Chooses p c → Chooses q c
chooses_same p q side slots = chooses_kept p q side (λ m stores. ap (λ (s : List (List ℕ)). components_of s m) slots)

-- Img may be closed
shuts_img : (p : Parts) (b : Bool) → IsSound p → p.gates img ≡ true → IsSound (with_gate img b p)
shuts_img p b sound was = grind arith

-- Rel, once Img is
shuts_rel : (p : Parts) (b : Bool) → IsSound p → p.gates rel ≡ true → p.gates img ≡ false → IsSound (with_gate rel b p)
shuts_rel p b sound was no_img = grind arith

-- Sym, once Rel is
shuts_sym : (p : Parts) (b : Bool) → IsSound p → p.gates sym ≡ true → p.gates rel ≡ false → p.gates img ≡ false → IsSound (with_gate sym b p)
shuts_sym p b sound was no_rel no_img = grind arith

-- Man, once Sym is
shuts_man : (p : Parts) (b : Bool) → IsSound p → p.gates man ≡ true → p.gates sym ≡ false → p.gates rel ≡ false → p.gates img ≡ false → IsSound (with_gate man b p)
shuts_man p b sound was no_sym no_rel no_img = grind arith

pub closing_keeps : ClosingKeeps
closing_keeps = record {
  image = λ p b sound was. record { sound = shuts_img p b sound was; chosen = chooses_same p (with_gate img b p) refl refl };
  relocs = λ p b sound was no_img. record { sound = shuts_rel p b sound was no_img; chosen = chooses_same p (with_gate rel b p) refl refl };
  symbols = λ p b sound was no_rel no_img. record { sound = shuts_sym p b sound was no_rel no_img; chosen = chooses_same p (with_gate sym b p) refl refl };
  manifest = λ p b sound was no_sym no_rel no_img. record { sound = shuts_man p b sound was no_sym no_rel no_img; chosen = chooses_same p (with_gate man b p) refl refl };
}

-- the other side while Man is closed
writes_side : (p : Parts) (bytes : List ℕ) → IsSound p → is_pending p ≡ false → p.gates man ≡ false → IsSound (with_other_side bytes p)
writes_side p bytes sound calm shut = grind arith

-- the chosen side stays
other_written : (p : Parts) (bytes : List ℕ) → chosen_side (with_other_side bytes p) ≡ chosen_side p
other_written p bytes = grind arith

-- the symbols while Sym is closed
writes_symbols : (p : Parts) (area : List ℕ) → IsSound p → p.gates sym ≡ false → IsSound (record p { symbols = area })
writes_symbols p area sound shut = grind arith

-- the relocations while Rel is closed
writes_relocs : (p : Parts) (area : List ℕ) → IsSound p → p.gates rel ≡ false → IsSound (record p { relocs = area })
writes_relocs p area sound shut = grind arith

-- the staged pages while Img is closed
writes_staged : (p : Parts) (pages : List (List ℕ)) → IsSound p → is_pending p ≡ false → p.gates img ≡ false → IsSound (record p { staged = pages })
writes_staged p pages sound calm shut = grind arith

-- program flash while a commit stands
writes_prog : (p : Parts) (pages : List (List ℕ)) → IsSound p → is_pending p ≡ true → IsSound (record p { prog = pages })
writes_prog p pages sound pending = grind arith

pub writing_keeps : WritingKeeps
writing_keeps = record {
  side = λ p bytes sound calm shut. record { sound = writes_side p bytes sound calm shut; chosen = chooses_same p (with_other_side bytes p) (other_written p bytes) refl };
  symbols = λ p area sound shut. record { sound = writes_symbols p area sound shut; chosen = chooses_same p (record p { symbols = area }) refl refl };
  relocs = λ p area sound shut. record { sound = writes_relocs p area sound shut; chosen = chooses_same p (record p { relocs = area }) refl refl };
  staged = λ p pages sound calm shut. record { sound = writes_staged p pages sound calm shut; chosen = chooses_same p (record p { staged = pages }) refl refl };
  prog = λ p pages sound pending. record { sound = writes_prog p pages sound pending; chosen = chooses_same p (record p { prog = pages }) refl refl };
}

-- slots that keep the chosen set's words
writes_slots : (p : Parts) (slots : List (List ℕ)) → IsSound p → p.gates sym ≡ false → HasNoCause slots (chosen_side p)
    → ((pages : List (List ℕ)) → HasImage p.slots (chosen_side p) pages → HasImage slots (chosen_side p) pages) → IsSound (record p { slots = slots })
writes_slots p slots sound shut cause image = grind (arith, image p.staged, image p.prog)

pub slot_writing_keeps : SlotWritingKeeps
slot_writing_keeps p s bytes sound shut unused = record {
  sound = writes_slots p (set p.slots s bytes) sound shut (no_cause_kept p.slots s bytes (chosen_side p) unused sound.chosen) (λ pages. image_kept p.slots s bytes (chosen_side p) pages unused);
  chosen = chooses_kept p (record p { slots = set p.slots s bytes }) refl (λ m stores. components_kept p.slots s bytes m (unused m stores));
}

-- Man, where the other side is next
opens_man : (p : Parts) (b : Bool) → IsSound p → is_pending p ≡ false → p.gates man ≡ false → IsNext (chosen_side p) (other_side p) → IsSound (with_gate man b p)
opens_man p b sound calm shut next = grind arith

-- Sym, where the symbols are merged
opens_sym : (p : Parts) (b : Bool) → IsSound p → is_pending p ≡ false → p.gates sym ≡ false → p.gates man ≡ true → HoldsSet p.slots (other_side p)
    → HasLateCause p.slots (other_side p) → HasTable p.slots (other_side p) p.symbols → IsSound (with_gate sym b p)
opens_sym p b sound calm shut man_open set cause table = grind arith

-- Rel, where the relocations are listed
opens_rel : (p : Parts) (b : Bool) → IsSound p → is_pending p ≡ false → p.gates rel ≡ false → p.gates sym ≡ true → HasNoCause p.slots (other_side p)
    → HasList p.slots (other_side p) p.relocs → IsSound (with_gate rel b p)
opens_rel p b sound calm shut merged cause list = grind arith

-- Img, where the image is staged
opens_img : (p : Parts) (b : Bool) → IsSound p → is_pending p ≡ false → p.gates img ≡ false → p.gates rel ≡ true → HasImage p.slots (other_side p) p.staged → IsSound (with_gate img b p)
opens_img p b sound calm shut listed image = grind arith

pub opening_keeps : OpeningKeeps
opening_keeps = record {
  manifest = λ p b sound calm shut next. record { sound = opens_man p b sound calm shut next; chosen = chooses_same p (with_gate man b p) refl refl };
  symbols = λ p b sound calm shut man_open set cause table. record { sound = opens_sym p b sound calm shut man_open set cause table; chosen = chooses_same p (with_gate sym b p) refl refl };
  relocs = λ p b sound calm shut merged cause list. record { sound = opens_rel p b sound calm shut merged cause list; chosen = chooses_same p (with_gate rel b p) refl refl };
  image = λ p b sound calm shut listed image. record { sound = opens_img p b sound calm shut listed image; chosen = chooses_same p (with_gate img b p) refl refl };
}

-- the other side's Go gate, where Img is open
goes : (p : Parts) (b : Bool) → IsSound p → is_pending p ≡ false → p.gates img ≡ true → IsSound (with_gate (other_go p) b p)
goes p b sound calm image = grind arith

-- where it stayed closed the choice stays
stays : (p : Parts) (b : Bool) → is_pending p ≡ false → b ≡ false → chosen_side (with_gate (other_go p) b p) ≡ chosen_side p
stays p b calm shut = grind arith

-- where it opened the other side is chosen
brought : (p : Parts) (b : Bool) → is_pending p ≡ false → b ≡ true → chosen_side (with_gate (other_go p) b p) ≡ other_side p
brought p b calm stands = grind arith

pub commit_is_whole : CommitIsWhole
commit_is_whole p b sound calm image = record {
  sound = goes p b sound calm image;
  before = λ shut. chooses_same p (with_gate (other_go p) b p) (stays p b calm shut) refl;
  behind = λ stands c other. record { release = subst (λ (bytes : List ℕ). Stores bytes c.release) (flip (brought p b calm stands)) other.release; set = other.set };
}

-- Sel, while a commit stands
selects : (p : Parts) (b : Bool) → IsSound p → is_pending p ≡ true → IsSound (with_gate sel b p)
selects p b sound pending = grind arith

-- and the choice stays
selected : (p : Parts) (b : Bool) → is_pending p ≡ true → chosen_side (with_gate sel b p) ≡ chosen_side p
selected p b pending = grind arith

pub selecting_keeps : SelectingKeeps
selecting_keeps p b sound pending = record { sound = selects p b sound pending; chosen = chooses_same p (with_gate sel b p) (selected p b pending) refl }

-- the Go gate, once all else is done
finishes : (p : Parts) (b : Bool) → IsSound p → is_pending p ≡ true → p.gates sel ≡ is_on_b p → p.gates img ≡ false → p.gates rel ≡ false → p.gates sym ≡ false → p.gates man ≡ false
    → p.prog ≡ p.staged → IsSound (with_gate (chosen_go p) b p)
finishes p b sound pending at no_img no_rel no_sym no_man done = grind arith

-- and the choice stays
finished : (p : Parts) (b : Bool) → IsSound p → is_pending p ≡ true → p.gates sel ≡ is_on_b p → chosen_side (with_gate (chosen_go p) b p) ≡ chosen_side p
finished p b sound pending at = grind arith

pub finishing_keeps : FinishingKeeps
finishing_keeps p b sound pending at no_img no_rel no_sym no_man done = record {
  sound = finishes p b sound pending at no_img no_rel no_sym no_man done;
  chosen = chooses_same p (with_gate (chosen_go p) b p) (finished p b sound pending at) refl;
}
