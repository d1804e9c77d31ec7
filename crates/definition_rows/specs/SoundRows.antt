-- Each field of soundness counts: what differs from sound parts in what one field says is not sound.
use Rattle.std.specs.Prelude.{◌≡◌, ◌≢◌, ℕ, ◌≤◌, true, false, List, None}
use Rattle.component_package.specs.link.Link.{IsLate, link_cause}
use Rattle.component_package.specs.packages.Manifest.{StoredRelease, Stores}
use Rattle.component_package.specs.mote.Store.{HasSet, components_of}
use Rattle.component_package.specs.mote.Sides.{Parts, fmt, man, sym, rel, img, go_a, go_b, chosen_side, other_side, is_pending}
use Rattle.component_package.specs.mote.Sound.{IsSound}
use Rattle.mote_laws.specs.Steps.{with_gate, with_other_side}

-- parts that aren't sound
abbrev pub IsUnsound : Parts → Type 0
IsUnsound p = IsSound p → ⊥

-- whether a commit stands or not
pub record EachFieldCounts : Type 0 where
  pub formatted : (p : Parts) → IsUnsound (with_gate fmt false p)
  pub one_go : (p : Parts) → p.gates go_a ≡ true → IsUnsound (with_gate go_b true p)
  -- the chosen set is there, and nothing refuses it
  pub chosen_set : (p : Parts) (slots : List (List ℕ)) (m : StoredRelease) → Stores (chosen_side p) m → (HasSet slots m → ⊥) → IsUnsound (record p { slots = slots })
  pub chosen_cause : (p : Parts) (slots : List (List ℕ)) (m : StoredRelease) → Stores (chosen_side p) m → link_cause (components_of slots m) ≢ None
      → IsUnsound (record p { slots = slots })

-- where a commit stands, no other pages may be staged; where none does, no other pages may be in program flash
pub record EachImageCounts : Type 0 where
  pub staged : (p : Parts) (pages : List (List ℕ)) → is_pending p ≡ true → IsSound p → pages ≢ p.staged → IsUnsound (record p { staged = pages })
  pub prog : (p : Parts) (pages : List (List ℕ)) → is_pending p ≡ false → IsSound p → pages ≢ p.prog → IsUnsound (record p { prog = pages })

-- where no commit stands, an open gate vouches for all that it is said to vouch for
pub record EachGateCounts : Type 0 where
  -- Man: a release on the other side, above the chosen one
  pub man_release : (p : Parts) (bytes : List ℕ) → is_pending p ≡ false → p.gates man ≡ true → ((n : StoredRelease) → Stores bytes n → ⊥) → IsUnsound (with_other_side bytes p)
  pub man_above : (p : Parts) (bytes : List ℕ) (m n : StoredRelease) → is_pending p ≡ false → p.gates man ≡ true → Stores (chosen_side p) m → Stores bytes n → n.number ≤ m.number
      → IsUnsound (with_other_side bytes p)
  -- Sym: Man, the other side's set, that nothing early refuses it, and its one table
  pub sym_man : (p : Parts) → is_pending p ≡ false → p.gates sym ≡ true → IsUnsound (with_gate man false p)
  pub sym_set : (p : Parts) (slots : List (List ℕ)) (m : StoredRelease) → is_pending p ≡ false → p.gates sym ≡ true → Stores (other_side p) m → (HasSet slots m → ⊥)
      → IsUnsound (record p { slots = slots })
  pub sym_cause : (p : Parts) (slots : List (List ℕ)) (m : StoredRelease) → is_pending p ≡ false → p.gates sym ≡ true → Stores (other_side p) m
      → (IsLate (link_cause (components_of slots m)) → ⊥) → IsUnsound (record p { slots = slots })
  pub sym_table : (p : Parts) (area : List ℕ) → is_pending p ≡ false → p.gates sym ≡ true → IsSound p → area ≢ p.symbols → IsUnsound (record p { symbols = area })
  -- Rel: Sym, that nothing refuses the set, and its one list
  pub rel_sym : (p : Parts) → is_pending p ≡ false → p.gates rel ≡ true → IsUnsound (with_gate sym false p)
  pub rel_cause : (p : Parts) (slots : List (List ℕ)) (m : StoredRelease) → is_pending p ≡ false → p.gates rel ≡ true → Stores (other_side p) m
      → link_cause (components_of slots m) ≢ None → IsUnsound (record p { slots = slots })
  pub rel_list : (p : Parts) (area : List ℕ) → is_pending p ≡ false → p.gates rel ≡ true → IsSound p → area ≢ p.relocs → IsUnsound (record p { relocs = area })
  -- Img: Rel, and the set's one image
  pub img_rel : (p : Parts) → is_pending p ≡ false → p.gates img ≡ true → IsUnsound (with_gate rel false p)
  pub img_image : (p : Parts) (pages : List (List ℕ)) → is_pending p ≡ false → p.gates img ≡ true → IsSound p → pages ≢ p.staged → IsUnsound (record p { staged = pages })
