-- Each field of soundness counts: parts that lack what one field asks for aren't sound.
use Rattle.std.specs.Prelude.{◌≡◌, ◌≢◌, ℕ, ◌≤◌, true, false, List, None}
use Rattle.component_package.specs.link.Link.{IsLate, link_cause}
use Rattle.component_package.specs.link.Pages.{IsPages}
use Rattle.component_package.specs.mote.Sides.{fmt, man, sym, rel, img, go_a, go_b}
use Rattle.kept_definitions.specs.Stored.{StoredRelease, Stores}
use Rattle.kept_definitions.specs.Kept.{Chosen, HoldPackages, kept_packages, going_packages, coming_set, HasComing}
use Rattle.kept_definitions.specs.Sides.{Parts, chosen_side, other_side, is_pending, kept_set, going_set, set_of}
use Rattle.kept_definitions.specs.Sound.{IsSound}
use Rattle.kept_definitions.specs.Headline.{Chooses}
use Rattle.kept_laws.specs.Steps.{with_gate, with_other_side}

-- parts that aren't sound
abbrev pub IsUnsound : Parts → Type 0
IsUnsound p = IsSound p → ⊥

-- whether a commit stands or not
pub record EachFieldCounts : Type 0 where
  pub formatted : (p : Parts) → IsUnsound (with_gate fmt false p)
  pub one_go : (p : Parts) → p.gates go_a ≡ true → IsUnsound (with_gate go_b true p)
  -- the chosen side stores a release, and nothing refuses its set
  pub chosen_release : (p : Parts) → ((m : StoredRelease) → Stores (chosen_side p) m → ⊥) → IsUnsound p
  pub chosen_cause : (p : Parts) (m : StoredRelease) → Stores (chosen_side p) m → link_cause (set_of p m) ≢ None → IsUnsound p
  -- where no commit stands its packages are taken back from program flash, which is their image
  pub kept_there : (p : Parts) (m : StoredRelease) → is_pending p ≡ false → Stores (chosen_side p) m → (HoldPackages m.placed (kept_packages p.tables p.prog m) → ⊥) → IsUnsound p
  pub kept_image : (p : Parts) (m : StoredRelease) → is_pending p ≡ false → Stores (chosen_side p) m → (IsPages (kept_set p.tables p.prog m) p.prog → ⊥) → IsUnsound p
  -- where one stands they are taken back from the staged pages, which are their image
  pub going_there : (p : Parts) (m : StoredRelease) → is_pending p ≡ true → Stores (chosen_side p) m → (HoldPackages m.placed (going_packages p.tables p.inbox p.staged m) → ⊥)
      → IsUnsound p
  pub going_image : (p : Parts) (m : StoredRelease) → is_pending p ≡ true → Stores (chosen_side p) m → (IsPages (going_set p.tables p.inbox p.staged m) p.staged → ⊥) → IsUnsound p

-- no other pages are the image of the same set
pub record EachImageCounts : Type 0 where
  pub prog : (p : Parts) (pages : List (List ℕ)) (c : Chosen) → is_pending p ≡ false → IsSound p → Chooses p c → kept_set p.tables pages c.release ≡ c.set → pages ≢ p.prog
      → IsUnsound (record p { prog = pages })
  pub staged : (p : Parts) (pages : List (List ℕ)) (c : Chosen) → is_pending p ≡ true → IsSound p → Chooses p c → going_set p.tables p.inbox pages c.release ≡ c.set
      → pages ≢ p.staged → IsUnsound (record p { staged = pages })

-- where no commit stands, an open gate vouches for all that it is said to vouch for
pub record EachGateCounts : Type 0 where
  -- Man: a release on the other side, above the chosen one
  pub man_release : (p : Parts) (bytes : List ℕ) → is_pending p ≡ false → p.gates man ≡ true → ((n : StoredRelease) → Stores bytes n → ⊥) → IsUnsound (with_other_side bytes p)
  pub man_above : (p : Parts) (bytes : List ℕ) (m n : StoredRelease) → is_pending p ≡ false → p.gates man ≡ true → Stores (chosen_side p) m → Stores bytes n → n.number ≤ m.number
      → IsUnsound (with_other_side bytes p)
  -- Sym: Man, the set that comes in, that nothing early refuses it, and its one table
  pub sym_man : (p : Parts) → is_pending p ≡ false → p.gates sym ≡ true → IsUnsound (with_gate man false p)
  pub sym_set : (p : Parts) (now : Chosen) (m : StoredRelease) → is_pending p ≡ false → p.gates sym ≡ true → Chooses p now → Stores (other_side p) m
      → (HasComing now p.inbox m → ⊥) → IsUnsound p
  pub sym_cause : (p : Parts) (now : Chosen) (m : StoredRelease) → is_pending p ≡ false → p.gates sym ≡ true → Chooses p now → Stores (other_side p) m
      → (IsLate (link_cause (coming_set now p.inbox m)) → ⊥) → IsUnsound p
  pub sym_table : (p : Parts) (area : List ℕ) → is_pending p ≡ false → p.gates sym ≡ true → IsSound p → area ≢ p.symbols → IsUnsound (record p { symbols = area })
  -- Rel: Sym, that nothing refuses the set, and its one list
  pub rel_sym : (p : Parts) → is_pending p ≡ false → p.gates rel ≡ true → IsUnsound (with_gate sym false p)
  pub rel_cause : (p : Parts) (now : Chosen) (m : StoredRelease) → is_pending p ≡ false → p.gates rel ≡ true → Chooses p now → Stores (other_side p) m
      → link_cause (coming_set now p.inbox m) ≢ None → IsUnsound p
  pub rel_list : (p : Parts) (area : List ℕ) → is_pending p ≡ false → p.gates rel ≡ true → IsSound p → area ≢ p.relocs → IsUnsound (record p { relocs = area })
  -- Img: Rel, and the set's one image
  pub img_rel : (p : Parts) → is_pending p ≡ false → p.gates img ≡ true → IsUnsound (with_gate rel false p)
  pub img_image : (p : Parts) (pages : List (List ℕ)) → is_pending p ≡ false → p.gates img ≡ true → IsSound p → pages ≢ p.staged → IsUnsound (record p { staged = pages })
