-- What a rehearsal sends, and what it does to the board on whose line it tells.
use Rattle.std.specs.Prelude.{◌≡◌, ◌⊎◌, Bool, true, false, ℕ, zero, suc, ◌+◌, ◌/◌, ◌%◌, ◌≤◌, ◌==◌, List, [], ◌∷◌, ◌++◌, codes, decimal, Some}
use Rattle.std.specs.List.{concat}
use Rattle.sha2.specs.Sha256.{sha256}
use Rattle.hex.specs.Hex.{encode_lower}
use Rattle.flash_pages.specs.State.{State}
use Rattle.flash_pages.specs.Board.{View}
use Rattle.component_package.specs.packages.Component.{Component}
use Rattle.component_package.specs.link.Link.{IsImage}
use Rattle.component_package.specs.link.Pages.{IsPages, padded}
use Rattle.update_laws.specs.Update.{components_in}
use Rattle.drawn_releases.specs.Generator.{release_drawn}

-- ---- lines

-- these are the bytes of program flash where a mote has started the set: its image, and 0xFF behind it
pub record IsFlash (set : List Component) (whole : List ℕ) : Type 0 where
  pub image : List ℕ
  pub is : IsImage set image
  pub whole_is : whole ≡ padded image

-- a word, a release, and the digest of the pages of this set
pub record TellsSet (word : List ℕ) (release : ℕ) (set : List Component) (line : List ℕ) : Type 0 where
  pub pages : List (List ℕ)
  pub are : IsPages set pages
  pub is : line ≡ word ++ (decimal release ++ 32 ∷ (encode_lower (sha256 (concat pages)) ++ 10 ∷ []))

-- the same of the set of this release, of those that are drawn from the number; release 0 has no component
abbrev pub Tells : List ℕ → ℕ → ℕ → List ℕ → Type 0
Tells word number release line = TellsSet word release (components_in (release_drawn number release).packages) line

-- behind the cut in the installation of release r, the mote has started it or the one before
pub record IsCutLine (number r : ℕ) (line : List ℕ) : Type 0 where
  pub release : ℕ
  pub which : (release + 1 ≡ r) ⊎ (release ≡ r)
  pub tells : Tells (codes "cut ") number release line

-- a line by what it is for: the end of all, the cut of release r, or its boot
abbrev pub IsLineFor : Bool → Bool → ℕ → ℕ → List ℕ → Type 0
IsLineFor true cut number r line = line ≡ codes "done 20\n"
IsLineFor false true number r line = IsCutLine number r line
IsLineFor false false number r line = Tells (codes "boot ") number r line

-- line i of a rehearsal, from 0: of each release the line of its cut and that of its boot, and at last that twenty are done
abbrev pub IsLine : ℕ → ℕ → List ℕ → Type 0
IsLine number i line = IsLineFor (i == 40) (i % 2 == 0) number (i / 2 + 1) line

-- these bytes are the first so many lines
abbrev pub AreLines : ℕ → ℕ → List ℕ → Type 0
AreLines number zero bytes = bytes ≡ []
AreLines number (suc i) bytes = (front : List ℕ) × (line : List ℕ) × AreLines number i front × IsLine number i line × (bytes ≡ front ++ line)

-- ---- the board

-- nothing was done but to send: no page was read, programmed or changed that the board tells of
pub record OnlySends (old new : View) : Type 0 where
  pub left : new.left ≡ old.left
  pub programs : new.all_programs ≡ old.all_programs
  pub flash : new.flash_faults ≡ old.flash_faults
  pub pages : (s : State) → old.state ≡ Some s → (x : State) × (new.state ≡ Some x) × (x.prog ≡ s.prog) × (x.ext ≡ s.ext)

-- a first part of the piece was sent, and all of it where that was done
pub record SendsPiece (piece : List ℕ) (done : Bool) (s : State) (v : View) : Type 0 where
  pub end : State
  pub told : v.state ≡ Some end
  pub owed : List ℕ
  pub sent : s.sent ++ piece ≡ end.sent ++ owed
  pub whole : done ≡ true → owed ≡ []

-- the exit statuses of a rehearsal: it was done, there was no memory, or a line could not be sent
abbrev pub EndsRehearsal : ℕ → Type 0
EndsRehearsal status = (status ≡ 0) ⊎ ((status ≡ 1) ⊎ (status ≡ 5))

-- so many lines were sent since s
pub record HasLines (number count : ℕ) (s : State) (v : View) : Type 0 where
  pub lines : List ℕ
  pub are : AreLines number count lines
  pub end : State
  pub told : v.state ≡ Some end
  pub sent : end.sent ≡ s.sent ++ lines

-- A first part of the 41 lines was sent since s, the last of these lines perhaps in part; and all of them with status 0.
pub record SendsLines (number status : ℕ) (s : State) (v : View) : Type 0 where
  pub count : ℕ
  pub few : count ≤ 41
  pub lines : List ℕ
  pub are : AreLines number count lines
  pub end : State
  pub told : v.state ≡ Some end
  pub owed : List ℕ
  pub sent : s.sent ++ lines ≡ end.sent ++ owed
  pub whole : status ≡ 0 → (count ≡ 41) × (owed ≡ [])
