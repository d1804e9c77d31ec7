-- What machine a sound mote of layout 2 stands for, and the headline: what holds wherever power is cut.
use Rattle.std.specs.Prelude.{◌≡◌, ℕ, ◌≤◌, Bool, true, false, if◌then◌else◌, List, [], ◌∷◌, ◌++◌, length, Option, Some, None, Contains}
use Rattle.component_package.specs.declared.answer.Answer.TheVariants.{Committed, Booted}
use Rattle.component_package.specs.link.Pages.{IsPages}
use Rattle.component_package.specs.mote.Sides.{man, img}
use Rattle.kept_definitions.specs.Stored.{StoredRelease, Stores}
use Rattle.kept_definitions.specs.Kept.{Chosen}
use Rattle.kept_definitions.specs.Sides.{Parts, parts_of, chosen_side, other_side, is_pending, set_of}
use Rattle.kept_definitions.specs.Sound.{IsSound}
use Rattle.component_package.specs.mote.Frames.{Frame, Frames}
use Rattle.component_package.specs.mote.Lines.{line_of}
use Rattle.component_package.specs.mote.Headline.{Shown, HasLine, EndsWithLine}
use Rattle.kept_definitions.specs.Machine.{Mote, session_lines, session_mote, session_commits}

-- an incoming release counts where Man is open and no commit stands
abbrev pub has_incoming : Parts → Bool
has_incoming p = if is_pending p then false else p.gates man

-- and it is linked where Img is open
abbrev pub is_linked : Parts → Bool
is_linked p = if is_pending p then false else p.gates img

-- what comes in is the other side's release
abbrev pub StandsForIncoming : Parts → Option StoredRelease → Type 0
StandsForIncoming p None = has_incoming p ≡ false
StandsForIncoming p (Some m) = (has_incoming p ≡ true) × Stores (other_side p) m

-- these parts choose that release and that set
pub record Chooses (p : Parts) (c : Chosen) : Type 0 where
  pub release : Stores (chosen_side p) c.release
  pub set : set_of p c.release ≡ c.set

-- the machine's state that these parts stand for
pub record StandsFor (p : Parts) (s : Mote) : Type 0 where
  pub current : Chooses p s.current
  pub incoming : StandsForIncoming p s.incoming
  pub inbox : s.inbox ≡ p.inbox
  pub linked : s.linked ≡ is_linked p
  pub standing : s.standing ≡ is_pending p

-- the parts of what a mote shows
abbrev pub shown_parts : Shown → Parts
shown_parts x = parts_of x.prog x.ext

-- what holds of each state that a cut may leave, where `sent` was sent since entry and `history` is the set chosen at entry followed by the
-- sets that were committed since
pub record IsKept (history : List Chosen) (x : Shown) (sent : List ℕ) : Type 0 where
  -- it is sound
  pub sound : IsSound (shown_parts x)
  -- it boots the set that booted before, or one whose commit was received since
  pub chosen : (c : Chosen) × Contains history c × Chooses (shown_parts x) c
  -- once `committed N` was sent, only set N or one committed later
  pub committed : (n : ℕ) → HasLine (line_of (Committed n)) sent → (c : Chosen) → Chooses (shown_parts x) c → n ≤ c.release.number
  -- a boot that answers has started that release, byte for byte as linked from scratch
  pub booted : (n : ℕ) → EndsWithLine (line_of (Booted n)) sent → (c : Chosen) × Contains history c × (c.release.number ≡ n) × IsPages c.set x.prog

-- the headline over one session: from `entry`, which stands for `s`, to `exit`, with these bytes taken from the line; `Left` are the states
-- that a cut may have left since entry, and `calm` is that no fault rose
pub record IsHeadline (s : Mote) (entry exit : Shown) (Left : Shown → Type 0) (calm : Type 0) (taken : List ℕ) : Type 0 where
  pub frames : List Frame
  pub rest : List ℕ
  -- no byte is taken past END, past a length that is too great, or past the one byte behind the last frame that is served
  pub read : Frames taken frames rest
  pub few : length frames ≤ 1000000
  pub budget : length frames ≡ 1000000 → length rest ≤ 1
  -- wherever power is cut
  pub kept : (x : Shown) (sent : List ℕ) → Left x → x.sent ≡ entry.sent ++ sent → IsKept (s.current ∷ session_commits s frames) x sent
  pub appends : (x : Shown) → Left x → (sent : List ℕ) × (x.sent ≡ entry.sent ++ sent)
  pub last : Left exit
  -- the lines are the machine's, or after a fault a prefix of them
  pub owed : List ℕ
  pub lines : entry.sent ++ session_lines s frames ≡ exit.sent ++ owed
  pub exact : calm → (owed ≡ []) × StandsFor (shown_parts exit) (session_mote s frames)
