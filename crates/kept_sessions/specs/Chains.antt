-- Sessions one after another: each starts in a state that the former one, or a cut in it, left.
use Rattle.std.specs.Prelude.{◌≡◌, ℕ, ◌≤◌, List, [], ◌∷◌, Contains}
use Rattle.std.specs.List.{flat_map}
use Rattle.component_package.specs.declared.answer.Answer.TheVariants.{Committed, Booted}
use Rattle.component_package.specs.link.Pages.{IsPages}
use Rattle.kept_definitions.specs.Sound.{IsSound}
use Rattle.component_package.specs.mote.Lines.{line_of}
use Rattle.component_package.specs.mote.Headline.{Shown, HasLine, EndsWithLine}
use Rattle.kept_definitions.specs.Headline.{shown_parts, StandsFor, Chooses, IsKept}
use Rattle.component_package.specs.mote.Frames.{Frame}
use Rattle.kept_definitions.specs.Machine.{Mote, session_commits}
use Rattle.kept_definitions.specs.Kept.{Chosen}

-- a session that began with this mote, read these frames and sent these bytes, and what its end or a cut in it left
pub record Session : Type 0 where
  pub mote : Mote
  pub frames : List Frame
  pub sent : List ℕ
  pub last : Shown

-- it started with these flashes, and what it left is kept, as the headline has it
pub record StartsFrom (x : Shown) (r : Session) : Type 0 where
  pub stands : StandsFor (shown_parts x) r.mote
  pub kept : IsKept (r.mote.current ∷ session_commits r.mote r.frames) r.last r.sent

-- the first started with these flashes, and each other with those that the one before left
abbrev pub FollowOn : Shown → List Session → Type 0
FollowOn x [] = Unit {0}
FollowOn x (r ∷ rs) = StartsFrom x r × FollowOn r.last rs

-- what the last of them left
abbrev pub left_by : Shown → List Session → Shown
left_by x [] = x
left_by x (r ∷ rs) = left_by r.last rs

-- the sets that their commits made current, in order
abbrev pub commits_of_all : List Session → List Chosen
commits_of_all rs = flat_map (λ r. session_commits r.mote r.frames) rs

-- What holds after any number of sessions, cut or not, from a sound mote s on; `last` is what the last of them left.
pub record IsChained (s : Mote) (rs : List Session) (last : Shown) : Type 0 where
  pub sound : IsSound (shown_parts last)
  -- it boots the set that booted before the first of them, or one whose commit one of them received
  pub chosen : (c : Chosen) × Contains (s.current ∷ commits_of_all rs) c × Chooses (shown_parts last) c
  -- and no earlier release
  pub rises : (c : Chosen) → Chooses (shown_parts last) c → s.current.release.number ≤ c.release.number
  -- once one of them sent `committed N`, only set N or one committed later
  pub committed : (r : Session) (n : ℕ) → Contains rs r → HasLine (line_of (Committed n)) r.sent → (c : Chosen) → Chooses (shown_parts last) c
      → n ≤ c.release.number
  -- a boot of any of them that answered has started that release, byte for byte as linked from scratch
  pub booted : (r : Session) (n : ℕ) → Contains rs r → EndsWithLine (line_of (Booted n)) r.sent
      → (c : Chosen) × Contains (s.current ∷ commits_of_all rs) c × (c.release.number ≡ n) × IsPages c.set r.last.prog

abbrev pub SessionsChain : Type 0
SessionsChain = (s : Mote) (x : Shown) (rs : List Session) → IsSound (shown_parts x) → StandsFor (shown_parts x) s → FollowOn x rs → IsChained s rs (left_by x rs)
