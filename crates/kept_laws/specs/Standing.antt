-- What the gates and the sides of a mote say, whatever its inbox and tables hold, sound or not: unformatted, or a release that boots and perhaps one that comes in.
use Rattle.std.specs.Prelude.{◌≡◌, ◌⊎◌, true, false, ℕ, List, Option, Some, None}
use Rattle.kept_definitions.specs.Stored.{StoredRelease, Stores}
use Rattle.component_package.specs.mote.Sides.{fmt, go_a, go_b}
use Rattle.kept_definitions.specs.Sides.{Parts, chosen_side, other_side}
use Rattle.kept_definitions.specs.Sound.{IsSound}
use Rattle.kept_definitions.specs.Headline.{has_incoming, is_linked, StandsFor}
use Rattle.kept_definitions.specs.Machine.{Mote}
use Rattle.kept_laws.specs.Steps.{with_gate}

-- a side stores no release
abbrev pub IsNoRelease : List ℕ → Type 0
IsNoRelease side = (m : StoredRelease) → Stores side m → ⊥

-- no release is known that could boot: the gate Fmt is closed, both Go gates are open, or the chosen side stores no release
abbrev pub IsUnformatted : Parts → Type 0
IsUnformatted p = (p.gates fmt ≡ false) ⊎ (((p.gates go_a ≡ true) × (p.gates go_b ≡ true)) ⊎ IsNoRelease (chosen_side p))

-- what comes in: the other side's release, where Man is open, no commit stands and the side stores one
abbrev pub IsIncoming : Parts → Option StoredRelease → Type 0
IsIncoming p None = has_incoming p ≡ true → IsNoRelease (other_side p)
IsIncoming p (Some m) = (has_incoming p ≡ true) × Stores (other_side p) m

-- Of sound parts all that is known: they aren't unformatted, and what is read of them is what their mote holds.
pub record SoundPartsTell : Type 0 where
  pub formatted : (p : Parts) → IsSound p → IsUnformatted p → ⊥
  pub current : (p : Parts) (s : Mote) (m : StoredRelease) → StandsFor p s → Stores (chosen_side p) m → m ≡ s.current.release
  pub incoming : (p : Parts) (s : Mote) (o : Option StoredRelease) → IsSound p → StandsFor p s → IsIncoming p o → o ≡ s.incoming
  -- Img is open only where something comes in
  pub linked : (p : Parts) (s : Mote) (o : Option StoredRelease) → IsSound p → StandsFor p s → IsIncoming p o → is_linked p ≡ true
      → (m : StoredRelease) × (o ≡ Some m)

-- A gate that is set to what it is changes nothing.
abbrev pub GatesStay : Type 0
GatesStay = (p : Parts) (gate : ℕ) → with_gate gate (p.gates gate) p ≡ p
