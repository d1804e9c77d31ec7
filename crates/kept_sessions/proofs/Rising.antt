-- What comes in is above what boots, in sound parts.
use Rattle.std.proofs.Common.{◌≡◌, ℕ, ◌<◌, List, Option, Some, None, ap, subst}
use Rattle.kept_definitions.specs.Stored.{StoredRelease, Stores}
use Rattle.kept_definitions.specs.Kept.{slots_for}
use Rattle.kept_definitions.specs.Sides.{Parts, chosen_side, other_side}
use Rattle.kept_definitions.specs.Sound.{IsSound, IsNext}
use Rattle.kept_definitions.specs.Headline.{StandsFor, StandsForIncoming}
use Rattle.kept_definitions.specs.Machine.{Mote}
use Rattle.kept_laws.specs.Runs.{IsAbove, IsRising}
use Rattle.kept_laws.proofs.Stored.{release_one}
use Rattle.kept_laws.proofs.Stands.{is_next}

-- what is next is above
next_above : (current side : List ℕ) (n m : StoredRelease) → Stores current n → Stores side m → IsNext current side → n.number < m.number
unfolding IsNext
next_above current side n m stores_n stores_m (k, r, stores, release, above, next) =
    let same : k.number ≡ n.number = ap (λ (x : StoredRelease). x.number) (release_one current k n stores stores_n) in
    let later : r.number ≡ m.number = ap (λ (x : StoredRelease). x.number) (release_one side (slots_for k r) m next stores_m) in
    subst (λ (x : ℕ). x < m.number) same (subst (λ (x : ℕ). k.number < x) later above)

-- what comes in, if anything
incoming_above : (p : Parts) (n : StoredRelease) → IsSound p → Stores (chosen_side p) n → (o : Option StoredRelease) → StandsForIncoming p o → IsAbove n.number o
incoming_above p n sound stores None none = tt
incoming_above p n sound stores (Some m) (has, other) = next_above (chosen_side p) (other_side p) n m stores other (is_next p sound has)

-- so a mote that sound parts stand for rises
pub sound_rises : (p : Parts) (s : Mote) → IsSound p → StandsFor p s → IsRising s
sound_rises p s sound stands = incoming_above p s.current.release sound stands.current.release s.incoming stands.incoming
