-- What a mote has.
use Rattle.std.proofs.Common.{◌≡◌, ℕ, List, Option, ap, ◌∙◌}
use Rattle.release_rows.specs.declared.part.Numbered.{Numbered}
use Rattle.release_rows.specs.Tables.{Tables, release_count, stored_release}
use Rattle.release_rules.specs.Motes.{text_of, mote_text}

-- a text of the last release, by its number and its parts
pub mote_is : (t : Tables) (mote : List ℕ) (last : ℕ) (parts : Option (List Numbered)) (x : Option (List ℕ)) → last ≡ release_count t mote → parts ≡ stored_release t mote last → x ≡ text_of t mote last parts → x ≡ mote_text t mote
mote_is t mote last parts x is_last are_parts is =
    is ∙ ap (λ (p : Option (List Numbered)). text_of t mote last p) are_parts ∙ ap (λ (n : ℕ). text_of t mote n (stored_release t mote n)) is_last
