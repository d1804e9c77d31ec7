-- What a mote has.
use Rattle.std.specs.Prelude.{ℕ, List, map, Option}
use Rattle.std.specs.Option.{option_map, option_and_then}
use Rattle.http_bodies.specs.declared.part.Part.{Part}
use Rattle.http_bodies.specs.Replies.{reply_text, mote_reply}
use Rattle.release_rows.specs.declared.part.Numbered.{Numbered}
use Rattle.release_rows.specs.Tables.{Tables, component_name, release_count, stored_release, acknowledged}
use Rattle.release_rows.specs.Kept.{all_of}

-- a component of a release with its name
abbrev pub named_part : Tables → Numbered → Option Part
named_part t p = option_map (λ name. record { component = name; version = p.version }) (component_name t p.component)

-- these with their names, where each has one
abbrev pub named_parts : Tables → List Numbered → Option (List Part)
named_parts t parts = all_of (map (named_part t) parts)

-- the text that says what a mote has whose last release is this, with these parts where it is there: its release, and the one that it
-- said it runs
abbrev pub text_of : Tables → List ℕ → ℕ → Option (List Numbered) → Option (List ℕ)
text_of t mote last parts = option_map (λ named. reply_text (mote_reply (acknowledged t mote) named mote last)) (option_and_then (named_parts t) parts)

-- what a mote has, where it has a release
abbrev pub mote_text : Tables → List ℕ → Option (List ℕ)
mote_text t mote = text_of t mote (release_count t mote) (stored_release t mote (release_count t mote))
