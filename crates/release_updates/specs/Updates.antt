-- The update of a mote to its last release, as tables of rows have it.
use Rattle.std.specs.Prelude.{ℕ, ◌==◌, ◌||◌, nat_lt, List, [], ◌∷◌, map, Option, Some, None, if◌then◌else◌}
use Rattle.std.specs.Option.{option_map, option_and_then}
use Rattle.component_package.specs.declared.frames.TheConstants.{END}
use Rattle.component_package.specs.mote.Frames.{Frame, stream_of}
use Rattle.release_rows.specs.declared.part.Numbered.{Numbered}
use Rattle.release_rows.specs.Tables.{Tables, release_count, stored_release}
use Rattle.release_rows.specs.Kept.{packages_of}
use Rattle.update_laws.specs.Update.{Delivered, bare_frame, update_frames}

-- parts with these packages, in their order
abbrev pub with_packages : List Numbered → List (List ℕ) → List Delivered
with_packages [] bs = []
with_packages (p ∷ ps) [] = []
with_packages (p ∷ ps) (b ∷ bs) = record { component = p.component; version = p.version; bytes = b } ∷ with_packages ps bs

-- parts without packages: of an older release only components and versions count
abbrev pub parts_alone : List Numbered → List Delivered
parts_alone parts = map (λ p. record { component = p.component; version = p.version; bytes = [] }) parts

-- each part with its stored package, where all are there
abbrev pub delivered : Tables → List Numbered → Option (List Delivered)
delivered t parts = option_map (with_packages parts) (packages_of t parts)

-- the parts of a release; release 0 has none
abbrev pub release_parts : Tables → List ℕ → ℕ → Option (List Numbered)
release_parts t mote number = if number == 0 then Some [] else stored_release t mote number

-- the packages of a release, where it and all its parts are there; release 0 has none
abbrev pub release_delivered : Tables → List ℕ → ℕ → Option (List Delivered)
release_delivered t mote number = option_and_then (delivered t) (release_parts t mote number)

-- the frames from release `have` of these parts to the release `last` of these packages
abbrev pub update_between : ℕ → ℕ → Option (List Numbered) → Option (List Delivered) → Option (List Frame)
update_between have last olds news = option_and_then (λ parts. option_map (update_frames have (parts_alone parts) last) news) olds

-- The frames that bring the mote from release `have` to its last one; END alone where `have` is the last. None where the mote has no
-- release, where `have` is above the last, and where rows of either release aren't there.
abbrev pub update_of : Tables → List ℕ → ℕ → Option (List Frame)
update_of t mote have =
    let last = release_count t mote in
    if last == 0 || nat_lt last have then None
    else if have == last then Some (bare_frame END ∷ [])
    else update_between have last (release_parts t mote have) (release_delivered t mote last)

-- the same on the line
abbrev pub update_bytes : Tables → List ℕ → ℕ → Option (List ℕ)
update_bytes t mote have = option_map stream_of (update_of t mote have)
