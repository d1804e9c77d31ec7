-- What a path asks for.
use Rattle.std.specs.Prelude.{ℕ, List, Option, Some, None, option_map, option_and_then, codes, if◌then◌else◌}
use Rattle.std.specs.Char.{is_ascii}
use Rattle.std.specs.List.{list_all}
use Rattle.matchit.specs.Params.{walk, named}
use Rattle.matchit.specs.Router.{RouteOf}
use Rattle.matchit.specs.Seek.{first}
use Rattle.matchit.specs.declared.params.Params.{Params}
use Rattle.http_texts.specs.Texts.{is_name}
use Rattle.http_paths.specs.Queries.{number_in}
use Rattle.http_paths.specs.Routes.{routes}
use Rattle.http_paths.specs.declared.paths.Route.{Route}
use Rattle.http_paths.specs.declared.paths.Route.TheVariants.{Versions, Releases, Acknowledgements, Update, Mote, Image}
use Rattle.http_paths.specs.declared.paths.Target.{Target}
use Rattle.http_paths.specs.declared.paths.Target.TheVariants.{Versions as VersionsAt, Releases as ReleasesAt, Acknowledgements as AcknowledgementsAt, Update as UpdateAt, Mote as MoteAt, Image as ImageAt}

-- what a path asks for: something of a component or of a mote
pub data Asked : Type 0 where
  of_versions : (component : List ℕ) → Asked
  of_releases : (mote : List ℕ) → Asked
  of_acknowledgements : (mote : List ℕ) → Asked
  of_update : (mote : List ℕ) → Asked
  of_mote : (mote : List ℕ) → Asked
  of_image : (mote : List ℕ) (number : ℕ) → Asked

-- the parts of a path, each with its name
abbrev pub Parts : Type 0
Parts = List (List ℕ × List ℕ)

-- a part that is a name
abbrev pub name_in : List ℕ → Parts → Option (List ℕ)
name_in key parts = option_and_then (λ text. if is_name text then Some text else None) (named key parts)

-- a part that is a number
abbrev pub number_at : List ℕ → Parts → Option ℕ
number_at key parts = option_and_then number_in (named key parts)

-- what a route with these parts asks for
abbrev pub asked_from : Route → Parts → Option Asked
asked_from Versions parts = option_map of_versions (name_in (codes "name") parts)
asked_from Releases parts = option_map of_releases (name_in (codes "mote") parts)
asked_from Acknowledgements parts = option_map of_acknowledgements (name_in (codes "mote") parts)
asked_from Update parts = option_map of_update (name_in (codes "mote") parts)
asked_from Mote parts = option_map of_mote (name_in (codes "mote") parts)
asked_from Image parts = option_and_then (λ mote. option_map (of_image mote) (number_at (codes "n") parts)) (name_in (codes "mote") parts)

-- the parts that a route takes of a path
abbrev pub parts : List ℕ → RouteOf Route → Parts
parts path r = walk r.pattern r.text path r.names 0 0

-- what a path asks for by the route that is found first; a path with a byte outside ASCII has none
abbrev pub target_of : List ℕ → Option Asked
target_of path =
    if list_all is_ascii path then option_and_then (λ r. asked_from r.value (parts path r)) (first routes path) else None

-- the parts that a match holds
abbrev pub parts_held : Params → Parts
parts_held p = walk p.pattern.now p.text.now p.path.now p.names.now 0 0

-- a target as what it asks for
abbrev pub shown : Target → Asked
shown (VersionsAt name) = of_versions name.now
shown (ReleasesAt mote) = of_releases mote.now
shown (AcknowledgementsAt mote) = of_acknowledgements mote.now
shown (UpdateAt mote) = of_update mote.now
shown (MoteAt mote) = of_mote mote.now
shown (ImageAt mote number) = of_image mote.now number
