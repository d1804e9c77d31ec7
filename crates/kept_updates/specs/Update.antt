-- The frames that bring a mote from one release to another, made of the packages of both.
use Rattle.std.specs.Prelude.{◌≡◌, ℕ, zero, suc, ◌+◌, ◌/◌, ◌<◌, ◌≤◌, ◌^◌, ◌==◌, ◌&&◌, Bool, None, if◌then◌else◌}
use Rattle.std.specs.Prelude.{List, [], ◌∷◌, ◌++◌, length, take, drop, map, filter}
use Rattle.std.specs.List.{list_any, AllByRecursion}
use Rattle.sha2.specs.Sha256.{sha256}
use Rattle.component_package.specs.declared.answer.Answer.{Answer}
use Rattle.component_package.specs.declared.answer.Answer.TheVariants as answers
use Rattle.component_package.specs.declared.frames.TheConstants.{MANIFEST, PIECE, LINK, COMMIT, END}
use Rattle.component_package.specs.declared.manifest.Entry.{Entry}
use Rattle.component_package.specs.packages.Component.{Component, spelling}
use Rattle.component_package.specs.packages.Reading.{component_of}
use Rattle.component_package.specs.packages.Grammar.{Spells}
use Rattle.component_package.specs.packages.Manifest.{Release, AreDistinct, manifest_bytes}
use Rattle.kept_definitions.specs.Stored.{released}
use Rattle.component_package.specs.link.Link.{link_cause}
use Rattle.component_package.specs.mote.Frames.{Frame}
use Rattle.kept_definitions.specs.Machine.{Mote}

-- a version of a component as it is delivered: its numbers, and its package
pub record Delivered : Type 0 where
  pub component : ℕ
  pub version : ℕ
  pub bytes : List ℕ

-- ---- frames

-- a manifest's entry for a package
abbrev pub entry_of : Delivered → Entry
entry_of d = record { component = d.component; version = d.version; length = length d.bytes; digest = sha256 d.bytes }

-- a release of these packages, in this order
abbrev pub release_of_packages : ℕ → List Delivered → Release
release_of_packages number ds = record { number = number; entries = map entry_of ds }

-- a frame with nothing in it
abbrev pub bare_frame : ℕ → Frame
bare_frame kind = record { kind = kind; payload = [] }

abbrev pub manifest_frame : Release → Frame
manifest_frame r = record { kind = MANIFEST; payload = manifest_bytes r }

-- a page of the package of the release's component k
abbrev pub piece_frame : ℕ → ℕ → List ℕ → Frame
piece_frame k page bytes = record { kind = PIECE; payload = k ∷ page ∷ bytes }

-- how many pages bytes fill, the last one in part
abbrev pub pages_of : List ℕ → ℕ
pages_of b = (length b + 255) / 256

-- so many pieces of component k, from one page on: 256 bytes each, and what is left in the last
abbrev pub pieces_of : ℕ → ℕ → ℕ → List ℕ → List Frame
pieces_of k page zero b = []
pieces_of k page (suc n) b = piece_frame k page (take 256 b) ∷ pieces_of k (page + 1) n (drop 256 b)

-- a release has this component in this version
abbrev pub has_version : List Delivered → Delivered → Bool
has_version olds d = list_any (λ o. o.component == d.component && o.version == d.version) olds

-- the pieces of all components, the first of which is component k, but for those that the older release has in the same version
abbrev pub pieces_from : List Delivered → ℕ → List Delivered → List Frame
pieces_from olds k [] = []
pieces_from olds k (d ∷ ds) =
    (if has_version olds d then [] else pieces_of k 0 (pages_of d.bytes) d.bytes) ++ pieces_from olds (k + 1) ds

-- The update from release `have`, which is of the packages `olds` and none where it is 0, to release `number` of the packages `news`:
-- MANIFEST, the pieces, LINK, COMMIT, END; END alone where the mote has that release.
abbrev pub update_frames : ℕ → List Delivered → ℕ → List Delivered → List Frame
update_frames have olds number news =
    if have == number then bare_frame END ∷ []
    else manifest_frame (release_of_packages number news)
    ∷ (pieces_from olds 0 news ++ bare_frame LINK ∷ bare_frame COMMIT ∷ bare_frame END ∷ [])

-- ---- answers

-- the answers to so many pieces of component k
abbrev pub pieces_stored : ℕ → ℕ → ℕ → List Answer
pieces_stored k page zero = []
pieces_stored k page (suc n) = answers.Piece k page ∷ pieces_stored k (page + 1) n

-- the answers to the pieces of all components
abbrev pub pieces_answers : List Delivered → ℕ → List Delivered → List Answer
pieces_answers olds k [] = []
pieces_answers olds k (d ∷ ds) = (if has_version olds d then [] else pieces_stored k 0 (pages_of d.bytes)) ++ pieces_answers olds (k + 1) ds

-- what a mote that has the older release answers
abbrev pub update_answers : List Delivered → ℕ → List Delivered → List Answer
update_answers olds number news =
    answers.ManifestIs number (length (filter (has_version olds) news))
    ∷ (pieces_answers olds 0 news ++ answers.Linked number ∷ answers.Committed number ∷ answers.Ended ∷ [])

-- ---- which updates there are

-- the bytes are a package of this component and version
pub record IsDelivered (d : Delivered) : Type 0 where
  pub spelled : Spells d.bytes (component_of d.bytes)
  pub component : (component_of d.bytes).component ≡ d.component
  pub version : (component_of d.bytes).version ≡ d.version

-- the components that packages spell
abbrev pub components_in : List Delivered → List Component
components_in ds = map (λ d. component_of d.bytes) ds

-- where two have the same component and version, they have the same bytes
abbrev pub AreOneVersion : Delivered → Delivered → Type 0
AreOneVersion d o = o.component ≡ d.component → o.version ≡ d.version → o.bytes ≡ d.bytes

-- the same of the packages of two releases
abbrev pub AgreeOnVersions : List Delivered → List Delivered → Type 0
AgreeOnVersions olds news = AllByRecursion (λ d. AllByRecursion (AreOneVersion d) olds) news

-- A later release of 1 to 16 different components, each of its packages that component's version, and nothing refuses the set. Where the
-- older release has a component in the same version, it has the same package.
pub record IsUpdate (have : ℕ) (olds : List Delivered) (number : ℕ) (news : List Delivered) : Type 0 where
  pub later : have < number
  pub small : number < 2 ^ 32
  pub some : 1 ≤ length news
  pub few : length news ≤ 16
  pub distinct : AreDistinct (map (λ d. d.component) news)
  pub delivered : AllByRecursion IsDelivered news
  pub agree : AgreeOnVersions olds news
  pub free : link_cause (components_in news) ≡ None

-- ---- a mote that has a release

-- the release that boots is this one, of these packages, and they are the packages of its set, byte for byte
pub record HasRelease (s : Mote) (number : ℕ) (ds : List Delivered) : Type 0 where
  pub release : released s.current.release ≡ release_of_packages number ds
  pub packages : map spelling s.current.set ≡ map (λ d. d.bytes) ds
