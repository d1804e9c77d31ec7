-- Two updates worked from end to end: the second one brings no piece, since its components are installed.
use Rattle.std.proofs.Common.{◌≡◌, ℕ, List, [], ◌∷◌, ◌++◌, refl, take, map}
use Rattle.sha2.specs.Sha256.{sha256, digest_bytes, hash_after, compress, rounds, schedule, first_words}
use Rattle.avr_reloc.specs.declared.kind.Shape.TheVariants as shapes
use Rattle.avr_reloc.specs.Field.{reading_of}
use Rattle.component_package.specs.declared.answer.Answer.TheVariants.{Booted, ManifestIs, Piece, Linked, Committed, Held}
use Rattle.component_package.specs.packages.Reading.{component_of}
use Rattle.component_package.specs.link.Link.{link_cause, fixups_of, plain_of}
use Rattle.component_package.specs.mote.Page.{filled_page}
use Rattle.kept_definitions.specs.Runs.{run_in_package}
use Rattle.kept_definitions.specs.Kept.{kept_packages, going_packages, coming_set}
use Rattle.kept_definitions.specs.Machine.{session_answers}
use Rattle.kept_definitions.proofs.Samples.{p, q, manifest, other_way, first, second, frame, bare, formatted}

-- both updates: the second one is linked without a piece, and a piece of it is refused
two_updates : session_answers formatted (frame 1 manifest ∷ frame 2 (0 ∷ 0 ∷ p) ∷ frame 2 (1 ∷ 0 ∷ q) ∷ bare 3 ∷ bare 4 ∷ bare 5
    ∷ frame 1 other_way ∷ frame 2 (1 ∷ 0 ∷ p) ∷ bare 3 ∷ bare 4 ∷ bare 5 ∷ []) ≡
    Booted 0 ∷ ManifestIs 1 0 ∷ Piece 0 0 ∷ Piece 1 0 ∷ Linked 1 ∷ Committed 1 ∷ Booted 1 ∷ ManifestIs 2 2 ∷ Held 1 ∷ Linked 2 ∷ Committed 2 ∷ Booted 2 ∷ []
unfolding sha256 digest_bytes hash_after compress rounds schedule first_words link_cause filled_page coming_set
two_updates = refl

-- the run of P is its header and its relocation: with it table slot 0 begins after the first boot
run_of_p : run_in_package (p ++ 7 ∷ 7 ∷ []) ≡ take 32 p ++ 0 ∷ 0 ∷ 0 ∷ 18 ∷ 16 ∷ 0 ∷ 0 ∷ 0 ∷ []
run_of_p = refl

-- the inbox that both came in by, and the tables after the first boot, with something behind the runs
abbrev inbox : List (List ℕ)
inbox = (p ++ 0 ∷ 0 ∷ []) ∷ (q ++ 0 ∷ []) ∷ []

abbrev tables : List (List ℕ)
tables = (run_in_package p ++ 255 ∷ 1 ∷ 2 ∷ []) ∷ (run_in_package q ++ 255 ∷ []) ∷ []

-- the pages of both releases
abbrev pages_1 : List (List ℕ)
pages_1 = (14 ∷ 148 ∷ 3 ∷ 0 ∷ 255 ∷ 207 ∷ 8 ∷ 149 ∷ 255 ∷ []) ∷ []

abbrev pages_2 : List (List ℕ)
pages_2 = (8 ∷ 149 ∷ 14 ∷ 148 ∷ 0 ∷ 0 ∷ 255 ∷ 207 ∷ 255 ∷ []) ∷ []

-- the packages are taken back from the first image while it is installed and after that, and from the second
packages_back : (going_packages [] inbox pages_1 first ≡ p ∷ q ∷ []) × (kept_packages tables pages_1 first ≡ p ∷ q ∷ []) × (kept_packages tables pages_2 second ≡ q ∷ p ∷ [])
    × (going_packages tables [] pages_2 second ≡ q ∷ p ∷ [])
unfolding going_packages kept_packages
packages_back = (refl, refl, refl, refl)

-- without the runs in the tables nothing is taken back: a boot that ends before it keeps them leaves no set
forgotten : kept_packages ([] ∷ [] ∷ []) pages_1 first ≡ [] ∷ [] ∷ []
unfolding kept_packages
forgotten = refl

-- the incoming set is the current one's components in the other order
comes : coming_set (record { release = first; set = component_of p ∷ component_of q ∷ [] }) [] second ≡ component_of q ∷ component_of p ∷ []
unfolding coming_set
comes = refl

-- the second image, before patching and in its one field
second_image : (plain_of (component_of q ∷ component_of p ∷ []) ≡ 8 ∷ 149 ∷ 14 ∷ 148 ∷ 0 ∷ 0 ∷ 255 ∷ 207 ∷ [])
    × (map (λ x. x.place) (fixups_of (component_of q ∷ component_of p ∷ [])) ≡ 2 ∷ []) × (reading_of shapes.Call (14 ∷ 148 ∷ 0 ∷ 0 ∷ []) ≡ 0)
second_image = (refl, refl, refl)
