-- The frames of an update to another release.
use Rattle.std.specs.Prelude.{ℕ, List, [], ◌∷◌, ◌++◌}
use Rattle.component_package.specs.declared.frames.TheConstants.{LINK, COMMIT, END}
use Rattle.component_package.specs.mote.Frames.{Frame}
use Rattle.update_laws.specs.Update.{Delivered, release_of_packages, bare_frame, manifest_frame, pieces_from}

-- MANIFEST, the pieces, LINK, COMMIT, END
abbrev pub frames_between : List Delivered → ℕ → List Delivered → List Frame
frames_between olds number news =
    manifest_frame (release_of_packages number news)
    ∷ (pieces_from olds 0 news ++ bare_frame LINK ∷ bare_frame COMMIT ∷ bare_frame END ∷ [])
