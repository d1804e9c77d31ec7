-- Packages, manifests and motes that the rows are about. The digests are those that `sha256sum` prints.
use Rattle.std.proofs.Common.{ℕ, List, [], ◌∷◌, ◌++◌, false, None, replicate}
use Rattle.component_package.specs.declared.manifest.Entry.{Entry}
use Rattle.component_package.specs.packages.Manifest.{release_in}
use Rattle.component_package.specs.mote.Frames.{Frame}
use Rattle.kept_definitions.specs.Stored.{StoredRelease}
use Rattle.kept_definitions.specs.Kept.{slots_for}
use Rattle.kept_definitions.specs.Machine.{Mote}

-- a package with a call to symbol 16, and one that exports it
abbrev pub p : List ℕ
p = 70 ∷ 67 ∷ 80 ∷ 49 ∷ 1 ∷ 0 ∷ 1 ∷ 0 ∷ 6 ∷ 0 ∷ 0 ∷ 0 ∷ 0 ∷ 0 ∷ 0 ∷ 0 ∷ 1 ∷ 0 ∷ (replicate 14 0 ++ 14 ∷ 148 ∷ 0 ∷ 0 ∷ 255 ∷ 207 ∷ 0 ∷ 0 ∷ 0 ∷ 18 ∷ 16 ∷ 0 ∷ 0 ∷ 0 ∷ [])

abbrev pub q : List ℕ
q = 70 ∷ 67 ∷ 80 ∷ 49 ∷ 2 ∷ 0 ∷ 1 ∷ 0 ∷ 2 ∷ 0 ∷ 0 ∷ 0 ∷ 0 ∷ 0 ∷ 1 ∷ 0 ∷ 0 ∷ 0 ∷ (replicate 14 0 ++ 8 ∷ 149 ∷ 16 ∷ 0 ∷ 0 ∷ 0 ∷ 0 ∷ 0 ∷ [])

abbrev pub digest_p : List ℕ
digest_p = 50 ∷ 49 ∷ 219 ∷ 254 ∷ 133 ∷ 156 ∷ 37 ∷ 153 ∷ 76 ∷ 0 ∷ 32 ∷ 191 ∷ 133 ∷ 128 ∷ 242 ∷ 246 ∷ 18 ∷ 183 ∷ 230 ∷ 40 ∷ 148 ∷ 226 ∷ 153 ∷ 162 ∷ 201 ∷ 198 ∷ 110 ∷ 155 ∷ 239 ∷ 162 ∷ 35 ∷ 255 ∷ []

abbrev pub digest_q : List ℕ
digest_q = 214 ∷ 196 ∷ 228 ∷ 139 ∷ 127 ∷ 232 ∷ 110 ∷ 121 ∷ 33 ∷ 213 ∷ 187 ∷ 221 ∷ 66 ∷ 240 ∷ 115 ∷ 58 ∷ 2 ∷ 121 ∷ 23 ∷ 225 ∷ 61 ∷ 236 ∷ 235 ∷ 139 ∷ 72 ∷ 70 ∷ 176 ∷ 174 ∷ 143 ∷ 21 ∷ 62 ∷ 195 ∷ []

-- their entries in a manifest
abbrev pub entry_p : List ℕ
entry_p = 1 ∷ 0 ∷ 1 ∷ 0 ∷ 46 ∷ 0 ∷ digest_p

abbrev pub entry_q : List ℕ
entry_q = 2 ∷ 0 ∷ 1 ∷ 0 ∷ 40 ∷ 0 ∷ digest_q

-- release 1 of both
abbrev pub manifest : List ℕ
manifest = 1 ∷ 0 ∷ 0 ∷ 0 ∷ 2 ∷ (entry_p ++ entry_q)

abbrev pub frame : ℕ → List ℕ → Frame
frame kind payload = record { kind = kind; payload = payload }

abbrev pub bare : ℕ → Frame
bare kind = frame kind []

-- release 2: the same two, the other way round
abbrev pub other_way : List ℕ
other_way = 2 ∷ 0 ∷ 0 ∷ 0 ∷ 2 ∷ (entry_q ++ entry_p)

-- the empty release, release 1 over it, and release 2 over that
abbrev pub empty_release : StoredRelease
empty_release = record { number = 0; placed = [] }

abbrev pub first : StoredRelease
first = slots_for empty_release (release_in manifest)

abbrev pub second : StoredRelease
second = slots_for first (release_in other_way)

-- an entry of another component
abbrev pub other : ℕ → Entry
other component = record { component = component; version = 1; length = 40; digest = digest_q }

-- a mote that was just formatted
abbrev pub formatted : Mote
formatted = record { current = record { release = empty_release; set = [] }; incoming = None; inbox = replicate 16 (replicate 9984 0); linked = false; standing = false }
