-- A mote that boots the empty release and has linked release 1, of one component: its parts are sound, with five gates open.
use Rattle.std.specs.Prelude.{ℕ, List, [], ◌∷◌, ◌++◌, nat_lt, replicate}
use Rattle.component_package.specs.declared.manifest.Entry.{Entry}
use Rattle.component_package.specs.packages.Manifest.{StoredRelease, stored_bytes}
use Rattle.component_package.specs.link.Areas.{table_bytes, list_bytes}
use Rattle.component_package.specs.link.Pages.{cut, padded}
use Rattle.component_package.specs.mote.Sides.{Parts}
use Rattle.component_package.specs.mote.Sound.{IsSound}

-- the package of a return, and its digest as `sha256sum` prints it
abbrev pub return_package : List ℕ
return_package = 70 ∷ 67 ∷ 80 ∷ 49 ∷ 1 ∷ 0 ∷ 1 ∷ 0 ∷ 2 ∷ 0 ∷ (replicate 22 0 ++ 8 ∷ 149 ∷ [])

abbrev pub return_digest : List ℕ
return_digest = 231 ∷ 157 ∷ 211 ∷ 94 ∷ 253 ∷ 252 ∷ 79 ∷ 139 ∷ 3 ∷ 141 ∷ 10 ∷ 73 ∷ 96 ∷ 175 ∷ 202 ∷ 100 ∷ 61 ∷ 41 ∷ 15 ∷ 137 ∷ 133 ∷ 202 ∷ 21 ∷ 43 ∷ 30 ∷ 149 ∷ 188 ∷ 124 ∷ 102 ∷ 252 ∷ 6 ∷ 37 ∷ []

abbrev pub return_entry : Entry
return_entry = record { component = 1; version = 1; length = 34; digest = return_digest }

-- the empty release, and release 1 in slot 0
abbrev pub release_0 : StoredRelease
release_0 = record { number = 0; placed = [] }

abbrev pub release_1 : StoredRelease
release_1 = record { number = 1; placed = record { entry = return_entry; slot = 0 } ∷ [] }

-- the package, and zeros
abbrev pub return_slots : List (List ℕ)
return_slots = (return_package ++ replicate 9950 0) ∷ replicate 31 (replicate 9984 0)

-- Fmt, Man, Sym, Rel and Img are open; side A is chosen
abbrev pub linked_parts : Parts
linked_parts = record {
  gates = λ gate. nat_lt gate 5;
  prog = cut (padded []);
  side_a = stored_bytes release_0;
  side_b = stored_bytes release_1;
  symbols = table_bytes [];
  relocs = list_bytes [];
  staged = cut (padded (8 ∷ 149 ∷ []));
  slots = return_slots;
}

abbrev pub LinkedIsSound : Type 0
LinkedIsSound = IsSound linked_parts
