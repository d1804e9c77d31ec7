-- A mote of layout 2 that boots the empty release and has linked release 1, of one component, and the same mote after its installation: both are sound.
use Rattle.std.specs.Prelude.{ℕ, true, List, [], ◌∷◌, ◌++◌, ◌==◌, ◌||◌, nat_lt, take, replicate}
use Rattle.component_package.specs.declared.manifest.Entry.{Entry}
use Rattle.component_package.specs.link.Areas.{table_bytes, list_bytes}
use Rattle.component_package.specs.link.Pages.{cut, padded}
use Rattle.kept_definitions.specs.Stored.{StoredRelease, stored_bytes}
use Rattle.kept_definitions.specs.Sides.{Parts}
use Rattle.kept_definitions.specs.Sound.{IsSound}

-- the package of a return, and its digest as `sha256sum` prints it
abbrev pub return_package : List ℕ
return_package = 70 ∷ 67 ∷ 80 ∷ 49 ∷ 1 ∷ 0 ∷ 1 ∷ 0 ∷ 2 ∷ 0 ∷ (replicate 22 0 ++ 8 ∷ 149 ∷ [])

abbrev pub return_digest : List ℕ
return_digest = 231 ∷ 157 ∷ 211 ∷ 94 ∷ 253 ∷ 252 ∷ 79 ∷ 139 ∷ 3 ∷ 141 ∷ 10 ∷ 73 ∷ 96 ∷ 175 ∷ 202 ∷ 100 ∷ 61 ∷ 41 ∷ 15 ∷ 137 ∷ 133 ∷ 202 ∷ 21 ∷ 43 ∷ 30 ∷ 149 ∷ 188 ∷ 124 ∷ 102 ∷ 252 ∷ 6 ∷ 37 ∷ []

abbrev pub return_entry : Entry
return_entry = record { component = 1; version = 1; length = 34; digest = return_digest }

-- the empty release, and release 1, which came in by inbox slot 0
abbrev pub release_0 : StoredRelease
release_0 = record { number = 0; placed = [] }

abbrev pub release_1 : StoredRelease
release_1 = record { number = 1; placed = record { entry = return_entry; slot = 0; fresh = true } ∷ [] }

-- the package, and zeros
abbrev pub return_inbox : List (List ℕ)
return_inbox = (return_package ++ replicate 9950 0) ∷ replicate 15 (replicate 9984 0)

-- Fmt, Man, Sym, Rel and Img are open; side A is chosen; nothing is installed
abbrev pub linked_parts : Parts
linked_parts = record {
  gates = λ gate. nat_lt gate 5;
  prog = cut (padded []);
  side_a = stored_bytes release_0;
  side_b = stored_bytes release_1;
  symbols = table_bytes [];
  relocs = list_bytes [];
  staged = cut (padded (8 ∷ 149 ∷ []));
  inbox = return_inbox;
  tables = replicate 16 (replicate 9984 0);
}

-- Fmt and Sel are open, so side B is chosen; the image is in program flash, table slot 0 has the run, which is the header, and something stands behind it;
-- nothing of the package is in the inbox
abbrev pub installed_parts : Parts
installed_parts = record {
  gates = λ gate. gate == 0 || gate == 7;
  prog = cut (padded (8 ∷ 149 ∷ []));
  side_a = stored_bytes release_0;
  side_b = stored_bytes release_1;
  symbols = [];
  relocs = [];
  staged = [];
  inbox = [];
  tables = (take 32 return_package ++ 255 ∷ 1 ∷ 2 ∷ []) ∷ [];
}

-- both are sound
pub record LinkedIsSound : Type 0 where
  pub linked : IsSound linked_parts
  pub installed : IsSound installed_parts
