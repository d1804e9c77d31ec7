-- One list of bytes is one stored release's at most.
use Rattle.std.proofs.Common.{◌≡◌, ℕ, ◌+◌, ◌-◌, ◌*◌, Bool, true, false, cond, eqb, Some, List, ◌∷◌, ◌++◌, length, get_or, replicate, refl, sym, ap, ap₂, ◌∙◌, arith, slice_range, length-append}
use Rattle.std.specs.Prelude.{slice_get}
use Rattle.std.specs.List.{flat_map}
use Rattle.std.proofs.lemmas.List.{get_or_at, get_or-append-add}
use Rattle.avr_reloc.proofs.Fixups.{get_or-slice}
use Rattle.component_package.specs.declared.manifest.Entry.{Entry}
use Rattle.component_package.specs.packages.Numbers.{u32_bytes}
use Rattle.component_package.specs.packages.Reading.{list_of}
use Rattle.component_package.specs.packages.Manifest.{IsManifestEntry, manifest_entry_bytes, manifest_entry_at}
use Rattle.kept_laws.specs.Stored.{StoredReleaseIsOne}
use Rattle.kept_definitions.specs.Stored.{Placed, StoredRelease, IsStored, Stores, placed_bytes, stored_bytes, placed_at, stored_in}
use Rattle.component_package.proofs.Lists.{all_at, list_of_entries}
use Rattle.component_package.proofs.ManifestLemmas.{entry_among, entry_wide, entry_again, entry_from_slice, number_again}

-- a place has 64 bytes
placed_wide : (p : Placed) → IsManifestEntry p.entry → length (placed_bytes p) ≡ 64
placed_wide p is = omega (arith, is.digest, length-append (manifest_entry_bytes p.entry) (p.slot ∷ cond p.fresh 1 0 ∷ replicate 24 0), entry_wide p.entry is)

-- an entry with its slot and mark is read again
read_front : List ℕ → Placed
read_front b = record { entry = manifest_entry_at b 0; slot = get_or b 38 0; fresh = eqb (get_or b 39 0) 1 }

-- a mark is read again
mark_again : (f : Bool) → eqb (cond f 1 0) 1 ≡ f
mark_again true = refl
mark_again false = refl

placed_again : (p : Placed) → IsManifestEntry p.entry → read_front (placed_bytes p) ≡ p
unfolding read_front
placed_again p is =
    let tail : List ℕ = p.slot ∷ cond p.fresh 1 0 ∷ replicate 24 0 in
    let slot : get_or (p.entry.digest ++ tail) 32 0 ≡ p.slot = get_or_at p.entry.digest p.slot (cond p.fresh 1 0 ∷ replicate 24 0) 0 32 is.digest in
    let byte : get_or (p.entry.digest ++ tail) 33 0 ≡ cond p.fresh 1 0 = byte_behind p.entry.digest tail is.digest in
    ap (λ (e : Entry). record (read_front (placed_bytes p)) { entry = e }) (entry_again p.entry tail is)
    ∙ ap (λ (s : ℕ). record p { slot = s; fresh = eqb (get_or (placed_bytes p) 39 0) 1 }) slot
    ∙ ap (λ (n : ℕ). record p { fresh = eqb n 1 }) byte ∙ ap (λ (f : Bool). record p { fresh = f }) (mark_again p.fresh)
  where
    byte_behind : (d tail : List ℕ) → length d ≡ 32 → get_or (d ++ tail) 33 0 ≡ get_or tail 1 0
    byte_behind d tail size = ap (λ (n : ℕ). get_or (d ++ tail) (n + 1) 0) (sym size) ∙ get_or-append-add d tail 1 0

-- and behind other bytes
placed_from_slice : (b : List ℕ) (at : ℕ) → read_front (slice_range b at (at + 64)) ≡ record { entry = manifest_entry_at b at; slot = get_or b (at + 38) 0; fresh = eqb (get_or b (at + 39) 0) 1 }
unfolding read_front
placed_from_slice b at = rw (entry_from_slice b at 64 (omega arith), get_or-slice b at (at + 64) 38 (omega arith), get_or-slice b at (at + 64) 39 (omega arith)) refl

-- the first page of a stored release, and the zeros behind its places
abbrev front_page : StoredRelease → List ℕ
front_page m = u32_bytes m.number ++ length m.placed ∷ 2 ∷ replicate 250 0

abbrev padding : StoredRelease → List ℕ
padding m = replicate (1024 - 64 * length m.placed) 0

-- an entry is read where it stands
placed_read : (m : StoredRelease) → IsStored m → (i : ℕ) (p : Placed) → slice_get m.placed i ≡ Some p → placed_at (stored_bytes m) i ≡ p
placed_read m is i p here =
    let b = stored_bytes m in
    let at : ℕ = 256 + 64 * i in
    let good : IsManifestEntry p.entry = all_at (λ (q : Placed). IsManifestEntry q.entry) m.placed i p is.entries here in
    let there : slice_range b at (at + 64) ≡ placed_bytes p =
    entry_among (λ (q : Placed). IsManifestEntry q.entry) placed_bytes 64 placed_wide m.placed (front_page m) (padding m) i p is.entries here in
    sym (placed_from_slice b at) ∙ ap read_front there ∙ placed_again p good

-- pages that a stored release has say it
pub stored_again : (b : List ℕ) (m : StoredRelease) → Stores b m → stored_in b ≡ m
stored_again b m stores =
    let is = stores.stored in
    let d = stored_bytes m in
    let placed_are : list_of (placed_at d) (length m.placed) ≡ m.placed = list_of_entries (placed_at d) m.placed (placed_read m is) in
    ap stored_in stores.bytes
    ∙ ap₂ (λ (n : ℕ) (ps : List Placed). the_release n ps) (number_again m.number (length m.placed ∷ 2 ∷ replicate 250 0 ++ (flat_map placed_bytes m.placed ++ padding m))) placed_are
  where
    the_release : ℕ → List Placed → StoredRelease
    the_release n ps = record { number = n; placed = ps }

-- so a side is one release's
pub release_one : (b : List ℕ) (m n : StoredRelease) → Stores b m → Stores b n → m ≡ n
release_one b m n s t = sym (stored_again b m s) ∙ stored_again b n t

pub stored_release_is_one : StoredReleaseIsOne
stored_release_is_one = record { bytes = λ b d m s t. s.bytes ∙ sym t.bytes; release = release_one; said = stored_again }
