-- Laws: what the rules take keeps the tables in order.
use Rattle.std.specs.Prelude.{◌≡◌, ℕ, ◌≤◌, List, length, None}
use Rattle.avr_elf.specs.Object.{AreBytes}
use Rattle.release_rows.specs.declared.part.Part.{Part}
use Rattle.release_rows.specs.declared.row.KeyRow.{KeyRow}
use Rattle.release_rows.specs.declared.change.Effect.{Effect}
use Rattle.release_rows.specs.Tables.{Tables, key_row}
use Rattle.release_rows.specs.Change.{changed}
use Rattle.release_rows.specs.Kept.{AreKept}
use Rattle.release_judging.specs.declared.judged.Judged.{Judged}
use Rattle.release_judging.specs.declared.judged.Judged.TheVariants.{Does}
use Rattle.release_judging.specs.Judging.{judged_release, judged_ack}
use Rattle.release_versions.specs.Versions.{judged_version}

-- whatever these rules say is to be done can be done to the tables under a new key, and they are in order afterwards
abbrev pub KeepsTables : Tables → Judged → Type 0
KeepsTables t judged = (effect : Effect) (key : KeyRow) → judged ≡ Does effect → key_row t key.key ≡ None → AreKept (changed t (record { effect = effect; key = key }))

-- a mote's word that it runs a release
abbrev pub AcksKeepTables : Type 0
AcksKeepTables = (t : Tables) → AreKept t → (mote : List ℕ) (number : ℕ) → KeepsTables t (judged_ack t mote number)

-- a release of 1 to 16 parts
abbrev pub ReleasesKeepTables : Type 0
ReleasesKeepTables = (t : Tables) → AreKept t → (mote : List ℕ) (parts : List Part) → 1 ≤ length parts → length parts ≤ 16 → KeepsTables t (judged_release t mote parts)

-- a version of a component of any name, from any bytes
abbrev pub VersionsKeepTables : Type 0
VersionsKeepTables = (t : Tables) → AreKept t → (name file : List ℕ) → AreBytes file → KeepsTables t (judged_version t name file)
