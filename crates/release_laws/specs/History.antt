-- What a release server has been given since it was new: its tables, and the object file that each row of its versions was made of.
use Rattle.std.specs.Prelude.{◌≡◌, ℕ, true, List, [], ◌∷◌, ◌++◌, None, unwrap_or, is_some}
use Rattle.std.specs.List.{AllZip, AllByRecursion}
use Rattle.avr_elf.specs.Faults.{elf_fault}
use Rattle.avr_elf.specs.Object.{AreBytes, object_of}
use Rattle.component_package.specs.packages.Grammar.{Spells}
use Rattle.object_packer.specs.Faults.{pack_fault}
use Rattle.object_packer.specs.Names.{names}
use Rattle.object_packer.specs.Packed.{packed}
use Rattle.release_rows.specs.declared.row.VersionRow.{VersionRow}
use Rattle.release_rows.specs.declared.command.Command.{Command}
use Rattle.release_rows.specs.declared.command.Command.TheVariants.{AddVersion, AddRelease, Acknowledge}
use Rattle.release_rows.specs.Tables.{Tables, empty_tables, symbol_number}
use Rattle.release_rows.specs.Kept.{AreKept}
use Rattle.release_rules.specs.declared.decision.Decision.{Decision}
use Rattle.release_rules.specs.declared.decision.Decision.TheVariants.{Accepted, Repeated, KeyTaken, NoRow, Refused}
use Rattle.release_laws.specs.Posted.{Posted, MayCome, decision, tables_behind}

pub record History : Type 0 where
  pub tables : Tables
  pub files : List (List ℕ)

-- no row, and no file
abbrev pub empty_history : History
empty_history = record { tables = empty_tables; files = [] }

-- the object file that a command brings, if it brings one
abbrev pub brought : Command → List (List ℕ)
brought (AddVersion component object) = object ∷ []
brought (AddRelease mote parts) = []
brought (Acknowledge mote release) = []

-- the files, with the one that an accepted command brings
abbrev pub files_behind : Decision → Command → List (List ℕ) → List (List ℕ)
files_behind (Accepted change) command files = files ++ brought command
files_behind (Repeated body) command files = files
files_behind (KeyTaken digest) command files = files
files_behind NoRow command files = files
files_behind (Refused number values) command files = files

-- behind the answer to one command, and to all of these, one after the other
abbrev pub behind : History → Posted → History
behind h p = record { tables = tables_behind h.tables p; files = files_behind (decision h.tables p) p.command h.files }

abbrev pub after : History → List Posted → History
after h [] = h
after h (p ∷ ps) = after (behind h p) ps

-- the number of a symbol's name, 0 where it has none
abbrev pub number_for : Tables → List ℕ → ℕ
number_for t name = unwrap_or (symbol_number t name) 0

-- the file is an object that can be packed, each name that needs a number has one, and the row has the package of the object with these numbers
pub record IsFileOf (t : Tables) (file : List ℕ) (r : VersionRow) : Type 0 where
  pub bytes : AreBytes file
  pub elf : elf_fault file ≡ None
  pub packs : pack_fault (object_of file) ≡ None
  pub named : AllByRecursion (λ name. is_some (symbol_number t name) ≡ true) (names (object_of file))
  pub spelled : Spells r.bytes (packed (object_of file) r.component r.version (number_for t))

-- the tables are in order, and there are as many files as versions, each the file of its row
pub record IsHistory (h : History) : Type 0 where
  pub kept : AreKept h.tables
  pub files : AllZip (IsFileOf h.tables) h.files h.tables.versions

-- so it is after any commands that may come
abbrev pub HistoriesAreKept : Type 0
HistoriesAreKept = (ps : List Posted) → AllByRecursion MayCome ps → IsHistory (after empty_history ps)
