-- Commands as they are posted, and the tables behind each answer.
use Rattle.std.specs.Prelude.{ℕ, List}
use Rattle.avr_elf.specs.Object.{AreBytes}
use Rattle.release_rows.specs.declared.command.Command.{Command}
use Rattle.release_rows.specs.declared.command.Command.TheVariants.{AddVersion, AddRelease, Acknowledge}
use Rattle.release_rows.specs.Tables.{Tables}
use Rattle.release_rows.specs.Kept.{AreKept}
use Rattle.release_rules.specs.declared.decision.Decision.{Decision}
use Rattle.release_rules.specs.Deciding.{IsAllowed, decided}
use Rattle.release_rules.specs.Machine.{answered}

-- a command with its key and its digest
pub record Posted : Type 0 where
  pub key : List ℕ
  pub digest : List ℕ
  pub command : Command

-- an object is a list of bytes
abbrev pub HasBytes : Command → Type 0
HasBytes (AddVersion component object) = AreBytes object
HasBytes (AddRelease mote parts) = Unit {0}
HasBytes (Acknowledge mote release) = Unit {0}

-- what may come: an object of at most 262,144 bytes, a release of 1 to 16 parts, or a mote's word
pub record MayCome (p : Posted) : Type 0 where
  pub allowed : IsAllowed p.command
  pub bytes : HasBytes p.command

-- what is decided of it
abbrev pub decision : Tables → Posted → Decision
decision t p = decided t p.key p.digest p.command

-- the tables behind its answer
abbrev pub tables_behind : Tables → Posted → Tables
tables_behind t p = (answered (decision t p) t).tables

-- behind the answer to any command that may come, tables that were in order are in order
abbrev pub AnswersKeepTables : Type 0
AnswersKeepTables = (t : Tables) → AreKept t → (p : Posted) → MayCome p → AreKept (tables_behind t p)
