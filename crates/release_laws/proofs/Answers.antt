-- Behind every answer the tables are in order.
use Rattle.std.proofs.Common.{◌≡◌, ℕ, Bool, true, false, cond, Option, Some, None, List, refl, bytes_eq}
use Rattle.release_rows.specs.declared.row.KeyRow.{KeyRow}
use Rattle.release_rows.specs.declared.command.Command.{Command}
use Rattle.release_rows.specs.declared.command.Command.TheVariants.{AddVersion, AddRelease, Acknowledge}
use Rattle.release_rows.specs.Tables.{Tables, key_row}
use Rattle.release_rows.specs.Kept.{AreKept}
use Rattle.release_judging.specs.declared.judged.Judged.{Judged}
use Rattle.release_judging.specs.declared.judged.Judged.TheVariants as judgements
use Rattle.release_rules.specs.declared.decision.Decision.TheVariants as decisions
use Rattle.release_rules.specs.Deciding.{IsAllowed, judged, body_of, settled, by_key}
use Rattle.release_rules.specs.Machine.{answered}
use Rattle.release_laws.specs.Steps.{KeepsTables}
use Rattle.release_laws.specs.Posted.{HasBytes, AnswersKeepTables}
use Rattle.release_laws.proofs.Acks.{acks_keep_tables}
use Rattle.release_laws.proofs.Releases.{releases_keep_tables}
use Rattle.release_laws.proofs.Versions.{versions_keep_tables}

-- what the rules say of any command keeps the tables
pub commands_keep : (t : Tables) → AreKept t → (c : Command) → IsAllowed c → HasBytes c → KeepsTables t (judged t c)
commands_keep t k (AddVersion component object) allowed bytes = versions_keep_tables t k component object bytes
commands_keep t k (AddRelease mote parts) allowed bytes = releases_keep_tables t k mote parts allowed.0 allowed.1
commands_keep t k (Acknowledge mote release) allowed bytes = acks_keep_tables t k mote release

module _ (t : Tables) (k : AreKept t) (key digest : List ℕ) where
  settled_keeps : (j : Judged) → KeepsTables t j → key_row t key ≡ None → AreKept (answered (settled key digest j) t).tables
  settled_keeps (judgements.Does e) keeps new = keeps e (record { key = key; digest = digest; body = body_of e }) refl new
  settled_keeps judgements.NoRow keeps new = k
  settled_keeps (judgements.Refused n vs) keeps new = k

  repeated_keeps : (row : KeyRow) (j : Judged) → AreKept (answered (by_key (Some row) digest (settled key digest j)) t).tables
  repeated_keeps row j = from (bytes_eq digest row.digest)
    where
      from : (b : Bool) → AreKept (answered (cond b (decisions.Repeated row.body) (decisions.KeyTaken row.digest)) t).tables
      from true = k
      from false = k

  pub decided_keeps : (j : Judged) → KeepsTables t j → (o : Option KeyRow) → key_row t key ≡ o → AreKept (answered (by_key o digest (settled key digest j)) t).tables
  decided_keeps j keeps None is = settled_keeps j keeps is
  decided_keeps j keeps (Some row) is = repeated_keeps row j

pub answers_keep_tables : AnswersKeepTables
answers_keep_tables t k p may = decided_keeps t k p.key p.digest (judged t p.command) (commands_keep t k p.command may.allowed may.bytes) (key_row t p.key) refl
