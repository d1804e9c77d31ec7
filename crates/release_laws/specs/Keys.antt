-- Laws: a key acts once.
use Rattle.std.specs.Prelude.{◌≡◌, List, [], ◌∷◌}
use Rattle.release_rows.specs.Tables.{Tables}
use Rattle.release_rows.specs.declared.change.Change.{Change}
use Rattle.release_rules.specs.declared.decision.Decision.TheVariants.{Accepted, Repeated}
use Rattle.release_laws.specs.Posted.{Posted, decision, tables_behind}

-- the tables behind the answers to all of these, one after the other
abbrev pub tables_after : Tables → List Posted → Tables
tables_after t [] = t
tables_after t (p ∷ ps) = tables_after (tables_behind t p) ps

-- a command was accepted, and others were answered since: from then on no command under its key changes a row, and one that has its
-- digest too is answered with the body of the first answer
pub record KeyActsOnce (t : Tables) (p : Posted) (c : Change) (since : List Posted) : Type 0 where
  pub once : (q : Posted) → q.key ≡ p.key → tables_behind (tables_after (tables_behind t p) since) q ≡ tables_after (tables_behind t p) since
  pub again : (q : Posted) → q.key ≡ p.key → q.digest ≡ p.digest → decision (tables_after (tables_behind t p) since) q ≡ Repeated c.key.body

-- so it is over any tables, whatever comes
abbrev pub KeysActOnce : Type 0
KeysActOnce = (t : Tables) (p : Posted) (c : Change) (since : List Posted) → decision t p ≡ Accepted c → KeyActsOnce t p c since
