-- Laws of the release machine, each proved on a function of src/law.rt.
use Rattle.std.specs.Prelude.{◌≡◌, ◌⊎◌}
use Rattle.release_rows.specs.declared.change.Change.{Change}
use Rattle.release_rows.specs.Tables.{Tables}
use Rattle.release_rows.specs.Change.{changed}
use Rattle.release_rows.specs.Kept.{AreKept}
use Rattle.release_rules.specs.declared.decision.Decision.TheVariants.{Accepted}
use Rattle.release_rules.specs.Deciding.{decided}
use Rattle.release_rules.specs.Machine.{Asked, Posts, AsksMote, AsksUpdate, AsksImage, Answer, IsAnswer}

-- an answer to a question
pub record SomeAnswer (t : Tables) (q : Asked) : Type 0 where
  pub answer : Answer
  pub is : IsAnswer t q answer

-- no question has two answers, and over kept tables each has one
pub record AnswersAreOne : Type 0 where
  pub one : (t : Tables) (q : Asked) (a b : Answer) → IsAnswer t q a → IsAnswer t q b → a ≡ b
  pub exists : (t : Tables) (q : Asked) → AreKept t → SomeAnswer t q

-- the question is a command that is accepted, and the tables afterwards are with its change
abbrev pub IsAccepted : Tables → Asked → Answer → Type 0
IsAccepted t (Posts key digest command) a = (change : Change) × (decided t key digest command ≡ Accepted change) × (a.tables ≡ changed t change)
IsAccepted t (AsksMote mote) a = ⊥
IsAccepted t (AsksUpdate mote have) a = ⊥
IsAccepted t (AsksImage mote number) a = ⊥

-- nothing but an accepted command changes the tables
abbrev pub OnlyCommandsChange : Type 0
OnlyCommandsChange = (t : Tables) (q : Asked) (a : Answer) → IsAnswer t q a → (a.tables ≡ t) ⊎ IsAccepted t q a
