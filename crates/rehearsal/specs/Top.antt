-- What the top call does, by its words, where rehearsals are among them.
use Rattle.std.specs.Prelude.{ℕ, List, None}
use Rattle.flash_pages.specs.Board.{View, Told}
use Rattle.mote_core.specs.Top.{IsNoCommand}
use Rattle.rehearsal.specs.Lines.{OnlySends, EndsRehearsal, SendsLines}
use Rattle.rehearsal.specs.Words.{IsRehearsal}

-- these words are none of the four commands, and no rehearsal of any number
pub record IsNothing (words : List (List ℕ)) : Type 0 where
  pub command : IsNoCommand words
  pub rehearsal : IsRehearsal words None

-- what a rehearsal of this number does, with this exit status
pub record DoesRehearsal (number status : ℕ) (old new : View) : Type 0 where
  pub only : OnlySends old new
  pub lines : Told old (λ s. SendsLines number status s new)
  pub ends : EndsRehearsal status
