-- No call at all, as a read.
use Rattle.std.proofs.Common.{◌≡◌, inl, Some, refl, arith}
use Rattle.flash_pages.specs.State.{State, Place}
use Rattle.flash_pages.specs.Board.{View, Reads, Programs}
use Rattle.flash_pages.proofs.Runs.{reads_alone, reads_programs}

-- no call changes nothing
pub reads_none : (v : View) → Reads v v
reads_none v = record {
  state = refl;
  cut = record { later = omega arith; nothing_else = λ s x t told le left. inl left; keeps = λ x t le left. left };
  programs = λ place. refl;
  all_programs = refl;
  uses = record { untold = λ none. none; left = refl; line = refl; flash = omega arith };
}

-- no call programs nothing
pub programs_none : (needed : State → Type 0) (place : Place) (v : View) → Programs needed place v v
programs_none needed place v = reads_alone needed place v v (reads_none v)

-- a program that is needed for another reason
pub programs_for : (known needed : State → Type 0) (place : Place) (old new : View) → ((s : State) → old.state ≡ Some s → needed s) → Programs known place old new → Programs needed place old new
programs_for known needed place old new why program = reads_programs known needed place old old new (reads_none old) why program
