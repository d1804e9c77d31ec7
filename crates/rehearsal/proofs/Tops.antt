-- How a rehearsal ends, as the top call says it.
use Rattle.std.proofs.Common.{◌≡◌, ◌≢◌, ◌∙◌, ◌<◌, ◌^◌, ap, sym, arith, ℕ, List, [], length, slice_index_or}
use Rattle.session_laws.proofs.Lines.{same_number}
use Rattle.flash_pages.specs.Board.{View, Rose}
use Rattle.mote_core.specs.declared.command.Command.{Command}
use Rattle.mote_core.specs.Top.{words_of}
use Rattle.mote_core.specs.Running.{TellsFaults}
use Rattle.rehearsal.specs.Lines.{OnlySends, EndsRehearsal}
use Rattle.rehearsal.specs.Words.{rehearse_words}

-- a command is one word, and a rehearsal two
pub two_words : (c : Command) (words : List (List ℕ)) (number : ℕ) → words ≡ words_of c → words ≡ rehearse_words number → ⊥
two_words c words number one two =
    let first : length words ≡ 1 = ap length one in
    let second : length words ≡ 2 = ap length two in
    omega (arith, first, second)

-- the words say one number
pub one_number : (m n : ℕ) (words : List (List ℕ)) → m < 2 ^ 32 → words ≡ rehearse_words m → words ≡ rehearse_words n → m ≡ n
one_number m n words small first second =
    same_number m n (ap (λ (ws : List (List ℕ)). slice_index_or ws 1 []) (sym first ∙ second)) (omega (arith, small))

-- no rehearsal ends with a fault of the flash, nor as words that say nothing
pub not_four : (status : ℕ) → EndsRehearsal status → status ≡ 4 → ⊥
not_four status ends is = omega (arith, ends, is)

pub not_other : (status : ℕ) → EndsRehearsal status → status ≡ 64 → ⊥
not_other status ends is = omega (arith, ends, is)

pub tells_faults : (status : ℕ) (old new : View) → OnlySends old new → (status ≡ 5 → Rose old.line_faults new.line_faults)
    → (status ≢ 5 → new.line_faults ≡ old.line_faults) → EndsRehearsal status → TellsFaults status old new
tells_faults status old new only failed kept ends = record {
  flash = λ is. absurd (not_four status ends is);
  flash_kept = λ other. only.flash;
  line = failed;
  line_kept = kept;
}
