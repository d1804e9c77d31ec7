use Rattle.std.proofs.Common.{arith, subst, sym, ℕ}
use Rattle.rehearsal.specs.Lines.{SendsLines}
use Rattle.rehearsal.specs.Words.{IsRehearsal}
use Rattle.rehearsal.proofs.Tops.{two_words, one_number, not_other, tells_faults}
use Rattle.rehearsal.proofs.top.mote_main.Goals as goal

pub returns-in-Some-clause-does : goal.returns-in-Some-clause-does
returns-in-Some-clause-does g c k one =
    absurd (two_words k c.args.words.now c.in-Some.number one (subst (IsRehearsal c.args.words.now) c.in-Some.is c.rehearsal_number.ensures))

pub returns-in-Some-clause-rehearses : goal.returns-in-Some-clause-rehearses
returns-in-Some-clause-rehearses g c number small two =
    let same = one_number number c.in-Some.number c.args.words.now small two (subst (IsRehearsal c.args.words.now) c.in-Some.is c.rehearsal_number.ensures) in
    record {
      only = c.rehearse.ensures.only;
      lines = λ s told. subst (λ (n : ℕ). SendsLines n c.rehearse.result s (g.B.Board.view c.rehearse.new.board)) (sym same) (c.rehearse.ensures.lines s told);
      ends = c.rehearse.ensures.ends;
    }

pub returns-in-Some-clause-faults : goal.returns-in-Some-clause-faults
returns-in-Some-clause-faults g c = tells_faults _ _ _ c.rehearse.ensures.only c.rehearse.ensures.failed c.rehearse.ensures.no_fault c.rehearse.ensures.ends

pub returns-in-Some-clause-other : goal.returns-in-Some-clause-other
returns-in-Some-clause-other g c = (
  λ is. absurd (not_other _ c.rehearse.ensures.ends is),
  λ none. absurd (none.rehearsal c.in-Some.number (omega arith) (subst (IsRehearsal c.args.words.now) c.in-Some.is c.rehearsal_number.ensures)),
)

pub returns-in-Some-clause-nothing : goal.returns-in-Some-clause-nothing
returns-in-Some-clause-nothing g c none =
    absurd (none.rehearsal c.in-Some.number (omega arith) (subst (IsRehearsal c.args.words.now) c.in-Some.is c.rehearsal_number.ensures))

pub returns-clause-does : goal.returns-clause-does
returns-clause-does g c = c.mote_main.ensures.does

pub returns-clause-rehearses : goal.returns-clause-rehearses
returns-clause-rehearses g c number small two =
    absurd (subst (IsRehearsal c.args.words.now) c.in_default.is c.rehearsal_number.ensures number small two)

pub returns-clause-faults : goal.returns-clause-faults
returns-clause-faults g c = c.mote_main.ensures.faults

pub returns-clause-other : goal.returns-clause-other
returns-clause-other g c = (
  λ is. record { command = c.mote_main.ensures.other.0 is; rehearsal = subst (IsRehearsal c.args.words.now) c.in_default.is c.rehearsal_number.ensures },
  λ none. c.mote_main.ensures.other.1 none.command,
)

pub returns-clause-nothing : goal.returns-clause-nothing
returns-clause-nothing g c none = c.mote_main.ensures.nothing none.command
