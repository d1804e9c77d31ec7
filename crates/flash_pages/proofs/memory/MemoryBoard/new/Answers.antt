use Rattle.std.proofs.Common.{rules, Some, refl, ap, length, reverse}
use Rattle.flash_pages.specs.Log.{is_program, is_program_of, count_changes}
use Rattle.flash_pages.specs.Memory.{zeros}
use Rattle.flash_pages.proofs.memory.MemoryBoard.new.Goals as goal

pub returns-clause-fresh : goal.returns-clause-fresh
unfolding zeros
returns-clause-fresh c =
    let prog = c.in_ok-zero_pages.ensures.zeros in
    let ext = c.in_ok-zero_pages-2.ensures.zeros in
    let sent = c.in_ok-with_capacity.ensures.items in
    let log = c.in_ok-with_room.ensures.none in
    record {
      state = λ i. Some (record { prog = prog i; ext = ext i; sent = sent i });
      left = ap Some (search rules);
      moment = ap (λ l. length (reverse l)) log;
      programs = λ place. ap (λ l. count_changes (is_program_of place) (reverse l)) log;
      all_programs = ap (λ l. count_changes is_program (reverse l)) log;
      flash_faults = refl;
      line_faults = refl;
    }
