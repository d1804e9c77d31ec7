-- What a counting board shows and has counted.
use Rattle.flash_pages.specs.Board.{View}
use Rattle.flash_pages.specs.Memory.{memory_view}
use Rattle.counting_board.specs.Counting.{Counts}
use Rattle.counting_board.specs.declared.board.CountingBoard.{CountingBoard}

-- what a counting board shows as a board: what the board in memory shows that it counts the calls of
abbrev pub counting_view : CountingBoard → View
counting_view b = memory_view b.board

-- what this board has counted
abbrev pub counts_of : CountingBoard → Counts
counts_of b = record {
  ext_reads = b.ext_reads.items;
  ext_programs = b.programs.external;
  prog_programs = b.programs.program;
}
