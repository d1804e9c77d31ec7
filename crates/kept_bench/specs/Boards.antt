-- What a board of the bench shows.
use Rattle.flash_pages.specs.Board.{View}
use Rattle.counting_board.specs.Counts.{counting_view}
use Rattle.kept_bench.specs.declared.board.BenchBoard.{BenchBoard}

-- what it shows as a board: what the counting board shows that it counts program flash of
abbrev pub bench_view : BenchBoard → View
bench_view b = counting_view b.board
