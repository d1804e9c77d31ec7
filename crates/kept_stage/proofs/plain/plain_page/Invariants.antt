use Rattle.std.proofs.Common.{◌≡◌, ◌++◌, List, take, length}
use Rattle.std.specs.List.{flat_map}
use Rattle.flash_pages.specs.Board.{Told, Reads}
use Rattle.component_package.specs.packages.Component.{Component}
use Rattle.kept_store.specs.Sets.{HoldsSet}
use Rattle.kept_stage.specs.Windows.{Shows}
use Rattle.kept_stage.proofs.plain.plain_page.Given as goal

abbrev pub invariant-loop-k : goal.invariant-loop-k
invariant-loop-k g l = record {
  long : length l.into ≡ 256;
  reads : Reads (g.B.Board.view l.initial.board) (g.B.Board.view l.board);
  fault : (g.B.Board.view l.board).flash_faults ≡ (g.B.Board.view l.initial.board).flash_faults;
  shows : Told (g.B.Board.view l.initial.board) (λ s. (components : List Component) → HoldsSet s l.set components → Shows l.base (flat_map (λ c. c.code) (take l.k components)) l.into);
}

abbrev pub invariant-loop-k-2 : goal.invariant-loop-k-2
invariant-loop-k-2 g l = record {
  long : length l.into ≡ 256;
  reads : Reads (g.B.Board.view l.initial.board) (g.B.Board.view l.board);
  fault : (g.B.Board.view l.board).flash_faults ≡ (g.B.Board.view l.initial.board).flash_faults;
  shows : Told (g.B.Board.view l.initial.board) (λ s. (components : List Component) → HoldsSet s l.set components
      → Shows l.base (flat_map (λ c. c.code) components ++ flat_map (λ c. c.init) (take l.k components)) l.into);
}
