use Rattle.std.proofs.Common.{◌≡◌, ℕ, ◌≤◌, ◌++◌, List, take, length}
use Rattle.std.specs.List.{flat_map}
use Rattle.flash_pages.specs.Board.{Told, Reads}
use Rattle.component_store.specs.Sets.{HoldsSet}
use Rattle.symbol_merge.specs.Stored.{set_in}
use Rattle.image_stage.specs.Windows.{Shows}
use Rattle.image_stage.proofs.plain.plain_page.Given as goal

abbrev pub invariant-loop-k : goal.invariant-loop-k
invariant-loop-k g l = record {
  long : length l.into ≡ 256;
  reads : Reads (g.B.Board.view l.initial.board) (g.B.Board.view l.board);
  fault : (g.B.Board.view l.board).flash_faults ≡ (g.B.Board.view l.initial.board).flash_faults;
  shows : Told (g.B.Board.view l.initial.board) (λ s. HoldsSet s l.set → Shows l.base (flat_map (λ c. c.code) (take l.k (set_in s l.set))) l.into);
}

abbrev pub invariant-loop-k-2 : goal.invariant-loop-k-2
invariant-loop-k-2 g l = record {
  long : length l.into ≡ 256;
  reads : Reads (g.B.Board.view l.initial.board) (g.B.Board.view l.board);
  fault : (g.B.Board.view l.board).flash_faults ≡ (g.B.Board.view l.initial.board).flash_faults;
  shows : Told (g.B.Board.view l.initial.board) (λ s. HoldsSet s l.set → Shows l.base (flat_map (λ c. c.code) (set_in s l.set) ++ flat_map (λ c. c.init) (take l.k (set_in s l.set))) l.into);
}
