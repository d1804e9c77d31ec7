use Rattle.std.proofs.Common.{◌≡◌, ◌≤◌, ◌-◌, Some}
use Rattle.flash_pages.specs.State.{State}
use Rattle.flash_pages.specs.Board.{Reads}
use Rattle.external_flash.specs.Readers.{Keeps}
use Rattle.component_package.specs.packages.Component.{Component}
use Rattle.kept_store.specs.Sets.{IsComponentOf, header_at}
use Rattle.kept_store.specs.Fields.{AreBefore}
use Rattle.kept_store.proofs.fields.first_field.Given as goal

abbrev pub invariant-loop-span : goal.invariant-loop-span
invariant-loop-span g l = record {
  within : l.span.high ≤ (header_at l.set l.k).relocs;
  keeps : (s : State) → (g.B.Board.view l.fn.board).state ≡ Some s → Keeps s l.fn.table → Keeps s l.table;
  before : (s : State) → (g.B.Board.view l.fn.board).state ≡ Some s → Keeps s l.fn.table → (c : Component) → IsComponentOf s l.set l.k c → AreBefore l.in_init l.from l.span.low c.relocs;
  reads : Reads (g.B.Board.view l.fn.board) (g.B.Board.view l.board);
  fault : (g.B.Board.view l.board).flash_faults ≡ (g.B.Board.view l.fn.board).flash_faults;
}

abbrev pub decreases-loop-span : goal.decreases-loop-span
decreases-loop-span g l = l.span.high - l.span.low
