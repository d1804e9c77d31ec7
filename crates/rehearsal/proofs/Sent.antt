-- Sends one after another.
use Rattle.std.proofs.Common.{refl, ◌∙◌}
use Rattle.flash_pages.specs.Board.{View}
use Rattle.rehearsal.specs.Lines.{OnlySends}

pub none_sent : (v : View) → OnlySends v v
none_sent v = record { left = refl; programs = refl; flash = refl; pages = λ s told. (s, told, refl, refl) }

pub then_sends : (old mid new : View) → OnlySends old mid → OnlySends mid new → OnlySends old new
then_sends old mid new first second = record {
  left = second.left ∙ first.left;
  programs = second.programs ∙ first.programs;
  flash = second.flash ∙ first.flash;
  pages = λ s told.
      let x = first.pages s told in
      let y = second.pages x.0 x.1 in
      (y.0, y.1, y.2 ∙ x.2, y.3 ∙ x.3);
}
