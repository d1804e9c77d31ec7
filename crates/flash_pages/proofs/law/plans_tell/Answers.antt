use Rattle.std.proofs.Common.{◌∙◌, refl, false, ◌&&◌, nat_lt, ◌^◌, ◌≡◌, arith}
use Rattle.std.proofs.lemmas.Bool.Decides.{nat_tests}
use Rattle.flash_pages.specs.Plan.{next_call}
use Rattle.flash_pages.proofs.law.plans_tell.Goals as goal

pub returns : goal.returns
returns c = record {
  stopped = λ b is. rw is refl;
  stays = λ cut old new goes is. goes.stopped ∙ rw is refl;
  calm = λ b on none never. (rw (on, none) (let q : nat_lt (next_call b) (2 ^ 32) && false ≡ false = grind (arith, nat_tests) in q), rw never (grind (arith, nat_tests)));
}
