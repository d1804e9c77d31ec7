use Rattle.std.proofs.Common.{◌≡◌, ◌∙◌, ap, arith, suc}
use Rattle.drawn_releases.specs.Generator.{Drawn, next_release, release_drawn}
use Rattle.rehearsal.proofs.run.cut_step.Goals as goal

pub returns-in-Ok-cut_line : goal.returns-in-Ok-cut_line
returns-in-Ok-cut_line c number before next is =
    let after : suc before ≡ c.args.next = omega (arith, next) in
    let release = c.in_ok-release.ensures ∙ ap next_release is ∙ ap (release_drawn number) after in (
      release,
      c.in-Ok-cut_line.ensures number before next
          (c.deref-2.ensures.value ∙ c.in_ok-olds.ensures ∙ c.packages.ensures ∙ ap (λ (d : Drawn). d.packages) is)
          (c.packages-2.ensures ∙ ap (λ (d : Drawn). d.packages) release),
    )
