use Rattle.std.proofs.Common.{◌≤◌, ◌∙◌, ap, sym, subst, List, length}
use Rattle.std.specs.List.{All}
use Rattle.update_laws.specs.Update.{Delivered}
use Rattle.drawn_releases.specs.Generator.{Drawn}
use Rattle.rehearsal.proofs.release.Release.frames.Goals as goal

pub update-requires-clause-few : goal.update-requires-clause-few
update-requires-clause-few c =
    let fits = c.releases_fit.ensures.few c.self.invariant.number c.self.invariant.count in
    subst (λ (ds : List Delivered). length ds ≤ 16) (sym (c.packages.ensures ∙ ap (λ (d : Drawn). d.packages) c.self.invariant.is)) fits

pub update-requires-clause-short : goal.update-requires-clause-short
update-requires-clause-short c =
    let fits = c.releases_fit.ensures.short c.self.invariant.number c.self.invariant.count in
    subst (λ (ds : List Delivered). All (λ d. length d.bytes ≤ 9984) ds) (sym (c.packages.ensures ∙ ap (λ (d : Drawn). d.packages) c.self.invariant.is)) fits
