use Rattle.std.proofs.Common.{ℕ, ◌+◌, List, IfSome, get_or, take, sym, ap, subst, ◌∙◌}
use Rattle.release_rows.specs.declared.part.Numbered.{Numbered}
use Rattle.release_rows.specs.Tables.{stored_package}
use Rattle.release_rows.specs.Change.{IsPackageOf}
use Rattle.release_rows.specs.View.{View}
use Rattle.release_judging.specs.Packages.{ArePackagesOf}
use Rattle.release_judging.proofs.Chain.{calm}
use Rattle.release_judging.proofs.Gathered.{IsGathered, gathered_more}
use Rattle.release_judging.proofs.Linkable.{packages_more}
use Rattle.release_judging.proofs.release.read_packages.Goals as goal

pub loop-part-preserved : goal.loop-part-preserved
loop-part-preserved g c =
    let ps = c.args.parts.now in
    let i : ℕ = c.loop-part.part-index in
    let bs : List (List ℕ) = c.loop-part.packages.items in
    let b : List ℕ = c.in-Some.package in
    let none : Numbered = record { component = 0; version = 0 } in
    let p : Numbered = get_or ps i none in
    let at = c.in_ok-package.ensures in
    let before = c.loop-part.invariant in
    let same = calm c.in_ok-package.field-0 (g.R.Rows.view c.loop-part.rows) (g.R.Rows.view c.package.new.self) at.reads in
    let grammar : IsPackageOf p.component p.version b = subst (λ o. IfSome o (IsPackageOf p.component p.version)) c.in-Some.is at.grammar in (
      same ∙ before.0,
      subst (λ out. ArePackagesOf (take (i + 1) ps) out) (sym c.in_ok-push.ensures.items) (packages_more ps i bs none b c.loop-part-test.true before.1 grammar),
      λ t told. subst (λ out. IsGathered (λ q. stored_package t q.component q.version) ps (i + 1) out) (sym c.in_ok-push.ensures.items)
          (gathered_more (λ q. stored_package t q.component q.version) ps i bs none b c.loop-part-test.true (sym (at.row t (ap (λ (v : View). v.tables) before.0 ∙ told)) ∙ c.in-Some.is) (before.2 t told)),
    )
