use Rattle.std.proofs.Common.{ap, ◌∙◌, length, arith, refl}
use Rattle.std.proofs.lemmas.Option.{slice_get_read}
use Rattle.std.specs.List.{flat_map}
use Rattle.component_package.specs.link.Link.{sites_in}
use Rattle.full_linker.proofs.Numbered.{flat_numbered_more, numbered_all}
use Rattle.full_linker.proofs.sites.all_sites.Goals as goal

pub loop-k-preserved : goal.loop-k-preserved
loop-k-preserved c =
    let x = c.index-set-k.result in
    let here = slice_get_read c.args.set.now (length c.args.set.now) c.loop-k.k x refl c.loop-k-test.true c.index-set-k.is in (
      rw (flat_numbered_more (λ x. sites_in x.0 x.1) c.args.set.now c.loop-k.k x here, ← c.loop-k.invariant.0) c.in_ok-push_sites.ensures.sites,
      omega (arith, c.loop-k.invariant.1, c.in_ok-push_sites.ensures.small),
    )

pub returns-clause-sites : goal.returns-clause-sites
returns-clause-sites c = c.loop-k.invariant.0 ∙ ap (flat_map (λ x. sites_in x.0 x.1)) (numbered_all c.args.set.now c.loop-k.k (omega arith))
