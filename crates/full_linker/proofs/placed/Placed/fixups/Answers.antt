use Rattle.std.proofs.Common.{◌≡◌, Some, subst}
use Rattle.std.proofs.lemmas.Result.{err_from_is_err_and}
use Rattle.component_package.specs.link.Link.{first_cause, site_cause, sites_cause}
use Rattle.full_linker.proofs.Done.{done_more, first_here, owner_inside}
use Rattle.full_linker.proofs.Causes.{says_found}
use Rattle.full_linker.proofs.placed.Placed.fixups.Goals as goal

pub fixup-requires : goal.fixup-requires
fixup-requires c =
    let set = c.self.inside.set.now in
    rw (← c.self.view_is) (owner_inside set c.self.invariant.components.components c.args.sites.now (rw (← c.self.view_is) at c.requires) c.loop-site.site-index _ c.loop-site-test.true)

pub returns-in_err-fixup-clause-fault : goal.returns-in_err-fixup-clause-fault
returns-in_err-fixup-clause-fault c =
    let p = err_from_is_err_and c.from_residual.result c.from_residual.ensures.1 in
    rw (p.1, p.2) (says_found c.in_err-fixup.field-0.0 _ (sites_cause c.args.self.now) c.in_err-fixup.ensures.fault
    (λ d e. subst (λ xs. first_cause (site_cause c.args.self.now) xs ≡ Some d) c.requires (first_here c.args.self.now c.args.sites.now c.loop-site.site-index _ d c.loop-site-test.true c.loop-site.invariant.none e)))

pub loop-site-preserved : goal.loop-site-preserved
loop-site-preserved c =
    done_more c.args.self.now c.args.sites.now c.loop-site.site-index _ c.loop-site.fixups.items c.push.new.self.items c.in_ok-fixup.field-0 c.loop-site.invariant c.loop-site-test.true
    c.in_ok-fixup.ensures.fixup c.in_ok-fixup.ensures.near c.in_ok-fixup.ensures.fault c.in_ok-push.ensures.items
