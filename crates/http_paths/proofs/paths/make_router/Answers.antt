use Rattle.std.proofs.Common.{codes, ap, ◌∙◌}
use Rattle.matchit.specs.Route.{parse_route}
use Rattle.http_paths.specs.Routes.{routes, add_route}
use Rattle.http_paths.specs.declared.paths.Route.TheVariants.{Update, Mote, Image}
use Rattle.http_paths.proofs.Added.{added}
use Rattle.http_paths.proofs.paths.make_router.Goals as goal

pub returns : goal.returns
unfolding routes
returns c =
    let first = added (parse_route (codes "/motes/{mote}/update")) Update _ _ _ c.in_ok-insert.ensures in
    let second = added (parse_route (codes "/motes/{mote}")) Mote _ _ _ c.in_ok-insert-2.ensures in
    let third = added (parse_route (codes "/motes/{mote}/releases/{n}/image")) Image _ _ _ c.in_ok-insert-3.ensures in
    record {
      routes = third ∙ ap (add_route (codes "/motes/{mote}/releases/{n}/image") Image)
          (second ∙ ap (add_route (codes "/motes/{mote}") Mote)
          (first ∙ ap (add_route (codes "/motes/{mote}/update") Update) c.in_ok-router.ensures));
    }
