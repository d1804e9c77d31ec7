use Rattle.std.proofs.Common.{codes, ap, ◌∙◌}
use Rattle.matchit.specs.Route.{parse_route}
use Rattle.http_paths.specs.Routes.{add_route}
use Rattle.http_paths.specs.declared.paths.Route.TheVariants.{Versions, Releases, Acknowledgements}
use Rattle.http_paths.proofs.Added.{added}
use Rattle.http_paths.proofs.paths.list_router.Goals as goal

pub returns : goal.returns
returns c =
    let first = added (parse_route (codes "/components/{name}/versions")) Versions _ _ _ c.in_ok-insert.ensures in
    let second = added (parse_route (codes "/motes/{mote}/releases")) Releases _ _ _ c.in_ok-insert-2.ensures in
    let third = added (parse_route (codes "/motes/{mote}/acks")) Acknowledgements _ _ _ c.in_ok-insert-3.ensures in
    third ∙ ap (add_route (codes "/motes/{mote}/acks") Acknowledgements)
    (second ∙ ap (add_route (codes "/motes/{mote}/releases") Releases)
    (first ∙ ap (add_route (codes "/components/{name}/versions") Versions) c.new-router.ensures))
