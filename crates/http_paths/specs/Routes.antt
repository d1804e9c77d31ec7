-- The six paths as the rows of a router.
use Rattle.std.specs.Prelude.{ℕ, List, [], Result, Ok, Err, codes}
use Rattle.matchit.specs.Rows.{RowsOf}
use Rattle.matchit.specs.Order.{placed}
use Rattle.matchit.specs.Route.{Scan, parse_route}
use Rattle.matchit.specs.Router.{RouteOf, route_from}
use Rattle.matchit.specs.declared.error.InsertError.{InsertError}
use Rattle.http_paths.specs.declared.paths.Route.{Route}
use Rattle.http_paths.specs.declared.paths.Route.TheVariants.{Versions, Releases, Acknowledgements, Update, Mote, Image}

-- a route that reads well goes to its place among the rows
abbrev pub add_read : Result Scan InsertError → Route → RowsOf (RouteOf Route) → RowsOf (RouteOf Route)
add_read (Ok s) value rows = placed (s.pattern, route_from s value) rows
add_read (Err e) value rows = rows

-- the rows with the route of this text
abbrev pub add_route : List ℕ → Route → RowsOf (RouteOf Route) → RowsOf (RouteOf Route)
add_route text value rows = add_read (parse_route text) value rows

-- the rows of the six paths
unfoldable pub routes : RowsOf (RouteOf Route)
routes =
    add_route (codes "/motes/{mote}/releases/{n}/image") Image
    (add_route (codes "/motes/{mote}") Mote
    (add_route (codes "/motes/{mote}/update") Update
    (add_route (codes "/motes/{mote}/acks") Acknowledgements
    (add_route (codes "/motes/{mote}/releases") Releases
    (add_route (codes "/components/{name}/versions") Versions [])))))
