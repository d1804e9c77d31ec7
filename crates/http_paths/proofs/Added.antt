-- What an insert makes of the rows.
use Rattle.std.proofs.Common.{◌≡◌, Result, Ok, Err}
use Rattle.matchit.specs.Rows.{RowsOf}
use Rattle.matchit.specs.Route.{Scan}
use Rattle.matchit.specs.Router.{RouteOf, InsertsRead}
use Rattle.matchit.specs.declared.error.InsertError.{InsertError}
use Rattle.http_paths.specs.Routes.{add_read}
use Rattle.http_paths.specs.declared.paths.Route.{Route}

pub added : (read : Result Scan InsertError) (value : Route) (old new : RowsOf (RouteOf Route)) (u : Unit {0}) → InsertsRead read value old new (Ok u) → new ≡ add_read read value old
added (Ok s) value old new u is = is.1
added (Err e) value old new u is = is.0
