-- What a keeper in a database file shows of itself.
use Rattle.std.specs.Prelude.{ℕ, None}
use Rattle.release_rows.specs.View.{View}
use Rattle.sqlite_keeper.specs.declared.keeper.SqliteKeeper.{SqliteKeeper}

-- it tells no tables, and has a count of faults
abbrev pub sqlite_view : SqliteKeeper → View
sqlite_view k = record { tables = None; faults = k.faults }
