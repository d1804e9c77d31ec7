-- What a call on a database that was refused means for rows.
use Rattle.sqlite.specs.declared.error.ErrorCode.TheVariants.{OutOfMemory}
use Rattle.sqlite.specs.declared.error.Error.{Error}
use Rattle.sqlite.specs.declared.error.Error.TheVariants.{SqliteFailure}
use Rattle.release_rows.specs.declared.rows.RowsFault.{RowsFault}
use Rattle.release_rows.specs.declared.rows.RowsFault.TheVariants.{Failed, Memory}

-- want of memory, where the database names it; all else is a fault
abbrev pub fault_of : Error → RowsFault
fault_of (SqliteFailure OutOfMemory) = Memory
fault_of _ = Failed
