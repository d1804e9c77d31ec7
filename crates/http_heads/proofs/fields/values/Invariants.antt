use Rattle.std.proofs.Common.{take}
use Rattle.http_heads.specs.Fields.{fields_of, values_of}
use Rattle.http_heads.specs.Found.{Finds}
use Rattle.http_heads.proofs.fields.values.Given as goal

abbrev pub invariant-loop-header : goal.invariant-loop-header
invariant-loop-header l = Finds l.found (values_of l.name (fields_of l.buffer (take l.header-index l.headers)))
