use Rattle.std.proofs.Common.{◌≡◌, map, take}
use Rattle.http_commands.specs.Commands.{row_part}
use Rattle.http_commands.proofs.command.parts_of.Given as goal

abbrev pub invariant-loop-part : goal.invariant-loop-part
invariant-loop-part l = l.rows.items ≡ map row_part (take l.part-index l.parts)
