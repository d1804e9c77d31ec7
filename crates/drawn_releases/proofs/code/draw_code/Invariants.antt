use Rattle.std.proofs.Common.{◌-◌, ◌≡◌, ◌*◌, ◌≤◌, ◌++◌, length}
use Rattle.std.specs.List.{flat_map}
use Rattle.drawn_releases.specs.Generator.{instructions, instruction_bytes, calls_from, after}
use Rattle.drawn_releases.proofs.code.draw_code.Given as goal

abbrev pub invariant-loop-at : goal.invariant-loop-at
invariant-loop-at l = record {
  within : l.at ≤ l.words;
  bytes : l.code.bytes.items ++ flat_map instruction_bytes (instructions (l.words - l.at) l.at l.random) ≡ flat_map instruction_bytes (instructions l.words 0 l.fn.random);
  calls : l.code.calls.items ++ calls_from (2 * l.at) (instructions (l.words - l.at) l.at l.random) ≡ calls_from 0 (instructions l.words 0 l.fn.random);
  state : after (length (instructions (l.words - l.at) l.at l.random)) l.random ≡ after (length (instructions l.words 0 l.fn.random)) l.fn.random;
}

abbrev pub decreases-loop-at : goal.decreases-loop-at
decreases-loop-at l = l.words - l.at
