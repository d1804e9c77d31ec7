use Rattle.std.proofs.Common.{◌≡◌, ℕ, ◌+◌, ◌-◌, length, nat_lt, cond, bit_and}
use Rattle.std.specs.Prelude.{◌&&◌, nat_le, slice_index}
use Rattle.avr_reloc.specs.Kind.{shape_of}
use Rattle.avr_reloc.specs.Field.{keep_of}
use Rattle.object_packer.proofs.bytes.clear_field.Given as goal

abbrev pub invariant-loop-i : goal.invariant-loop-i
invariant-loop-i l = record {
  size : length l.bytes ≡ length l.initial.bytes;
  each : (j : ℕ) → slice_index l.bytes j
      ≡ cond (nat_le l.x.offset j && nat_lt j (l.x.offset + l.i)) (bit_and (slice_index l.initial.bytes j) (slice_index (keep_of (shape_of l.x.kind)) (j - l.x.offset))) (slice_index l.initial.bytes j);
}
