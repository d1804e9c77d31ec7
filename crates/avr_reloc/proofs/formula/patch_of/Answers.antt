use Rattle.std.proofs.Common.{rules, w64, SFits, sym, length, ◌≡◌, arith}
use Rattle.std.proofs.lemmas.Int.{to_z-of_z}
use Rattle.avr_reloc.specs.Field.{AreBytes}
use Rattle.avr_reloc.specs.Kind.{shape_of}
use Rattle.avr_reloc.proofs.Patched.{field_from_patch, width_four}
use Rattle.avr_reloc.proofs.Fixups.{byte_of_field}
use Rattle.avr_reloc.proofs.Cleared.{keep_behind, set_behind}
use Rattle.avr_reloc.proofs.formula.patch_of.Goals as goal

pub returns-clause-patch : goal.returns-clause-patch
returns-clause-patch c =
    let sum : SFits w64 c.args.s_plus_a = c.ranges.s_plus_a in
    let place : SFits w64 c.args.place = c.ranges.place in
    let gap : SFits w64 c.distance.result = search rules in
    let d = simp to_z-of_z at c.distance.ensures in
    let v = simp to_z-of_z at c.value-value.ensures.value in
    record {
      width = c.width.ensures;
      keep = c.keep.ensures;
      set = rw (← c.shape.ensures, ← d, ← v) c.spread.ensures;
    }

pub returns-clause-padded : goal.returns-clause-padded
returns-clause-padded c =
    let p = returns-clause-patch c in
    let four : length c.spread.result ≡ 4 = search rules in
    let set_bytes : AreBytes c.spread.result = search rules in
    record {
      keep_bytes = search rules;
      set_bytes = set_bytes;
      keep_behind = λ i le lt. rw c.keep.ensures (keep_behind _ i (rw c.width.ensures at le) lt);
      set_behind = λ i le. set_behind _ c.spread.result four set_bytes p.set.apart i (rw c.width.ensures at le);
    }

pub returns-clause-field : goal.returns-clause-field
returns-clause-field c =
    let sum : SFits w64 c.args.s_plus_a = c.ranges.s_plus_a in
    let place : SFits w64 c.args.place = c.ranges.place in
    let possible = simp to_z-of_z at c.in_default.ensures in
    let four : length c.spread.result ≡ 4 = search rules in
    let set_bytes : AreBytes c.spread.result = search rules in
    let p = returns-clause-patch c in
    field_from_patch c.args.t c.args.s_plus_a c.args.place _ _ (sym possible) four set_bytes p.keep p.set

pub returns-clause-bytes : goal.returns-clause-bytes
returns-clause-bytes c =
    let keep_four : length c.keep.result ≡ 4 = search rules in
    let four : length c.spread.result ≡ 4 = search rules in
    let set_bytes : AreBytes c.spread.result = search rules in
    let gives = returns-clause-field c in λ q old f old_bytes f_bytes wide same field i lt.
    byte_of_field c.args.t c.args.s_plus_a c.args.place _ _ q old f i keep_four four set_bytes old_bytes f_bytes
    (omega (arith, wide, width_four (shape_of c.args.t))) (gives q old old_bytes wide same) field (omega (arith, wide, lt))
