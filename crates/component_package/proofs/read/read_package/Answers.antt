use Rattle.std.proofs.Common.{rules, sym}
use Rattle.avr_reloc.specs.Field.{AreBytes}
use Rattle.component_package.proofs.HeaderLemmas.{good_header}
use Rattle.component_package.proofs.Steps.{faultless_parts}
use Rattle.component_package.proofs.InGrammar.{spells}
use Rattle.component_package.proofs.read.read_package.Goals as goal

pub check_exports-requires-clause-whole : goal.check_exports-requires-clause-whole
check_exports-requires-clause-whole c = rw c.header_in-header.ensures (good_header c.args.bytes.now (sym c.in_default.ensures)).whole

pub check_relocs-requires-clause-whole : goal.check_relocs-requires-clause-whole
check_relocs-requires-clause-whole c = rw c.header_in-header.ensures (good_header c.args.bytes.now (sym c.in_default.ensures)).whole

pub invariant_of-result : goal.invariant_of-result
invariant_of-result c = record {
  bytes = search rules;
  sound = faultless_parts c.args.bytes.now (sym c.in_default.ensures) (sym c.in_ok-check_exports.ensures) (sym c.in_ok-check_relocs.ensures);
  header = c.header_in-header.ensures;
  whole = rw c.header_in-header.ensures (good_header c.args.bytes.now (sym c.in_default.ensures)).whole;
}

pub returns-clause-spells : goal.returns-clause-spells
returns-clause-spells c =
    let bytes : AreBytes c.args.bytes.now = search rules in
    spells c.args.bytes.now bytes (faultless_parts c.args.bytes.now (sym c.in_default.ensures) (sym c.in_ok-check_exports.ensures) (sym c.in_ok-check_relocs.ensures))
