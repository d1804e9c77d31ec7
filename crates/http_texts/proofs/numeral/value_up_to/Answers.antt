use Rattle.std.proofs.Common.{◌+◌}
use Rattle.http_texts.proofs.Digits.{value_more, above}
use Rattle.http_texts.proofs.numeral.value_up_to.Goals as goal

pub returns-then-value-most : goal.returns-then-value-most
returns-then-value-most c =
    above c.args.most c.args.digits.now (c.loop-digit.digit-index + 1) _
    (value_more c.args.digits.now c.loop-digit.digit-index c.loop-digit.value c.loop-digit-test.true c.requires.digits c.loop-digit.invariant.value)
    c.if-value-most.true

pub loop-digit-preserved : goal.loop-digit-preserved
loop-digit-preserved c = record {
  value = value_more c.args.digits.now c.loop-digit.digit-index c.loop-digit.value c.loop-digit-test.true c.requires.digits c.loop-digit.invariant.value;
  within = c.if-value-most.false;
}
