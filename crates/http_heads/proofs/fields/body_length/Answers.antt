use Rattle.std.proofs.Common.{sym, ◌∙◌, arith}
use Rattle.std.proofs.lemmas.List.{length-map}
use Rattle.httparse.specs.Spans.{header_bytes}
use Rattle.http_heads.proofs.Values.{body_many, body_coded, body_plain}
use Rattle.http_heads.proofs.fields.body_length.Goals as goal

pub returns-then-headers-gt32 : goal.returns-then-headers-gt32
returns-then-headers-gt32 c =
    let many = length-map c.args.headers.now (header_bytes c.args.buffer.now) in
    record { answer = body_many _ (omega (arith, many, c.if-headers-gt32.true)) }

pub returns-then-is_some : goal.returns-then-is_some
returns-then-is_some c = record { answer = body_coded _ (sym (c.is_some.ensures _ c.values.ensures) ∙ c.if-is_some.true) }

pub returns : goal.returns
returns c =
    let few = length-map c.args.headers.now (header_bytes c.args.buffer.now) in
    record { answer = body_plain _ _ (omega (arith, few, c.if-headers-gt32.false)) (sym (c.is_some.ensures _ c.values.ensures) ∙ c.if-is_some.false) (c.length.ensures _ c.values-2.ensures) }
