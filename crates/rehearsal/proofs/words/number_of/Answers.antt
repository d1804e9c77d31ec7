use Rattle.std.proofs.Common.{arith, ◌≡◌, ◌∙◌, ap, sym, Ok, Err, decimal}
use Rattle.std.proofs.lemmas.Bool.{false≢true}
use Rattle.std.proofs.lemmas.Fmt.{parse-decimal}
use Rattle.rehearsal.proofs.words.number_of.Goals as goal

pub returns-in_default : goal.returns-in_default
returns-in_default c number small is =
    let parsed : c.from_str_radix.result ≡ Ok number = parse-decimal 32 number c.args.text.now c.from_str_radix.result small (omega (arith, small)) is c.from_str_radix.ensures.value in
    let failed : c.from_str_radix.result ≡ Err c.in_default.field-0 = c.in_default.is in
    cc

pub returns-then-not-is_number : goal.returns-then-not-is_number
returns-then-not-is_number c number small is =
    let parsed : c.from_str_radix.result ≡ Ok number = parse-decimal 32 number c.args.text.now c.from_str_radix.result small (omega (arith, small)) is c.from_str_radix.ensures.value in
    let told : c.from_str_radix.result ≡ Ok c.in-Ok.number = c.in-Ok.is in
    let same : c.in-Ok.number ≡ number = cc in
    false≢true (sym c.if-not-is_number.true ∙ c.is_number.ensures.1 (ap decimal same ∙ sym is))
