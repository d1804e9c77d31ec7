use Rattle.std.proofs.Common.{ap, sym, ◌∙◌}
use Rattle.avr_reloc.specs.Kind.{kind_of}
use Rattle.avr_reloc.proofs.Numbers.{kind_of-number, number_of-kind}
use Rattle.avr_reloc.proofs.laws.numbers_match.Goals as goal

pub returns : goal.returns
returns c = λ n t. (number_of-kind n t, λ e. sym (ap kind_of e) ∙ kind_of-number t)
