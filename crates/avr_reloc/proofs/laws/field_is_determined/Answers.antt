use Rattle.avr_reloc.proofs.OneField.{one_field}
use Rattle.avr_reloc.proofs.laws.field_is_determined.Goals as goal

pub returns : goal.returns
returns c = one_field
