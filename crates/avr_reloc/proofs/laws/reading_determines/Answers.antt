use Rattle.avr_reloc.proofs.OneField.{same_from_reading}
use Rattle.avr_reloc.proofs.laws.reading_determines.Goals as goal

pub returns : goal.returns
returns c = λ s e f e_bytes f_bytes. same_from_reading e f e_bytes f_bytes s
