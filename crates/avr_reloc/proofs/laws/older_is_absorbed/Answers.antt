use Rattle.avr_reloc.proofs.laws.older_is_absorbed.Goals as goal

pub returns : goal.returns
returns c = λ t older newer place p q f bytes gives field. gives q f bytes field.width field.outside
