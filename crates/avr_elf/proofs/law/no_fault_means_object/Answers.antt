use Rattle.avr_elf.specs.Object.{object_of}
use Rattle.avr_elf.proofs.ObjectLemmas.{is_object}
use Rattle.avr_elf.proofs.law.no_fault_means_object.Goals as goal

pub returns : goal.returns
returns c = λ file bytes. (λ none. (object_of file, is_object file bytes none), λ x. x.1.sound)
