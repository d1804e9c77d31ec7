use Rattle.std.proofs.Common.{map}
use Rattle.avr_reloc.proofs.Fixups.{ArePut-same}
use Rattle.name_laws.specs.NameImage.{rooms_of_objects, entries, named_fixup, plain_of_objects}
use Rattle.name_laws.proofs.name_image_is_one.Goals as goal

pub returns : goal.returns
returns c = λ os a b p q. ArePut-same (map (named_fixup (rooms_of_objects os)) (entries os)) (plain_of_objects os) a b p.bytes q.bytes p.put q.put
