use Rattle.std.proofs.Common.{◌≡◌, ◌∙◌, None, rules}
use Rattle.avr_elf.specs.Faults.{elf_fault}
use Rattle.avr_elf.specs.Object.{object_of, AreBytes}
use Rattle.avr_elf.proofs.ObjectLemmas.{is_object, one_object}
use Rattle.avr_elf.proofs.WellFormedLemmas.{well_formed}
use Rattle.avr_elf.proofs.read.read_object.Goals as goal

pub new-requires : goal.new-requires
new-requires c =
    let none : elf_fault c.args.file.now ≡ None = search rules in
    record {
      sound = record {
        table = search rules;
        names = search rules;
        placed = search rules;
        named = search rules;
        symbols = search rules;
      };
      well_formed = well_formed c.args.file.now none;
      only = search rules;
    }

pub returns-clause-meant : goal.returns-clause-meant
returns-clause-meant c =
    let bytes : AreBytes c.args.file.now = search rules in
    let none : elf_fault c.args.file.now ≡ None = search rules in
    rw c.new.ensures (is_object c.args.file.now bytes none)

pub returns-clause-whole : goal.returns-clause-whole
returns-clause-whole c = λ o meant. c.new.ensures ∙ one_object c.args.file.now (object_of c.args.file.now) o (is_object c.args.file.now meant.bytes meant.sound) meant
