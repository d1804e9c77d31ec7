use Rattle.std.proofs.Common.{List, ℕ, subst}
use Rattle.avr_reloc.specs.Field.{AreBytes}
use Rattle.full_linker.proofs.linking.patched.Goals as goal

pub returns-clause-bytes : goal.returns-clause-bytes
returns-clause-bytes c =
    subst (λ (l : List ℕ). AreBytes l) c.deref.ensures.value c.are_bytes.ensures
