use Rattle.std.proofs.Common.{◌∙◌, ap, ℕ, List, [], ◌∷◌, ◌++◌, decimal}
use Rattle.hex.specs.Hex.{encode_lower}
use Rattle.flash_pages.specs.Memory.{memory_state}
use Rattle.component_package.specs.link.Pages.{cut}
use Rattle.rehearsal.proofs.run.told.Goals as goal

pub returns : goal.returns
returns c =
    let whole = c.in_ok-whole.ensures in
    record {
      pages = (memory_state c.args.mote.now).prog;
      are = record { image = whole.image; is = whole.is; are = c.holds.ensures c.if-not-holds.false ∙ ap cut (c.deref.ensures.value ∙ whole.whole_is) };
      is = c.in_ok-line.ensures
          ∙ ap (λ (digest : List ℕ). c.args.word.now ++ (decimal c.args.release ++ 32 ∷ (encode_lower digest ++ 10 ∷ []))) c.program_digest-digest.ensures;
    }
