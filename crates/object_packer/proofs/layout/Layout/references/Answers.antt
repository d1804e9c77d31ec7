use Rattle.std.proofs.Common.{◌≡◌, ◌<◌, ◌^◌, [], ◌∷◌, ◌++◌, length, sym, ap, ◌∙◌, subst, arith, below_more}
use Rattle.avr_elf.specs.First.{list_of}
use Rattle.avr_elf.specs.Object.{Object}
use Rattle.object_packer.specs.References.{reference_of}
use Rattle.object_packer.proofs.Lists.{list_of_more}
use Rattle.object_packer.proofs.layout.Layout.references.Goals as goal

pub loop-i-preserved : goal.loop-i-preserved
loop-i-preserved c =
    let o = c.args.self.now in
    let i = c.loop-i.i in
    record {
      are = c.in_ok-push.ensures.items ∙ ap (λ rs. rs ++ c.reference.result ∷ []) c.loop-i.invariant.are ∙ ap (λ r. list_of (reference_of o) i ++ r ∷ []) c.reference.ensures.reference
          ∙ sym (list_of_more (reference_of o) i);
      small = below_more (λ j. (reference_of o j).value < 2 ^ 51) i c.loop-i.invariant.small (subst (λ r. r.value < 2 ^ 51) c.reference.ensures.reference c.reference.ensures.small);
    }

pub returns : goal.returns
returns c =
    let o = c.args.self.now in
    let same : length c.self.inside.object.now.symbols ≡ length o.symbols = ap (λ (o : Object). length o.symbols) c.self.view_is in
    let all : c.loop-i.i ≡ length o.symbols = omega (arith, c.symbol_count-i-end.ensures.count, same) in
    record { are = c.loop-i.invariant.are ∙ ap (λ n. list_of (reference_of o) n) all; small = λ i lt. c.loop-i.invariant.small i (omega arith) }
