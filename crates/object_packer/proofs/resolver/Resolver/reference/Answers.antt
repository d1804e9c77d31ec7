use Rattle.std.proofs.Common.{◌≡◌, ◌<◌, ◌^◌, length, get_or, sym, ap, ◌∙◌, subst, arith}
use Rattle.avr_elf.specs.Object.{Object}
use Rattle.object_packer.specs.References.{reference_of}
use Rattle.object_packer.proofs.Lists.{length-list_of, get_or-list_of}
use Rattle.object_packer.proofs.resolver.Resolver.reference.Goals as goal

pub index-requires : goal.index-requires
index-requires c =
    let o = c.self.inside.layout in
    let lt : c.args.i < length o.symbols = subst (λ (o : Object). c.args.i < length o.symbols) (sym c.self.view_is) c.requires in
    omega (arith, ap length c.self.invariant.are, length-list_of (reference_of o) (length o.symbols))

pub returns : goal.returns
returns c =
    let o = c.self.inside.layout in
    let lt : c.args.i < length o.symbols = subst (λ (o : Object). c.args.i < length o.symbols) (sym c.self.view_is) c.requires in
    let is : c.index.result.now ≡ reference_of o c.args.i =
    (c.index.ensures ∙ ap (λ rs. get_or rs c.args.i c.index.result.now) c.self.invariant.are ∙ get_or-list_of (reference_of o) (length o.symbols) c.args.i c.index.result.now lt) in
    record {
      reference = is ∙ ap (λ (o : Object). reference_of o c.args.i) c.self.view_is;
      small = subst (λ r. r.value < 2 ^ 51) (sym is) (c.self.invariant.small c.args.i lt);
    }
