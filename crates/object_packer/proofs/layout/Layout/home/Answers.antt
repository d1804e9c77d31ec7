use Rattle.std.proofs.Common.{◌<◌, length, get_or, sym, ap, ◌∙◌, subst, arith}
use Rattle.avr_elf.specs.Object.{Object}
use Rattle.object_packer.specs.Parts.{home_of}
use Rattle.object_packer.proofs.Lists.{length-list_of, get_or-list_of}
use Rattle.object_packer.proofs.layout.Layout.home.Goals as goal

pub index-requires : goal.index-requires
index-requires c =
    let o = c.self.inside.object.now in
    let lt : c.args.k < length o.sections = subst (λ (o : Object). c.args.k < length o.sections) (sym c.self.view_is) c.requires in
    omega (arith, ap length c.self.invariant.homes, length-list_of (home_of o) (length o.sections))

pub returns-clause-home : goal.returns-clause-home
returns-clause-home c =
    let o = c.self.inside.object.now in
    let lt : c.args.k < length o.sections = subst (λ (o : Object). c.args.k < length o.sections) (sym c.self.view_is) c.requires in
    c.index.ensures ∙ ap (λ hs. get_or hs c.args.k c.index.result.now) c.self.invariant.homes
    ∙ get_or-list_of (home_of o) (length o.sections) c.args.k c.index.result.now lt ∙ ap (λ (o : Object). home_of o c.args.k) c.self.view_is

pub returns-clause-small : goal.returns-clause-small
returns-clause-small c = λ home e.
    let lt : c.args.k < length c.self.inside.object.now.sections = subst (λ (o : Object). c.args.k < length o.sections) (sym c.self.view_is) c.requires in
    c.self.invariant.small c.args.k home lt (ap (λ (o : Object). home_of o c.args.k) c.self.view_is ∙ sym (returns-clause-home c) ∙ e)
