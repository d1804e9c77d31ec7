use Rattle.std.proofs.Common.{true, false, ◌∙◌}
use Rattle.object_packer.proofs.Sound.{field_inside, packable, exportable}
use Rattle.object_packer.proofs.packing.package.Goals as goal

pub cleared-requires : goal.cleared-requires
cleared-requires c = field_inside c.args.plan.now.layout c.requires.well_formed c.requires.accepted false c.deref.result.now (c.deref.ensures.value ∙ c.requires.plan.relocs)

pub cleared-requires-2 : goal.cleared-requires-2
cleared-requires-2 c = field_inside c.args.plan.now.layout c.requires.well_formed c.requires.accepted true c.deref-2.result.now (c.deref-2.ensures.value ∙ c.requires.plan.relocs)

pub exports-requires-clause-exports : goal.exports-requires-clause-exports
exports-requires-clause-exports c = exportable c.args.plan.now.layout c.requires.well_formed c.requires.accepted c.deref-3.result.now (c.deref-3.ensures.value ∙ c.requires.plan.exported)

pub relocs-requires-clause-relocs : goal.relocs-requires-clause-relocs
relocs-requires-clause-relocs c = packable c.args.plan.now.layout c.requires.well_formed c.requires.accepted c.deref-4.result.now (c.deref-4.ensures.value ∙ c.requires.plan.relocs)
