use Rattle.std.proofs.Common.{rules, vec_len, ◌≡◌, length, sym, ap, ◌∙◌}
use Rattle.avr_elf.specs.Object.{Object}
use Rattle.object_packer.specs.Relocations.{kept}
use Rattle.object_packer.proofs.Sorting.{length_sorted}
use Rattle.object_packer.proofs.plan.plan_of.Goals as goal

pub size_fault-requires-clause-relocs : goal.size_fault-requires-clause-relocs
size_fault-requires-clause-relocs c =
    let len : vec_len c.in_ok-relocs.relocs ≡ length c.in_ok-relocs.relocs.items = search rules in
    c.len-2.ensures ∙ len ∙ ap length c.in_ok-relocs.ensures ∙ length_sorted (λ x. x.position) c.in-Ok.kept.items ∙ ap length c.in-Ok.ensures.kept ∙ ap (λ (o : Object). length (kept o)) (sym c.resolver.view_is)
