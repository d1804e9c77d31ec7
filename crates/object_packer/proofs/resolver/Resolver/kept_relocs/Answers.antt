use Rattle.std.proofs.Common.{◌≡◌, ◌++◌, length, sym, ap, ◌∙◌, arith}
use Rattle.avr_elf.specs.Object.{Object}
use Rattle.object_packer.specs.Relocations.{kept_in}
use Rattle.object_packer.specs.Faults.{relas_fault}
use Rattle.object_packer.proofs.First.{first_of-more, says_at, flat_map_more}
use Rattle.object_packer.proofs.resolver.Resolver.kept_relocs.Goals as goal

pub returns-in-Err-clause-fault : goal.returns-in-Err-clause-fault
returns-in-Err-clause-fault c =
    let o = c.args.self.now in
    let count : c.section_count-k-end.result ≡ length o.sections = c.section_count-k-end.ensures.count ∙ ap (λ (o : Object). length o.sections) c.self.view_is in
    says_at (relas_fault o) (length o.sections) c.loop-k.k c.in-Err.fault (omega (arith, count)) c.loop-k.invariant.none c.in-Err.ensures.fault

pub loop-k-preserved : goal.loop-k-preserved
loop-k-preserved c =
    let o = c.args.self.now in
    record {
      none = first_of-more (relas_fault o) c.loop-k.k c.loop-k.invariant.none c.in-Ok.ensures.none;
      kept = c.in-Ok.ensures.kept ∙ ap (λ xs. xs ++ kept_in o c.loop-k.k) c.loop-k.invariant.kept ∙ sym (flat_map_more (kept_in o) c.loop-k.k);
    }
