use Rattle.std.proofs.Common.{◌<◌, ◌++◌, length, sym, ap, ◌∙◌, arith}
use Rattle.std.specs.List.{flat_map}
use Rattle.std.proofs.lemmas.List.{take_all}
use Rattle.object_packer.specs.Sections.{section_at}
use Rattle.object_packer.specs.Parts.{bytes_in}
use Rattle.object_packer.proofs.Rooms.{bytes_more}
use Rattle.object_packer.proofs.layout.Layout.part_bytes.Goals as goal

pub loop-k-preserved : goal.loop-k-preserved
loop-k-preserved c =
    let o = c.args.self.now in
    let k = c.loop-k.k in
    let lt : k < length o.sections = omega (arith, c.section_count-k-end.ensures.count) in
    c.in_ok-push_section.ensures ∙ ap (λ xs. xs ++ bytes_in c.args.place (section_at o k)) c.loop-k.invariant ∙ sym (bytes_more o c.args.place k lt)

pub returns : goal.returns
returns c =
    let o = c.args.self.now in
    c.loop-k.invariant ∙ ap (λ xs. flat_map (bytes_in c.args.place) xs) (take_all c.loop-k.k o.sections (omega (arith, c.section_count-k-end.ensures.count)))
