use Rattle.std.proofs.Common.{◌++◌, ◌∷◌, [], ◌≤◌, List, ℕ, ap, ◌∙◌, length, append_assoc, arith, take, length-append}
use Rattle.component_package.specs.declared.part.Site.{Site}
use Rattle.component_package.specs.declared.part.Reloc.{Reloc}
use Rattle.component_package.specs.link.Link.{sites_in}
use Rattle.full_linker.proofs.Numbered.{map_numbered_more, map_numbered_all}
use Rattle.full_linker.proofs.sites.push_sites.Goals as goal

pub loop-index-preserved : goal.loop-index-preserved
loop-index-preserved c =
    let site : ℕ × Reloc → Site = λ r. record { component = c.args.k; index = r.0; reloc = r.1 } in
    let more = map_numbered_more site c.args.part.now.relocs c.loop-index.index c.reloc-reloc.result c.reloc-reloc.ensures in (
      c.in_ok-push.ensures.items ∙ rw (c.loop-index.invariant.0, more) (append_assoc c.args.out.now.items (take c.loop-index.index (sites_in c.args.k c.args.part.now)) _),
      omega (arith, c.loop-index.invariant.1, ap length c.in_ok-push.ensures.items, length-append c.loop-index.out.items (site (c.loop-index.index, c.reloc-reloc.result) ∷ [])),
    )

pub returns-clause-sites : goal.returns-clause-sites
returns-clause-sites c =
    let site : ℕ × Reloc → Site = λ r. record { component = c.args.k; index = r.0; reloc = r.1 } in
    let past : length c.args.part.now.relocs ≤ c.loop-index.index = omega (arith, ap (λ h. h.relocs) c.header-index-end.ensures) in
    c.loop-index.invariant.0 ∙ ap (λ (s : List Site). c.args.out.now.items ++ s) (map_numbered_all site c.args.part.now.relocs c.loop-index.index past)
