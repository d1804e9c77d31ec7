use Rattle.std.proofs.Common.{◌≡◌, ℕ, pos, ap, ◌∙◌, Option, rules, SFits, w16, w64}
use Rattle.std.specs.Prelude.{◌+ℤ◌, unwrap_or}
use Rattle.std.proofs.lemmas.Int.{to_z-of_z}
use Rattle.component_package.specs.link.Link.{target_with}
use Rattle.component_package.specs.link.Pages.{address_in}
use Rattle.kept_relocs.proofs.value.fixup_of.Goals as goal

pub returns-clause-fixup : goal.returns-clause-fixup
returns-clause-fixup g c = λ s told keeps set table plan tells.
    let x = c.args.site.now in
    let fits : SFits w16 x.reloc.addend = search rules in
    let place = c.place_of.ensures.place set plan in
    let said = simp to_z-of_z at c.sum.ensures.sum in
    let target : c.unwrap_or.result ≡ unwrap_or (target_with (address_in table) set x) 0 =
    c.unwrap_or.ensures ∙ ap (λ (o : Option ℕ). unwrap_or o 0) (c.in-Ok.ensures.answer s told keeps set table plan tells) in
    let sum : c.sum.result ≡ pos (unwrap_or (target_with (address_in table) set x) 0) +ℤ x.reloc.addend =
    said ∙ ap (λ (n : ℕ). pos n +ℤ x.reloc.addend) target in
    let long : SFits w64 c.sum.result = search rules in
    simp to_z-of_z (λ i. record { place = place i; kind = x.reloc.kind; s_plus_a = sum i })
