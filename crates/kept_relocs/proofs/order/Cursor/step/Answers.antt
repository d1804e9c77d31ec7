use Rattle.std.proofs.Common.{◌<◌, ◌≤◌, arith}
use Rattle.kept_relocs.proofs.Held.{component_at, has_header}
use Rattle.kept_relocs.proofs.Coming.{to_data, rest_next, rest_site, rest_skip, in_code_part, other_part, same_part}
use Rattle.kept_relocs.proofs.order.Cursor.step.Goals as goal

pub returns-then-k-set-clause-site : goal.returns-then-k-set-clause-site
returns-then-k-set-clause-site g c = λ s told keeps components holds.
    let set = c.args.set.now in
    let me = c.args.self.now in
    let past : set.slots.manifest.count ≤ me.component = c.if-k-set.true in
    to_data components me.in_init me.component me.index (in_code_part me.in_init set.slots.manifest.count me.component past c.requires.more) (omega (arith, holds.count, past))

pub returns-then-self-set-clause-site : goal.returns-then-self-set-clause-site
returns-then-self-set-clause-site g c = λ s told keeps components holds.
    let set = c.args.set.now in
    let me = c.args.self.now in
    let lt : me.component < set.slots.manifest.count = omega (arith, c.if-k-set.false) in
    let comp = component_at components me.component (omega (arith, holds.count, lt)) in
    let h = has_header s set components me.component comp.it holds comp.here in
    rest_next components me.in_init me.component me.index comp.it comp.here (omega (arith, h.relocs, c.requires.within lt, c.if-self-set.true))

pub returns-then-reloc-self-clause-site : goal.returns-then-reloc-self-clause-site
returns-then-reloc-self-clause-site g c = λ s told keeps components holds.
    let me = c.args.self.now in
    let lt : me.component < c.args.set.now.slots.manifest.count = omega (arith, c.if-k-set.false) in
    let comp = component_at components me.component (omega (arith, holds.count, lt)) in
    let there = c.in-Ok.ensures.answer s told keeps comp.it (holds.each me.component comp.it comp.here) in
    rest_skip components me.in_init me.component me.index comp.it c.in-Ok.reloc comp.here there (other_part c.in-Ok.reloc.in_init me.in_init c.if-reloc-self.true)

pub returns-clause-site : goal.returns-clause-site
returns-clause-site g c = λ s told keeps components holds.
    let me = c.args.self.now in
    let lt : me.component < c.args.set.now.slots.manifest.count = omega (arith, c.if-k-set.false) in
    let comp = component_at components me.component (omega (arith, holds.count, lt)) in
    let there = c.in-Ok.ensures.answer s told keeps comp.it (holds.each me.component comp.it comp.here) in
    rest_site components me.in_init me.component me.index comp.it c.in-Ok.reloc comp.here there (same_part c.in-Ok.reloc.in_init me.in_init c.if-reloc-self.false)
