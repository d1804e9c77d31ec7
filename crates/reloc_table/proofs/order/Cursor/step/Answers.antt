use Rattle.std.proofs.Common.{◌<◌, ◌≤◌, arith}
use Rattle.symbol_merge.specs.Stored.{set_in}
use Rattle.reloc_table.proofs.Held.{component_at, has_header, set_length}
use Rattle.reloc_table.proofs.Coming.{to_data, rest_next, rest_site, rest_skip, in_code_part, other_part, same_part}
use Rattle.reloc_table.proofs.order.Cursor.step.Goals as goal

pub returns-then-k-set-clause-site : goal.returns-then-k-set-clause-site
returns-then-k-set-clause-site g c = λ s told keeps holds.
    let set = c.args.set.now in
    let me = c.args.self.now in
    let past : set.slots.manifest.count ≤ me.component = c.if-k-set.true in
    to_data (set_in s set) me.in_init me.component me.index (in_code_part me.in_init set.slots.manifest.count me.component past c.requires.more) (omega (arith, set_length s set c.requires.set c.rooms.ensures, past))

pub returns-then-self-set-clause-site : goal.returns-then-self-set-clause-site
returns-then-self-set-clause-site g c = λ s told keeps holds.
    let set = c.args.set.now in
    let me = c.args.self.now in
    let lt : me.component < set.slots.manifest.count = omega (arith, c.if-k-set.false) in
    let comp = component_at s set me.component c.requires.set c.rooms.ensures lt in
    let h = has_header s set me.component comp.it c.requires.set c.rooms.ensures lt holds comp.here in
    rest_next (set_in s set) me.in_init me.component me.index comp.it comp.here (omega (arith, h.relocs, c.requires.within lt, c.if-self-set.true))

pub returns-then-reloc-self-clause-site : goal.returns-then-reloc-self-clause-site
returns-then-reloc-self-clause-site g c = λ s told keeps holds.
    let set = c.args.set.now in
    let me = c.args.self.now in
    let lt : me.component < set.slots.manifest.count = omega (arith, c.if-k-set.false) in
    let comp = component_at s set me.component c.requires.set c.rooms.ensures lt in
    rest_skip (set_in s set) me.in_init me.component me.index comp.it c.in-Ok.reloc comp.here (c.in-Ok.ensures.answer s told keeps holds comp.it comp.here) (other_part c.in-Ok.reloc.in_init me.in_init c.if-reloc-self.true)

pub returns-then-reloc-self-clause-keeps : goal.returns-then-reloc-self-clause-keeps
returns-then-reloc-self-clause-keeps g c = λ s told keeps holds.
    let set = c.args.set.now in
    let me = c.args.self.now in
    let lt : me.component < set.slots.manifest.count = omega (arith, c.if-k-set.false) in
    let comp = component_at s set me.component c.requires.set c.rooms.ensures lt in
    c.in-Ok.ensures.keeps s told keeps holds comp.it comp.here

pub returns-clause-site : goal.returns-clause-site
returns-clause-site g c = λ s told keeps holds.
    let set = c.args.set.now in
    let me = c.args.self.now in
    let lt : me.component < set.slots.manifest.count = omega (arith, c.if-k-set.false) in
    let comp = component_at s set me.component c.requires.set c.rooms.ensures lt in
    rest_site (set_in s set) me.in_init me.component me.index comp.it c.in-Ok.reloc comp.here (c.in-Ok.ensures.answer s told keeps holds comp.it comp.here) (same_part c.in-Ok.reloc.in_init me.in_init c.if-reloc-self.false)

pub returns-clause-keeps : goal.returns-clause-keeps
returns-clause-keeps g c = λ s told keeps holds.
    let set = c.args.set.now in
    let me = c.args.self.now in
    let lt : me.component < set.slots.manifest.count = omega (arith, c.if-k-set.false) in
    let comp = component_at s set me.component c.requires.set c.rooms.ensures lt in
    c.in-Ok.ensures.keeps s told keeps holds comp.it comp.here
