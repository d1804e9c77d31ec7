use Rattle.std.proofs.Common.{◌≡◌, ◌<◌, ◌≤◌, length, rules, sym, ◌∙◌, arith}
use Rattle.flash_pages.proofs.Runs.{reads_reads}
use Rattle.kept_symbols.specs.Cursors.{IsOf}
use Rattle.kept_symbols.proofs.WalkLemmas.{put_more, stand_more, at_zero}
use Rattle.kept_symbols.proofs.walk.Walk.start.Goals as goal

pub returns-in_err-cursor-clause-reads : goal.returns-in_err-cursor-clause-reads
returns-in_err-cursor-clause-reads g c = reads_reads _ _ _ c.loop-k.invariant.reads c.start.ensures.reads

pub loop-k-preserved : goal.loop-k-preserved
loop-k-preserved g c =
    let few : c.args.set.now.slots.manifest.count ≤ 16 = c.requires.set.manifest.count in
    let long : length c.loop-k.cursors ≡ 16 = c.loop-k.invariant.room in
    let below : c.loop-k.k < c.args.set.now.slots.manifest.count = c.loop-k-test.true in
    let within : c.loop-k.k < length c.loop-k.cursors = omega arith in
    record {
      room = search rules;
      of = put_more (IsOf c.args.set.now) c.loop-k.cursors c.loop-k.k c.in_ok-cursor.cursor within c.in_ok-cursor.ensures.of c.loop-k.invariant.of;
      stand = λ s told components holds. stand_more _ 0 c.loop-k.cursors c.loop-k.k c.in_ok-cursor.cursor within
          (λ comp at. record {
            cursor = c.in_ok-cursor.ensures.cursor s (c.loop-k.invariant.reads.state ∙ told) comp (holds.each c.loop-k.k comp at);
            at = c.in_ok-cursor.ensures.start ∙ sym (at_zero comp.exports);
          })
          (c.loop-k.invariant.stand s told components holds);
      reads = reads_reads _ _ _ c.loop-k.invariant.reads c.start.ensures.reads;
      fault = c.in_ok-cursor.ensures.faults ∙ c.loop-k.invariant.fault;
    }

pub returns-clause-stand : goal.returns-clause-stand
returns-clause-stand g c = λ s told components holds k comp lt at.
    let last = c.loop-k-test.false in
    c.loop-k.invariant.stand s told components holds k comp (omega (arith, lt, last)) at
