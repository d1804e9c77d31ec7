use Rattle.std.proofs.Common.{◌≡◌, ℕ, ◌+◌, ◌<◌, ◌≤◌, length, rules, sym, subst, ◌∙◌, arith}
use Rattle.flash_pages.proofs.Runs.{reads_reads}
use Rattle.kept_symbols.specs.declared.cursor.Cursor.{Cursor}
use Rattle.kept_symbols.specs.Cursors.{IsOf}
use Rattle.kept_symbols.specs.Walks.{StandsAt, cursor_in}
use Rattle.kept_symbols.proofs.WalkLemmas.{put_one, put_later, stand_more, behind_at, exports_rise}
use Rattle.kept_symbols.proofs.walk.Walk.pass.Goals as goal

pub returns-in_err-pass-clause-reads : goal.returns-in_err-pass-clause-reads
returns-in_err-pass-clause-reads g c = reads_reads _ _ _ c.loop-k.invariant.reads c.pass.ensures.reads

pub loop-k-preserved : goal.loop-k-preserved
loop-k-preserved g c =
    let k : ℕ = c.loop-k.k in
    let old : Cursor = cursor_in c.loop-k.self.cursors k in
    let new : Cursor = c.pass.new.self in
    let few : c.args.set.now.slots.manifest.count ≤ 16 = c.requires.set.manifest.count in
    let long : length c.loop-k.self.cursors ≡ 16 = c.loop-k.invariant.room in
    let same : c.loop-k.self.count ≡ c.args.self.now.count = c.loop-k.invariant.count in
    let all : c.args.self.now.count ≡ c.args.set.now.slots.manifest.count = c.requires.of.count in
    let below : k < c.args.self.now.count = search rules in
    let within : k < length c.loop-k.self.cursors = omega arith in
    record {
      count = same;
      room = search rules;
      of = put_one (IsOf c.args.set.now) c.loop-k.self.cursors k c.loop-k.self.count new within c.in_ok-pass.ensures.of c.loop-k.invariant.of;
      later = λ j le. put_later c.loop-k.self.cursors k j new le ∙ c.loop-k.invariant.later j (omega (arith, le));
      passed = λ s told components holds is at. stand_more _ (c.args.symbol + 1) c.loop-k.self.cursors k new within
          (λ comp there.
          let kept = c.loop-k.invariant.later k (omega arith) in
          let was : StandsAt c.args.symbol comp.exports old = subst (λ (x : Cursor). StandsAt c.args.symbol comp.exports x) (sym kept) (at.cursors k comp below there) in
          record {
            cursor = c.in_ok-pass.ensures.cursor s (c.loop-k.invariant.reads.state ∙ told) comp (holds.each k comp there) was.cursor;
            at = c.in_ok-pass.ensures.next ∙ behind_at c.args.symbol comp.exports old (exports_rise _ k comp is there) was;
          })
          (c.loop-k.invariant.passed s told components holds is at);
      reads = reads_reads _ _ _ c.loop-k.invariant.reads c.pass.ensures.reads;
      fault = c.in_ok-pass.ensures.faults ∙ c.loop-k.invariant.fault;
    }

pub returns-clause-passes : goal.returns-clause-passes
returns-clause-passes g c = λ s told components holds is at. record {
  count = c.loop-k.invariant.count ∙ at.count;
  cursors = λ k comp lt there.
      let last = c.loop-k-test.false in
      c.loop-k.invariant.passed s told components holds is at k comp (omega (arith, lt, last, c.loop-k.invariant.count)) there;
}
