use Rattle.std.proofs.Common.{◌≡◌, ◌∙◌, ◌≤◌, ◌+◌, ◌-◌, ◌*◌, refl, ap, arith, suc}
use Rattle.drawn_releases.specs.Generator.{release_drawn}
use Rattle.rehearsal.proofs.Sent.{none_sent, then_sends}
use Rattle.rehearsal.proofs.Told.{none_told, line_told, cut_line_is, boot_line_is, cut_told, both_told, all_told, stops, stops_in_line, ends}
use Rattle.rehearsal.proofs.run.rehearse.Goals as goal

pub returns-in_default-clause-lines : goal.returns-in_default-clause-lines
returns-in_default-clause-lines g c s told = stops c.args.number 0 1 s _ (omega arith) (λ is. omega (arith, is)) (none_told c.args.number s _ told)

pub loop-release-init : goal.loop-release-init
loop-release-init g c = record {
  only = none_sent _;
  fault = refl;
  some = omega arith;
  drawn = c.in-Ok.ensures;
  lines = λ s told. none_told c.args.number s _ told;
}

pub returns-in_default-cut_step-clause-lines : goal.returns-in_default-cut_step-clause-lines
returns-in_default-cut_step-clause-lines g c s told =
    let r = c.loop-release.release in
    let few : r ≤ 20 = omega (arith, c.loop-release.auto.release-end) in
    stops c.args.number (2 * (r - 1)) 1 s _ (omega (arith, few)) (λ is. omega (arith, is)) (c.loop-release.invariant.lines s told)

pub returns-in_default-send-clause-only : goal.returns-in_default-send-clause-only
returns-in_default-send-clause-only g c = then_sends _ _ _ c.loop-release.invariant.only c.in_default-send.ensures.only

pub returns-in_default-send-clause-lines : goal.returns-in_default-send-clause-lines
returns-in_default-send-clause-lines g c s told =
    let r = c.loop-release.release in
    let some = c.loop-release.invariant.some in
    let few : r ≤ 20 = omega (arith, c.loop-release.auto.release-end) in
    let cut = c.in-Ok-cut_step.ensures c.args.number (r - 1) (omega (arith, some)) c.loop-release.invariant.drawn in
    stops_in_line c.args.number (2 * (r - 1)) 5 _ s _ _ (omega (arith, few)) (λ is. omega (arith, is)) (c.loop-release.invariant.lines s told)
    (cut_line_is c.args.number r _ _ some few c.deref.ensures.value cut.1) c.in_default-send.ensures.sent

pub returns-in_default-whole_step-clause-only : goal.returns-in_default-whole_step-clause-only
returns-in_default-whole_step-clause-only g c = then_sends _ _ _ c.loop-release.invariant.only c.in-Ok-send.ensures.only

pub returns-in_default-whole_step-clause-lines : goal.returns-in_default-whole_step-clause-lines
returns-in_default-whole_step-clause-lines g c s told =
    let r = c.loop-release.release in
    let some = c.loop-release.invariant.some in
    let few : r ≤ 20 = omega (arith, c.loop-release.auto.release-end) in
    let cut = c.in-Ok-cut_step.ensures c.args.number (r - 1) (omega (arith, some)) c.loop-release.invariant.drawn in
    stops c.args.number (suc (2 * (r - 1))) 1 s _ (omega (arith, few)) (λ is. omega (arith, is))
    (cut_told c.args.number r _ _ s _ _ some few (c.loop-release.invariant.lines s told) c.deref.ensures.value cut.1 c.in-Ok-send.ensures.sent)

pub returns-in_default-send-2-clause-only : goal.returns-in_default-send-2-clause-only
returns-in_default-send-2-clause-only g c = then_sends _ _ _ (then_sends _ _ _ c.loop-release.invariant.only c.in-Ok-send.ensures.only) c.in_default-send-2.ensures.only

pub returns-in_default-send-2-clause-lines : goal.returns-in_default-send-2-clause-lines
returns-in_default-send-2-clause-lines g c s told =
    let r = c.loop-release.release in
    let some = c.loop-release.invariant.some in
    let few : r ≤ 20 = omega (arith, c.loop-release.auto.release-end) in
    let cut = c.in-Ok-cut_step.ensures c.args.number (r - 1) (omega (arith, some)) c.loop-release.invariant.drawn in
    let whole = c.in-Ok-whole_step.ensures c.args.number cut.0 in
    stops_in_line c.args.number (suc (2 * (r - 1))) 5 _ s _ _ (omega (arith, few)) (λ is. omega (arith, is))
    (cut_told c.args.number r _ _ s _ _ some few (c.loop-release.invariant.lines s told) c.deref.ensures.value cut.1 c.in-Ok-send.ensures.sent)
    (boot_line_is c.args.number r _ _ some few c.deref-in-loop-release.ensures.value whole.1) c.in_default-send-2.ensures.sent

pub loop-release-preserved : goal.loop-release-preserved
loop-release-preserved g c =
    let r = c.loop-release.release in
    let some = c.loop-release.invariant.some in
    let few : r ≤ 20 = omega (arith, c.loop-release.auto.release-end) in
    let next : r ≡ r + 1 - 1 = omega arith in
    let cut = c.in-Ok-cut_step.ensures c.args.number (r - 1) (omega (arith, some)) c.loop-release.invariant.drawn in
    let whole = c.in-Ok-whole_step.ensures c.args.number cut.0 in
    record {
      only = then_sends _ _ _ (then_sends _ _ _ c.loop-release.invariant.only c.in-Ok-send.ensures.only) c.in-Ok-send-2.ensures.only;
      fault = c.in-Ok-send-2.ensures.no_fault ∙ c.in-Ok-send.ensures.no_fault ∙ c.loop-release.invariant.fault;
      some = omega arith;
      drawn = whole.0 ∙ ap (release_drawn c.args.number) next;
      lines = λ s told. both_told c.args.number r _ _ s _ _ some few
          (cut_told c.args.number r _ _ s _ _ some few (c.loop-release.invariant.lines s told) c.deref.ensures.value cut.1 c.in-Ok-send.ensures.sent)
          c.deref-in-loop-release.ensures.value whole.1 c.in-Ok-send-2.ensures.sent;
    }

pub returns-in_default-send-3-clause-lines : goal.returns-in_default-send-3-clause-lines
returns-in_default-send-3-clause-lines g c s told =
    let end : c.loop-release.release ≡ 21 = omega (arith, c.loop-release.auto.release-end) in
    stops_in_line c.args.number 40 5 _ s _ _ (omega arith) (λ is. omega (arith, is))
    (all_told c.args.number c.loop-release.release s _ end (c.loop-release.invariant.lines s told)) refl c.in_default-send-3.ensures.sent

pub returns-clause-lines : goal.returns-clause-lines
returns-clause-lines g c s told =
    let end : c.loop-release.release ≡ 21 = omega (arith, c.loop-release.auto.release-end) in
    ends c.args.number s _ (line_told c.args.number 40 _ s _ _
    (all_told c.args.number c.loop-release.release s _ end (c.loop-release.invariant.lines s told)) refl c.in-Ok-send-3.ensures.sent)
