use Rattle.std.proofs.Common.{arith, ◌≡◌, ◌<◌, ◌≤◌, ◌+◌, ◌-◌}
use Rattle.drawn_releases.specs.Code.{width_of}
use Rattle.drawn_releases.proofs.Drawing.{step_instructions, bytes_on, calls_on, state_on}
use Rattle.drawn_releases.proofs.code.draw_code.Goals as goal

pub loop-at-preserved : goal.loop-at-preserved
loop-at-preserved c =
    let at = c.loop-at.at in
    let left = c.args.words - c.loop-at.at in
    let i = c.draw_instruction-instruction.result in
    let some : 0 < left = omega (arith, c.loop-at-test.true) in
    let drawn = c.draw_instruction-instruction.ensures in
    let step = step_instructions left at c.loop-at.random i some drawn.value in
    let fits : width_of i ≤ left = drawn.fits some in
    let wide : c.width-at.result ≡ width_of i = c.width-at.ensures in
    let less : c.args.words - (at + width_of i) ≡ left - width_of i = omega arith in
    rw (wide, less, drawn.state) (record {
      within = omega (arith, fits);
      bytes = bytes_on left at c.loop-at.random (left - width_of i) (at + width_of i) i _ _ _ step c.in_ok-push.ensures.bytes c.loop-at.invariant.bytes;
      calls = calls_on left at c.loop-at.random i _ _ _ step c.in_ok-push.ensures.calls c.loop-at.invariant.calls;
      state = state_on left at c.loop-at.random (left - width_of i) (at + width_of i) _ i step c.loop-at.invariant.state;
    })
