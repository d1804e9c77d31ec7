use Rattle.std.proofs.Common.{ℕ, sym, ap, ◌∙◌, arith}
use Rattle.std.specs.Option.{option_map}
use Rattle.component_package.specs.mote.Frames.{stream_of}
use Rattle.release_updates.specs.Updates.{release_parts, release_delivered, update_between}
use Rattle.release_updates.proofs.Cases.{below_last}
use Rattle.release_updates.proofs.update.update_frames.Goals as goal

pub returns-clause-frames : goal.returns-clause-frames
returns-clause-frames g c t told =
    let last = c.in_ok-last.ensures.row t told in
    let other = c.if-have-last.false in
    let low = c.if-last-have.false in
    c.in_ok-update.ensures.frames t (c.in_ok-last.ensures.reads.tables ∙ told)
    ∙ ap (λ (n : ℕ). option_map stream_of (update_between c.args.have n (release_parts t c.args.mote.now c.args.have) (release_delivered t c.args.mote.now n))) last
    ∙ sym (ap (option_map stream_of) (below_last t c.args.mote.now c.args.have (omega (arith, last, other, low))))
