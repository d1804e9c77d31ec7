use Rattle.std.proofs.Common.{◌≡◌, ℕ, List, length, ap, ap₂, ◌∙◌, rules}
use Rattle.std.specs.Prelude.{slice_index}
use Rattle.component_package.specs.mote.Frames.{Frame}
use Rattle.spread_core.specs.declared.message.Message.TheVariants.{Ask}
use Rattle.spread_core.specs.MessageFrames.{frame_of}
use Rattle.spread_core.proofs.FrameLemmas.{HasBytes, thirteen_again}
use Rattle.spread_core.proofs.frame.read_ask.Goals as goal

abbrev framed : List ℕ → Frame
framed b = record { kind = 17; payload = b }

pub returns-clause-spells : goal.returns-clause-spells
returns-clause-spells c =
    let b : List ℕ = c.args.payload.now in
    let bytes : HasBytes b = search rules in
    let long : length b ≡ 13 = search rules in
    ap₂ (λ (r n : ℕ). frame_of (Ask r (slice_index b 4) n)) c.u32_in.ensures c.u64_in.ensures ∙ ap framed (thirteen_again b long bytes)
