use Rattle.std.proofs.Common.{◌≡◌, ℕ, List, length, ap, ap₂, ◌∙◌, rules}
use Rattle.component_package.specs.mote.Frames.{Frame}
use Rattle.spread_core.specs.declared.message.Message.TheVariants.{Advert}
use Rattle.spread_core.specs.MessageFrames.{frame_of}
use Rattle.spread_core.proofs.FrameLemmas.{HasBytes, six_again}
use Rattle.spread_core.proofs.frame.read_advert.Goals as goal

abbrev framed : List ℕ → Frame
framed b = record { kind = 16; payload = b }

pub returns-clause-spells : goal.returns-clause-spells
returns-clause-spells c =
    let b : List ℕ = c.args.payload.now in
    let bytes : HasBytes b = search rules in
    let long : length b ≡ 6 = search rules in
    ap₂ (λ (r w : ℕ). frame_of (Advert r w)) c.u32_in.ensures c.u16_in.ensures ∙ ap framed (six_again b long bytes)
