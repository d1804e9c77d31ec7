use Rattle.std.proofs.Common.{arith, ◌∙◌, take, length}
use Rattle.std.proofs.lemmas.List.{length-take-le}
use Rattle.std.proofs.lemmas.Grind.{common_steps}
use Rattle.http_heads.proofs.Long.{refuses}
use Rattle.http_heads.proofs.Pieces.{gives_filled}
use Rattle.http_heads.proofs.head.read_head.Goals as goal

pub returns-in-Err-clause-gives : goal.returns-in-Err-clause-gives
returns-in-Err-clause-gives g c =
    let was = c.pieces.invariant in
    let taken = take c.pieces.at c.pieces.buffer in
    let long = length-take-le c.pieces.at c.pieces.buffer was.within in
    (taken, was.gives, tt, refuses c.in-Err.field-0 (length c.pieces.headers) taken was.headers c.in-Err.ensures.invalid c.in-Err.ensures.too_many (omega (arith, long, was.within, was.room)))

pub pieces-preserved : goal.pieces-preserved
pieces-preserved g c =
    let was = c.pieces.invariant in
    record {
      within = grind (arith, common_steps);
      room = grind (arith, common_steps);
      headers = c.parse_request.auto.headers ∙ was.headers;
      gives = gives_filled c.pieces.at c.in-Ok.count _ c.pieces.buffer c.read.new.into _ _ _ was.within (grind (arith, common_steps)) was.gives c.in-Ok.ensures.ok.gives;
      faults = c.in-Ok.ensures.counts.ok ∙ was.faults;
    }
