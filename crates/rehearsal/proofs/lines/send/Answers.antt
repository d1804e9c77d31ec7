use Rattle.rehearsal.proofs.Told.{owed_none}
use Rattle.rehearsal.proofs.lines.send.Goals as goal

pub returns-clause-only : goal.returns-clause-only
returns-clause-only g c = record {
  left = c.send_all.ensures.left;
  programs = c.send_all.ensures.line.all_programs;
  flash = c.send_all.ensures.line.flash;
  pages = λ s told. let sent = c.send_all.ensures.sent s told in (sent.1, sent.2, sent.3.prog, sent.3.ext);
}

pub returns-clause-sent : goal.returns-clause-sent
returns-clause-sent g c s told =
    let sent = c.send_all.ensures.sent s told in
    record { end = sent.1; told = sent.2; owed = sent.0; sent = sent.3.sent; whole = λ done. owed_none _ sent.0 sent.4 done }
