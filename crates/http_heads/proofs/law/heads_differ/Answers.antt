use Rattle.http_heads.proofs.Once.{refused_or_whole as whole, refused_or_cut as cut}
use Rattle.http_heads.proofs.law.heads_differ.Goals as goal

pub returns : goal.returns
returns c = record {
  refused_or_whole = whole;
  cut_or_whole = λ input is has. is.none has.head has.rest has.reads;
  refused_or_cut = cut;
}
