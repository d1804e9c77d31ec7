use Rattle.std.proofs.Common.{arith}
use Rattle.kept_symbols.proofs.Readers.{none_first}
use Rattle.kept_symbols.proofs.table.SymbolReader.new.Goals as goal

pub returns : goal.returns
returns c = λ s. record {
  page = λ small. absurd (omega (arith, small));
  firsts = λ p first at rs tells. absurd (none_first 32 p first at);
}
