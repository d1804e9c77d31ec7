use Rattle.std.proofs.Common.{rules}
use Rattle.std.proofs.lemmas.List.Elements.{All-set}
use Rattle.flash_pages.specs.State.{IsPage}
use Rattle.flash_pages.proofs.memory.replace.Goals as goal

pub returns-clause-all : goal.returns-clause-all
returns-clause-all c = λ all. All-set IsPage c.args.pages.now.items c.args.page c.args.bytes.now (search rules, search rules) all
