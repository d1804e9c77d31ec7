use Rattle.std.proofs.Common.{◌≡◌, append_assoc, rules}
use Rattle.component_package.specs.packages.Component.{spelling}
use Rattle.component_package.proofs.ReadAgain.{spelling_faultless, spelling_said}
use Rattle.component_package.proofs.write.write_package.Goals as goal

pub returns-clause-reads_back : goal.returns-clause-reads_back
returns-clause-reads_back c =
    let p = c.args.p.now in
    let bytes : c.push_relocs.new.into.items ≡ spelling p = search (rules, append_assoc) in
    (rw bytes (spelling_faultless p c.requires), rw bytes (spelling_said p c.requires))
