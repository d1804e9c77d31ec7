use Rattle.kept_relocs.proofs.list.entry_at.Goals as goal

pub returns-clause-entry : goal.returns-clause-entry
returns-clause-entry g c = λ s told xs l. c.in_ok-entry.ensures.entry s told (c.new-list.ensures s) xs l
