use Rattle.std.proofs.Common.{rules, ◌∙◌, ap, Some}
use Rattle.kept_relocs.specs.List.{list_area}
use Rattle.kept_relocs.proofs.Entries.{read_blank, read_entry}
use Rattle.kept_relocs.proofs.list.read_entry.Goals as goal

pub returns-then-raw-clause-entry : goal.returns-then-raw-clause-entry
returns-then-raw-clause-entry g c = λ s told keeps xs l. read_blank (list_area s) c.in_ok-raw.raw xs c.args.i l (c.in_ok-raw.ensures.raw s told keeps) c.if-raw.true

pub returns-clause-entry : goal.returns-clause-entry
returns-clause-entry g c = λ s told keeps xs l.
    ap Some c.entry.ensures ∙ read_entry (list_area s) c.in_ok-raw.raw xs c.args.i l c.requires (c.in_ok-raw.ensures.raw s told keeps) (search rules)
