use Rattle.std.proofs.Common.{sym, ◌∙◌}
use Rattle.std.proofs.lemmas.Bool.{false≢true}
use Rattle.kept_definitions.specs.Kept.{inbox_of}
use Rattle.kept_manifests.specs.Slots.{place_of}
use Rattle.kept_store.proofs.OpenLemmas.{held_good, held_fits, unheld_fresh}
use Rattle.kept_store.proofs.open.entry_part.Goals as goal

pub returns-in-Some-clause-answer : goal.returns-in-Some-clause-answer
returns-in-Some-clause-answer g c = λ e none over s told. held_good (inbox_of s.ext) c.args.m.now c.args.k c.requires.entry c.if-m-k.false

pub returns-in-Some-clause-fits : goal.returns-in-Some-clause-fits
returns-in-Some-clause-fits g c =
    let current = c.args.current.now in
    held_fits current (place_of c.args.m.now c.args.k) c.in-Some.part c.requires.current c.held_part.ensures.rooms.headers c.held_part.ensures.rooms.entries c.in-Some.ensures.held

pub returns-in-None-clause-answer : goal.returns-in-None-clause-answer
returns-in-None-clause-answer g c = λ e none over s told.
    let fresh = unheld_fresh c.args.current.now.slots c.args.m.now c.args.k over c.requires.entry (c.in-None.ensures.none none) in
    absurd (false≢true (sym c.if-m-k.false ∙ fresh))
