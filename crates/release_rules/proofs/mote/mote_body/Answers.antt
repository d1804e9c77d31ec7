use Rattle.std.proofs.Common.{◌≡◌, List, Option, Some, None, sym, ap, ◌∙◌}
use Rattle.release_rows.specs.declared.part.Numbered.{Numbered}
use Rattle.release_rules.specs.Motes.{text_of}
use Rattle.release_rules.proofs.Motes.{mote_is}
use Rattle.release_rules.proofs.mote.mote_body.Goals as goal

pub returns-in-None-clause-text : goal.returns-in-None-clause-text
returns-in-None-clause-text g c = λ t told.
    let mote = c.args.mote.now in
    let last = c.in_ok-last.last in
    let none : None ≡ text_of t mote last c.in_ok-parts.field-0 = ap (λ (p : Option (List Numbered)). text_of t mote last p) (sym c.in-None.is) in
    mote_is t mote last c.in_ok-parts.field-0 None (c.in_ok-last.ensures.row t told) (c.in_ok-parts.ensures.row t (c.in_ok-last.ensures.reads.tables ∙ told)) none

pub returns-in_ok-text-in-Some-clause-text : goal.returns-in_ok-text-in-Some-clause-text
returns-in_ok-text-in-Some-clause-text g c = λ t told.
    let mote = c.args.mote.now in
    let last = c.in_ok-last.last in
    let after_count = c.in_ok-last.ensures.reads.tables ∙ told in
    let parts = ap (λ (ps : List Numbered). Some ps) c.as_slice.ensures ∙ sym c.in-Some.is ∙ c.in_ok-parts.ensures.row t after_count in
    mote_is t mote last (Some c.as_slice.result.now) c.in_ok-text-in-Some.text (c.in_ok-last.ensures.row t told) parts (c.in_ok-text-in-Some.ensures.text t (c.in_ok-parts.ensures.reads.tables ∙ after_count))
