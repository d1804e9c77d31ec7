use Rattle.std.proofs.Common.{Some, ◌∙◌, sym, ap}
use Rattle.serde_json.specs.View.{items_view}
use Rattle.http_bodies.specs.Parts.{all_parts, is_short as short_test, names_differ as differ_test}
use Rattle.http_bodies.proofs.Pairs.{parts_given, long_list, short_list, all_differ}
use Rattle.http_bodies.proofs.parts.parts_of.Goals as goal

pub returns-then-not-is_short : goal.returns-then-not-is_short
returns-then-not-is_short c =
    let pairs = c.in-Some.items.now in
    parts_given _ pairs.items c.in-Some.ensures ∙ long_list pairs (ap short_test (sym c.len.ensures) ∙ sym c.if-not-is_short.ensures)

pub returns : goal.returns
returns c =
    let pairs = c.in-Some.items.now in
    let read = ap (λ xs. all_parts (items_view xs)) (sym c.deref.ensures.value) ∙ (c.in_ok-parts.ensures.ok ∙ sym (ap Some c.of.ensures)) in
    let differ = ap differ_test (c.of.ensures ∙ sym c.deref-2.ensures.value) ∙ sym c.if-not-names_differ.ensures in
    parts_given _ pairs.items c.in-Some.ensures
    ∙ (short_list pairs (ap short_test (sym c.len.ensures) ∙ sym c.if-not-is_short.ensures)
    ∙ all_differ (all_parts (items_view pairs.items)) c.of.result read differ)
