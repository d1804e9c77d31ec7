use Rattle.std.proofs.Common.{ap, sym, ◌∙◌, ◌≡◌, ℕ, ◌∷◌, [], ◌++◌, List, length, arith}
use Rattle.std.specs.Prelude.{bytes_eq}
use Rattle.std.specs.List.{find, filter}
use Rattle.release_rows.specs.declared.row.ReleaseRow.{ReleaseRow}
use Rattle.release_rows.specs.Tables.{is_release}
use Rattle.release_keeper.proofs.Index.{knows_row}
use Rattle.release_keeper.proofs.Added.{releases_stale, releases_added, filter_few, at_ok, at_err}
use Rattle.release_keeper.proofs.releases.ReleaseRows.push.Goals as goal

pub overflow_add-count : goal.overflow_add-count
overflow_add-count c =
    let mote : c.as_bytes-mote.result.now ≡ c.args.row.mote = c.as_bytes-mote.ensures.value ∙ c.as_str.ensures in
    let low = c.if-place.false in
    let count = (c.count-count.ensures ∙ (λ i. length (filter (λ (r : ReleaseRow). bytes_eq (mote i) r.mote) (c.reserve.ensures.items i)))) in
    record { fits = omega (arith, low, count, c.len-place.ensures, c.self.inside.rows.ok, filter_few (λ (r : ReleaseRow). bytes_eq c.args.row.mote r.mote) c.self.inside.rows.items) }

pub invariant_of-self-then-is_err-2 : goal.invariant_of-self-then-is_err-2
invariant_of-self-then-is_err-2 c =
    releases_stale c.is_some-known.result c.self.inside.places c.note.new.places c.self.inside.counts c.insert.new.self c.self.inside.rows.items c.reserve.new.self.items c.in_ok-key.key c.len-place.result
    c.reserve.ensures.items (knows_row c.is_some-known.result (is_release c.in_ok-key.key.mote.items c.in_ok-key.key.number) c.self.inside.rows.items c.get.result c.is_some-known.ensures (c.get.ensures.row ∙ ap (find (is_release c.in_ok-key.key.mote.items c.in_ok-key.key.number)) c.reserve.ensures.items)) c.in_ok-note.ensures.ok (at_err c.insert.result (sym c.is_err-2.ensures.value ∙ c.if-is_err-2.true) c.insert.ensures.err) c.self.invariant

pub invariant_of-self-4 : goal.invariant_of-self-4
invariant_of-self-4 c =
    let mote : c.as_bytes-mote.result.now ≡ c.args.row.mote = c.as_bytes-mote.ensures.value ∙ c.as_str.ensures in
    releases_added c.is_some-known.result c.self.inside.places c.note.new.places c.self.inside.counts c.insert.new.self c.self.inside.rows.items c.push_reserved.new.self.items c.in_ok-key.key c.in_ok-name.name c.args.row c.len-place.result
    c.count-count.result (c.in_ok-key.ensures.0 ∙ mote) c.in_ok-key.ensures.1 (c.in_ok-name.ensures ∙ mote) (c.push_reserved.ensures.items ∙ ap (λ l. l ++ c.args.row ∷ []) c.reserve.ensures.items)
    (omega (arith, c.len-place.ensures, c.self.inside.rows.ok)) (c.if-place.false) (knows_row c.is_some-known.result (is_release c.in_ok-key.key.mote.items c.in_ok-key.key.number) c.self.inside.rows.items c.get.result c.is_some-known.ensures (c.get.ensures.row ∙ ap (find (is_release c.in_ok-key.key.mote.items c.in_ok-key.key.number)) c.reserve.ensures.items)) c.in_ok-note.ensures.ok
    (c.count-count.ensures ∙ (λ i. length (filter (λ (r : ReleaseRow). bytes_eq (mote i) r.mote) (c.reserve.ensures.items i))))
    (at_ok c.insert.result (sym c.is_err-2.ensures.value ∙ c.if-is_err-2.false) c.insert.ensures.updates) (record { some = c.requires.some; few = c.requires.few; distinct = c.requires.distinct }) c.self.invariant
