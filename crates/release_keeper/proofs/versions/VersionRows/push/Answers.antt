use Rattle.std.proofs.Common.{ap, sym, ◌∙◌, ◌≡◌, ℕ, ◌∷◌, [], ◌++◌, List, length, eqb, arith, refl}
use Rattle.std.specs.List.{find, filter}
use Rattle.release_rows.specs.declared.row.VersionRow.{VersionRow}
use Rattle.release_rows.specs.Tables.{is_version}
use Rattle.release_keeper.proofs.Index.{knows_row}
use Rattle.release_keeper.proofs.Added.{versions_stale, versions_added, filter_few, at_ok, at_err}
use Rattle.release_keeper.proofs.versions.VersionRows.push.Goals as goal

pub overflow_add-count : goal.overflow_add-count
overflow_add-count c =
    let low = c.if-place.false in
    let count = (c.count-count.ensures ∙ ap (λ (l : List VersionRow). length (filter (λ r. eqb r.component c.args.row.component) l)) c.reserve.ensures.items) in
    record { fits = omega (arith, low, count, c.len-place.ensures, c.self.inside.rows.ok, filter_few (λ (r : VersionRow). eqb r.component c.args.row.component) c.self.inside.rows.items) }

pub invariant_of-self-then-is_err-2 : goal.invariant_of-self-then-is_err-2
invariant_of-self-then-is_err-2 c =
    versions_stale c.is_some-known.result c.self.inside.places c.note.new.places c.self.inside.counts c.insert.new.self c.self.inside.rows.items c.reserve.new.self.items (record { component = c.args.row.component; version = c.args.row.version }) c.len-place.result
    c.reserve.ensures.items (knows_row c.is_some-known.result (is_version c.args.row.component c.args.row.version) c.self.inside.rows.items c.get.result c.is_some-known.ensures (c.get.ensures.row ∙ ap (find (is_version c.args.row.component c.args.row.version)) c.reserve.ensures.items)) c.in_ok-note.ensures.ok (at_err c.insert.result (sym c.is_err-2.ensures.value ∙ c.if-is_err-2.true) c.insert.ensures.err) c.self.invariant

pub invariant_of-self-4 : goal.invariant_of-self-4
invariant_of-self-4 c =
    versions_added c.is_some-known.result c.self.inside.places c.note.new.places c.self.inside.counts c.insert.new.self c.self.inside.rows.items c.push_reserved.new.self.items (record { component = c.args.row.component; version = c.args.row.version }) c.args.row c.len-place.result
    c.count-count.result refl refl (c.push_reserved.ensures.items ∙ ap (λ l. l ++ c.args.row ∷ []) c.reserve.ensures.items) (omega (arith, c.len-place.ensures, c.self.inside.rows.ok))
    (c.if-place.false) (knows_row c.is_some-known.result (is_version c.args.row.component c.args.row.version) c.self.inside.rows.items c.get.result c.is_some-known.ensures (c.get.ensures.row ∙ ap (find (is_version c.args.row.component c.args.row.version)) c.reserve.ensures.items)) c.in_ok-note.ensures.ok
    (c.count-count.ensures ∙ ap (λ (l : List VersionRow). length (filter (λ r. eqb r.component c.args.row.component) l)) c.reserve.ensures.items)
    (at_ok c.insert.result (sym c.is_err-2.ensures.value ∙ c.if-is_err-2.false) c.insert.ensures.updates) c.requires c.self.invariant
