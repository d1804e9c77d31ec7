use Rattle.std.proofs.Common.{ap, sym, ◌∙◌, ◌∷◌, [], ◌++◌, List, ℕ, arith}
use Rattle.std.specs.Prelude.{bytes_eq}
use Rattle.std.specs.List.{position}
use Rattle.release_keeper.proofs.Index.{knows_place}
use Rattle.release_keeper.proofs.Added.{named_added}
use Rattle.release_keeper.proofs.names.NamedRows.push.Goals as goal

pub invariant_of-self-3 : goal.invariant_of-self-3
invariant_of-self-3 g c =
    let named = c.in_ok-name.ensures ∙ c.name-2.ensures in
    let same = c.name.ensures ∙ sym named in
    let low = c.if-place.false in
    named_added (λ r. g.R.Named.name r) c.is_some-known.result c.self.inside.by_name c.note.new.places c.self.inside.rows.items c.push_reserved.new.self.items c.in_ok-name.name c.args.row c.len-place.result
    named (c.push_reserved.ensures.items ∙ ap (λ l. l ++ c.args.row ∷ []) c.reserve.ensures.items) (omega (arith, c.len-place.ensures, c.self.inside.rows.ok)) low
    (knows_place c.is_some-known.result (λ r. bytes_eq c.in_ok-name.name.items (g.R.Named.name r)) c.self.inside.rows.items c.place.result c.is_some-known.ensures
    (c.place.ensures ∙ (λ i. position (λ r. bytes_eq (same i) (g.R.Named.name r)) (c.reserve.ensures.items i))))
    c.in_ok-note.ensures.ok c.self.invariant
