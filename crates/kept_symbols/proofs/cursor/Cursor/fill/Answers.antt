use Rattle.std.proofs.Common.{◌≡◌, ℕ, ◌+◌, length, take, rules, ◌∙◌, ap, sym, slice_range}
use Rattle.kept_symbols.proofs.CursorLemmas.{filled}
use Rattle.kept_symbols.proofs.cursor.Cursor.fill.Goals as goal

pub returns-clause-cursor : goal.returns-clause-cursor
returns-clause-cursor g c = λ whole s told comp own.
    let n : ℕ = c.min-size.result in
    let next : ℕ = c.args.self.now.next in
    let lent : length (take n c.args.self.now.window) ≡ n = search rules in
    let read = c.in_ok-exports_at.ensures.answer s told comp own ∙ ap (λ (m : ℕ). slice_range comp.exports next (next + m)) lent in
    let all = c.requires.of.count ∙ sym (c.exports_at.ensures.count s told comp own) in
    let size : length c.exports_at.new.into ≡ n = search rules in
    filled comp.exports c.exports_at.new.into _ next c.args.self.now.count n read size c.min-size.ensures all whole
