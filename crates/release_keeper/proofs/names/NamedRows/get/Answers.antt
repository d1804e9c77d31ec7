use Rattle.std.proofs.Common.{ap, ◌∙◌}
use Rattle.std.specs.Prelude.{bytes_eq}
use Rattle.std.specs.Option.{option_copied}
use Rattle.release_keeper.proofs.Index.{row_none, row_at}
use Rattle.release_keeper.proofs.names.NamedRows.get.Goals as goal

pub returns-in_err-place : goal.returns-in_err-place
returns-in_err-place g c =
    ap option_copied c.from_residual.ensures ∙ row_none (λ r. bytes_eq c.args.name.now (g.R.Named.name r)) c.args.self.now c.in_err-place.ensures

pub returns : goal.returns
returns g c =
    row_at (λ r. bytes_eq c.args.name.now (g.R.Named.name r)) c.args.self.now c.in_ok-place.place c.index.result.now c.in_ok-place.ensures (rw (← c.self.view_is) c.index.ensures)
