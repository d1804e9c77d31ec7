use Rattle.std.proofs.Common.{sym, ◌∙◌}
use Rattle.http_paths.proofs.Asks.{held_parts, path_text}
use Rattle.http_paths.proofs.paths.find.Goals as goal

pub returns-in_default : goal.returns-in_default
returns-in_default c = absurd (c.in_default.ensures.cases.0 (path_text c.args.path.now (sym c.is_ascii.ensures ∙ c.if-not-is_ascii.false)))

pub target_at-requires : goal.target_at-requires
target_at-requires c =
    let at = c.in-Ok-at.ensures in
    record {
      text = held_parts c.args.path.now c.in-Ok.text.now c.args.router.now c.in-Ok-at.found.params c.in-Ok-at.found.value.now
          (sym c.is_ascii.ensures ∙ c.if-not-is_ascii.false) c.requires.routes c.in-Ok.ensures.cases.0 at.path at.found;
    }
