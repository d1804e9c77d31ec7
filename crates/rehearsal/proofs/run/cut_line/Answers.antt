use Rattle.rehearsal.proofs.Told.{cut_new, cut_old}
use Rattle.rehearsal.proofs.run.cut_line.Goals as goal

pub returns-then-is_new : goal.returns-then-is_new
returns-then-is_new c number before next olds news = cut_new (λ v. v.items) number c.args.next c.args.news.now c.told.result news c.told.ensures

pub returns : goal.returns
returns c number before next olds news = cut_old (λ v. v.items) number before c.args.next c.args.olds.now c.told-2.result next olds c.told-2.ensures
