use Rattle.std.proofs.Common.{arith, ◌≡◌, ◌∙◌, ap, sym, ◌+◌, ◌∷◌, ℕ, suc, drop}
use Rattle.std.proofs.Math.Seq.{drop-cons}
use Rattle.update_laws.specs.Update.{Delivered}
use Rattle.drawn_releases.proofs.Pushed.{news_on}
use Rattle.drawn_releases.proofs.frames.push_all.Goals as goal

pub loop-delivered-preserved : goal.loop-delivered-preserved
loop-delivered-preserved c = let more : suc c.loop-delivered.delivered-index ≡ c.loop-delivered.delivered-index + 1 = omega arith in record {
  counted = ap (λ n. n + 1) c.loop-delivered.invariant.counted;
  bytes = news_on c.args.olds.now c.loop-delivered.k c.delivered-item.result (drop (c.loop-delivered.delivered-index + 1) c.args.news.now) (drop c.loop-delivered.delivered-index c.args.news.now) c.loop-delivered.into.items _ _
      (drop-cons c.args.news.now c.loop-delivered.delivered-index c.delivered-item.result c.loop-delivered-test.true
      ∙ ap (λ (x : Delivered). x ∷ drop (suc c.loop-delivered.delivered-index) c.args.news.now) (sym c.delivered-item.is)
      ∙ ap (λ (n : ℕ). c.delivered-item.result ∷ drop n c.args.news.now) more) c.in_ok-push_new.ensures c.loop-delivered.invariant.bytes;
}
