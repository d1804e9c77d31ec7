use Rattle.http_releases.proofs.Dues.{one_due, none_due}
use Rattle.http_releases.proofs.law.replies_agree.Goals as goal

pub returns : goal.returns
returns c = record {
  one = one_due c.kinds_agree.ensures c.image_exists_once.ensures;
  none = none_due c.kinds_agree.ensures;
}
