use Rattle.serde_json.specs.View.{view}
use Rattle.http_bodies.proofs.Allowed.{parts_allowed}
use Rattle.http_bodies.proofs.parts.read_parts.Goals as goal

pub returns-clause-allowed : goal.returns-clause-allowed
returns-clause-allowed c = parts_allowed (view c.in_ok-value.value) c.parts_of.result c.parts_of.ensures
