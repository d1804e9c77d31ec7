use Rattle.std.proofs.lemmas.Bool.{false≢true}
use Rattle.http_bodies.proofs.Reading.{json_good, json_bad}
use Rattle.http_bodies.proofs.json.read_json.Goals as goal

pub returns-in-Ok-clause-ok : goal.returns-in-Ok-clause-ok
returns-in-Ok-clause-ok c = json_good _ _ c.in-Ok.ensures.ok.0 c.in-Ok.ensures.ok.1

pub returns-else-is_memory-clause-bad : goal.returns-else-is_memory-clause-bad
returns-else-is_memory-clause-bad c = λ _. json_bad _ (c.in-Err.ensures.err (λ m. false≢true (c.if-is_memory.ensures.1 m)))
