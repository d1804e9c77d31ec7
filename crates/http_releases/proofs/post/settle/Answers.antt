use Rattle.std.proofs.Common.{◌≡◌, ℤ, List, subst}
use Rattle.release_rules.specs.declared.decision.Decision.TheVariants.{Repeated, KeyTaken, NoRow, Refused}
use Rattle.release_rules.specs.Machine.{refused}
use Rattle.http_releases.specs.Responses.{in_json}
use Rattle.http_releases.specs.Replies.{with_tables}
use Rattle.http_releases.proofs.Chains.{decided_as}
use Rattle.http_releases.proofs.post.settle.Goals as goal

pub returns-in-Repeated-clause-answer : goal.returns-in-Repeated-clause-answer
returns-in-Repeated-clause-answer g c =
    decided_as c.args.decision (Repeated c.in-Repeated.body) c.in_text.result (g.Q.Rows.view c.args.keeper.now) (g.Q.Rows.view c.args.keeper.now) c.in-Repeated.is (λ t told. (told, c.in_text.ensures t))

pub returns-in_ok-key_taken-in-KeyTaken-clause-answer : goal.returns-in_ok-key_taken-in-KeyTaken-clause-answer
returns-in_ok-key_taken-in-KeyTaken-clause-answer g c =
    decided_as c.args.decision (KeyTaken c.in-KeyTaken.digest) c.in_ok-key_taken-in-KeyTaken.field-0 (g.Q.Rows.view c.args.keeper.now) (g.Q.Rows.view c.args.keeper.now) c.in-KeyTaken.is
    (λ t told. (told, c.in_ok-key_taken-in-KeyTaken.ensures t))

pub returns-in_ok-missing-in-NoRow-clause-answer : goal.returns-in_ok-missing-in-NoRow-clause-answer
returns-in_ok-missing-in-NoRow-clause-answer g c =
    decided_as c.args.decision NoRow c.in_ok-missing-in-NoRow.field-0 (g.Q.Rows.view c.args.keeper.now) (g.Q.Rows.view c.args.keeper.now) c.in-NoRow.is (λ t told. (told, c.in_ok-missing-in-NoRow.ensures t))

pub returns-in_ok-refused-in-Refused-clause-answer : goal.returns-in_ok-refused-in-Refused-clause-answer
returns-in_ok-refused-in-Refused-clause-answer g c =
    decided_as c.args.decision (Refused c.in-Refused.number c.in-Refused.values) c.in_ok-refused-in-Refused.field-0 (g.Q.Rows.view c.args.keeper.now) (g.Q.Rows.view c.args.keeper.now) c.in-Refused.is
    (λ t told. (told, subst (λ (v : List ℤ). with_tables c.in_ok-refused-in-Refused.field-0 t ≡ in_json (refused c.in-Refused.number v t)) c.as_slice.ensures (c.in_ok-refused-in-Refused.ensures t)))
