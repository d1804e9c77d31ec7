use Rattle.std.proofs.Common.{sym, ◌∙◌}
use Rattle.serde_json.proofs.Views.{members_len-members_view}
use Rattle.serde_json.specs.View.{members_view}
use Rattle.http_bodies.proofs.Members.{not_one, only_one}
use Rattle.http_bodies.proofs.json.only_value.Goals as goal

pub returns-then-len-ne1 : goal.returns-then-len-ne1
returns-then-len-ne1 c =
    let es = c.in_ok-members.members.now.entries in
    not_one _ _ (members_view es) c.in_ok-members.ensures
    (λ one. c.if-len-ne1.true (c.len.ensures.len ∙ (sym (members_len-members_view es) ∙ one)))

pub returns : goal.returns
returns c =
    let es = c.in_ok-members.members.now.entries in
    c.get.ensures ∙ only_one _ _ (members_view es) c.in_ok-members.ensures
    (members_len-members_view es ∙ (sym c.len.ensures.len ∙ c.if-len-ne1.false))
