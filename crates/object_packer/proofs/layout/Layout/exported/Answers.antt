use Rattle.std.proofs.Common.{◌≡◌, true, false, cond, [], ◌∷◌, ◌++◌, sym, ap, ◌∙◌}
use Rattle.object_packer.specs.Names.{is_exported, exported_before}
use Rattle.object_packer.proofs.First.{filter_more}
use Rattle.object_packer.proofs.Lists.{append_none}
use Rattle.object_packer.proofs.layout.Layout.exported.Goals as goal
use Rattle.object_packer.proofs.layout.Layout.exported.Goals.{then-is_exported+in_ok-push, else-is_exported}

pub loop-i-preserved : goal.loop-i-preserved
loop-i-preserved c =
    let o = c.args.self.now in
    let i = c.loop-i.i in
    elim c.if-is_exported.branch [
      | then-is_exported+in_ok-push w ↦
          let is : is_exported o i ≡ true = sym c.is_exported.ensures ∙ w.if-is_exported.true in
          ap (λ v. v.items) w.out-is ∙ w.in_ok-push.ensures.items ∙ ap (λ xs. xs ++ i ∷ []) c.loop-i.invariant
          ∙ sym (filter_more (is_exported o) i ∙ ap (λ b. exported_before o i ++ cond b (i ∷ []) []) is)
      | else-is_exported w ↦
          let is : is_exported o i ≡ false = sym c.is_exported.ensures ∙ w.if-is_exported.false in
          ap (λ v. v.items) w.out-is ∙ c.loop-i.invariant ∙ sym (filter_more (is_exported o) i ∙ ap (λ b. exported_before o i ++ cond b (i ∷ []) []) is ∙ append_none _)
    ]
