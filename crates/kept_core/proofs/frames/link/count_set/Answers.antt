use Rattle.std.proofs.Common.{ℕ, Err, refl, subst}
use Rattle.std.proofs.lemmas.Bool.{ltb-false}
use Rattle.kept_symbols.specs.declared.fault.MergeFault.{MergeFault}
use Rattle.kept_relocs.specs.declared.fault.BuildFault.{BuildFault}
use Rattle.kept_symbols.specs.Answers.{Counts}
use Rattle.kept_relocs.specs.List.{relocs_of, CauseIs}
use Rattle.component_package.specs.link.Link.{relocations_cause}
use Rattle.kept_core.proofs.Limits.{many_symbols, many_relocs}
use Rattle.kept_core.proofs.frames.link.count_set.Goals as goal

pub returns-in-Err-Symbols-clause-counts : goal.returns-in-Err-Symbols-clause-counts
returns-in-Err-Symbols-clause-counts g c s told set holds room =
    (many_symbols set c.in-Err-Symbols.count room (subst (λ (e : MergeFault). Counts set (Err e)) c.in-Err-Symbols.field-0-is (c.in-Err-Symbols.ensures.answer s told set holds)), refl)

pub returns-in-Ok-count_relocs-clause-counts : goal.returns-in-Ok-count_relocs-clause-counts
returns-in-Ok-count_relocs-clause-counts g c s told set holds room =
    ((c.in-Ok.ensures.answer s told set holds).0, c.in-Ok-count_relocs.ensures.cause s set holds)

pub returns-in-Ok-count_relocs-clause-few : goal.returns-in-Ok-count_relocs-clause-few
returns-in-Ok-count_relocs-clause-few g c none = ltb-false 8192 (relocs_of c.args.set.now) c.in-Ok-count_relocs.ensures.count.1

pub returns-in-Err-Relocations-clause-counts : goal.returns-in-Err-Relocations-clause-counts
returns-in-Err-Relocations-clause-counts g c s told set holds room = (
  many_relocs set c.in-Err-Relocations.count room (c.in-Ok.ensures.answer s told set holds).0
      (subst (λ (e : BuildFault). CauseIs {A = ℕ} (Err e) (relocations_cause set)) c.in-Err-Relocations.field-0-is (c.in-Err-Relocations.ensures.cause s set holds)),
  refl,
)
