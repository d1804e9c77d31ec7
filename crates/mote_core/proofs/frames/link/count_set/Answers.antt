use Rattle.std.proofs.Common.{ℕ, Err, refl, subst}
use Rattle.std.proofs.lemmas.Bool.{ltb-false}
use Rattle.symbol_merge.specs.declared.fault.MergeFault.{MergeFault}
use Rattle.reloc_table.specs.declared.fault.BuildFault.{BuildFault}
use Rattle.symbol_merge.specs.Stored.{set_in}
use Rattle.symbol_merge.specs.Answers.{Counts}
use Rattle.reloc_table.specs.List.{relocs_of, CauseIs}
use Rattle.component_package.specs.link.Link.{relocations_cause}
use Rattle.mote_core.proofs.Limits.{many_symbols, many_relocs}
use Rattle.mote_core.proofs.frames.link.count_set.Goals as goal

pub returns-in-Err-Symbols-clause-counts : goal.returns-in-Err-Symbols-clause-counts
returns-in-Err-Symbols-clause-counts g c s told holds room =
    (many_symbols c.args.set.now s c.in-Err-Symbols.count room (subst (λ (e : MergeFault). Counts (set_in s c.args.set.now) (Err e)) c.in-Err-Symbols.field-0-is (c.in-Err-Symbols.ensures.answer s told holds)), refl)

pub returns-in-Ok-count_relocs-clause-counts : goal.returns-in-Ok-count_relocs-clause-counts
returns-in-Ok-count_relocs-clause-counts g c s told holds room =
    ((c.in-Ok.ensures.answer s told holds).0, c.in-Ok-count_relocs.ensures.cause s holds)

pub returns-in-Ok-count_relocs-clause-few : goal.returns-in-Ok-count_relocs-clause-few
returns-in-Ok-count_relocs-clause-few g c none = ltb-false 8192 (relocs_of c.args.set.now) c.in-Ok-count_relocs.ensures.count.1

pub returns-in-Err-Relocations-clause-counts : goal.returns-in-Err-Relocations-clause-counts
returns-in-Err-Relocations-clause-counts g c s told holds room = (
  many_relocs c.args.set.now s c.in-Err-Relocations.count room (c.in-Ok.ensures.answer s told holds).0
      (subst (λ (e : BuildFault). CauseIs {A = ℕ} (Err e) (relocations_cause (set_in s c.args.set.now))) c.in-Err-Relocations.field-0-is (c.in-Err-Relocations.ensures.cause s holds)),
  refl,
)
