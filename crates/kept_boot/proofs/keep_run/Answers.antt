use Rattle.std.proofs.Common.{◌∙◌, ap, subst, sym as flip, Some}
use Rattle.flash_pages.specs.State.{State}
use Rattle.kept_manifests.specs.Slots.{place_of}
use Rattle.kept_boot.specs.Bringing.{KeepsOne}
use Rattle.kept_boot.proofs.Bringing.{fresh_takes, fresh_keeps, held_takes, held_keeps, run_fresh, run_held}
use Rattle.kept_boot.proofs.keep_run.Goals as goal

pub returns-in_err-keep_tables-clause-each : goal.returns-in_err-keep_tables-clause-each
returns-in_err-keep_tables-clause-each g c = λ s told.
    fresh_takes c.args.m.now c.args.k _ _ s c.requires.manifest c.requires.entry c.if-m-k.true told (c.keep_tables.ensures.each s told) c.keep_tables.ensures.wear

pub returns-in_ok-keep_tables-clause-ok : goal.returns-in_ok-keep_tables-clause-ok
returns-in_ok-keep_tables-clause-ok g c = λ s told. c.in_ok-keep_tables.ensures.ok s told ∙ ap Some (flip (run_fresh c.args.m.now c.args.k s c.if-m-k.true))

pub returns-in_ok-keep_tables-clause-kept : goal.returns-in_ok-keep_tables-clause-kept
returns-in_ok-keep_tables-clause-kept g c = λ s told t stands installs.
    subst (λ (x : State). KeepsOne (place_of c.args.m.now c.args.k) t s x) (flip (run_fresh c.args.m.now c.args.k s c.if-m-k.true))
    (fresh_keeps c.args.m.now c.args.k _ s t c.requires.manifest c.requires.entry c.if-m-k.true (c.in_ok-keep_tables.ensures.ok s told) (c.in_ok-keep_tables.ensures.kept s told) stands installs)

pub returns-in_ok-keep_tables-clause-each : goal.returns-in_ok-keep_tables-clause-each
returns-in_ok-keep_tables-clause-each g c = λ s told.
    fresh_takes c.args.m.now c.args.k _ _ s c.requires.manifest c.requires.entry c.if-m-k.true told (c.keep_tables.ensures.each s told) c.keep_tables.ensures.wear

pub returns-else-m-k-clause-ok : goal.returns-else-m-k-clause-ok
returns-else-m-k-clause-ok g c = λ s told. told ∙ ap Some (flip (run_held c.args.m.now c.args.k s c.if-m-k.false))

pub returns-else-m-k-clause-kept : goal.returns-else-m-k-clause-kept
returns-else-m-k-clause-kept g c = λ s told t stands installs.
    subst (λ (x : State). KeepsOne (place_of c.args.m.now c.args.k) t s x) (flip (run_held c.args.m.now c.args.k s c.if-m-k.false))
    (held_keeps (place_of c.args.m.now c.args.k) s t c.if-m-k.false stands)

pub returns-else-m-k-clause-each : goal.returns-else-m-k-clause-each
returns-else-m-k-clause-each g c = λ s told. held_takes c.args.m.now (place_of c.args.m.now c.args.k) _ s told
