use Rattle.std.proofs.Common.{◌≡◌, ℕ, ◌+◌, ◌*◌, Some, refl, ◌∙◌, ap, subst, sym as flip, arith}
use Rattle.flash_pages.specs.State.{State}
use Rattle.flash_pages.proofs.Runs.{uses_uses}
use Rattle.component_package.specs.packages.Reading.{list_of}
use Rattle.kept_manifests.specs.Slots.{place_of, stored_of}
use Rattle.kept_journal.specs.Steps.{Step}
use Rattle.kept_journal.proofs.Takes.{takes_none, takes_more}
use Rattle.kept_boot.specs.Boots.{with_runs, fresh_tables, Installs}
use Rattle.kept_boot.specs.Bringing.{Brings}
use Rattle.kept_boot.proofs.Bringing.{runs_more, brings_none, brings_more, takes_next}
use Rattle.kept_boot.proofs.keep_runs.Goals as goal

pub loop-k-init : goal.loop-k-init
loop-k-init g c = record {
  state = λ s told. told;
  brings = λ s told t stands installs. brings_none c.args.m.now t s stands;
  each = λ s told. takes_none (Installs (stored_of c.args.m.now)) (fresh_tables (stored_of c.args.m.now).placed) (g.B.Board.view c.args.board.now) s told;
  uses = record { untold = λ none. none; left = refl; line = refl; flash = omega arith };
  fault = refl;
}

pub returns-in_err-keep_run-clause-each : goal.returns-in_err-keep_run-clause-each
returns-in_err-keep_run-clause-each g c = λ s told.
    takes_more (Step (Installs (stored_of c.args.m.now)) (fresh_tables (stored_of c.args.m.now).placed) s) (fresh_tables (stored_of c.args.m.now).placed) (39 * (c.loop-k.k + 1)) 624 _ _
    (omega (arith, c.loop-k-test.true, c.requires.count))
    (takes_next c.args.m.now c.loop-k.k _ _ _ s (with_runs (list_of (place_of c.args.m.now) c.loop-k.k) s) c.loop-k-test.true (c.loop-k.invariant.each s told) (c.loop-k.invariant.state s told)
    (λ t stands installs. (c.loop-k.invariant.brings s told t stands installs).stands) (c.keep_run.ensures.each _ (c.loop-k.invariant.state s told)))

pub returns-in_err-keep_run-clause-uses : goal.returns-in_err-keep_run-clause-uses
returns-in_err-keep_run-clause-uses g c = uses_uses _ _ _ c.loop-k.invariant.uses c.keep_run.ensures.uses

pub loop-k-preserved : goal.loop-k-preserved
loop-k-preserved g c = record {
  state = λ s told. c.in_ok-keep_run.ensures.ok _ (c.loop-k.invariant.state s told) ∙ ap Some (flip (runs_more c.args.m.now c.loop-k.k s));
  brings = λ s told t stands installs.
      let before = c.loop-k.invariant.brings s told t stands installs in
      subst (λ (x : State). Brings c.args.m.now (c.loop-k.k + 1) t s x) (flip (runs_more c.args.m.now c.loop-k.k s))
      (brings_more c.args.m.now c.loop-k.k t s _ _ c.requires c.loop-k-test.true before (c.in_ok-keep_run.ensures.kept _ (c.loop-k.invariant.state s told) t before.stands installs));
  each = λ s told.
      takes_next c.args.m.now c.loop-k.k _ _ _ s (with_runs (list_of (place_of c.args.m.now) c.loop-k.k) s) c.loop-k-test.true (c.loop-k.invariant.each s told) (c.loop-k.invariant.state s told)
      (λ t stands installs. (c.loop-k.invariant.brings s told t stands installs).stands) (c.keep_run.ensures.each _ (c.loop-k.invariant.state s told));
  uses = uses_uses _ _ _ c.loop-k.invariant.uses c.keep_run.ensures.uses;
  fault = c.in_ok-keep_run.ensures.faults ∙ c.loop-k.invariant.fault;
}

pub returns-clause-each : goal.returns-clause-each
returns-clause-each g c = λ s told.
    takes_more (Step (Installs (stored_of c.args.m.now)) (fresh_tables (stored_of c.args.m.now).placed) s) (fresh_tables (stored_of c.args.m.now).placed) (39 * c.loop-k.k) 624 _ _
    (omega (arith, c.requires.count)) (c.loop-k.invariant.each s told)

pub returns-clause-ok : goal.returns-clause-ok
returns-clause-ok g c = λ s told.
    let all : c.loop-k.k ≡ c.args.m.now.manifest.count = omega arith in
    c.loop-k.invariant.state s told ∙ ap (λ (n : ℕ). Some (with_runs (list_of (place_of c.args.m.now) n) s)) all

pub returns-clause-kept : goal.returns-clause-kept
returns-clause-kept g c = λ s told t stands installs.
    let all : c.loop-k.k ≡ c.args.m.now.manifest.count = omega arith in
    subst (λ (n : ℕ). Brings c.args.m.now n t s (with_runs (list_of (place_of c.args.m.now) n) s)) all (c.loop-k.invariant.brings s told t stands installs)
