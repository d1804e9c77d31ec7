use Rattle.std.proofs.Common.{arith, ap, refl, ◌∙◌, sym, Some, List, ℕ, [], ◌+◌, take, drop}
use Rattle.std.proofs.lemmas.List.{append-nil, take_rest}
use Rattle.flash_pages.specs.State.{State, with_sent}
use Rattle.kept_core.proofs.Streams.{sent_more, still_owed, all_sent}
use Rattle.flash_pages.proofs.Runs.{line_starts, sends_then}
use Rattle.kept_core.proofs.sending.send_all.Goals as goal

pub loop-at-init : goal.loop-at-init
loop-at-init g c = record {
  within = omega arith;
  state = λ s told. told ∙ ap (λ (bytes : List ℕ). Some (record s { sent = bytes })) (sym (append-nil s.sent));
  left = refl;
  line = line_starts _ _;
  fault = refl;
}

pub loop-at-preserved : goal.loop-at-preserved
loop-at-preserved g c = record {
  within = omega (arith, c.in-Ok.ensures.ok.within);
  state = λ s told. c.in-Ok.ensures.ok.state (with_sent s (take c.loop-at.at c.args.from.now)) (c.loop-at.invariant.state s told)
      ∙ ap (λ (bytes : List ℕ). Some (record s { sent = bytes })) (sent_more s.sent _ _ c.args.from.now c.loop-at.at c.in-Ok.count c.in-Ok.count refl refl refl);
  left = c.in-Ok.ensures.left ∙ c.loop-at.invariant.left;
  line = sends_then c.args.from.now _ c.loop-at.at _ _ _ (take_rest c.args.from.now c.loop-at.at) c.loop-at.invariant.line c.loop-at.invariant.state c.in-Ok.ensures.line;
  fault = c.in-Ok.ensures.faults ∙ c.loop-at.invariant.fault;
}

pub returns-in_default-clause-sent : goal.returns-in_default-clause-sent
returns-in_default-clause-sent g c s told =
    let part = c.in_default.ensures.part (with_sent s (take c.loop-at.at c.args.from.now)) (c.loop-at.invariant.state s told) in
    let k = c.loop-at.at + part.2.count in (
      drop k c.args.from.now,
      part.0,
      part.1,
      record {
        prog = ap (λ (y : State). y.prog) part.2.is;
        ext = ap (λ (y : State). y.ext) part.2.is;
        sent = still_owed s.sent part.0.sent c.args.from.now k (sent_more s.sent _ part.0.sent c.args.from.now c.loop-at.at part.2.count part.2.count refl refl (ap (λ (y : State). y.sent) part.2.is));
      },
      tt,
    )

pub returns-in_default-clause-line : goal.returns-in_default-clause-line
returns-in_default-clause-line g c = sends_then c.args.from.now _ c.loop-at.at _ _ _ (take_rest c.args.from.now c.loop-at.at) c.loop-at.invariant.line c.loop-at.invariant.state c.in_default.ensures.line

pub returns-clause-sent : goal.returns-clause-sent
returns-clause-sent g c s told = (
  [],
  with_sent s (take c.loop-at.at c.args.from.now),
  c.loop-at.invariant.state s told,
  record { prog = refl; ext = refl; sent = all_sent s.sent c.args.from.now c.loop-at.at (omega arith) },
  refl,
)
