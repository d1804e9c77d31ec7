-- Connections that were served, one after another.
use Rattle.std.proofs.Common.{◌≡◌, ◌≤◌, ◌<◌, ◌+◌, ◌-◌, ◌^◌, ◌++◌, ◌==◌, ℕ, List, [], ◌∷◌, length, Bool, true, false, min, Option, Some, None, refl, sym, ap, ◌∙◌, subst, arith, append_assoc, if◌then◌else◌}
use Rattle.std.proofs.lemmas.List.{append-nil, length-append}
use Rattle.std.proofs.lemmas.Bool.{eqb-true}
use Rattle.http_edges.specs.Edge.{SourceView, SinkView, Rose}
use Rattle.http_listeners.specs.Listener.{ConnView, ListenerView, TakesInput, TakesFirst, Takes, TakesNone, Finishes, ends, joined_by}
use Rattle.http_replies.specs.declared.status.Status.{Status}
use Rattle.http_replies.specs.declared.status.Status.TheVariants.{Success, Created, BadRequest, NotFound, MethodNotAllowed, Conflict, PayloadTooLarge, UnprocessableEntity, ServiceUnavailable, InsufficientStorage}
use Rattle.http_replies.specs.Statuses.{code_of}
use Rattle.http_releases.specs.Outcomes.{Outcome}
use Rattle.http_releases.specs.Laws.{UnavailableTells}
use Rattle.http_releases.specs.Responses.{Response}
use Rattle.http_releases.specs.declared.serve.Served.{Served}
use Rattle.http_releases.specs.declared.serve.Served.TheVariants.{Done, ReadFault, WriteFault, Truncated}
use Rattle.release_rows.specs.Tables.{Tables}
use Rattle.release_rows.specs.View.{View}
use Rattle.server_loop.specs.Served.{unwritten, IsServed, busy_of, AreServed, none, more}
use Rattle.server_loop.specs.Serving.{Serves, ServesFrom}

-- ---- some connections after others

pub joined : (a b : ℕ) (xs ys : List (List ℕ)) (cs ds : List ConnView) (u v w : View) → AreServed a xs cs u v → AreServed b ys ds v w
    → (n : ℕ) × AreServed n (xs ++ ys) (cs ++ ds) u w
joined a b xs ys cs ds u v w (none x) second = (b, second)
joined a b xs ys cs ds u v w (more served busy input inputs conn conns x y z is tail) second =
    let p = joined busy b inputs ys conns ds y z w tail second in
    (busy_of served + p.0, more served p.0 input (inputs ++ ys) conn (conns ++ ds) x y w is p.1)

pub stays_told : (busy : ℕ) (inputs : List (List ℕ)) (conns : List ConnView) (u v : View) (t : Tables) → AreServed busy inputs conns u v → u.tables ≡ Some t
    → (next : Tables) × (v.tables ≡ Some next)
stays_told busy inputs conns u v t (none x) told = (t, told)
stays_told busy inputs conns u v t (more served b i is c cs x y z head tail) told = stays_told b is cs y z head.next tail head.told_after

-- ---- the tables that an outcome leaves are told

pub told_after : (served : Served) (input : List ℕ) (t : Tables) (sink0 sink1 : SinkView) (k0 k1 : View) → k0.tables ≡ Some t → Outcome served input t sink0 sink1 k0 k1
    → (next : Tables) × (k1.tables ≡ Some next)
told_after (Done status) input t sink0 sink1 k0 k1 told outcome = (_, outcome.1.tables)
told_after WriteFault input t sink0 sink1 k0 k1 told outcome = (_, outcome.1.tables)
told_after ReadFault input t sink0 sink1 k0 k1 told outcome = (t, ap (λ (v : View). v.tables) outcome.keeper ∙ told)
told_after Truncated input t sink0 sink1 k0 k1 told outcome = (t, ap (λ (v : View). v.tables) outcome.0.keeper ∙ told)

-- a count that rose from 0 is above it
above : (before now : ℕ) → before ≡ 0 → Rose before now → 1 ≤ now
above before now zero rose = omega (arith, zero, rose)

-- ---- nothing was served

pub serves_none : (l : ListenerView) (k : View) → Serves 0 l l k k
serves_none l k inputs is finished done t told = record {
  busy = 0;
  taken = [];
  rest = inputs;
  conns = [];
  first = refl;
  to_come = is;
  last = done ∙ ap Some (sym (append-nil finished));
  many = refl;
  served = none k;
}

-- ---- one was served

fresh : (s : SinkView) → s.written ≡ Some [] → s.faults ≡ 0 → s ≡ unwritten
fresh s e f = ap (λ (w : Option (List ℕ)). record { written = w; faults = s.faults }) e ∙ ap (λ (n : ℕ). record { written = Some []; faults = n }) f

abbrev pub Results : Served → SourceView → SinkView → SinkView → View → View → Type 0
Results served source sink0 sink1 k0 k1 = (input : List ℕ) → source.left ≡ Some input → (t : Tables) → k0.tables ≡ Some t → Outcome served input t sink0 sink1 k0 k1

is_served : (served : Served) (input : List ℕ) (source0 source1 : SourceView) (sink0 sink1 : SinkView) (k0 k1 : View) (t : Tables) → source0.left ≡ Some input → sink0.written ≡ Some []
    → source0.faults ≡ 0 → sink0.faults ≡ 0 → k0.tables ≡ Some t → Results served source0 sink0 sink1 k0 k1 → (served ≡ ReadFault → Rose source0.faults source1.faults)
    → (served ≡ WriteFault → Rose sink0.faults sink1.faults) → k0.faults ≤ k1.faults → IsServed served input (ends source1 sink1) k0 k1
is_served served input source0 source1 sink0 sink1 k0 k1 t left written source_none sink_none told results read write later =
    let outcome = results input left t told in
    let after = told_after served input t sink0 sink1 k0 k1 told outcome in
    record {
      tables = t;
      next = after.0;
      told = told;
      told_after = after.1;
      outcome = subst (λ (s : SinkView). Outcome served input t s sink1 k0 k1) (fresh sink0 written sink_none) outcome;
      read_fault = λ e. above source0.faults source1.faults source_none (read e);
      write_fault = λ e. above sink0.faults sink1.faults sink_none (write e);
      later = later;
    }

pub serves_next : (served : Served) (source0 source1 : SourceView) (sink0 sink1 : SinkView) (l0 l1 l2 : ListenerView) (k0 k1 : View) → Takes (ends source0 sink0) l0 l1
    → Results served source0 sink0 sink1 k0 k1 → (served ≡ ReadFault → Rose source0.faults source1.faults) → (served ≡ WriteFault → Rose sink0.faults sink1.faults)
    → k0.faults ≤ k1.faults → Finishes (ends source1 sink1) l1 l2 → Serves 1 l0 l2 k0 k1
serves_next served source0 source1 sink0 sink1 l0 l1 l2 k0 k1 takes results read write later finishes inputs is finished done t told =
    let first : TakesFirst inputs l1.inputs (ends source0 sink0) = subst (λ (o : Option (List (List ℕ))). TakesInput o l1.inputs (ends source0 sink0)) is takes.inputs in
    let conn = ends source1 sink1 in
    record {
      busy = busy_of served + 0;
      taken = first.input ∷ [];
      rest = first.rest;
      conns = conn ∷ [];
      first = first.first;
      to_come = finishes.inputs ∙ first.to_come;
      last = finishes.finished ∙ ap (joined_by conn) (takes.finished ∙ done);
      many = refl;
      served = more served 0 first.input [] conn [] k0 k1 k1
          (is_served served first.input source0 source1 sink0 sink1 k0 k1 t first.left first.written takes.source_faults takes.sink_faults told results read write later) (none k1);
    }

-- ---- some were served after others

pub serves_more : (m n : ℕ) (l0 l1 l2 : ListenerView) (k0 k1 k2 : View) → Serves m l0 l1 k0 k1 → Serves n l1 l2 k1 k2 → Serves (m + n) l0 l2 k0 k2
serves_more m n l0 l1 l2 k0 k1 k2 before after inputs is finished done t told =
    let a = before inputs is finished done t told in
    let middle = stays_told a.busy a.taken a.conns k0 k1 t a.served told in
    let b = after a.rest a.to_come (finished ++ a.conns) a.last middle.0 middle.1 in
    let chain = joined a.busy b.busy a.taken b.taken a.conns b.conns k0 k1 k2 a.served b.served in
    record {
      busy = chain.0;
      taken = a.taken ++ b.taken;
      rest = b.rest;
      conns = a.conns ++ b.conns;
      first = a.first ∙ (ap (λ (xs : List (List ℕ)). a.taken ++ xs) b.first ∙ sym (append_assoc a.taken b.taken b.rest));
      to_come = b.to_come;
      last = b.last ∙ ap Some (append_assoc finished a.conns b.conns);
      many = length-append a.conns b.conns ∙ (ap (λ (k : ℕ). k + length b.conns) a.many ∙ ap (λ (k : ℕ). m + k) b.many);
      served = chain.1;
    }

-- a call that failed after some were served
pub serves_then_none : (n : ℕ) (l0 l1 l2 : ListenerView) (k0 k1 k2 : View) → Serves n l0 l1 k0 k1 → TakesNone l1 l2 → k2 ≡ k1 → Serves n l0 l2 k0 k2
serves_then_none n l0 l1 l2 k0 k1 k2 before none_taken same inputs is finished done t told =
    let a = before inputs is finished done t told in
    record {
      busy = a.busy;
      taken = a.taken;
      rest = a.rest;
      conns = a.conns;
      first = a.first;
      to_come = none_taken.inputs ∙ a.to_come;
      last = none_taken.finished ∙ a.last;
      many = a.many;
      served = subst (λ (v : View). AreServed a.busy a.taken a.conns k0 v) (sym same) a.served;
    }

-- ---- how many were answered that the keeper failed

unavailable : (s : Status) → 503 ≡ code_of s → s ≡ ServiceUnavailable
unavailable Success e = absurd (omega (arith, e))
unavailable Created e = absurd (omega (arith, e))
unavailable BadRequest e = absurd (omega (arith, e))
unavailable NotFound e = absurd (omega (arith, e))
unavailable MethodNotAllowed e = absurd (omega (arith, e))
unavailable Conflict e = absurd (omega (arith, e))
unavailable PayloadTooLarge e = absurd (omega (arith, e))
unavailable UnprocessableEntity e = absurd (omega (arith, e))
unavailable ServiceUnavailable e = refl
unavailable InsufficientStorage e = absurd (omega (arith, e))

-- one that was answered that the keeper failed
done_counted : UnavailableTells → (status : ℕ) (input : List ℕ) (conn : ConnView) (u v : View) → IsServed (Done status) input conn u v → v.faults < 2 ^ 64 - 1
    → (b : Bool) → (status == 503) ≡ b → u.faults + (if b then 1 else 0) ≤ v.faults
done_counted tells status input conn u v is low false e = let later = is.later in omega (arith, later)
done_counted tells status input conn u v is low true e =
    let r = is.outcome.0 in
    let code : 503 ≡ code_of r.status = sym (eqb-true status 503 e) ∙ is.outcome.2 in
    let rose : min (u.faults + 1) (2 ^ 64 - 1) ≤ v.faults = tells input is.tables u.faults v.faults r is.outcome.1.due (unavailable r.status code) in
    omega (arith, rose, low)

one_counted : UnavailableTells → (served : Served) (input : List ℕ) (conn : ConnView) (u v : View) → IsServed served input conn u v → v.faults < 2 ^ 64 - 1
    → u.faults + busy_of served ≤ v.faults
one_counted tells (Done status) input conn u v is low = done_counted tells status input conn u v is low (status == 503) refl
one_counted tells ReadFault input conn u v is low = let later = is.later in omega (arith, later)
one_counted tells WriteFault input conn u v is low = let later = is.later in omega (arith, later)
one_counted tells Truncated input conn u v is low = let later = is.later in omega (arith, later)

pub counted : UnavailableTells → (busy : ℕ) (inputs : List (List ℕ)) (conns : List ConnView) (k0 k1 : View) → AreServed busy inputs conns k0 k1 → k1.faults < 2 ^ 64 - 1
    → k0.faults + busy ≤ k1.faults
counted tells busy inputs conns k0 k1 (none v) low = omega arith
counted tells busy inputs conns k0 k1 (more served b input is conn cs u v w head tail) low =
    let rest : v.faults + b ≤ w.faults = counted tells b is cs v w tail low in
    let middle : v.faults < 2 ^ 64 - 1 = omega (arith, rest, low) in
    let one = one_counted tells served input conn u v head middle in
    omega (arith, one, rest)
