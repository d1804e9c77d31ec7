-- Calls on a keeper, one after another.
use Rattle.std.proofs.Common.{◌≡◌, ℕ, List, Some, Result, Ok, Err, IfOk, sym, ap, ◌∙◌, subst}
use Rattle.release_rows.specs.declared.change.Change.{Change}
use Rattle.release_rows.specs.declared.rows.RowsFault.{RowsFault}
use Rattle.release_rows.specs.declared.rows.RowsFault.TheVariants.{Failed}
use Rattle.release_rows.specs.Tables.{Tables}
use Rattle.release_rows.specs.View.{View, Reads, CountsFaults}
use Rattle.release_keeper.specs.Keeper.{Applies}
use Rattle.release_judging.proofs.Chain.{calm}
use Rattle.release_rules.specs.declared.decision.Decision.{Decision}
use Rattle.release_rules.specs.Machine.{answered}
use Rattle.http_requests.specs.Questions.{Question, Purpose, posts}
use Rattle.http_commands.specs.Commands.{command_in}
use Rattle.http_releases.specs.Responses.{Response, in_json, posted, unavailable, no_memory, AsksKeeper}
use Rattle.http_releases.specs.Replies.{with_tables, Acts, Responds, AnswersOver, RepliesOver, fails, wants}
use Rattle.http_releases.specs.declared.reply.Reply.{Reply}

-- a call that applied a change, or only read, acted
pub applied : {A B : Type 0} (change : Change) (f : RowsFault) (old new : View) → Applies {A = A} change (Err f) old new → Acts {A = B} (Err f) old new
applied change f old new x = record { kept = x.none; later = x.later; count = x.count }

pub read_acts : {A B : Type 0} (f : RowsFault) (old new : View) → Reads {A = A} (Err f) old new → Acts {A = B} (Err f) old new
read_acts f old new x = record { kept = x.tables; later = x.later; count = x.count }

-- a call after one that was answered and only read
pub acts_after : {A B : Type 0} (a : A) (r : Result B RowsFault) (old mid new : View) → Reads {A = A} (Ok a) old mid → Acts r mid new → Acts r old new
acts_after a r old mid new reads acts = subst (λ (v : View). Acts r v new) (calm a old mid reads) acts

pub response_after : {A : Type 0} (a : A) (reply : Reply) (old mid new : View) (response other : Tables → Response) → Reads {A = A} (Ok a) old mid
    → Responds mid new reply response → ((t : Tables) → old.tables ≡ Some t → response t ≡ other t) → Responds old new reply other
response_after a reply old mid new response other reads said same t told =
    let there : mid.tables ≡ Some t = ap (λ (v : View). v.tables) (calm a old mid reads) ∙ told in
    subst (λ (x : Response). (new.tables ≡ Some x.tables) × (with_tables reply x.tables ≡ x)) (same t told) (said t there)

pub responds_after : {A : Type 0} (a : A) (r : Result Reply RowsFault) (old mid new : View) (response other : Tables → Response) → Reads {A = A} (Ok a) old mid
    → IfOk r (λ (reply : Reply). Responds mid new reply response) → ((t : Tables) → old.tables ≡ Some t → response t ≡ other t) → IfOk r (λ (reply : Reply). Responds old new reply other)
responds_after a (Ok reply) old mid new response other reads said same = response_after a reply old mid new response other reads said same
responds_after a (Err f) old mid new response other reads said same = tt

-- a decision by what it is
pub decided_as : (d e : Decision) (reply : Reply) (old new : View) → d ≡ e → Responds old new reply (λ (t : Tables). in_json (answered e t)) → Responds old new reply (λ (t : Tables). in_json (answered d t))
decided_as d e reply old new is said = subst (λ (x : Decision). Responds old new reply (λ (t : Tables). in_json (answered x t))) (sym is) said

-- a question by what it is
pub question_as : (q p : Question) (body : List ℕ) (old new : View) (reply : Reply) → q ≡ p → AnswersOver p body old new reply → AnswersOver q body old new reply
question_as q p body old new reply is said = subst (λ (x : Question). AnswersOver x body old new reply) (sym is) said

post_answers : (purpose : Purpose) (key digest body : List ℕ) (old new : View) (reply : Reply) → Responds old new reply (λ (t : Tables). posted key digest (command_in purpose body) t)
    → AnswersOver (posts purpose key digest) body old new reply
post_answers purpose key digest body old new reply said t told =
    let p = said t told in
    ((posted key digest (command_in purpose body) t).tables, p.0, p.1)

pub post_over : (r : Result Reply RowsFault) (q : Question) (purpose : Purpose) (key digest body : List ℕ) (old new : View) → q ≡ posts purpose key digest
    → IfOk r (λ (reply : Reply). Responds old new reply (λ (t : Tables). posted key digest (command_in purpose body) t)) → IfOk r (AnswersOver q body old new)
post_over (Ok reply) q purpose key digest body old new is said =
    question_as q (posts purpose key digest) body old new reply is (post_answers purpose key digest body old new reply said)
post_over (Err f) q purpose key digest body old new is said = tt

abbrev pub failure : RowsFault → Result Reply RowsFault
failure f = Err f

-- where the keeper failed, and where there was no memory
pub failed_over : (q : Question) (body : List ℕ) (old new : View) (reply : Reply) (f : RowsFault) → f ≡ Failed → Acts {A = Reply} (Err f) old new
    → (failure f ≡ failure Failed → AsksKeeper q) → ((t : Tables) → with_tables reply t ≡ unavailable t) → RepliesOver q body old new reply
failed_over q body old new reply f is acts asks said t told =
    (t, acts.kept ∙ told, fails (asks (ap failure is)) (subst (λ (x : RowsFault). CountsFaults {A = Reply} (Err x) old.faults new.faults) is acts.count) (said t))

pub wanting_over : (q : Question) (body : List ℕ) (old new : View) (reply : Reply) (f : RowsFault) → Acts {A = Reply} (Err f) old new
    → ((t : Tables) → with_tables reply t ≡ no_memory t) → RepliesOver q body old new reply
wanting_over q body old new reply f acts said t told = (t, acts.kept ∙ told, wants (said t))
