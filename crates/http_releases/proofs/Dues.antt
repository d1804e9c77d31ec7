-- The replies that are due.
use Rattle.std.proofs.Common.{◌≡◌, ◌⊎◌, ℕ, List, Some, inl, inr, sym, ap, ◌∙◌, subst}
use Rattle.std.specs.Prelude.{Option, None, map, ⊤}
use Rattle.httparse.specs.Grammar.{EndsInTarget}
use Rattle.component_package.specs.packages.Component.{Component}
use Rattle.component_package.specs.packages.Reading.{component_of}
use Rattle.component_package.specs.link.Link.{Cause, link_cause}
use Rattle.link_laws.specs.Laws.{ImageExistsOnce}
use Rattle.http_edges.specs.Edge.{SinkView}
use Rattle.http_requests.specs.Requests.{Request, IsRequest, IsCut, Kind, no_head, bad_head, too_large, cut, request, IsOfKind}
use Rattle.http_requests.specs.Laws.{Agree, KindsAgree}
use Rattle.http_requests.specs.Questions.{Question, not_found, wrong_method, malformed, posts, gets_update, gets_mote, gets_image, question_of}
use Rattle.release_rows.specs.Tables.{Tables}
use Rattle.release_rows.specs.View.{View, Rose}
use Rattle.release_judging.specs.Images.{packages_of_release}
use Rattle.http_replies.specs.declared.status.Status.TheVariants.{Success}
use Rattle.release_rules.specs.Machine.{Answer, IsImageOf, IsReleaseImage}
use Rattle.http_releases.specs.Responses.{Response, bad_request, large_body, no_memory, in_bytes, Answers}
use Rattle.http_releases.specs.Due.{IsDue, of_no_head, of_bad_head, of_large, of_request, of_failure, of_no_memory}
use Rattle.http_releases.specs.Outcomes.{IsReply, Outcome}
use Rattle.http_releases.specs.Replies.{with_tables, IsAnswered, answers, fails, wants, RepliesOver, Writes}
use Rattle.http_releases.specs.Laws.{IsExcuse}
use Rattle.http_releases.specs.declared.reply.Reply.{Reply}
use Rattle.http_releases.specs.declared.serve.Served.{Served}
use Rattle.http_releases.specs.declared.serve.Served.TheVariants.{Done, ReadFault, WriteFault, Truncated}

-- ---- replies to what was taken

-- what answers a whole request is due
due_of : (input : List ℕ) (q : Request) (t : Tables) (failed : Type 0) (r : Response) → IsRequest input q → IsAnswered (question_of q) q.body t failed r → IsDue input t failed r
due_of input q t failed r is (answers a) = of_request q is a
due_of input q t failed r is (fails asks rose e) = of_failure q is asks rose e
due_of input q t failed r is (wants e) = of_no_memory e

pub whole_prepared : (input : List ℕ) (q : Request) (t : Tables) (old new : View) (reply : Reply) → IsRequest input q → RepliesOver (question_of q) q.body old new reply → old.tables ≡ Some t
    → (next : Tables) × IsReply input t old new (with_tables reply next)
whole_prepared input q t old new reply is replies told =
    let p = replies t told in
    (p.0, record { due = due_of input q t (Rose old.faults new.faults) (with_tables reply p.0) is p.2; tables = p.1 })

-- a reply that was written, or a first part of it
pub written : (served : Served) (reply : Reply) (input : List ℕ) (t : Tables) (sink0 sink1 : SinkView) (keeper0 keeper1 : View) → Writes served reply sink0 sink1
    → (next : Tables) × IsReply input t keeper0 keeper1 (with_tables reply next) → Outcome served input t sink0 sink1 keeper0 keeper1
written (Done status) reply input t sink0 sink1 keeper0 keeper1 writes (next, is) = (with_tables reply next, is, writes.0, writes.1)
written WriteFault reply input t sink0 sink1 keeper0 keeper1 writes (next, is) = (with_tables reply next, is, writes)
written ReadFault reply input t sink0 sink1 keeper0 keeper1 writes next = absurd writes
written Truncated reply input t sink0 sink1 keeper0 keeper1 writes next = absurd writes

-- ---- one reply is due

-- the reply that is due to an input of this kind
abbrev IsDueOf : Kind → Tables → Response → Type 0
IsDueOf no_head t r = r ≡ bad_request t
IsDueOf bad_head t r = r ≡ bad_request t
IsDueOf too_large t r = r ≡ large_body t
IsDueOf cut t r = ⊥
IsDueOf (request q) t r = Answers (question_of q) q.body t r

image_once : ImageExistsOnce → (o : Option Cause) (set : List Component) (t : Tables) (a b : Answer) → IsImageOf o set t a → IsImageOf o set t b → a ≡ b
image_once laws (Some cause) set t a b x y = x ∙ sym y
image_once laws None set t a b (i, is, x) (j, js, y) =
    x ∙ (ap (λ (bytes : List ℕ). record { status = Success; body = bytes; tables = t }) (laws.one set i j is js) ∙ sym y)

release_once : ImageExistsOnce → (set : Option (List (List ℕ))) (t : Tables) (a b : Answer) → IsReleaseImage set t a → IsReleaseImage set t b → a ≡ b
release_once laws None t a b x y = x ∙ sym y
release_once laws (Some packages) t a b x y = image_once laws (link_cause (map component_of packages)) (map component_of packages) t a b x y

answer_once : ImageExistsOnce → (q : Question) (body : List ℕ) (t : Tables) (r s : Response) → Answers q body t r → Answers q body t s → r ≡ s
answer_once laws not_found body t r s x y = x ∙ sym y
answer_once laws wrong_method body t r s x y = x ∙ sym y
answer_once laws malformed body t r s x y = x ∙ sym y
answer_once laws (posts purpose key digest) body t r s x y = x ∙ sym y
answer_once laws (gets_update mote have) body t r s x y = x ∙ sym y
answer_once laws (gets_mote mote) body t r s x y = x ∙ sym y
answer_once laws (gets_image mote number) body t r s (a, is, x) (b, js, y) =
    x ∙ (ap in_bytes (release_once laws (packages_of_release t mote number) t a b is js) ∙ sym y)

due_once : ImageExistsOnce → (k : Kind) (t : Tables) (r s : Response) → IsDueOf k t r → IsDueOf k t s → r ≡ s
due_once laws no_head t r s x y = x ∙ sym y
due_once laws bad_head t r s x y = x ∙ sym y
due_once laws too_large t r s x y = x ∙ sym y
due_once laws cut t r s x y = absurd x
due_once laws (request q) t r s x y = answer_once laws (question_of q) q.body t r s x y

same_kind : (input : List ℕ) (k l : Kind) (t : Tables) (r s : Response) → IsDueOf k t r → IsDueOf l t s → Agree input k l → k ≡ l
same_kind input cut l t r s x y agree = absurd x
same_kind input no_head no_head t r s x y agree = agree
same_kind input no_head bad_head t r s x y agree = agree
same_kind input no_head too_large t r s x y agree = agree
same_kind input no_head cut t r s x y agree = absurd y
same_kind input no_head (request q) t r s x y agree = agree
same_kind input bad_head no_head t r s x y agree = agree
same_kind input bad_head bad_head t r s x y agree = agree
same_kind input bad_head too_large t r s x y agree = agree
same_kind input bad_head cut t r s x y agree = absurd y
same_kind input bad_head (request q) t r s x y agree = agree
same_kind input too_large no_head t r s x y agree = agree
same_kind input too_large bad_head t r s x y agree = agree
same_kind input too_large too_large t r s x y agree = agree
same_kind input too_large cut t r s x y agree = absurd y
same_kind input too_large (request q) t r s x y agree = agree
same_kind input (request p) no_head t r s x y agree = agree
same_kind input (request p) bad_head t r s x y agree = agree
same_kind input (request p) too_large t r s x y agree = agree
same_kind input (request p) cut t r s x y agree = absurd y
same_kind input (request p) (request q) t r s x y agree = agree

-- a reply is due by the input's kind, or is an excuse
abbrev Grounds : List ℕ → Tables → Response → Type 0
Grounds input t r = ((k : Kind) × IsOfKind input k × IsDueOf k t r) ⊎ IsExcuse t r

grounds : (input : List ℕ) (t : Tables) (r : Response) → IsDue input t ⊤ r → Grounds input t r
grounds input t r (of_no_head is e) = inl (no_head, is, e)
grounds input t r (of_bad_head is e) = inl (bad_head, is, e)
grounds input t r (of_large is e) = inl (too_large, is, e)
grounds input t r (of_request q is a) = inl (request q, is, a)
grounds input t r (of_failure q is asks failed e) = inr (inl e)
grounds input t r (of_no_memory e) = inr (inr e)

compared : KindsAgree → ImageExistsOnce → (input : List ℕ) (t : Tables) (r s : Response) → Grounds input t r → Grounds input t s → (r ≡ s) ⊎ (IsExcuse t r ⊎ IsExcuse t s)
compared agree laws input t r s (inl (k, is, x)) (inl (l, js, y)) =
    let same : k ≡ l = same_kind input k l t r s x y (agree input k l is js) in
    inl (due_once laws k t r s x (subst (λ (m : Kind). IsDueOf m t s) (sym same) y))
compared agree laws input t r s (inl x) (inr y) = inr (inr y)
compared agree laws input t r s (inr x) y = inr (inl x)

pub one_due : KindsAgree → ImageExistsOnce → (input : List ℕ) (t : Tables) (r s : Response) → IsDue input t ⊤ r → IsDue input t ⊤ s → (r ≡ s) ⊎ (IsExcuse t r ⊎ IsExcuse t s)
one_due agree laws input t r s x y = compared agree laws input t r s (grounds input t r x) (grounds input t s y)

abbrev IsOther : Kind → Type 0
IsOther cut = ⊥
IsOther no_head = ⊤
IsOther bad_head = ⊤
IsOther too_large = ⊤
IsOther (request q) = ⊤

cut_or : (k : Kind) → cut ≡ k → (P : Type 0) → IsOther k → P
cut_or no_head e P other = absurd cc
cut_or bad_head e P other = absurd cc
cut_or too_large e P other = absurd cc
cut_or cut e P other = absurd other
cut_or (request q) e P other = absurd cc

pub none_due : KindsAgree → (input : List ℕ) (t : Tables) (r : Response) → IsCut input → IsDue input t ⊤ r → EndsInTarget input ⊎ (r ≡ no_memory t)
none_due agree input t r is (of_no_head x e) = inl (agree input cut no_head is x)
none_due agree input t r is (of_bad_head x e) = cut_or bad_head (agree input cut bad_head is x) (EndsInTarget input ⊎ (r ≡ no_memory t)) tt
none_due agree input t r is (of_large x e) = cut_or too_large (agree input cut too_large is x) (EndsInTarget input ⊎ (r ≡ no_memory t)) tt
none_due agree input t r is (of_request q x a) = cut_or (request q) (agree input cut (request q) is x) (EndsInTarget input ⊎ (r ≡ no_memory t)) tt
none_due agree input t r is (of_failure q x asks failed e) = cut_or (request q) (agree input cut (request q) is x) (EndsInTarget input ⊎ (r ≡ no_memory t)) tt
none_due agree input t r is (of_no_memory e) = inr e
