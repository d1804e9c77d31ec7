-- Which replies say that the keeper failed.
use Rattle.std.proofs.Common.{◌≡◌, ℕ, List, Bool, true, false, Option, Some, None, refl, sym, ap, ◌∙◌}
use Rattle.std.specs.Prelude.{map}
use Rattle.std.proofs.lemmas.Bool.{false≢true}
use Rattle.component_package.specs.packages.Component.{Component}
use Rattle.component_package.specs.packages.Reading.{component_of}
use Rattle.component_package.specs.link.Link.{Cause, link_cause}
use Rattle.http_replies.specs.declared.status.Status.{Status}
use Rattle.http_replies.specs.declared.status.Status.TheVariants.{Success, Created, BadRequest, NotFound, MethodNotAllowed, Conflict, PayloadTooLarge, UnprocessableEntity, ServiceUnavailable, InsufficientStorage}
use Rattle.http_requests.specs.Questions.{Question, not_found, wrong_method, malformed, posts, gets_update, gets_mote, gets_image, question_of}
use Rattle.http_commands.specs.Commands.{command_in}
use Rattle.release_rows.specs.declared.row.KeyRow.{KeyRow}
use Rattle.release_rows.specs.declared.command.Command.{Command}
use Rattle.release_rows.specs.Tables.{Tables, key_row}
use Rattle.release_rows.specs.View.{Rose}
use Rattle.release_judging.specs.Images.{packages_of_release}
use Rattle.release_updates.specs.Updates.{update_bytes}
use Rattle.release_rules.specs.declared.decision.Decision.{Decision}
use Rattle.release_rules.specs.declared.decision.Decision.TheVariants.{Accepted, Repeated, KeyTaken, NoRow, Refused}
use Rattle.release_rules.specs.Deciding.{by_key, decided}
use Rattle.release_rules.specs.Motes.{mote_text}
use Rattle.release_rules.specs.Machine.{Answer, answered, found, IsImageOf, IsReleaseImage}
use Rattle.http_releases.specs.Responses.{Response, posted, unread, Answers}
use Rattle.http_releases.specs.Due.{IsDue, of_no_head, of_bad_head, of_large, of_request, of_failure, of_no_memory}

abbrev pub is_unavailable : Status → Bool
is_unavailable Success = false
is_unavailable Created = false
is_unavailable BadRequest = false
is_unavailable NotFound = false
is_unavailable MethodNotAllowed = false
is_unavailable Conflict = false
is_unavailable PayloadTooLarge = false
is_unavailable UnprocessableEntity = false
is_unavailable ServiceUnavailable = true
is_unavailable InsufficientStorage = false

-- ---- no answer of the release machine says it

of_decision : (d : Decision) (t : Tables) → is_unavailable (answered d t).status ≡ false
of_decision (Accepted change) t = refl
of_decision (Repeated body) t = refl
of_decision (KeyTaken digest) t = refl
of_decision NoRow t = refl
of_decision (Refused number values) t = refl

of_unread : (row : Option KeyRow) (digest : List ℕ) (t : Tables) → is_unavailable (unread row digest t).status ≡ false
of_unread None digest t = refl
of_unread (Some row) digest t = of_decision (by_key (Some row) digest NoRow) t

of_post : (key digest : List ℕ) (command : Option Command) (t : Tables) → is_unavailable (posted key digest command t).status ≡ false
of_post key digest None t = of_unread (key_row t key) digest t
of_post key digest (Some command) t = of_decision (decided t key digest command) t

of_found : (o : Option (List ℕ)) (t : Tables) → is_unavailable (found o t).status ≡ false
of_found None t = refl
of_found (Some body) t = refl

of_image : (o : Option Cause) (set : List Component) (t : Tables) (a : Answer) → IsImageOf o set t a → is_unavailable a.status ≡ false
of_image (Some cause) set t a is = ap (λ (x : Answer). is_unavailable x.status) is
of_image None set t a (image, is, same) = ap (λ (x : Answer). is_unavailable x.status) same

of_release : (set : Option (List (List ℕ))) (t : Tables) (a : Answer) → IsReleaseImage set t a → is_unavailable a.status ≡ false
of_release None t a is = ap (λ (x : Answer). is_unavailable x.status) is
of_release (Some packages) t a is = of_image (link_cause (map component_of packages)) (map component_of packages) t a is

of_answer : (question : Question) (body : List ℕ) (t : Tables) (r : Response) → Answers question body t r → is_unavailable r.status ≡ false
of_answer not_found body t r is = ap (λ (x : Response). is_unavailable x.status) is
of_answer wrong_method body t r is = ap (λ (x : Response). is_unavailable x.status) is
of_answer malformed body t r is = ap (λ (x : Response). is_unavailable x.status) is
of_answer (posts purpose key digest) body t r is = ap (λ (x : Response). is_unavailable x.status) is ∙ of_post key digest (command_in purpose body) t
of_answer (gets_update mote have) body t r is = ap (λ (x : Response). is_unavailable x.status) is ∙ of_found (update_bytes t mote have) t
of_answer (gets_mote mote) body t r is = ap (λ (x : Response). is_unavailable x.status) is ∙ of_found (mote_text t mote) t
of_answer (gets_image mote number) body t r (a, image, is) = ap (λ (x : Response). is_unavailable x.status) is ∙ of_release (packages_of_release t mote number) t a image

-- ---- so the keeper failed where a reply that is due says it

other : (r : Response) → is_unavailable r.status ≡ false → r.status ≡ ServiceUnavailable → (P : Type 0) → P
other r isnt is P = absurd (false≢true (sym isnt ∙ ap is_unavailable is))

pub failed_where_said : (input : List ℕ) (t : Tables) (before after : ℕ) (r : Response) → IsDue input t (Rose before after) r → r.status ≡ ServiceUnavailable → Rose before after
failed_where_said input t before after r (of_no_head is e) said = other r (ap (λ (x : Response). is_unavailable x.status) e) said (Rose before after)
failed_where_said input t before after r (of_bad_head is e) said = other r (ap (λ (x : Response). is_unavailable x.status) e) said (Rose before after)
failed_where_said input t before after r (of_large is e) said = other r (ap (λ (x : Response). is_unavailable x.status) e) said (Rose before after)
failed_where_said input t before after r (of_request q is a) said = other r (of_answer (question_of q) q.body t r a) said (Rose before after)
failed_where_said input t before after r (of_failure q is asks failed e) said = failed
failed_where_said input t before after r (of_no_memory e) said = other r (ap (λ (x : Response). is_unavailable x.status) e) said (Rose before after)
