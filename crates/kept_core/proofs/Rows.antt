-- The rows of the machine for the frames that are served, once the gates and the sides are known.
use Rattle.std.proofs.Common.{◌≡◌, ℕ, Bool, true, false, cond, Option, Some, None, is_some, refl, sym, ap, ◌∙◌}
use Rattle.std.specs.Option.{option_map}
use Rattle.component_package.specs.declared.answer.Answer.{Answer}
use Rattle.component_package.specs.declared.answer.Answer.TheVariants as answers
use Rattle.kept_manifests.specs.declared.pages.SlotManifest.{SlotManifest}
use Rattle.kept_definitions.specs.Stored.{StoredRelease}
use Rattle.kept_manifests.specs.Slots.{stored_of}
use Rattle.kept_definitions.specs.Kept.{coming_set}
use Rattle.kept_definitions.specs.Machine.{Mote, Step, step, refuses, unless_standing, commit_incoming, incoming_number}
use Rattle.mote_laws.specs.Stands.{commit_frame}
use Rattle.kept_journal.specs.declared.standing.Standing.{Standing}
use Rattle.kept_journal.specs.Standing.{IsOfMote, incoming_of}
use Rattle.kept_core.specs.Frames.{abort_frame, status_frame, number_of_incoming, number_of, stage_of}

-- the number of the release that boots
pub current_number : (t : Mote) (a : Standing) → IsOfMote t a → a.current.manifest.release ≡ t.current.release.number
current_number t a is = ap (λ (m : StoredRelease). m.number) is.current

pub incoming_is : (t : Mote) (a : Standing) (m : SlotManifest) → IsOfMote t a → a.incoming ≡ Some m → t.incoming ≡ Some (stored_of m)
incoming_is t a m is coming = sym is.incoming ∙ ap (λ (o : Option SlotManifest). incoming_of (record a { incoming = o })) coming

pub nothing_incoming : (t : Mote) (a : Standing) → IsOfMote t a → a.incoming ≡ None → t.incoming ≡ None
nothing_incoming t a is coming = sym is.incoming ∙ ap (λ (o : Option SlotManifest). incoming_of (record a { incoming = o })) coming

-- while a commit stands
pub standing_row : (t : Mote) (x : Step) (n : ℕ) → t.standing ≡ true → n ≡ t.current.release.number → unless_standing t x ≡ refuses t (answers.Reboot n)
standing_row t x n stands is = ap (λ (b : Bool). cond b (refuses t (answers.Reboot t.current.release.number)) x) stands ∙ ap (λ (k : ℕ). refuses t (answers.Reboot k)) (sym is)

-- while none does
pub resting_row : (t : Mote) (x : Step) → t.standing ≡ false → unless_standing t x ≡ x
resting_row t x rests = ap (λ (b : Bool). cond b (refuses t (answers.Reboot t.current.release.number)) x) rests

-- ABORT
pub abort_row : (t : Mote) → t.standing ≡ false → step t abort_frame ≡ record { mote = record t { incoming = None; linked = false }; answer = answers.Aborted }
abort_row t rests = resting_row t _ rests

-- COMMIT
pub commit_again : (t : Mote) (n : ℕ) → t.standing ≡ true → n ≡ t.current.release.number → step t commit_frame ≡ refuses t (answers.Committed n)
commit_again t n stands is =
    ap (λ (b : Bool). cond b (refuses t (answers.Committed t.current.release.number)) (commit_incoming t t.incoming)) stands ∙ ap (λ (k : ℕ). refuses t (answers.Committed k)) (sym is)

commit_rests : (t : Mote) → t.standing ≡ false → step t commit_frame ≡ commit_incoming t t.incoming
commit_rests t rests = ap (λ (b : Bool). cond b (refuses t (answers.Committed t.current.release.number)) (commit_incoming t t.incoming)) rests

pub commit_none : (t : Mote) → t.standing ≡ false → t.incoming ≡ None → step t commit_frame ≡ refuses t answers.NoManifest
commit_none t rests none = commit_rests t rests ∙ ap (commit_incoming t) none

pub commit_unlinked : (t : Mote) (m : StoredRelease) → t.standing ≡ false → t.incoming ≡ Some m → t.linked ≡ false → step t commit_frame ≡ refuses t answers.NotLinked
commit_unlinked t m rests coming unlinked = commit_rests t rests ∙ ap (commit_incoming t) coming
    ∙ ap (λ (b : Bool). cond b (record { mote = record t { current = record { release = m; set = coming_set t.current t.inbox m }; incoming = None; linked = false; standing = true }; answer = answers.Committed m.number }) (refuses t answers.NotLinked)) unlinked

pub commit_answer : (t : Mote) (m : StoredRelease) → t.standing ≡ false → t.incoming ≡ Some m → t.linked ≡ true → (step t commit_frame).answer ≡ answers.Committed m.number
commit_answer t m rests coming linked = ap (λ (x : Step). x.answer) (commit_rests t rests ∙ ap (commit_incoming t) coming
    ∙ ap (λ (b : Bool). cond b (record { mote = record t { current = record { release = m; set = coming_set t.current t.inbox m }; incoming = None; linked = false; standing = true }; answer = answers.Committed m.number }) (refuses t answers.NotLinked)) linked)

-- STATUS, by the release that boots, what comes in, and whether it is linked or a commit stands
abbrev status_row : ℕ → Option StoredRelease → Bool → Bool → Answer
status_row c o linked stands = answers.Status c (cond stands 0 (incoming_number o)) (cond stands 3 (cond linked 2 (cond (is_some o) 1 0)))

row_is : (t : Mote) (a : Standing) → IsOfMote t a → status_row a.current.manifest.release (incoming_of a) a.image a.pending ≡ (step t status_frame).answer
row_is t a is =
    ap (λ (n : ℕ). status_row n (incoming_of a) a.image a.pending) (current_number t a is)
    ∙ ap (λ (o : Option StoredRelease). status_row t.current.release.number o a.image a.pending) is.incoming
    ∙ ap (λ (b : Bool). status_row t.current.release.number t.incoming b a.pending) is.linked
    ∙ ap (λ (b : Bool). status_row t.current.release.number t.incoming t.linked b) is.standing

pub status_standing : (t : Mote) (a : Standing) → IsOfMote t a → a.pending ≡ true → answers.Status a.current.manifest.release 0 3 ≡ (step t status_frame).answer
status_standing t a is stands = sym (ap (λ (b : Bool). status_row a.current.manifest.release (incoming_of a) a.image b) stands) ∙ row_is t a is

number_comes : (o : Option SlotManifest) → number_of_incoming o ≡ incoming_number (option_map stored_of o)
number_comes None = refl
number_comes (Some m) = refl

some_comes : (o : Option SlotManifest) → is_some o ≡ is_some (option_map stored_of o)
some_comes None = refl
some_comes (Some m) = refl

pub status_resting : (t : Mote) (a : Standing) → IsOfMote t a → a.pending ≡ false → answers.Status a.current.manifest.release (number_of a) (stage_of a) ≡ (step t status_frame).answer
status_resting t a is rests =
    ap (λ (n : ℕ). answers.Status a.current.manifest.release n (stage_of a)) (number_comes a.incoming)
    ∙ ap (λ (n : ℕ). answers.Status a.current.manifest.release (incoming_number (incoming_of a)) n)
    (ap (λ (b : Bool). cond b 3 (cond a.image 2 (cond (is_some a.incoming) 1 0))) rests ∙ ap (λ (b : Bool). cond a.image 2 (cond b 1 0)) (some_comes a.incoming))
    ∙ sym (ap (λ (b : Bool). status_row a.current.manifest.release (incoming_of a) a.image b) rests)
    ∙ row_is t a is
