-- The mote that the parts stand for after each step.
use Rattle.std.proofs.Common.{not, ◌&&◌, ◌≡◌, ℕ, Bool, true, false, cond, List, Option, Some, None, is_some, slice_get, refl, sym as flip, ap, ◌∙◌, subst, arith}
use Rattle.std.proofs.lemmas.Bool.{both_ways, and_from, not_from_false, ne_eqb}
use Rattle.component_package.specs.packages.Component.{Component}
use Rattle.component_package.specs.packages.Manifest.{StoredRelease, Placed, Stores}
use Rattle.component_package.specs.mote.Store.{components_of, held_slot}
use Rattle.component_package.specs.mote.Sides.{Parts, man, sym, rel, img, go_a, go_b, sel, is_on_b, chosen_side, other_side, is_pending}
use Rattle.component_package.specs.mote.Sound.{IsSound}
use Rattle.component_package.specs.mote.Machine.{Mote, Chosen, chosen_of, step}
use Rattle.component_package.specs.mote.Headline.{has_incoming, is_linked, StandsForIncoming, StandsFor, Chooses}
use Rattle.mote_laws.specs.Steps.{with_gate, with_other_side, other_go, chosen_go, IsUnused}
use Rattle.mote_laws.specs.Stands.{ChoiceIsTheMotes, OnlyCommitsChoose, RestingStepsStand, commit_frame, CutCommitIsWhole, IsOther, StandingStepsStand}
use Rattle.mote_laws.proofs.Rows.{each_row}
use Rattle.mote_laws.proofs.Kept.{components_kept}
use Rattle.mote_laws.proofs.Sets.{other_sets_stay}
use Rattle.component_package.proofs.ManifestLaws.{stored_release_is_one}
use Rattle.mote_laws.proofs.Motes.{comes_next}

-- ---- what is chosen

-- the parts choose what the mote boots
chosen_by : (p : Parts) (s : Mote) → StandsFor p s → Chooses p (chosen_of s)
chosen_by p s stands = record { release = stands.current; set = ap (λ (slots : List (List ℕ)). components_of slots s.current) (flip stands.store) }

-- and one thing alone
choice_one : (p : Parts) (c d : Chosen) → Chooses p c → Chooses p d → c ≡ d
choice_one p c d first second =
    let release = stored_release_is_one.release (chosen_side p) c.release d.release first.release second.release in
    let set = flip first.set ∙ ap (components_of p.slots) release ∙ second.set in
    λ i. record { release = release i; set = set i }

pub choice_is_the_motes : ChoiceIsTheMotes
choice_is_the_motes = record { chosen = chosen_by; one = choice_one }

-- the release that comes in, where there is one
comes_in : (p : Parts) (s : Mote) (m : StoredRelease) → StandsFor p s → s.incoming ≡ Some m → (has_incoming p ≡ true) × Stores (other_side p) m
comes_in p s m stands is = subst (StandsForIncoming p) is stands.incoming

-- a slot that is none
pub not_held : (o : Option ℕ) → is_some o ≡ false → o ≡ None
not_held None none = refl
not_held (Some s) none = absurd cc

-- a piece's slot is not the current release's
piece_apart : (p : Parts) (s : Mote) (m : StoredRelease) (q : Placed) (k : ℕ) → IsSound p → StandsFor p s → s.incoming ≡ Some m → slice_get m.placed k ≡ Some q → is_some (held_slot s.current q.entry) ≡ false → IsUnused s.current q.slot
piece_apart p s m q k sound stands is at new =
    let comes = comes_in p s m stands is in
    other_sets_stay.piece (chosen_side p) (other_side p) s.current m k q (comes_next p sound comes.0) stands.current comes.1 at (not_held (held_slot s.current q.entry) new)

pub only_commits_choose : OnlyCommitsChoose
only_commits_choose p s f sound stands = each_row s f (λ x. (not s.standing && x.mote.standing) ≡ false → chosen_of x.mote ≡ chosen_of s) (record {
  refused = λ a served said other. refl;
  repeated = λ stands other. refl;
  booted = λ other. refl;
  manifest = λ calm whole above other. refl;
  piece = λ m q k page bytes calm is at new fits said other.
      ap (λ (set : List Component). let c : Chosen = record { release = s.current; set = set } in c) (components_kept s.store q.slot _ s.current (piece_apart p s m q k sound stands is at new));
  linked = λ m calm is unlinked whole free other. refl;
  committed = λ m calm is linked other. absurd (both_ways (not s.standing && true) other (and_from (not s.standing) true (not_from_false s.standing calm) refl));
  aborted = λ calm other. refl;
})

-- ---- the same mote

-- the same comes in
incoming_kept : (p q : Parts) (o : Option StoredRelease) → has_incoming q ≡ has_incoming p → other_side q ≡ other_side p → StandsForIncoming p o → StandsForIncoming q o
incoming_kept p q None has side stands = has ∙ stands
incoming_kept p q (Some m) has side stands = (has ∙ stands.0, subst (λ (b : List ℕ). Stores b m) (flip side) stands.1)

-- parts that show the same stand for the same
pub shows_same : (p q : Parts) (s : Mote) → StandsFor p s → chosen_side q ≡ chosen_side p → other_side q ≡ other_side p → has_incoming q ≡ has_incoming p → is_linked q ≡ is_linked p → is_pending q ≡ is_pending p → q.slots ≡ p.slots → StandsFor q s
shows_same p q s stands chosen other has linked pending slots = record {
  current = subst (λ (b : List ℕ). Stores b s.current) (flip chosen) stands.current;
  incoming = incoming_kept p q s.incoming has other stands.incoming;
  store = stands.store ∙ flip slots;
  linked = stands.linked ∙ flip linked;
  standing = stands.standing ∙ flip pending;
}

-- ---- where no commit stands

-- Img closed
unlinked : (p : Parts) (s : Mote) → StandsFor p s → StandsFor (with_gate img false p) (record s { linked = false })
unlinked p s stands =
    let shut : is_linked (with_gate img false p) ≡ false = shut_img p in
    record { current = stands.current; incoming = incoming_kept p (with_gate img false p) s.incoming refl refl stands.incoming; store = stands.store; linked = flip shut; standing = stands.standing }
  where
    shut_img : (p : Parts) → is_linked (with_gate img false p) ≡ false
    shut_img p = grind arith

-- Img opened
linked : (p : Parts) (s : Mote) → StandsFor p s → is_pending p ≡ false → StandsFor (with_gate img true p) (record s { linked = true })
linked p s stands calm = record {
  current = stands.current;
  incoming = incoming_kept p (with_gate img true p) s.incoming refl refl stands.incoming;
  store = stands.store;
  linked = flip (opened p calm);
  standing = stands.standing;
}
  where
    opened : (p : Parts) → is_pending p ≡ false → is_linked (with_gate img true p) ≡ true
    opened p calm = grind arith

-- Man closed
dropped : (p : Parts) (s : Mote) → StandsFor p s → StandsFor (with_gate man false p) (record s { incoming = None })
dropped p s stands = record { current = stands.current; incoming = shut_man p; store = stands.store; linked = stands.linked; standing = stands.standing }
  where
    shut_man : (p : Parts) → has_incoming (with_gate man false p) ≡ false
    shut_man p = grind arith

-- Man opened
arrived : (p : Parts) (s : Mote) (m : StoredRelease) → StandsFor p s → is_pending p ≡ false → Stores (other_side p) m → StandsFor (with_gate man true p) (record s { incoming = Some m })
arrived p s m stands calm stores = record { current = stands.current; incoming = (opened p calm, stores); store = stands.store; linked = stands.linked; standing = stands.standing }
  where
    opened : (p : Parts) → is_pending p ≡ false → has_incoming (with_gate man true p) ≡ true
    opened p calm = grind arith

-- the other side written while nothing comes in
side_written : (p : Parts) (s : Mote) (bytes : List ℕ) → StandsFor p s → s.incoming ≡ None → StandsFor (with_other_side bytes p) s
side_written p s bytes stands is = record {
  current = subst (λ (b : List ℕ). Stores b s.current) (flip (kept p bytes)) stands.current;
  incoming = subst (StandsForIncoming (with_other_side bytes p)) (flip is) (subst (StandsForIncoming p) is stands.incoming);
  store = stands.store;
  linked = stands.linked;
  standing = stands.standing;
}
  where
    kept : (p : Parts) (bytes : List ℕ) → chosen_side (with_other_side bytes p) ≡ chosen_side p
    kept p bytes = grind arith

pub resting_steps_stand : RestingStepsStand
resting_steps_stand = record {
  unlinked = unlinked;
  linked = linked;
  relocs = λ p s b stands. shows_same p (with_gate rel b p) s stands refl refl refl refl refl refl;
  symbols = λ p s b stands. shows_same p (with_gate sym b p) s stands refl refl refl refl refl refl;
  dropped = dropped;
  incoming = arrived;
  side = side_written;
  symbol_area = λ p s area stands. shows_same p (record p { symbols = area }) s stands refl refl refl refl refl refl;
  reloc_area = λ p s area stands. shows_same p (record p { relocs = area }) s stands refl refl refl refl refl refl;
  staged = λ p s pages stands. shows_same p (record p { staged = pages }) s stands refl refl refl refl refl refl;
  slot = λ p s slots stands. record { current = stands.current; incoming = incoming_kept p (record p { slots = slots }) s.incoming refl refl stands.incoming; store = refl; linked = stands.linked; standing = stands.standing };
}

-- ---- a commit

-- where the mote is linked, no commit stands, and a release comes in
pub calm_where_linked : (p : Parts) → is_linked p ≡ true → (is_pending p ≡ false) × (p.gates img ≡ true)
calm_where_linked p is = at (is_pending p) refl is
  where
    at : (b : Bool) → is_pending p ≡ b → cond b false (p.gates img) ≡ true → (is_pending p ≡ false) × (p.gates img ≡ true)
    at true is h = absurd cc
    at false is h = (is, h)

-- Img rests on Man
pub coming_where_linked : (p : Parts) → IsSound p → is_pending p ≡ false → p.gates img ≡ true → has_incoming p ≡ true
coming_where_linked p sound calm image = grind arith

-- the release that comes in
pub some_comes : (p : Parts) (o : Option StoredRelease) → has_incoming p ≡ true → StandsForIncoming p o → (m : StoredRelease) × (o ≡ Some m) × Stores (other_side p) m
some_comes p None has stands = absurd (both_ways (has_incoming p) stands has)
some_comes p (Some m) has stands = (m, refl, stands.1)

-- the commit's row
commits_to : (s : Mote) (m : StoredRelease) → s.standing ≡ false → s.incoming ≡ Some m → s.linked ≡ true → (step s commit_frame).mote ≡ record s { current = m; incoming = None; linked = false; standing = true }
commits_to s m calm is linked = rw (calm, is, linked) refl

-- what shows once the Go gate is open
gone_pending : (p : Parts) → is_pending p ≡ false → is_pending (with_gate (other_go p) true p) ≡ true
gone_pending p calm = grind arith

-- the other side is chosen
gone_chosen : (p : Parts) → is_pending p ≡ false → chosen_side (with_gate (other_go p) true p) ≡ other_side p
gone_chosen p calm = grind arith

-- and where it stayed closed
stayed : (p : Parts) → is_pending p ≡ false → (chosen_side (with_gate (other_go p) false p) ≡ chosen_side p) × (other_side (with_gate (other_go p) false p) ≡ other_side p)
stayed p calm = (grind arith, grind arith)

-- the gates are as they were
stayed_gates : (p : Parts) → is_pending p ≡ false
    → (has_incoming (with_gate (other_go p) false p) ≡ has_incoming p) × (is_linked (with_gate (other_go p) false p) ≡ is_linked p) × (is_pending (with_gate (other_go p) false p) ≡ is_pending p)
stayed_gates p calm = (grind arith, grind arith, grind arith)

-- while a commit stands nothing comes in, and nothing is linked
hidden : (p : Parts) → is_pending p ≡ true → (has_incoming p ≡ false) × (is_linked p ≡ false)
hidden p pending = (grind arith, grind arith)

pub cut_commit_is_whole : CutCommitIsWhole
cut_commit_is_whole p s true sound stands is_linked_s =
    let gates = calm_where_linked p (flip stands.linked ∙ is_linked_s) in
    let comes = some_comes p s.incoming (coming_where_linked p sound gates.0 gates.1) stands.incoming in
    let pending = gone_pending p gates.0 in
    let unseen = hidden (with_gate (other_go p) true p) pending in
    subst (StandsFor (with_gate (other_go p) true p)) (flip (commits_to s comes.0 (stands.standing ∙ gates.0) comes.1 is_linked_s)) (record {
      current = subst (λ (b : List ℕ). Stores b comes.0) (flip (gone_chosen p gates.0)) comes.2;
      incoming = unseen.0;
      store = stands.store;
      linked = flip unseen.1;
      standing = flip pending;
    })
cut_commit_is_whole p s false sound stands is_linked_s =
    let gates = calm_where_linked p (flip stands.linked ∙ is_linked_s) in
    let sides = stayed p gates.0 in
    let same = stayed_gates p gates.0 in
    shows_same p (with_gate (other_go p) false p) s stands sides.0 sides.1 same.0 same.1 same.2 refl

-- ---- where a commit stands

-- the Go gates stay at the program of another gate
other_gate : (p : Parts) (gate : ℕ) (b : Bool) → IsOther gate → (with_gate gate b p).gates go_a ≡ p.gates go_a
other_gate p gate b other = rw (ne_eqb go_a gate (λ same. other.0 (flip same))) refl

-- both of them
other_gate_b : (p : Parts) (gate : ℕ) (b : Bool) → IsOther gate → (with_gate gate b p).gates go_b ≡ p.gates go_b
other_gate_b p gate b other = rw (ne_eqb go_b gate (λ same. other.1 (flip same))) refl

-- the Go gates alone decide while one is open
pending_same : (p q : Parts) → is_pending p ≡ true → q.gates go_a ≡ p.gates go_a → q.gates go_b ≡ p.gates go_b → q.side_a ≡ p.side_a → q.side_b ≡ p.side_b
    → (chosen_side q ≡ chosen_side p) × (other_side q ≡ other_side p) × (has_incoming q ≡ has_incoming p) × (is_linked q ≡ is_linked p) × (is_pending q ≡ is_pending p)
pending_same p q pending a b side_a side_b = (grind arith, grind arith, grind arith, grind arith, grind arith)

-- so another gate isn't seen
gate_unseen : (p : Parts) (s : Mote) (gate : ℕ) (b : Bool) → StandsFor p s → is_pending p ≡ true → IsOther gate → StandsFor (with_gate gate b p) s
gate_unseen p s gate b stands pending other =
    let same = pending_same p (with_gate gate b p) pending (other_gate p gate b other) (other_gate_b p gate b other) refl refl in
    shows_same p (with_gate gate b p) s stands same.0 same.1 same.2 same.3 same.4 refl

-- what shows once the Go gate is closed
finished_shows : (p : Parts) → IsSound p → is_pending p ≡ true → p.gates sel ≡ is_on_b p → p.gates img ≡ false → p.gates man ≡ false
    → (chosen_side (with_gate (chosen_go p) false p) ≡ chosen_side p) × (has_incoming (with_gate (chosen_go p) false p) ≡ false) × (is_linked (with_gate (chosen_go p) false p) ≡ false)
    × (is_pending (with_gate (chosen_go p) false p) ≡ false)
finished_shows p sound pending at no_img no_man = (grind arith, grind arith, grind arith, grind arith)

-- the Go gate closed
finished : (p : Parts) (s : Mote) → IsSound p → StandsFor p s → is_pending p ≡ true → p.gates sel ≡ is_on_b p → p.gates img ≡ false → p.gates man ≡ false
    → StandsFor (with_gate (chosen_go p) false p) (record s { standing = false })
finished p s sound stands pending at no_img no_man =
    let shows = finished_shows p sound pending at no_img no_man in
    let unseen = hidden p pending in
    record {
      current = subst (λ (b : List ℕ). Stores b s.current) (flip shows.0) stands.current;
      incoming = nothing s.incoming stands.incoming shows.1 unseen.0;
      store = stands.store;
      linked = stands.linked ∙ unseen.1 ∙ flip shows.2;
      standing = flip shows.3;
    }
  where
    nothing : (o : Option StoredRelease) → StandsForIncoming p o → has_incoming (with_gate (chosen_go p) false p) ≡ false → has_incoming p ≡ false → StandsForIncoming (with_gate (chosen_go p) false p) o
    nothing None none now before = now
    nothing (Some m) some now before = absurd (both_ways (has_incoming p) before some.0)

pub standing_steps_stand : StandingStepsStand
standing_steps_stand = record {
  gate = gate_unseen;
  prog = λ p s pages stands. shows_same p (record p { prog = pages }) s stands refl refl refl refl refl refl;
  finished = finished;
}
