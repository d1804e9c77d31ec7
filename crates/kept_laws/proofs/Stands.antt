-- Parts and the mote that they stand for.
use Rattle.std.proofs.Common.{◌≡◌, ℕ, List, Bool, true, false, cond, Option, Some, None, set, refl, sym as flip, ap, ◌∙◌, subst, arith}
use Rattle.std.specs.List.{AllByRecursion}
use Rattle.std.proofs.lemmas.Bool.{both_ways, ne_eqb}
use Rattle.component_package.specs.mote.Sides.{man, sym, rel, img, go_a, go_b, sel}
use Rattle.kept_definitions.specs.Stored.{StoredRelease, Stores}
use Rattle.kept_definitions.specs.Kept.{Chosen, components_in, coming_set, slots_for}
use Rattle.kept_definitions.specs.Sides.{Parts, is_on_b, chosen_side, other_side, is_pending, set_of}
use Rattle.kept_definitions.specs.Sound.{IsSound, IsInstalled, IsGoing, IsNext}
use Rattle.kept_definitions.specs.Machine.{Mote, step}
use Rattle.kept_definitions.specs.Headline.{has_incoming, is_linked, StandsForIncoming, StandsFor, Chooses}
use Rattle.mote_laws.specs.Stands.{commit_frame, IsOther}
use Rattle.kept_laws.specs.Laws.{KeepsItsRun}
use Rattle.kept_laws.specs.Steps.{with_gate, with_other_side, other_go, chosen_go, HasNoRun, HasOther}
use Rattle.kept_laws.specs.Stands.{PartsStandForOne, RestingStepsStand, CutCommitIsWhole, StandingStepsStand}
use Rattle.kept_laws.proofs.Stored.{release_one}
use Rattle.kept_laws.proofs.Words.{same_going}
use Rattle.kept_laws.proofs.Steps.{chooses_kept, at_rest, standing, commit_is_whole, finishing_keeps}

-- ---- one mote

choice_one : (p : Parts) (c d : Chosen) → Chooses p c → Chooses p d → c ≡ d
choice_one p c d first second =
    let release = release_one (chosen_side p) c.release d.release first.release second.release in
    let sets = flip first.set ∙ ap (set_of p) release ∙ second.set in
    λ i. record { release = release i; set = sets i }

incoming_one : (p : Parts) (o q : Option StoredRelease) → StandsForIncoming p o → StandsForIncoming p q → o ≡ q
incoming_one p None None a b = refl
incoming_one p None (Some n) a b = absurd (both_ways (has_incoming p) a b.0)
incoming_one p (Some m) None a b = absurd (both_ways (has_incoming p) b a.0)
incoming_one p (Some m) (Some n) a b = ap (λ (x : StoredRelease). Some x) (release_one (other_side p) m n a.1 b.1)

mote_one : (p : Parts) (s t : Mote) → StandsFor p s → StandsFor p t → s ≡ t
mote_one p s t a b =
    let current = choice_one p s.current t.current a.current b.current in
    let incoming = incoming_one p s.incoming t.incoming a.incoming b.incoming in
    let inbox = a.inbox ∙ flip b.inbox in
    let linked = a.linked ∙ flip b.linked in
    let stands = a.standing ∙ flip b.standing in
    λ i. record { current = current i; incoming = incoming i; inbox = inbox i; linked = linked i; standing = stands i }

-- the chosen release
chosen_release : (p : Parts) → IsSound p → (b : Bool) → is_pending p ≡ b → (m : StoredRelease) × Stores (chosen_side p) m
unfolding IsInstalled IsGoing
chosen_release p sound true is = let g = sound.going is in (g.0, g.1)
chosen_release p sound false is = let g = (sound.rest is).installed in (g.0, g.1)

-- the other side's, where it is next
next_release : (current side : List ℕ) → IsNext current side → (m : StoredRelease) × Stores side m
unfolding IsNext
next_release current side next = (slots_for next.0 next.1, next.5)

pub is_next : (p : Parts) → IsSound p → has_incoming p ≡ true → IsNext (chosen_side p) (other_side p)
is_next p sound has = grind arith

-- what comes in
coming_release : (p : Parts) → IsSound p → (b : Bool) → has_incoming p ≡ b → (o : Option StoredRelease) × StandsForIncoming p o
coming_release p sound false is = (None, is)
coming_release p sound true is = let n = next_release (chosen_side p) (other_side p) (is_next p sound is) in (Some n.0, (is, n.1))

some_mote : (p : Parts) → IsSound p → (s : Mote) × StandsFor p s
some_mote p sound =
    let m = chosen_release p sound (is_pending p) refl in
    let o = coming_release p sound (has_incoming p) refl in (
      record { current = record { release = m.0; set = set_of p m.0 }; incoming = o.0; inbox = p.inbox; linked = is_linked p; standing = is_pending p },
      record { current = record { release = m.1; set = refl }; incoming = o.1; inbox = refl; linked = refl; standing = refl },
    )

pub parts_stand_for_one : PartsStandForOne
parts_stand_for_one = record { one = mote_one; some = some_mote; choice = choice_one }

-- ---- the same mote

-- the same comes in
incoming_kept : (p q : Parts) (o : Option StoredRelease) → has_incoming q ≡ has_incoming p → other_side q ≡ other_side p → StandsForIncoming p o → StandsForIncoming q o
incoming_kept p q None has side stands = has ∙ stands
incoming_kept p q (Some m) has side stands = (has ∙ stands.0, subst (λ (b : List ℕ). Stores b m) (flip side) stands.1)

-- parts that show the same stand for the same
shows_same : (p q : Parts) (s : Mote) → StandsFor p s → chosen_side q ≡ chosen_side p → other_side q ≡ other_side p → has_incoming q ≡ has_incoming p → is_linked q ≡ is_linked p
    → is_pending q ≡ is_pending p → q.inbox ≡ p.inbox → ((m : StoredRelease) → Stores (chosen_side p) m → set_of q m ≡ set_of p m) → StandsFor q s
shows_same p q s stands chosen other has linked pending inbox sets = record {
  current = chooses_kept p q chosen sets s.current stands.current;
  incoming = incoming_kept p q s.incoming has other stands.incoming;
  inbox = stands.inbox ∙ flip inbox;
  linked = stands.linked ∙ flip linked;
  standing = stands.standing ∙ flip pending;
}

-- ---- where no commit stands

unlinked : (p : Parts) (s : Mote) → StandsFor p s → StandsFor (with_gate img false p) (record s { linked = false })
unlinked p s stands = record {
  current = chooses_kept p (with_gate img false p) refl (λ m stores. refl) s.current stands.current;
  incoming = incoming_kept p (with_gate img false p) s.incoming refl refl stands.incoming;
  inbox = stands.inbox;
  linked = flip (shut_img p);
  standing = stands.standing;
}
  where
    shut_img : (p : Parts) → is_linked (with_gate img false p) ≡ false
    shut_img p = grind arith

linked : (p : Parts) (s : Mote) → StandsFor p s → is_pending p ≡ false → StandsFor (with_gate img true p) (record s { linked = true })
linked p s stands calm = record {
  current = chooses_kept p (with_gate img true p) refl (λ m stores. refl) s.current stands.current;
  incoming = incoming_kept p (with_gate img true p) s.incoming refl refl stands.incoming;
  inbox = stands.inbox;
  linked = flip (opened p calm);
  standing = stands.standing;
}
  where
    opened : (p : Parts) → is_pending p ≡ false → is_linked (with_gate img true p) ≡ true
    opened p calm = grind arith

dropped : (p : Parts) (s : Mote) → StandsFor p s → StandsFor (with_gate man false p) (record s { incoming = None })
dropped p s stands = record {
  current = chooses_kept p (with_gate man false p) refl (λ m stores. refl) s.current stands.current;
  incoming = shut_man p;
  inbox = stands.inbox;
  linked = stands.linked;
  standing = stands.standing;
}
  where
    shut_man : (p : Parts) → has_incoming (with_gate man false p) ≡ false
    shut_man p = grind arith

arrived : (p : Parts) (s : Mote) (m : StoredRelease) → StandsFor p s → is_pending p ≡ false → Stores (other_side p) m → StandsFor (with_gate man true p) (record s { incoming = Some m })
arrived p s m stands calm stores = record {
  current = chooses_kept p (with_gate man true p) refl (λ n stored. refl) s.current stands.current;
  incoming = (opened p calm, stores);
  inbox = stands.inbox;
  linked = stands.linked;
  standing = stands.standing;
}
  where
    opened : (p : Parts) → is_pending p ≡ false → has_incoming (with_gate man true p) ≡ true
    opened p calm = grind arith

side_written : (p : Parts) (s : Mote) (bytes : List ℕ) → StandsFor p s → s.incoming ≡ None → StandsFor (with_other_side bytes p) s
side_written p s bytes stands is = record {
  current = chooses_kept p (with_other_side bytes p) (kept p bytes) (λ m stores. refl) s.current stands.current;
  incoming = subst (StandsForIncoming (with_other_side bytes p)) (flip is) (subst (StandsForIncoming p) is stands.incoming);
  inbox = stands.inbox;
  linked = stands.linked;
  standing = stands.standing;
}
  where
    kept : (p : Parts) (bytes : List ℕ) → chosen_side (with_other_side bytes p) ≡ chosen_side p
    kept p bytes = grind arith

pub resting_steps_stand : RestingStepsStand
resting_steps_stand = record {
  unlinked = unlinked;
  linked = linked;
  relocs = λ p s b stands. shows_same p (with_gate rel b p) s stands refl refl refl refl refl refl (λ m stores. refl);
  symbols = λ p s b stands. shows_same p (with_gate sym b p) s stands refl refl refl refl refl refl (λ m stores. refl);
  dropped = dropped;
  incoming = arrived;
  side = side_written;
  symbol_area = λ p s area stands. shows_same p (record p { symbols = area }) s stands refl refl refl refl refl refl (λ m stores. refl);
  reloc_area = λ p s area stands. shows_same p (record p { relocs = area }) s stands refl refl refl refl refl refl (λ m stores. refl);
  staged = λ p s pages stands calm. shows_same p (record p { staged = pages }) s stands refl refl refl refl refl refl
      (λ m stores. at_rest (record p { staged = pages }) m calm ∙ flip (at_rest p m calm));
  slot = λ p s slots stands calm. record {
    current = chooses_kept p (record p { inbox = slots }) refl (λ m stores. at_rest (record p { inbox = slots }) m calm ∙ flip (at_rest p m calm)) s.current stands.current;
    incoming = incoming_kept p (record p { inbox = slots }) s.incoming refl refl stands.incoming;
    inbox = refl;
    linked = stands.linked;
    standing = stands.standing;
  };
}

-- ---- a commit

-- where the mote is linked, no commit stands, and a release comes in
pub calm_where_linked : (p : Parts) → is_linked p ≡ true → (is_pending p ≡ false) × (p.gates img ≡ true)
calm_where_linked p is = at (is_pending p) refl is
  where
    at : (b : Bool) → is_pending p ≡ b → cond b false (p.gates img) ≡ true → (is_pending p ≡ false) × (p.gates img ≡ true)
    at true is h = absurd cc
    at false is h = (is, h)

pub coming_where_linked : (p : Parts) → IsSound p → is_pending p ≡ false → p.gates img ≡ true → has_incoming p ≡ true
coming_where_linked p sound calm image = grind arith

pub some_comes : (p : Parts) (o : Option StoredRelease) → has_incoming p ≡ true → StandsForIncoming p o → (m : StoredRelease) × (o ≡ Some m) × Stores (other_side p) m
some_comes p None has stands = absurd (both_ways (has_incoming p) stands has)
some_comes p (Some m) has stands = (m, refl, stands.1)

-- the commit's row
commits_to : (s : Mote) (m : StoredRelease) → s.standing ≡ false → s.incoming ≡ Some m → s.linked ≡ true
    → (step s commit_frame).mote ≡ record s { current = record { release = m; set = coming_set s.current s.inbox m }; incoming = None; linked = false; standing = true }
commits_to s m calm is linked = rw (calm, is, linked) refl

gone_pending : (p : Parts) → is_pending p ≡ false → is_pending (with_gate (other_go p) true p) ≡ true
gone_pending p calm = grind arith

stayed : (p : Parts) → is_pending p ≡ false → (chosen_side (with_gate (other_go p) false p) ≡ chosen_side p) × (other_side (with_gate (other_go p) false p) ≡ other_side p)
stayed p calm = (grind arith, grind arith)

stayed_gates : (p : Parts) → is_pending p ≡ false
    → (has_incoming (with_gate (other_go p) false p) ≡ has_incoming p) × (is_linked (with_gate (other_go p) false p) ≡ is_linked p) × (is_pending (with_gate (other_go p) false p) ≡ is_pending p)
stayed_gates p calm = (grind arith, grind arith, grind arith)

-- while a commit stands nothing comes in, and nothing is linked
hidden : (p : Parts) → is_pending p ≡ true → (has_incoming p ≡ false) × (is_linked p ≡ false)
hidden p pending = (grind arith, grind arith)

pub cut_commit_is_whole : CutCommitIsWhole
cut_commit_is_whole p s true sound stands is_linked_s =
    let q = with_gate (other_go p) true p in
    let gates = calm_where_linked p (flip stands.linked ∙ is_linked_s) in
    let comes = some_comes p s.incoming (coming_where_linked p sound gates.0 gates.1) stands.incoming in
    let pending = gone_pending p gates.0 in
    let unseen = hidden q pending in
    let next : Chosen = record { release = comes.0; set = coming_set s.current s.inbox comes.0 } in
    let other : HasOther p next = record { release = comes.2; now = s.current; is_now = stands.current; set = ap (λ (i : List (List ℕ)). coming_set s.current i comes.0) (flip stands.inbox) } in
    subst (StandsFor q) (flip (commits_to s comes.0 (stands.standing ∙ gates.0) comes.1 is_linked_s)) (record {
      current = (commit_is_whole p true sound gates.0 gates.1).behind refl next other;
      incoming = unseen.0;
      inbox = stands.inbox;
      linked = flip unseen.1;
      standing = flip pending;
    })
cut_commit_is_whole p s false sound stands is_linked_s =
    let q = with_gate (other_go p) false p in
    let gates = calm_where_linked p (flip stands.linked ∙ is_linked_s) in
    let sides = stayed p gates.0 in
    let same = stayed_gates p gates.0 in
    shows_same p q s stands sides.0 sides.1 same.0 same.1 same.2 refl (λ m stores. at_rest q m (same.2 ∙ gates.0) ∙ flip (at_rest p m gates.0))

-- ---- where a commit stands

other_gate : (p : Parts) (gate : ℕ) (b : Bool) → IsOther gate → (with_gate gate b p).gates go_a ≡ p.gates go_a
other_gate p gate b other = rw (ne_eqb go_a gate (λ same. other.0 (flip same))) refl

other_gate_b : (p : Parts) (gate : ℕ) (b : Bool) → IsOther gate → (with_gate gate b p).gates go_b ≡ p.gates go_b
other_gate_b p gate b other = rw (ne_eqb go_b gate (λ same. other.1 (flip same))) refl

pending_same : (p q : Parts) → is_pending p ≡ true → q.gates go_a ≡ p.gates go_a → q.gates go_b ≡ p.gates go_b → q.side_a ≡ p.side_a → q.side_b ≡ p.side_b
    → (chosen_side q ≡ chosen_side p) × (other_side q ≡ other_side p) × (has_incoming q ≡ has_incoming p) × (is_linked q ≡ is_linked p) × (is_pending q ≡ is_pending p)
pending_same p q pending a b side_a side_b = (grind arith, grind arith, grind arith, grind arith, grind arith)

gate_unseen : (p : Parts) (s : Mote) (gate : ℕ) (b : Bool) → StandsFor p s → is_pending p ≡ true → IsOther gate → StandsFor (with_gate gate b p) s
gate_unseen p s gate b stands pending other =
    let q = with_gate gate b p in
    let same = pending_same p q pending (other_gate p gate b other) (other_gate_b p gate b other) refl refl in
    shows_same p q s stands same.0 same.1 same.2 same.3 same.4 refl (λ m stores. standing q m (same.4 ∙ pending) ∙ flip (standing p m pending))

finished_shows : (p : Parts) → IsSound p → is_pending p ≡ true → p.gates sel ≡ is_on_b p → p.gates img ≡ false → p.gates man ≡ false
    → (has_incoming (with_gate (chosen_go p) false p) ≡ false) × (is_linked (with_gate (chosen_go p) false p) ≡ false) × (is_pending (with_gate (chosen_go p) false p) ≡ false)
finished_shows p sound pending at no_img no_man = (grind arith, grind arith, grind arith)

nothing : (p q : Parts) (o : Option StoredRelease) → StandsForIncoming p o → has_incoming q ≡ false → has_incoming p ≡ false → StandsForIncoming q o
nothing p q None none now before = now
nothing p q (Some m) some now before = absurd (both_ways (has_incoming p) before some.0)

pub standing_steps_stand : StandingStepsStand
standing_steps_stand = record {
  gate = gate_unseen;
  prog = λ p s pages stands pending. shows_same p (record p { prog = pages }) s stands refl refl refl refl refl refl
      (λ m stores. standing (record p { prog = pages }) m pending ∙ flip (standing p m pending));
  table = λ p s slot bytes stands pending none. let q = record p { tables = set p.tables slot bytes } in shows_same p q s stands refl refl refl refl refl refl (λ m stores.
      standing q m pending ∙ ap components_in
      (same_going p.tables p.inbox p.staged slot bytes m (subst (λ (n : StoredRelease). HasNoRun n slot) (release_one (chosen_side p) s.current.release m stands.current.release stores) none))
      ∙ flip (standing p m pending));
  finished = λ p s sound stands pending at no_img no_rel no_sym no_man done keeps.
      let q = with_gate (chosen_go p) false p in
      let shows = finished_shows p sound pending at no_img no_man in
      let unseen = hidden p pending in
      let runs = λ (m : StoredRelease) (stores : Stores (chosen_side p) m). subst (λ (n : StoredRelease). AllByRecursion (KeepsItsRun p.tables p.inbox) n.placed)
      (release_one (chosen_side p) s.current.release m stands.current.release stores) keeps in
      record {
        current = (finishing_keeps p false sound pending at no_img no_rel no_sym no_man done runs).chosen s.current stands.current;
        incoming = nothing p q s.incoming stands.incoming shows.0 unseen.0;
        inbox = stands.inbox;
        linked = stands.linked ∙ unseen.1 ∙ flip shows.1;
        standing = flip shows.2;
      };
}
