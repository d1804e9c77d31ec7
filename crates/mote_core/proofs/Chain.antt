-- The steps of LINK, one behind another.
use Rattle.std.proofs.Common.{◌≡◌, inl, inr, ⊎_elim, ℕ, Bool, true, false, cond, ◌&&◌, List, Option, Some, None, is_some, refl, sym, ap, ◌∙◌, subst, arith}
use Rattle.std.proofs.lemmas.Bool.{false≢true}
use Rattle.flash_pages.specs.State.{State}
use Rattle.flash_pages.specs.Board.{View}
use Rattle.flash_pages.specs.Moments.{LeavesOnly}
use Rattle.flash_pages.proofs.Runs.{at_end}
use Rattle.component_package.specs.declared.answer.Answer.{Answer}
use Rattle.component_package.specs.declared.answer.Answer.TheVariants as answers
use Rattle.component_package.specs.declared.manifest.SlotManifest.{SlotManifest}
use Rattle.component_package.specs.packages.Manifest.{StoredRelease, stored_of}
use Rattle.component_package.specs.link.Link.{Cause, FlashFull, RamFull, Symbols, Relocations, Duplicate, Undefined, Range, link_cause}
use Rattle.component_package.specs.mote.Store.{SetFault, set_fault, components_of}
use Rattle.component_package.specs.mote.Sides.{sym as sym_gate, rel, img, chosen_side}
use Rattle.component_package.specs.mote.Headline.{StandsFor}
use Rattle.component_package.specs.mote.Machine.{Mote, Step as MachineStep, step, refuses, link_incoming, link_held, link_set, cause_answer}
use Rattle.component_store.specs.declared.set.StoredSet.{StoredSet}
use Rattle.component_store.specs.Sets.{HoldsSet}
use Rattle.mote_laws.specs.Runs.{is_refusal}
use Rattle.install_journal.specs.declared.standing.Standing.{Standing}
use Rattle.install_journal.specs.Steps.{parts, Stands}
use Rattle.install_journal.specs.Standing.{IsStanding}
use Rattle.symbol_merge.specs.Stored.{set_in}
use Rattle.mote_core.specs.Frames.{link_frame}
use Rattle.mote_core.specs.Serving.{link_pages, Kept, Serves, IsServed, is_late_cause}
use Rattle.mote_core.specs.Links.{IsLinking, IsEarlyFree, Refuses, Goes, Flags, IsStagedFor, Refused, Links}
use Rattle.mote_core.proofs.Causes.{IsLateOrDuplicate, late_cause}
use Rattle.mote_core.proofs.Works.{first_part}
use Rattle.mote_core.proofs.Rows.{resting_row}

-- states that stand for the same mote have the same slots
pub slots_stay : (t : Mote) (set : StoredSet) (s w : State) → IsLinking t set s → IsLinking t set w → set_in w set ≡ set_in s set
slots_stay t set s w first second = ap (λ (l : List (List ℕ)). components_of l (stored_of set.slots)) (sym second.stands.mote.store ∙ first.stands.mote.store)

refuses_too : (t : Mote) (set : StoredSet) (s w : State) (b : Answer) → IsLinking t set s → IsLinking t set w → Refuses set w b → Refuses set s b
refuses_too t set s w b first second r = record { cause = r.cause; is = ap link_cause (sym (slots_stay t set s w first second)) ∙ r.is; answer = r.answer }

-- both areas
pub goes_on : (t : Mote) (set : StoredSet) (b : Bool) (o : Option Answer) (s : State) (mid new : View) → IsLinking t set s → (first : Goes t set true b None s mid) → Goes t set true true o first.end new → Goes t set true true o s new
goes_on t set b o s mid new linking first second = record {
  end = second.end;
  told = second.told;
  linking = second.linking;
  gates = λ none. let g = second.gates none in record { sym_is = g.sym_is; rel_is = g.rel_is; img_is = g.img_is ∙ (first.gates refl).img_is };
  refuses = λ a some. refuses_too t set s first.end a linking first.linking (second.refuses a some);
}

pub goes_refused : (t : Mote) (set : StoredSet) (b c d e : Bool) (a : Answer) (s : State) (v : View) → Goes t set b c (Some a) s v → Goes t set d e (Some a) s v
goes_refused t set b c d e a s v g = record { end = g.end; told = g.told; linking = g.linking; gates = λ none. absurd (let q : ⊥ = cc in q); refuses = g.refuses }

-- ---- answers of a whole LINK

-- nothing was changed
pub refused_here : (t : Mote) (set : StoredSet) (a : Answer) (s : State) (v : View) → v.state ≡ Some s → IsLinking t set s → Refuses set s a → Links t set a s v
refused_here t set a s v told linking refuses = inr (record { end = s; told = told; linking = linking; refuses = refuses; same = λ early. refl })

-- a cause of the areas has a late line
late_is : (c : Cause) (a : Answer) → a ≡ cause_answer c → is_late_cause a ≡ false → IsLateOrDuplicate (Some c) → ⊥
late_is (FlashFull n) a is line late = late
late_is (RamFull n) a is line late = late
late_is (Symbols n) a is line late = late
late_is (Relocations n) a is line late = late
late_is (Duplicate x i j) a is line late = false≢true (sym line ∙ ap is_late_cause is)
late_is (Undefined k r x) a is line late = false≢true (sym line ∙ ap is_late_cause is)
late_is (Range k r f) a is line late = false≢true (sym line ∙ ap is_late_cause is)

-- a cause was found in making the areas, and so late
late_line : (set : StoredSet) (s : State) (a : Answer) → IsEarlyFree set s → Refuses set s a → is_late_cause a ≡ false → ⊥
late_line set s a early refuses line = late_is refuses.cause a refuses.answer line (subst IsLateOrDuplicate refuses.is (late_cause (set_in s set) early.room early.symbols early.relocs))

pub refused_late : (t : Mote) (set : StoredSet) (a : Answer) (s : State) (v : View) → IsLinking t set s → IsEarlyFree set s → Goes t set true true (Some a) s v → Links t set a s v
refused_late t set a s v linking early g = inr (record {
  end = g.end;
  told = g.told;
  linking = g.linking;
  refuses = g.refuses a refl;
  same = λ line. absurd (late_line set s a early (g.refuses a refl) line);
})

pub linked_all : (t : Mote) (set : StoredSet) (n : ℕ) (s : State) (mid new : View) → IsLinking t set s → (g : Goes t set true true None s mid) → n ≡ (stored_of set.slots).number → IsStagedFor t set g.end new → Links t set (answers.Linked n) s new
linked_all t set n s mid new linking g number staged = inl (
  ap (λ (k : ℕ). answers.Linked k) number,
  record {
    end = staged.end;
    told = staged.told;
    stands = staged.stands;
    free = ap link_cause (sym (slots_stay t set s g.end linking g.linking)) ∙ staged.free;
  },
)

-- ---- rows

pub link_none : (t : Mote) → t.standing ≡ false → t.incoming ≡ None → step t link_frame ≡ refuses t answers.NoManifest
link_none t rests none = resting_row t _ rests ∙ ap (link_incoming t) none

module _ (t : Mote) (m : StoredRelease) (rests : t.standing ≡ false) (coming : t.incoming ≡ Some m) where
  takes : step t link_frame ≡ link_incoming t (Some m)
  takes = resting_row t _ rests ∙ ap (link_incoming t) coming

  pub link_again : (n : ℕ) → t.linked ≡ true → n ≡ m.number → step t link_frame ≡ refuses t (answers.Linked n)
  link_again n linked number = takes ∙ ap (λ (b : Bool). cond b (refuses t (answers.Linked m.number)) (link_held t m (set_fault t.store m))) linked ∙ ap (λ (k : ℕ). refuses t (answers.Linked k)) (sym number)

  pub link_opens : (o : Option SetFault) → t.linked ≡ false → set_fault t.store m ≡ o → step t link_frame ≡ link_held t m o
  link_opens o unlinked is = takes ∙ ap (λ (b : Bool). cond b (refuses t (answers.Linked m.number)) (link_held t m (set_fault t.store m))) unlinked ∙ ap (link_held t m) is

  pub link_caused : (o : Option Cause) → t.linked ≡ false → set_fault t.store m ≡ None → link_cause (components_of t.store m) ≡ o → step t link_frame ≡ link_set t m.number o
  link_caused o unlinked whole is = link_opens None unlinked whole ∙ ap (link_set t m.number) is

-- ---- the frame

-- LINK goes on with the set that was opened
pub linking_is : (t : Mote) (a : Standing) (m : SlotManifest) (set : StoredSet) (z : State) → Stands z t → t.standing ≡ false → t.incoming ≡ Some (stored_of m) → t.linked ≡ false → set.slots ≡ m → HoldsSet z set → IsLinking t set z
linking_is t a m set z stands rests coming unlinked slots holds = record {
  stands = stands;
  rests = rests;
  incoming = coming ∙ ap (λ (k : SlotManifest). Some (stored_of k)) (sym slots);
  unlinked = unlinked;
  held = holds;
}

pub flags_are : (t : Mote) (a : Standing) (m : SlotManifest) (z : State) → Stands z t → IsStanding (parts z) a → a.incoming ≡ Some m → t.standing ≡ false → t.linked ≡ false → Flags a.symbols a.relocs z
flags_are t a m z stands is coming rests unlinked = record {
  sym_is = is.symbols ∙ ap (λ (o : Option SlotManifest). is_some o && (parts z).gates sym_gate) coming;
  rel_is = is.relocs ∙ ap (λ (o : Option SlotManifest). is_some o && (parts z).gates rel) coming;
  img_is = sym (ap (λ (b : Bool). cond b false ((parts z).gates img)) (sym stands.mote.standing ∙ rests)) ∙ sym stands.mote.linked ∙ unlinked;
}

pub link_works : (t : Mote) (z : State) (old new : View) → Stands z t → LeavesOnly (Kept link_pages z) 771 old new → LeavesOnly (Serves t link_frame z) 771 old new
link_works t z old new stands run = first_part t link_frame link_pages z (λ place out. out) (λ rests page. refl) 771 771 old new (omega arith) stands run

-- the chosen side is as it was
same_side : (t : Mote) (z x : State) → Stands z t → Stands x t → chosen_side (parts x) ≡ chosen_side (parts z)
same_side t z x first second = second.mote.current.bytes ∙ sym first.mote.current.bytes

pub link_does : (t : Mote) (set : StoredSet) (a : Answer) (z : State) (old new : View) → IsLinking t set z → LeavesOnly (Kept link_pages z) 771 old new → Links t set a z new → IsServed t link_frame a z new
link_does t set a z old new linking run links = ⊎_elim done refused links
  where
    whole : set_fault t.store (stored_of set.slots) ≡ None
    whole = ap (λ (l : List (List ℕ)). set_fault l (stored_of set.slots)) linking.stands.mote.store ∙ linking.held.whole

    cause_is : (o : Option Cause) → link_cause (set_in z set) ≡ o → link_cause (components_of t.store (stored_of set.slots)) ≡ o
    cause_is o is = ap (λ (l : List (List ℕ)). link_cause (components_of l (stored_of set.slots))) linking.stands.mote.store ∙ is

    row : (o : Option Cause) → link_cause (set_in z set) ≡ o → step t link_frame ≡ link_set t (stored_of set.slots).number o
    row o is = link_caused t (stored_of set.slots) linking.rests linking.incoming o linking.unlinked whole (cause_is o is)

    done : (a ≡ answers.Linked (stored_of set.slots).number) × IsStagedFor t set z new → IsServed t link_frame a z new
    done d = record {
      end = d.1.end;
      told = d.1.told;
      mote = subst (λ (x : MachineStep). StandsFor (parts d.1.end) x.mote) (sym (row None d.1.free)) d.1.stands.mote;
      answer = d.0 ∙ sym (ap (λ (x : MachineStep). x.answer) (row None d.1.free));
      refused = λ refusal. absurd (false≢true (ap is_refusal (sym d.0) ∙ refusal));
    }

    refused : Refused t set a z new → IsServed t link_frame a z new
    refused r = record {
      end = r.end;
      told = r.told;
      mote = subst (λ (x : MachineStep). StandsFor (parts r.end) x.mote) (sym (row (Some r.refuses.cause) r.refuses.is)) r.linking.stands.mote;
      answer = r.refuses.answer ∙ sym (ap (λ (x : MachineStep). x.answer) (row (Some r.refuses.cause) r.refuses.is));
      refused = λ refusal. record {
        prog = (at_end (Kept link_pages z) 771 old new r.end run r.told).prog (λ page. refl);
        side = same_side t z r.end linking.stands r.linking.stands;
        same = r.same;
      };
    }
