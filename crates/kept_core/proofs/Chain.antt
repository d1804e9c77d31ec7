-- The steps of LINK, one behind another.
use Rattle.std.proofs.Common.{◌≡◌, inl, inr, ⊎_elim, ℕ, Bool, true, false, cond, ◌&&◌, List, Option, Some, None, is_some, refl, sym, ap, ◌∙◌, subst, arith}
use Rattle.std.proofs.lemmas.Bool.{false≢true}
use Rattle.flash_pages.specs.State.{State}
use Rattle.flash_pages.specs.Board.{View}
use Rattle.flash_pages.specs.Moments.{LeavesOnly}
use Rattle.flash_pages.proofs.Runs.{at_end}
use Rattle.component_package.specs.declared.answer.Answer.{Answer}
use Rattle.component_package.specs.declared.answer.Answer.TheVariants as answers
use Rattle.kept_manifests.specs.declared.pages.SlotManifest.{SlotManifest}
use Rattle.kept_definitions.specs.Stored.{StoredRelease}
use Rattle.kept_manifests.specs.Slots.{stored_of}
use Rattle.component_package.specs.link.Link.{Cause, FlashFull, RamFull, Symbols, Relocations, Duplicate, Undefined, Range, link_cause}
use Rattle.component_package.specs.packages.Component.{Component}
use Rattle.component_package.specs.mote.Store.{SetFault}
use Rattle.kept_definitions.specs.Kept.{set_fault, coming_set}
use Rattle.component_package.specs.mote.Sides.{sym as sym_gate, rel, img}
use Rattle.kept_definitions.specs.Sides.{chosen_side}
use Rattle.kept_definitions.specs.Headline.{StandsFor}
use Rattle.kept_definitions.specs.Machine.{Mote, Step as MachineStep, step, refuses, link_incoming, link_held, link_set}
use Rattle.component_package.specs.mote.Machine.{cause_answer}
use Rattle.kept_store.specs.declared.set.StoredSet.{StoredSet}
use Rattle.kept_laws.proofs.Store.{coming_is_faultless}
use Rattle.mote_laws.specs.Runs.{is_refusal}
use Rattle.kept_journal.specs.declared.standing.Standing.{Standing}
use Rattle.kept_journal.specs.Steps.{parts, Stands}
use Rattle.kept_journal.specs.Standing.{IsStanding}
use Rattle.kept_core.specs.Frames.{link_frame}
use Rattle.kept_core.specs.Serving.{link_pages, Kept, Serves, IsServed, is_late_cause}
use Rattle.kept_core.specs.Links.{comes_of, IsLinking, IsEarlyFree, Refuses, Goes, Flags, IsStagedFor, Refused, Links}
use Rattle.kept_core.proofs.Causes.{IsLateOrDuplicate, late_cause}
use Rattle.kept_core.proofs.Works.{first_part}
use Rattle.kept_core.proofs.Rows.{resting_row}

-- both areas
pub goes_on : (t : Mote) (set : StoredSet) (b : Bool) (o : Option Answer) (s : State) (mid new : View) → IsLinking t set s → (first : Goes t set true b None s mid) → Goes t set true true o first.end new → Goes t set true true o s new
goes_on t set b o s mid new linking first second = record {
  end = second.end;
  told = second.told;
  linking = second.linking;
  gates = λ none. let g = second.gates none in record { sym_is = g.sym_is; rel_is = g.rel_is; img_is = g.img_is ∙ (first.gates refl).img_is };
  refuses = second.refuses;
}

pub goes_refused : (t : Mote) (set : StoredSet) (b c d e : Bool) (a : Answer) (s : State) (v : View) → Goes t set b c (Some a) s v → Goes t set d e (Some a) s v
goes_refused t set b c d e a s v g = record { end = g.end; told = g.told; linking = g.linking; gates = λ none. absurd (let q : ⊥ = cc in q); refuses = g.refuses }

-- ---- answers of a whole LINK

-- nothing was changed
pub refused_here : (t : Mote) (set : StoredSet) (a : Answer) (s : State) (v : View) → v.state ≡ Some s → IsLinking t set s → Refuses (comes_of t set) a → Links t set a s v
refused_here t set a s v told linking refuses = inr (record { end = s; told = told; linking = linking; refuses = refuses; same = λ early. refl })

-- a cause of the areas has a late line
late_is : (c : Cause) (a : Answer) → a ≡ cause_answer c → is_late_cause a ≡ false → IsLateOrDuplicate (Some c) → ⊥
late_is (FlashFull n) a is line late = late
late_is (RamFull n) a is line late = late
late_is (Symbols n) a is line late = late
late_is (Relocations n) a is line late = late
late_is (Duplicate x i j) a is line late = false≢true (sym line ∙ ap is_late_cause is)
late_is (Undefined k r x) a is line late = false≢true (sym line ∙ ap is_late_cause is)
late_is (Range k r f) a is line late = false≢true (sym line ∙ ap is_late_cause is)

-- a cause was found in making the areas, and so late
late_line : (components : List Component) (a : Answer) → IsEarlyFree components → Refuses components a → is_late_cause a ≡ false → ⊥
late_line components a early refuses line = late_is refuses.cause a refuses.answer line (subst IsLateOrDuplicate refuses.is (late_cause components early.room early.symbols early.relocs))

pub refused_late : (t : Mote) (set : StoredSet) (a : Answer) (s : State) (v : View) → IsLinking t set s → IsEarlyFree (comes_of t set) → Goes t set true true (Some a) s v → Links t set a s v
refused_late t set a s v linking early g = inr (record {
  end = g.end;
  told = g.told;
  linking = g.linking;
  refuses = g.refuses a refl;
  same = λ line. absurd (late_line (comes_of t set) a early (g.refuses a refl) line);
})

pub linked_all : (t : Mote) (set : StoredSet) (n : ℕ) (s : State) (mid new : View) → IsLinking t set s → (g : Goes t set true true None s mid) → n ≡ (stored_of set.slots).number → IsStagedFor t set new → Links t set (answers.Linked n) s new
linked_all t set n s mid new linking g number staged = inl (
  ap (λ (k : ℕ). answers.Linked k) number,
  record {
    end = staged.end;
    told = staged.told;
    stands = staged.stands;
    free = staged.free;
  },
)

-- ---- rows

pub link_none : (t : Mote) → t.standing ≡ false → t.incoming ≡ None → step t link_frame ≡ refuses t answers.NoManifest
link_none t rests none = resting_row t _ rests ∙ ap (link_incoming t) none

module _ (t : Mote) (m : StoredRelease) (rests : t.standing ≡ false) (coming : t.incoming ≡ Some m) where
  takes : step t link_frame ≡ link_incoming t (Some m)
  takes = resting_row t _ rests ∙ ap (link_incoming t) coming

  pub link_again : (n : ℕ) → t.linked ≡ true → n ≡ m.number → step t link_frame ≡ refuses t (answers.Linked n)
  link_again n linked number = takes ∙ ap (λ (b : Bool). cond b (refuses t (answers.Linked m.number)) (link_held t m (set_fault t.inbox m))) linked ∙ ap (λ (k : ℕ). refuses t (answers.Linked k)) (sym number)

  pub link_opens : (o : Option SetFault) → t.linked ≡ false → set_fault t.inbox m ≡ o → step t link_frame ≡ link_held t m o
  link_opens o unlinked is = takes ∙ ap (λ (b : Bool). cond b (refuses t (answers.Linked m.number)) (link_held t m (set_fault t.inbox m))) unlinked ∙ ap (link_held t m) is

  pub link_caused : (o : Option Cause) → t.linked ≡ false → set_fault t.inbox m ≡ None → link_cause (coming_set t.current t.inbox m) ≡ o → step t link_frame ≡ link_set t m.number o
  link_caused o unlinked whole is = link_opens None unlinked whole ∙ ap (link_set t m.number) is

-- ---- the frame

pub flags_are : (t : Mote) (a : Standing) (m : SlotManifest) (z : State) → Stands z t → IsStanding (parts z) a → a.incoming ≡ Some m → t.standing ≡ false → t.linked ≡ false → Flags a.symbols a.relocs z
flags_are t a m z stands is coming rests unlinked = record {
  sym_is = is.symbols ∙ ap (λ (o : Option SlotManifest). is_some o && (parts z).gates sym_gate) coming;
  rel_is = is.relocs ∙ ap (λ (o : Option SlotManifest). is_some o && (parts z).gates rel) coming;
  img_is = sym (ap (λ (b : Bool). cond b false ((parts z).gates img)) (sym stands.mote.standing ∙ rests)) ∙ sym stands.mote.linked ∙ unlinked;
}

pub link_works : (t : Mote) (z : State) (old new : View) → Stands z t → LeavesOnly (Kept link_pages z) 771 old new → LeavesOnly (Serves t link_frame z) 771 old new
link_works t z old new stands run = first_part t link_frame link_pages z (λ place out. out) (λ rests page. refl) 771 771 old new (omega arith) stands run

-- the chosen side is as it was
same_side : (t : Mote) (z x : State) → Stands z t → Stands x t → chosen_side (parts x) ≡ chosen_side (parts z)
same_side t z x first second = second.mote.current.release.bytes ∙ sym first.mote.current.release.bytes

pub link_does : (t : Mote) (set : StoredSet) (a : Answer) (z : State) (old new : View) → IsLinking t set z → LeavesOnly (Kept link_pages z) 771 old new → Links t set a z new → IsServed t link_frame a z new
link_does t set a z old new linking run links = ⊎_elim done refused links
  where
    whole : set_fault t.inbox (stored_of set.slots) ≡ None
    whole = coming_is_faultless.faultless t.current t.inbox (stored_of set.slots) linking.there

    row : (o : Option Cause) → link_cause (comes_of t set) ≡ o → step t link_frame ≡ link_set t (stored_of set.slots).number o
    row o is = link_caused t (stored_of set.slots) linking.rests linking.incoming o linking.unlinked whole is

    done : (a ≡ answers.Linked (stored_of set.slots).number) × IsStagedFor t set new → IsServed t link_frame a z new
    done d = record {
      end = d.1.end;
      told = d.1.told;
      mote = subst (λ (x : MachineStep). StandsFor (parts d.1.end) x.mote) (sym (row None d.1.free)) d.1.stands.mote;
      answer = d.0 ∙ sym (ap (λ (x : MachineStep). x.answer) (row None d.1.free));
      refused = λ refusal. absurd (false≢true (ap is_refusal (sym d.0) ∙ refusal));
    }

    refused : Refused t set a z new → IsServed t link_frame a z new
    refused r = record {
      end = r.end;
      told = r.told;
      mote = subst (λ (x : MachineStep). StandsFor (parts r.end) x.mote) (sym (row (Some r.refuses.cause) r.refuses.is)) r.linking.stands.mote;
      answer = r.refuses.answer ∙ sym (ap (λ (x : MachineStep). x.answer) (row (Some r.refuses.cause) r.refuses.is));
      refused = λ refusal. record {
        prog = (at_end (Kept link_pages z) 771 old new r.end run r.told).prog (λ page. refl);
        side = same_side t z r.end linking.stands r.linking.stands;
        same = r.same;
      };
    }
