-- What MANIFEST does.
use Rattle.std.proofs.Common.{◌≡◌, ℕ, zero, suc, ◌≤◌, ◌<◌, Bool, true, false, not, cond, ltb, ◌&&◌, List, [], ◌∷◌, length, take, map, Option, Some, None, refl, sym, ap, ◌∙◌, subst, arith}
use Rattle.std.specs.Prelude.{zip}
use Rattle.flash_pages.specs.State.{State}
use Rattle.flash_pages.specs.Board.{View}
use Rattle.flash_pages.specs.Moments.{LeavesOnly}
use Rattle.flash_pages.proofs.Runs.{weaker}
use Rattle.component_package.specs.declared.answer.Answer.{Answer}
use Rattle.component_package.specs.declared.answer.Answer.TheVariants as answers
use Rattle.component_package.specs.declared.manifest.Entry.{Entry}
use Rattle.component_package.specs.declared.manifest.SlotManifest.{SlotManifest}
use Rattle.component_package.specs.declared.manifest.ManifestFault.{ManifestFault}
use Rattle.component_package.specs.packages.Manifest.{Release, Placed, StoredRelease, IsRelease, manifest_fault, number_of_manifest_fault, release_in, release_of, stored_of}
use Rattle.component_package.specs.mote.Store.{is_same_entry, slots_for}
use Rattle.component_package.specs.mote.Headline.{StandsFor}
use Rattle.component_package.specs.mote.Machine.{Mote, Step as MachineStep, is_same_entries, is_incoming, held_count, manifest_is, take_manifest, refuses, step}
use Rattle.mote_laws.specs.Runs.{is_refusal}
use Rattle.install_journal.specs.declared.standing.Standing.{Standing}
use Rattle.install_journal.specs.Steps.{parts, Stands, Step, Takes, Becomes, CanTake, takes_in, manifest_pages}
use Rattle.install_journal.specs.Standing.{IsOfMote, incoming_of}
use Rattle.component_package.specs.mote.Sides.{Parts}
use Rattle.mote_core.specs.Reading.{frame_of}
use Rattle.mote_core.specs.Serving.{Serves, Kept, IsServed}
use Rattle.mote_core.proofs.Works.{first_part, step_keeps}
use Rattle.mote_core.proofs.Rows.{resting_row}

-- ---- the same entries

-- lists of the same entries are as long as each other
pub other_length : (xs ys : List Entry) → (length xs ≡ length ys → ⊥) → is_same_entries xs ys ≡ false
other_length [] [] other = absurd (other refl)
other_length [] (y ∷ ys) other = refl
other_length (x ∷ xs) [] other = refl
other_length (x ∷ xs) (y ∷ ys) other = first (is_same_entry x y) (other_length xs ys (λ same. other (ap suc same)))
  where
    first : (b : Bool) → is_same_entries xs ys ≡ false → (b && is_same_entries xs ys) ≡ false
    first true none = none
    first false none = refl

-- the entries of a stored manifest are its manifest's
placed_entries : (n : ℕ) (es : List Entry) (ss : List ℕ) → n ≤ length es → n ≤ length ss
    → map (λ p. p.entry) (map (λ x. let q : Placed = record { entry = x.0; slot = x.1 } in q) (zip (take n es) (take n ss))) ≡ take n es
placed_entries zero es ss long wide = refl
placed_entries (suc n) [] ss long wide = absurd (omega arith)
placed_entries (suc n) (e ∷ es) [] long wide = absurd (omega arith)
placed_entries (suc n) (e ∷ es) (s ∷ ss) long wide = ap (λ (xs : List Entry). e ∷ xs) (placed_entries n es ss (omega arith) (omega arith))

pub stored_entries : (m : SlotManifest) → m.manifest.count ≤ 16 → length m.manifest.entries ≡ 16 → length m.slots ≡ 16 → map (λ p. p.entry) (stored_of m).placed ≡ (release_of m.manifest).entries
stored_entries m few long wide = placed_entries m.manifest.count m.manifest.entries m.slots (omega arith) (omega arith)

-- ---- rows

abbrev Of : Mote → List ℕ → MachineStep
Of t payload = step t (frame_of 1 payload)

pub manifest_bad : (t : Mote) (payload : List ℕ) (fault : ManifestFault) → t.standing ≡ false → manifest_fault payload ≡ Some fault → Of t payload ≡ refuses t (answers.BadManifest (number_of_manifest_fault fault))
manifest_bad t payload fault rests bad = resting_row t _ rests ∙ ap (λ (o : Option ManifestFault). take_manifest t o (release_in payload)) bad

module _ (t : Mote) (payload : List ℕ) (r : Release) (rests : t.standing ≡ false) (good : manifest_fault payload ≡ None) (is : r ≡ release_in payload) where
  -- the row of a manifest without a fault
  takes : Of t payload ≡ take_manifest t None r
  takes = resting_row t _ rests ∙ ap (λ (o : Option ManifestFault). take_manifest t o (release_in payload)) good ∙ ap (take_manifest t None) (sym is)

  abbrev otherwise : MachineStep
  otherwise = cond (is_incoming t.incoming r) (refuses t (manifest_is t r)) (record { mote = record t { incoming = Some (slots_for t.current r); linked = false }; answer = manifest_is t r })

  pub manifest_stale : (n : ℕ) → ltb t.current.number r.number ≡ false → n ≡ t.current.number → Of t payload ≡ refuses t (answers.Stale n)
  manifest_stale n old number = takes ∙ ap (λ (b : Bool). cond (not b) (refuses t (answers.Stale t.current.number)) otherwise) old ∙ ap (λ (k : ℕ). refuses t (answers.Stale k)) (sym number)

  above : ltb t.current.number r.number ≡ true → Of t payload ≡ otherwise
  above later = takes ∙ ap (λ (b : Bool). cond (not b) (refuses t (answers.Stale t.current.number)) otherwise) later

  pub manifest_same : (a : Answer) → ltb t.current.number r.number ≡ true → is_incoming t.incoming r ≡ true → a ≡ manifest_is t r → Of t payload ≡ refuses t a
  manifest_same a later same answer =
      above later ∙ ap (λ (b : Bool). cond b (refuses t (manifest_is t r)) (record { mote = record t { incoming = Some (slots_for t.current r); linked = false }; answer = manifest_is t r })) same
      ∙ ap (refuses t) (sym answer)

  pub manifest_new : ltb t.current.number r.number ≡ true → is_incoming t.incoming r ≡ false
      → Of t payload ≡ record { mote = record t { incoming = Some (slots_for t.current r); linked = false }; answer = manifest_is t r }
  manifest_new later other =
      above later ∙ ap (λ (b : Bool). cond b (refuses t (manifest_is t r)) (record { mote = record t { incoming = Some (slots_for t.current r); linked = false }; answer = manifest_is t r })) other

-- ---- the work

-- the release that is taken in comes next
pub comes_next : (t : Mote) (r : Release) (m : StoredRelease) → t.standing ≡ false → IsRelease r → t.current.number < r.number → m ≡ slots_for t.current r → CanTake m t
comes_next t r m rests release later slots = (rests, (r, release, later, slots))

pub manifest_works : (z : State) (t : Mote) (m : StoredRelease) (payload : List ℕ) (old new : View) → Stands z t → CanTake m t
    → Takes (Step (CanTake m) (manifest_pages (parts z)) z) (manifest_pages (parts z)) 10 old new → LeavesOnly (Serves t (frame_of 1 payload) z) 10 old new
manifest_works z t m payload old new stands can takes =
    first_part t (frame_of 1 payload) (manifest_pages (parts z)) z (λ place no. no) (λ rests page. refl) 10 10 old new (omega arith) stands
    (weaker (Step (CanTake m) (manifest_pages (parts z)) z) (Kept (manifest_pages (parts z)) z) 10 10 old new (omega arith) (λ x took. step_keeps (CanTake m) (manifest_pages (parts z)) t z x took stands can) takes.leaves)

pub manifest_does : (z : State) (t : Mote) (m : StoredRelease) (r : Release) (payload : List ℕ) (a : Answer) (q : Parts) (new : View) → Stands z t → CanTake m t → m ≡ slots_for t.current r
    → Of t payload ≡ record { mote = record t { incoming = Some (slots_for t.current r); linked = false }; answer = manifest_is t r } → a ≡ manifest_is t r
    → Becomes q (CanTake m) (takes_in m) z new → IsServed t (frame_of 1 payload) a z new
manifest_does z t m r payload a q new stands can slots row answer becomes = record {
  end = becomes.end;
  told = becomes.told;
  mote = subst (λ (x : MachineStep). StandsFor (parts becomes.end) x.mote) (sym row)
      (subst (λ (k : StoredRelease). StandsFor (parts becomes.end) (record t { incoming = Some k; linked = false })) slots (becomes.stands t stands can).mote);
  answer = answer ∙ sym (ap (λ (x : MachineStep). x.answer) row);
  refused = λ refusal. absurd (let told : is_refusal (manifest_is t r) ≡ true = ap is_refusal (sym answer) ∙ refusal in let q : ⊥ = cc in q);
}

-- what was read of the board says the same
pub held_is : (t : Mote) (a : Standing) (r : Release) (n : ℕ) → IsOfMote t a → n ≡ held_count (stored_of a.current) r.entries → answers.ManifestIs r.number n ≡ manifest_is t r
held_is t a r n is count = ap (λ (k : ℕ). answers.ManifestIs r.number k) (count ∙ ap (λ (m : StoredRelease). held_count m r.entries) is.current)

pub incoming_same : (t : Mote) (a : Standing) (r : Release) (b : Bool) → IsOfMote t a → b ≡ is_incoming (incoming_of a) r → is_incoming t.incoming r ≡ b
incoming_same t a r b is same = ap (λ (o : Option StoredRelease). is_incoming o r) (sym is.incoming) ∙ sym same
