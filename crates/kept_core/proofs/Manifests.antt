-- What MANIFEST does.
use Rattle.std.proofs.Common.{◌≡◌, ℕ, zero, suc, ◌+◌, ◌≤◌, ◌<◌, Bool, true, false, not, cond, ltb, ◌&&◌, List, [], ◌∷◌, ◌++◌, length, take, get_or, map, Option, Some, None, refl, sym, ap, ◌∙◌, subst, arith}
use Rattle.std.specs.List.{range_with_len}
use Rattle.std.proofs.lemmas.List.{take_more}
use Rattle.flash_pages.specs.State.{State}
use Rattle.flash_pages.specs.Board.{View}
use Rattle.flash_pages.specs.Moments.{LeavesOnly}
use Rattle.flash_pages.proofs.Runs.{weaker}
use Rattle.component_package.specs.declared.answer.Answer.{Answer}
use Rattle.component_package.specs.declared.answer.Answer.TheVariants as answers
use Rattle.component_package.specs.declared.manifest.Entry.{Entry}
use Rattle.kept_manifests.specs.declared.pages.SlotManifest.{SlotManifest}
use Rattle.component_package.specs.declared.manifest.ManifestFault.{ManifestFault}
use Rattle.component_package.specs.packages.Manifest.{Release, IsRelease, manifest_fault, number_of_manifest_fault, release_in, release_of}
use Rattle.kept_definitions.specs.Stored.{Placed, StoredRelease}
use Rattle.component_package.specs.packages.Reading.{list_of}
use Rattle.component_package.proofs.Lists.{list_of_more}
use Rattle.kept_manifests.specs.Slots.{no_entry, place_of, stored_of}
use Rattle.component_package.specs.mote.Store.{is_same_entry}
use Rattle.kept_definitions.specs.Kept.{slots_for}
use Rattle.kept_definitions.specs.Headline.{StandsFor}
use Rattle.kept_definitions.specs.Machine.{Mote, Step as MachineStep, is_incoming, held_count, manifest_is, take_manifest, refuses, step}
use Rattle.component_package.specs.mote.Machine.{is_same_entries}
use Rattle.mote_laws.specs.Runs.{is_refusal}
use Rattle.kept_journal.specs.declared.standing.Standing.{Standing}
use Rattle.kept_journal.specs.Steps.{parts, Stands, Step, Takes, Becomes, CanTake, takes_in, manifest_pages}
use Rattle.kept_journal.specs.Standing.{IsOfMote, incoming_of}
use Rattle.kept_definitions.specs.Sides.{Parts}
use Rattle.kept_core.specs.Reading.{frame_of}
use Rattle.kept_core.specs.Serving.{Serves, Kept, IsServed}
use Rattle.kept_core.proofs.Works.{first_part, step_keeps}
use Rattle.kept_core.proofs.Rows.{resting_row}

-- ---- the same entries

-- lists of the same entries are as long as each other
pub other_length : (xs ys : List Entry) → (length xs ≡ length ys → ⊥) → is_same_entries xs ys ≡ false
other_length [] [] other = absurd (other refl)
other_length [] (y ∷ ys) other = refl
other_length (x ∷ xs) [] other = refl
other_length (x ∷ xs) (y ∷ ys) other = first (is_same_entry x y) (other_length xs ys (λ same. other (ap suc same)))
  where
    first : (b : Bool) → is_same_entries xs ys ≡ false → (b && is_same_entries xs ys) ≡ false
    first true none = none
    first false none = refl

numbered : {X Y : Type 0} (f : X → Y) (g : ℕ → X) (ks : List ℕ) → map f (map g ks) ≡ map (λ k. f (g k)) ks
numbered f g [] = refl
numbered {X} {Y} f g (k ∷ ks) = ap (λ (ys : List Y). f (g k) ∷ ys) (numbered f g ks)

listed_front : (es : List Entry) (n : ℕ) → n ≤ length es → list_of (λ k. get_or es k no_entry) n ≡ take n es
listed_front es zero long = refl
listed_front es (suc n) long =
    let more : suc n ≡ n + 1 = omega arith in
    list_of_more (λ (k : ℕ). get_or es k no_entry) n ∙ ap (λ (l : List Entry). l ++ get_or es n no_entry ∷ []) (listed_front es n (omega arith))
    ∙ sym (ap (λ (k : ℕ). take k es) more ∙ take_more es n no_entry (omega arith))

-- the entries of a stored manifest are its manifest's
pub stored_entries : (m : SlotManifest) → m.manifest.count ≤ 16 → length m.manifest.entries ≡ 16 → map (λ p. p.entry) (stored_of m).placed ≡ (release_of m.manifest).entries
stored_entries m few long = numbered (λ (p : Placed). p.entry) (place_of m) (range_with_len 0 m.manifest.count) ∙ listed_front m.manifest.entries m.manifest.count (omega arith)

-- ---- rows

abbrev Of : Mote → List ℕ → MachineStep
Of t payload = step t (frame_of 1 payload)

pub manifest_bad : (t : Mote) (payload : List ℕ) (fault : ManifestFault) → t.standing ≡ false → manifest_fault payload ≡ Some fault → Of t payload ≡ refuses t (answers.BadManifest (number_of_manifest_fault fault))
manifest_bad t payload fault rests bad = resting_row t _ rests ∙ ap (λ (o : Option ManifestFault). take_manifest t o (release_in payload)) bad

module _ (t : Mote) (payload : List ℕ) (r : Release) (rests : t.standing ≡ false) (good : manifest_fault payload ≡ None) (is : r ≡ release_in payload) where
  -- the row of a manifest without a fault
  takes : Of t payload ≡ take_manifest t None r
  takes = resting_row t _ rests ∙ ap (λ (o : Option ManifestFault). take_manifest t o (release_in payload)) good ∙ ap (take_manifest t None) (sym is)

  abbrev otherwise : MachineStep
  otherwise = cond (is_incoming t.incoming r) (refuses t (manifest_is t r)) (record { mote = record t { incoming = Some (slots_for t.current.release r); linked = false }; answer = manifest_is t r })

  pub manifest_stale : (n : ℕ) → ltb t.current.release.number r.number ≡ false → n ≡ t.current.release.number → Of t payload ≡ refuses t (answers.Stale n)
  manifest_stale n old number = takes ∙ ap (λ (b : Bool). cond (not b) (refuses t (answers.Stale t.current.release.number)) otherwise) old ∙ ap (λ (k : ℕ). refuses t (answers.Stale k)) (sym number)

  above : ltb t.current.release.number r.number ≡ true → Of t payload ≡ otherwise
  above later = takes ∙ ap (λ (b : Bool). cond (not b) (refuses t (answers.Stale t.current.release.number)) otherwise) later

  pub manifest_same : (a : Answer) → ltb t.current.release.number r.number ≡ true → is_incoming t.incoming r ≡ true → a ≡ manifest_is t r → Of t payload ≡ refuses t a
  manifest_same a later same answer =
      above later ∙ ap (λ (b : Bool). cond b (refuses t (manifest_is t r)) (record { mote = record t { incoming = Some (slots_for t.current.release r); linked = false }; answer = manifest_is t r })) same
      ∙ ap (refuses t) (sym answer)

  pub manifest_new : ltb t.current.release.number r.number ≡ true → is_incoming t.incoming r ≡ false
      → Of t payload ≡ record { mote = record t { incoming = Some (slots_for t.current.release r); linked = false }; answer = manifest_is t r }
  manifest_new later other =
      above later ∙ ap (λ (b : Bool). cond b (refuses t (manifest_is t r)) (record { mote = record t { incoming = Some (slots_for t.current.release r); linked = false }; answer = manifest_is t r })) other

-- ---- the work

-- the release that is taken in comes next
pub comes_next : (t : Mote) (r : Release) (m : StoredRelease) → t.standing ≡ false → IsRelease r → t.current.release.number < r.number → m ≡ slots_for t.current.release r → CanTake m t
comes_next t r m rests release later slots = (rests, (r, release, later, slots))

pub manifest_works : (z : State) (t : Mote) (m : StoredRelease) (payload : List ℕ) (old new : View) → Stands z t → CanTake m t
    → Takes (Step (CanTake m) (manifest_pages (parts z)) z) (manifest_pages (parts z)) 10 old new → LeavesOnly (Serves t (frame_of 1 payload) z) 10 old new
manifest_works z t m payload old new stands can takes =
    first_part t (frame_of 1 payload) (manifest_pages (parts z)) z (λ place no. no) (λ rests page. refl) 10 10 old new (omega arith) stands
    (weaker (Step (CanTake m) (manifest_pages (parts z)) z) (Kept (manifest_pages (parts z)) z) 10 10 old new (omega arith) (λ x took. step_keeps (CanTake m) (manifest_pages (parts z)) t z x took stands can) takes.leaves)

pub manifest_does : (z : State) (t : Mote) (m : StoredRelease) (r : Release) (payload : List ℕ) (a : Answer) (q : Parts) (new : View) → Stands z t → CanTake m t → m ≡ slots_for t.current.release r
    → Of t payload ≡ record { mote = record t { incoming = Some (slots_for t.current.release r); linked = false }; answer = manifest_is t r } → a ≡ manifest_is t r
    → Becomes q (CanTake m) (takes_in m) z new → IsServed t (frame_of 1 payload) a z new
manifest_does z t m r payload a q new stands can slots row answer becomes = record {
  end = becomes.end;
  told = becomes.told;
  mote = subst (λ (x : MachineStep). StandsFor (parts becomes.end) x.mote) (sym row)
      (subst (λ (k : StoredRelease). StandsFor (parts becomes.end) (record t { incoming = Some k; linked = false })) slots (becomes.stands t stands can).mote);
  answer = answer ∙ sym (ap (λ (x : MachineStep). x.answer) row);
  refused = λ refusal. absurd (let told : is_refusal (manifest_is t r) ≡ true = ap is_refusal (sym answer) ∙ refusal in let q : ⊥ = cc in q);
}

-- what was read of the board says the same
pub held_is : (t : Mote) (a : Standing) (r : Release) (n : ℕ) → IsOfMote t a → n ≡ held_count (stored_of a.current) r.entries → answers.ManifestIs r.number n ≡ manifest_is t r
held_is t a r n is count = ap (λ (k : ℕ). answers.ManifestIs r.number k) (count ∙ ap (λ (m : StoredRelease). held_count m r.entries) is.current)

pub incoming_same : (t : Mote) (a : Standing) (r : Release) (b : Bool) → IsOfMote t a → b ≡ is_incoming (incoming_of a) r → is_incoming t.incoming r ≡ b
incoming_same t a r b is same = ap (λ (o : Option StoredRelease). is_incoming o r) (sym is.incoming) ∙ sym same
