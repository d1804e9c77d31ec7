-- Updates install: the manifest, the pieces, and what then is linked and committed.
use Rattle.std.proofs.Common.{◌≡◌, ℕ, suc, ◌+◌, ◌<◌, ◌≤◌, ◌&&◌, ◌||◌, Bool, true, false, not, cond, eqb, ltb, List, [], ◌∷◌, ◌++◌, length, take, drop, get_or, set, map, filter, Option, Some, None, is_some, slice_get, refl, sym, ap, ◌∙◌, subst, arith, length-set}
use Rattle.std.specs.Prelude.{find}
use Rattle.std.specs.List.{AllByRecursion}
use Rattle.std.specs.Option.{option_map}
use Rattle.std.proofs.lemmas.Bool.{cond-true, cond-false, eqb-false, not_from_false, lt-ltb, eq-eqb, eqb-true, ne_eqb, and_from, and_parts, and_left, and_right, or_parts, both_ways, false≢true, true≢false, not_from_true}
use Rattle.std.proofs.lemmas.List.{length-take-le}
use Rattle.std.proofs.lemmas.Simd.{map-map}
use Rattle.sha2.specs.Sha256.{sha256}
use Rattle.avr_reloc.specs.Field.{AreBytes}
use Rattle.component_package.specs.declared.answer.Answer.{Answer}
use Rattle.component_package.specs.declared.answer.Answer.TheVariants as answers
use Rattle.component_package.specs.declared.frames.TheConstants.{LINK, COMMIT, END}
use Rattle.component_package.specs.declared.manifest.Entry.{Entry}
use Rattle.component_package.specs.declared.manifest.ManifestFault.{ManifestFault}
use Rattle.component_package.specs.packages.Component.{Component, spelling}
use Rattle.component_package.specs.packages.Reading.{component_of}
use Rattle.component_package.specs.packages.Grammar.{Spells}
use Rattle.component_package.specs.link.Link.{Cause, link_cause}
use Rattle.component_package.specs.packages.Manifest.{Release, StoredRelease, Placed, IsManifestEntry, IsRelease, IsStored, SpellsRelease, released, manifest_bytes, release_in}
use Rattle.component_package.specs.mote.Store.{SetFault, HoldsPackage, HasSet, components_of, held_slot, is_taken, is_same_entry, package_in, slots_for}
use Rattle.component_package.specs.mote.Frames.{Frame}
use Rattle.component_package.specs.mote.Machine.{Mote, Step, step, refuses, Chosen, mote_from, answers_from, commits_from, session_commits, commits, chosen_of, boot_frame, is_incoming, is_same_entries, held_count, manifest_is, take_manifest, link_held, link_set}
use Rattle.update_laws.specs.Update.{Delivered, entry_of, release_of_packages, bare_frame, manifest_frame, has_version, pieces_from, pieces_answers, update_frames, update_answers, IsDelivered, IsUpdate, components_in, AreOneVersion, AgreeOnVersions, HasRelease}
use Rattle.component_package.proofs.Laws.{faultless_bytes_spell}
use Rattle.update_laws.proofs.Deliveries.{good_release, updates_are_frames}
use Rattle.update_laws.proofs.SpelledBytes.{spelled_bytes}
use Rattle.component_package.proofs.ManifestLaws.{faultless_manifests_spell}
use Rattle.mote_laws.specs.Formatted.{formatted_mote}
use Rattle.mote_laws.specs.Invariant.{ComesNext, IsMote, AreByteFrames}
use Rattle.update_laws.specs.Laws.{IsAt, IsUpdated, UpdatesInstall, AreSlots, SetIsTheRelease, ReleasesStay}
use Rattle.mote_laws.proofs.Sets.{same_lists_are, is_same_itself, sets_are_faultless}
use Rattle.mote_laws.proofs.Slots.{slots_are_found}
use Rattle.mote_laws.proofs.Runs.{runs_join}
use Rattle.mote_laws.proofs.Kept.{package_kept}
use Rattle.mote_laws.proofs.Rows.{each_row}
use Rattle.mote_laws.proofs.Invariant.{next_unused, comes_some, motes_stay_motes}
use Rattle.update_laws.proofs.Pieces.{coming, commits_none, AreReady, RanAll, all_run}

-- ---- entries

-- an entry is the same as itself
same_itself : (e : Entry) → is_same_entry e e ≡ true
same_itself e = and_from _ _ (and_from _ _ (and_from _ _ (eq-eqb e.component e.component refl) (eq-eqb e.version e.version refl)) (eq-eqb e.length e.length refl)) (is_same_itself e.digest)

-- and what is the same is equal
same_entry : (e f : Entry) → is_same_entry e f ≡ true → e ≡ f
same_entry e f same =
    let three = and_parts _ _ same in
    let two = and_parts _ _ three.0 in
    let one = and_parts _ _ two.0 in
    let component = eqb-true e.component f.component one.0 in
    let version = eqb-true e.version f.version one.1 in
    let width = eqb-true e.length f.length two.1 in
    let digest = same_lists_are e.digest f.digest three.1 in
    λ i. record { component = component i; version = version i; length = width i; digest = digest i }

same_all : (es fs : List Entry) → is_same_entries es fs ≡ true → es ≡ fs
same_all [] [] same = refl
same_all [] (f ∷ fs) same = absurd (false≢true same)
same_all (e ∷ es) [] same = absurd (false≢true same)
same_all (e ∷ es) (f ∷ fs) same =
    let parts = and_parts (is_same_entry e f) (is_same_entries es fs) same in
    let first = same_entry e f parts.0 in
    let rest = same_all es fs parts.1 in
    λ i. first i ∷ rest i

-- the first elements of equal lists, and what is behind them
first_is : {X : Type 0} (x y : X) (xs ys : List X) → x ∷ xs ≡ y ∷ ys → x ≡ y
first_is {X} x y xs ys same = ap (λ (zs : List X). get_or zs 0 x) same

rest_is : {X : Type 0} (x y : X) (xs ys : List X) → x ∷ xs ≡ y ∷ ys → xs ≡ ys
rest_is {X} x y xs ys same = ap (λ (zs : List X). drop 1 zs) same

-- ---- what the older release has

module _ (store : List (List ℕ)) (d : Delivered) where
  -- the two are one version
  abbrev is_version : Delivered → Bool
  is_version o = eqb o.component d.component && eqb o.version d.version

  -- an entry in the older release
  record Held (ps : List Placed) : Type 0 where
    place : Placed
    found : find (λ p. is_same_entry p.entry (entry_of d)) ps ≡ Some place
    bytes : take (length d.bytes) (get_or store place.slot []) ≡ d.bytes

  -- the same version has the same entry
  version_entry : (o : Delivered) → AreOneVersion d o → is_version o ≡ true → entry_of o ≡ entry_of d
  version_entry o agree is =
      let parts = and_parts _ _ is in
      let component = eqb-true o.component d.component parts.0 in
      let version = eqb-true o.version d.version parts.1 in
      let bytes = agree component version in
      λ i. record { component = component i; version = version i; length = length (bytes i); digest = sha256 (bytes i) }

  -- another version has another one
  other_entry : (e : Entry) (o : Delivered) → e ≡ entry_of o → is_version o ≡ false → is_same_entry e (entry_of d) ≡ false
  other_entry e o entry other = ap (λ (f : Entry). is_same_entry f (entry_of d)) entry ∙ and_left _ _ (and_left _ _ other)

  -- what the older release has in the same version is held
  held_by : (ps : List Placed) (os : List Delivered) → map (λ p. p.entry) ps ≡ map entry_of os → map (package_in store) ps ≡ map (λ o. o.bytes) os
      → AllByRecursion (AreOneVersion d) os → has_version os d ≡ true → Held ps
  held_by [] [] entries packages agree has = absurd (false≢true has)
  held_by [] (o ∷ os) entries packages agree has = absurd cc
  held_by (p ∷ ps) [] entries packages agree has = absurd cc
  held_by (p ∷ ps) (o ∷ os) entries packages agree has =
      by (is_version o) refl (λ (rest : has_version os d ≡ true). held_by ps os (rest_is p.entry (entry_of o) _ _ entries) (rest_is (package_in store p) o.bytes _ _ packages) agree.1 rest)
    where
      entry : p.entry ≡ entry_of o
      entry = first_is p.entry (entry_of o) _ _ entries

      by : (b : Bool) → is_version o ≡ b → (has_version os d ≡ true → Held ps) → Held (p ∷ ps)
      by true is later =
          let same : p.entry ≡ entry_of d = entry ∙ version_entry o agree.0 is in
          let parts = and_parts _ _ is in
          let bytes : o.bytes ≡ d.bytes = agree.0 (eqb-true o.component d.component parts.0) (eqb-true o.version d.version parts.1) in
          record {
            place = p;
            found = cond-true _ _ _ (ap (λ (f : Entry). is_same_entry f (entry_of d)) same ∙ same_itself (entry_of d));
            bytes = sym (ap (λ (f : Entry). take f.length (get_or store p.slot [])) same) ∙ first_is (package_in store p) o.bytes _ _ packages ∙ bytes;
          }
      by false other later =
          let rest = later (sym (ap (λ (b : Bool). b || has_version os d) other) ∙ has) in
          record { place = rest.place; found = cond-false _ _ _ (other_entry p.entry o entry other) ∙ rest.found; bytes = rest.bytes }

  -- and what it hasn't isn't
  new_by : (ps : List Placed) (os : List Delivered) → map (λ p. p.entry) ps ≡ map entry_of os → has_version os d ≡ false → find (λ p. is_same_entry p.entry (entry_of d)) ps ≡ None
  new_by [] os entries none = refl
  new_by (p ∷ ps) [] entries none = absurd cc
  new_by (p ∷ ps) (o ∷ os) entries none =
      let parts = or_parts (is_version o) (has_version os d) none in
      cond-false _ _ _ (other_entry p.entry o (first_is p.entry (entry_of o) _ _ entries) parts.0) ∙ new_by ps os (rest_is p.entry (entry_of o) _ _ entries) parts.1

-- a release that slots hold, and the packages of a release
module _ (c : StoredRelease) (store : List (List ℕ)) (olds : List Delivered) (entries : map (λ p. p.entry) c.placed ≡ map entry_of olds) (packages : map (package_in store) c.placed ≡ map (λ o. o.bytes) olds) where
  held_is : (d : Delivered) → AllByRecursion (AreOneVersion d) olds → is_some (held_slot c (entry_of d)) ≡ has_version olds d
  held_is d agree = by (has_version olds d) refl
    where
      by : (b : Bool) → has_version olds d ≡ b → is_some (held_slot c (entry_of d)) ≡ has_version olds d
      by true has = ap (λ (o : Option Placed). is_some (option_map (λ (p : Placed). p.slot) o)) (held_by store d c.placed olds entries packages agree has).found ∙ sym has
      by false none = ap (λ (o : Option Placed). is_some (option_map (λ (p : Placed). p.slot) o)) (new_by store d c.placed olds entries none) ∙ sym none

  -- how many are held
  count_step : (b k : Bool) (e : Entry) (es : List Entry) (d : Delivered) (ds : List Delivered) → b ≡ k → length es ≡ length ds → length (cond b (e ∷ es) es) ≡ length (cond k (d ∷ ds) ds)
  count_step true true e es d ds same rest = ap suc rest
  count_step true false e es d ds same rest = absurd (true≢false same)
  count_step false true e es d ds same rest = absurd (false≢true same)
  count_step false false e es d ds same rest = rest

  count_is : (ds : List Delivered) → AgreeOnVersions olds ds → held_count c (map entry_of ds) ≡ length (filter (has_version olds) ds)
  count_is [] agree = refl
  count_is (d ∷ ds) agree = count_step (is_some (held_slot c (entry_of d))) (has_version olds d) (entry_of d) _ d _ (held_is d agree.0) (count_is ds agree.1)

  -- the entries over it are ready
  ready_from : (r : Release) (k : ℕ) (ps : List Placed) (ds : List Delivered) → map (λ p. p.entry) ps ≡ map entry_of ds
      → ((j : ℕ) (p : Placed) → slice_get ps j ≡ Some p → slice_get (slots_for c r).placed (k + j) ≡ Some p) → AllByRecursion (λ p. p.slot < 32) ps → AllByRecursion IsDelivered ds
      → AgreeOnVersions olds ds → AreReady c olds store ps ds
  ready_from r k [] [] same at small delivered agree = tt
  ready_from r k [] (d ∷ ds) same at small delivered agree = absurd cc
  ready_from r k (p ∷ ps) [] same at small delivered agree = absurd cc
  ready_from r k (p ∷ ps) (d ∷ ds) same at small delivered agree = (
    record {
      entry = entry;
      held = λ has.
          let held = held_by store d c.placed olds entries packages agree.0 has in
          let slot : p.slot ≡ held.place.slot = slots_are_found.held c r (k + 0) p held.place.slot (at 0 p refl) (ap (held_slot c) entry ∙ ap (option_map (λ (p : Placed). p.slot)) held.found) in
          ap (λ (e : Entry). take e.length (get_or store p.slot [])) entry ∙ ap (λ (n : ℕ). take (length d.bytes) (get_or store n [])) slot ∙ held.bytes;
      new = λ none. ap (λ (e : Entry). is_some (held_slot c e)) entry ∙ held_is d agree.0 ∙ none;
      small = small.0;
      are = spelled_bytes d.bytes _ delivered.0.spelled;
    },
    ready_from r (k + 1) ps ds (rest_is p.entry (entry_of d) _ _ same)
        (λ j q is. let sum : k + suc j ≡ (k + 1) + j = omega arith in subst (λ (n : ℕ). slice_get (slots_for c r).placed n ≡ Some q) sum (at (suc j) q is)) small.1 delivered.1 agree.1,
  )
    where
      entry : p.entry ≡ entry_of d
      entry = first_is p.entry (entry_of d) _ _ same

-- ---- MANIFEST

-- what comes in with the same number and entries has the same slots
incoming_is : (c : StoredRelease) (o : Option StoredRelease) (r : Release) → ComesNext c o → is_incoming o r ≡ true → o ≡ Some (slots_for c r)
incoming_is c None r next same = absurd (false≢true same)
incoming_is c (Some m) r (q, release, above, is) same =
    let parts = and_parts _ _ same in
    let number = eqb-true m.number r.number parts.0 in
    let entries = same_all (map (λ p. p.entry) m.placed) r.entries parts.1 in
    let whole : released m ≡ r = (λ i. record { number = number i; entries = entries i }) in
    let one : q ≡ r = sym (slots_are_found.released c q) ∙ sym (ap released is) ∙ whole in
    ap Some (is ∙ ap (slots_for c) one)

-- a manifest of a later release, whatever comes in
manifest_step : (s : Mote) (r : Release) → IsMote s → s.standing ≡ false → IsRelease r → s.current.number < r.number
    → (linked : Bool) × (step s (manifest_frame r) ≡ record { mote = coming s.current (slots_for s.current r) s.store linked; answer = manifest_is s r })
manifest_step s r mote calm release later = by (is_incoming s.incoming r) refl
  where
    new : Mote
    new = record s { incoming = Some (slots_for s.current r); linked = false }

    far : step s (manifest_frame r) ≡ cond (is_incoming s.incoming r) (refuses s (manifest_is s r)) (record { mote = new; answer = manifest_is s r })
    far =
        let spelled : SpellsRelease (manifest_bytes r) r = record { release = release; bytes = refl } in
        cond-false s.standing _ _ calm
        ∙ ap (λ (fault : Option ManifestFault). take_manifest s fault (release_in (manifest_bytes r))) (faultless_manifests_spell.faultless (manifest_bytes r) r spelled)
        ∙ ap (take_manifest s None) (faultless_manifests_spell.said (manifest_bytes r) r spelled)
        ∙ cond-false (not (ltb s.current.number r.number)) _ _ (not_from_true _ (lt-ltb s.current.number r.number later))

    by : (b : Bool) → is_incoming s.incoming r ≡ b → (linked : Bool) × (step s (manifest_frame r) ≡ record { mote = coming s.current (slots_for s.current r) s.store linked; answer = manifest_is s r })
    by true same =
        let comes = incoming_is s.current s.incoming r mote.incoming same in (
          s.linked,
          far ∙ cond-true _ _ _ same
              ∙ (λ i. record { mote = record { current = s.current; incoming = comes i; store = s.store; linked = s.linked; standing = calm i }; answer = manifest_is s r }),
        )
    by false other = (
      false,
      far ∙ cond-false _ _ _ other
          ∙ (λ i. record { mote = record { current = s.current; incoming = Some (slots_for s.current r); store = s.store; linked = false; standing = calm i }; answer = manifest_is s r }),
    )

-- ---- LINK, COMMIT and END

-- the frames behind the pieces
abbrev last : List Frame
last = bare_frame LINK ∷ bare_frame COMMIT ∷ bare_frame END ∷ []

-- a mote for which a commit stands
abbrev committed : StoredRelease → List (List ℕ) → Mote
committed m store = record { current = m; incoming = None; store = store; linked = false; standing = true }

-- LINK of a whole set that nothing refuses
link_step : (c m : StoredRelease) (store : List (List ℕ)) (linked : Bool) → HasSet store m → link_cause (components_of store m) ≡ None
    → step (coming c m store linked) (bare_frame LINK) ≡ record { mote = coming c m store true; answer = answers.Linked m.number }
link_step c m store true has free = refl
link_step c m store false has free =
    ap (λ (fault : Option SetFault). link_held (coming c m store false) m fault) (sets_are_faultless.faultless store m has)
    ∙ ap (λ (cause : Option Cause). link_set (coming c m store false) m.number cause) free

last_answers : (c m : StoredRelease) (store : List (List ℕ)) (linked : Bool) → HasSet store m → link_cause (components_of store m) ≡ None
    → answers_from (coming c m store linked) last ≡ answers.Linked m.number ∷ answers.Committed m.number ∷ answers.Ended ∷ []
last_answers c m store linked has free = ap (λ (x : Step). x.answer ∷ answers_from x.mote (bare_frame COMMIT ∷ bare_frame END ∷ [])) (link_step c m store linked has free)

last_mote : (c m : StoredRelease) (store : List (List ℕ)) (linked : Bool) → HasSet store m → link_cause (components_of store m) ≡ None
    → mote_from (coming c m store linked) last ≡ committed m store
last_mote c m store linked has free = ap (λ (x : Step). mote_from x.mote (bare_frame COMMIT ∷ bare_frame END ∷ [])) (link_step c m store linked has free)

last_commits : (c m : StoredRelease) (store : List (List ℕ)) (linked : Bool) → HasSet store m → link_cause (components_of store m) ≡ None
    → commits_from (coming c m store linked) last ≡ chosen_of (committed m store) ∷ []
last_commits c m store linked has free =
    commits_none (coming c m store linked) (bare_frame LINK) (bare_frame COMMIT ∷ bare_frame END ∷ []) (coming c m store true) (answers.Linked m.number) (link_step c m store linked has free) refl

-- slots with the packages hold the set
set_held : (store : List (List ℕ)) (ps : List Placed) (ds : List Delivered) → map (λ p. p.entry) ps ≡ map entry_of ds → map (package_in store) ps ≡ map (λ d. d.bytes) ds
    → AllByRecursion IsDelivered ds → AllByRecursion (HoldsPackage store) ps
set_held store [] [] entries packages delivered = tt
set_held store [] (d ∷ ds) entries packages delivered = tt
set_held store (p ∷ ps) [] entries packages delivered = absurd cc
set_held store (p ∷ ps) (d ∷ ds) entries packages delivered =
    let entry : p.entry ≡ entry_of d = first_is p.entry (entry_of d) _ _ entries in
    let bytes : package_in store p ≡ d.bytes = first_is (package_in store p) d.bytes _ _ packages in (
      record {
        digest = ap sha256 bytes ∙ sym (ap (λ (e : Entry). e.digest) entry);
        component = component_of d.bytes;
        spelled = subst (λ (b : List ℕ). Spells b (component_of d.bytes)) (sym bytes) delivered.0.spelled;
        number = delivered.0.component ∙ sym (ap (λ (e : Entry). e.component) entry);
        version = delivered.0.version ∙ sym (ap (λ (e : Entry). e.version) entry);
      },
      set_held store ps ds (rest_is p.entry (entry_of d) _ _ entries) (rest_is (package_in store p) d.bytes _ _ packages) delivered.1,
    )

-- ---- the update

module _ (s : Mote) (have number : ℕ) (olds news : List Delivered) (at : IsAt s have olds) (calm : s.standing ≡ false) (up : IsUpdate have olds number news) where
  abbrev release : Release
  release = release_of_packages number news

  abbrev next : StoredRelease
  next = slots_for s.current release

  abbrev pieces : List Frame
  pieces = pieces_from olds 0 news

  old_number : s.current.number ≡ have
  old_number = ap (λ (r : Release). r.number) at.has.release

  old_entries : map (λ p. p.entry) s.current.placed ≡ map entry_of olds
  old_entries = ap (λ (r : Release). r.entries) at.has.release

  stored : IsStored next
  stored = slots_are_found.stored s.current release at.mote.current (good_release have number olds news up)

  new_release : released next ≡ release
  new_release = slots_are_found.released s.current release

  new_entries : map (λ p. p.entry) next.placed ≡ map entry_of news
  new_entries = ap (λ (r : Release). r.entries) new_release

  first : (linked : Bool) × (step s (manifest_frame release) ≡ record { mote = coming s.current next s.store linked; answer = manifest_is s release })
  first = manifest_step s release at.mote calm (good_release have number olds news up) (let later : have < number = up.later in omega (arith, old_number))

  run : RanAll s.current next olds pieces (pieces_answers olds 0 news) next.placed news s.store first.0
  run =
      let place : (j : ℕ) (p : Placed) → slice_get next.placed j ≡ Some p → slice_get next.placed (0 + j) ≡ Some p =
      (λ j p is. let sum : j ≡ 0 + j = omega arith in subst (λ (n : ℕ). slice_get next.placed n ≡ Some p) sum is) in
      all_run s.current next olds 0 next.placed news s.store first.0 place stored.apart at.slots
      (ready_from s.current s.store olds old_entries at.has.packages release 0 next.placed news new_entries place stored.slots up.delivered up.agree)

  holds : HasSet run.after next
  holds = set_held run.after next.placed news new_entries run.here up.delivered

  components : components_of run.after next ≡ components_in news
  components =
      sym (map-map component_of (package_in run.after) next.placed) ∙ ap (λ (bs : List (List ℕ)). map component_of bs) run.here ∙ map-map component_of (λ (d : Delivered). d.bytes) news

  free : link_cause (components_of run.after next) ≡ None
  free = ap link_cause components ∙ up.free

  frames_are : update_frames have olds number news ≡ manifest_frame release ∷ (pieces ++ last)
  frames_are = cond-false (eqb have number) _ _ (ne_eqb have number (λ same. let later : have < number = up.later in omega arith))

  all_answers : answers_from s (update_frames have olds number news) ≡ update_answers olds number news
  all_answers =
      ap (λ (fs : List Frame). answers_from s fs) frames_are
      ∙ ap (λ (x : Step). x.answer ∷ answers_from x.mote (pieces ++ last)) first.1
      ∙ ap (λ (said : List Answer). manifest_is s release ∷ said)
      (runs_join.answers (coming s.current next s.store first.0) pieces last
      ∙ ap (λ (said : List Answer). said ++ answers_from (mote_from (coming s.current next s.store first.0) pieces) last) run.answers
      ∙ ap (λ (said : List Answer). pieces_answers olds 0 news ++ said) (ap (λ (t : Mote). answers_from t last) run.mote ∙ last_answers s.current next run.after run.link holds free))
      ∙ ap (λ (n : ℕ). answers.ManifestIs number n ∷ (pieces_answers olds 0 news ++ answers.Linked number ∷ answers.Committed number ∷ answers.Ended ∷ []))
      (count_is s.current s.store olds old_entries at.has.packages news up.agree)

  all_mote : mote_from s (update_frames have olds number news) ≡ committed next run.after
  all_mote =
      ap (λ (fs : List Frame). mote_from s fs) frames_are
      ∙ ap (λ (x : Step). mote_from x.mote (pieces ++ last)) first.1
      ∙ runs_join.mote (coming s.current next s.store first.0) pieces last
      ∙ ap (λ (t : Mote). mote_from t last) run.mote
      ∙ last_mote s.current next run.after run.link holds free

  -- one commit comes to stand, at COMMIT
  all_commits : commits_from s (update_frames have olds number news) ≡ chosen_of (mote_from s (update_frames have olds number news)) ∷ []
  all_commits =
      ap (λ (fs : List Frame). commits_from s fs) frames_are
      ∙ commits_none s (manifest_frame release) (pieces ++ last) (coming s.current next s.store first.0) (manifest_is s release) first.1 refl
      ∙ runs_join.commits (coming s.current next s.store first.0) pieces last
      ∙ ap (λ (cs : List Chosen). cs ++ commits_from (mote_from (coming s.current next s.store first.0) pieces) last) run.commits
      ∙ ap (λ (t : Mote). commits_from t last) run.mote
      ∙ last_commits s.current next run.after run.link holds free
      ∙ ap (λ (t : Mote). chosen_of t ∷ []) (sym all_mote)

  is_mote : IsMote (committed next run.after)
  is_mote = record { bytes = run.all at.mote.bytes; current = stored; set = holds; free = free; incoming = tt; linked = λ linked. absurd (false≢true linked) }

  is_updated : IsUpdated (mote_from s (update_frames have olds number news)) number news
  is_updated = subst (λ (t : Mote). IsUpdated t number news) (sym all_mote) (record {
    at = record { mote = is_mote; slots = run.size ∙ at.slots; has = record { release = new_release; packages = run.here } };
    set = components;
    standing = refl;
  })

-- ---- a session boots first

-- a mote after its boot
abbrev booted : Mote → Mote
booted s = record s { standing = false }

-- BOOT brings no commit to stand
booted_commits : (s : Mote) (fs : List Frame) → session_commits s fs ≡ commits_from (booted s) fs
booted_commits s fs = cond-false _ _ _ (and_right (not s.standing) false refl)

booted_at : (s : Mote) (have : ℕ) (olds : List Delivered) → IsAt s have olds → IsAt (booted s) have olds
booted_at s have olds at = record { mote = motes_stay_motes.each s boot_frame (λ i. omega arith) at.mote; slots = at.slots; has = record { release = at.has.release; packages = at.has.packages } }

pub updates_install : UpdatesInstall
updates_install = record {
  calm = λ s have number olds news at calm up. record {
    answered = all_answers s have number olds news at calm up;
    updated = is_updated s have number olds news at calm up;
    chosen = all_commits s have number olds news at calm up;
  };
  session = λ s have number olds news at up. record {
    answered = ap (λ (n : ℕ). answers.Booted n ∷ answers_from (booted s) (update_frames have olds number news)) (ap (λ (r : Release). r.number) at.has.release)
        ∙ ap (λ (said : List Answer). answers.Booted have ∷ said) (all_answers (booted s) have number olds news (booted_at s have olds at) refl up);
    updated = is_updated (booted s) have number olds news (booted_at s have olds at) refl up;
    chosen = booted_commits s (update_frames have olds number news) ∙ all_commits (booted s) have number olds news (booted_at s have olds at) refl up;
  };
  same = λ s number olds news.
      let only : update_frames number olds number news ≡ bare_frame END ∷ [] = updates_are_frames.none number olds news in
      (ap (λ (fs : List Frame). answers_from s fs) only, ap (λ (fs : List Frame). mote_from s fs) only);
}

-- ---- a set is its release's packages

module _ (store : List (List ℕ)) (slots : AreSlots store) where
  -- a component that a slot's package spells has one spelling
  same_package : (p : Placed) (d : Delivered) → HoldsPackage store p → IsDelivered d → component_of (package_in store p) ≡ component_of d.bytes → package_in store p ≡ d.bytes
  same_package p d holds is same =
      let said : component_of (package_in store p) ≡ holds.component = faultless_bytes_spell.said (package_in store p) holds.component holds.spelled in
      holds.spelled.bytes ∙ ap spelling (sym said ∙ same) ∙ sym is.spelled.bytes

  -- and its entry is the package's
  same_delivery : (p : Placed) (d : Delivered) → HoldsPackage store p → IsDelivered d → p.slot < 32 → p.entry.length ≤ 9984 → component_of (package_in store p) ≡ component_of d.bytes → p.entry ≡ entry_of d
  same_delivery p d holds is low most same =
      let said : component_of (package_in store p) ≡ holds.component = faultless_bytes_spell.said (package_in store p) holds.component holds.spelled in
      let bytes : package_in store p ≡ d.bytes = same_package p d holds is same in
      let component : p.entry.component ≡ d.component = sym holds.number ∙ ap (λ (c : Component). c.component) (sym said ∙ same) ∙ is.component in
      let version : p.entry.version ≡ d.version = sym holds.version ∙ ap (λ (c : Component). c.version) (sym said ∙ same) ∙ is.version in
      let room : length (get_or store p.slot []) ≡ 9984 = slots.each p.slot low in
      let width : p.entry.length ≡ length d.bytes = sym (length-take-le p.entry.length (get_or store p.slot []) (omega arith)) ∙ ap (λ (b : List ℕ). length b) bytes in
      let digest : p.entry.digest ≡ sha256 d.bytes = sym holds.digest ∙ ap sha256 bytes in
      λ i. record { component = component i; version = version i; length = width i; digest = digest i }

  -- the same of all
  same_deliveries : (ps : List Placed) (ds : List Delivered) → AllByRecursion (HoldsPackage store) ps → AllByRecursion IsDelivered ds → AllByRecursion (λ p. p.slot < 32) ps
      → AllByRecursion (λ p. IsManifestEntry p.entry) ps → map (λ p. component_of (package_in store p)) ps ≡ map (λ d. component_of d.bytes) ds
      → (map (λ p. p.entry) ps ≡ map entry_of ds) × (map (package_in store) ps ≡ map (λ d. d.bytes) ds)
  same_deliveries [] [] holds delivered low entries same = (refl, refl)
  same_deliveries [] (d ∷ ds) holds delivered low entries same = absurd cc
  same_deliveries (p ∷ ps) [] holds delivered low entries same = absurd cc
  same_deliveries (p ∷ ps) (d ∷ ds) holds delivered low entries same =
      let here : component_of (package_in store p) ≡ component_of d.bytes = first_is (component_of (package_in store p)) (component_of d.bytes) _ _ same in
      let rest = same_deliveries ps ds holds.1 delivered.1 low.1 entries.1 (rest_is (component_of (package_in store p)) (component_of d.bytes) _ _ same) in
      let entry = same_delivery p d holds.0 delivered.0 low.0 entries.0.most here in
      let bytes = same_package p d holds.0 delivered.0 here in
      ((λ i. entry i ∷ rest.0 i), (λ i. bytes i ∷ rest.1 i))

pub set_is_the_release : SetIsTheRelease
set_is_the_release s number ds mote slots numbered delivered same =
    let both = same_deliveries s.store slots s.current.placed ds mote.set delivered mote.current.slots mote.current.entries same in
    let entries = both.0 in
    record {
      mote = mote;
      slots = slots.count;
      has = record { release = λ i. record { number = numbered i; entries = entries i }; packages = both.1 };
    }

-- ---- the release that a mote has

-- another slot's bytes leave the packages
packages_stay : (store : List (List ℕ)) (x : ℕ) (bytes : List ℕ) (ps : List Placed) → is_taken (map (λ p. p.slot) ps) x ≡ false → map (package_in (set store x bytes)) ps ≡ map (package_in store) ps
packages_stay store x bytes [] unused = refl
packages_stay store x bytes (p ∷ ps) unused =
    let tests : (eqb p.slot x ≡ false) × (is_taken (map (λ p. p.slot) ps) x ≡ false) = or_parts (eqb p.slot x) _ unused in
    let first = package_kept store x bytes p (eqb-false p.slot x tests.0) in
    let rest = packages_stay store x bytes ps tests.1 in
    λ i. first i ∷ rest i

-- what a step leaves of it
record Left (number : ℕ) (ds : List Delivered) (t : Mote) : Type 0 where
  slots : length t.store ≡ 32
  has : HasRelease t number ds

left_as : (s t : Mote) (number : ℕ) (ds : List Delivered) → IsAt s number ds → s.current ≡ t.current → s.store ≡ t.store → Left number ds t
left_as s t number ds at current store = record {
  slots = ap (λ (l : List (List ℕ)). length l) (sym store) ∙ at.slots;
  has = record {
    release = ap released (sym current) ∙ at.has.release;
    packages = (λ i. map (package_in (sym store i)) (sym current i).placed) ∙ at.has.packages;
  };
}

step_left : (s : Mote) (f : Frame) (number : ℕ) (ds : List Delivered) → IsAt s number ds → (not s.standing && (step s f).mote.standing) ≡ false → Left number ds (step s f).mote
step_left s f number ds at = each_row s f (λ x. (not s.standing && x.mote.standing) ≡ false → Left number ds x.mote) (record {
  refused = λ a served said other. left_as s s number ds at refl refl;
  repeated = λ stands other. left_as s s number ds at refl refl;
  booted = λ other. left_as s _ number ds at refl refl;
  manifest = λ calm whole above other. left_as s _ number ds at refl refl;
  piece = λ m p k page bytes calm is at_k new fits said other.
      let unused = next_unused s.current m k p at.mote.current (comes_some s m at.mote is) at_k new in
      record {
        slots = length-set s.store p.slot _ ∙ at.slots;
        has = record { release = at.has.release; packages = packages_stay s.store p.slot _ s.current.placed unused ∙ at.has.packages };
      };
  linked = λ m calm is unlinked whole free other. left_as s _ number ds at refl refl;
  committed = λ m calm is linked other. absurd (both_ways (not s.standing && true) other (and_from (not s.standing) true (not_from_false s.standing calm) refl));
  aborted = λ calm other. left_as s _ number ds at refl refl;
})

step_at : (s : Mote) (f : Frame) (number : ℕ) (ds : List Delivered) → AreBytes f.payload → IsAt s number ds → commits s f ≡ false → IsAt (step s f).mote number ds
step_at s f number ds bytes at other = let left = step_left s f number ds at other in record { mote = motes_stay_motes.each s f bytes at.mote; slots = left.slots; has = left.has }

-- where a list of commits is none, the first step commits nothing
none_first : (b : Bool) (c : Chosen) (cs : List Chosen) → cond b (c ∷ cs) cs ≡ [] → (b ≡ false) × (cs ≡ [])
none_first true c cs none = absurd cc
none_first false c cs none = (refl, none)

run_at : (s : Mote) (fs : List Frame) (number : ℕ) (ds : List Delivered) → AreByteFrames fs → IsAt s number ds → commits_from s fs ≡ [] → IsAt (mote_from s fs) number ds
run_at s [] number ds bytes at none = at
run_at s (f ∷ fs) number ds bytes at none =
    let parts = none_first (commits s f) (chosen_of (step s f).mote) (commits_from (step s f).mote fs) none in
    run_at (step s f).mote fs number ds bytes.1 (step_at s f number ds bytes.0 at parts.0) parts.1

-- 32 slots, and nothing in the release
formatted_at : IsAt formatted_mote 0 []
unfolding formatted_mote
formatted_at = record { mote = motes_stay_motes.formatted; slots = refl; has = record { release = refl; packages = refl } }

pub releases_stay : ReleasesStay
releases_stay = record { formatted = formatted_at; each = step_at; run = run_at }
