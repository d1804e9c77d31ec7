-- Updates install: the manifest, the pieces, and what then is linked and committed.
use Rattle.std.proofs.Common.{◌≡◌, ◌⊎◌, inl, inr, ⊎_elim, ℕ, suc, ◌+◌, ◌<◌, ◌≤◌, ◌&&◌, ◌||◌, Bool, true, false, not, cond, eqb, ltb, List, [], ◌∷◌, ◌++◌, length}
use Rattle.std.proofs.Common.{drop, get_or, map, filter, Option, Some, None, is_some, slice_get, refl, sym, ap, ◌∙◌, subst, arith}
use Rattle.std.specs.Prelude.{find, unwrap_or}
use Rattle.std.specs.List.{zip, AllByRecursion}
use Rattle.std.specs.Option.{option_map}
use Rattle.std.proofs.lemmas.Bool.{cond-true, cond-false, cases_Bool, cases_lt, lt-ltb, eq-eqb, eqb-true, ne_eqb, and_from, and_parts, and_left, and_right, or_parts, not-false}
use Rattle.std.proofs.lemmas.Bool.{false≢true, true≢false, not_from_true}
use Rattle.std.proofs.lemmas.List.{get_or_past}
use Rattle.sha2.specs.Sha256.{sha256}
use Rattle.avr_reloc.specs.Field.{AreBytes}
use Rattle.component_package.specs.declared.answer.Answer.{Answer}
use Rattle.component_package.specs.declared.answer.Answer.TheVariants as answers
use Rattle.component_package.specs.declared.frames.TheConstants.{LINK, COMMIT, END}
use Rattle.component_package.specs.declared.manifest.Entry.{Entry}
use Rattle.component_package.specs.declared.manifest.ManifestFault.{ManifestFault}
use Rattle.component_package.specs.packages.Component.{Component, spelling}
use Rattle.component_package.specs.packages.Reading.{component_of}
use Rattle.component_package.specs.packages.Grammar.{IsComponent, Spells}
use Rattle.component_package.specs.packages.Manifest.{Release, IsRelease, SpellsRelease, manifest_bytes, release_in}
use Rattle.component_package.specs.link.Link.{Cause, link_cause}
use Rattle.component_package.specs.mote.Store.{SetFault, is_same, is_same_entry}
use Rattle.component_package.specs.mote.Frames.{Frame, OnlyLastEnds}
use Rattle.component_package.specs.mote.Machine.{boot_frame, is_same_entries}
use Rattle.kept_definitions.specs.Stored.{StoredRelease, Placed, IsStored, released}
use Rattle.kept_definitions.specs.Kept.{Chosen, HoldsPackage, package_in, held_component, coming_component, coming_set, IsComing, HasComing, held_slot, slots_for}
use Rattle.kept_definitions.specs.Machine.{Mote, Step, step, refuses, is_incoming, held_count, manifest_is, take_manifest, link_held, link_set}
use Rattle.kept_definitions.specs.Machine.{mote_from, answers_from, commits_from, session_commits, commits}
use Rattle.kept_laws.specs.Formatted.{formatted_mote}
use Rattle.kept_laws.specs.Invariant.{AreSlots, AreEntries, ComesNext, IsMote}
use Rattle.kept_laws.specs.Laws.{AreAll, IsPackageOf}
use Rattle.kept_updates.specs.Update.{Delivered, entry_of, release_of_packages, bare_frame, manifest_frame, has_version, pieces_from, pieces_answers, update_frames, update_answers}
use Rattle.kept_updates.specs.Update.{IsDelivered, IsUpdate, components_in, AreOneVersion, AgreeOnVersions, HasRelease}
use Rattle.kept_updates.specs.Laws.{AreByteFrames, FramesAreByteFrames, IsAt, IsUpdated, UpdatesInstall, SetIsTheRelease, ReleasesStay}
use Rattle.component_package.proofs.ManifestLaws.{faultless_manifests_spell}
use Rattle.component_package.proofs.ReadAgain.{spelling_said}
use Rattle.kept_laws.proofs.Store.{coming_is_faultless}
use Rattle.kept_laws.proofs.Slots.{slots_are_found}
use Rattle.kept_laws.proofs.MachineRuns.{runs_join, only_commits_choose}
use Rattle.kept_laws.proofs.Invariant.{motes_stay_motes}
use Rattle.kept_updates.proofs.Deliveries.{good_release, updates_are_frames}
use Rattle.kept_updates.proofs.Pieces.{same_lists_are, coming, commits_none, Ready, Came, ForAll, RanAll, all_run}

-- ---- entries

-- a list is the same as itself
is_same_itself : (xs : List ℕ) → is_same xs xs ≡ true
is_same_itself [] = refl
is_same_itself (x ∷ xs) = and_from (eqb x x) (is_same xs xs) (eq-eqb x x refl) (is_same_itself xs)

-- an entry is the same as itself
same_itself : (e : Entry) → is_same_entry e e ≡ true
same_itself e = and_from _ _ (and_from _ _ (and_from _ _ (eq-eqb e.component e.component refl) (eq-eqb e.version e.version refl)) (eq-eqb e.length e.length refl)) (is_same_itself e.digest)

-- and what is the same is equal
same_entry : (e f : Entry) → is_same_entry e f ≡ true → e ≡ f
same_entry e f same =
    let three = and_parts _ _ same in
    let two = and_parts _ _ three.0 in
    let one = and_parts _ _ two.0 in
    let component = eqb-true e.component f.component one.0 in
    let version = eqb-true e.version f.version one.1 in
    let width = eqb-true e.length f.length two.1 in
    let digest = same_lists_are e.digest f.digest three.1 in
    λ i. record { component = component i; version = version i; length = width i; digest = digest i }

same_all : (es fs : List Entry) → is_same_entries es fs ≡ true → es ≡ fs
same_all [] [] same = refl
same_all [] (f ∷ fs) same = absurd (false≢true same)
same_all (e ∷ es) [] same = absurd (false≢true same)
same_all (e ∷ es) (f ∷ fs) same =
    let parts = and_parts (is_same_entry e f) (is_same_entries es fs) same in
    let first = same_entry e f parts.0 in
    let rest = same_all es fs parts.1 in
    λ i. first i ∷ rest i

-- the first elements of equal lists, and what is behind them
first_is : {X : Type 0} (x y : X) (xs ys : List X) → x ∷ xs ≡ y ∷ ys → x ≡ y
first_is {X} x y xs ys same = ap (λ (zs : List X). get_or zs 0 x) same

rest_is : {X : Type 0} (x y : X) (xs ys : List X) → x ∷ xs ≡ y ∷ ys → xs ≡ ys
rest_is {X} x y xs ys same = ap (λ (zs : List X). drop 1 zs) same

-- ---- what the older release has

-- each component's package is its entry's
abbrev Packaged : List Placed → List Component → Type 0
Packaged ps cs = AreAll (λ p x. IsPackageOf p.entry x) ps cs

module _ (d : Delivered) where
  -- the two are one version
  abbrev is_version : Delivered → Bool
  is_version o = eqb o.component d.component && eqb o.version d.version

  -- an entry in the older release, and its component
  record Held (ps : List Placed) (cs : List Component) : Type 0 where
    place : Placed
    component : Component
    slot : find (λ p. is_same_entry p.entry (entry_of d)) ps ≡ Some place
    found : find (λ x. is_same_entry x.0.entry (entry_of d)) (zip ps cs) ≡ Some (place, component)
    is : IsComponent component
    bytes : spelling component ≡ d.bytes

  -- the same version has the same entry
  version_entry : (o : Delivered) → AreOneVersion d o → is_version o ≡ true → entry_of o ≡ entry_of d
  version_entry o agree is =
      let parts = and_parts _ _ is in
      let component = eqb-true o.component d.component parts.0 in
      let version = eqb-true o.version d.version parts.1 in
      let bytes = agree component version in
      λ i. record { component = component i; version = version i; length = length (bytes i); digest = sha256 (bytes i) }

  -- another version has another one
  other_entry : (e : Entry) (o : Delivered) → e ≡ entry_of o → is_version o ≡ false → is_same_entry e (entry_of d) ≡ false
  other_entry e o entry other = ap (λ (f : Entry). is_same_entry f (entry_of d)) entry ∙ and_left _ _ (and_left _ _ other)

  -- what the older release has in the same version is held
  held_by : (ps : List Placed) (cs : List Component) (os : List Delivered) → Packaged ps cs → map (λ p. p.entry) ps ≡ map entry_of os → map spelling cs ≡ map (λ o. o.bytes) os
      → AllByRecursion (AreOneVersion d) os → has_version os d ≡ true → Held ps cs
  held_by [] [] [] all entries packages agree has = absurd (false≢true has)
  held_by [] [] (o ∷ os) all entries packages agree has = absurd cc
  held_by [] (c ∷ cs) os all entries packages agree has = absurd all
  held_by (p ∷ ps) [] os all entries packages agree has = absurd all
  held_by (p ∷ ps) (c ∷ cs) [] all entries packages agree has = absurd cc
  held_by (p ∷ ps) (c ∷ cs) (o ∷ os) all entries packages agree has =
      by (is_version o) refl
      (λ (rest : has_version os d ≡ true). held_by ps cs os all.1 (rest_is p.entry (entry_of o) _ _ entries) (rest_is (spelling c) o.bytes _ _ packages) agree.1 rest)
    where
      entry : p.entry ≡ entry_of o
      entry = first_is p.entry (entry_of o) _ _ entries

      by : (b : Bool) → is_version o ≡ b → (has_version os d ≡ true → Held ps cs) → Held (p ∷ ps) (c ∷ cs)
      by true is later =
          let same : is_same_entry p.entry (entry_of d) ≡ true =
          ap (λ (f : Entry). is_same_entry f (entry_of d)) (entry ∙ version_entry o agree.0 is) ∙ same_itself (entry_of d) in
          let parts = and_parts _ _ is in
          record {
            place = p;
            component = c;
            slot = cond-true _ _ _ same;
            found = cond-true _ _ _ same;
            is = all.0.component;
            bytes = first_is (spelling c) o.bytes _ _ packages ∙ agree.0 (eqb-true o.component d.component parts.0) (eqb-true o.version d.version parts.1);
          }
      by false other later =
          let rest = later (sym (ap (λ (b : Bool). b || has_version os d) other) ∙ has) in
          let apart = other_entry p.entry o entry other in
          record {
            place = rest.place;
            component = rest.component;
            slot = cond-false _ _ _ apart ∙ rest.slot;
            found = cond-false _ _ _ apart ∙ rest.found;
            is = rest.is;
            bytes = rest.bytes;
          }

  -- and what it hasn't isn't
  new_by : (ps : List Placed) (os : List Delivered) → map (λ p. p.entry) ps ≡ map entry_of os → has_version os d ≡ false → find (λ p. is_same_entry p.entry (entry_of d)) ps ≡ None
  new_by [] os entries none = refl
  new_by (p ∷ ps) [] entries none = absurd cc
  new_by (p ∷ ps) (o ∷ os) entries none =
      let parts = or_parts (is_version o) (has_version os d) none in
      cond-false _ _ _ (other_entry p.entry o (first_is p.entry (entry_of o) _ _ entries) parts.0) ∙ new_by ps os (rest_is p.entry (entry_of o) _ _ entries) parts.1

-- the release that boots with its set, and the packages of both
module _ (c : Chosen) (olds : List Delivered) (all : AreEntries c) (entries : map (λ p. p.entry) c.release.placed ≡ map entry_of olds)
    (packages : map spelling c.set ≡ map (λ o. o.bytes) olds) where
  held_is : (d : Delivered) → AllByRecursion (AreOneVersion d) olds → is_some (held_slot c.release (entry_of d)) ≡ has_version olds d
  held_is d agree = by (has_version olds d) refl
    where
      slot_of : Option Placed → Bool
      slot_of o = is_some (option_map (λ (p : Placed). p.slot) o)

      by : (b : Bool) → has_version olds d ≡ b → is_some (held_slot c.release (entry_of d)) ≡ has_version olds d
      by true has = ap slot_of (held_by d c.release.placed c.set olds all entries packages agree has).slot ∙ sym has
      by false none = ap slot_of (new_by d c.release.placed olds entries none) ∙ sym none

  -- how many are held
  count_step : (b k : Bool) (e : Entry) (es : List Entry) (d : Delivered) (ds : List Delivered) → b ≡ k → length es ≡ length ds → length (cond b (e ∷ es) es) ≡ length (cond k (d ∷ ds) ds)
  count_step true true e es d ds same rest = ap suc rest
  count_step true false e es d ds same rest = absurd (true≢false same)
  count_step false true e es d ds same rest = absurd (false≢true same)
  count_step false false e es d ds same rest = rest

  count_is : (ds : List Delivered) → AgreeOnVersions olds ds → held_count c.release (map entry_of ds) ≡ length (filter (has_version olds) ds)
  count_is [] agree = refl
  count_is (d ∷ ds) agree = count_step (is_some (held_slot c.release (entry_of d))) (has_version olds d) (entry_of d) _ d _ (held_is d agree.0) (count_is ds agree.1)

  -- an entry of a release over it is fresh exactly where the older one hasn't the version
  marked : (r : Release) (k : ℕ) (p : Placed) (d : Delivered) → slice_get (slots_for c.release r).placed k ≡ Some p → p.entry ≡ entry_of d → AllByRecursion (AreOneVersion d) olds
      → p.fresh ≡ not (has_version olds d)
  marked r k p d at entry agree = by (held_slot c.release p.entry) refl
    where
      had : is_some (held_slot c.release p.entry) ≡ has_version olds d
      had = ap (λ (e : Entry). is_some (held_slot c.release e)) entry ∙ held_is d agree

      by : (o : Option ℕ) → held_slot c.release p.entry ≡ o → p.fresh ≡ not (has_version olds d)
      by None is = slots_are_found.fresh c.release r k p at is ∙ ap (λ (o : Option ℕ). not (is_some o)) (sym is) ∙ ap not had
      by (Some s) is = (slots_are_found.held c.release r k p s at is).1 ∙ ap (λ (o : Option ℕ). not (is_some o)) (sym is) ∙ ap not had

  -- the entries over it are ready
  ready_from : (r : Release) (k : ℕ) (ps : List Placed) (ds : List Delivered) → map (λ p. p.entry) ps ≡ map entry_of ds
      → ((j : ℕ) (p : Placed) → slice_get ps j ≡ Some p → slice_get (slots_for c.release r).placed (k + j) ≡ Some p) → AllByRecursion (λ p. p.slot < 16) ps
      → AgreeOnVersions olds ds → ForAll (Ready olds) ps ds
  ready_from r k [] [] same at small agree = tt
  ready_from r k [] (d ∷ ds) same at small agree = absurd cc
  ready_from r k (p ∷ ps) [] same at small agree = absurd cc
  ready_from r k (p ∷ ps) (d ∷ ds) same at small agree = (
    record { entry = entry; mark = marked r (k + 0) p d (at 0 p refl) entry agree.0; small = small.0 },
    ready_from r (k + 1) ps ds (rest_is p.entry (entry_of d) _ _ same)
        (λ j q is. let sum : k + suc j ≡ (k + 1) + j = omega arith in subst (λ (n : ℕ). slice_get (slots_for c.release r).placed n ≡ Some q) sum (at (suc j) q is)) small.1 agree.1,
  )
    where
      entry : p.entry ≡ entry_of d
      entry = first_is p.entry (entry_of d) _ _ same

  -- ---- once all pieces came
  module _ (inbox : List (List ℕ)) where
    -- an entry's component is the one that its package spells
    record Arrives (p : Placed) (d : Delivered) : Type 0 where
      coming : IsComing c inbox p
      is : coming_component c inbox p ≡ component_of d.bytes

    -- a fresh one's is in the inbox
    came_package : (p : Placed) (d : Delivered) → p.entry ≡ entry_of d → package_in inbox p ≡ d.bytes → IsDelivered d → HoldsPackage p.entry (package_in inbox p)
    came_package p d entry bytes delivered = record {
      size = ap (λ (b : List ℕ). length b) bytes ∙ sym (ap (λ (e : Entry). e.length) entry);
      digest = ap sha256 bytes ∙ sym (ap (λ (e : Entry). e.digest) entry);
      component = component_of d.bytes;
      spelled = subst (λ (b : List ℕ). Spells b (component_of d.bytes)) (sym bytes) delivered.spelled;
      number = delivered.component ∙ sym (ap (λ (e : Entry). e.component) entry);
      version = delivered.version ∙ sym (ap (λ (e : Entry). e.version) entry);
    }

    arrives : (p : Placed) (d : Delivered) → Ready olds p d → Came inbox p d → IsDelivered d → AllByRecursion (AreOneVersion d) olds → Arrives p d
    arrives p d ready came delivered agree = by (cases_Bool p.fresh)
      where
        chosen : Bool → Component
        chosen b = cond b (component_of (package_in inbox p)) (unwrap_or (held_component c p.entry) (component_of []))

        by : (p.fresh ≡ true) ⊎ (p.fresh ≡ false) → Arrives p d
        by (inl fresh) = record {
          coming = record { came = λ is. came_package p d ready.entry (came fresh) delivered; held = λ is. absurd (true≢false (sym fresh ∙ is)) };
          is = ap chosen fresh ∙ ap component_of (came fresh);
        }
        by (inr held) =
            let has : has_version olds d ≡ true = not-false _ (sym ready.mark ∙ held) in
            let there = held_by d c.release.placed c.set olds all entries packages agree has in
            let found : held_component c p.entry ≡ Some there.component =
            ap (held_component c) ready.entry ∙ ap (option_map (λ (x : Placed × Component). x.1)) there.found in
            record {
              coming = record { came = λ is. absurd (true≢false (sym is ∙ held)); held = λ is. ap (λ (o : Option Component). is_some o) found };
              is = ap chosen held ∙ ap (λ (o : Option Component). unwrap_or o (component_of [])) found ∙ sym (spelling_said there.component there.is) ∙ ap component_of there.bytes;
            }

    arrive_all : (ps : List Placed) (ds : List Delivered) → ForAll (Ready olds) ps ds → ForAll (Came inbox) ps ds → AllByRecursion IsDelivered ds → AgreeOnVersions olds ds
        → AllByRecursion (IsComing c inbox) ps × (map (coming_component c inbox) ps ≡ components_in ds)
    arrive_all [] [] ready came delivered agree = (tt, refl)
    arrive_all [] (d ∷ ds) ready came delivered agree = absurd ready
    arrive_all (p ∷ ps) [] ready came delivered agree = absurd ready
    arrive_all (p ∷ ps) (d ∷ ds) ready came delivered agree =
        let first = arrives p d ready.0 came.0 delivered.0 agree.0 in
        let rest = arrive_all ps ds ready.1 came.1 delivered.1 agree.1 in
        let here = first.is in
        let there = rest.1 in
        ((first.coming, rest.0), λ i. here i ∷ there i)

-- what delivered packages spell, spelled again
spelled_again : (ds : List Delivered) → AllByRecursion IsDelivered ds → map spelling (components_in ds) ≡ map (λ d. d.bytes) ds
spelled_again [] delivered = refl
spelled_again (d ∷ ds) delivered =
    let first = sym delivered.0.spelled.bytes in
    let rest = spelled_again ds delivered.1 in
    λ i. first i ∷ rest i

-- ---- MANIFEST

-- what comes in with the same number and entries has the same slots
incoming_is : (c : StoredRelease) (o : Option StoredRelease) (r : Release) → ComesNext c o → is_incoming o r ≡ true → o ≡ Some (slots_for c r)
incoming_is c None r next same = absurd (false≢true same)
incoming_is c (Some m) r (q, release, above, is) same =
    let parts = and_parts _ _ same in
    let number = eqb-true m.number r.number parts.0 in
    let entries = same_all (map (λ p. p.entry) m.placed) r.entries parts.1 in
    let whole : released m ≡ r = (λ i. record { number = number i; entries = entries i }) in
    let one : q ≡ r = sym (slots_are_found.released c q) ∙ sym (ap released is) ∙ whole in
    ap Some (is ∙ ap (slots_for c) one)

-- a manifest of a later release, whatever comes in
manifest_step : (s : Mote) (r : Release) → IsMote s → s.standing ≡ false → IsRelease r → s.current.release.number < r.number
    → (linked : Bool) × (step s (manifest_frame r) ≡ record { mote = coming s.current (slots_for s.current.release r) s.inbox linked; answer = manifest_is s r })
manifest_step s r mote calm release later = by (is_incoming s.incoming r) refl
  where
    new : Mote
    new = record s { incoming = Some (slots_for s.current.release r); linked = false }

    far : step s (manifest_frame r) ≡ cond (is_incoming s.incoming r) (refuses s (manifest_is s r)) (record { mote = new; answer = manifest_is s r })
    far =
        let spelled : SpellsRelease (manifest_bytes r) r = record { release = release; bytes = refl } in
        cond-false s.standing _ _ calm
        ∙ ap (λ (fault : Option ManifestFault). take_manifest s fault (release_in (manifest_bytes r))) (faultless_manifests_spell.faultless (manifest_bytes r) r spelled)
        ∙ ap (take_manifest s None) (faultless_manifests_spell.said (manifest_bytes r) r spelled)
        ∙ cond-false (not (ltb s.current.release.number r.number)) _ _ (not_from_true _ (lt-ltb s.current.release.number r.number later))

    by : (b : Bool) → is_incoming s.incoming r ≡ b
        → (linked : Bool) × (step s (manifest_frame r) ≡ record { mote = coming s.current (slots_for s.current.release r) s.inbox linked; answer = manifest_is s r })
    by true same =
        let comes = incoming_is s.current.release s.incoming r mote.incoming same in (
          s.linked,
          far ∙ cond-true _ _ _ same
              ∙ (λ i. record { mote = record { current = s.current; incoming = comes i; inbox = s.inbox; linked = s.linked; standing = calm i }; answer = manifest_is s r }),
        )
    by false other = (
      false,
      far ∙ cond-false _ _ _ other ∙ (λ i. record {
        mote = record { current = s.current; incoming = Some (slots_for s.current.release r); inbox = s.inbox; linked = false; standing = calm i };
        answer = manifest_is s r;
      }),
    )

-- ---- LINK, COMMIT and END

-- the frames behind the pieces
abbrev last : List Frame
last = bare_frame LINK ∷ bare_frame COMMIT ∷ bare_frame END ∷ []

-- a mote for which a commit stands
abbrev committed : Chosen → StoredRelease → List (List ℕ) → Mote
committed c m inbox = record { current = record { release = m; set = coming_set c inbox m }; incoming = None; inbox = inbox; linked = false; standing = true }

module _ (c : Chosen) (m : StoredRelease) (inbox : List (List ℕ)) (has : HasComing c inbox m) (free : link_cause (coming_set c inbox m) ≡ None) where
  -- LINK of a whole set that nothing refuses
  link_step : (linked : Bool) → step (coming c m inbox linked) (bare_frame LINK) ≡ record { mote = coming c m inbox true; answer = answers.Linked m.number }
  link_step true = refl
  link_step false =
      ap (λ (fault : Option SetFault). link_held (coming c m inbox false) m fault) (coming_is_faultless.faultless c inbox m has)
      ∙ ap (λ (cause : Option Cause). link_set (coming c m inbox false) m.number cause) free

  last_answers : (linked : Bool) → answers_from (coming c m inbox linked) last ≡ answers.Linked m.number ∷ answers.Committed m.number ∷ answers.Ended ∷ []
  last_answers linked = ap (λ (x : Step). x.answer ∷ answers_from x.mote (bare_frame COMMIT ∷ bare_frame END ∷ [])) (link_step linked)

  last_mote : (linked : Bool) → mote_from (coming c m inbox linked) last ≡ committed c m inbox
  last_mote linked = ap (λ (x : Step). mote_from x.mote (bare_frame COMMIT ∷ bare_frame END ∷ [])) (link_step linked)

  last_commits : (linked : Bool) → commits_from (coming c m inbox linked) last ≡ (committed c m inbox).current ∷ []
  last_commits linked =
      commits_none (coming c m inbox linked) (bare_frame LINK) (bare_frame COMMIT ∷ bare_frame END ∷ []) (coming c m inbox true) (answers.Linked m.number) (link_step linked) refl

-- ---- motes stay motes

-- over frames of bytes
run_mote : (s : Mote) (fs : List Frame) → AreByteFrames fs → IsMote s → IsMote (mote_from s fs)
run_mote s [] bytes mote = mote
run_mote s (f ∷ fs) bytes mote = run_mote (step s f).mote fs bytes.1 (motes_stay_motes.each s f bytes.0 mote)

-- and frames of the line are
byte_frames : (fs : List Frame) → OnlyLastEnds fs → AreByteFrames fs
byte_frames [] each = tt
byte_frames (f ∷ fs) each = (each.0.bytes, byte_frames fs each.2)

pub frames_are_byte_frames : FramesAreByteFrames
frames_are_byte_frames bytes fs rest are = byte_frames fs are.each

-- 16 slots of some size are 16 at least
slots_count : (inbox : List (List ℕ)) → AreSlots inbox → 16 ≤ length inbox
slots_count inbox sizes = ⊎_elim
    (λ few. absurd (let size = sizes 15 (omega arith) in let none : length (get_or inbox 15 []) ≡ 0 = ap (λ (b : List ℕ). length b) (get_or_past inbox 15 [] (omega (arith, few))) in
    omega (arith, size, none)))
    (λ many. many)
    (cases_lt (length inbox) 16)

-- ---- the update

module _ (s : Mote) (have number : ℕ) (olds news : List Delivered) (at : IsAt s have olds) (calm : s.standing ≡ false) (up : IsUpdate have olds number news) where
  abbrev release : Release
  release = release_of_packages number news

  abbrev next : StoredRelease
  next = slots_for s.current.release release

  abbrev pieces : List Frame
  pieces = pieces_from olds 0 news

  old_number : s.current.release.number ≡ have
  old_number = ap (λ (r : Release). r.number) at.has.release

  old_entries : map (λ p. p.entry) s.current.release.placed ≡ map entry_of olds
  old_entries = ap (λ (r : Release). r.entries) at.has.release

  stored : IsStored next
  stored = slots_are_found.stored s.current.release release at.mote.current (good_release have number olds news up)

  new_release : released next ≡ release
  new_release = slots_are_found.released s.current.release release

  first : (linked : Bool) × (step s (manifest_frame release) ≡ record { mote = coming s.current next s.inbox linked; answer = manifest_is s release })
  first = manifest_step s release at.mote calm (good_release have number olds news up) (let later : have < number = up.later in omega (arith, old_number))

  -- an entry's place in the whole, from the first on
  place : (j : ℕ) (p : Placed) → slice_get next.placed j ≡ Some p → slice_get next.placed (0 + j) ≡ Some p
  place j p is = let sum : j ≡ 0 + j = omega arith in subst (λ (n : ℕ). slice_get next.placed n ≡ Some p) sum is

  ready : ForAll (Ready olds) next.placed news
  ready =
      ready_from s.current olds at.mote.set old_entries at.has.packages release 0 next.placed news (ap (λ (r : Release). r.entries) new_release) place stored.slots up.agree

  run : RanAll s.current next olds pieces (pieces_answers olds 0 news) next.placed news s.inbox first.0
  run = all_run s.current next olds 0 next.placed news s.inbox first.0 place stored.apart (slots_count s.inbox at.mote.sizes) ready

  arrived : HasComing s.current run.after next × (map (coming_component s.current run.after) next.placed ≡ components_in news)
  arrived = arrive_all s.current olds at.mote.set old_entries at.has.packages run.after next.placed news ready run.here up.delivered up.agree

  set_is : coming_set s.current run.after next ≡ components_in news
  unfolding coming_set
  set_is = arrived.1

  free : link_cause (coming_set s.current run.after next) ≡ None
  free = ap link_cause set_is ∙ up.free

  frames_are : update_frames have olds number news ≡ manifest_frame release ∷ (pieces ++ last)
  frames_are = cond-false (eqb have number) _ _ (ne_eqb have number (λ same. let later : have < number = up.later in omega arith))

  -- the mote after the manifest, and after the pieces
  abbrev began : Mote
  began = coming s.current next s.inbox first.0

  all_answers : answers_from s (update_frames have olds number news) ≡ update_answers olds number news
  all_answers =
      ap (λ (fs : List Frame). answers_from s fs) frames_are
      ∙ ap (λ (x : Step). x.answer ∷ answers_from x.mote (pieces ++ last)) first.1
      ∙ ap (λ (said : List Answer). manifest_is s release ∷ said)
      (runs_join.answers began pieces last
      ∙ ap (λ (said : List Answer). said ++ answers_from (mote_from began pieces) last) run.answers
      ∙ ap (λ (said : List Answer). pieces_answers olds 0 news ++ said)
      (ap (λ (t : Mote). answers_from t last) run.mote ∙ last_answers s.current next run.after arrived.0 free run.link))
      ∙ ap (λ (n : ℕ). answers.ManifestIs number n ∷ (pieces_answers olds 0 news ++ answers.Linked number ∷ answers.Committed number ∷ answers.Ended ∷ []))
      (count_is s.current olds at.mote.set old_entries at.has.packages news up.agree)

  all_mote : mote_from s (update_frames have olds number news) ≡ committed s.current next run.after
  all_mote =
      ap (λ (fs : List Frame). mote_from s fs) frames_are
      ∙ ap (λ (x : Step). mote_from x.mote (pieces ++ last)) first.1
      ∙ runs_join.mote began pieces last
      ∙ ap (λ (t : Mote). mote_from t last) run.mote
      ∙ last_mote s.current next run.after arrived.0 free run.link

  -- one commit comes to stand, at COMMIT
  all_commits : commits_from s (update_frames have olds number news) ≡ (mote_from s (update_frames have olds number news)).current ∷ []
  all_commits =
      ap (λ (fs : List Frame). commits_from s fs) frames_are
      ∙ commits_none s (manifest_frame release) (pieces ++ last) began (manifest_is s release) first.1 refl
      ∙ runs_join.commits began pieces last
      ∙ ap (λ (cs : List Chosen). cs ++ commits_from (mote_from began pieces) last) run.commits
      ∙ ap (λ (t : Mote). commits_from t last) run.mote
      ∙ last_commits s.current next run.after arrived.0 free run.link
      ∙ ap (λ (t : Mote). t.current ∷ []) (sym all_mote)

  is_updated : IsUpdated (mote_from s (update_frames have olds number news)) number news
  is_updated =
      let fs : List Frame = update_frames have olds number news in
      let after : IsMote (mote_from s fs) = run_mote s fs (byte_frames fs (updates_are_frames.line have number olds news up).frames.each) at.mote in
      subst (λ (t : Mote). IsMote t → IsUpdated t number news) (sym all_mote) (λ mote. record {
        at = record { mote = mote; has = record { release = new_release; packages = ap (map spelling) set_is ∙ spelled_again news up.delivered } };
        set = set_is;
        standing = refl;
      }) after

-- ---- a session boots first

-- a mote after its boot
abbrev booted : Mote → Mote
booted s = record s { standing = false }

-- BOOT brings no commit to stand
booted_commits : (s : Mote) (fs : List Frame) → session_commits s fs ≡ commits_from (booted s) fs
booted_commits s fs = cond-false _ _ _ (and_right (not s.standing) false refl)

booted_at : (s : Mote) (have : ℕ) (olds : List Delivered) → IsAt s have olds → IsAt (booted s) have olds
booted_at s have olds at = record { mote = motes_stay_motes.each s boot_frame (λ i. omega arith) at.mote; has = record { release = at.has.release; packages = at.has.packages } }

pub updates_install : UpdatesInstall
updates_install = record {
  calm = λ s have number olds news at calm up. record {
    answered = all_answers s have number olds news at calm up;
    updated = is_updated s have number olds news at calm up;
    chosen = all_commits s have number olds news at calm up;
  };
  session = λ s have number olds news at up. record {
    answered = ap (λ (n : ℕ). answers.Booted n ∷ answers_from (booted s) (update_frames have olds number news)) (ap (λ (r : Release). r.number) at.has.release)
        ∙ ap (λ (said : List Answer). answers.Booted have ∷ said) (all_answers (booted s) have number olds news (booted_at s have olds at) refl up);
    updated = is_updated (booted s) have number olds news (booted_at s have olds at) refl up;
    chosen = booted_commits s (update_frames have olds number news) ∙ all_commits (booted s) have number olds news (booted_at s have olds at) refl up;
  };
  same = λ s number olds news.
      let only : update_frames number olds number news ≡ bare_frame END ∷ [] = updates_are_frames.none number olds news in
      (ap (λ (fs : List Frame). answers_from s fs) only, ap (λ (fs : List Frame). mote_from s fs) only);
}

-- ---- a set is its release's packages

-- the entry of a component is that of the package which spells it
same_entry_as : (p : Placed) (c : Component) (d : Delivered) → IsPackageOf p.entry c → IsDelivered d → c ≡ component_of d.bytes → p.entry ≡ entry_of d
same_entry_as p c d is delivered same =
    let bytes : spelling c ≡ d.bytes = ap spelling same ∙ sym delivered.spelled.bytes in
    let component : p.entry.component ≡ d.component = sym is.number ∙ ap (λ (x : Component). x.component) same ∙ delivered.component in
    let version : p.entry.version ≡ d.version = sym is.version ∙ ap (λ (x : Component). x.version) same ∙ delivered.version in
    let width : p.entry.length ≡ length d.bytes = sym is.size ∙ ap (λ (b : List ℕ). length b) bytes in
    let digest : p.entry.digest ≡ sha256 d.bytes = sym is.digest ∙ ap sha256 bytes in
    λ i. record { component = component i; version = version i; length = width i; digest = digest i }

-- so of all
same_entries_as : (ps : List Placed) (cs : List Component) (ds : List Delivered) → Packaged ps cs → AllByRecursion IsDelivered ds → cs ≡ components_in ds
    → map (λ p. p.entry) ps ≡ map entry_of ds
same_entries_as [] [] [] all delivered same = refl
same_entries_as [] [] (d ∷ ds) all delivered same = absurd cc
same_entries_as [] (c ∷ cs) ds all delivered same = absurd all
same_entries_as (p ∷ ps) [] ds all delivered same = absurd all
same_entries_as (p ∷ ps) (c ∷ cs) [] all delivered same = absurd cc
same_entries_as (p ∷ ps) (c ∷ cs) (d ∷ ds) all delivered same =
    let first = same_entry_as p c d all.0 delivered.0 (first_is c (component_of d.bytes) _ _ same) in
    let rest = same_entries_as ps cs ds all.1 delivered.1 (rest_is c (component_of d.bytes) _ _ same) in
    λ i. first i ∷ rest i

pub set_is_the_release : SetIsTheRelease
set_is_the_release s number ds mote numbered delivered same =
    let entries = same_entries_as s.current.release.placed s.current.set ds mote.set delivered same in
    record {
      mote = mote;
      has = record { release = λ i. record { number = numbered i; entries = entries i }; packages = ap (map spelling) same ∙ spelled_again ds delivered };
    }

-- ---- the release that a mote has

-- it is what boots, and nothing else
has_kept : (s t : Mote) (number : ℕ) (ds : List Delivered) → t.current ≡ s.current → HasRelease s number ds → HasRelease t number ds
has_kept s t number ds same has = record {
  release = ap (λ (c : Chosen). released c.release) same ∙ has.release;
  packages = ap (λ (c : Chosen). map spelling c.set) same ∙ has.packages;
}

step_at : (s : Mote) (f : Frame) (number : ℕ) (ds : List Delivered) → AreBytes f.payload → IsAt s number ds → commits s f ≡ false → IsAt (step s f).mote number ds
step_at s f number ds bytes at other =
    record { mote = motes_stay_motes.each s f bytes at.mote; has = has_kept s (step s f).mote number ds (only_commits_choose s f other) at.has }

-- where a list of commits is none, the first step commits nothing
none_first : (b : Bool) (c : Chosen) (cs : List Chosen) → cond b (c ∷ cs) cs ≡ [] → (b ≡ false) × (cs ≡ [])
none_first true c cs none = absurd cc
none_first false c cs none = (refl, none)

run_at : (s : Mote) (fs : List Frame) (number : ℕ) (ds : List Delivered) → AreByteFrames fs → IsAt s number ds → commits_from s fs ≡ [] → IsAt (mote_from s fs) number ds
run_at s [] number ds bytes at none = at
run_at s (f ∷ fs) number ds bytes at none =
    let parts = none_first (commits s f) (step s f).mote.current (commits_from (step s f).mote fs) none in
    run_at (step s f).mote fs number ds bytes.1 (step_at s f number ds bytes.0 at parts.0) parts.1

-- nothing in the release
formatted_at : IsAt formatted_mote 0 []
unfolding formatted_mote
formatted_at = record { mote = motes_stay_motes.formatted; has = record { release = refl; packages = refl } }

pub releases_stay : ReleasesStay
releases_stay = record { formatted = formatted_at; each = step_at; run = run_at }
