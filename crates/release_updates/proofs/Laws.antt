-- The update of a mote over kept tables.
use Rattle.std.proofs.Common.{◌≡◌, ◌⊎◌, ⊎_elim, inl, inr, ℕ, zero, suc, ◌+◌, ◌<◌, ◌≤◌, Bool, true, false, cond, eqb, ltb, List, [], ◌∷◌, ◌++◌, length, map, Option, Some, None, refl, sym, ap, ap₂, subst, ◌∙◌, arith, length-append}
use Rattle.std.specs.Prelude.{◌||◌}
use Rattle.std.specs.List.{AllByRecursion}
use Rattle.std.specs.Option.{option_map, option_and_then}
use Rattle.std.proofs.lemmas.Bool.{cond-true, cond-false, eq-eqb, ne_eqb, lt-ltb, le-ltb, cases_lt}
use Rattle.component_package.specs.declared.frames.TheConstants.{LINK, COMMIT, END}
use Rattle.component_package.specs.packages.Manifest.{AreDistinct}
use Rattle.component_package.specs.packages.Reading.{component_of}
use Rattle.component_package.specs.link.Link.{link_cause}
use Rattle.component_package.specs.mote.Frames.{Frame, stream_of}
use Rattle.component_package.specs.mote.Machine.{Mote}
use Rattle.release_rows.specs.declared.part.Numbered.{Numbered}
use Rattle.release_rows.specs.Tables.{Tables, release_count, stored_package, stored_release}
use Rattle.release_rows.specs.Kept.{AreKept, IsKeptRelease, packages_of}
use Rattle.release_judging.specs.Packages.{ArePackagesOf}
use Rattle.update_laws.specs.Update.{Delivered, IsUpdate, bare_frame, update_frames, manifest_frame, release_of_packages, pieces_from, components_in}
use Rattle.update_laws.proofs.Deliveries.{one_table_agrees, updates_are_frames}
use Rattle.update_laws.proofs.Updates.{updates_install}
use Rattle.release_updates.specs.Updates.{with_packages, parts_alone, delivered, release_parts, release_delivered, update_between, update_of, update_bytes}
use Rattle.release_updates.specs.Laws.{BringsToLast, UpdatesOfRows}
use Rattle.release_updates.proofs.Sent.{from_with}
use Rattle.release_updates.proofs.Packages.{length_with, with_components, with_spelled, all_delivered}
use Rattle.release_updates.proofs.Cases.{no_release, above_last, at_last, below_last, last_delivered}
use Rattle.release_updates.proofs.Kept.{Stands, stands, Stored, stored, stored_packages, package_table, in_table}

-- ---- a release with its packages

record Has (t : Tables) (mote : List ℕ) (number : ℕ) : Type 0 where
  parts : List Numbered
  set : List (List ℕ)
  parts_are : release_parts t mote number ≡ Some parts
  there : packages_of t parts ≡ Some set
  set_is : Stored t parts set

has_none : (t : Tables) (mote : List ℕ) → Has t mote 0
has_none t mote = record { parts = []; set = []; parts_are = refl; there = refl; set_is = record { count = refl; each = tt } }

has_stored : (t : Tables) (mote : List ℕ) (number : ℕ) → Stands t mote number → 1 ≤ number → Has t mote number
has_stored t mote number s some = record {
  parts = s.parts;
  set = s.kept.set;
  parts_are = cond-false (eqb number 0) _ _ (ne_eqb number 0 (λ none. omega (arith, some, none))) ∙ s.there;
  there = s.kept.there;
  set_is = stored t s.parts s.kept.set s.kept.there;
}

has_release : (t : Tables) (mote : List ℕ) (number : ℕ) → AreKept t → number ≤ release_count t mote → Has t mote number
has_release t mote zero kept low = has_none t mote
has_release t mote (suc n) kept low = has_stored t mote (suc n) (stands t mote (suc n) kept (omega arith) low) (omega arith)

delivered_is : (t : Tables) (mote : List ℕ) (number : ℕ) (h : Has t mote number) → release_delivered t mote number ≡ Some (with_packages h.parts h.set)
delivered_is t mote number h = ap (option_and_then (delivered t)) h.parts_are ∙ ap (option_map (with_packages h.parts)) h.there

-- ---- the update from an earlier release

module _ (t : Tables) (mote : List ℕ) (have : ℕ) (kept : AreKept t) (below : have < release_count t mote) where
  abbrev number : ℕ
  number = release_count t mote

  old : Has t mote have
  old = has_release t mote have kept (omega (arith, below))

  top : Stands t mote number
  top = stands t mote number kept (omega (arith, below)) (omega arith)

  abbrev parts : List Numbered
  parts = top.parts

  abbrev set : List (List ℕ)
  set = top.kept.set

  new : Has t mote number
  new = has_stored t mote number top (omega (arith, below))

  abbrev olds : List Delivered
  olds = with_packages old.parts old.set

  abbrev news : List Delivered
  news = with_packages parts set

  stored_set : Stored t parts set
  stored_set = stored t parts set top.kept.there

  packages : ArePackagesOf parts set
  packages = stored_packages t parts set kept stored_set.count stored_set.each

  count : length news ≡ length parts
  count = length_with parts set stored_set.count

  update : IsUpdate have olds number news
  update = record {
    later = below;
    small = omega (arith, kept.few_releases mote);
    some = omega (arith, count, top.kept.parts_are.some);
    few = omega (arith, count, top.kept.parts_are.few);
    distinct = subst AreDistinct (sym (with_components parts set stored_set.count)) top.kept.parts_are.distinct;
    delivered = all_delivered parts set packages;
    agree = one_table_agrees (package_table t) olds news (in_table t olds old.set_is.each) (in_table t news stored_set.each);
    free = ap link_cause (with_spelled parts set stored_set.count) ∙ top.kept.linked;
  }

  newer : release_delivered t mote number ≡ Some news
  newer = last_delivered t mote number (λ none. omega (arith, below, none)) ∙ ap (option_and_then (delivered t)) top.there ∙ ap (option_map (with_packages parts)) top.kept.there

  -- of the older release only components and versions count
  alone : update_frames have (parts_alone old.parts) number news ≡ update_frames have olds number news
  alone = ap (λ (fs : List Frame). cond (eqb have number) (bare_frame END ∷ []) (manifest_frame (release_of_packages number news) ∷ (fs ++ bare_frame LINK ∷ bare_frame COMMIT ∷ bare_frame END ∷ []))) (from_with old.parts old.set 0 news old.set_is.count)

  frames : update_of t mote have ≡ Some (update_frames have olds number news)
  frames = below_last t mote have below ∙ ap₂ (λ (ps : Option (List Numbered)) (ds : Option (List Delivered)). update_between have number ps ds) old.parts_are newer ∙ ap Some alone

  brings : (bytes : List ℕ) × (update_bytes t mote have ≡ Some bytes) × BringsToLast t mote have bytes
  brings = (
    stream_of (update_frames have olds number news),
    ap (option_map stream_of) frames,
    record {
      olds = olds;
      news = news;
      older = delivered_is t mote have old;
      newer = newer;
      update = update;
      line = (updates_are_frames.line have number olds news update).frames;
      calm = λ s at resting. updates_install.calm s have number olds news at resting update;
      session = λ s at. updates_install.session s have number olds news at update;
    },
  )

-- ---- the law

some_bytes : (t : Tables) (mote : List ℕ) (have : ℕ) → AreKept t → 1 ≤ release_count t mote → have ≤ release_count t mote → update_bytes t mote have ≡ None → ⊥
some_bytes t mote have kept some low none = ⊎_elim
    (λ below. let is = sym (brings t mote have kept below).1 ∙ none in absurd cc)
    (λ past. let is = sym (ap (option_map stream_of) (at_last t mote have some (omega (arith, low, past)))) ∙ none in absurd cc)
    (cases_lt have (release_count t mote))

none_where : (t : Tables) (mote : List ℕ) (have : ℕ) → AreKept t → update_bytes t mote have ≡ None → (release_count t mote ≡ 0) ⊎ (release_count t mote < have)
none_where t mote have kept none = ⊎_elim
    (λ above. inr above)
    (λ low. ⊎_elim
    (λ some. absurd (some_bytes t mote have kept some low none))
    (λ empty. inl (omega (arith, empty)))
    (cases_lt 0 (release_count t mote)))
    (cases_lt (release_count t mote) have)

pub updates_of_rows : UpdatesOfRows
updates_of_rows = record {
  lower = λ t mote have kept below. brings t mote have kept below;
  last = λ t mote some. ap (option_map stream_of) (at_last t mote (release_count t mote) some refl);
  none = λ t mote have kept. (
    none_where t mote have kept,
    ⊎_elim (λ none. ap (option_map stream_of) (no_release t mote have none)) (λ above. ap (option_map stream_of) (above_last t mote have above)),
  );
}
