-- Releases keep the tables in order.
use Rattle.std.proofs.Common.{◌≡◌, ℕ, ◌+◌, ◌-◌, ◌≤◌, ◌<◌, ◌^◌, Bool, true, false, cond, Option, Some, None, List, [], ◌∷◌, ◌++◌, length, map, refl, sym, ap, subst, ◌∙◌, arith, bytes_eq, leb}
use Rattle.std.specs.List.{find}
use Rattle.std.proofs.lemmas.Bool.{leb-false}
use Rattle.std.proofs.lemmas.List.Elements.{All-push}
use Rattle.component_package.specs.packages.Reading.{component_of}
use Rattle.component_package.specs.link.Link.{Cause, link_cause}
use Rattle.release_rows.specs.declared.part.Part.{Part}
use Rattle.release_rows.specs.declared.part.Numbered.{Numbered}
use Rattle.release_rows.specs.declared.row.ReleaseRow.{ReleaseRow}
use Rattle.release_rows.specs.declared.row.KeyRow.{KeyRow}
use Rattle.release_rows.specs.declared.change.Effect.{Effect}
use Rattle.release_rows.specs.declared.change.Effect.TheVariants as effects
use Rattle.release_rows.specs.Tables.{Tables, key_row, release_count, is_release}
use Rattle.release_rows.specs.Change.{changed}
use Rattle.release_rows.specs.Kept.{packages_of, IsKeptRelease, AreKept}
use Rattle.release_judging.specs.declared.judged.Judged.{Judged}
use Rattle.release_judging.specs.declared.judged.Judged.TheVariants as judgements
use Rattle.release_judging.specs.Faults.{number_of_cause, cause_values}
use Rattle.release_judging.specs.Judging.{are_distinct, numbered_part, numbered_parts, judged_set, judged_packages, judged_parts, judged_release}
use Rattle.release_judging.proofs.Distinct.{distinct_means}
use Rattle.release_laws.specs.Steps.{ReleasesKeepTables}
use Rattle.release_laws.proofs.Lists.{bytes_are, some_back, some_from, some_still, all_length, numbered_if, few_if}
use Rattle.release_laws.proofs.Kept.{Grows, versions_still, releases_still, release_still, acks_still, keys_more}

module _ (t : Tables) (k : AreKept t) (mote : List ℕ) (key : KeyRow) (new : key_row t key.key ≡ None) where
  module _ (parts : List Numbered) where
    abbrev row : ReleaseRow
    row = record { mote = mote; number = release_count t mote + 1; parts = parts }

    abbrev next : Tables
    next = changed t (record { effect = effects.Release mote (release_count t mote + 1) parts; key = key })

    grows : Grows t next
    grows = record {
      components = λ c is. is;
      symbols = λ s is. is;
      packages = λ c v b is. is;
      releases = λ m n is.
          some_from (λ (r : ReleaseRow). r.parts) (find (is_release m n) (t.releases ++ row ∷ []))
          (some_still (is_release m n) t.releases (row ∷ []) (some_back (λ (r : ReleaseRow). r.parts) (find (is_release m n) t.releases) is));
    }

    numbered : (m : List ℕ) → bytes_eq m mote ≡ true → release_count t mote + 1 ≡ 1 + release_count t m
    numbered m is = ap (λ x. release_count t x + 1) (sym (bytes_are m mote is)) ∙ omega arith

    fits : release_count t mote < 4294967295 → (m : List ℕ) → bytes_eq m mote ≡ true → release_count t m + 1 ≤ 2 ^ 32 - 1
    fits lt m is = subst (λ (x : List ℕ). release_count t x + 1 ≤ 2 ^ 32 - 1) (sym (bytes_are m mote is)) (omega (arith, lt))

    pub release_kept : IsKeptRelease t parts → release_count t mote < 4294967295 → AreKept next
    release_kept is lt = record {
      symbols = k.symbols;
      few_symbols = k.few_symbols;
      symbol_names = k.symbol_names;
      components = k.components;
      few_components = k.few_components;
      component_names = k.component_names;
      versions = k.versions;
      few_versions = k.few_versions;
      packages = versions_still t next grows t.versions k.packages;
      releases = λ m. numbered_if (λ (r : ReleaseRow). bytes_eq m r.mote) (λ (r : ReleaseRow). r.number) 1 t.releases row (k.releases m) (numbered m);
      few_releases = λ m. few_if (λ (r : ReleaseRow). bytes_eq m r.mote) (2 ^ 32 - 1) t.releases row (k.few_releases m) (fits lt m);
      sets = All-push (λ (r : ReleaseRow). IsKeptRelease next r.parts) t.releases row (releases_still t next grows t.releases k.sets) (release_still t next grows parts is);
      acks = acks_still t next grows t.acks k.acks;
      acked_motes = k.acked_motes;
      keys = keys_more t k key new;
    }

-- ---- a release that the rules take

-- the numbered parts are there, no component twice, nothing refuses their set, and there is room for a release
pub record IsTakenRelease (t : Tables) (mote : List ℕ) (parts : List Part) (ps : List Numbered) : Type 0 where
  pub are : numbered_parts t parts ≡ Some ps
  pub apart : are_distinct (map (λ p. p.component) ps) ≡ true
  pub set : List (List ℕ)
  pub there : packages_of t ps ≡ Some set
  pub linked : link_cause (map component_of set) ≡ None
  pub room : release_count t mote < 4294967295

kept_release : (t : Tables) (mote : List ℕ) (parts : List Part) (ps : List Numbered) → 1 ≤ length parts → length parts ≤ 16 → IsTakenRelease t mote parts ps → IsKeptRelease t ps
kept_release t mote parts ps some few is =
    let long = all_length (numbered_part t) parts ps is.are in
    record {
      parts_are = record { some = omega (arith, long, some); few = omega (arith, long, few); distinct = distinct_means (map (λ (p : Numbered). p.component) ps) is.apart };
      set = is.set;
      there = is.there;
      linked = is.linked;
    }

-- what holds of every release that can be taken holds of one that the rules take
module _ (t : Tables) (mote : List ℕ) (parts : List Part) (P : Effect → Type 0) (then : (ps : List Numbered) → IsTakenRelease t mote parts ps → P (effects.Release mote (release_count t mote + 1) ps)) (e : Effect) where
  abbrev set_with : Bool → List Numbered → Option Cause → Judged
  set_with b ps (Some c) = judgements.Refused (300 + number_of_cause c) (cause_values c)
  set_with b ps None = cond b (judgements.Refused 54 []) (judgements.Does (effects.Release mote (release_count t mote + 1) ps))

  module _ (ps : List Numbered) (are : numbered_parts t parts ≡ Some ps) where
    from_set : (set : List (List ℕ)) → are_distinct (map (λ p. p.component) ps) ≡ true → packages_of t ps ≡ Some set → judged_set t mote ps (link_cause (map component_of set)) ≡ judgements.Does e → P e
    from_set set apart there is = from (link_cause (map component_of set)) refl (leb 4294967295 (release_count t mote)) refl (split (link_cause (map component_of set)) ∙ is)
      where
        split : (o : Option Cause) → set_with (leb 4294967295 (release_count t mote)) ps o ≡ judged_set t mote ps o
        split None = refl
        split (Some c) = refl

        from : (o : Option Cause) → link_cause (map component_of set) ≡ o → (b : Bool) → leb 4294967295 (release_count t mote) ≡ b → set_with b ps o ≡ judgements.Does e → P e
        from (Some c) linked b room is = absurd cc
        from None linked true room is = absurd cc
        from None linked false room is =
            let same : effects.Release mote (release_count t mote + 1) ps ≡ e = cc in
            subst P same (then ps (record { are = are; apart = apart; set = set; there = there; linked = linked; room = leb-false 4294967295 (release_count t mote) room }))

    from_packages : are_distinct (map (λ p. p.component) ps) ≡ true → judged_packages t mote ps (packages_of t ps) ≡ judgements.Does e → P e
    from_packages apart is = from (packages_of t ps) refl is
      where
        from : (o : Option (List (List ℕ))) → packages_of t ps ≡ o → judged_packages t mote ps o ≡ judgements.Does e → P e
        from None there is = absurd cc
        from (Some set) there is = from_set set apart there is

    from_parts : judged_parts t mote (Some ps) ≡ judgements.Does e → P e
    from_parts is = from (are_distinct (map (λ (p : Numbered). p.component) ps)) refl is
      where
        from : (b : Bool) → are_distinct (map (λ (p : Numbered). p.component) ps) ≡ b → cond b (judged_packages t mote ps (packages_of t ps)) judgements.NoRow ≡ judgements.Does e → P e
        from false apart is = absurd cc
        from true apart is = from_packages apart is

  pub release_does : judged_release t mote parts ≡ judgements.Does e → P e
  release_does is = from (numbered_parts t parts) refl is
    where
      from : (o : Option (List Numbered)) → numbered_parts t parts ≡ o → judged_parts t mote o ≡ judgements.Does e → P e
      from None are is = absurd cc
      from (Some ps) are is = from_parts ps are is

pub releases_keep_tables : ReleasesKeepTables
releases_keep_tables t k mote parts some few e key is new =
    release_does t mote parts (λ (x : Effect). AreKept (changed t (record { effect = x; key = key })))
    (λ ps it. release_kept t k mote key new ps (kept_release t mote parts ps some few it) it.room) e is
