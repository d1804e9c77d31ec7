-- Acknowledgements keep the tables in order.
use Rattle.std.proofs.Common.{◌≡◌, ℕ, ◌≤◌, Bool, true, false, cond, Option, Some, None, List, [], ◌∷◌, map, refl, sym, ap, subst, ◌∙◌, bytes_eq, is_some, ltb, pos}
use Rattle.std.specs.Prelude.{is_none}
use Rattle.std.specs.List.{list_any, AllByRecursion}
use Rattle.std.proofs.lemmas.Bool.{or_parts, or_from, ltb-false}
use Rattle.std.proofs.lemmas.List.Elements.{All-from_recursion, recursion_from_All}
use Rattle.release_rows.specs.declared.part.Numbered.{Numbered}
use Rattle.release_rows.specs.declared.row.AckRow.{AckRow}
use Rattle.release_rows.specs.declared.row.KeyRow.{KeyRow}
use Rattle.release_rows.specs.declared.change.Effect.{Effect}
use Rattle.release_rows.specs.declared.change.Effect.TheVariants as effects
use Rattle.release_rows.specs.Tables.{Tables, key_row, stored_release, acknowledged}
use Rattle.release_rows.specs.Change.{with_ack, changed}
use Rattle.release_rows.specs.Kept.{AreDifferent, AreKept}
use Rattle.release_judging.specs.declared.judged.Judged.TheVariants as judgements
use Rattle.release_judging.specs.Judging.{judged_ack}
use Rattle.release_laws.specs.Steps.{AcksKeepTables}
use Rattle.release_laws.proofs.Lists.{turned, bytes_are}
use Rattle.release_laws.proofs.Kept.{Grows, versions_still, releases_still, acks_still, keys_more}

-- ---- what motes said, with one more word

said_all : (P : AckRow → Type 0) (mote : List ℕ) (n : ℕ) (rs : List AckRow) → P (record { mote = mote; number = n }) → AllByRecursion P rs → AllByRecursion P (with_ack rs mote n)
said_all P mote n [] new all = (new, tt)
said_all P mote n (r ∷ rs) new all = from (bytes_eq mote r.mote) (said_all P mote n rs new all.1)
  where
    from : (b : Bool) → AllByRecursion P (with_ack rs mote n) → AllByRecursion P (cond b (record { mote = mote; number = n } ∷ rs) (r ∷ with_ack rs mote n))
    from true rest = (new, all.1)
    from false rest = (all.0, rest)

said_not : (x mote : List ℕ) (n : ℕ) (rs : List AckRow) → list_any (bytes_eq x) (map (λ a. a.mote) rs) ≡ false → bytes_eq x mote ≡ false → list_any (bytes_eq x) (map (λ a. a.mote) (with_ack rs mote n)) ≡ false
said_not x mote n [] none other = or_from (bytes_eq x mote) false other refl
said_not x mote n (r ∷ rs) none other = from (bytes_eq mote r.mote) (said_not x mote n rs parts.1 other)
  where
    parts : (bytes_eq x r.mote ≡ false) × (list_any (bytes_eq x) (map (λ a. a.mote) rs) ≡ false)
    parts = or_parts (bytes_eq x r.mote) (list_any (bytes_eq x) (map (λ a. a.mote) rs)) none

    from : (b : Bool) → list_any (bytes_eq x) (map (λ a. a.mote) (with_ack rs mote n)) ≡ false
        → list_any (bytes_eq x) (map (λ a. a.mote) (cond b (record { mote = mote; number = n } ∷ rs) (r ∷ with_ack rs mote n))) ≡ false
    from true rest = or_from (bytes_eq x mote) (list_any (bytes_eq x) (map (λ a. a.mote) rs)) other parts.1
    from false rest = or_from (bytes_eq x r.mote) (list_any (bytes_eq x) (map (λ a. a.mote) (with_ack rs mote n))) parts.0 rest

said_once : (mote : List ℕ) (n : ℕ) (rs : List AckRow) → AreDifferent (map (λ a. a.mote) rs) → AreDifferent (map (λ a. a.mote) (with_ack rs mote n))
said_once mote n [] d = (refl, tt)
said_once mote n (r ∷ rs) d = from (bytes_eq mote r.mote) refl (said_once mote n rs d.1)
  where
    from : (b : Bool) → bytes_eq mote r.mote ≡ b → AreDifferent (map (λ a. a.mote) (with_ack rs mote n))
        → AreDifferent (map (λ a. a.mote) (cond b (record { mote = mote; number = n } ∷ rs) (r ∷ with_ack rs mote n)))
    from true is rest = (subst (λ (x : List ℕ). list_any (bytes_eq x) (map (λ a. a.mote) rs) ≡ false) (sym (bytes_are mote r.mote is)) d.0, d.1)
    from false is rest = (said_not r.mote mote n rs d.0 (turned r.mote mote ∙ is), rest)

-- ---- the step

module _ (t : Tables) (k : AreKept t) (mote : List ℕ) (n : ℕ) (key : KeyRow) (new : key_row t key.key ≡ None) where
  abbrev next : Tables
  next = changed t (record { effect = effects.Ack mote n; key = key })

  grows : Grows t next
  grows = record { components = λ c is. is; symbols = λ s is. is; packages = λ c v b is. is; releases = λ m r is. is }

  pub ack_kept : is_some (stored_release t mote n) ≡ true → AreKept next
  ack_kept is = record {
    symbols = k.symbols;
    few_symbols = k.few_symbols;
    symbol_names = k.symbol_names;
    components = k.components;
    few_components = k.few_components;
    component_names = k.component_names;
    versions = k.versions;
    few_versions = k.few_versions;
    packages = versions_still t next grows t.versions k.packages;
    releases = k.releases;
    few_releases = k.few_releases;
    sets = releases_still t next grows t.releases k.sets;
    acks = All-from_recursion (λ (a : AckRow). is_some (stored_release next a.mote a.number) ≡ true) (with_ack t.acks mote n)
        (said_all (λ (a : AckRow). is_some (stored_release next a.mote a.number) ≡ true) mote n t.acks is
        (recursion_from_All (λ (a : AckRow). is_some (stored_release next a.mote a.number) ≡ true) t.acks (acks_still t next grows t.acks k.acks)));
    acked_motes = said_once mote n t.acks k.acked_motes;
    keys = keys_more t k key new;
  }

-- what holds of the word of a mote that has the release holds of one that the rules take
pub ack_does : (t : Tables) (mote : List ℕ) (n : ℕ) (P : Effect → Type 0) → (is_some (stored_release t mote n) ≡ true → acknowledged t mote ≤ n → P (effects.Ack mote n)) → (e : Effect) → judged_ack t mote n ≡ judgements.Does e → P e
ack_does t mote n P then e is = from (stored_release t mote n) refl (ltb n (acknowledged t mote)) refl is
  where
    from : (o : Option (List Numbered)) → stored_release t mote n ≡ o → (b : Bool) → ltb n (acknowledged t mote) ≡ b
        → cond (is_none o) judgements.NoRow (cond b (judgements.Refused 55 (pos (acknowledged t mote) ∷ [])) (judgements.Does (effects.Ack mote n))) ≡ judgements.Does e → P e
    from None there b low is = absurd cc
    from (Some parts) there true low is = absurd cc
    from (Some parts) there false low is =
        let same : effects.Ack mote n ≡ e = cc in
        subst P same (then (ap (λ (o : Option (List Numbered)). is_some o) there) (ltb-false n (acknowledged t mote) low))

pub acks_keep_tables : AcksKeepTables
acks_keep_tables t k mote n e key is new = ack_does t mote n (λ (x : Effect). AreKept (changed t (record { effect = x; key = key }))) (λ there low. ack_kept t k mote n key new there) e is
