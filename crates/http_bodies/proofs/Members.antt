-- The one member of an object.
use Rattle.std.proofs.Common.{◌≡◌, ℕ, suc, List, Bool, true, false, cond, is_eq, Ordering, Less, Equal, Greater, Option, Some, None, bytes_eq, refl, ap, ◌∙◌, arith}
use Rattle.std.specs.Cmp.Lexicographic.{slice_cmp}
use Rattle.std.specs.Ordering.{nat_cmp, match_ordering}
use Rattle.std.proofs.lemmas.Map.Text.{is_eq-slice_cmp}
use Rattle.serde_json.specs.Data.{Data, null, boolean, number, string, array, object, Members, no_members, member}
use Rattle.serde_json.specs.Events.{members_len}
use Rattle.serde_json.specs.Find.{as_object, get}
use Rattle.http_bodies.specs.Json.{only_member}

pub no_object : (key : List ℕ) (d : Data) → None ≡ as_object d → None ≡ only_member key d
no_object key null e = refl
no_object key (boolean b) e = refl
no_object key (number n) e = refl
no_object key (string s) e = refl
no_object key (array ds) e = refl
no_object key (object ms) e = cc

not_single : (key : List ℕ) (ms : Members) → (members_len ms ≡ 1 → ⊥) → None ≡ only_member key (object ms)
not_single key no_members h = refl
not_single key (member k d no_members) h = absurd (h refl)
not_single key (member k d (member l e rest)) h = refl

pub not_one : (key : List ℕ) (d : Data) (ms : Members) → Some ms ≡ as_object d → (members_len ms ≡ 1 → ⊥) → None ≡ only_member key d
not_one key null ms e h = cc
not_one key (boolean b) ms e h = cc
not_one key (number n) ms e h = cc
not_one key (string s) ms e h = cc
not_one key (array ds) ms e h = cc
not_one key (object ns) ms e h =
    let same : ms ≡ ns = cc in
    not_single key ns (λ one. h (ap members_len same ∙ one))

picked : (o : Ordering) (e : Data) → match_ordering o None (Some e) None ≡ cond (is_eq o) (Some e) None
picked Less e = refl
picked Equal e = refl
picked Greater e = refl

single : (key : List ℕ) (ms : Members) → members_len ms ≡ 1 → get key (object ms) ≡ only_member key (object ms)
single key no_members h = absurd (omega arith)
single key (member k d no_members) h =
    picked (slice_cmp nat_cmp key k) d ∙ ap (λ (b : Bool). cond b (Some d) None) (is_eq-slice_cmp key k)
single key (member k d (member l e rest)) h = absurd (omega arith)

pub only_one : (key : List ℕ) (d : Data) (ms : Members) → Some ms ≡ as_object d → members_len ms ≡ 1 → get key d ≡ only_member key d
only_one key null ms e h = cc
only_one key (boolean b) ms e h = cc
only_one key (number n) ms e h = cc
only_one key (string s) ms e h = cc
only_one key (array ds) ms e h = cc
only_one key (object ns) ms e h =
    let same : ns ≡ ms = cc in
    single key ns (ap members_len same ∙ h)
