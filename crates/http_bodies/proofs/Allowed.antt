-- What is read as the parts of a release is such as a release may be asked of.
use Rattle.std.proofs.Common.{◌≡◌, ◌≤◌, ◌<◌, ℕ, suc, List, [], ◌∷◌, length, map, Bool, true, false, cond, not, ◌&&◌, ◌||◌, ◌==◌, nat_le, nat_lt, Option, Some, None, option_map, option_and_then, Result, Ok, Err, IfOk, bytes_eq, refl, ap, ◌∙◌, sym, subst, arith}
use Rattle.std.specs.List.{list_any, list_all, AllByRecursion, AllPass, IsDistinct}
use Rattle.std.proofs.lemmas.Bool.{and_parts, or_parts}
use Rattle.std.proofs.lemmas.Bool.Decides.{nat_tests}
use Rattle.std.proofs.lemmas.List.Sums.{AllPass-from_list_all}
use Rattle.serde_json.specs.Data.{Data, null, boolean, number, string, array, object, Items, no_items, item}
use Rattle.serde_json.specs.Events.{items_len}
use Rattle.serde_json.specs.Find.{as_array, as_number, as_str, as_u64}
use Rattle.http_bodies.specs.declared.part.Part.{Part}
use Rattle.http_bodies.specs.declared.fault.BodyFault.{BodyFault}
use Rattle.http_bodies.specs.Gives.{Gives}
use Rattle.http_bodies.specs.Json.{at_most, number_up_to}
use Rattle.http_bodies.specs.Names.{is_name}
use Rattle.http_bodies.specs.Parts.{name_of, part_from, part_of, all_parts, names_differ, different, is_short, listed, parts_of, is_part, AreParts}

name_given : (o : Option (List ℕ)) (t : List ℕ) → option_and_then (λ text. cond (is_name text) (Some text) None) o ≡ Some t → is_name t ≡ true
name_given None t e = cc
name_given (Some x) t e = go (is_name x) refl e
  where
    go : (b : Bool) → is_name x ≡ b → cond b (Some x) None ≡ Some t → is_name t ≡ true
    go true h same = let is : x ≡ t = cc in subst (λ (u : List ℕ). is_name u ≡ true) is h
    go false h same = cc

number_given : (limit : ℕ) (o : Option ℕ) (v : ℕ) → option_and_then (at_most limit) o ≡ Some v → nat_le v limit ≡ true
number_given limit None v e = cc
number_given limit (Some x) v e = go (nat_le x limit) refl e
  where
    go : (b : Bool) → nat_le x limit ≡ b → cond b (Some x) None ≡ Some v → nat_le v limit ≡ true
    go true h same = let is : x ≡ v = cc in subst (λ (u : ℕ). nat_le u limit ≡ true) is h
    go false h same = cc

from_both : (name : Option (List ℕ)) (version : Option ℕ) (p : Part) → part_from name version ≡ Some p → (name ≡ Some p.component) × (version ≡ Some p.version)
from_both None version p e = cc
from_both (Some n) None p e = cc
from_both (Some n) (Some v) p e =
    let is : record { component = n; version = v } ≡ p = cc in
    (ap (λ (q : Part). Some q.component) is, ap (λ (q : Part). Some q.version) is)

both_true : (a b : Bool) → a ≡ true → b ≡ true → (a && b) ≡ true
both_true a b e h = rw (e, h) refl

pair_given : (n v : Data) (p : Part) → part_from (name_of n) (number_up_to 65535 v) ≡ Some p → is_part p ≡ true
pair_given n v p e =
    let two = from_both (name_of n) (number_up_to 65535 v) p e in
    both_true _ _ (name_given (as_str n) p.component two.0) (number_given 65535 (option_and_then as_u64 (as_number v)) p.version two.1)

part_given : (d : Data) (p : Part) → part_of d ≡ Some p → is_part p ≡ true
part_given null p e = cc
part_given (boolean b) p e = cc
part_given (number n) p e = cc
part_given (string s) p e = cc
part_given (array no_items) p e = cc
part_given (array (item n no_items)) p e = cc
part_given (array (item n (item v no_items))) p e = pair_given n v p e
part_given (array (item n (item v (item d rest)))) p e = cc
part_given (object ms) p e = cc

cons_given : (o : Option Part) (r : Option (List Part)) (ps : List Part) → option_and_then (λ p. option_map (λ qs. p ∷ qs) r) o ≡ Some ps
    → (p : Part) × (qs : List Part) × (o ≡ Some p) × (r ≡ Some qs) × (ps ≡ p ∷ qs)
cons_given None r ps e = cc
cons_given (Some p) None ps e = cc
cons_given (Some p) (Some qs) ps e = (p, qs, refl, refl, cc)

each_given : (ds : Items) (ps : List Part) → all_parts ds ≡ Some ps → list_all is_part ps ≡ true
each_given no_items ps e = let is : [] ≡ ps = cc in subst (λ (qs : List Part). list_all is_part qs ≡ true) is refl
each_given (item d ds) ps e =
    let got = cons_given (part_of d) (all_parts ds) ps e in
    let both = both_true (is_part got.0) (list_all is_part got.1) (part_given d got.0 got.2) (each_given ds got.1 got.3) in
    subst (λ (qs : List Part). list_all is_part qs ≡ true) (sym got.4) both

length_given : (ds : Items) (ps : List Part) → all_parts ds ≡ Some ps → length ps ≡ items_len ds
length_given no_items ps e = let is : [] ≡ ps = cc in subst (λ (qs : List Part). length qs ≡ 0) is refl
length_given (item d ds) ps e =
    let got = cons_given (part_of d) (all_parts ds) ps e in
    ap length got.4 ∙ ap suc (length_given ds got.1 got.3)

none_same : (p : Part) (ps : List Part) → list_any (λ q. bytes_eq p.component q.component) ps ≡ false
    → AllByRecursion (λ y. bytes_eq p.component y ≡ false) (map (λ q. q.component) ps)
none_same p [] e = tt
none_same p (q ∷ qs) e =
    let two = or_parts _ _ e in
    (two.0, none_same p qs two.1)

not_true : (b : Bool) → not b ≡ true → b ≡ false
not_true true e = cc
not_true false e = refl

distinct_given : (ps : List Part) → names_differ ps ≡ true → IsDistinct bytes_eq (map (λ q. q.component) ps)
unfolding IsDistinct
distinct_given [] e = tt
distinct_given (p ∷ ps) e =
    let two = and_parts _ _ e in
    (none_same p ps (not_true _ two.0), distinct_given ps two.1)

count_given : (n : ℕ) → is_short n ≡ true → (1 ≤ n) × (n ≤ 16)
count_given n e = (grind (arith, nat_tests), grind (arith, nat_tests))

different_given : (o : Option (List Part)) (ps : List Part) → option_and_then different o ≡ Some ps → (o ≡ Some ps) × (names_differ ps ≡ true)
different_given None ps e = cc
different_given (Some qs) ps e = go (names_differ qs) refl e
  where
    go : (b : Bool) → names_differ qs ≡ b → cond b (Some qs) None ≡ Some ps → (Some qs ≡ Some ps) × (names_differ ps ≡ true)
    go true h same = let is : qs ≡ ps = cc in (ap Some is, subst (λ (xs : List Part). names_differ xs ≡ true) is h)
    go false h same = cc

listed_given : (ds : Items) (ps : List Part) → listed ds ≡ Some ps → AreParts ps
listed_given ds ps e = go (is_short (items_len ds)) refl e
  where
    go : (b : Bool) → is_short (items_len ds) ≡ b → cond b (option_and_then different (all_parts ds)) None ≡ Some ps → AreParts ps
    go true h same =
        let two = different_given (all_parts ds) ps same in
        let count = length_given ds ps two.0 in
        let room = count_given (items_len ds) h in
        record {
          some = subst (λ (n : ℕ). 1 ≤ n) (sym count) room.0;
          few = subst (λ (n : ℕ). n ≤ 16) (sym count) room.1;
          each = AllPass-from_list_all is_part ps (each_given ds ps two.0);
          different_names = distinct_given ps two.1;
        }
    go false h same = cc

given_array : (o : Option Items) (ps : List Part) → option_and_then listed o ≡ Some ps → AreParts ps
given_array None ps e = cc
given_array (Some ds) ps e = listed_given ds ps e

-- what is given of a value is allowed
pub parts_allowed : (d : Data) (r : Result (List Part) BodyFault) → Gives (parts_of d) r → IfOk r AreParts
parts_allowed d (Ok ps) e = given_array (as_array d) ps e
parts_allowed d (Err f) e = tt
