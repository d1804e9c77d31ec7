-- Lists of JSON, and the parts that they are.
use Rattle.std.proofs.Common.{◌≡◌, ℕ, List, [], ◌∷◌, length, Bool, true, false, Option, Some, None, option_and_then, Vec, Global, vec_len, refl, ap, ◌∙◌, sym}
use Rattle.serde_json.proofs.Views.{items_len-items_view}
use Rattle.serde_json.specs.Data.{Data, null, boolean, number, string, array, object, Items, no_items, item}
use Rattle.serde_json.specs.Events.{items_len}
use Rattle.serde_json.specs.Find.{as_array}
use Rattle.serde_json.specs.View.{view, items_view}
use Rattle.serde_json.specs.declared.value.Value.{Value}
use Rattle.http_bodies.specs.declared.part.Part.{Part}
use Rattle.http_bodies.specs.Parts.{part_of, all_parts, names_differ, different, is_short, listed, parts_of}

not_two : (ds : Items) → (items_len ds ≡ 2 → ⊥) → None ≡ part_of (array ds)
not_two no_items h = refl
not_two (item a no_items) h = refl
not_two (item a (item b no_items)) h = absurd (h refl)
not_two (item a (item b (item c rest))) h = refl

-- a list of another length than 2 is no pair
pub no_pair : (d : Data) (vs : List Value) → Some (items_view vs) ≡ as_array d → (length vs ≡ 2 → ⊥) → None ≡ part_of d
no_pair null vs e h = cc
no_pair (boolean b) vs e h = cc
no_pair (number n) vs e h = cc
no_pair (string s) vs e h = cc
no_pair (array ds) vs e h =
    let same : items_view vs ≡ ds = cc in
    not_two ds (λ two. h (sym (items_len-items_view vs) ∙ (ap items_len same ∙ two)))
no_pair (object ms) vs e h = cc

-- the parts of a value that is a list
pub parts_given : (d : Data) (vs : List Value) → Some (items_view vs) ≡ as_array d → parts_of d ≡ listed (items_view vs)
parts_given d vs e = ap (option_and_then listed) (sym e)

pub long_list : (v : Vec Value Global) → is_short (vec_len v) ≡ false → listed (items_view v.items) ≡ None
long_list v e =
    let same : length v.items ≡ vec_len v = sym v.ok.0 in
    rw (items_len-items_view v.items, same, e) refl

pub short_list : (v : Vec Value Global) → is_short (vec_len v) ≡ true → listed (items_view v.items) ≡ option_and_then different (all_parts (items_view v.items))
short_list v e =
    let same : length v.items ≡ vec_len v = sym v.ok.0 in
    rw (items_len-items_view v.items, same, e) refl

-- where the names differ, all parts are given
pub all_differ : (o : Option (List Part)) (ps : List Part) → o ≡ Some ps → names_differ ps ≡ true → option_and_then different o ≡ Some ps
all_differ o ps e h = rw (e, h) refl
