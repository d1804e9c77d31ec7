-- Lists of whole numbers and of parts have no float in them.
use Rattle.std.proofs.Common.{◌≡◌, ℕ, List, [], ◌∷◌, map, Bool, true, false, ℤ, pos, negsuc, Result, IfOk, String, Global, string_bytes, refl, ap, ◌∙◌}
use Rattle.std.proofs.lemmas.Result.{IfOk-weaker}
use Rattle.serde_json.specs.Data.{Data}
use Rattle.serde_json.specs.View.{items_of}
use Rattle.serde_json.specs.Written.{compact_text, has_float, items_have_float}
use Rattle.http_bodies.specs.declared.part.Part.{Part}
use Rattle.http_bodies.specs.Replies.{integer, part_data, mote_reply, refusal_reply, reply_text}

pub parts_have_none : (ps : List Part) → items_have_float (items_of (map part_data ps)) ≡ false
parts_have_none [] = refl
parts_have_none (p ∷ ps) = parts_have_none ps

pub integers_have_none : (zs : List ℤ) → items_have_float (items_of (map integer zs)) ≡ false
integers_have_none [] = refl
integers_have_none (pos n ∷ zs) = integers_have_none zs
integers_have_none (negsuc n ∷ zs) = integers_have_none zs

pub mote_has_none : (acknowledged : ℕ) (ps : List Part) (mote : List ℕ) (release : ℕ) → has_float (mote_reply acknowledged ps mote release) ≡ false
mote_has_none acknowledged ps mote release = rw (parts_have_none ps) refl

pub refusal_has_none : (refusal : ℕ) (zs : List ℤ) → has_float (refusal_reply refusal zs) ≡ false
refusal_has_none refusal zs = rw (integers_have_none zs) refl

-- the text of a value with no float
pub text_of : {E : Type 0} (r : Result (String Global) E) (d e : Data) → d ≡ e → has_float e ≡ false
    → IfOk r (λ s. has_float d ≡ false → string_bytes s ≡ compact_text d) → IfOk r (λ s. string_bytes s ≡ reply_text e)
text_of r d e same none h =
    IfOk-weaker r _ _ (λ s text. text (ap has_float same ∙ none) ∙ ap compact_text same) h
