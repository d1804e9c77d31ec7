-- A key is a text.
use Rattle.std.proofs.Common.{◌≡◌, ◌⊎◌, ℕ, ◌<◌, zero, suc, List, [], ◌∷◌, length, Bool, true, false, ◌&&◌, ◌||◌, ◌==◌, nat_le, cond, codes, Some, None, refl, subst, inl, inr, arith}
use Rattle.std.specs.Prelude.{IsAscii, IsUtf8}
use Rattle.std.specs.Int.{is_in_range}
use Rattle.std.specs.List.{list_all}
use Rattle.std.proofs.lemmas.Bool.{and_parts}
use Rattle.std.proofs.lemmas.Bool.Decides.{nat_tests}
use Rattle.std.proofs.lemmas.Option.{same_Some}
use Rattle.std.proofs.lemmas.Str.{IsUtf8-from_ascii}
use Rattle.http_texts.specs.Texts.{is_key_byte, is_key}
use Rattle.http_heads.specs.Fields.{key_in, key_of, values_of}

pub range_small : (lo hi c : ℕ) → hi < 128 → is_in_range lo hi c ≡ true → c < 128
range_small lo hi c low is =
    let p = and_parts (nat_le lo c) (nat_le c hi) is in
    grind (arith, nat_tests, p.1, low)

pub of_three : (a b c : Bool) → (a || b || c) ≡ true → (a ≡ true) ⊎ ((b ≡ true) ⊎ (c ≡ true))
of_three true b c e = inl refl
of_three false true c e = inr (inl refl)
of_three false false c e = inr (inr e)

pub letter_small : (b : ℕ) → (is_in_range 48 57 b ≡ true) ⊎ ((is_in_range 65 90 b ≡ true) ⊎ (is_in_range 97 122 b ≡ true)) → b < 128
letter_small b (inl is) = range_small 48 57 b (omega arith) is
letter_small b (inr (inl is)) = range_small 65 90 b (omega arith) is
letter_small b (inr (inr is)) = range_small 97 122 b (omega arith) is

pub byte_small : (b : ℕ) → is_key_byte b ≡ true → b < 128
byte_small b is = parts (of_three _ _ _ is)
  where
    parts : (((is_in_range 48 57 b || is_in_range 65 90 b) || is_in_range 97 122 b) ≡ true) ⊎ (((b == 95) ≡ true) ⊎ ((b == 45) ≡ true)) → b < 128
    parts (inl is) = letter_small b (of_three _ _ _ is)
    parts (inr (inl is)) = grind (arith, nat_tests, is)
    parts (inr (inr is)) = grind (arith, nat_tests, is)

pub key_ascii : (bytes : List ℕ) → list_all is_key_byte bytes ≡ true → IsAscii bytes
key_ascii [] e i = omega arith
key_ascii (b ∷ bytes) e zero = byte_small b (and_parts (is_key_byte b) (list_all is_key_byte bytes) e).0
key_ascii (b ∷ bytes) e (suc i) = key_ascii bytes (and_parts (is_key_byte b) (list_all is_key_byte bytes) e).1 i

pub last_true : (a b c : Bool) → (a && b && c) ≡ true → c ≡ true
last_true true true c e = e
last_true true false c e = absurd cc
last_true false b c e = absurd cc

pub is_text : (key : List ℕ) → is_key key ≡ true → IsUtf8 key
is_text key is = IsUtf8-from_ascii key (key_ascii key (last_true (nat_le 1 (length key)) (nat_le (length key) 64) (list_all is_key_byte key) is))

pub tested : (q : Bool) (value key : List ℕ) → is_key value ≡ q → cond q (Some value) None ≡ Some key → is_key key ≡ true
tested true value key is e = subst (λ (xs : List ℕ). is_key xs ≡ true) (same_Some value key e) is
tested false value key is e = absurd cc

pub value_text : (values : List (List ℕ)) (key : List ℕ) → key_in values ≡ Some key → IsUtf8 key
value_text [] key e = absurd cc
value_text (value ∷ []) key e = is_text key (tested (is_key value) value key refl e)
value_text (value ∷ other ∷ more) key e = absurd cc

-- the key that fields give is a text
pub key_text : (fields : List (List ℕ × List ℕ)) (key : List ℕ) → key_of fields ≡ Some key → IsUtf8 key
key_text fields key e = value_text (values_of (codes "request-key") fields) key e
