-- The values of one name, field by field, and what they say of a body's length.
use Rattle.std.proofs.Common.{◌≡◌, ◌∙◌, ℕ, ◌+◌, ◌<◌, ◌≤◌, List, [], ◌∷◌, ◌++◌, length, take, map, true, false, Bool, ◌||◌, nat_lt, codes, refl, sym, ap, subst, arith, slice_index_or}
use Rattle.std.specs.List.{filter}
use Rattle.std.proofs.lemmas.List.{append-nil, map-append, take_more}
use Rattle.std.proofs.lemmas.List.Elements.{filter-append}
use Rattle.std.proofs.lemmas.Bool.Decides.{nat_tests}
use Rattle.httparse.specs.declared.spans.HeaderSpan.{HeaderSpan}
use Rattle.httparse.specs.Spans.{header_bytes}
use Rattle.http_heads.specs.Fields.{fields_of, is_named, values_of}
use Rattle.http_heads.specs.Found.{Finds}
use Rattle.http_heads.specs.Lengths.{body_length_of, length_in}
use Rattle.http_heads.specs.declared.fields.Found.{Found}
use Rattle.http_heads.specs.declared.fields.BodyLength.{BodyLength}
use Rattle.http_heads.specs.declared.fields.BodyLength.TheVariants.{Bad}

-- no fields have no values
pub values_none : (name : List ℕ) → values_of name [] ≡ []
unfolding values_of
values_none name = refl

-- a field of another name
pub one_other : (name : List ℕ) (f : List ℕ × List ℕ) → is_named name f ≡ false → values_of name (f ∷ []) ≡ []
unfolding values_of
one_other name f other = rw other refl

-- a field of this name
pub one_named : (name : List ℕ) (f : List ℕ × List ℕ) → is_named name f ≡ true → values_of name (f ∷ []) ≡ f.1 ∷ []
unfolding values_of
one_named name f named = rw named refl

pub values_more : (name : List ℕ) (xs ys : List (List ℕ × List ℕ)) → values_of name (xs ++ ys) ≡ values_of name xs ++ values_of name ys
unfolding values_of
values_more name xs ys =
    ap (map (λ (f : List ℕ × List ℕ). f.1)) (filter-append (is_named name) xs ys)
    ∙ map-append (λ (f : List ℕ × List ℕ). f.1) (filter (is_named name) xs) (filter (is_named name) ys)

-- the values with one field more
pub fields_more : (name buffer : List ℕ) (headers : List HeaderSpan) (i : ℕ) (d : HeaderSpan) → i < length headers
    → values_of name (fields_of buffer (take i headers)) ++ values_of name (header_bytes buffer (slice_index_or headers i d) ∷ []) ≡ values_of name (fields_of buffer (take (i + 1) headers))
fields_more name buffer headers i d within =
    let one : fields_of buffer (take (i + 1) headers) ≡ fields_of buffer (take i headers) ++ header_bytes buffer (slice_index_or headers i d) ∷ []
    = ap (map (header_bytes buffer)) (take_more headers i d within) ∙ map-append (header_bytes buffer) (take i headers) (slice_index_or headers i d ∷ []) in
    sym (ap (values_of name) one ∙ values_more name (fields_of buffer (take i headers)) (header_bytes buffer (slice_index_or headers i d) ∷ []))

pub seen_other : (found : Found) (values : List (List ℕ)) (name : List ℕ) (f : List ℕ × List ℕ) → is_named name f ≡ false → Finds found values → Finds found (values ++ values_of name (f ∷ []))
seen_other found values name f other finds =
    subst (Finds found) (sym (append-nil values) ∙ ap (λ (vs : List (List ℕ)). values ++ vs) (sym (one_other name f other))) finds

pub seen_named : (found : Found) (values : List (List ℕ)) (name : List ℕ) (f : List ℕ × List ℕ) (value : List ℕ) → is_named name f ≡ true → value ≡ f.1 → Finds found (values ++ value ∷ []) → Finds found (values ++ values_of name (f ∷ []))
seen_named found values name f value named same finds =
    subst (λ (vs : List (List ℕ)). Finds found (values ++ vs)) (ap (λ (v : List ℕ). v ∷ []) same ∙ sym (one_named name f named)) finds

pub or_right : (a b : Bool) → b ≡ true → (a || b) ≡ true
or_right true b is = refl
or_right false b is = is

pub or_none : (a b : Bool) → a ≡ false → b ≡ false → (a || b) ≡ false
or_none a b first second = rw (first, second) refl

-- more than 32 fields
pub body_many : (fields : List (List ℕ × List ℕ)) → 32 < length fields → Bad ≡ body_length_of fields
unfolding body_length_of
body_many fields many =
    let test : nat_lt 32 (length fields) ≡ true = grind (arith, nat_tests, many) in
    rw test refl

-- a Transfer-Encoding
pub body_coded : (fields : List (List ℕ × List ℕ)) → nat_lt 0 (length (values_of (codes "transfer-encoding") fields)) ≡ true → Bad ≡ body_length_of fields
unfolding body_length_of
body_coded fields coded = rw (or_right (nat_lt 32 (length fields)) _ coded) refl

-- neither
pub body_plain : (fields : List (List ℕ × List ℕ)) (x : BodyLength) → length fields ≤ 32 → nat_lt 0 (length (values_of (codes "transfer-encoding") fields)) ≡ false
    → x ≡ length_in (values_of (codes "content-length") fields) → x ≡ body_length_of fields
unfolding body_length_of
body_plain fields x few plain is =
    let test : nat_lt 32 (length fields) ≡ false = grind (arith, nat_tests, few) in
    rw (or_none (nat_lt 32 (length fields)) _ test plain) is
