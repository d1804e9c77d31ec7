-- An input has one kind.
use Rattle.std.proofs.Common.{◌≡◌, ℕ, ◌+◌, List, ◌++◌, length, take, map, Option, refl, sym, ap, ◌∙◌, arith}
use Rattle.std.proofs.lemmas.List.{length-append}
use Rattle.std.proofs.Math.Seq.{take-append_seam}
use Rattle.httparse.specs.Grammar.{RequestHead}
use Rattle.httparse.specs.Spans.{name_and_value}
use Rattle.httparse.proofs.GrammarLemmas.{request_unique}
use Rattle.http_heads.specs.Heads.{HasHead, HasNoHead, IsCutHead}
use Rattle.http_heads.specs.Laws.{HeadsDiffer}
use Rattle.http_heads.specs.Fields.{key_of}
use Rattle.http_heads.specs.declared.fields.BodyLength.{BodyLength}
use Rattle.http_heads.specs.declared.fields.BodyLength.TheVariants.{Bytes, TooLarge, Bad}
use Rattle.http_requests.specs.Requests.{Request, length_by, Begins, IsRequest, IsBadHead, IsLarge, IsCutBody, in_head, in_body, Kind, no_head, bad_head, too_large, cut, request, IsOfKind}
use Rattle.http_requests.specs.Laws.{Agree}

-- two heads of one input are one
pub one_head : (input : List ℕ) (h k : RequestHead) (r q : List ℕ) → Begins input h r → Begins input k q → (h ≡ k) × (r ≡ q)
one_head input h k r q x y = request_unique input h k r q x.reads y.reads

pub one_length : (input : List ℕ) (h k : RequestHead) (r q : List ℕ) (a b : BodyLength) → Begins input h r → Begins input k q → length_by h ≡ a → length_by k ≡ b → a ≡ b
one_length input h k r q a b x y first second =
    sym first ∙ (ap length_by (one_head input h k r q x y).0 ∙ second)

pub has_head : (input : List ℕ) (h : RequestHead) (r : List ℕ) → Begins input h r → HasHead input
has_head input h r x = record { head = h; rest = r; reads = x.reads; small = x.small }

pub not_refused : HeadsDiffer → (input : List ℕ) → HasNoHead input → (h : RequestHead) (r : List ℕ) → Begins input h r → ⊥
not_refused laws input none h r x = laws.refused_or_whole input none (has_head input h r x)

pub not_cut : HeadsDiffer → (input : List ℕ) → IsCutHead input → (h : RequestHead) (r : List ℕ) → Begins input h r → ⊥
not_cut laws input is h r x = laws.cut_or_whole input is (has_head input h r x)

abbrev pub count_of : BodyLength → ℕ
count_of (Bytes n) = n
count_of TooLarge = 0
count_of Bad = 0

-- a body that is cut isn't whole
pub short_body : (input : List ℕ) → IsCutBody input → (q : Request) → IsRequest input q → ⊥
short_body input c q is =
    let heads = one_head input c.head is.head c.rest is.rest c.begins is.begins in
    let counts : c.count ≡ length q.body = ap count_of (one_length input c.head is.head c.rest is.rest _ _ c.begins is.begins c.length_is is.length_is) in
    let whole : length c.rest ≡ length q.body + length is.after = ap length (heads.1 ∙ is.body_is) ∙ length-append q.body is.after in
    omega (arith, c.short, counts, whole)

abbrev of_parts : List ℕ → List ℕ → Option (List ℕ) → List ℕ → Request
of_parts method target key body = record { method = method; target = target; key = key; body = body }

pub same_parts : (m m' t t' : List ℕ) (k k' : Option (List ℕ)) (b b' : List ℕ) → m ≡ m' → t ≡ t' → k ≡ k' → b ≡ b' → of_parts m t k b ≡ of_parts m' t' k' b'
same_parts m m' t t' k k' b b' method target key body = rw (method, target, key, body) refl

-- the first part of a list by its length
pub front : (r b a c d : List ℕ) → r ≡ b ++ a → r ≡ c ++ d → length b ≡ length c → b ≡ c
front r b a c d first second long =
    sym (take-append_seam b a) ∙ (ap (take (length b)) (sym first ∙ second) ∙ (ap (λ (n : ℕ). take n (c ++ d)) long ∙ take-append_seam c d))

pub one_request : (input : List ℕ) (p q : Request) → IsRequest input p → IsRequest input q → p ≡ q
one_request input p q x y =
    let heads = one_head input x.head y.head x.rest y.rest x.begins y.begins in
    let long : length p.body ≡ length q.body = ap count_of (one_length input x.head y.head x.rest y.rest _ _ x.begins y.begins x.length_is y.length_is) in
    same_parts p.method q.method p.target q.target p.key q.key p.body q.body
    (x.method_is ∙ (ap (λ (h : RequestHead). h.method) heads.0 ∙ sym y.method_is))
    (x.target_is ∙ (ap (λ (h : RequestHead). h.target) heads.0 ∙ sym y.target_is))
    (x.key_is ∙ (ap (λ (h : RequestHead). key_of (map name_and_value h.fields)) heads.0 ∙ sym y.key_is))
    (front x.rest p.body x.after q.body y.after x.body_is (heads.1 ∙ y.body_is) long)

-- what is known of an input with a head, by its body's length
abbrev HasLength : List ℕ → BodyLength → Type 0
HasLength input a = (h : RequestHead) × (r : List ℕ) × Begins input h r × (length_by h ≡ a)

pub lengths_agree : (input : List ℕ) (a b : BodyLength) → HasLength input a → HasLength input b → a ≡ b
lengths_agree input a b x y = one_length input x.0 y.0 x.1 y.1 a b x.2 y.2 x.3 y.3

bad_length : (input : List ℕ) → IsBadHead input → HasLength input Bad
bad_length input x = (x.head, x.rest, x.begins, x.bad)

large_length : (input : List ℕ) → IsLarge input → HasLength input TooLarge
large_length input x = (x.head, x.rest, x.begins, x.large)

cut_length : (input : List ℕ) → (x : IsCutBody input) → HasLength input (Bytes x.count)
cut_length input x = (x.head, x.rest, x.begins, x.length_is)

whole_length : (input : List ℕ) (q : Request) → IsRequest input q → HasLength input (Bytes (length q.body))
whole_length input q x = (x.head, x.rest, x.begins, x.length_is)

bad_or_large : Bad ≡ TooLarge → ⊥
bad_or_large e = absurd cc

bad_or_bytes : (n : ℕ) → Bad ≡ Bytes n → ⊥
bad_or_bytes n e = absurd cc

large_or_bytes : (n : ℕ) → TooLarge ≡ Bytes n → ⊥
large_or_bytes n e = absurd cc

pub kinds : HeadsDiffer → (input : List ℕ) (a b : Kind) → IsOfKind input a → IsOfKind input b → Agree input a b
kinds laws input no_head no_head x y = refl
kinds laws input no_head bad_head x y = absurd (not_refused laws input x y.head y.rest y.begins)
kinds laws input no_head too_large x y = absurd (not_refused laws input x y.head y.rest y.begins)
kinds laws input no_head cut x (in_head y) = laws.refused_or_cut input x y
kinds laws input no_head cut x (in_body y) = absurd (not_refused laws input x y.head y.rest y.begins)
kinds laws input no_head (request q) x y = absurd (not_refused laws input x y.head y.rest y.begins)
kinds laws input bad_head no_head x y = absurd (not_refused laws input y x.head x.rest x.begins)
kinds laws input bad_head bad_head x y = refl
kinds laws input bad_head too_large x y = absurd (bad_or_large (lengths_agree input Bad TooLarge (bad_length input x) (large_length input y)))
kinds laws input bad_head cut x (in_head y) = absurd (not_cut laws input y x.head x.rest x.begins)
kinds laws input bad_head cut x (in_body y) = absurd (bad_or_bytes y.count (lengths_agree input Bad (Bytes y.count) (bad_length input x) (cut_length input y)))
kinds laws input bad_head (request q) x y = absurd (bad_or_bytes (length q.body) (lengths_agree input Bad (Bytes (length q.body)) (bad_length input x) (whole_length input q y)))
kinds laws input too_large no_head x y = absurd (not_refused laws input y x.head x.rest x.begins)
kinds laws input too_large bad_head x y = absurd (bad_or_large (lengths_agree input Bad TooLarge (bad_length input y) (large_length input x)))
kinds laws input too_large too_large x y = refl
kinds laws input too_large cut x (in_head y) = absurd (not_cut laws input y x.head x.rest x.begins)
kinds laws input too_large cut x (in_body y) = absurd (large_or_bytes y.count (lengths_agree input TooLarge (Bytes y.count) (large_length input x) (cut_length input y)))
kinds laws input too_large (request q) x y = absurd (large_or_bytes (length q.body) (lengths_agree input TooLarge (Bytes (length q.body)) (large_length input x) (whole_length input q y)))
kinds laws input cut no_head (in_head x) y = laws.refused_or_cut input y x
kinds laws input cut no_head (in_body x) y = absurd (not_refused laws input y x.head x.rest x.begins)
kinds laws input cut bad_head (in_head x) y = absurd (not_cut laws input x y.head y.rest y.begins)
kinds laws input cut bad_head (in_body x) y = absurd (bad_or_bytes x.count (lengths_agree input Bad (Bytes x.count) (bad_length input y) (cut_length input x)))
kinds laws input cut too_large (in_head x) y = absurd (not_cut laws input x y.head y.rest y.begins)
kinds laws input cut too_large (in_body x) y = absurd (large_or_bytes x.count (lengths_agree input TooLarge (Bytes x.count) (large_length input y) (cut_length input x)))
kinds laws input cut cut x y = refl
kinds laws input cut (request q) (in_head x) y = absurd (not_cut laws input x y.head y.rest y.begins)
kinds laws input cut (request q) (in_body x) y = absurd (short_body input x q y)
kinds laws input (request p) no_head x y = absurd (not_refused laws input y x.head x.rest x.begins)
kinds laws input (request p) bad_head x y = absurd (bad_or_bytes (length p.body) (lengths_agree input Bad (Bytes (length p.body)) (bad_length input y) (whole_length input p x)))
kinds laws input (request p) too_large x y = absurd (large_or_bytes (length p.body) (lengths_agree input TooLarge (Bytes (length p.body)) (large_length input y) (whole_length input p x)))
kinds laws input (request p) cut x (in_head y) = absurd (not_cut laws input y x.head x.rest x.begins)
kinds laws input (request p) cut x (in_body y) = absurd (short_body input y p x)
kinds laws input (request p) (request q) x y = ap request (one_request input p q x y)
