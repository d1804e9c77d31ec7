-- A head of 2,800 fields is longer than 8,193 bytes, so the room for headers never ends first.
use Rattle.std.proofs.Common.{◌≡◌, ◌≢◌, ℕ, ◌+◌, ◌*◌, ◌<◌, ◌≤◌, List, [], ◌∷◌, ◌++◌, suc, length, ap, sym, subst, ◌∙◌, inr, arith, refl, Err}
use Rattle.std.specs.List.{All}
use Rattle.std.specs.List.{flat_map}
use Rattle.std.proofs.lemmas.List.{length-append, append-nil}
use Rattle.std.proofs.lemmas.List.Elements.{All-head, All-tail}
use Rattle.httparse.specs.Ascii.{colon}
use Rattle.httparse.specs.Grammar.{LineEnd, crlf, lf, print_end, Field, print_field, IsField, RequestHead, print_request, print_section, ReadsRequest, HasNoRequest, NeverHasRequest}
use Rattle.httparse.specs.Spans.{RequestExceeds}
use Rattle.httparse.specs.Outcome.{OnTooManyHeaders}
use Rattle.httparse.specs.declared.Status.{Status}
use Rattle.httparse.specs.declared.spans.RequestSpans.{RequestSpans}
use Rattle.httparse.specs.declared.Error.{Error}
use Rattle.httparse.specs.declared.Error.TheVariants.{HeaderName, HeaderValue, NewLine, Status as BadStatus, Token, TooManyHeaders, Version}
use Rattle.http_heads.specs.Heads.{IsRefusedHead}

-- a line's end has a byte at least
pub end_long : (e : LineEnd) → 1 ≤ length (print_end e)
end_long crlf = omega arith
end_long lf = omega arith

-- a field has three bytes at least
pub field_long : (f : Field) → IsField f → 3 ≤ length (print_field f)
field_long f is =
    let end = end_long f.end in
    let name : 0 < length f.name = is.name.0 in
    let whole : length (print_field f) ≡ length (f.name ++ colon ∷ f.raw) + length (print_end f.end) = length-append (f.name ++ colon ∷ f.raw) (print_end f.end) in
    let rest : length (f.name ++ colon ∷ f.raw) ≡ length f.name + suc (length f.raw) = length-append f.name (colon ∷ f.raw) in
    omega (arith, end, name, whole, rest)

pub fields_long : (fields : List Field) → All IsField fields → 3 * length fields ≤ length (flat_map print_field fields)
fields_long [] all = omega arith
fields_long (f ∷ fields) all =
    let first = field_long f (All-head IsField f fields all) in
    let more = fields_long fields (All-tail IsField f fields all) in
    let whole = length-append (print_field f) (flat_map print_field fields) in
    omega (arith, first, more, whole)

-- a list is as long as its last part at least
pub after : (xs ys : List ℕ) (n : ℕ) → n ≤ length ys → n ≤ length (xs ++ ys)
after xs ys n fits = omega (arith, length-append xs ys, fits)

-- a head is longer than its section
pub head_long : (h : RequestHead) → All IsField h.fields → 3 * length h.fields ≤ length (print_request h)
unfolding print_request
head_long h all =
    let fields = fields_long h.fields all in
    let sum = length-append (flat_map print_field h.fields) (print_end h.last) in
    let section : 3 * length h.fields ≤ length (print_section h.fields h.last) = omega (arith, fields, sum) in
    after _ (print_section h.fields h.last) _ section

-- with room for 2,800 headers each error says that no head can follow
pub never : (e : Error) (room : ℕ) (buffer : List ℕ) → room ≡ 2800 → (e ≢ TooManyHeaders → NeverHasRequest buffer) → (e ≡ TooManyHeaders → RequestExceeds room buffer) → length buffer ≤ 8192 → NeverHasRequest buffer
never HeaderName room buffer is invalid many short = invalid (λ same. absurd cc)
never HeaderValue room buffer is invalid many short = invalid (λ same. absurd cc)
never NewLine room buffer is invalid many short = invalid (λ same. absurd cc)
never BadStatus room buffer is invalid many short = invalid (λ same. absurd cc)
never Token room buffer is invalid many short = invalid (λ same. absurd cc)
never Version room buffer is invalid many short = invalid (λ same. absurd cc)
never TooManyHeaders room buffer is invalid many short = absurd (exceeds (many refl))
  where
    exceeds : RequestExceeds room buffer → ⊥
    exceeds (front, rest, split, h, reads, over) =
        let long = head_long h reads.0.fields in
        let line : length (front ++ print_end lf) ≡ length (print_request h ++ []) = ap length reads.1 in
        let one : length (front ++ print_end lf) ≡ length front + 1 = length-append front (print_end lf) in
        let whole : length (print_request h ++ []) ≡ length (print_request h) + 0 = length-append (print_request h) [] in
        let parts : length buffer ≡ length front + length rest = ap length split ∙ length-append front rest in
        omega (arith, long, line, one, whole, parts, over, is, short)

-- bytes that no head can follow hold none
pub never_none : (taken : List ℕ) → NeverHasRequest taken → HasNoRequest taken
never_none taken never h rest reads = never [] h rest (subst (λ (xs : List ℕ). ReadsRequest xs h rest) (sym (append-nil taken)) reads)

-- what the parser refuses with room for 2,800 headers
pub refuses : (e : Error) (room : ℕ) (taken : List ℕ) → room ≡ 2800 → (e ≢ TooManyHeaders → NeverHasRequest taken)
    → OnTooManyHeaders {A = Status RequestSpans} (Err e) (RequestExceeds room taken) → length taken ≤ 8192 → IsRefusedHead taken
refuses e room taken is invalid many short =
    let none = never e room taken is invalid (λ same. many (ap Err same)) short in
    record { none = never_none taken none; why = inr none }
