-- An input whose head was taken.
use Rattle.std.proofs.Common.{◌≡◌, ℕ, ◌-◌, ◌<◌, ◌≤◌, List, ◌++◌, length, take, drop, Option, Some, None, refl, sym, ap, ◌∙◌, subst, arith, Result, Ok, Err, IfOk, Bool, true, false, cond, nat_le, nat_lt, ◌||◌, [], ◌∷◌, codes}
use Rattle.std.proofs.lemmas.List.{length-take-le}
use Rattle.std.specs.Str.Parse.{digits_value}
use Rattle.std.proofs.lemmas.Bool.Decides.{nat_tests}
use Rattle.std.proofs.lemmas.Option.{same_Some}
use Rattle.httparse.specs.declared.spans.HeaderSpan.{HeaderSpan}
use Rattle.httparse.specs.declared.spans.RequestSpans.{RequestSpans}
use Rattle.httparse.specs.Grammar.{RequestHead, ReadsRequest}
use Rattle.httparse.specs.Spans.{IsRequestWithin, IsRequestAt, IsRequestOf, span_bytes}
use Rattle.httparse.proofs.GrammarLemmas.{ReadsRequest-append}
use Rattle.http_edges.specs.Edge.{SourceView, Gives, in_front}
use Rattle.http_edges.proofs.Pieces.{rest_whole}
use Rattle.http_heads.specs.Read.{HeadGives}
use Rattle.http_heads.specs.declared.head.HeadRead.{HeadRead}
use Rattle.http_heads.specs.declared.head.HeadRead.TheVariants as heads
use Rattle.http_heads.specs.Fields.{fields_of, values_of, key_of}
use Rattle.http_texts.specs.Texts.{is_numeral}
use Rattle.http_texts.specs.Numbers.{value_up_to}
use Rattle.http_texts.specs.declared.numeral.Numeral.TheVariants.{Value, Above, Other}
use Rattle.http_heads.specs.Lengths.{body_length_of, length_from, length_of, length_in}
use Rattle.http_requests.proofs.Agreement.{count_of}
use Rattle.http_heads.specs.declared.fields.BodyLength.TheVariants.{Bytes, Bad}
use Rattle.http_requests.specs.Taken.{TellsBody, ReadsNoBody, ReadsNoMore}
use Rattle.http_requests.specs.declared.take.Taken.{Taken}
use Rattle.http_requests.specs.declared.take.Taken.TheVariants.{Whole, NoHead, BadHead, TooLarge, Cut, NoRoom}
use Rattle.http_requests.specs.declared.body.BodyRead.{BodyRead}
use Rattle.http_requests.specs.declared.body.BodyRead.TheVariants.{Whole as WholeBody, Cut as CutBody, NoRoom as NoRoomForBody}
use Rattle.http_requests.specs.Requests.{Begins, IsRequest, IsCut, in_body}

pub begins : (taken more input : List ℕ) (headers : List HeaderSpan) (spans : RequestSpans) (h : RequestHead) → input ≡ taken ++ more → length taken ≤ 8192
    → IsRequestWithin taken headers spans → IsRequestAt taken headers spans h → Begins input h (drop spans.len taken ++ more)
begins taken more input headers spans h is short within at = record {
  reads = subst (λ (xs : List ℕ). ReadsRequest xs h (drop spans.len taken ++ more)) (sym is) (ReadsRequest-append taken h (drop spans.len taken) more at.reads);
  small = rw (← at.len) (omega (arith, within.section.len_fits, short));
}

-- the body is cut
pub cut_rest : (count : ℕ) (read : BodyRead) → read ≡ CutBody → (rest : List ℕ) → TellsBody count rest read → length rest < count
cut_rest count (WholeBody body) is rest tells = absurd cc
cut_rest count CutBody is rest tells = tells
cut_rest count NoRoomForBody is rest tells = absurd cc

pub cut_by : (taken : List ℕ) (left : Option (List ℕ)) (headers : List HeaderSpan) (spans : RequestSpans) (count : ℕ) (read : BodyRead) → length taken ≤ 8192
    → IsRequestWithin taken headers spans → IsRequestOf taken headers spans → Bytes count ≡ body_length_of (fields_of taken (take spans.headers headers))
    → read ≡ CutBody → ((rest : List ℕ) → in_front (take (length taken - spans.len) (drop spans.len taken)) left ≡ Some rest → TellsBody count rest read)
    → (input : List ℕ) → in_front taken left ≡ Some input → IsCut input
cut_by taken None headers spans count read short within is long cut body input e = absurd cc
cut_by taken (Some more) headers spans count read short within (h, at) long cut body input e =
    in_body (record {
      head = h;
      rest = drop spans.len taken ++ more;
      count = count;
      begins = begins taken more input headers spans h (sym (same_Some (taken ++ more) input e)) short within at;
      length_is = ap body_length_of (sym at.fields) ∙ sym long;
      short = cut_rest count read cut (drop spans.len taken ++ more) (body (drop spans.len taken ++ more) (ap (λ (xs : List ℕ). Some (xs ++ more)) (rest_whole taken spans.len)));
    })

-- what is refused by its head has no byte of its body read
pub no_body : {E : Type 0} (r : Result Taken E) (taken : List ℕ) (old mid new : SourceView) → length taken ≤ 8192 → Gives taken old mid → IfOk r (ReadsNoMore mid new) → IfOk r (ReadsNoBody old new)
no_body (Ok (Whole w)) taken old mid new short gives same = tt
no_body (Ok NoHead) taken old mid new short gives same = tt
no_body (Ok BadHead) taken old mid new short gives same = (taken, short, subst (λ (v : SourceView). Gives taken old v) (sym same) gives)
no_body (Ok TooLarge) taken old mid new short gives same = (taken, short, subst (λ (v : SourceView). Gives taken old v) (sym same) gives)
no_body (Ok Cut) taken old mid new short gives same = tt
no_body (Ok NoRoom) taken old mid new short gives same = tt
no_body (Err e) taken old mid new short gives same = tt

-- a whole head lies in the buffer
pub head_short : (E : Type 0) (read : HeadRead) (count : ℕ) (spans : RequestSpans) (taken buffer : List ℕ) (headers : List HeaderSpan) → read ≡ heads.Whole count spans
    → HeadGives {E = E} (Ok read) taken buffer headers → length buffer ≡ 8192 → length taken ≤ 8192
head_short E (heads.Whole c s) count spans taken buffer headers is head room =
    let long : length (take c buffer) ≡ c = length-take-le c buffer head.fits in
    rw head.bytes (omega (arith, long, head.fits, room))
head_short E heads.Refused count spans taken buffer headers is head room = absurd cc
head_short E heads.Cut count spans taken buffer headers is head room = absurd cc

-- a body has at most 262,144 bytes
pub length_most : (values : List (List ℕ)) (count : ℕ) → Bytes count ≡ length_in values → count ≤ 262144
length_most [] count e = omega (arith, ap count_of e)
length_most (text ∷ []) count e = text_most text count e
  where
    tested : (q : Bool) (n count : ℕ) → nat_le n 262144 ≡ q → Bytes count ≡ length_from (cond q (Value n) Above) → count ≤ 262144
    tested true n count is e = grind (arith, nat_tests, is, ap count_of e)
    tested false n count is e = absurd cc

    numeral : (q : Bool) (text : List ℕ) (count : ℕ) → Bytes count ≡ length_from (cond q (value_up_to 262144 text) Other) → count ≤ 262144
    numeral true text count e = tested (nat_le (digits_value 10 text) 262144) (digits_value 10 text) count refl e
    numeral false text count e = absurd cc

    text_most : (text : List ℕ) (count : ℕ) → Bytes count ≡ length_of text → count ≤ 262144
    text_most text count e = numeral (is_numeral text) text count e
length_most (text ∷ other ∷ more) count e = absurd cc

pub body_most : (fields : List (List ℕ × List ℕ)) (count : ℕ) → Bytes count ≡ body_length_of fields → count ≤ 262144
unfolding body_length_of
body_most fields count e = either (nat_lt 32 (length fields) || nat_lt 0 (length (values_of (codes "transfer-encoding") fields))) e
  where
    either : (q : Bool) → Bytes count ≡ cond q Bad (length_in (values_of (codes "content-length") fields)) → count ≤ 262144
    either true e = absurd cc
    either false e = length_most (values_of (codes "content-length") fields) count e

-- the body is whole
pub whole_by : (taken : List ℕ) (left : Option (List ℕ)) (headers : List HeaderSpan) (spans : RequestSpans) (count : ℕ) (body : List ℕ) → length taken ≤ 8192
    → IsRequestWithin taken headers spans → IsRequestOf taken headers spans → Bytes count ≡ body_length_of (fields_of taken (take spans.headers headers))
    → ((rest : List ℕ) → in_front (take (length taken - spans.len) (drop spans.len taken)) left ≡ Some rest → (length body ≡ count) × (after : List ℕ) × (rest ≡ body ++ after))
    → (input : List ℕ) → in_front taken left ≡ Some input
    → IsRequest input (record { method = span_bytes taken spans.method; target = span_bytes taken spans.path; key = key_of (fields_of taken (take spans.headers headers)); body = body })
whole_by taken None headers spans count body short within is long tells input e = absurd cc
whole_by taken (Some more) headers spans count body short within (h, at) long tells input e =
    let told = tells (drop spans.len taken ++ more) (ap (λ (xs : List ℕ). Some (xs ++ more)) (rest_whole taken spans.len)) in
    record {
      head = h;
      rest = drop spans.len taken ++ more;
      after = told.1;
      begins = begins taken more input headers spans h (sym (same_Some (taken ++ more) input e)) short within at;
      length_is = ap body_length_of (sym at.fields) ∙ (sym long ∙ ap Bytes (sym told.0));
      body_is = told.2;
      method_is = at.method;
      target_is = at.path;
      key_is = ap key_of at.fields;
    }
