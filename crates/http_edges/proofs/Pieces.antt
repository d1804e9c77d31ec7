-- Bytes that come and go in pieces.
use Rattle.std.proofs.Common.{◌≡◌, ℕ, ◌+◌, ◌-◌, ◌≤◌, ◌<◌, ◌↔◌, min, List, [], ◌++◌, length, take, drop, Option, Some, None, refl, sym, ap, ◌∙◌, append_assoc, arith}
use Rattle.std.proofs.lemmas.List.{length-drop, take-append-drop, append-nil, take_all, length-take-le, drop-drop, nil_from_length}
use Rattle.std.proofs.Math.Seq.{take-length, take-add, take-append_seam}
use Rattle.std.proofs.lemmas.Option.{same_Some}
use Rattle.http_edges.specs.Edge.{followed_by, in_front}

-- nothing was given
pub gives_none : (left : Option (List ℕ)) → left ≡ in_front [] left
gives_none None = refl
gives_none (Some bytes) = refl

-- one piece was given after another
pub gives_more : (a b : List ℕ) (left0 left1 left2 : Option (List ℕ)) → left0 ≡ in_front a left1 → left1 ≡ in_front b left2 → left0 ≡ in_front (a ++ b) left2
gives_more a b left0 left1 None e f = rw (e, f) refl
gives_more a b left0 left1 (Some bytes) e f = rw (e, f) (ap Some (sym (append_assoc a b bytes)))

-- nothing was written
pub appends_none : (written : Option (List ℕ)) → written ≡ followed_by [] written
appends_none None = refl
appends_none (Some bytes) = ap Some (sym (append-nil bytes))

-- one piece was written after another
pub appends_more : (a b : List ℕ) (written0 written1 written2 : Option (List ℕ)) → written1 ≡ followed_by a written0 → written2 ≡ followed_by b written1 → written2 ≡ followed_by (a ++ b) written0
appends_more a b None written1 written2 e f = rw (f, e) refl
appends_more a b (Some bytes) written1 written2 e f = rw (f, e) (ap Some (append_assoc bytes a b))

-- so many bytes after the first ones
pub rest_whole : (xs : List ℕ) (a : ℕ) → take (length xs - a) (drop a xs) ≡ drop a xs
rest_whole xs a = rw (← length-drop a xs) (take-length (drop a xs))

-- n more bytes of a piece were written, after the first of them
pub written_more : (from : List ℕ) (a n : ℕ) (written0 written1 written2 : Option (List ℕ)) → written1 ≡ followed_by (take a from) written0
    → written2 ≡ followed_by (take n (take (length from - a) (drop a from))) written1 → written2 ≡ followed_by (take (a + n) from) written0
written_more from a n written0 written1 written2 e f =
    let f' : written2 ≡ followed_by (take n (drop a from)) written1 = rw (← rest_whole from a) f in
    rw (take-add a n from) (appends_more (take a from) (take n (drop a from)) written0 written1 written2 e f')

-- all bytes of a piece were written
pub written_all : (from : List ℕ) (a : ℕ) (written0 written1 : Option (List ℕ)) → length from ≤ a → written1 ≡ followed_by (take a from) written0 → written1 ≡ followed_by from written0
written_all from a written0 written1 all e = e ∙ ap (λ bytes. followed_by bytes written0) (take_all a from all)

-- a part of the input that was copied in front of a buffer was given
pub copied_given : (piece after input : List ℕ) (at n : ℕ) → at ≤ length input → n ≤ length (drop at input) → piece ≡ take ((at + n) - at) (drop at input)
    → Some (drop at input) ≡ in_front (take n (piece ++ after)) (Some (drop (at + n) input))
copied_given piece after input at n within fits is =
    let count : (at + n) - at ≡ n = omega arith in
    let part : piece ≡ take n (drop at input) = rw count at is in
    let size : length piece ≡ n = rw part (length-take-le n (drop at input) fits) in
    let front : take n (piece ++ after) ≡ piece = rw (← size) (take-append_seam piece after) in
    ap Some (rw (front, part, ← drop-drop n at input) (sym (take-append-drop n (drop at input))))

-- no byte is given exactly where none is left
pub ends_there : (input : List ℕ) (at n size chunk : ℕ) → n ≡ min (min size chunk) (length input - at) → 0 < chunk
    → (bytes : List ℕ) → Some (drop at input) ≡ Some bytes → 0 < size → (n ≡ 0) ↔ (bytes ≡ [])
ends_there input at n size chunk count some bytes is wide =
    let same : drop at input ≡ bytes = same_Some (drop at input) bytes is in
    let long : length bytes ≡ length input - at = rw (← same) (length-drop at input) in
    (λ none. nil_from_length bytes (omega arith), λ empty. omega (arith, ap length empty))
