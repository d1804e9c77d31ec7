-- A buffer that fills piece by piece.
use Rattle.std.proofs.Common.{◌≡◌, ℕ, ◌+◌, ◌≤◌, List, ◌++◌, length, take, ap, ◌∙◌, Option}
use Rattle.std.proofs.lemmas.List.{take-append-le, length-take-le}
use Rattle.std.proofs.Math.Seq.{take-append-add}
use borrow.Rule.Slice.PartMut.{put_mid, post_of}
use Rattle.http_edges.specs.Edge.{in_front}
use Rattle.http_edges.proofs.Pieces.{gives_more}

-- n more bytes were put behind the first ones
pub filled : (at n k : ℕ) (xs ys : List ℕ) → at ≤ length xs → n ≤ length ys → take (at + n) (put_mid at k xs ys) ≡ take at xs ++ take n ys
filled at n k xs ys within fits =
    let long : length (take at xs) ≡ at = length-take-le at xs within in
    let rest = ys ++ post_of at k xs in
    let sum : take (length (take at xs) + n) (take at xs ++ rest) ≡ take at xs ++ take n rest = take-append-add (take at xs) rest n in
    let here : take (at + n) (take at xs ++ rest) ≡ take at xs ++ take n rest = rw long at sum in
    here ∙ ap (λ (zs : List ℕ). take at xs ++ zs) (take-append-le n ys (post_of at k xs) fits)

-- and the source gave them
pub gives_filled : (at n k : ℕ) (xs ys : List ℕ) (left0 left1 left2 : Option (List ℕ)) → at ≤ length xs → n ≤ length ys
    → left0 ≡ in_front (take at xs) left1 → left1 ≡ in_front (take n ys) left2 → left0 ≡ in_front (take (at + n) (put_mid at k xs ys)) left2
gives_filled at n k xs ys left0 left1 left2 within fits before more =
    rw (filled at n k xs ys within fits) (gives_more (take at xs) (take n ys) left0 left1 left2 before more)
