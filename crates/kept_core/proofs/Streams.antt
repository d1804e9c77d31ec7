-- Lists of bytes that come and go in pieces, and lines of numbers.
use Rattle.std.proofs.Common.{◌≡◌, ℕ, ◌+◌, ◌*◌, ◌/◌, ◌%◌, ◌-◌, ◌<◌, ◌≤◌, List, [], ◌∷◌, ◌++◌, length, take, drop, refl, sym, ap, ◌∙◌, append_assoc, arith, decimal, slice_index_or, inr}
use Rattle.std.proofs.lemmas.List.{take-append-le, length-take, length-take-le, length-drop, take-append-drop, append-nil, take_more, take_all}
use Rattle.std.proofs.lemmas.Grind.{common_steps}
use Rattle.std.proofs.Math.Seq.{take-append-add, take-append_seam, take-length, take-add}
use borrow.Rule.Slice.PartMut.{put_mid, post_of}
use Rattle.std.specs.Bool.{IsFalse}
use Rattle.avr_reloc.specs.Field.{AreBytes}
use Rattle.component_package.specs.mote.Lines.{spaced}
use Rattle.component_package.specs.mote.Frames.{Frame, IsFrame, frame_bytes, IsPartial, is_too_long}

-- n more bytes were put behind the first a
pub take-put_mid-more : (a n k : ℕ) (xs ys : List ℕ) → a ≤ length xs → n ≤ length ys
    → take (a + n) (put_mid a k xs ys) ≡ take a xs ++ take n ys
take-put_mid-more a n k xs ys ha hn =
    let len : length (take a xs) ≡ a = simp length-take (omega arith) in
    let e : take (length (take a xs) + n) (take a xs ++ (ys ++ post_of a k xs)) ≡ take a xs ++ take n (ys ++ post_of a k xs)
    = take-append-add (take a xs) (ys ++ post_of a k xs) n in
    let e' : take (a + n) (take a xs ++ (ys ++ post_of a k xs)) ≡ take a xs ++ take n (ys ++ post_of a k xs) = rw len at e in
    let f : take n (ys ++ post_of a k xs) ≡ take n ys = take-append-le n ys (post_of a k xs) hn in
    e' ∙ ap (λ (zs : List ℕ). take a xs ++ zs) f

pub read_more : (a n k : ℕ) (xs ys left0 left1 left2 : List ℕ) → a ≤ length xs → n ≤ length ys
    → left0 ≡ take a xs ++ left1 → left1 ≡ take n ys ++ left2 → left0 ≡ take (a + n) (put_mid a k xs ys) ++ left2
read_more a n k xs ys left0 left1 left2 ha hn e f =
    rw (take-put_mid-more a n k xs ys ha hn, e, f) (sym (append_assoc (take a xs) (take n ys) left2))

pub spaced-push : (xs : List ℕ) (n : ℕ) → spaced (xs ++ n ∷ []) ≡ spaced xs ++ (32 ∷ decimal n)
spaced-push [] n = grind (arith, common_steps)
spaced-push (x ∷ xs) n = rw (spaced-push xs n) (sym (append_assoc (32 ∷ decimal x) (spaced xs) (32 ∷ decimal n)))

pub spaced_more : (words xs before after : List ℕ) (i n : ℕ) → i < length xs → n ≡ slice_index_or xs i 0
    → before ≡ words ++ spaced (take i xs) → after ≡ before ++ (32 ∷ decimal n) → after ≡ words ++ spaced (take (i + 1) xs)
spaced_more words xs before after i n h e b a =
    rw (a, b, take_more xs i 0 h, spaced-push (take i xs) (slice_index_or xs i 0), e) (append_assoc words (spaced (take i xs)) (32 ∷ decimal (slice_index_or xs i 0)))

pub short_is_partial : (xs : List ℕ) → length xs < 3 → IsFalse (is_too_long xs) × IsPartial xs
short_is_partial [] h = (refl, tt)
short_is_partial (a ∷ []) h = (refl, tt)
short_is_partial (a ∷ b ∷ []) h = (refl, tt)
short_is_partial (a ∷ b ∷ d ∷ xs) h = absurd (omega arith)

-- the input ended inside a head
pub cut_head : (head left0 left1 : List ℕ) (n : ℕ) → (n ≡ 0 → ⊥) → n < 3 → n ≤ length head → left0 ≡ take n head ++ left1 → left1 ≡ []
    → (x : List ℕ) × ((left0 ≡ x) × (left1 ≡ []) × (x ≡ [] → ⊥) × IsFalse (is_too_long x) × IsPartial x)
cut_head head left0 left1 n some few within e end =
    let len : length (take n head) ≡ n = length-take-le n head within in
    let short : IsFalse (is_too_long (take n head)) × IsPartial (take n head) = short_is_partial (take n head) (omega arith) in
    let e' : left0 ≡ take n head = rw end at e ∙ append-nil (take n head) in
    (take n head, (e', end, (λ empty. some (sym len ∙ ap length empty)), short.0, short.1))

-- a list of three
pub of_three : (xs : List ℕ) → length xs ≡ 3 → take 3 xs ≡ slice_index_or xs 0 0 ∷ slice_index_or xs 1 0 ∷ slice_index_or xs 2 0 ∷ []
of_three [] h = absurd (omega arith)
of_three (a ∷ []) h = absurd (omega arith)
of_three (a ∷ b ∷ []) h = absurd (omega arith)
of_three (a ∷ b ∷ d ∷ xs) h = refl

-- a fault came inside a payload
pub cut_payload : (head got left0 left1 left2 : List ℕ) (first n : ℕ) → length head ≡ 3 → 3 ≤ first → first ≤ 3 → n ≡ slice_index_or head 1 0 + slice_index_or head 2 0 * 256 → n ≤ 1024
    → left0 ≡ take first head ++ left1 → length got < n → left1 ≡ got ++ left2 → (x : List ℕ) × ((left0 ≡ x ++ left2) × IsPartial x)
cut_payload head got left0 left1 left2 first n len least most is small e few f =
    let three : first ≡ 3 = omega arith in (
      slice_index_or head 0 0 ∷ slice_index_or head 1 0 ∷ slice_index_or head 2 0 ∷ got,
      (rw (e, f, three, of_three head len) refl, inr (omega arith, omega arith)),
    )

-- a whole frame came
pub whole_frame : (head into old left0 left1 left2 : List ℕ) (first n came : ℕ) → length head ≡ 3 → 3 ≤ first → first ≤ 3 → slice_index_or head 0 0 < 256 → slice_index_or head 1 0 < 256 → length into ≡ n
    → n ≡ slice_index_or head 1 0 + slice_index_or head 2 0 * 256 → n ≤ 1024 → came ≡ n → AreBytes (take n (into ++ old))
    → left0 ≡ take first head ++ left1 → left1 ≡ take came into ++ left2
    → let f : Frame = record { kind = slice_index_or head 0 0; payload = take n (into ++ old) } in (x : List ℕ) × (IsFrame f × (x ≡ []) × (left0 ≡ frame_bytes f ++ left2))
whole_frame head into old left0 left1 left2 first n came len least most byte0 byte1 fills is small all bytes e f =
    let three : first ≡ 3 = omega arith in
    let front : take n (into ++ old) ≡ into = rw (← fills) (take-append_seam into old) in
    let whole : take came into ≡ into = rw (all, ← fills) (take-length into) in
    let low_is : length into % 256 ≡ slice_index_or head 1 0 = omega arith in
    let high_is : length into / 256 ≡ slice_index_or head 2 0 = omega arith in
    ([], (record { kind = byte0; short = rw front (omega arith); bytes = bytes }, refl, rw (front, low_is, high_is, e, f, whole, three, of_three head len) refl))

pub rest_whole : (xs : List ℕ) (a : ℕ) → take (length xs - a) (drop a xs) ≡ drop a xs
rest_whole xs a = rw (← length-drop a xs) (take-length (drop a xs))

-- n more bytes were sent
pub sent_more : (s0 s1 s2 from : List ℕ) (a n m : ℕ) → m ≡ n → s1 ≡ s0 ++ take a from → s2 ≡ s1 ++ take n (take (length from - a) (drop a from)) → s2 ≡ s0 ++ take (a + m) from
sent_more s0 s1 s2 from a n m same e f =
    rw (f, e, rest_whole from a, same, take-add a n from) (append_assoc s0 (take a from) (take n (drop a from)))

-- what is owed after so many bytes
pub still_owed : (s0 s2 from : List ℕ) (k : ℕ) → s2 ≡ s0 ++ take k from → s0 ++ from ≡ s2 ++ drop k from
still_owed s0 s2 from k e =
    rw (e, append_assoc s0 (take k from) (drop k from), take-append-drop k from) refl

-- what was taken, and what is left
pub taken : (n : ℕ) (ys l : List ℕ) → take n ys ≡ take n l → l ≡ take n ys ++ drop n l
taken n ys l same = rw same (sym (take-append-drop n l))

-- all bytes were sent
pub all_sent : (s0 from : List ℕ) (k : ℕ) → length from ≤ k → s0 ++ from ≡ (s0 ++ take k from) ++ []
all_sent s0 from k h = sym (append-nil (s0 ++ take k from) ∙ ap (λ (xs : List ℕ). s0 ++ xs) (take_all k from h))
