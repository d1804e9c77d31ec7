-- Bytes of pages that stand one after another.
use Rattle.std.proofs.Common.{◌≡◌, ℕ, zero, suc, ◌+◌, ◌*◌, ◌-◌, ◌/◌, ◌%◌, ◌<◌, ◌≤◌, List, [], ◌∷◌, ◌++◌, All, length, take, drop, slice_index_or, min, refl, sym, ap, ◌∙◌, arith, subst}
use Rattle.std.specs.List.{concat}
use Rattle.std.proofs.lemmas.List.{take-append-le, drop-append-le, length-drop, drop-drop, take_at, take_all, drop_all, append-nil, get_or-drop, length-append, length-take-le, take-append-drop}
use Rattle.std.proofs.lemmas.List.Folds.{concat-append}
use Rattle.std.proofs.lemmas.List.Elements.{All-head, All-tail, All-take, All-drop}
use Rattle.std.proofs.Math.Seq.{take-append-add, drop-append_seam, drop-append-add}
use Rattle.flash_pages.specs.State.{State, IsState, Ext, page_at, area}
use Rattle.external_flash.specs.Areas.{bytes_from}

-- page j of pages that are joined
pub concat_at : (k : ℕ) (ps : List (List ℕ)) (j : ℕ) → All (λ p. length p ≡ k) ps → j < length ps
    → drop (k * j) (concat ps) ≡ slice_index_or ps j [] ++ drop (k * (j + 1)) (concat ps)
concat_at k [] j a h = absurd (omega arith)
concat_at k (p ∷ ps) zero a h =
    let len : length p ≡ k = All-head (λ (q : List ℕ). length q ≡ k) p ps a in
    let none : k * 0 ≡ 0 = omega arith in
    let one : k * (0 + 1) ≡ k = omega arith in
    let rest : drop k (p ++ concat ps) ≡ concat ps = subst (λ (n : ℕ). drop n (p ++ concat ps) ≡ concat ps) len (drop-append_seam p (concat ps)) in
    rw (none, one, rest) refl
concat_at k (p ∷ ps) (suc j) a h =
    let len : length p ≡ k = All-head (λ (q : List ℕ). length q ≡ k) p ps a in
    let skip : (n : ℕ) → drop (k + n) (p ++ concat ps) ≡ drop n (concat ps) = λ n. subst (λ (m : ℕ). drop (m + n) (p ++ concat ps) ≡ drop n (concat ps)) len (drop-append-add p (concat ps) n) in
    let here : k * suc j ≡ k + k * j = omega arith in
    let next : k * (suc j + 1) ≡ k + k * (j + 1) = omega arith in
    rw (here, next, skip (k * j), skip (k * (j + 1))) (concat_at k ps j (All-tail (λ (q : List ℕ). length q ≡ k) p ps a) (omega arith))

-- the bytes from byte `at` of page j on: the rest of that page, and then the pages behind it
from_page : (ps : List (List ℕ)) (j at : ℕ) → All (λ p. length p ≡ 256) ps → j < length ps → at ≤ 256
    → drop (256 * j + at) (concat ps) ≡ drop at (slice_index_or ps j []) ++ drop (256 * (j + 1)) (concat ps)
from_page ps j at all within short =
    let page : List ℕ = slice_index_or ps j [] in
    let rest : List ℕ = drop (256 * (j + 1)) (concat ps) in
    let len : length page ≡ 256 = all j [] within in
    sym (drop-drop at (256 * j) (concat ps)) ∙ ap (λ (l : List ℕ). drop at l) (concat_at 256 ps j all within) ∙ drop-append-le at page rest (omega arith)

-- bytes that lie in one page
in_one : (ps : List (List ℕ)) (j at n : ℕ) → All (λ p. length p ≡ 256) ps → j < length ps → at + n ≤ 256
    → take n (drop at (slice_index_or ps j [])) ≡ take n (drop (256 * j + at) (concat ps))
in_one ps j at n all within short =
    let page : List ℕ = slice_index_or ps j [] in
    let rest : List ℕ = drop (256 * (j + 1)) (concat ps) in
    let len : length page ≡ 256 = all j [] within in
    let left : length (drop at page) ≡ length page - at = length-drop at page in
    sym (ap (λ (l : List ℕ). take n l) (from_page ps j at all within (omega arith)) ∙ take-append-le n (drop at page) rest (omega arith))

-- bytes that lie in two pages: the last h of the one, and the first m of the next
in_two : (ps : List (List ℕ)) (j at h m : ℕ) → All (λ p. length p ≡ 256) ps → j + 1 < length ps → at + h ≡ 256 → m ≤ 256
    → take h (drop at (slice_index_or ps j [])) ++ take m (slice_index_or ps (j + 1) []) ≡ take (h + m) (drop (256 * j + at) (concat ps))
in_two ps j at h m all within whole short =
    let page : List ℕ = slice_index_or ps j [] in
    let next : List ℕ = slice_index_or ps (j + 1) [] in
    let rest : List ℕ = drop (256 * (j + 1)) (concat ps) in
    let behind : List ℕ = drop (256 * (j + 1 + 1)) (concat ps) in
    let len : length page ≡ 256 = all j [] (omega arith) in
    let next_len : length next ≡ 256 = all (j + 1) [] within in
    let left : length (drop at page) ≡ h = length-drop at page ∙ omega arith in
    let rest_is : rest ≡ next ++ behind = concat_at 256 ps (j + 1) all within in
    let first : take h (drop at page) ≡ drop at page = take_all h (drop at page) (omega arith) in
    let second : take m rest ≡ take m next = ap (λ (l : List ℕ). take m l) rest_is ∙ take-append-le m next behind (omega arith) in
    let both : take (h + m) (drop at page ++ rest) ≡ drop at page ++ take m rest =
    subst (λ (n : ℕ). take (n + m) (drop at page ++ rest) ≡ drop at page ++ take m rest) left (take-append-add (drop at page) rest m) in
    ap (λ (l : List ℕ). l ++ take m next) first
    ∙ ap (λ (l : List ℕ). drop at page ++ l) (sym second)
    ∙ sym (ap (λ (l : List ℕ). take (h + m) l) (from_page ps j at all (omega arith) (omega arith)) ∙ both)

-- the pages behind the first ones of a board
pages_whole : (s : State) (first : ℕ) → IsState s → All (λ p. length p ≡ 256) (drop first s.ext)
pages_whole s first is = All-drop (λ (p : List ℕ). length p ≡ 256) first s.ext (λ k d lt. (is.ext_pages k d lt).0)

-- what stands in a buffer after its two parts are filled
filled : (h : ℕ) (a b x : List ℕ) → length a ≡ h → take h (a ++ drop h x) ++ (b ++ drop (length (a ++ drop h x) - h) (drop h (a ++ drop h x))) ≡ a ++ b
filled h a b x len =
    let whole : List ℕ = a ++ drop h x in
    let none : drop (length whole - h) (drop h whole) ≡ [] = drop_all (length whole - h) (drop h whole) (subst (λ (n : ℕ). n ≤ length whole - h) (sym (length-drop h whole)) (omega arith)) in
    ap (λ (l : List ℕ). l ++ (b ++ drop (length whole - h) (drop h whole))) (take_at a (drop h x) h len)
    ∙ ap (λ (l : List ℕ). a ++ l) (ap (λ (l : List ℕ). b ++ l) none ∙ append-nil b)

-- the numbers of a byte of the run: its page and its place there
module _ (s : State) (first from : ℕ) (is : IsState s) where
  split : 256 * (from / 256) + from % 256 ≡ from
  split = omega arith

  low : from % 256 < 256
  low = omega arith

  count : length (drop first s.ext) ≡ 2048 - first
  count = length-drop first s.ext ∙ omega (arith, is.ext)

  -- a run of bytes that lie in one page
  pub reads_one : (n : ℕ) → 256 * first + from + n ≤ 256 * 2048 → 0 < n → from % 256 + n ≤ 256
      → take n (drop (from % 256) (page_at s (Ext (first + from / 256)))) ≡ take n (drop from (bytes_from first s))
  reads_one n within some short =
      let there : from / 256 < length (drop first s.ext) = omega (arith, count, split) in
      ap (λ (p : List ℕ). take n (drop (from % 256) p)) (sym (get_or-drop first s.ext (from / 256) []))
      ∙ in_one (drop first s.ext) (from / 256) (from % 256) n (pages_whole s first is) there short
      ∙ ap (λ (k : ℕ). take n (drop k (bytes_from first s))) split

  -- a run of bytes that lie in two pages
  pub reads_two : (h m : ℕ) → 256 * first + from + (h + m) ≤ 256 * 2048 → 0 < m → m ≤ 256 → from % 256 + h ≡ 256
      → take h (drop (from % 256) (page_at s (Ext (first + from / 256)))) ++ take m (page_at s (Ext (first + from / 256 + 1))) ≡ take (h + m) (drop from (bytes_from first s))
  reads_two h m within some short whole =
      let there : from / 256 + 1 < length (drop first s.ext) = omega (arith, count, split) in
      let next_is : page_at s (Ext (first + from / 256 + 1)) ≡ slice_index_or (drop first s.ext) (from / 256 + 1) [] =
      ap (λ (k : ℕ). page_at s (Ext k)) (omega arith) ∙ sym (get_or-drop first s.ext (from / 256 + 1) []) in
      ap (λ (p : List ℕ). take h (drop (from % 256) p) ++ take m (page_at s (Ext (first + from / 256 + 1)))) (sym (get_or-drop first s.ext (from / 256) []))
      ∙ ap (λ (p : List ℕ). take h (drop (from % 256) (slice_index_or (drop first s.ext) (from / 256) [])) ++ take m p) next_is
      ∙ in_two (drop first s.ext) (from / 256) (from % 256) h m (pages_whole s first is) there whole short
      ∙ ap (λ (k : ℕ). take (h + m) (drop k (bytes_from first s))) split

  -- the first part of a buffer, filled from its page
  module _ (h : ℕ) (into a : List ℕ) (within : 256 * first + from + length into ≤ 256 * 2048) (some : 0 < length into)
      (h_is : h ≡ min (length into) (256 - from % 256)) (a_is : a ≡ take (length (take h into)) (drop (from % 256) (page_at s (Ext (first + from / 256))))) where
    first_is : a ≡ take h (drop (from % 256) (page_at s (Ext (first + from / 256))))
    first_is = a_is ∙ ap (λ (n : ℕ). take n (drop (from % 256) (page_at s (Ext (first + from / 256))))) (length-take-le h into (omega arith))

    first_len : length a ≡ h
    first_len =
        let within_page : length (page_at s (Ext (first + from / 256))) ≡ 256 = (is.ext_pages (first + from / 256) [] (omega (arith, is.ext, split))).0 in
        let left : length (drop (from % 256) (page_at s (Ext (first + from / 256)))) ≡ 256 - from % 256 = length-drop (from % 256) (page_at s (Ext (first + from / 256))) ∙ omega arith in
        ap (λ (l : List ℕ). length l) first_is ∙ length-take-le h (drop (from % 256) (page_at s (Ext (first + from / 256)))) (omega arith)

    both_len : length (a ++ drop h into) ≡ length into
    both_len = length-append a (drop h into) ∙ omega (arith, first_len, length-drop h into)

    -- a buffer that one page fills
    pub one_part : length (a ++ drop h into) ≤ h → a ++ drop h into ≡ take (length into) (drop from (bytes_from first s))
    one_part ends =
        let all : h ≡ length into = omega (arith, both_len) in
        let none : drop h into ≡ [] = drop_all h into (omega arith) in
        ap (λ (l : List ℕ). a ++ l) none ∙ append-nil a ∙ first_is ∙ reads_one h (omega arith) (omega arith) (omega arith) ∙ ap (λ (n : ℕ). take n (drop from (bytes_from first s))) all

    -- a buffer that two pages fill
    pub two_parts : (b : List ℕ) → h < length (a ++ drop h into) → length into ≤ 256
        → b ≡ take (length (take (length (a ++ drop h into) - h) (drop h (a ++ drop h into)))) (page_at s (Ext (first + from / 256 + 1)))
        → take h (a ++ drop h into) ++ (b ++ drop (length (a ++ drop h into) - h) (drop h (a ++ drop h into))) ≡ take (length into) (drop from (bytes_from first s))
    two_parts b more short b_is =
        let rest : ℕ = length into - h in
        let left : length (drop h (a ++ drop h into)) ≡ rest = length-drop h (a ++ drop h into) ∙ omega (arith, both_len) in
        let count : length (take (length (a ++ drop h into) - h) (drop h (a ++ drop h into))) ≡ rest = length-take-le (length (a ++ drop h into) - h) (drop h (a ++ drop h into)) (omega (arith, left, both_len)) ∙ omega (arith, both_len) in
        let second : b ≡ take rest (page_at s (Ext (first + from / 256 + 1))) = b_is ∙ ap (λ (n : ℕ). take n (page_at s (Ext (first + from / 256 + 1)))) count in
        let whole : h + rest ≡ length into = omega (arith, both_len) in
        filled h a b into first_len
        ∙ ap (λ (l : List ℕ). l ++ b) first_is
        ∙ ap (λ (l : List ℕ). take h (drop (from % 256) (page_at s (Ext (first + from / 256)))) ++ l) second
        ∙ reads_two h rest (omega arith) (omega (arith, both_len)) (omega arith) (omega (arith, both_len))
        ∙ ap (λ (n : ℕ). take n (drop from (bytes_from first s))) whole

-- the length of lists of k bytes that are joined
length-joined : (k : ℕ) (ps : List (List ℕ)) → All (λ p. length p ≡ k) ps → length (concat ps) ≡ k * length ps
length-joined k [] all = omega arith
length-joined k (p ∷ ps) all =
    let len : length p ≡ k = All-head (λ (q : List ℕ). length q ≡ k) p ps all in
    let rest : length (concat ps) ≡ k * length ps = length-joined k ps (All-tail (λ (q : List ℕ). length q ≡ k) p ps all) in
    let more : k * suc (length ps) ≡ k + k * length ps = omega arith in
    length-append p (concat ps) ∙ omega (arith, len, rest, more)

-- bytes of a run that end within its first pages are bytes of those pages alone
pub bytes_from-area : (first count from n : ℕ) (s : State) → IsState s → first + count ≤ 2048 → from + n ≤ 256 * count
    → take n (drop from (bytes_from first s)) ≡ take n (drop from (concat (area first count s)))
bytes_from-area first count from n s is fits within =
    let ps : List (List ℕ) = drop first s.ext in
    let all : All (λ p. length p ≡ 256) ps = pages_whole s first is in
    let size : length ps ≡ 2048 - first = length-drop first s.ext ∙ omega (arith, is.ext) in
    let len : length (concat (take count ps)) ≡ 256 * count = length-joined 256 (take count ps) (All-take (λ (p : List ℕ). length p ≡ 256) count ps all) ∙ ap (λ (k : ℕ). 256 * k) (length-take-le count ps (omega (arith, size))) in
    let whole : concat ps ≡ concat (take count ps) ++ concat (drop count ps) = ap concat (sym (take-append-drop count ps)) ∙ concat-append (take count ps) (drop count ps) in
    let left : length (drop from (concat (take count ps))) ≡ 256 * count - from = length-drop from (concat (take count ps)) ∙ omega (arith, len) in
    ap (λ (l : List ℕ). take n (drop from l)) whole
    ∙ ap (λ (l : List ℕ). take n l) (drop-append-le from (concat (take count ps)) (concat (drop count ps)) (omega (arith, len)))
    ∙ take-append-le n (drop from (concat (take count ps))) (concat (drop count ps)) (omega (arith, left))
