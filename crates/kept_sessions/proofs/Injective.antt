-- Answers are told apart by their lines.
use Rattle.std.proofs.Common.{◌≡◌, ℕ, zero, suc, ◌+◌, ◌*◌, ◌/◌, ◌%◌, ◌^◌, ◌<◌, ◌≤◌, ◌&&◌, eqb, ltb, not, cond, Bool, true, false}
use Rattle.std.proofs.Common.{List, [], ◌∷◌, ◌++◌, length, drop, get_or, refl, sym, ap, ◌∙◌, arith, codes, decimal}
use Rattle.std.specs.List.{AllByRecursion}
use Rattle.std.specs.Fmt.{digits, digits_onto, digit_glyph}
use Rattle.std.proofs.lemmas.Bool.{false≢true, and_parts, and_from, not-true, not_from_false, eqb-false, ne_eqb, lt-ltb, le-ltb}
use Rattle.std.proofs.lemmas.List.{append-nil, append_cancel_left, append_cancel_right}
use Rattle.component_package.specs.declared.answer.Answer.{Answer}
use Rattle.component_package.specs.declared.answer.Answer.TheVariants as answers
use Rattle.component_package.specs.mote.Lines.{line_of, spaced, words_line}
use Rattle.kept_sessions.specs.Lines.{prints, numbers_of, LinesTellAnswers}
use Rattle.kept_sessions.proofs.Lines.{same_number}

-- ---- the letters of a line are those of its words

-- the letters among bytes
abbrev letters_of : List ℕ → List ℕ
letters_of [] = []
letters_of (b ∷ bs) = cond (ltb 57 b) (b ∷ letters_of bs) (letters_of bs)

letters_append : (a b : List ℕ) → letters_of (a ++ b) ≡ letters_of a ++ letters_of b
letters_append [] b = refl
letters_append (x ∷ a) b = by (ltb 57 x) (letters_append a b)
  where
    by : (t : Bool) → letters_of (a ++ b) ≡ letters_of a ++ letters_of b → cond t (x ∷ letters_of (a ++ b)) (letters_of (a ++ b)) ≡ cond t (x ∷ letters_of a) (letters_of a) ++ letters_of b
    by true rest = ap (λ (l : List ℕ). x ∷ l) rest
    by false rest = rest

-- a digit
small_glyph : (d : ℕ) → d < 10 → digit_glyph false d ≡ 48 + d
small_glyph d small = ap (λ (t : Bool). cond t (48 + d) (cond false (55 + d) (87 + d))) (lt-ltb d 10 small)

-- is no letter
no_letter : (b : ℕ) (bs : List ℕ) → b ≤ 57 → letters_of (b ∷ bs) ≡ letters_of bs
no_letter b bs small = ap (λ (t : Bool). cond t (b ∷ letters_of bs) (letters_of bs)) (le-ltb 57 b small)

glyph_no_letter : (n : ℕ) (acc : List ℕ) → letters_of (digit_glyph false (n % 10) ∷ acc) ≡ letters_of acc
glyph_no_letter n acc = no_letter (digit_glyph false (n % 10)) acc (let e = small_glyph (n % 10) (omega arith) in omega arith)

onto_no_letters : (k n : ℕ) (acc : List ℕ) → letters_of acc ≡ [] → letters_of (digits_onto k 10 false n acc) ≡ []
onto_no_letters zero n acc none = none
onto_no_letters (suc k) n acc none =
    let more = glyph_no_letter n acc ∙ none in
    either (eqb (n / 10) 0) (digit_glyph false (n % 10) ∷ acc) (digits_onto k 10 false (n / 10) (digit_glyph false (n % 10) ∷ acc)) more
    (onto_no_letters k (n / 10) (digit_glyph false (n % 10) ∷ acc) more)
  where
    either : (b : Bool) (x y : List ℕ) → letters_of x ≡ [] → letters_of y ≡ [] → letters_of (cond b x y) ≡ []
    either true x y p q = p
    either false x y p q = q

decimal_no_letters : (n : ℕ) → letters_of (decimal n) ≡ []
unfolding digits
decimal_no_letters n = onto_no_letters 64 n [] refl

spaced_no_letters : (ns : List ℕ) → letters_of (spaced ns) ≡ []
spaced_no_letters [] = refl
spaced_no_letters (n ∷ ns) = letters_append (decimal n) (spaced ns) ∙ ap (λ (l : List ℕ). l ++ letters_of (spaced ns)) (decimal_no_letters n) ∙ spaced_no_letters ns

letters_line : (words numbers : List ℕ) → letters_of (words_line words numbers) ≡ letters_of words
letters_line words numbers =
    letters_append (words ++ spaced numbers) (10 ∷ []) ∙ append-nil (letters_of (words ++ spaced numbers))
    ∙ letters_append words (spaced numbers) ∙ ap (λ (l : List ℕ). letters_of words ++ l) (spaced_no_letters numbers) ∙ append-nil (letters_of words)

-- ---- an answer from its letters and numbers

-- a number for letters
abbrev letters_number : List ℕ → ℕ
letters_number [] = 0
letters_number (c ∷ cs) = c + 3 * letters_number cs

abbrev words_of : Answer → List ℕ
words_of (answers.BadFrame t) = codes "bad frame"
words_of (answers.Reboot n) = codes "reboot"
words_of (answers.BadManifest f) = codes "bad manifest"
words_of (answers.Stale c) = codes "stale"
words_of (answers.ManifestIs n h) = codes "manifest"
words_of answers.NoManifest = codes "no manifest"
words_of answers.BadPiece = codes "bad piece"
words_of (answers.Held k) = codes "held"
words_of (answers.Piece k page) = codes "piece"
words_of (answers.Linked n) = codes "linked"
words_of (answers.Missing k) = codes "missing"
words_of (answers.BadPackage k f) = codes "bad package"
words_of (answers.Flash t) = codes "flash"
words_of (answers.Ram t) = codes "ram"
words_of (answers.Symbols n) = codes "symbols"
words_of (answers.Relocations n) = codes "relocations"
words_of (answers.Duplicate s i j) = codes "duplicate"
words_of (answers.Undefined k r s) = codes "undefined"
words_of (answers.Range k r c) = codes "range"
words_of (answers.Committed n) = codes "committed"
words_of answers.NotLinked = codes "not linked"
words_of (answers.Booted n) = codes "booted"
words_of (answers.Status c n s) = codes "status"
words_of answers.Aborted = codes "aborted"
words_of answers.Ended = []
words_of answers.Unformatted = []

line_is : (a : Answer) → prints a ≡ true → line_of a ≡ words_line (words_of a) (numbers_of a)
line_is answers.Ended p = absurd (false≢true p)
line_is answers.Unformatted p = absurd (false≢true p)
line_is _ p = refl

abbrev code_of : Answer → ℕ
code_of a = letters_number (letters_of (words_of a))

-- the answer of this number and these numbers, and its words
abbrev answer_with : ℕ → ℕ → ℕ → ℕ → Answer
answer_with code x y z =
    cond (eqb code 337196) (answers.BadFrame x) (
    cond (eqb code 41475) (answers.Reboot x) (
    cond (eqb code 10114328) (answers.BadManifest x) (
    cond (eqb code 12433) (answers.Stale x) (
    cond (eqb code 374557) (answers.ManifestIs x y) (
    cond (eqb code 3371456) answers.NoManifest (
    cond (eqb code 330419) answers.BadPiece (
    cond (eqb code 4079) (answers.Held x) (
    cond (eqb code 12190) (answers.Piece x y) (
    cond (eqb code 36783) (answers.Linked x) (
    cond (eqb code 114886) (answers.Missing x) (
    cond (eqb code 2990135) (answers.BadPackage x y) (
    cond (eqb code 12828) (answers.Flash x) (
    cond (eqb code 1386) (answers.Ram x) (
    cond (eqb code 123175) (answers.Symbols x) (
    cond (eqb code 10034211) (answers.Relocations x) (
    cond (eqb code 1024003) (answers.Duplicate x y z) (
    cond (eqb code 995028) (answers.Undefined x y z) (
    cond (eqb code 12357) (answers.Range x y z) (
    cond (eqb code 1002600) (answers.Committed x) (
    cond (eqb code 994628) answers.NotLinked (
    cond (eqb code 37043) (answers.Booted x) (
    cond (eqb code 41890) (answers.Status x y z) (
    cond (eqb code 111307) answers.Aborted (
    answers.Ended))))))))))))))))))))))))

abbrev words_with : ℕ → List ℕ
words_with code =
    cond (eqb code 337196) (codes "bad frame") (
    cond (eqb code 41475) (codes "reboot") (
    cond (eqb code 10114328) (codes "bad manifest") (
    cond (eqb code 12433) (codes "stale") (
    cond (eqb code 374557) (codes "manifest") (
    cond (eqb code 3371456) (codes "no manifest") (
    cond (eqb code 330419) (codes "bad piece") (
    cond (eqb code 4079) (codes "held") (
    cond (eqb code 12190) (codes "piece") (
    cond (eqb code 36783) (codes "linked") (
    cond (eqb code 114886) (codes "missing") (
    cond (eqb code 2990135) (codes "bad package") (
    cond (eqb code 12828) (codes "flash") (
    cond (eqb code 1386) (codes "ram") (
    cond (eqb code 123175) (codes "symbols") (
    cond (eqb code 10034211) (codes "relocations") (
    cond (eqb code 1024003) (codes "duplicate") (
    cond (eqb code 995028) (codes "undefined") (
    cond (eqb code 12357) (codes "range") (
    cond (eqb code 1002600) (codes "committed") (
    cond (eqb code 994628) (codes "not linked") (
    cond (eqb code 37043) (codes "booted") (
    cond (eqb code 41890) (codes "status") (
    cond (eqb code 111307) (codes "aborted") (
    []))))))))))))))))))))))))

abbrev rebuilt : Answer → Answer
rebuilt a = answer_with (code_of a) (get_or (numbers_of a) 0 0) (get_or (numbers_of a) 1 0) (get_or (numbers_of a) 2 0)

rebuilds : (a : Answer) → prints a ≡ true → rebuilt a ≡ a
rebuilds answers.Ended p = absurd (false≢true p)
rebuilds answers.Unformatted p = absurd (false≢true p)
rebuilds _ p = refl

words_again : (a : Answer) → prints a ≡ true → words_with (code_of a) ≡ words_of a
words_again answers.Ended p = absurd (false≢true p)
words_again answers.Unformatted p = absurd (false≢true p)
words_again _ p = refl

-- ---- numbers behind spaces

-- no space among the bytes
abbrev is_tight : List ℕ → Bool
is_tight [] = true
is_tight (b ∷ bs) = not (eqb b 32) && is_tight bs

not_space : (x : ℕ) (a : List ℕ) → is_tight (x ∷ a) ≡ true → x ≡ 32 → ⊥
not_space x a tight = eqb-false x 32 (not-true (eqb x 32) (and_parts (not (eqb x 32)) (is_tight a) tight).0)

glyph_tight : (n : ℕ) (acc : List ℕ) → is_tight acc ≡ true → is_tight (digit_glyph false (n % 10) ∷ acc) ≡ true
glyph_tight n acc rest = and_from (not (eqb (digit_glyph false (n % 10)) 32)) (is_tight acc)
    (not_from_false (eqb (digit_glyph false (n % 10)) 32) (ne_eqb (digit_glyph false (n % 10)) 32 (λ e. let g = small_glyph (n % 10) (omega arith) in omega arith))) rest

onto_tight : (k n : ℕ) (acc : List ℕ) → is_tight acc ≡ true → is_tight (digits_onto k 10 false n acc) ≡ true
onto_tight zero n acc rest = rest
onto_tight (suc k) n acc rest =
    let more = glyph_tight n acc rest in
    either (eqb (n / 10) 0) (digit_glyph false (n % 10) ∷ acc) (digits_onto k 10 false (n / 10) (digit_glyph false (n % 10) ∷ acc)) more
    (onto_tight k (n / 10) (digit_glyph false (n % 10) ∷ acc) more)
  where
    either : (b : Bool) (x y : List ℕ) → is_tight x ≡ true → is_tight y ≡ true → is_tight (cond b x y) ≡ true
    either true x y p q = p
    either false x y p q = q

decimal_tight : (n : ℕ) → is_tight (decimal n) ≡ true
unfolding digits
decimal_tight n = onto_tight 64 n [] refl

-- what stands before the next space
same_front : (a b : List ℕ) (ns ms : List ℕ) → is_tight a ≡ true → is_tight b ≡ true → a ++ spaced ns ≡ b ++ spaced ms → (a ≡ b) × (spaced ns ≡ spaced ms)
same_front [] [] ns ms p q e = (refl, e)
same_front [] (d ∷ b) [] ms p q e = absurd (let n : 0 ≡ suc (length (b ++ spaced ms)) = ap length e in omega arith)
same_front [] (d ∷ b) (n ∷ ns) ms p q e = absurd (not_space d b q (sym (ap (λ (l : List ℕ). get_or l 0 0) e)))
same_front (c ∷ a) [] ns [] p q e = absurd (let n : suc (length (a ++ spaced ns)) ≡ 0 = ap length e in omega arith)
same_front (c ∷ a) [] ns (m ∷ ms) p q e = absurd (not_space c a p (ap (λ (l : List ℕ). get_or l 0 0) e))
same_front (c ∷ a) (d ∷ b) ns ms p q e =
    let head : c ≡ d = ap (λ (l : List ℕ). get_or l 0 0) e in
    let rest = same_front a b ns ms (and_parts (not (eqb c 32)) (is_tight a) p).1 (and_parts (not (eqb d 32)) (is_tight b) q).1 (ap (drop 1) e) in
    ((λ i. head i ∷ rest.0 i), rest.1)

same_spaced : (ns ms : List ℕ) → AllByRecursion (λ n. n < 2 ^ 64) ns → spaced ns ≡ spaced ms → ns ≡ ms
same_spaced [] [] small e = refl
same_spaced [] (m ∷ ms) small e = absurd (let n : 0 ≡ suc (length (decimal m ++ spaced ms)) = ap length e in omega arith)
same_spaced (n ∷ ns) [] small e = absurd (let m : suc (length (decimal n ++ spaced ns)) ≡ 0 = ap length e in omega arith)
same_spaced (n ∷ ns) (m ∷ ms) small e =
    let front = same_front (decimal n) (decimal m) ns ms (decimal_tight n) (decimal_tight m) (ap (drop 1) e) in
    let number = same_number n m front.0 small.0 in
    let rest = same_spaced ns ms small.1 front.1 in
    λ i. number i ∷ rest i

-- ---- answers

pub lines_tell_answers : LinesTellAnswers
lines_tell_answers a b p q small same =
    let lines : words_line (words_of a) (numbers_of a) ≡ words_line (words_of b) (numbers_of b) = sym (line_is a p) ∙ same ∙ line_is b q in
    let letters : letters_of (words_of a) ≡ letters_of (words_of b) = sym (letters_line (words_of a) (numbers_of a)) ∙ ap letters_of lines ∙ letters_line (words_of b) (numbers_of b) in
    let code : code_of a ≡ code_of b = ap letters_number letters in
    let words : words_of a ≡ words_of b = sym (words_again a p) ∙ ap words_with code ∙ words_again b q in
    let behind : words_of b ++ spaced (numbers_of a) ≡ words_of b ++ spaced (numbers_of b) =
    ap (λ (w : List ℕ). w ++ spaced (numbers_of a)) (sym words) ∙ append_cancel_right (words_of a ++ spaced (numbers_of a)) (words_of b ++ spaced (numbers_of b)) (10 ∷ []) lines in
    let numbers : numbers_of a ≡ numbers_of b = same_spaced (numbers_of a) (numbers_of b) small (append_cancel_left (words_of b) (spaced (numbers_of a)) (spaced (numbers_of b)) behind) in
    sym (rebuilds a p)
    ∙ ap (λ (ns : List ℕ). answer_with (code_of a) (get_or ns 0 0) (get_or ns 1 0) (get_or ns 2 0)) numbers
    ∙ ap (λ (c : ℕ). answer_with c (get_or (numbers_of b) 0 0) (get_or (numbers_of b) 1 0) (get_or (numbers_of b) 2 0)) code
    ∙ rebuilds b q
