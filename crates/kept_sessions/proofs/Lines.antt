-- Lines of answers, and lines among bytes.
use Rattle.std.proofs.Common.{◌≡◌, inl, inr, ⊎_elim, ℕ, zero, suc, ◌+◌, ◌*◌, ◌/◌, ◌%◌, ◌^◌, ◌<◌, ◌≤◌, ◌&&◌, eqb, ltb, not, cond, Bool, true, false}
use Rattle.std.proofs.Common.{List, [], ◌∷◌, ◌++◌, length, drop, get_or, refl, sym, ap, ◌∙◌, subst, arith, append_assoc, codes, decimal}
use Rattle.std.specs.List.{flat_map}
use Rattle.std.specs.Fmt.{digits, digits_onto, digit_glyph}
use Rattle.std.specs.Str.Parse.{digits_value}
use Rattle.std.proofs.lemmas.Bool.{false≢true, both_ways, and_parts, and_from, not-true, not_from_false, eqb-true, eqb-false, ne_eqb, cases_lt}
use Rattle.std.proofs.lemmas.Fmt.{decimal_is_IsNumeral_wide, length-decimal-le}
use Rattle.std.proofs.lemmas.List.{append-nil, append_cancel_right, length-append, flat_map_more, same_from_push}
use Rattle.component_package.specs.declared.answer.Answer.{Answer}
use Rattle.component_package.specs.declared.answer.Answer.TheVariants as answers
use Rattle.component_package.specs.mote.Lines.{line_of, spaced, words_line}
use Rattle.component_package.specs.mote.Headline.{AreLines, HasLine, EndsWithLine}
use Rattle.kept_sessions.specs.Lines.{is_free, IsLine, prints, AnswersHaveLines, LinesTellTheCurrent, IsAmong, FirstPartsTell}

-- ---- bytes without a line feed

-- one behind the other
free_append : (a b : List ℕ) → is_free a ≡ true → is_free b ≡ true → is_free (a ++ b) ≡ true
free_append [] b first second = second
free_append (x ∷ a) b first second =
    let parts = and_parts (not (eqb x 10)) (is_free a) first in
    and_from (not (eqb x 10)) (is_free (a ++ b)) parts.0 (free_append a b parts.1 second)

-- one byte and more
free_cons : (x : ℕ) (a : List ℕ) → (x ≡ 10 → ⊥) → is_free a ≡ true → is_free (x ∷ a) ≡ true
free_cons x a other rest = and_from (not (eqb x 10)) (is_free a) (not_from_false (eqb x 10) (ne_eqb x 10 other)) rest

-- the first byte is none, and the rest has none
not_feed : (x : ℕ) (a : List ℕ) → is_free (x ∷ a) ≡ true → x ≡ 10 → ⊥
not_feed x a free = eqb-false x 10 (not-true (eqb x 10) (and_parts (not (eqb x 10)) (is_free a) free).0)

rest_free : (x : ℕ) (a : List ℕ) → is_free (x ∷ a) ≡ true → is_free a ≡ true
rest_free x a free = (and_parts (not (eqb x 10)) (is_free a) free).1

-- a digit is none
glyph_other : (d : ℕ) → digit_glyph false d ≡ 10 → ⊥
glyph_other d = by (ltb d 10)
  where
    by : (a : Bool) → cond a (48 + d) (cond false (55 + d) (87 + d)) ≡ 10 → ⊥
    by true e = omega arith
    by false e = omega arith

-- nor has a number one, whatever number it is
onto_free : (k n : ℕ) (acc : List ℕ) → is_free acc ≡ true → is_free (digits_onto k 10 false n acc) ≡ true
onto_free zero n acc free = free
onto_free (suc k) n acc free =
    let more = free_cons (digit_glyph false (n % 10)) acc (glyph_other (n % 10)) free in
    either (eqb (n / 10) 0) (digit_glyph false (n % 10) ∷ acc) (digits_onto k 10 false (n / 10) (digit_glyph false (n % 10) ∷ acc)) more
    (onto_free k (n / 10) (digit_glyph false (n % 10) ∷ acc) more)
  where
    either : (b : Bool) (x y : List ℕ) → is_free x ≡ true → is_free y ≡ true → is_free (cond b x y) ≡ true
    either true x y p q = p
    either false x y p q = q

decimal_free : (n : ℕ) → is_free (decimal n) ≡ true
unfolding digits
decimal_free n = onto_free 64 n [] refl

spaced_free : (ns : List ℕ) → is_free (spaced ns) ≡ true
spaced_free [] = refl
spaced_free (n ∷ ns) = free_append (32 ∷ decimal n) (spaced ns) (free_cons 32 (decimal n) (λ e. omega arith) (decimal_free n)) (spaced_free ns)

-- ---- answers have lines

line_is : (words numbers : List ℕ) → is_free words ≡ true → IsLine (words_line words numbers)
line_is words numbers free = record { body = words ++ spaced numbers; free = free_append words (spaced numbers) free (spaced_free numbers); is = refl }

pub has_line : (a : Answer) → prints a ≡ true → IsLine (line_of a)
has_line (answers.BadFrame t) p = line_is (codes "bad frame") (t ∷ []) refl
has_line (answers.Reboot n) p = line_is (codes "reboot") (n ∷ []) refl
has_line (answers.BadManifest f) p = line_is (codes "bad manifest") (f ∷ []) refl
has_line (answers.Stale c) p = line_is (codes "stale") (c ∷ []) refl
has_line (answers.ManifestIs n h) p = line_is (codes "manifest") (n ∷ h ∷ []) refl
has_line answers.NoManifest p = line_is (codes "no manifest") [] refl
has_line answers.BadPiece p = line_is (codes "bad piece") [] refl
has_line (answers.Held k) p = line_is (codes "held") (k ∷ []) refl
has_line (answers.Piece k page) p = line_is (codes "piece") (k ∷ page ∷ []) refl
has_line (answers.Linked n) p = line_is (codes "linked") (n ∷ []) refl
has_line (answers.Missing k) p = line_is (codes "missing") (k ∷ []) refl
has_line (answers.BadPackage k f) p = line_is (codes "bad package") (k ∷ f ∷ []) refl
has_line (answers.Flash t) p = line_is (codes "flash") (t ∷ []) refl
has_line (answers.Ram t) p = line_is (codes "ram") (t ∷ []) refl
has_line (answers.Symbols n) p = line_is (codes "symbols") (n ∷ []) refl
has_line (answers.Relocations n) p = line_is (codes "relocations") (n ∷ []) refl
has_line (answers.Duplicate s i j) p = line_is (codes "duplicate") (s ∷ i ∷ j ∷ []) refl
has_line (answers.Undefined k r s) p = line_is (codes "undefined") (k ∷ r ∷ s ∷ []) refl
has_line (answers.Range k r c) p = line_is (codes "range") (k ∷ r ∷ c ∷ []) refl
has_line (answers.Committed n) p = line_is (codes "committed") (n ∷ []) refl
has_line answers.NotLinked p = line_is (codes "not linked") [] refl
has_line (answers.Booted n) p = line_is (codes "booted") (n ∷ []) refl
has_line (answers.Status c n s) p = line_is (codes "status") (c ∷ n ∷ s ∷ []) refl
has_line answers.Aborted p = line_is (codes "aborted") [] refl
has_line answers.Ended p = absurd (false≢true p)
has_line answers.Unformatted p = absurd (false≢true p)

pub no_line : (a : Answer) → prints a ≡ false → line_of a ≡ []
no_line answers.Ended p = refl
no_line answers.Unformatted p = refl
no_line _ p = absurd (false≢true (sym p))

pub answers_have_lines : AnswersHaveLines
answers_have_lines = record { line = has_line; none = no_line }

-- ---- numbers

-- 10 to that power
abbrev tens : ℕ → ℕ
tens zero = 1
tens (suc k) = 10 * tens k

some_tens : (k : ℕ) → 1 ≤ tens k
some_tens zero = omega arith
some_tens (suc k) = omega (arith, some_tens k)

-- a number with more digits than are written has as many as are written
onto_long : (k n : ℕ) (acc : List ℕ) → tens k ≤ n → length (digits_onto k 10 false n acc) ≡ k + length acc
onto_long zero n acc big = omega arith
onto_long (suc k) n acc big =
    let some = some_tens k in
    let next : tens k ≤ n / 10 = omega arith in
    let rest = onto_long k (n / 10) (digit_glyph false (n % 10) ∷ acc) next in
    ap (λ (b : Bool). length (cond b (digit_glyph false (n % 10) ∷ acc) (digits_onto k 10 false (n / 10) (digit_glyph false (n % 10) ∷ acc)))) (ne_eqb (n / 10) 0 (λ none. omega arith))
    ∙ omega arith

decimal_long : (n : ℕ) → 10 ^ 64 ≤ n → length (decimal n) ≡ 64
unfolding digits
decimal_long n big = omega (arith, onto_long 64 n [] (at n big))
  where
    at : (n : ℕ) → 10 ^ 64 ≤ n → tens 64 ≤ n
    at n big = big

-- a number of eight bytes is told from every other
pub same_number : (m n : ℕ) → decimal m ≡ decimal n → m < 2 ^ 64 → m ≡ n
same_number m n same small = ⊎_elim
    (λ low. sym (decimal_is_IsNumeral_wide m (omega arith)).1 ∙ ap (digits_value 10) same ∙ (decimal_is_IsNumeral_wide n low).1)
    (λ high. absurd (omega (arith, length-decimal-le 20 m (omega arith) (omega arith) small, decimal_long n high, ap length same)))
    (cases_lt n (10 ^ 64))

-- ---- lines tell the current release

-- the bytes begin with these two
abbrev begins : ℕ → ℕ → List ℕ → Bool
begins a b bytes = eqb (get_or bytes 0 0) a && eqb (get_or bytes 1 0) b

apart : {x y : List ℕ} → x ≡ y → (a b : ℕ) → begins a b x ≡ false → begins a b y ≡ true → ⊥
apart {x} {y} same a b one other = both_ways (begins a b y) (ap (begins a b) (sym same) ∙ one) other

-- one number behind words of the same length
number_behind : (m n : ℕ) → (decimal m ++ []) ++ 10 ∷ [] ≡ (decimal n ++ []) ++ 10 ∷ [] → decimal m ≡ decimal n
number_behind m n same = sym (append-nil (decimal m)) ∙ append_cancel_right (decimal m ++ []) (decimal n ++ []) (10 ∷ []) same ∙ append-nil (decimal n)

abbrev Tells : (ℕ → Answer) → ℕ → Answer → Type 0
Tells answer n a = (m : ℕ) × (a ≡ answer m) × (m < 2 ^ 64 → m ≡ n)

committed_tells : (a : Answer) (n : ℕ) → line_of a ≡ line_of (answers.Committed n) → Tells answers.Committed n a
committed_tells (answers.Committed m) n e = (m, refl, same_number m n (number_behind m n (ap (drop 10) e)))
committed_tells answers.Ended n e = absurd (apart e 99 111 refl refl)
committed_tells answers.Unformatted n e = absurd (apart e 99 111 refl refl)
committed_tells _ n e = absurd (apart e 99 111 refl refl)

booted_tells : (a : Answer) (n : ℕ) → line_of a ≡ line_of (answers.Booted n) → Tells answers.Booted n a
booted_tells (answers.Booted m) n e = (m, refl, same_number m n (number_behind m n (ap (drop 7) e)))
booted_tells answers.Ended n e = absurd (apart e 98 111 refl refl)
booted_tells answers.Unformatted n e = absurd (apart e 98 111 refl refl)
booted_tells _ n e = absurd (apart e 98 111 refl refl)

pub lines_tell_the_current : LinesTellTheCurrent
lines_tell_the_current = record { committed = committed_tells; booted = booted_tells }

-- ---- the first line feed

-- two bytes lists that are the same have the same first line
same_first : (a b x y : List ℕ) → is_free a ≡ true → is_free b ≡ true → a ++ 10 ∷ x ≡ b ++ 10 ∷ y → (a ≡ b) × (x ≡ y)
same_first [] [] x y p q e = (refl, ap (drop 1) e)
same_first [] (d ∷ b) x y p q e = absurd (not_feed d b q (sym (ap (λ (l : List ℕ). get_or l 0 0) e)))
same_first (c ∷ a) [] x y p q e = absurd (not_feed c a p (ap (λ (l : List ℕ). get_or l 0 0) e))
same_first (c ∷ a) (d ∷ b) x y p q e =
    let head : c ≡ d = ap (λ (l : List ℕ). get_or l 0 0) e in
    let rest = same_first a b x y (rest_free c a p) (rest_free d b q) (ap (drop 1) e) in
    ((λ i. head i ∷ rest.0 i), rest.1)

-- whole lines are a first line and whole lines
record FirstLine (bytes : List ℕ) : Type 0 where
  body : List ℕ
  more : List ℕ
  free : is_free body ≡ true
  is : bytes ≡ body ++ 10 ∷ more
  lines : AreLines more

first_line : (front : List ℕ) → FirstLine (front ++ 10 ∷ [])
first_line [] = record { body = []; more = []; free = refl; is = refl; lines = inl refl }
first_line (x ∷ front) = at (eqb x 10) refl (first_line front)
  where
    at : (b : Bool) → eqb x 10 ≡ b → FirstLine (front ++ 10 ∷ []) → FirstLine (x ∷ (front ++ 10 ∷ []))
    at true is f = record { body = []; more = front ++ 10 ∷ []; free = refl; is = ap (λ (h : ℕ). h ∷ (front ++ 10 ∷ [])) (eqb-true x 10 is); lines = inr (front, refl) }
    at false is f = record { body = x ∷ f.body; more = f.more; free = free_cons x f.body (eqb-false x 10 is) f.free; is = ap (λ (l : List ℕ). x ∷ l) f.is; lines = f.lines }

-- ---- a line among the lines of answers

-- one of the answers has this line, and these bytes before it
record IsFound (all : List Answer) (before line rest : List ℕ) : Type 0 where
  front : List Answer
  answer : Answer
  back : List Answer
  are : all ≡ front ++ answer ∷ back
  line_is : line_of answer ≡ line
  before_is : flat_map line_of front ≡ before
  rest_is : rest ≡ flat_map line_of back

-- no bytes have no line
not_none : (before line rest : List ℕ) → IsLine line → before ++ (line ++ rest) ≡ [] → ⊥
not_none before line rest l e =
    omega (arith, ap length e, length-append before (line ++ rest), length-append line rest, ap length l.is, length-append l.body (10 ∷ []))

-- a line before other bytes
line_before : (line rest : List ℕ) (l : IsLine line) → line ++ rest ≡ l.body ++ 10 ∷ rest
line_before line rest l = ap (λ (x : List ℕ). x ++ rest) l.is ∙ append_assoc l.body (10 ∷ []) rest

-- a line is found wherever it stands
abbrev Finds : List Answer → List ℕ → List ℕ → Type 0
Finds all line rest = (before : List ℕ) → AreLines before → before ++ (line ++ rest) ≡ flat_map line_of all → IsFound all before line rest

find : (all : List Answer) (line rest before : List ℕ) → IsLine line → AreLines before → before ++ (line ++ rest) ≡ flat_map line_of all → IsFound all before line rest
find [] line rest before l lines e = absurd (not_none before line rest l e)
find (a ∷ all) line rest before l lines e = by (prints a) refl lines (λ before lines e. find all line rest before l lines e)
  where
    silent : line_of a ≡ [] → IsFound all before line rest → IsFound (a ∷ all) before line rest
    silent none f = record {
      front = a ∷ f.front;
      answer = f.answer;
      back = f.back;
      are = ap (λ (xs : List Answer). a ∷ xs) f.are;
      line_is = f.line_is;
      before_is = ap (λ (x : List ℕ). x ++ flat_map line_of f.front) none ∙ f.before_is;
      rest_is = f.rest_is;
    }

    first : (h : IsLine (line_of a)) → before ≡ [] → IsFound (a ∷ all) before line rest
    first h none =
        let whole : l.body ++ 10 ∷ rest ≡ h.body ++ 10 ∷ flat_map line_of all =
        sym (line_before line rest l) ∙ ap (λ (x : List ℕ). x ++ (line ++ rest)) (sym none) ∙ e ∙ line_before (line_of a) (flat_map line_of all) h in
        let same = same_first l.body h.body rest (flat_map line_of all) l.free h.free whole in
        record {
          front = [];
          answer = a;
          back = all;
          are = refl;
          line_is = h.is ∙ ap (λ (x : List ℕ). x ++ 10 ∷ []) (sym same.0) ∙ sym l.is;
          before_is = sym none;
          rest_is = same.1;
        }

    later : (h : IsLine (line_of a)) (f : FirstLine before) → Finds all line rest → IsFound (a ∷ all) before line rest
    later h f goes =
        let whole : f.body ++ 10 ∷ (f.more ++ (line ++ rest)) ≡ h.body ++ 10 ∷ flat_map line_of all =
        sym (append_assoc f.body (10 ∷ f.more) (line ++ rest)) ∙ ap (λ (x : List ℕ). x ++ (line ++ rest)) (sym f.is) ∙ e ∙ line_before (line_of a) (flat_map line_of all) h in
        let same = same_first f.body h.body (f.more ++ (line ++ rest)) (flat_map line_of all) f.free h.free whole in
        let r = goes f.more f.lines same.1 in
        record {
          front = a ∷ r.front;
          answer = r.answer;
          back = r.back;
          are = ap (λ (xs : List Answer). a ∷ xs) {y = r.front ++ r.answer ∷ r.back} r.are;
          line_is = r.line_is;
          before_is = line_before (line_of a) (flat_map line_of r.front) h ∙ ap (λ (x : List ℕ). h.body ++ 10 ∷ x) r.before_is ∙ ap (λ (x : List ℕ). x ++ 10 ∷ f.more) (sym same.0) ∙ sym f.is;
          rest_is = r.rest_is;
        }

    by : (b : Bool) → prints a ≡ b → AreLines before → Finds all line rest → IsFound (a ∷ all) before line rest
    by false is lines goes = let none = no_line a is in silent none (goes before lines (e ∙ ap (λ (x : List ℕ). x ++ flat_map line_of all) none))
    by true is (inl none) goes = first (has_line a is) none
    by true is (inr (front, whole)) goes = later (has_line a is) (subst FirstLine (sym whole) (first_line front)) goes

-- the answer that is found, where its line tells it
among : (answer : ℕ → Answer) (n : ℕ) (all : List Answer) (sent before behind rest : List ℕ) → ((a : Answer) → line_of a ≡ line_of (answer n) → Tells answer n a)
    → IsFound all before (line_of (answer n)) rest → sent ≡ before ++ (line_of (answer n) ++ behind) → IsAmong answer n all sent behind
among answer n all sent before behind rest tells f is =
    let told = tells f.answer f.line_is in
    record {
      front = f.front;
      number = told.0;
      back = f.back;
      are = f.are ∙ ap (λ (a : Answer). f.front ++ a ∷ f.back) told.1;
      number_is = told.2;
      within =
          ap (λ (x : List ℕ). x ++ behind) (
          ap (λ (a : Answer). flat_map line_of (f.front ++ a ∷ [])) (sym told.1)
          ∙ sym (flat_map_more line_of [] f.front f.answer)
          ∙ ap (λ (x : List ℕ). x ++ line_of f.answer) f.before_is
          ∙ ap (λ (x : List ℕ). before ++ x) f.line_is
          )
          ∙ append_assoc before (line_of (answer n)) behind
          ∙ sym is;
    }

-- the bytes owed are behind
owed_behind : (before line behind owed sent all : List ℕ) → sent ≡ before ++ (line ++ behind) → sent ++ owed ≡ all → before ++ (line ++ (behind ++ owed)) ≡ all
owed_behind before line behind owed sent all is e =
    ap (λ (x : List ℕ). before ++ x) (sym (append_assoc line behind owed)) ∙ sym (append_assoc before (line ++ behind) owed) ∙ ap (λ (x : List ℕ). x ++ owed) (sym is) ∙ e

first_committed : (all : List Answer) (sent owed : List ℕ) (n : ℕ) → sent ++ owed ≡ flat_map line_of all
    → HasLine (line_of (answers.Committed n)) sent → (behind : List ℕ) × IsAmong answers.Committed n all sent behind
first_committed all sent owed n e has =
    let line = line_of (answers.Committed n) in (
      has.behind,
      among answers.Committed n all sent has.before has.behind (has.behind ++ owed) (λ a. committed_tells a n)
          (find all line (has.behind ++ owed) has.before (has_line (answers.Committed n) refl) has.lines (owed_behind has.before line has.behind owed sent (flat_map line_of all) has.is e)) has.is,
    )

first_booted : (all : List Answer) (sent owed : List ℕ) (n : ℕ) → sent ++ owed ≡ flat_map line_of all
    → EndsWithLine (line_of (answers.Booted n)) sent → IsAmong answers.Booted n all sent []
first_booted all sent owed n e ends =
    let line = line_of (answers.Booted n) in
    let is : sent ≡ ends.before ++ (line ++ []) = ends.is ∙ ap (λ (x : List ℕ). ends.before ++ x) (sym (append-nil line)) in
    among answers.Booted n all sent ends.before [] owed (λ a. booted_tells a n)
    (find all line owed ends.before (has_line (answers.Booted n) refl) ends.lines (owed_behind ends.before line [] owed sent (flat_map line_of all) is e)) is

pub first_parts_tell : FirstPartsTell
first_parts_tell = record { committed = first_committed; booted = first_booted }

-- ---- a part of a line that ends with a line feed

-- what stands behind a line's only line feed
nothing_behind : (q body owed : List ℕ) → is_free body ≡ true → q ++ 10 ∷ owed ≡ body ++ 10 ∷ [] → owed ≡ []
nothing_behind [] [] owed free e = ap (drop 1) e
nothing_behind [] (c ∷ body) owed free e = absurd (not_feed c body free (sym (ap (λ (l : List ℕ). get_or l 0 0) e)))
nothing_behind (z ∷ q) [] owed free e =
    let rest : q ++ 10 ∷ owed ≡ [] = ap (drop 1) e in
    absurd (omega (arith, ap length rest, length-append q (10 ∷ owed)))
nothing_behind (z ∷ q) (c ∷ body) owed free e = nothing_behind q body owed (rest_free c body free) (ap (drop 1) e)

-- all but the last, and the last
last_of : (b : ℕ) (bs : List ℕ) → (q : List ℕ) × (z : ℕ) × (b ∷ bs ≡ q ++ z ∷ [])
last_of b [] = ([], b, refl)
last_of b (c ∷ bs) = let r = last_of c bs in (b ∷ r.0, r.1, ap (λ (l : List ℕ). b ∷ l) r.2)

-- a part of a line is all of it, where the bytes sent end with a line feed
pub whole_part : (b : ℕ) (bs owed line w v : List ℕ) → IsLine line → (b ∷ bs) ++ owed ≡ line → w ++ (b ∷ bs) ≡ v ++ 10 ∷ [] → owed ≡ []
whole_part b bs owed line w v l e ends =
    let last = last_of b bs in
    let push = same_from_push (w ++ last.0) v last.1 10 (append_assoc w last.0 (last.1 ∷ []) ∙ ap (λ (x : List ℕ). w ++ x) (sym last.2) ∙ ends) in
    let split : last.0 ++ 10 ∷ owed ≡ l.body ++ 10 ∷ [] =
    ap (λ (z : ℕ). last.0 ++ z ∷ owed) (sym push.1) ∙ sym (append_assoc last.0 (last.1 ∷ []) owed) ∙ ap (λ (x : List ℕ). x ++ owed) (sym last.2) ∙ e ∙ l.is in
    nothing_behind last.0 l.body owed l.free split
