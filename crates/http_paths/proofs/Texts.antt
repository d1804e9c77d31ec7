-- The parts of an ASCII path are texts.
use Rattle.std.proofs.Common.{◌≡◌, ℕ, ◌-◌, List, [], ◌∷◌, zero, suc, Bool, true, false, cond, ◌&&◌, take, drop, refl, arith}
use Rattle.std.specs.Prelude.{IsAscii}
use Rattle.std.specs.Char.{is_ascii}
use Rattle.std.specs.List.{list_all}
use Rattle.std.proofs.lemmas.Bool.Decides.{nat_tests}
use Rattle.std.proofs.lemmas.Str.{IsUtf8-from_ascii, IsAscii-take, IsAscii-drop}
use Rattle.matchit.specs.Params.{walk, part_of, AllText}

pub nil_ascii : IsAscii []
nil_ascii i = omega arith

pub either_ascii : (q : Bool) (xs ys : List ℕ) → IsAscii xs → IsAscii ys → IsAscii (cond q xs ys)
either_ascii true xs ys x y = x
either_ascii false xs ys x y = y

pub part_ascii : (bytes : List ℕ) (start end : ℕ) → IsAscii bytes → IsAscii (part_of bytes start end)
part_ascii bytes start end is =
    either_ascii _ (take (end - start) (drop start bytes)) [] (IsAscii-take (drop start bytes) (end - start) (IsAscii-drop bytes start is)) nil_ascii

pub walk_text : (pattern text path : List ℕ) (names : List (ℕ × ℕ)) (token at : ℕ) → IsAscii text → IsAscii path → AllText (walk pattern text path names token at)
walk_text pattern text path [] token at t p = tt
walk_text pattern text path (name ∷ rest) token at t p = (
  IsUtf8-from_ascii _ (part_ascii text name.0 name.1 t),
  IsUtf8-from_ascii _ (part_ascii path _ _ p),
  walk_text pattern text path rest _ _ t p,
)

pub first_true : (a b : Bool) → (a && b) ≡ true → a ≡ true
first_true true b e = refl
first_true false b e = e

pub second_true : (a b : Bool) → (a && b) ≡ true → b ≡ true
second_true true b e = e
second_true false b e = absurd cc

pub all_ascii : (bytes : List ℕ) → list_all is_ascii bytes ≡ true → IsAscii bytes
all_ascii [] e i = nil_ascii i
all_ascii (b ∷ bytes) e zero =
    let small = first_true (is_ascii b) (list_all is_ascii bytes) e in
    grind (arith, nat_tests, small)
all_ascii (b ∷ bytes) e (suc i) = all_ascii bytes (second_true (is_ascii b) (list_all is_ascii bytes) e) i
