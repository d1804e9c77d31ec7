-- First parts of two pieces.
use Rattle.std.proofs.Common.{◌≡◌, ◌∙◌, ℕ, ◌+◌, List, [], ◌∷◌, ◌++◌, zero, suc, refl, length, take, sym, ap, min, arith}
use Rattle.std.proofs.lemmas.List.{take-append-le}
use Rattle.std.proofs.Math.Seq.{take-append-add}
use Rattle.http_edges.specs.Edge.{SinkView, Appends, AppendsPart, followed_by}
use Rattle.http_edges.proofs.Pieces.{appends_more}

-- no list has more first elements than its length
pub shorter : (xs : List ℕ) (n : ℕ) → take n xs ≡ take (min n (length xs)) xs
shorter [] zero = refl
shorter [] (suc n) =
    let none : min (suc n) 0 ≡ 0 = omega arith in
    sym (ap (λ (k : ℕ). take {A = ℕ} k []) none)
shorter (x ∷ xs) zero =
    let none : min 0 (length (x ∷ xs)) ≡ 0 = omega arith in
    sym (ap (λ (k : ℕ). take k (x ∷ xs)) none)
shorter (x ∷ xs) (suc n) =
    let less : min (suc n) (suc (length xs)) ≡ suc (min n (length xs)) = omega arith in
    ap (λ (ys : List ℕ). x ∷ ys) (shorter xs n) ∙ sym (ap (λ (k : ℕ). take k (x ∷ xs)) less)

-- a part of the first piece is one of both
pub first_part : (first second : List ℕ) (old new : SinkView) → AppendsPart first old new → AppendsPart (first ++ second) old new
first_part first second old new part = record {
  count = min part.count (length first);
  appends = part.appends ∙ ap (λ (bytes : List ℕ). followed_by bytes old.written)
      (shorter first part.count ∙ sym (take-append-le (min part.count (length first)) first second (omega arith)));
}

-- the whole first piece and a part of the second
pub second_part : (first second : List ℕ) (old mid new : SinkView) → Appends first old mid → AppendsPart second mid new → AppendsPart (first ++ second) old new
second_part first second old mid new whole part = record {
  count = length first + part.count;
  appends = appends_more first (take part.count second) old.written mid.written new.written whole part.appends
      ∙ ap (λ (bytes : List ℕ). followed_by bytes old.written) (sym (take-append-add first second part.count));
}
