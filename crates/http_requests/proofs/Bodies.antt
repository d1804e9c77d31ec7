-- A body that comes in pieces.
use Rattle.std.proofs.Common.{◌≡◌, ℕ, ◌+◌, ◌<◌, ◌≤◌, List, [], ◌++◌, length, take, drop, Option, Some, None, refl, sym, ap, ◌∙◌, append_assoc, arith, Bool, true, false}
use Rattle.std.proofs.lemmas.List.{length-append, length-take-le, take-append-drop, take_at}
use Rattle.std.proofs.lemmas.Option.{same_Some}
use Rattle.http_edges.specs.Edge.{SourceView, in_front}
use Rattle.http_requests.specs.Pieces.{Filled}

-- all of it came with the head
pub body_there : (start body : List ℕ) (left : Option (List ℕ)) (count : ℕ) → count ≤ length start → body ≡ take count start → (rest : List ℕ) → in_front start left ≡ Some rest
    → (length body ≡ count) × (after : List ℕ) × (rest ≡ body ++ after)
body_there start body None count fits is rest e = absurd cc
body_there start body (Some more) count fits is rest e = (
  ap length is ∙ length-take-le count start fits,
  drop count start ++ more,
  sym (same_Some (start ++ more) rest e)
      ∙ (ap (λ (xs : List ℕ). xs ++ more) (sym (take-append-drop count start)) ∙ (append_assoc (take count start) (drop count start) more
      ∙ ap (λ (xs : List ℕ). xs ++ (drop count start ++ more)) (sym is))),
)

-- the source filled it
pub body_filled : (front : Option (List ℕ)) (body : List ℕ) (left : Option (List ℕ)) → front ≡ in_front body left → (rest : List ℕ) → front ≡ Some rest → (after : List ℕ) × (rest ≡ body ++ after)
body_filled front body None is rest e = absurd cc
body_filled front body (Some more) is rest e = (more, same_Some rest (body ++ more) (sym e ∙ is))

-- the source ended before it was full
pub body_cut : (front : Option (List ℕ)) (body : List ℕ) (left : Option (List ℕ)) (n : ℕ) → n < length body → front ≡ in_front (take n body) left
    → ((bytes : List ℕ) → left ≡ Some bytes → bytes ≡ []) → (rest : List ℕ) → front ≡ Some rest → length rest < length body
body_cut front body None n short is ends rest e = absurd cc
body_cut front body (Some more) n short is ends rest e =
    let whole : rest ≡ take n body ++ more = same_Some rest (take n body ++ more) (sym e ∙ is) in
    let none : length more ≡ 0 = ap length (ends more refl) in
    let size : length rest ≡ length (take n body) + length more = ap length whole ∙ length-append (take n body) more in
    let part : length (take n body) ≡ n = length-take-le n body (omega (arith, short)) in
    omega (arith, none, size, part, short)

-- the same as what a vector holds whose items were all written
pub body_full : (front left : Option (List ℕ)) (into after : List ℕ) (len count : ℕ) → length into ≡ len → len ≡ count → front ≡ in_front into left → (rest : List ℕ) → front ≡ Some rest
    → (length (take len (into ++ after)) ≡ count) × (more : List ℕ) × (rest ≡ take len (into ++ after) ++ more)
body_full front left into after len count size is filled rest e =
    let whole = body_filled front into left filled rest e in
    rw (take_at into after len size) (size ∙ is, whole.0, whole.1)

pub is_filled : (start into : List ℕ) (old new : SourceView) (full : Bool) → full ≡ true → Filled start into old new full → in_front start old.left ≡ in_front into new.left
is_filled start into old new true e f = f
is_filled start into old new false e f = absurd cc
