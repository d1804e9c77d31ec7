-- What holds of the kinds of inputs.
use Rattle.std.specs.Prelude.{◌≡◌, ℕ, List}
use Rattle.httparse.specs.Grammar.{EndsInTarget}
use Rattle.http_requests.specs.Requests.{Kind, no_head, cut, IsOfKind}

-- two kinds of one input are one; an input that ends inside its target may be refused and cut
abbrev pub Agree : List ℕ → Kind → Kind → Type 0
Agree input no_head cut = EndsInTarget input
Agree input cut no_head = EndsInTarget input
Agree input a b = a ≡ b

-- an input has one kind, but for one that ends inside its target
abbrev pub KindsAgree : Type 0
KindsAgree = (input : List ℕ) (a b : Kind) → IsOfKind input a → IsOfKind input b → Agree input a b
