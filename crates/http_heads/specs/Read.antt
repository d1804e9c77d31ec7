-- What the bytes taken from a source are found to be.
use Rattle.std.specs.Prelude.{◌≡◌, ◌≤◌, ℕ, List, [], length, take, Some, Result, Ok, Err, ⊤}
use Rattle.httparse.specs.declared.spans.HeaderSpan.{HeaderSpan}
use Rattle.httparse.specs.declared.spans.RequestSpans.{RequestSpans}
use Rattle.httparse.specs.Spans.{IsRequestWithin, IsRequestOf}
use Rattle.http_edges.specs.Edge.{SourceView}
use Rattle.http_heads.specs.Heads.{IsRefusedHead, IsCutHead}
use Rattle.http_heads.specs.declared.head.HeadRead.{HeadRead}
use Rattle.http_heads.specs.declared.head.HeadRead.TheVariants.{Whole, Refused, Cut}

-- the bytes taken are the buffer's first ones and begin with a head, whose parts the spans and the headers cover
pub record IsWholeHead (taken buffer : List ℕ) (headers : List HeaderSpan) (count : ℕ) (spans : RequestSpans) : Type 0 where
  pub bytes : taken ≡ take count buffer
  pub fits : count ≤ length buffer
  pub within : IsRequestWithin taken headers spans
  pub head : IsRequestOf taken headers spans

-- what an answer says of the bytes taken
abbrev pub HeadGives : {E : Type 0} → Result HeadRead E → List ℕ → List ℕ → List HeaderSpan → Type 0
HeadGives (Ok (Whole count spans)) taken buffer headers = IsWholeHead taken buffer headers count spans
HeadGives (Ok Refused) taken buffer headers = IsRefusedHead taken
HeadGives (Ok Cut) taken buffer headers = IsCutHead taken
HeadGives (Err e) taken buffer headers = length taken ≤ 8192

-- no byte is left
abbrev pub IsAtEnd : SourceView → Type 0
IsAtEnd v = (bytes : List ℕ) → v.left ≡ Some bytes → bytes ≡ []

-- a head is cut only where the source has ended
abbrev pub EndsAll : {E : Type 0} → Result HeadRead E → SourceView → Type 0
EndsAll (Ok (Whole count spans)) v = ⊤
EndsAll (Ok Refused) v = ⊤
EndsAll (Ok Cut) v = IsAtEnd v
EndsAll (Err e) v = ⊤
