-- What was taken of a source.
use Rattle.std.specs.Prelude.{◌≡◌, ◌<◌, ◌≤◌, ℕ, List, ◌++◌, length, take, ⊤}
use Rattle.httparse.specs.declared.spans.HeaderSpan.{HeaderSpan}
use Rattle.httparse.specs.Spans.{IsRequestWithin, span_bytes}
use Rattle.http_edges.specs.Edge.{SourceView, Gives}
use Rattle.http_heads.specs.Fields.{fields_of, key_of}
use Rattle.http_requests.specs.Requests.{Request, no_head, bad_head, too_large, cut, request, IsOfKind}
use Rattle.http_requests.specs.declared.take.WholeRequest.{WholeRequest}
use Rattle.http_requests.specs.declared.take.Taken.{Taken}
use Rattle.http_requests.specs.declared.take.Taken.TheVariants.{Whole, NoHead, BadHead, TooLarge, Cut, NoRoom}
use Rattle.http_requests.specs.declared.body.BodyRead.{BodyRead}
use Rattle.http_requests.specs.declared.body.BodyRead.TheVariants.{Whole as WholeBody, Cut as CutBody, NoRoom as NoRoomForBody}

-- the parts of a request's head lie in the first bytes of the buffer, and its body has at most 262,144 bytes
pub record IsWholeWithin (buffer : List ℕ) (headers : List HeaderSpan) (w : WholeRequest) : Type 0 where
  pub fits : w.count ≤ length buffer
  pub within : IsRequestWithin (take w.count buffer) headers w.spans
  pub body : length w.body.items ≤ 262144

-- the request whose parts lie there
abbrev pub request_in : List ℕ → List HeaderSpan → WholeRequest → Request
request_in buffer headers w = record {
  method = span_bytes (take w.count buffer) w.spans.method;
  target = span_bytes (take w.count buffer) w.spans.path;
  key = key_of (fields_of (take w.count buffer) (take w.spans.headers headers));
  body = w.body.items;
}

-- a whole request's parts can be read
abbrev pub IsTakenWithin : List ℕ → List HeaderSpan → Taken → Type 0
IsTakenWithin buffer headers (Whole w) = IsWholeWithin buffer headers w
IsTakenWithin buffer headers NoHead = ⊤
IsTakenWithin buffer headers BadHead = ⊤
IsTakenWithin buffer headers TooLarge = ⊤
IsTakenWithin buffer headers Cut = ⊤
IsTakenWithin buffer headers NoRoom = ⊤

-- the input is what was taken; want of memory says nothing of it
abbrev pub TellsKind : List ℕ → List ℕ → List HeaderSpan → Taken → Type 0
TellsKind input buffer headers (Whole w) = IsOfKind input (request (request_in buffer headers w))
TellsKind input buffer headers NoHead = IsOfKind input no_head
TellsKind input buffer headers BadHead = IsOfKind input bad_head
TellsKind input buffer headers TooLarge = IsOfKind input too_large
TellsKind input buffer headers Cut = IsOfKind input cut
TellsKind input buffer headers NoRoom = ⊤

-- at most so many bytes were read
abbrev pub ReadsAtMost : ℕ → SourceView → SourceView → Type 0
ReadsAtMost most old new = (taken : List ℕ) × (length taken ≤ most) × Gives taken old new

-- of a request that is refused by its head nothing was read but what the head's buffer holds
abbrev pub ReadsNoBody : SourceView → SourceView → Taken → Type 0
ReadsNoBody old new (Whole w) = ⊤
ReadsNoBody old new NoHead = ⊤
ReadsNoBody old new BadHead = ReadsAtMost 8192 old new
ReadsNoBody old new TooLarge = ReadsAtMost 8192 old new
ReadsNoBody old new Cut = ⊤
ReadsNoBody old new NoRoom = ⊤

-- and nothing more once its head was there
abbrev pub ReadsNoMore : SourceView → SourceView → Taken → Type 0
ReadsNoMore old new (Whole w) = ⊤
ReadsNoMore old new NoHead = ⊤
ReadsNoMore old new BadHead = new ≡ old
ReadsNoMore old new TooLarge = new ≡ old
ReadsNoMore old new Cut = ⊤
ReadsNoMore old new NoRoom = ⊤

-- a body that was taken has so many bytes
abbrev pub HasSize : ℕ → BodyRead → Type 0
HasSize count (WholeBody body) = length body.items ≡ count
HasSize count CutBody = ⊤
HasSize count NoRoomForBody = ⊤

-- of the bytes after a head, the body was taken, or there are fewer than it has
abbrev pub TellsBody : ℕ → List ℕ → BodyRead → Type 0
TellsBody count rest (WholeBody body) = (length body.items ≡ count) × (after : List ℕ) × (rest ≡ body.items ++ after)
TellsBody count rest CutBody = length rest < count
TellsBody count rest NoRoomForBody = ⊤
