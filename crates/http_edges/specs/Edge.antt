-- What the two ends of a connection show, and what a call on them does.
use Rattle.std.specs.Prelude.{◌≡◌, ◌↔◌, ℕ, ◌+◌, ◌-◌, ◌^◌, ◌<◌, ◌≤◌, min, List, [], ◌++◌, length, take, Option, Some, None, Result, OnOk, OnErr}

-- all that a source shows of itself
pub record SourceView : Type 0 where
  -- the bytes left to read; a source may tell none
  pub left : Option (List ℕ)
  -- how many calls failed
  pub faults : ℕ

-- all that a sink shows of itself
pub record SinkView : Type 0 where
  -- the bytes written, the first one first; a sink may tell none
  pub written : Option (List ℕ)
  -- how many calls failed
  pub faults : ℕ

-- a count of faults rose, or stands at its end
abbrev pub Rose : ℕ → ℕ → Type 0
Rose before now = min (before + 1) (2 ^ 64 - 1) ≤ now

-- a count of faults after an answer: never lower, as before at Ok, and risen at Err
pub record Counts {A E : Type 0} (before now : ℕ) (result : Result A E) : Type 0 where
  pub later : before ≤ now
  pub ok : OnOk result (now ≡ before)
  pub failed : OnErr result (Rose before now)

-- these bytes in front of those, where they are told
abbrev pub in_front : List ℕ → Option (List ℕ) → Option (List ℕ)
in_front taken None = None
in_front taken (Some rest) = Some (taken ++ rest)

-- those bytes and then these, where they are told
abbrev pub followed_by : List ℕ → Option (List ℕ) → Option (List ℕ)
followed_by more None = None
followed_by more (Some bytes) = Some (bytes ++ more)

-- what was left is these bytes and then what is left now
abbrev pub Gives : List ℕ → SourceView → SourceView → Type 0
Gives taken old new = old.left ≡ in_front taken new.left

-- so many of the next bytes were given, and are left no more; none of them exactly where nothing was left
pub record Receives (count : ℕ) (old_into new_into : List ℕ) (old new : SourceView) : Type 0 where
  pub within : count ≤ length old_into
  pub gives : Gives (take count new_into) old new
  pub ends : (bytes : List ℕ) → old.left ≡ Some bytes → 0 < length old_into
      → (count ≡ 0) ↔ (bytes ≡ [])

-- these bytes were written after what was written before
abbrev pub Appends : List ℕ → SinkView → SinkView → Type 0
Appends bytes old new = new.written ≡ followed_by bytes old.written

-- some first part of the piece was written
pub record AppendsPart (piece : List ℕ) (old new : SinkView) : Type 0 where
  pub count : ℕ
  pub appends : Appends (take count piece) old new

-- so many bytes from the front of the piece were written, at least one of a piece that isn't empty
pub record Accepts (count : ℕ) (piece : List ℕ) (old new : SinkView) : Type 0 where
  pub within : count ≤ length piece
  pub some : 0 < length piece → 0 < count
  pub appends : Appends (take count piece) old new
