-- Frames on the line: a stream of bytes is whole frames and a rest.
use Rattle.std.specs.Prelude.{◌≡◌, ℕ, ◌+◌, ◌*◌, ◌/◌, ◌%◌, ◌<◌, ◌≤◌, List, [], ◌∷◌, ◌++◌, Bool, false, IsTrue, ◌==◌, ◌&&◌, ◌||◌, ◌⊎◌, nat_lt, length}
use Rattle.avr_reloc.specs.Field.{AreBytes}
use Rattle.component_package.specs.declared.frames.TheConstants.{END}
use Rattle.component_package.specs.declared.limits.TheConstants.{PAYLOAD_BYTES}

-- a type and a payload
pub record Frame : Type 0 where
  pub kind : ℕ
  pub payload : List ℕ

-- a frame on the line: its type, the length of its payload, the low byte first, and the payload
abbrev pub frame_bytes : Frame → List ℕ
frame_bytes f = f.kind ∷ (length f.payload % 256) ∷ (length f.payload / 256) ∷ f.payload

-- a type is a byte, and a payload is at most 1,024 bytes
pub record IsFrame (f : Frame) : Type 0 where
  pub kind : f.kind < 256
  pub short : length f.payload ≤ PAYLOAD_BYTES
  pub bytes : AreBytes f.payload

-- END: type 8, and nothing in it
abbrev pub is_end : Frame → Bool
is_end f = (f.kind == END) && (length f.payload == 0)

-- these frames one after another
abbrev pub stream_of : List Frame → List ℕ
stream_of [] = []
stream_of (f ∷ fs) = frame_bytes f ++ stream_of fs

-- each is a frame, and none but the last is END
abbrev pub OnlyLastEnds : List Frame → Type 0
OnlyLastEnds [] = Unit {0}
OnlyLastEnds (f ∷ fs) = IsFrame f × (IsTrue (is_end f) → fs ≡ []) × OnlyLastEnds fs

-- one of them is END
abbrev pub has_end : List Frame → Bool
has_end [] = false
has_end (f ∷ fs) = is_end f || has_end fs

-- less than a frame: nothing, a frame cut short, or a head with too great a length
abbrev pub IsPartial : List ℕ → Type 0
IsPartial [] = Unit {0}
IsPartial (kind ∷ []) = Unit {0}
IsPartial (kind ∷ low ∷ []) = Unit {0}
IsPartial (kind ∷ low ∷ high ∷ bytes) = ((PAYLOAD_BYTES < low + 256 * high) × (bytes ≡ [])) ⊎ ((low + 256 * high ≤ PAYLOAD_BYTES) × (length bytes < low + 256 * high))

-- a head with too great a length
abbrev pub is_too_long : List ℕ → Bool
is_too_long [] = false
is_too_long (kind ∷ []) = false
is_too_long (kind ∷ low ∷ []) = false
is_too_long (kind ∷ low ∷ high ∷ bytes) = nat_lt PAYLOAD_BYTES (low + 256 * high)

-- the bytes are whole frames, up to END, and a rest, which is empty after END
pub record Frames (bytes : List ℕ) (frames : List Frame) (rest : List ℕ) : Type 0 where
  pub whole : bytes ≡ stream_of frames ++ rest
  pub each : OnlyLastEnds frames
  pub rest_partial : IsPartial rest
  pub rest_after_end : IsTrue (has_end frames) → rest ≡ []
