-- How the reading of a frame ends.
use Rattle.std.specs.Prelude.{◌≡◌, ◌≢◌, ℕ, ◌+◌, ◌<◌, ◌≤◌, List, [], ◌++◌, IsTrue, IsFalse, length, take, Result, Ok, Err}
use Rattle.flash_pages.specs.declared.board.Failed.{Failed}
use Rattle.kept_core.specs.declared.session.Next.{Next}
use Rattle.kept_core.specs.declared.session.Next.TheVariants.{Frame as NextFrame, InputEnd, CutFrame, TooLong, Budget}
use Rattle.kept_core.specs.declared.session.Session.{Session}
use Rattle.component_package.specs.packages.Numbers.{u16_at}
use Rattle.component_package.specs.mote.Frames.{Frame, IsFrame, frame_bytes, IsPartial, is_too_long}

-- how many frames a session has read
abbrev pub served_of : Session → ℕ
served_of session = session.served

-- the payload of the last frame that a session has read
abbrev pub payload_of : Session → List ℕ
payload_of session = take session.payload_len session.buffer

-- the frame of this type and payload
abbrev pub frame_of : ℕ → List ℕ → Frame
frame_of kind payload = record { kind = kind; payload = payload }

-- From the bytes left before a reading to those left after it: a whole frame with this payload, or a rest that is none. The rest is empty where
-- the input ended between frames; it is a frame cut short, a head with too great a length n and nothing after it, or one byte after the last frame of a
-- session.
abbrev pub NextGives : Result Next Failed → List ℕ → List ℕ → List ℕ → List ℕ → Type 0
NextGives (Ok (NextFrame kind)) payload old rest new = IsFrame (frame_of kind payload) × (rest ≡ []) × (old ≡ frame_bytes (frame_of kind payload) ++ new)
NextGives (Ok InputEnd) payload old rest new = (old ≡ []) × (new ≡ []) × (rest ≡ [])
NextGives (Ok CutFrame) payload old rest new = (old ≡ rest) × (new ≡ []) × (rest ≢ []) × IsFalse (is_too_long rest) × IsPartial rest
NextGives (Ok (TooLong n)) payload old rest new = (old ≡ rest ++ new) × (n ≡ u16_at rest 1) × (rest ≢ []) × IsTrue (is_too_long rest) × IsPartial rest
NextGives (Ok Budget) payload old rest new = (old ≡ rest ++ new) × (length rest ≡ 1)
NextGives (Err failed) payload old rest new = (old ≡ rest ++ new) × IsPartial rest

-- A frame is one more of at most 1,000,000, and Budget comes only after so many. Whatever is no frame leaves the session as it was.
abbrev pub ServesNext : Result Next Failed → Session → Session → Type 0
ServesNext (Ok (NextFrame kind)) old new = (served_of old < 1000000) × (served_of new ≡ served_of old + 1)
ServesNext (Ok InputEnd) old new = new ≡ old
ServesNext (Ok CutFrame) old new = (served_of old < 1000000) × (new ≡ old)
ServesNext (Ok (TooLong n)) old new = (served_of old < 1000000) × (new ≡ old)
ServesNext (Ok Budget) old new = (1000000 ≤ served_of old) × (new ≡ old)
ServesNext (Err failed) old new = new ≡ old
