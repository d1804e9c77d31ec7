-- Messages as frames on the line.
use Rattle.std.specs.Prelude.{◌≡◌, ℕ, ◌%◌, ◌/◌, ◌≤◌, ◌^◌, ◌==◌, ◌&&◌, nat_le, Bool, true, List, [], ◌∷◌, ◌++◌, length, take, is_none, if◌then◌else◌}
use Rattle.component_package.specs.packages.Numbers.{u16_bytes, u32_bytes}
use Rattle.component_package.specs.mote.Frames.{Frame}
use Rattle.component_package.specs.packages.Manifest.{IsManifest, release_of, manifest_bytes, manifest_fault}
use Rattle.spread_core.specs.declared.message.Message.{Message}
use Rattle.spread_core.specs.declared.message.Message.TheVariants.{Advert, Ask, Offer, Data, Tick}

-- a number of 64 bits, the low byte first
abbrev pub u64_bytes : ℕ → List ℕ
u64_bytes n = u32_bytes (n % 2 ^ 32) ++ u32_bytes (n / 2 ^ 32)

-- the type of a message's frame
abbrev pub kind_of : Message → ℕ
kind_of (Advert release whole) = 16
kind_of (Ask release ordinal pages) = 17
kind_of (Offer m) = 18
kind_of (Data release ordinal page n bytes) = 19
kind_of Tick = 20

-- its payload
abbrev pub payload_of : Message → List ℕ
payload_of (Advert release whole) = u32_bytes release ++ u16_bytes whole
payload_of (Ask release ordinal pages) = u32_bytes release ++ ordinal ∷ u64_bytes pages
payload_of (Offer m) = manifest_bytes (release_of m)
payload_of (Data release ordinal page n bytes) = u32_bytes release ++ ordinal ∷ page ∷ take n bytes
payload_of Tick = []

abbrev pub frame_of : Message → Frame
frame_of m = record { kind = kind_of m; payload = payload_of m }

-- a message that has a frame: a manifest is a release's, and a page has 1 to 256 bytes
abbrev pub IsMessage : Message → Type 0
IsMessage (Advert release whole) = Unit {0}
IsMessage (Ask release ordinal pages) = Unit {0}
IsMessage (Offer m) = IsManifest m
IsMessage (Data release ordinal page n bytes) = (1 ≤ n) × (n ≤ 256)
IsMessage Tick = Unit {0}

-- whether a frame of this type and payload is a message
abbrev pub is_message : ℕ → List ℕ → Bool
is_message kind payload =
    if kind == 16 then length payload == 6
    else if kind == 17 then length payload == 13
    else if kind == 18 then is_none (manifest_fault payload)
    else if kind == 19 then nat_le 7 (length payload) && nat_le (length payload) 262
    else (kind == 20) && (length payload == 0)

-- ---- what frames say

-- a page has room for 256 bytes
abbrev pub HasRoom : Message → Type 0
HasRoom (Advert release whole) = Unit {0}
HasRoom (Ask release ordinal pages) = Unit {0}
HasRoom (Offer m) = Unit {0}
HasRoom (Data release ordinal page n bytes) = length bytes ≡ 256
HasRoom Tick = Unit {0}

-- two messages say the same: bytes behind a page, and entries behind a manifest's count, mean nothing
abbrev pub SaysSame : Message → Message → Type 0
SaysSame (Advert r w) (Advert s v) = (r ≡ s) × (w ≡ v)
SaysSame (Ask r k pages) (Ask s l others) = (r ≡ s) × (k ≡ l) × (pages ≡ others)
SaysSame (Offer m) (Offer n) = release_of m ≡ release_of n
SaysSame (Data r k p n bytes) (Data s l q o others) = (r ≡ s) × (k ≡ l) × (p ≡ q) × (n ≡ o) × (take n bytes ≡ take o others)
SaysSame Tick Tick = Unit {0}
SaysSame m n = ⊥

-- A message's frame is a message, and messages with one frame say the same.
pub record FramesSayMessages : Type 0 where
  pub each : (m : Message) → IsMessage m → HasRoom m → is_message (kind_of m) (payload_of m) ≡ true
  pub one : (m n : Message) → IsMessage m → IsMessage n → HasRoom m → HasRoom n → frame_of m ≡ frame_of n → SaysSame m n
