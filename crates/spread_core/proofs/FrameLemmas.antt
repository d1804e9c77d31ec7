-- Numbers in payloads, read and written again.
use Rattle.std.proofs.Common.{◌≡◌, ◌≤◌, true, take, drop, sym, ℕ, suc, ◌+◌, ◌*◌, ◌/◌, ◌%◌, ◌<◌, List, [], ◌∷◌, ◌++◌, length, refl, ap, ap₂, ◌∙◌, arith}
use Rattle.std.specs.Prelude.{slice_index, nat_le}
use Rattle.std.proofs.lemmas.Bool.{and_from, le-leb}
use Rattle.std.proofs.lemmas.List.{length-take-le}
use Rattle.component_package.specs.packages.Numbers.{u16_bytes, u16_at, u32_bytes, u32_at}
use Rattle.component_package.proofs.ManifestLemmas.{four_bytes, number_again}
use Rattle.component_package.proofs.ManifestLaws.{faultless_manifests_spell, manifest_is_one}
use Rattle.component_package.specs.mote.Frames.{Frame}
use Rattle.component_package.specs.packages.Manifest.{release_of, manifest_bytes}
use Rattle.spread_core.specs.declared.message.Message.{Message}
use Rattle.spread_core.specs.declared.message.Message.TheVariants.{Advert, Ask, Offer, Data, Tick}
use Rattle.spread_core.specs.MessageFrames.{u64_bytes, kind_of, payload_of, frame_of, IsMessage, is_message, HasRoom, SaysSame, FramesSayMessages}

-- each item is a byte
abbrev pub HasBytes : List ℕ → Type 0
HasBytes b = (i : ℕ) → slice_index b i < 256

two_bytes : (a b : ℕ) → a < 256 → u16_bytes (a + 256 * b) ≡ a ∷ b ∷ []
two_bytes a b p =
    let e0 : (a + 256 * b) % 256 ≡ a = omega arith in
    let e1 : (a + 256 * b) / 256 ≡ b = omega arith in
    rw (e0, e1) refl

eight_bytes : (x y : ℕ) → x < 4294967296 → u64_bytes (x + 4294967296 * y) ≡ u32_bytes x ++ u32_bytes y
eight_bytes x y p =
    let e0 : (x + 4294967296 * y) % 4294967296 ≡ x = omega arith in
    let e1 : (x + 4294967296 * y) / 4294967296 ≡ y = omega arith in
    ap₂ (λ (m n : ℕ). u32_bytes m ++ u32_bytes n) e0 e1

-- six bytes are a number of four and a number of two
pub six_again : (b : List ℕ) → length b ≡ 6 → HasBytes b → u32_bytes (u32_at b 0) ++ u16_bytes (u16_at b 4) ≡ b
six_again (a ∷ b ∷ c ∷ d ∷ e ∷ f ∷ []) long bytes = ap₂ (λ (x y : List ℕ). x ++ y) (four_bytes a b c d (bytes 0) (bytes 1) (bytes 2)) (two_bytes e f (bytes 4))
six_again [] long bytes = absurd (omega arith)
six_again (a ∷ []) long bytes = absurd (omega arith)
six_again (a ∷ b ∷ []) long bytes = absurd (omega arith)
six_again (a ∷ b ∷ c ∷ []) long bytes = absurd (omega arith)
six_again (a ∷ b ∷ c ∷ d ∷ []) long bytes = absurd (omega arith)
six_again (a ∷ b ∷ c ∷ d ∷ e ∷ []) long bytes = absurd (omega arith)
six_again (a ∷ b ∷ c ∷ d ∷ e ∷ f ∷ g ∷ rest) long bytes = absurd (omega arith)

-- eight bytes are a number
eight_again : (b : List ℕ) → length b ≡ 8 → HasBytes b → u64_bytes (u32_at b 0 + 4294967296 * u32_at b 4) ≡ b
eight_again (a ∷ b ∷ c ∷ d ∷ e ∷ f ∷ g ∷ h ∷ []) long bytes =
    let low : a + 256 * b + 65536 * (c + 256 * d) < 4294967296 = omega (arith, bytes 0, bytes 1, bytes 2, bytes 3) in
    eight_bytes (a + 256 * b + 65536 * (c + 256 * d)) (e + 256 * f + 65536 * (g + 256 * h)) low
    ∙ ap₂ (λ (x y : List ℕ). x ++ y) (four_bytes a b c d (bytes 0) (bytes 1) (bytes 2)) (four_bytes e f g h (bytes 4) (bytes 5) (bytes 6))
eight_again [] long bytes = absurd (omega arith)
eight_again (a ∷ []) long bytes = absurd (omega arith)
eight_again (a ∷ b ∷ []) long bytes = absurd (omega arith)
eight_again (a ∷ b ∷ c ∷ []) long bytes = absurd (omega arith)
eight_again (a ∷ b ∷ c ∷ d ∷ []) long bytes = absurd (omega arith)
eight_again (a ∷ b ∷ c ∷ d ∷ e ∷ []) long bytes = absurd (omega arith)
eight_again (a ∷ b ∷ c ∷ d ∷ e ∷ f ∷ []) long bytes = absurd (omega arith)
eight_again (a ∷ b ∷ c ∷ d ∷ e ∷ f ∷ g ∷ []) long bytes = absurd (omega arith)
eight_again (a ∷ b ∷ c ∷ d ∷ e ∷ f ∷ g ∷ h ∷ i ∷ rest) long bytes = absurd (omega arith)

-- thirteen bytes are a number of four, a byte and a number of eight
pub thirteen_again : (b : List ℕ) → length b ≡ 13 → HasBytes b → u32_bytes (u32_at b 0) ++ slice_index b 4 ∷ u64_bytes (u32_at b 5 + 4294967296 * u32_at b 9) ≡ b
thirteen_again (a ∷ b ∷ c ∷ d ∷ e ∷ rest) long bytes =
    let eight : length rest ≡ 8 = omega arith in
    ap₂ (λ (x y : List ℕ). x ++ e ∷ y) (four_bytes a b c d (bytes 0) (bytes 1) (bytes 2)) (eight_again rest eight behind)
  where
    behind : HasBytes rest
    behind i = bytes (suc (suc (suc (suc (suc i)))))
thirteen_again [] long bytes = absurd (omega arith)
thirteen_again (a ∷ []) long bytes = absurd (omega arith)
thirteen_again (a ∷ b ∷ []) long bytes = absurd (omega arith)
thirteen_again (a ∷ b ∷ c ∷ []) long bytes = absurd (omega arith)
thirteen_again (a ∷ b ∷ c ∷ d ∷ []) long bytes = absurd (omega arith)

-- ---- what frames say

list_of_page : (n : ℕ) (b : List ℕ) → n ≤ 256 → length b ≡ 256 → length (take n b) ≡ n
list_of_page n b few room = length-take-le n b (omega arith)

framed : (m : Message) → IsMessage m → HasRoom m → is_message (kind_of m) (payload_of m) ≡ true
framed (Advert r w) is room = refl
framed (Ask r k pages) is room = refl
framed (Offer m) is room = rw (faultless_manifests_spell.faultless (manifest_bytes (release_of m)) (release_of m) (record { release = is.release; bytes = refl })) refl
framed (Data r k p n b) is room =
    let bytes : List ℕ = u32_bytes r ++ k ∷ p ∷ take n b in
    let long = list_of_page n b is.1 room in
    let least : 7 ≤ length bytes = omega (arith, long, is.0) in
    let most : length bytes ≤ 262 = omega (arith, long, is.1) in
    and_from (nat_le 7 (length bytes)) (nat_le (length bytes) 262) (le-leb 7 (length bytes) least) (le-leb (length bytes) 262 most)
framed Tick is room = refl

-- the number at the front of a payload
front : (r s : ℕ) (x y : List ℕ) → u32_bytes r ++ x ≡ u32_bytes s ++ y → (r ≡ s) × (x ≡ y)
front r s x y e = (sym (number_again r x) ∙ ap (λ (b : List ℕ). u32_at b 0) e ∙ number_again s y, ap (drop 4) e)

pair_again : (n : ℕ) → u16_at (u16_bytes n) 0 ≡ n
pair_again n = omega arith

wide_again : (n : ℕ) → u32_at (u64_bytes n) 0 + 4294967296 * u32_at (u64_bytes n) 4 ≡ n
wide_again n = omega (arith, number_again (n % 4294967296) (u32_bytes (n / 4294967296)), number_again (n / 4294967296) [])

same_frames : (m n : Message) → IsMessage m → IsMessage n → HasRoom m → HasRoom n → frame_of m ≡ frame_of n → SaysSame m n
same_frames (Advert r w) (Advert s v) im il rm rn e =
    let f = front r s (u16_bytes w) (u16_bytes v) (ap (λ (x : Frame). x.payload) e) in
    (f.0, sym (pair_again w) ∙ ap (λ (b : List ℕ). u16_at b 0) f.1 ∙ pair_again v)
same_frames (Ask r k a) (Ask s l b) im il rm rn e =
    let f = front r s (k ∷ u64_bytes a) (l ∷ u64_bytes b) (ap (λ (x : Frame). x.payload) e) in
    (f.0, ap (λ (x : List ℕ). slice_index x 0) f.1, sym (wide_again a) ∙ ap (λ (x : List ℕ). u32_at (drop 1 x) 0 + 4294967296 * u32_at (drop 1 x) 4) f.1 ∙ wide_again b)
same_frames (Offer m) (Offer n) im il rm rn e =
    manifest_is_one.release (manifest_bytes (release_of m)) (release_of m) (release_of n) (record { release = im.release; bytes = refl }) (record { release = il.release; bytes = ap (λ (x : Frame). x.payload) e })
same_frames (Data r k p n b) (Data s l q o d) im il rm rn e =
    let f = front r s (k ∷ p ∷ take n b) (l ∷ q ∷ take o d) (ap (λ (x : Frame). x.payload) e) in
    let page : take n b ≡ take o d = ap (drop 2) f.1 in
    let size : n ≡ o = sym (list_of_page n b im.1 rm) ∙ ap length page ∙ list_of_page o d il.1 rn in
    (f.0, ap (λ (x : List ℕ). slice_index x 0) f.1, ap (λ (x : List ℕ). slice_index x 1) f.1, size, page)
same_frames Tick Tick im il rm rn e = tt
same_frames m n im il rm rn e = absurd (let kinds : kind_of m ≡ kind_of n = ap (λ (x : Frame). x.kind) e in omega (arith, kinds))

pub frames_say_messages : FramesSayMessages
frames_say_messages = record { each = framed; one = same_frames }
