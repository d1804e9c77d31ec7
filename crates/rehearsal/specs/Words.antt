-- The words of a rehearsal.
use Rattle.std.specs.Prelude.{◌≡◌, ◌≢◌, ℕ, ◌<◌, ◌^◌, List, [], ◌∷◌, codes, decimal, Option, Some, None}

-- `rehearse` and a number
abbrev pub rehearse_words : ℕ → List (List ℕ)
rehearse_words number = codes "rehearse" ∷ decimal number ∷ []

-- a text is this number of four bytes, or none
abbrev pub IsNumber : List ℕ → Option ℕ → Type 0
IsNumber text (Some number) = text ≡ decimal number
IsNumber text None = (number : ℕ) → number < 2 ^ 32 → text ≢ decimal number

-- the words are a rehearsal of this number, or of none
abbrev pub IsRehearsal : List (List ℕ) → Option ℕ → Type 0
IsRehearsal words (Some number) = words ≡ rehearse_words number
IsRehearsal words None = (number : ℕ) → number < 2 ^ 32 → words ≢ rehearse_words number
