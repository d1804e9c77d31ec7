-- What the line of an answer is, and which answers bytes tell that are a first part of their lines.
use Rattle.std.specs.Prelude.{◌≡◌, ℕ, ◌<◌, ◌^◌, ◌==◌, ◌&&◌, not, Bool, true, false, List, [], ◌∷◌, ◌++◌}
use Rattle.std.specs.List.{flat_map, AllByRecursion}
use Rattle.component_package.specs.declared.answer.Answer.{Answer}
use Rattle.component_package.specs.declared.answer.Answer.TheVariants as answers
use Rattle.component_package.specs.mote.Lines.{line_of}
use Rattle.component_package.specs.mote.Headline.{HasLine, EndsWithLine}

-- ---- a line

-- no line feed among the bytes
abbrev pub is_free : List ℕ → Bool
is_free [] = true
is_free (b ∷ bs) = not (b == 10) && is_free bs

-- one line feed, at the end
pub record IsLine (line : List ℕ) : Type 0 where
  pub body : List ℕ
  pub free : is_free body ≡ true
  pub is : line ≡ body ++ 10 ∷ []

-- an answer that has a line
abbrev pub prints : Answer → Bool
prints answers.Ended = false
prints answers.Unformatted = false
prints a = true

-- An answer has one line or none.
pub record AnswersHaveLines : Type 0 where
  pub line : (a : Answer) → prints a ≡ true → IsLine (line_of a)
  pub none : (a : Answer) → prints a ≡ false → line_of a ≡ []

-- The line of `committed` or `booted` is no other answer's, and tells its number, whatever number it is compared with.
pub record LinesTellTheCurrent : Type 0 where
  pub committed : (a : Answer) (n : ℕ) → line_of a ≡ line_of (answers.Committed n) → (m : ℕ) × (a ≡ answers.Committed m) × (m < 2 ^ 64 → m ≡ n)
  pub booted : (a : Answer) (n : ℕ) → line_of a ≡ line_of (answers.Booted n) → (m : ℕ) × (a ≡ answers.Booted m) × (m < 2 ^ 64 → m ≡ n)

-- the numbers of an answer, in their order
abbrev pub numbers_of : Answer → List ℕ
numbers_of (answers.BadFrame t) = t ∷ []
numbers_of (answers.Reboot n) = n ∷ []
numbers_of (answers.BadManifest f) = f ∷ []
numbers_of (answers.Stale c) = c ∷ []
numbers_of (answers.ManifestIs n h) = n ∷ h ∷ []
numbers_of answers.NoManifest = []
numbers_of answers.BadPiece = []
numbers_of (answers.Held k) = k ∷ []
numbers_of (answers.Piece k page) = k ∷ page ∷ []
numbers_of (answers.Linked n) = n ∷ []
numbers_of (answers.Missing k) = k ∷ []
numbers_of (answers.BadPackage k f) = k ∷ f ∷ []
numbers_of (answers.Flash t) = t ∷ []
numbers_of (answers.Ram t) = t ∷ []
numbers_of (answers.Symbols n) = n ∷ []
numbers_of (answers.Relocations n) = n ∷ []
numbers_of (answers.Duplicate s i j) = s ∷ i ∷ j ∷ []
numbers_of (answers.Undefined k r s) = k ∷ r ∷ s ∷ []
numbers_of (answers.Range k r c) = k ∷ r ∷ c ∷ []
numbers_of (answers.Committed n) = n ∷ []
numbers_of answers.NotLinked = []
numbers_of (answers.Booted n) = n ∷ []
numbers_of (answers.Status c n s) = c ∷ n ∷ s ∷ []
numbers_of answers.Aborted = []
numbers_of answers.Ended = []
numbers_of answers.Unformatted = []

-- Answers that have lines are told apart by them, where the numbers of one fit eight bytes.
abbrev pub LinesTellAnswers : Type 0
LinesTellAnswers = (a b : Answer) → prints a ≡ true → prints b ≡ true → AllByRecursion (λ n. n < 2 ^ 64) (numbers_of a)
    → line_of a ≡ line_of b → a ≡ b

-- ---- lines among bytes

-- one of the answers is this one, by its number, and the bytes are the lines up to its own, and then these
pub record IsAmong (answer : ℕ → Answer) (n : ℕ) (all : List Answer) (sent behind : List ℕ) : Type 0 where
  pub front : List Answer
  pub number : ℕ
  pub back : List Answer
  pub are : all ≡ front ++ answer number ∷ back
  pub number_is : number < 2 ^ 64 → number ≡ n
  pub within : flat_map line_of (front ++ answer number ∷ []) ++ behind ≡ sent

-- In a first part of the lines of some answers a whole line `committed` or `booted` is that of one of them.
pub record FirstPartsTell : Type 0 where
  pub committed : (all : List Answer) (sent owed : List ℕ) (n : ℕ) → sent ++ owed ≡ flat_map line_of all
      → HasLine (line_of (answers.Committed n)) sent → (behind : List ℕ) × IsAmong answers.Committed n all sent behind
  pub booted : (all : List Answer) (sent owed : List ℕ) (n : ℕ) → sent ++ owed ≡ flat_map line_of all
      → EndsWithLine (line_of (answers.Booted n)) sent → IsAmong answers.Booted n all sent []
