-- The line that answers a frame.
use Rattle.std.specs.Prelude.{ℕ, List, [], ◌∷◌, ◌++◌, codes, decimal}
use Rattle.component_package.specs.declared.answer.Answer.{Answer}
use Rattle.component_package.specs.declared.answer.Answer.TheVariants as answers

-- each number after a space
abbrev pub spaced : List ℕ → List ℕ
spaced [] = []
spaced (n ∷ ns) = (32 ∷ decimal n) ++ spaced ns

-- words, numbers and a line feed
abbrev pub words_line : List ℕ → List ℕ → List ℕ
words_line words numbers = words ++ spaced numbers ++ 10 ∷ []

-- the line of an answer; `Ended` and `Unformatted` have none
abbrev pub line_of : Answer → List ℕ
line_of (answers.BadFrame t) = words_line (codes "bad frame") (t ∷ [])
line_of (answers.Reboot n) = words_line (codes "reboot") (n ∷ [])
line_of (answers.BadManifest f) = words_line (codes "bad manifest") (f ∷ [])
line_of (answers.Stale c) = words_line (codes "stale") (c ∷ [])
line_of (answers.ManifestIs n h) = words_line (codes "manifest") (n ∷ h ∷ [])
line_of answers.NoManifest = words_line (codes "no manifest") []
line_of answers.BadPiece = words_line (codes "bad piece") []
line_of (answers.Held k) = words_line (codes "held") (k ∷ [])
line_of (answers.Piece k p) = words_line (codes "piece") (k ∷ p ∷ [])
line_of (answers.Linked n) = words_line (codes "linked") (n ∷ [])
line_of (answers.Missing k) = words_line (codes "missing") (k ∷ [])
line_of (answers.BadPackage k f) = words_line (codes "bad package") (k ∷ f ∷ [])
line_of (answers.Flash t) = words_line (codes "flash") (t ∷ [])
line_of (answers.Ram t) = words_line (codes "ram") (t ∷ [])
line_of (answers.Symbols n) = words_line (codes "symbols") (n ∷ [])
line_of (answers.Relocations n) = words_line (codes "relocations") (n ∷ [])
line_of (answers.Duplicate s i j) = words_line (codes "duplicate") (s ∷ i ∷ j ∷ [])
line_of (answers.Undefined k r s) = words_line (codes "undefined") (k ∷ r ∷ s ∷ [])
line_of (answers.Range k r c) = words_line (codes "range") (k ∷ r ∷ c ∷ [])
line_of (answers.Committed n) = words_line (codes "committed") (n ∷ [])
line_of answers.NotLinked = words_line (codes "not linked") []
line_of (answers.Booted n) = words_line (codes "booted") (n ∷ [])
line_of (answers.Status c n s) = words_line (codes "status") (c ∷ n ∷ s ∷ [])
line_of answers.Aborted = words_line (codes "aborted") []
line_of answers.Ended = []
line_of answers.Unformatted = []
