-- The headline's lines, spelled out.
use Rattle.std.proofs.Common.{◌≡◌, ℕ, List, [], ◌∷◌, ◌++◌, decimal, refl, sym, ap, inl}
use Rattle.std.specs.Prelude.{codes}
use Rattle.std.proofs.lemmas.List.{append-nil}
use Rattle.component_package.specs.mote.Lines.{line_of}
use Rattle.component_package.specs.declared.answer.Answer.TheVariants.{Committed, Booted}
use Rattle.kept_laws.specs.LineRows.{number_line, LinesCount}

-- the number, and a line feed
ends : (n : ℕ) → decimal n ++ 10 ∷ [] ≡ (decimal n ++ []) ++ 10 ∷ []
ends n = ap (λ (ds : List ℕ). ds ++ 10 ∷ []) (sym (append-nil (decimal n)))

-- the line of a boot
booted_line : (n : ℕ) → number_line (codes "booted ") n ≡ line_of (Booted n)
booted_line n = ap (λ (ds : List ℕ). codes "booted " ++ ds) (ends n)

-- of a commit
committed_line : (n : ℕ) → number_line (codes "committed ") n ≡ line_of (Committed n)
committed_line n = ap (λ (ds : List ℕ). codes "committed " ++ ds) (ends n)

pub lines_count : LinesCount
lines_count = record {
  committed = λ history x n more c kept chooses.
      kept.committed n (record { before = []; behind = more; lines = inl refl; is = ap (λ (line : List ℕ). line ++ more) (committed_line n) }) c chooses;
  booted = λ history x n kept. kept.booted n (record { before = []; lines = inl refl; is = booted_line n });
  always = λ history x sent kept. (kept.sound, kept.chosen);
}
