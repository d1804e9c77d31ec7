-- How the code of a component is drawn, instruction by instruction.
use Rattle.std.specs.Prelude.{ℕ}
use Rattle.drawn_releases.specs.declared.code.Instruction.{Instruction}
use Rattle.drawn_releases.specs.declared.code.Instruction.TheVariants.{Word, Call}

-- how many words an instruction takes
abbrev pub width_of : Instruction → ℕ
width_of (Word w) = 1
width_of (Call symbol) = 2
