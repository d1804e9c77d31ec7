-- The two parts of a target.
use Rattle.std.specs.Prelude.{ℕ, ◌+◌, ◌==◌, List, take, drop, Option, Some, None}
use Rattle.std.specs.List.{position}

-- what stands before the mark, or all
abbrev pub before : Option ℕ → List ℕ → List ℕ
before None target = target
before (Some at) target = take at target

-- what stands after the mark, if there is one
abbrev pub behind : Option ℕ → List ℕ → Option (List ℕ)
behind None target = None
behind (Some at) target = Some (drop (at + 1) target)

-- the path is all before the first mark
abbrev pub path_of : List ℕ → List ℕ
path_of target = before (position (λ b. b == 63) target) target

-- the query is all after the first mark
abbrev pub query_of : List ℕ → Option (List ℕ)
query_of target = behind (position (λ b. b == 63) target) target
