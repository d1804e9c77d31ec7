-- The values of one name as the code keeps them.
use Rattle.std.specs.Prelude.{◌≡◌, ◌≤◌, ℕ, List, [], ◌∷◌, length}
use Rattle.http_heads.specs.declared.fields.Found.{Found}
use Rattle.http_heads.specs.declared.fields.Found.TheVariants.{Nothing, One, Several}

-- no value, this one, or two and more
abbrev pub Finds : Found → List (List ℕ) → Type 0
Finds Nothing values = values ≡ []
Finds (One value) values = values ≡ value.now ∷ []
Finds Several values = 2 ≤ length values
