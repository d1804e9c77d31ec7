-- What holds of the replies that are due.
use Rattle.std.specs.Prelude.{◌≡◌, ◌⊎◌, ℕ, List, ⊤}
use Rattle.httparse.specs.Grammar.{EndsInTarget}
use Rattle.http_requests.specs.Requests.{IsCut}
use Rattle.http_replies.specs.declared.status.Status.TheVariants.{ServiceUnavailable}
use Rattle.release_rows.specs.Tables.{Tables}
use Rattle.release_rows.specs.View.{Rose}
use Rattle.http_releases.specs.Responses.{Response, unavailable, no_memory}
use Rattle.http_releases.specs.Due.{IsDue}

-- the reply says that the keeper failed or that there was no memory
abbrev pub IsExcuse : Tables → Response → Type 0
IsExcuse t r = (r ≡ unavailable t) ⊎ (r ≡ no_memory t)

-- An input has one reply that is due, but for those two, whether or not the keeper failed. Where it is cut it has none but the second, unless
-- it ends inside its target.
pub record RepliesAgree : Type 0 where
  pub one : (input : List ℕ) (t : Tables) (r s : Response) → IsDue input t ⊤ r → IsDue input t ⊤ s → (r ≡ s) ⊎ (IsExcuse t r ⊎ IsExcuse t s)
  pub none : (input : List ℕ) (t : Tables) (r : Response) → IsCut input → IsDue input t ⊤ r → EndsInTarget input ⊎ (r ≡ no_memory t)

-- a reply with the status that the keeper failed is due only where its count of faults rose
abbrev pub UnavailableTells : Type 0
UnavailableTells = (input : List ℕ) (t : Tables) (before after : ℕ) (r : Response) → IsDue input t (Rose before after) r → r.status ≡ ServiceUnavailable → Rose before after
