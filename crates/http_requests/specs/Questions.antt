-- What a request asks. The tests come in the order in which they stand here.
use Rattle.std.specs.Prelude.{ℕ, List, ◌∷◌, ◌++◌, codes, Bool, bytes_eq, Option, Some, None, is_some, option_and_then, if◌then◌else◌}
use Rattle.sha2.specs.Sha256.{sha256}
use Rattle.http_paths.specs.Targets.{path_of, query_of}
use Rattle.http_paths.specs.Queries.{have_in}
use Rattle.http_paths.specs.Paths.{Asked, of_versions, of_releases, of_acknowledgements, of_update, of_mote, of_image, target_of}
use Rattle.http_requests.specs.Requests.{Request}
use Rattle.http_requests.specs.declared.asks.Posting.{Posting}
use Rattle.http_requests.specs.declared.asks.Posting.TheVariants.{Version, Release, Acknowledgement}
use Rattle.http_requests.specs.declared.asks.Asking.{Asking}
use Rattle.http_requests.specs.declared.asks.Asking.TheVariants.{NotFound, WrongMethod, Malformed, Post, Update, Mote, Image}

-- what a POST is for; its body isn't judged yet
pub data Purpose : Type 0 where
  for_version : (component : List ℕ) → Purpose
  for_release : (mote : List ℕ) → Purpose
  for_acknowledgement : (mote : List ℕ) → Purpose

-- what is asked: nothing that there is, by another method, or with a wrong query or key; else a POST with its key and its digest, or a GET
pub data Question : Type 0 where
  not_found wrong_method malformed : Question
  posts : (purpose : Purpose) (key digest : List ℕ) → Question
  gets_update : (mote : List ℕ) (have : ℕ) → Question
  gets_mote : (mote : List ℕ) → Question
  gets_image : (mote : List ℕ) (number : ℕ) → Question

-- what tells whether a key comes with the same POST again: SHA-256 of the path, a line's end and the body
abbrev pub digest_of : Request → List ℕ
digest_of q = sha256 (path_of q.target ++ 10 ∷ q.body)

abbrev pub is_get : Request → Bool
is_get q = bytes_eq q.method (codes "GET")

abbrev pub is_post : Request → Bool
is_post q = bytes_eq q.method (codes "POST")

abbrev pub has_query : Request → Bool
has_query q = is_some (query_of q.target)

-- a POST has its key
abbrev pub with_key : Purpose → Request → Option (List ℕ) → Question
with_key purpose q None = malformed
with_key purpose q (Some key) = posts purpose key (digest_of q)

-- and no query
abbrev pub as_post : Purpose → Request → Question
as_post purpose q = if is_post q then if has_query q then malformed else with_key purpose q q.key else wrong_method

-- a GET that takes no query
abbrev pub as_get : Question → Request → Question
as_get question q = if is_get q then if has_query q then malformed else question else wrong_method

-- a GET that takes `have=` and a number
abbrev pub with_have : List ℕ → Option ℕ → Question
with_have mote None = malformed
with_have mote (Some have) = gets_update mote have

abbrev pub as_update : List ℕ → Request → Question
as_update mote q = if is_get q then with_have mote (option_and_then have_in (query_of q.target)) else wrong_method

-- by what the path asks for
abbrev pub question_at : Option Asked → Request → Question
question_at None q = not_found
question_at (Some (of_versions component)) q = as_post (for_version component) q
question_at (Some (of_releases mote)) q = as_post (for_release mote) q
question_at (Some (of_acknowledgements mote)) q = as_post (for_acknowledgement mote) q
question_at (Some (of_update mote)) q = as_update mote q
question_at (Some (of_mote mote)) q = as_get (gets_mote mote) q
question_at (Some (of_image mote number)) q = as_get (gets_image mote number) q

-- what a request asks
abbrev pub question_of : Request → Question
question_of q = question_at (target_of (path_of q.target)) q

-- the purpose, and the question, that the code's values are
abbrev pub purpose_shown : Posting → Purpose
purpose_shown (Version component) = for_version component.now
purpose_shown (Release mote) = for_release mote.now
purpose_shown (Acknowledgement mote) = for_acknowledgement mote.now

abbrev pub shown : Asking → Question
shown NotFound = not_found
shown WrongMethod = wrong_method
shown Malformed = malformed
shown (Post posting key digest) = posts (purpose_shown posting) key.now digest
shown (Update mote have) = gets_update mote.now have
shown (Mote mote) = gets_mote mote.now
shown (Image mote number) = gets_image mote.now number
