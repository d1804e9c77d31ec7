-- The replies that an input may have over tables.
use Rattle.std.specs.Prelude.{◌≡◌, ℕ, List}
use Rattle.http_heads.specs.Heads.{HasNoHead}
use Rattle.http_requests.specs.Requests.{Request, IsRequest, IsBadHead, IsLarge}
use Rattle.http_requests.specs.Questions.{question_of}
use Rattle.release_rows.specs.Tables.{Tables}
use Rattle.http_releases.specs.Responses.{Response, bad_request, large_body, unavailable, no_memory, Answers, AsksKeeper}

-- A reply may come for what the input is: bytes without a head, a head whose fields break a rule, a body that is too large, or a request with
-- its answer. In place of an answer that the keeper is asked for, it may come that the keeper failed, where `failed` says that it did. Want of
-- memory may come in place of each.
pub data IsDue (input : List ℕ) (t : Tables) (failed : Type 0) (r : Response) : Type 0 where
  of_no_head : HasNoHead input → r ≡ bad_request t → IsDue input t failed r
  of_bad_head : IsBadHead input → r ≡ bad_request t → IsDue input t failed r
  of_large : IsLarge input → r ≡ large_body t → IsDue input t failed r
  of_request : (q : Request) → IsRequest input q → Answers (question_of q) q.body t r → IsDue input t failed r
  of_failure : (q : Request) → IsRequest input q → AsksKeeper (question_of q) → failed → r ≡ unavailable t → IsDue input t failed r
  of_no_memory : r ≡ no_memory t → IsDue input t failed r
