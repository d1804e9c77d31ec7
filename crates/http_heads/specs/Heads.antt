-- Heads of at most 8,192 bytes: whole, refused and cut.
use Rattle.std.specs.Prelude.{◌≡◌, ◌⊎◌, ◌<◌, ◌≤◌, ℕ, List, ◌++◌, length}
use Rattle.httparse.specs.Grammar.{RequestHead, print_request, ReadsRequest, HasNoRequest, NeverHasRequest, MayBecomeRequest}

-- These bytes hold no head, and there are 8,192 of them or no head can follow. What can follow is `httparse`'s grammar's, with no bound
-- on its length or its fields.
pub record IsRefusedHead (taken : List ℕ) : Type 0 where
  pub none : HasNoRequest taken
  pub why : (length taken ≡ 8192) ⊎ NeverHasRequest taken

-- These are fewer than 8,192 bytes that hold no head and may become one. Bytes that end inside the target pass here too, also where no head
-- can follow.
pub record IsCutHead (taken : List ℕ) : Type 0 where
  pub none : HasNoRequest taken
  pub open_still : MayBecomeRequest taken
  pub short : length taken < 8192

-- an input that begins with a head of at most 8,192 bytes
pub record HasHead (input : List ℕ) : Type 0 where
  pub head : RequestHead
  pub rest : List ℕ
  pub reads : ReadsRequest input head rest
  pub small : length (print_request head) ≤ 8192

-- an input that begins with bytes that are refused
pub record HasNoHead (input : List ℕ) : Type 0 where
  pub taken : List ℕ
  pub after : List ℕ
  pub is : input ≡ taken ++ after
  pub refused : IsRefusedHead taken
