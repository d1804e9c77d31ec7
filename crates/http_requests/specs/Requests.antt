-- What an input is: a request, a refused one, or one that its source cut.
use Rattle.std.specs.Prelude.{◌≡◌, ◌<◌, ◌≤◌, ℕ, List, ◌++◌, length, map, Option}
use Rattle.httparse.specs.Grammar.{RequestHead, print_request, ReadsRequest}
use Rattle.httparse.specs.Spans.{name_and_value}
use Rattle.http_heads.specs.Heads.{HasNoHead, IsCutHead}
use Rattle.http_heads.specs.Fields.{key_of}
use Rattle.http_heads.specs.Lengths.{body_length_of}
use Rattle.http_heads.specs.declared.fields.BodyLength.{BodyLength}
use Rattle.http_heads.specs.declared.fields.BodyLength.TheVariants.{Bytes, TooLarge, Bad}

-- a request: its method, its target, its key where it has a right one, and its body
pub record Request : Type 0 where
  pub method : List ℕ
  pub target : List ℕ
  pub key : Option (List ℕ)
  pub body : List ℕ

-- how long the body is by the fields of a head
abbrev pub length_by : RequestHead → BodyLength
length_by head = body_length_of (map name_and_value head.fields)

-- the input begins with this head, which has at most 8,192 bytes
pub record Begins (input : List ℕ) (head : RequestHead) (rest : List ℕ) : Type 0 where
  pub reads : ReadsRequest input head rest
  pub small : length (print_request head) ≤ 8192

-- the input begins with a request: its head, and then so many bytes of body as the head says
pub record IsRequest (input : List ℕ) (q : Request) : Type 0 where
  pub head : RequestHead
  pub rest : List ℕ
  pub after : List ℕ
  pub begins : Begins input head rest
  pub length_is : length_by head ≡ Bytes (length q.body)
  pub body_is : rest ≡ q.body ++ after
  pub method_is : q.method ≡ head.method
  pub target_is : q.target ≡ head.target
  pub key_is : q.key ≡ key_of (map name_and_value head.fields)

-- the input begins with a head whose fields break a rule
pub record IsBadHead (input : List ℕ) : Type 0 where
  pub head : RequestHead
  pub rest : List ℕ
  pub begins : Begins input head rest
  pub bad : length_by head ≡ Bad

-- the input begins with a head that says a body of more than 262,144 bytes
pub record IsLarge (input : List ℕ) : Type 0 where
  pub head : RequestHead
  pub rest : List ℕ
  pub begins : Begins input head rest
  pub large : length_by head ≡ TooLarge

-- the input begins with a head and has fewer bytes of body than the head says
pub record IsCutBody (input : List ℕ) : Type 0 where
  pub head : RequestHead
  pub rest : List ℕ
  pub count : ℕ
  pub begins : Begins input head rest
  pub length_is : length_by head ≡ Bytes count
  pub short : length rest < count

-- the input ends before its request does, in its head or in its body
pub data IsCut (input : List ℕ) : Type 0 where
  in_head : IsCutHead input → IsCut input
  in_body : IsCutBody input → IsCut input

-- what an input may be
pub data Kind : Type 0 where
  no_head bad_head too_large cut : Kind
  request : Request → Kind

-- what is said of an input by its kind
abbrev pub IsOfKind : List ℕ → Kind → Type 0
IsOfKind input no_head = HasNoHead input
IsOfKind input bad_head = IsBadHead input
IsOfKind input too_large = IsLarge input
IsOfKind input cut = IsCut input
IsOfKind input (request q) = IsRequest input q
