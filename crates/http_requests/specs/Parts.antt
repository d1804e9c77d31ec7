-- A request of its parts.
use Rattle.std.specs.Prelude.{ℕ, List, option_map}
use Rattle.http_requests.specs.Requests.{Request}
use Rattle.http_requests.specs.declared.asks.Parts.{Parts}

-- what a head says, and the body
abbrev pub request_of : Parts → List ℕ → Request
request_of parts body = record {
  method = parts.method.now;
  target = parts.target.now;
  key = option_map (λ key. key.now) parts.key;
  body = body;
}
