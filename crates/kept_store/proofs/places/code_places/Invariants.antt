use Rattle.std.proofs.Common.{◌≡◌, ◌*◌, ◌≤◌, ◌<◌, ℕ, length, take, get_or}
use Rattle.std.specs.List.{sum_by}
use Rattle.kept_store.proofs.places.code_places.Given as goal

abbrev pub invariant-loop-k : goal.invariant-loop-k
invariant-loop-k l = record {
  room : length l.at ≡ 16;
  at : (j : ℕ) → j < l.k → get_or l.at j 0 ≡ sum_by (λ h. h.code) (take j l.headers);
  sum : l.end ≡ sum_by (λ h. h.code) (take l.k l.headers);
  low : l.end ≤ 65535 * l.k;
}
