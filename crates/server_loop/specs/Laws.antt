-- What holds of connections that were served.
use Rattle.std.specs.Prelude.{◌≤◌, ◌<◌, ◌+◌, ◌-◌, ◌^◌, ℕ, List}
use Rattle.http_listeners.specs.Listener.{ConnView}
use Rattle.release_rows.specs.View.{View}
use Rattle.server_loop.specs.Served.{AreServed}

-- unless the keeper's count stands at its last value, no more connections are answered that the keeper failed than that count rose by
abbrev pub FailuresAreCounted : Type 0
FailuresAreCounted = (busy : ℕ) (inputs : List (List ℕ)) (conns : List ConnView) (k0 k1 : View) → AreServed busy inputs conns k0 k1
    → k1.faults < 2 ^ 64 - 1 → k0.faults + busy ≤ k1.faults
