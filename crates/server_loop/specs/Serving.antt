-- What a server does, from its words to its status.
use Rattle.std.specs.Prelude.{◌≡◌, ◌<◌, ◌⊎◌, ◌++◌, ℕ, List, length, Some}
use Rattle.http_listeners.specs.Listener.{ConnView, ListenerView}
use Rattle.release_rows.specs.Tables.{Tables}
use Rattle.release_rows.specs.View.{View}
use Rattle.server_words.specs.Words.{Asks}
use Rattle.server_loop.specs.Served.{AreServed}

-- over these inputs to come, finished connections and tables: so many connections are those of the first inputs, each was served, and they are
-- the last finished ones, in their order
pub record ServesFrom (count : ℕ) (inputs : List (List ℕ)) (finished : List ConnView) (l1 : ListenerView) (k0 k1 : View) : Type 0 where
  pub busy : ℕ
  pub taken : List (List ℕ)
  pub rest : List (List ℕ)
  pub conns : List ConnView
  pub first : inputs ≡ taken ++ rest
  pub to_come : l1.inputs ≡ Some rest
  pub last : l1.finished ≡ Some (finished ++ conns)
  pub many : length conns ≡ count
  pub served : AreServed busy taken conns k0 k1

-- the same, where the listener tells its lists and the keeper its tables
abbrev pub Serves : ℕ → ListenerView → ListenerView → View → View → Type 0
Serves count l0 l1 k0 k1 = (inputs : List (List ℕ)) → l0.inputs ≡ Some inputs → (finished : List ConnView) → l0.finished ≡ Some finished
    → (t : Tables) → k0.tables ≡ Some t → ServesFrom count inputs finished l1 k0 k1

-- as many connections as the words ask for were served
pub record ServesAll (words : List (List ℕ)) (l0 l1 : ListenerView) (k0 k1 : View) : Type 0 where
  pub count : ℕ
  pub asked : Asks words count
  pub serves : Serves count l0 l1 k0 k1

-- fewer than the words ask for were served
pub record ServesFewer (words : List (List ℕ)) (l0 l1 : ListenerView) (k0 k1 : View) : Type 0 where
  pub count : ℕ
  pub asked : Asks words count
  pub done : ℕ
  pub fewer : done < count
  pub serves : Serves done l0 l1 k0 k1

-- neither the listener nor the keeper was called
pub record IsUntouched (l0 l1 : ListenerView) (k0 k1 : View) : Type 0 where
  pub listener : l1 ≡ l0
  pub keeper : k1 ≡ k0

-- served; no memory; the listener failed; words that are refused
abbrev pub IsStatus : ℕ → Type 0
IsStatus status = (status ≡ 0) ⊎ (status ≡ 1) ⊎ (status ≡ 5) ⊎ (status ≡ 64)
