-- What holds of each row holds of the one that is found.
use Rattle.std.proofs.Common.{ℕ, List, [], ◌∷◌, zero, suc, ◌-◌, Bool, true, false, cond, ◌==◌, ltb, length, Option, Some, None}
use Rattle.std.specs.Prelude.{IfSome}
use Rattle.matchit.specs.Rows.{RowsOf, param_token, catch_all_token}
use Rattle.matchit.specs.Seek.{own, step, or_else, with_suffix, longest_suffix, segment, same_text, has_slash, param_step, seek}

module _ {K : Type 0} (P : K → Type 0) where
  abbrev pub Each : RowsOf K → Type 0
  Each [] = Unit {0}
  Each ((t, key) ∷ rest) = P key × Each rest

  pub own_holds : (rs : RowsOf K) → Each rs → IfSome (own rs) P
  own_holds [] e = tt
  own_holds (([], key) ∷ rest) e = e.0
  own_holds ((x ∷ t, key) ∷ rest) e = own_holds rest e.1

  pub either_holds : (q : Bool) (xs ys : RowsOf K) → Each xs → Each ys → Each (cond q xs ys)
  either_holds true xs ys x y = x
  either_holds false xs ys x y = y

  pub step_holds : (b : ℕ) (rs : RowsOf K) → Each rs → Each (step b rs)
  step_holds b [] e = tt
  step_holds b (([], key) ∷ rest) e = step_holds b rest e.1
  step_holds b ((x ∷ t, key) ∷ rest) e =
      let more = step_holds b rest e.1 in
      either_holds (x == b) ((t, key) ∷ step b rest) (step b rest) (e.0, more) more

  pub suffix_holds : (suffix : List ℕ) (rs : RowsOf K) → Each rs → Each (with_suffix suffix rs)
  suffix_holds suffix [] e = tt
  suffix_holds suffix ((t, key) ∷ rest) e =
      let more = suffix_holds suffix rest e.1 in
      either_holds (same_text (segment t) suffix) ((t, key) ∷ with_suffix suffix rest) (with_suffix suffix rest) (e.0, more) more

  pub or_else_holds : (a b : Option K) → IfSome a P → IfSome b P → IfSome (or_else a b) P
  or_else_holds None b first second = second
  or_else_holds (Some key) b first second = first

  pub pair_holds : (q : Bool) (x y : ℕ × RowsOf K) → Each x.1 → Each y.1 → Each (cond {A = ℕ × RowsOf K} q x y).1
  pair_holds true x y first second = first
  pair_holds false x y first second = second

  pub param_holds : (rs : RowsOf K) (path : List ℕ) → Each rs → Each (param_step rs path).1
  unfolding param_step
  param_holds rs path e =
      let suffix = longest_suffix (segment path) rs in
      pair_holds (ltb 0 (length suffix)) (length (segment path) - length suffix, with_suffix suffix rs)
      (cond {A = ℕ × RowsOf K} (has_slash path) (0, []) (length path, rs)) (suffix_holds suffix rs e)
      (pair_holds (has_slash path) (0, []) (length path, rs) tt e)

  pub seek_holds : (skip : ℕ) (rs : RowsOf K) (path : List ℕ) → Each rs → IfSome (seek skip rs path) P
  unfolding seek
  seek_holds skip rs [] e = own_holds rs e
  seek_holds (suc skip) rs (b ∷ path) e = seek_holds skip rs path e
  seek_holds zero rs (b ∷ path) e =
      or_else_holds (seek 0 (step b rs) path) _ (seek_holds 0 (step b rs) path (step_holds b rs e))
      (or_else_holds _ (own (step catch_all_token rs))
      (seek_holds ((param_step (step param_token rs) (b ∷ path)).0 - 1) (param_step (step param_token rs) (b ∷ path)).1 path
      (param_holds (step param_token rs) (b ∷ path) (step_holds param_token rs e)))
      (own_holds (step catch_all_token rs) (step_holds catch_all_token rs e)))
