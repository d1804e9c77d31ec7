-- A key acts once.
use Rattle.std.proofs.Common.{◌≡◌, ℕ, Bool, true, false, cond, Option, Some, None, List, [], ◌∷◌, refl, sym, ap, ◌∙◌, bytes_eq}
use Rattle.std.specs.Option.{option_or}
use Rattle.std.specs.List.{find}
use Rattle.std.proofs.lemmas.List.Folds.{find-append}
use Rattle.release_rows.specs.declared.row.KeyRow.{KeyRow}
use Rattle.release_rows.specs.declared.change.Change.{Change}
use Rattle.release_rows.specs.Tables.{Tables, key_row}
use Rattle.release_rows.specs.Change.{changed}
use Rattle.release_judging.specs.declared.judged.Judged.{Judged}
use Rattle.release_judging.specs.declared.judged.Judged.TheVariants as judgements
use Rattle.release_rules.specs.declared.decision.Decision.{Decision}
use Rattle.release_rules.specs.declared.decision.Decision.TheVariants.{Accepted, Repeated, KeyTaken, NoRow, Refused}
use Rattle.release_rules.specs.Deciding.{judged, body_of, settled, by_key}
use Rattle.release_rules.specs.Machine.{answered}
use Rattle.release_laws.specs.Posted.{Posted, decision, tables_behind}
use Rattle.release_laws.specs.Keys.{tables_after, KeysActOnce}
use Rattle.release_laws.proofs.Lists.{same_bytes}

-- ---- a key's row stays

row_behind : (t : Tables) (key : List ℕ) (row : KeyRow) → key_row t key ≡ Some row → (d : Decision) → key_row (answered d t).tables key ≡ Some row
row_behind t key row is (Accepted c) = find-append (λ (r : KeyRow). bytes_eq key r.key) t.keys (c.key ∷ []) ∙ ap (λ (o : Option KeyRow). option_or o (find (λ (r : KeyRow). bytes_eq key r.key) (c.key ∷ []))) is
row_behind t key row is (Repeated body) = is
row_behind t key row is (KeyTaken digest) = is
row_behind t key row is NoRow = is
row_behind t key row is (Refused n vs) = is

row_after : (t : Tables) (key : List ℕ) (row : KeyRow) → key_row t key ≡ Some row → (ps : List Posted) → key_row (tables_after t ps) key ≡ Some row
row_after t key row is [] = is
row_after t key row is (p ∷ ps) = row_after (tables_behind t p) key row (row_behind t key row is (decision t p)) ps

-- ---- the row of an accepted command

-- what is accepted came under a new key, with this row
record IsFirst (t : Tables) (key digest : List ℕ) (c : Change) : Type 0 where
  new : key_row t key ≡ None
  key_is : c.key.key ≡ key
  digest_is : c.key.digest ≡ digest

accepted_same : (x c : Change) → Accepted x ≡ Accepted c → x ≡ c
accepted_same x c e = cc

first_from : (t : Tables) (key digest : List ℕ) (j : Judged) (c : Change) (o : Option KeyRow) → key_row t key ≡ o → by_key o digest (settled key digest j) ≡ Accepted c → IsFirst t key digest c
first_from t key digest (judgements.Does e) c None is accepted =
    let same : record { effect = e; key = record { key = key; digest = digest; body = body_of e } } ≡ c = accepted_same (record { effect = e; key = record { key = key; digest = digest; body = body_of e } }) c accepted in
    record { new = is; key_is = ap (λ (x : Change). x.key.key) (sym same); digest_is = ap (λ (x : Change). x.key.digest) (sym same) }
first_from t key digest judgements.NoRow c None is accepted = absurd cc
first_from t key digest (judgements.Refused n vs) c None is accepted = absurd cc
first_from t key digest j c (Some row) is accepted = absurd (from (bytes_eq digest row.digest) accepted)
  where
    from : (b : Bool) → cond b (Repeated row.body) (KeyTaken row.digest) ≡ Accepted c → ⊥
    from true e = absurd cc
    from false e = absurd cc

first_row : (t : Tables) (key digest : List ℕ) (c : Change) → IsFirst t key digest c → key_row (changed t c) key ≡ Some c.key
first_row t key digest c is =
    find-append (λ (r : KeyRow). bytes_eq key r.key) t.keys (c.key ∷ []) ∙ ap (λ (o : Option KeyRow). option_or o (find (λ (r : KeyRow). bytes_eq key r.key) (c.key ∷ []))) is.new
    ∙ ap (λ (b : Bool). cond b (Some c.key) None) (ap (λ (k : List ℕ). bytes_eq key k) is.key_is ∙ same_bytes key)

-- ---- and so it acts once

repeated : (t : Tables) (row : KeyRow) (q : Posted) → key_row t q.key ≡ Some row → tables_behind t q ≡ t
repeated t row q is = ap (λ (o : Option KeyRow). (answered (by_key o q.digest (settled q.key q.digest (judged t q.command))) t).tables) is ∙ from (bytes_eq q.digest row.digest)
  where
    from : (b : Bool) → (answered (cond b (Repeated row.body) (KeyTaken row.digest)) t).tables ≡ t
    from true = refl
    from false = refl

again : (t : Tables) (row : KeyRow) (q : Posted) → key_row t q.key ≡ Some row → q.digest ≡ row.digest → decision t q ≡ Repeated row.body
again t row q is same =
    ap (λ (o : Option KeyRow). by_key o q.digest (settled q.key q.digest (judged t q.command))) is
    ∙ ap (λ (b : Bool). cond b (Repeated row.body) (KeyTaken row.digest)) (ap (λ (d : List ℕ). bytes_eq d row.digest) same ∙ same_bytes row.digest)

pub keys_act_once : KeysActOnce
keys_act_once t p c since accepted =
    let first = first_from t p.key p.digest (judged t p.command) c (key_row t p.key) refl accepted in
    let next : key_row (tables_behind t p) p.key ≡ Some c.key = ap (λ (d : Decision). key_row (answered d t).tables p.key) accepted ∙ first_row t p.key p.digest c first in
    let later : (q : Posted) → q.key ≡ p.key → key_row (tables_after (tables_behind t p) since) q.key ≡ Some c.key =
    λ q same. ap (λ (k : List ℕ). key_row (tables_after (tables_behind t p) since) k) same ∙ row_after (tables_behind t p) p.key c.key next since in
    record {
      once = λ q same. repeated (tables_after (tables_behind t p) since) c.key q (later q same);
      again = λ q same digest. again (tables_after (tables_behind t p) since) c.key q (later q same) (digest ∙ sym first.digest_is);
    }
