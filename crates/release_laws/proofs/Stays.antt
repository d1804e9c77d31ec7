-- What is stored stays.
use Rattle.std.proofs.Common.{◌≡◌, ℕ, ◌≤◌, Bool, true, false, cond, Option, Some, None, List, [], ◌∷◌, ◌++◌, refl, ap, subst, ◌∙◌, arith, bytes_eq, eqb, unwrap_or, le_trans, le_refl}
use Rattle.std.specs.Option.{option_or, option_map}
use Rattle.std.specs.List.{find}
use Rattle.std.proofs.lemmas.List.Folds.{find-append}
use Rattle.release_rows.specs.declared.row.SymbolRow.{SymbolRow}
use Rattle.release_rows.specs.declared.row.ComponentRow.{ComponentRow}
use Rattle.release_rows.specs.declared.row.VersionRow.{VersionRow}
use Rattle.release_rows.specs.declared.row.ReleaseRow.{ReleaseRow}
use Rattle.release_rows.specs.declared.row.AckRow.{AckRow}
use Rattle.release_rows.specs.declared.row.KeyRow.{KeyRow}
use Rattle.release_rows.specs.declared.command.Command.{Command}
use Rattle.release_rows.specs.declared.command.Command.TheVariants.{AddVersion, AddRelease, Acknowledge}
use Rattle.release_rows.specs.declared.change.Effect.{Effect}
use Rattle.release_rows.specs.declared.change.Effect.TheVariants as effects
use Rattle.release_rows.specs.Tables.{Tables, key_row, component_number, is_version, is_release, acknowledged}
use Rattle.release_rows.specs.Change.{with_component, with_ack, changed}
use Rattle.release_judging.specs.declared.judged.Judged.{Judged}
use Rattle.release_judging.specs.declared.judged.Judged.TheVariants as judgements
use Rattle.release_rules.specs.declared.decision.Decision.TheVariants as decisions
use Rattle.release_rules.specs.Deciding.{judged, body_of, settled, by_key}
use Rattle.release_rules.specs.Machine.{answered}
use Rattle.release_laws.specs.Posted.{tables_behind}
use Rattle.release_laws.specs.Keys.{tables_after}
use Rattle.release_laws.specs.Stays.{Stays, RowsStay}
use Rattle.release_laws.proofs.Lists.{bytes_are, found_still}
use Rattle.release_laws.proofs.Acks.{ack_does}
use Rattle.release_laws.proofs.Releases.{release_does}
use Rattle.release_laws.proofs.Taken.{taken}

-- ---- a mote's word

abbrev said : List ℕ → List AckRow → ℕ
said x rs = unwrap_or (option_map (λ r. r.number) (find (λ r. bytes_eq x r.mote) rs)) 0

word_stays : (x mote : List ℕ) (n : ℕ) (rs : List AckRow) → said mote rs ≤ n → said x rs ≤ said x (with_ack rs mote n)
word_stays x mote n [] low = omega arith
word_stays x mote n (r ∷ rs) low = from (bytes_eq mote r.mote) refl low (λ low. word_stays x mote n rs low)
  where
    pick : Bool → AckRow → List AckRow → ℕ
    pick b s ss = unwrap_or (option_map (λ (a : AckRow). a.number) (cond b (Some s) (find (λ (a : AckRow). bytes_eq x a.mote) ss))) 0

    taken_by : (b : Bool) → r.number ≤ n → pick b r rs ≤ pick b (record { mote = mote; number = n }) rs
    taken_by true le = le
    taken_by false le = le_refl (said x rs)

    passed_by : (b : Bool) → said x rs ≤ said x (with_ack rs mote n) → pick b r rs ≤ pick b r (with_ack rs mote n)
    passed_by true le = le_refl r.number
    passed_by false le = le

    from : (b : Bool) → bytes_eq mote r.mote ≡ b → unwrap_or (option_map (λ (a : AckRow). a.number) (cond b (Some r) (find (λ (a : AckRow). bytes_eq mote a.mote) rs))) 0 ≤ n
        → (said mote rs ≤ n → said x rs ≤ said x (with_ack rs mote n)) → said x (r ∷ rs) ≤ said x (cond b (record { mote = mote; number = n } ∷ rs) (r ∷ with_ack rs mote n))
    from true is low later =
        subst (λ (m : List ℕ). pick (bytes_eq x m) r rs ≤ pick (bytes_eq x mote) (record { mote = mote; number = n }) rs) (bytes_are mote r.mote is) (taken_by (bytes_eq x mote) low)
    from false is low later = passed_by (bytes_eq x r.mote) (later low)

-- ---- an effect

components_still : (t : Tables) (name : List ℕ) (number : ℕ) (o : Option ℕ) (p : ComponentRow → Bool) {Y : Type 0} (f : ComponentRow → Y) (y : Y) → option_map f (find p t.components) ≡ Some y
    → option_map f (find p (with_component t.components o name number)) ≡ Some y
components_still t name number (Some k) p f y e = e
components_still t name number None p f y e = found_still f p t.components (record { number = number; name = name } ∷ []) y e

key_still : (t : Tables) (key : KeyRow) (x : List ℕ) (row : KeyRow) → key_row t x ≡ Some row → find (λ (r : KeyRow). bytes_eq x r.key) (t.keys ++ key ∷ []) ≡ Some row
key_still t key x row is = find-append (λ (r : KeyRow). bytes_eq x r.key) t.keys (key ∷ []) ∙ ap (λ (o : Option KeyRow). option_or o (find (λ (r : KeyRow). bytes_eq x r.key) (key ∷ []))) is

-- a word that is not below the one before
abbrev IsForward : Tables → Effect → Type 0
IsForward t e = (mote : List ℕ) (n : ℕ) → e ≡ effects.Ack mote n → acknowledged t mote ≤ n

effect_stays : (t : Tables) (key : KeyRow) (e : Effect) → IsForward t e → Stays t (changed t (record { effect = e; key = key }))
effect_stays t key (effects.Version name component version symbols bytes) forward = record {
  symbols = λ x k is. found_still (λ (r : SymbolRow). r.number) (λ (r : SymbolRow). bytes_eq x r.name) t.symbols symbols k is;
  components = λ x k is. components_still t name component (component_number t name) (λ (r : ComponentRow). bytes_eq x r.name) (λ (r : ComponentRow). r.number) k is;
  names = λ k x is. components_still t name component (component_number t name) (λ (r : ComponentRow). eqb r.number k) (λ (r : ComponentRow). r.name) x is;
  packages = λ c v b is. found_still (λ (r : VersionRow). r.bytes) (is_version c v) t.versions (record { component = component; version = version; bytes = bytes } ∷ []) b is;
  releases = λ m n ps is. is;
  keys = key_still t key;
  words = λ m. le_refl (acknowledged t m);
}
effect_stays t key (effects.Release mote number parts) forward = record {
  symbols = λ x k is. is;
  components = λ x k is. is;
  names = λ k x is. is;
  packages = λ c v b is. is;
  releases = λ m n ps is. found_still (λ (r : ReleaseRow). r.parts) (is_release m n) t.releases (record { mote = mote; number = number; parts = parts } ∷ []) ps is;
  keys = key_still t key;
  words = λ m. le_refl (acknowledged t m);
}
effect_stays t key (effects.Ack mote n) forward = record {
  symbols = λ x k is. is;
  components = λ x k is. is;
  names = λ k x is. is;
  packages = λ c v b is. is;
  releases = λ m number ps is. is;
  keys = key_still t key;
  words = λ m. word_stays m mote n t.acks (forward mote n refl);
}

-- what the rules take is forward
forward : (t : Tables) (c : Command) (e : Effect) → judged t c ≡ judgements.Does e → IsForward t e
forward t (AddVersion name file) e is = let it = taken t name file e is in λ m n ack. absurd (not_ack _ _ _ _ _ m n (it.effect ∙ ack))
  where
    not_ack : (name : List ℕ) (component version : ℕ) (symbols : List SymbolRow) (b m : List ℕ) (n : ℕ) → effects.Version name component version symbols b ≡ effects.Ack m n → ⊥
    not_ack name component version symbols b m n e = absurd cc
forward t (AddRelease mote parts) e is = release_does t mote parts (IsForward t) (λ ps it m n same. absurd cc) e is
forward t (Acknowledge mote release) e is = ack_does t mote release (IsForward t) (λ there low m n same. let a : mote ≡ m = cc in let b : release ≡ n = cc in subst (λ (x : List ℕ). acknowledged t x ≤ n) a (subst (λ (k : ℕ). acknowledged t mote ≤ k) b low)) e is

-- ---- a step

stays_same : (t : Tables) → Stays t t
stays_same t = record { symbols = λ x k is. is; components = λ x k is. is; names = λ k x is. is; packages = λ c v b is. is; releases = λ m n ps is. is; keys = λ x r is. is; words = λ m. le_refl (acknowledged t m) }

stays_on : (t u v : Tables) → Stays t u → Stays u v → Stays t v
stays_on t u v a b = record {
  symbols = λ x k is. b.symbols x k (a.symbols x k is);
  components = λ x k is. b.components x k (a.components x k is);
  names = λ k x is. b.names k x (a.names k x is);
  packages = λ c n bytes is. b.packages c n bytes (a.packages c n bytes is);
  releases = λ m n ps is. b.releases m n ps (a.releases m n ps is);
  keys = λ x r is. b.keys x r (a.keys x r is);
  words = λ m. le_trans (a.words m) (b.words m);
}

settled_stays : (t : Tables) (key digest : List ℕ) (c : Command) (j : Judged) → judged t c ≡ j → Stays t (answered (settled key digest j) t).tables
settled_stays t key digest c (judgements.Does e) is = effect_stays t (record { key = key; digest = digest; body = body_of e }) e (forward t c e is)
settled_stays t key digest c judgements.NoRow is = stays_same t
settled_stays t key digest c (judgements.Refused n vs) is = stays_same t

decided_stays : (t : Tables) (key digest : List ℕ) (c : Command) (o : Option KeyRow) → Stays t (answered (by_key o digest (settled key digest (judged t c))) t).tables
decided_stays t key digest c None = settled_stays t key digest c (judged t c) refl
decided_stays t key digest c (Some r) = from (bytes_eq digest r.digest)
  where
    from : (b : Bool) → Stays t (answered (cond b (decisions.Repeated r.body) (decisions.KeyTaken r.digest)) t).tables
    from true = stays_same t
    from false = stays_same t

pub rows_stay : RowsStay
rows_stay t [] = stays_same t
rows_stay t (p ∷ ps) = stays_on t (tables_behind t p) (tables_after (tables_behind t p) ps) (decided_stays t p.key p.digest p.command (key_row t p.key)) (rows_stay (tables_behind t p) ps)
