-- Sessions one after another.
use Rattle.std.proofs.Common.{◌≡◌, ◌⊎◌, inl, inr, ⊎_elim, ℕ, ◌<◌, ◌≤◌, List, [], ◌∷◌, refl, sym, subst, arith, Contains}
use Rattle.std.proofs.lemmas.List.Elements.{Contains-append_left, Contains-append_right, Contains-append_cases, Contains-push_cases}
use Rattle.component_package.specs.declared.answer.Answer.TheVariants.{Committed, Booted}
use Rattle.component_package.specs.link.Pages.{IsPages}
use Rattle.kept_definitions.specs.Sound.{IsSound}
use Rattle.component_package.specs.mote.Lines.{line_of}
use Rattle.component_package.specs.mote.Headline.{Shown, HasLine, EndsWithLine}
use Rattle.kept_definitions.specs.Headline.{shown_parts, StandsFor, Chooses}
use Rattle.kept_definitions.specs.Machine.{Mote, session_commits}
use Rattle.kept_definitions.specs.Kept.{Chosen}
use Rattle.kept_laws.specs.Runs.{ReleasesRise}
use Rattle.kept_laws.proofs.MachineRuns.{commits_rise}
use Rattle.kept_laws.proofs.Stands.{parts_stand_for_one}
use Rattle.kept_sessions.proofs.Rising.{sound_rises}
use Rattle.kept_sessions.specs.Chains.{Session, StartsFrom, left_by, commits_of_all, IsChained, SessionsChain}

-- an element is the first or one of the others
is_first_or_other : {X : Type 0} → (x : X) (xs : List X) (y : X) → Contains (x ∷ xs) y → (y ≡ x) ⊎ Contains xs y
is_first_or_other x xs y has = ⊎_elim
    (λ here. ⊎_elim (λ none. absurd (let few = none.1 in omega arith)) (λ same. inl (sym same)) (Contains-push_cases [] x y here))
    (λ there. inr there)
    (Contains-append_cases (x ∷ []) xs y has)

-- releases that rise from a number on are above it
all_rise : (low : ℕ) (cs : List Chosen) (c : Chosen) → ReleasesRise low cs → Contains cs c → low < c.release.number
all_rise low [] c rise has = absurd (let few = has.1 in omega arith)
all_rise low (d ∷ cs) c rise has = ⊎_elim
    (λ here. subst (λ (e : Chosen). low < e.release.number) (sym here) rise.0)
    (λ there. let above = all_rise d.release.number cs c rise.1 there in let first = rise.0 in omega arith)
    (is_first_or_other d cs c has)

-- ---- one session, and then others

module _ (s : Mote) (x : Shown) (r : Session) (sound : IsSound (shown_parts x)) (stands : StandsFor (shown_parts x) s) (starts : StartsFrom x r) where
  -- the session began with the mote that its start stands for
  begins : r.mote ≡ s
  begins = parts_stand_for_one.one (shown_parts x) r.mote s starts.stands stands

  -- the mote after it
  abbrev next : (t : Mote) × StandsFor (shown_parts r.last) t
  next = parts_stand_for_one.some (shown_parts r.last) starts.kept.sound

  -- boots the set before the session or one that it committed
  next_has : Contains (s.current ∷ session_commits r.mote r.frames) next.0.current
  next_has =
      let (c, has, chooses) = starts.kept.chosen in
      let same : c ≡ next.0.current = parts_stand_for_one.choice (shown_parts r.last) c next.0.current chooses next.1.current in
      subst (Contains (s.current ∷ session_commits r.mote r.frames)) same
      (subst (λ (m : Mote). Contains (m.current ∷ session_commits r.mote r.frames) c) begins has)

  next_rises : s.current.release.number ≤ next.0.current.release.number
  next_rises = ⊎_elim
      (λ (same : next.0.current ≡ s.current). subst (λ (c : Chosen). s.current.release.number ≤ c.release.number) (sym same) (omega arith))
      (λ has. let above = all_rise s.current.release.number (session_commits r.mote r.frames) next.0.current
      (subst (λ (m : Mote). ReleasesRise m.current.release.number (session_commits r.mote r.frames)) begins
      (commits_rise.commits r.mote r.frames (sound_rises (shown_parts x) r.mote sound starts.stands))) has in omega arith)
      (is_first_or_other s.current (session_commits r.mote r.frames) next.0.current next_has)

  module _ (rs : List Session) (last : Shown) (rest : IsChained next.0 rs last) where
    abbrev all : List Chosen
    all = commits_of_all (r ∷ rs)

    -- what the others boot
    next_in : Contains (s.current ∷ all) next.0.current
    next_in = Contains-append_left (s.current ∷ session_commits r.mote r.frames) (commits_of_all rs) next.0.current next_has

    other_in : (c : Chosen) → Contains (commits_of_all rs) c → Contains (s.current ∷ all) c
    other_in c has = Contains-append_right (s.current ∷ session_commits r.mote r.frames) (commits_of_all rs) c has

    later_in : (c : Chosen) → (c ≡ next.0.current) ⊎ Contains (commits_of_all rs) c → Contains (s.current ∷ all) c
    later_in c (inl here) = subst (λ (d : Chosen). Contains (s.current ∷ all) d) (sym here) next_in
    later_in c (inr there) = other_in c there

    later_has : (c : Chosen) → Contains (next.0.current ∷ commits_of_all rs) c → Contains (s.current ∷ all) c
    later_has c has = later_in c (is_first_or_other next.0.current (commits_of_all rs) c has)

    here_in : (c : Chosen) → Contains (r.mote.current ∷ session_commits r.mote r.frames) c → Contains (s.current ∷ all) c
    here_in c has = Contains-append_left (s.current ∷ session_commits r.mote r.frames) (commits_of_all rs) c
        (subst (λ (m : Mote). Contains (m.current ∷ session_commits r.mote r.frames) c) begins has)

    -- what is known of a boot that answered
    abbrev Booting : Session → ℕ → Type 0
    Booting q n = (c : Chosen) × Contains (s.current ∷ all) c × (c.release.number ≡ n) × IsPages c.set q.last.prog

    booted_here : (n : ℕ) → EndsWithLine (line_of (Booted n)) r.sent → Booting r n
    booted_here n ends = let (c, has, number, pages) = starts.kept.booted n ends in (c, here_in c has, number, pages)

    booted_there : (q : Session) (n : ℕ) → Contains rs q → EndsWithLine (line_of (Booted n)) q.sent → Booting q n
    booted_there q n has ends = let (c, in_history, number, pages) = rest.booted q n has ends in (c, later_has c in_history, number, pages)

    booted_any : (q : Session) (n : ℕ) → (q ≡ r) ⊎ Contains rs q → EndsWithLine (line_of (Booted n)) q.sent → Booting q n
    booted_any q n (inl here) ends =
        subst (λ (p : Session). Booting p n) (sym here) (booted_here n (subst (λ (p : Session). EndsWithLine (line_of (Booted n)) p.sent) here ends))
    booted_any q n (inr there) ends = booted_there q n there ends

    -- the release after this session, and so each later one, is at least one that was committed
    at_least : (n : ℕ) → HasLine (line_of (Committed n)) r.sent → (c : Chosen) → Chooses (shown_parts last) c → n ≤ c.release.number
    at_least n line c chooses =
        let here = starts.kept.committed n line next.0.current next.1.current in
        let there = rest.rises c chooses in
        omega arith

    pub follows_on : IsChained s (r ∷ rs) last
    follows_on = record {
      sound = rest.sound;
      chosen = let (c, has, chooses) = rest.chosen in (c, later_has c has, chooses);
      rises = λ c chooses. let there = rest.rises c chooses in let here = next_rises in omega arith;
      committed = λ q n has line c chooses. ⊎_elim
          (λ here. at_least n (subst (λ (p : Session). HasLine (line_of (Committed n)) p.sent) here line) c chooses)
          (λ there. rest.committed q n there line c chooses)
          (is_first_or_other r rs q has);
      booted = λ q n has ends. booted_any q n (is_first_or_other r rs q has) ends;
    }

-- ---- any number of them

pub sessions_chain : SessionsChain
sessions_chain s x [] sound stands none = record {
  sound = sound;
  chosen = (s.current, (0, omega arith, refl), stands.current);
  rises = λ c chooses. subst (λ (d : Chosen). s.current.release.number ≤ d.release.number)
      (parts_stand_for_one.choice (shown_parts x) s.current c stands.current chooses) (omega arith);
  committed = λ r n has. absurd (let few = has.1 in omega arith);
  booted = λ r n has. absurd (let few = has.1 in omega arith);
}
sessions_chain s x (r ∷ rs) sound stands follow =
    let t = next s x r sound stands follow.0 in
    follows_on s x r sound stands follow.0 rs (left_by r.last rs) (sessions_chain t.0 r.last rs follow.0.kept.sound t.1 follow.1)
