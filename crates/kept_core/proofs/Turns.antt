-- What a turn of a session does.
use Rattle.std.proofs.Common.{◌==◌, ◌≡◌, ℕ, ◌+◌, ◌<◌, ◌≤◌, Bool, true, false, ◌||◌, eqb, List, [], ◌∷◌, ◌++◌, length, Option, Some, None, Ok, refl, sym, ap, ◌∙◌, subst, arith}
use Rattle.std.proofs.lemmas.Option.{same_Some}
use Rattle.std.proofs.lemmas.Bool.{false≢true, eqb-true, and_parts, false_from_ne_true}
use Rattle.std.proofs.lemmas.List.{append-nil, length-append}
use Rattle.std.proofs.lemmas.List.Sums.{sum_by-cons}
use Rattle.flash_pages.specs.State.{State, SendsPart}
use Rattle.flash_pages.specs.Board.{View, UsesLine}
use Rattle.flash_pages.specs.Moments.{LeavesOnly}
use Rattle.flash_pages.proofs.Runs.{follows, weaker, at_end, call}
use Rattle.component_package.specs.declared.answer.Answer.{Answer}
use Rattle.component_package.specs.declared.answer.Answer.TheVariants.{Ended, Unformatted}
use Rattle.component_package.specs.mote.Lines.{line_of}
use Rattle.std.proofs.lemmas.Bool.Decides.{nat_tests}
use Rattle.component_package.specs.mote.Frames.{Frame, IsFrame, frame_bytes, IsPartial, is_too_long, is_end}
use Rattle.kept_definitions.specs.Sides.{parts_of}
use Rattle.kept_definitions.specs.Headline.{StandsFor}
use Rattle.kept_definitions.specs.Machine.{Mote, step}
use Rattle.kept_core.specs.declared.session.Next.{Next}
use Rattle.kept_core.specs.declared.session.Next.TheVariants.{Frame as NextFrame, InputEnd, CutFrame, TooLong, Budget}
use Rattle.kept_core.specs.Reading.{served_of, NextGives, ServesNext}
use Rattle.kept_core.specs.declared.session.Session.{Session}
use Rattle.kept_core.specs.Sending.{SendsBut}
use Rattle.mote_laws.specs.Runs.{is_served}
use Rattle.kept_laws.proofs.MachineRuns.{machine_is_total}
use Rattle.kept_sessions.specs.Kept.{Works, Leaves}
use Rattle.kept_sessions.specs.Sessions.{shown}
use Rattle.kept_sessions.specs.Turns.{programs_of}
use Rattle.kept_core.proofs.Ends.{ended_is_end}
use Rattle.kept_sessions.proofs.Kept.{frames_leave}
use Rattle.kept_sessions.proofs.Sessions.{works_and_sends}
use Rattle.kept_journal.specs.Steps.{parts, Stands}
use Rattle.kept_core.specs.Serving.{Serves, LeavesWork, DoesWork}
use Rattle.kept_core.specs.Running.{status_of, EndsWell, Goes, IsCalm, Ends, TurnOf}

-- ---- statuses

-- the status that a reading ends a session with
abbrev pub stop_of : Next → Option ℕ
stop_of (NextFrame kind) = None
stop_of InputEnd = Some 0
stop_of CutFrame = Some 2
stop_of (TooLong n) = Some 3
stop_of Budget = Some 7

some_inj : (m n : ℕ) → Some m ≡ Some n → m ≡ n
some_inj m n e = cc

not_empty : (xs : List ℕ) → (xs ≡ [] → ⊥) → (length xs == 0) ≡ false
not_empty [] h = absurd (h refl)
not_empty (x ∷ xs) h = grind (arith, nat_tests)

single : (xs : List ℕ) → length xs ≡ 1 → IsPartial xs × ((length xs == 0) ≡ false)
single [] h = absurd (omega arith)
single (x ∷ []) h = (tt, refl)
single (x ∷ y ∷ xs) h = absurd (omega arith)

is_number : (m n : ℕ) → m ≡ n → (m == n) ≡ true
is_number m n e = grind (arith, nat_tests)

is_no_number : (m n : ℕ) → m < n → (m == n) ≡ false
is_no_number m n e = grind (arith, nat_tests)

status_cut : (served : ℕ) (rest : List ℕ) → (length rest == 0) ≡ false → (served == 1000000) ≡ false → is_too_long rest ≡ false → 2 ≡ status_of served [] rest
status_cut served rest a b c = rw (a, b, c) refl

status_long : (served : ℕ) (rest : List ℕ) → (length rest == 0) ≡ false → (served == 1000000) ≡ false → is_too_long rest ≡ true → 3 ≡ status_of served [] rest
status_long served rest a b c = rw (a, b, c) refl

status_budget : (served : ℕ) (rest : List ℕ) → (length rest == 0) ≡ false → (served == 1000000) ≡ true → 7 ≡ status_of served [] rest
status_budget served rest a b = rw (a, b) refl

-- with the input ended, cut or past a frame, the status is by what was read
pub stops_well : (next : Next) (before after : Session) (payload l rest left : List ℕ) (status : ℕ) → stop_of next ≡ Some status → ServesNext (Ok next) before after
    → NextGives (Ok next) payload l rest left → EndsWell (served_of before + 0) [] rest left status
stops_well (NextFrame kind) before after payload l rest left status stops serves gives = absurd (let q : ⊥ = cc in q)
stops_well InputEnd before after payload l rest left status stops serves gives =
    subst (EndsWell (served_of before + 0) [] rest left) (some_inj 0 status stops) (record {
      status_is = rw gives.2 refl;
      input = λ zero none. gives.1;
      cut = λ two. absurd (omega arith);
      budget = λ seven. absurd (omega arith);
    })
stops_well CutFrame before after payload l rest left status stops serves gives =
    subst (EndsWell (served_of before + 0) [] rest left) (some_inj 2 status stops) (record {
      status_is = status_cut (served_of before + 0) rest (not_empty rest gives.2) (is_no_number (served_of before + 0) 1000000 (omega (arith, serves.0))) gives.3;
      input = λ zero none. gives.1;
      cut = λ two. gives.1;
      budget = λ seven. absurd (omega arith);
    })
stops_well (TooLong n) before after payload l rest left status stops serves gives =
    subst (EndsWell (served_of before + 0) [] rest left) (some_inj 3 status stops) (record {
      status_is = status_long (served_of before + 0) rest (not_empty rest gives.2) (is_no_number (served_of before + 0) 1000000 (omega (arith, serves.0))) gives.3;
      input = λ zero none. absurd (omega arith);
      cut = λ two. absurd (omega arith);
      budget = λ seven. absurd (omega arith);
    })
stops_well Budget before after payload l rest left status stops serves gives =
    subst (EndsWell (served_of before + 0) [] rest left) (some_inj 7 status stops) (record {
      status_is = status_budget (served_of before + 0) rest (single rest gives.1).1 (is_number (served_of before + 0) 1000000 (omega (arith, serves.0, before.few)));
      input = λ zero none. absurd (omega arith);
      cut = λ two. absurd (omega arith);
      budget = λ seven. gives.1;
    })

-- after END the status is 0
pub end_well : (count : ℕ) (f : Frame) (left : List ℕ) → is_end f ≡ true → EndsWell count (f ∷ []) [] left 0
end_well count f left ends = record {
  status_is = rw ends refl;
  input = λ zero none. absurd (let e : true ≡ false = sym (ap (λ (b : Bool). b || false) ends) ∙ none in cc);
  cut = λ two. absurd (omega arith);
  budget = λ seven. absurd (omega arith);
}

-- ---- turns

-- no frame was read
pub turn_none : (count : ℕ) (status : Option ℕ) (old new : View) (z : State) (l rest left : List ℕ) (t : Mote) → (Goes status → ⊥) → old.state ≡ Some z → Stands z t
    → new.state ≡ old.state → UsesLine (λ s x. x ≡ s) old new → new.left ≡ Some left → l ≡ rest ++ left → IsPartial rest → (count ≡ 1000000 → length rest ≤ 1)
    → Ends count status [] rest left → TurnOf count status z l t old new
turn_none count status old new z l rest left t over told stands same line told_left read partial one ends = record {
  frame = None;
  rest = rest;
  left = left;
  owed = [];
  end = z;
  told = same ∙ told;
  told_left = told_left;
  few = λ few. omega arith;
  read = read;
  each = tt;
  partial = partial;
  after_end = λ ends. absurd (let q : ⊥ = cc in q);
  budget = λ all. one (omega arith);
  most = 0;
  bounded = omega arith;
  leaves = call (λ x. x ≡ z) 0 (λ s x. x ≡ s) old new z z line.cut told (same ∙ told) refl (λ y is. is) (omega (arith, line.all_programs));
  lines = refl;
  served = λ goes. absurd (over goes);
  went = λ goes. absurd (over goes);
  exact = λ calm. (refl, stands.mote);
  ended = ends;
}

-- END is answered by nothing
end_answers : (t : Mote) (kind : ℕ) (payload : List ℕ) → kind ≡ 8 → eqb (length payload) 0 ≡ true → (step t (record { kind = kind; payload = payload })).answer ≡ Ended
end_answers t kind payload is none = subst (λ (k : ℕ). (step t (record { kind = k; payload = payload })).answer ≡ Ended) (sym is) (at payload none)
  where
    at : (payload : List ℕ) → eqb (length payload) 0 ≡ true → (step t (record { kind = 8; payload = payload })).answer ≡ Ended
    at [] none = refl
    at (b ∷ bytes) none = absurd (let e = eqb-true (length (b ∷ bytes)) 0 none in omega arith)

goes_no_end : (t : Mote) (f : Frame) → ((step t f).answer ≡ Ended → ⊥) → is_end f ≡ false
goes_no_end t f other = false_from_ne_true (is_end f) (λ ends.
    let parts = and_parts (eqb f.kind 8) (eqb (length f.payload) 0) ends in
    other (end_answers t f.kind f.payload (eqb-true f.kind 8 parts.0) parts.1))

-- a sound board is formatted
pub never_unformatted : (f : Frame) (old new : View) (z : State) (t : Mote) (a : Answer) → old.state ≡ Some z → Stands z t → DoesWork f old new a → a ≡ Unformatted → ⊥
never_unformatted f old new z t a told stands does is =
    false≢true (ap is_served (sym is ∙ (does z t told stands).answer) ∙ machine_is_total.serves t f)

-- what was sent is no part of what the flashes stand for
pub stands_still : (y x : State) (m : Mote) → x.prog ≡ y.prog → x.ext ≡ y.ext → StandsFor (parts y) m → StandsFor (parts x) m
stands_still y x m prog ext stands =
    subst (λ (p : List (List ℕ)). StandsFor (parts_of p x.ext) m) (sym prog) (subst (λ (e : List (List ℕ)). StandsFor (parts_of y.prog e) m) (sym ext) stands)

-- a frame was read, and serving it began from the same state
module _ (count : ℕ) (old v1 : View) (z : State) (l left : List ℕ) (t : Mote) (f : Frame) (told : old.state ≡ Some z) (stands : Stands z t) (room : count < 1000000) (frame : IsFrame f)
    (read : l ≡ frame_bytes f ++ left) (same : v1.state ≡ old.state) (line : UsesLine (λ s x. x ≡ s) old v1) where
  abbrev W : State → Type 0
  W x = Works t f (shown z) (shown x)

  abbrev L : State → Type 0
  L x = Leaves t f (shown z) (shown x)

  -- the work, as from before the reading
  work_run : (v2 : View) → LeavesWork f v1 v2 → LeavesOnly W (0 + programs_of f) old v2
  work_run v2 works =
      let here : W z = frames_leave.starts t f (shown z) stands.sound stands.mote in
      follows W 0 (programs_of f) old v1 v2 (call W 0 (λ s x. x ≡ s) old v1 z z line.cut told (same ∙ told) here (λ y is. subst W (sym is) here) (omega (arith, line.all_programs)))
      (weaker (Serves t f z) W (programs_of f) (programs_of f) v1 v2 (omega arith) (λ x serves. serves.works) (works z t (same ∙ told) stands))

  one : (status : Option ℕ) (new : View) (x : State) (owed : List ℕ) → LeavesOnly L (0 + programs_of f) old new → new.state ≡ Some x → new.left ≡ Some left
      → z.sent ++ line_of (step t f).answer ≡ x.sent ++ owed → (Goes status → is_end f ≡ false)
      → (Goes status → (owed ≡ []) × StandsFor (parts x) (step t f).mote) → (IsCalm status → (owed ≡ []) × StandsFor (parts x) (step t f).mote) → Ends count status (f ∷ []) [] left
      → TurnOf count status z l t old new
  one status new x owed run told_new told_left lines no_end went exact ends = record {
    frame = Some f;
    rest = [];
    left = left;
    owed = owed;
    end = x;
    told = told_new;
    told_left = told_left;
    few = λ few. omega arith;
    read = read ∙ ap (λ (b : List ℕ). b ++ left) (sym (append-nil (frame_bytes f)));
    each = (frame, (λ ends. refl), tt);
    partial = tt;
    after_end = λ ends. refl;
    budget = λ all. omega arith;
    most = 0 + programs_of f;
    leaves = run;
    bounded = omega (arith, sum_by-cons programs_of f []);
    lines = ap (λ (b : List ℕ). z.sent ++ b) (append-nil (line_of (step t f).answer)) ∙ lines;
    served = λ goes. (f, refl, ap (λ (b : Bool). b || false) (no_end goes), refl);
    went = went;
    exact = exact;
    ended = ends;
  }

  -- the work alone is no more than a frame leaves
  works_leave : (v2 : View) → LeavesOnly W (0 + programs_of f) old v2 → LeavesOnly L (0 + programs_of f) old v2
  works_leave v2 run = weaker W L (0 + programs_of f) (0 + programs_of f) old v2 (omega arith) (λ x. frames_leave.works t f (shown z) (shown x)) run

  -- a fault came in the work
  pub turn_fault : (v2 : View) → LeavesWork f v1 v2 → v2.left ≡ Some left → TurnOf count (Some 4) z l t old v2
  turn_fault v2 works told_left =
      let run = work_run v2 works in
      one (Some 4) v2 run.end (line_of (step t f).answer) (works_leave v2 run) run.told told_left
      (ap (λ (b : List ℕ). b ++ line_of (step t f).answer) (sym run.ends.sent)) (λ q. absurd cc) (λ q. absurd cc) (λ calm. absurd (calm.flash refl)) (λ n is calm. absurd (calm.flash refl))

  -- it was END
  pub turn_end : (v2 : View) (a : Answer) → a ≡ Ended → LeavesWork f v1 v2 → DoesWork f v1 v2 a → v2.left ≡ Some left → TurnOf count (Some 0) z l t old v2
  turn_end v2 a ended works does told_left =
      let run = work_run v2 works in
      let d = does z t (same ∙ told) stands in
      let w = at_end W (0 + programs_of f) old v2 d.end run d.told in
      one (Some 0) v2 d.end [] (works_leave v2 run) d.told told_left
      (ap (λ (b : Answer). z.sent ++ line_of b) (sym d.answer ∙ ended) ∙ ap (λ (b : List ℕ). b ++ []) (sym w.sent)) (λ q. absurd cc) (λ q. absurd cc) (λ calm. (refl, d.mote)) (λ n is calm. subst (EndsWell (count + 1) (f ∷ []) [] left) (some_inj 0 n is) (end_well (count + 1) f left (ended_is_end t f (sym d.answer ∙ ended))))

  -- its line was sent, but for what is owed
  module _ (v2 v3 : View) (a : Answer) (works : LeavesWork f v1 v2) (does : DoesWork f v1 v2 a) (told_left : v3.left ≡ Some left) (sends_line : UsesLine (SendsPart (line_of a)) v2 v3) where
    leaves_line : (x : State) → v3.state ≡ Some x → LeavesOnly L (0 + programs_of f) old v3
    leaves_line x told_x =
        let run = work_run v2 works in
        let d = does z t (same ∙ told) stands in
        works_and_sends t f z d.end x (0 + programs_of f) old v2 v3 run d.told d.mote (subst (λ (b : Answer). UsesLine (SendsPart (line_of b)) v2 v3) d.answer sends_line) told_x

    -- what was sent
    lines_sent : (y x : State) (owed : List ℕ) → v2.state ≡ Some y → SendsBut owed (line_of a) y x → z.sent ++ line_of (step t f).answer ≡ x.sent ++ owed
    lines_sent y x owed told_y sent =
        let run = work_run v2 works in
        let w = at_end W (0 + programs_of f) old v2 y run told_y in
        let d = does z t (same ∙ told) stands in
        ap (λ (b : Answer). z.sent ++ line_of b) (sym d.answer) ∙ ap (λ (b : List ℕ). b ++ line_of a) (sym w.sent) ∙ sent.sent

    pub turn_cut : ((y : State) → v2.state ≡ Some y → (owed : List ℕ) × (x : State) × (v3.state ≡ Some x) × SendsBut owed (line_of a) y x)
        → TurnOf count (Some 5) z l t old v3
    turn_cut sent =
        let d = does z t (same ∙ told) stands in
        let r = sent d.end d.told in
        let run = leaves_line r.1 r.2 in
        one (Some 5) v3 r.1 r.0 run r.2 told_left (lines_sent d.end r.1 r.0 d.told r.3) (λ q. absurd cc) (λ q. absurd cc) (λ calm. absurd (calm.line refl)) (λ n is calm. absurd (calm.line refl))

    pub turn_goes : (a ≡ Ended → ⊥) → ((y : State) → v2.state ≡ Some y → (owed : List ℕ) × (x : State) × (v3.state ≡ Some x) × SendsBut owed (line_of a) y x × (owed ≡ []))
        → TurnOf count None z l t old v3
    turn_goes other sent =
        let d = does z t (same ∙ told) stands in
        let r = sent d.end d.told in
        let run = leaves_line r.1 r.2 in
        let stands_now = stands_still d.end r.1 (step t f).mote r.3.prog r.3.ext d.mote in
        one None v3 r.1 r.0 run r.2 told_left (lines_sent d.end r.1 r.0 d.told r.3) (λ q. goes_no_end t f (λ ended. other (d.answer ∙ ended))) (λ q. (r.4, stands_now)) (λ calm. (r.4, stands_now)) (λ n is calm. absurd cc)

-- ---- a reading that gave no frame

-- one byte at most where the budget was used up
one_left : (count : ℕ) (l rest left : List ℕ) (new : View) → new.left ≡ Some left → l ≡ rest ++ left → (1000000 ≤ count → (n : List ℕ) × (new.left ≡ Some n) × (length l ≤ length n + 1))
    → count ≡ 1000000 → length rest ≤ 1
one_left count l rest left new told read most all =
    let m = most (omega arith) in
    let same : m.0 ≡ left = same_Some m.0 left (sym m.1 ∙ told) in
    omega (arith, m.2, ap length same, ap length read, length-append rest left)

partial_one : (xs : List ℕ) → length xs ≡ 1 → IsPartial xs
partial_one [] one = absurd (omega arith)
partial_one (x ∷ []) one = tt
partial_one (x ∷ y ∷ xs) one = absurd (omega arith)

-- what was read, and that it is no frame
pub rest_read : (next : Next) (status : ℕ) (payload l rest left : List ℕ) → stop_of next ≡ Some status → NextGives (Ok next) payload l rest left → (l ≡ rest ++ left) × IsPartial rest
rest_read (NextFrame kind) status payload l rest left stops gives = absurd (let q : ⊥ = cc in q)
rest_read InputEnd status payload l rest left stops gives =
    (gives.0 ∙ sym (ap (λ (b : List ℕ). b ++ left) gives.2 ∙ gives.1), subst IsPartial (sym gives.2) tt)
rest_read CutFrame status payload l rest left stops gives =
    (gives.0 ∙ sym (append-nil rest) ∙ ap (λ (b : List ℕ). rest ++ b) (sym gives.1), gives.4)
rest_read (TooLong n) status payload l rest left stops gives = (gives.0, gives.4)
rest_read Budget status payload l rest left stops gives = (gives.0, partial_one rest gives.1)

-- a line fault ended the reading
pub turn_lost : (count : ℕ) (old new : View) (z : State) (l : List ℕ) (t : Mote) → old.state ≡ Some z → Stands z t
    → new.state ≡ old.state → UsesLine (λ s x. x ≡ s) old new → (1000000 ≤ count → (n : List ℕ) × (new.left ≡ Some n) × (length l ≤ length n + 1))
    → (rest : List ℕ) × (left : List ℕ) × (new.left ≡ Some left) × ((l ≡ rest ++ left) × IsPartial rest) → TurnOf count (Some 5) z l t old new
turn_lost count old new z l t told stands same line most r =
    turn_none count (Some 5) old new z l r.0 r.1 t (λ q. absurd cc) told stands same line r.2 r.3.0 r.3.1 (one_left count l r.0 r.1 new r.2 r.3.0 most) (λ n is calm. absurd (calm.line refl))

-- a whole frame was read
pub framed : (next : Next) (kind : ℕ) (payload l : List ℕ) (new : View) → next ≡ NextFrame kind → (rest : List ℕ) × (left : List ℕ) × (new.left ≡ Some left) × NextGives (Ok next) payload l rest left
    → let f : Frame = record { kind = kind; payload = payload } in (left : List ℕ) × (new.left ≡ Some left) × IsFrame f × (l ≡ frame_bytes f ++ left)
framed next kind payload l new e r = let h : NextGives (Ok (NextFrame kind)) payload l r.0 r.1 = rw e at r.3 in (r.1, r.2, h.0, h.2)

-- the session ended with a reading that gave no frame
pub turn_stopped : (next : Next) (before after : Session) (status : ℕ) (payload : List ℕ) (old new : View) (z : State) (l : List ℕ) (t : Mote) → stop_of next ≡ Some status → old.state ≡ Some z → Stands z t
    → new.state ≡ old.state → UsesLine (λ s x. x ≡ s) old new → (1000000 ≤ served_of before → (n : List ℕ) × (new.left ≡ Some n) × (length l ≤ length n + 1)) → ServesNext (Ok next) before after
    → (rest : List ℕ) × (left : List ℕ) × (new.left ≡ Some left) × NextGives (Ok next) payload l rest left → TurnOf (served_of before) (Some status) z l t old new
turn_stopped next before after status payload old new z l t stops told stands same line most serves r =
    let read = rest_read next status payload l r.0 r.1 stops r.3 in
    turn_none (served_of before) (Some status) old new z l r.0 r.1 t (λ q. absurd cc) told stands same line r.2 read.0 read.1 (one_left (served_of before) l r.0 r.1 new r.2 read.0 most)
    (λ n is calm. subst (EndsWell (served_of before + 0) [] r.0 r.1) (some_inj status n is) (stops_well next before after payload l r.0 r.1 status stops serves r.3))
