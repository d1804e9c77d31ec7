-- The pieces of packages, one after another, and what the inbox then holds.
use Rattle.std.proofs.Common.{◌≡◌, ◌≢◌, ℕ, zero, suc, ◌+◌, ◌-◌, ◌*◌, ◌<◌, ◌≤◌, ◌&&◌, Bool, true, false, not, cond, eqb, ltb, min, List, [], ◌∷◌, ◌++◌, length}
use Rattle.std.proofs.Common.{take, drop, get_or, set, map, replicate, Some, slice_get, slice_range, refl, sym, ap, ◌∙◌, subst, arith}
use Rattle.std.proofs.Common.{get_or-set_same, get_or-set_other, length-set, length-append, append_assoc}
use Rattle.std.proofs.Math.Seq.{take-add, take-append-add}
use Rattle.std.proofs.lemmas.Bool.{cond-true, cond-false, lt-ltb, le-ltb, eq-eqb, and_from, and_right, and_parts, or_parts, eqb-true, eqb-false, false≢true}
use Rattle.std.proofs.lemmas.List.{append-nil, length-take, length-drop, length-take-le, take-take, take-append-le, take_at, take-append-drop}
use Rattle.component_package.specs.declared.answer.Answer.{Answer}
use Rattle.component_package.specs.declared.answer.Answer.TheVariants as answers
use Rattle.component_package.specs.declared.manifest.Entry.{Entry}
use Rattle.component_package.specs.packages.Manifest.{AreDistinct}
use Rattle.component_package.specs.mote.Store.{is_same, is_taken}
use Rattle.component_package.specs.mote.Page.{filled_page}
use Rattle.component_package.specs.mote.Frames.{Frame}
use Rattle.component_package.specs.mote.Machine.{is_piece_of, with_page_of}
use Rattle.kept_definitions.specs.Stored.{StoredRelease, Placed}
use Rattle.kept_definitions.specs.Kept.{Chosen, package_in}
use Rattle.kept_definitions.specs.Machine.{Mote, Step, step, mote_from, answers_from, commits_from, take_piece_of}
use Rattle.kept_laws.proofs.MachineRuns.{runs_join}
use Rattle.kept_updates.specs.Update.{Delivered, entry_of, piece_frame, pages_of, pieces_of, pieces_from, pieces_stored, pieces_answers, has_version}

-- ---- lists of numbers

-- what the test says to be the same is so
pub same_lists_are : (xs ys : List ℕ) → is_same xs ys ≡ true → xs ≡ ys
same_lists_are [] [] same = refl
same_lists_are [] (y ∷ ys) same = cc
same_lists_are (x ∷ xs) [] same = cc
same_lists_are (x ∷ xs) (y ∷ ys) same =
    let parts = and_parts (eqb x y) (is_same xs ys) same in
    let head = eqb-true x y parts.0 in
    let rest = same_lists_are xs ys parts.1 in
    λ i. head i ∷ rest i

-- ---- one page

-- a page begins with its bytes
page_front : (bytes : List ℕ) → length bytes ≤ 256 → take (length bytes) (filled_page bytes) ≡ bytes
unfolding filled_page
page_front bytes short = take-take (length bytes) 256 (bytes ++ replicate 256 255) short ∙ take_at bytes (replicate 256 255) (length bytes) refl

-- and so does what follows in a slot where the page is set
page_then : (bytes more : List ℕ) → length bytes ≤ 256 → take (length bytes) (filled_page bytes ++ more) ≡ bytes
unfolding filled_page
page_then bytes more short =
    let long : length bytes ≤ length (take 256 (bytes ++ replicate 256 255)) = omega (arith, length-take 256 (bytes ++ replicate 256 255), length-append bytes (replicate {A = ℕ} 256 255)) in
    take-append-le (length bytes) (take 256 (bytes ++ replicate 256 255)) more long ∙ page_front bytes short

-- a slot with the page set
written : (page : ℕ) (bytes slot : List ℕ) → length bytes ≤ 256 → 256 * page ≤ length slot
    → take (256 * page + length bytes) (with_page_of page bytes slot) ≡ take (256 * page) slot ++ bytes
written page bytes slot short room =
    let front : length (take (256 * page) slot) ≡ 256 * page = length-take-le (256 * page) slot room in
    ap (λ (n : ℕ). take (n + length bytes) (with_page_of page bytes slot)) (sym front)
    ∙ take-append-add (take (256 * page) slot) (filled_page bytes ++ drop (256 * page + 256) slot) (length bytes)
    ∙ ap (λ (b : List ℕ). take (256 * page) slot ++ b) (page_then bytes (drop (256 * page + 256) slot) short)

-- a slot where it is so already
already : (page : ℕ) (bytes slot : List ℕ) → length bytes ≤ 256 → slice_range slot (256 * page) (256 * page + 256) ≡ filled_page bytes
    → take (256 * page + length bytes) slot ≡ take (256 * page) slot ++ bytes
already page bytes slot short same =
    let width : 256 * page + 256 - 256 * page ≡ 256 = omega arith in
    let there : take 256 (drop (256 * page) slot) ≡ filled_page bytes = sym (ap (λ (n : ℕ). take n (drop (256 * page) slot)) width) ∙ same in
    take-add (256 * page) (length bytes) slot
    ∙ ap (λ (b : List ℕ). take (256 * page) slot ++ b)
    (sym (take-take (length bytes) 256 (drop (256 * page) slot) short) ∙ ap (λ (b : List ℕ). take (length bytes) b) there ∙ page_front bytes short)

-- a front that grows by a page
grown : (page : ℕ) (front piece old new : List ℕ) → length front ≡ 256 * page → take (length front) old ≡ front → take (256 * page + length piece) new ≡ take (256 * page) old ++ piece
    → take (length (front ++ piece)) new ≡ front ++ piece
grown page front piece old new starts there more =
    ap (λ (n : ℕ). take n new) (length-append front piece ∙ ap (λ (n : ℕ). n + length piece) starts) ∙ more
    ∙ ap (λ (b : List ℕ). b ++ piece) (ap (λ (n : ℕ). take n old) (sym starts) ∙ there)

-- ---- one piece

-- a mote over the current release and set c to which m comes in, while no commit stands
abbrev pub coming : Chosen → StoredRelease → List (List ℕ) → Bool → Mote
coming c m inbox linked = record { current = c; incoming = Some m; inbox = inbox; linked = linked; standing = false }

-- a step after which no commit stands commits nothing
pub commits_none : (s : Mote) (f : Frame) (fs : List Frame) (t : Mote) (said : Answer) → step s f ≡ record { mote = t; answer = said } → t.standing ≡ false
    → commits_from s (f ∷ fs) ≡ commits_from t fs
commits_none s f fs t said is calm =
    ap (λ (x : Step). cond (not s.standing && x.mote.standing) (x.mote.current ∷ commits_from x.mote fs) (commits_from x.mote fs)) is
    ∙ cond-false (not s.standing && t.standing) _ _ (and_right (not s.standing) t.standing calm)

module _ (c : Chosen) (m : StoredRelease) (k : ℕ) (p : Placed) where
  -- what a piece does: only the slot of its component changes, and its front is then longer by the piece
  record Stored (page : ℕ) (bytes : List ℕ) (inbox : List (List ℕ)) (linked : Bool) : Type 0 where
    after : List (List ℕ)
    link : Bool
    is : step (coming c m inbox linked) (piece_frame k page bytes) ≡ record { mote = coming c m after link; answer = answers.Piece k page }
    size : length after ≡ length inbox
    others : (x : ℕ) → x ≢ p.slot → get_or after x [] ≡ get_or inbox x []
    here : take (256 * page + length bytes) (get_or after p.slot []) ≡ take (256 * page) (get_or inbox p.slot []) ++ bytes

  -- a piece that is one, of a fresh entry
  one_piece : (page : ℕ) (bytes : List ℕ) (inbox : List (List ℕ)) (linked : Bool) → slice_get m.placed k ≡ Some p → p.fresh ≡ true → p.slot < length inbox
      → is_piece_of p.entry.length page bytes ≡ true → 1 ≤ length bytes → length bytes ≤ 256 → 256 * page ≤ length (get_or inbox p.slot [])
      → Stored page bytes inbox linked
  one_piece page bytes inbox linked at new room fits some short long = by same refl
    where
      slot : List ℕ
      slot = get_or inbox p.slot []

      same : Bool
      same = is_same (slice_range slot (256 * page) (256 * page + 256)) (filled_page bytes)

      -- up to the last test
      far : step (coming c m inbox linked) (piece_frame k page bytes) ≡
          cond same (record { mote = coming c m inbox linked; answer = answers.Piece k page })
          (record { mote = coming c m (set inbox p.slot (with_page_of page bytes slot)) false; answer = answers.Piece k page })
      far =
          cond-false (ltb (length (k ∷ page ∷ bytes)) 3) _ _ (le-ltb (length (k ∷ page ∷ bytes)) 3 (omega arith))
          ∙ ap (take_piece_of (coming c m inbox linked) (k ∷ page ∷ bytes)) at
          ∙ cond-true (is_piece_of p.entry.length page bytes) _ _ fits
          ∙ cond-false (not p.fresh) _ _ (ap not new)

      by : (b : Bool) → same ≡ b → Stored page bytes inbox linked
      by true is = record {
        after = inbox;
        link = linked;
        is = far ∙ cond-true same _ _ is;
        size = refl;
        others = λ x apart. refl;
        here = already page bytes slot short (same_lists_are _ _ is);
      }
      by false is = record {
        after = set inbox p.slot (with_page_of page bytes slot);
        link = false;
        is = far ∙ cond-false same _ _ is;
        size = length-set inbox p.slot (with_page_of page bytes slot);
        others = λ x apart. get_or-set_other inbox p.slot x (with_page_of page bytes slot) [] apart;
        here = ap (λ (b : List ℕ). take (256 * page + length bytes) b) (get_or-set_same inbox p.slot (with_page_of page bytes slot) [] room)
            ∙ written page bytes slot short long;
      }

  -- ---- the pieces of one package

  -- what frames do that change one slot alone: they are answered so
  record Ran (frames : List Frame) (said : List Answer) (inbox : List (List ℕ)) (linked : Bool) : Type 0 where
    after : List (List ℕ)
    link : Bool
    mote : mote_from (coming c m inbox linked) frames ≡ coming c m after link
    answers : answers_from (coming c m inbox linked) frames ≡ said
    commits : commits_from (coming c m inbox linked) frames ≡ []
    size : length after ≡ length inbox
    others : (x : ℕ) → x ≢ p.slot → get_or after x [] ≡ get_or inbox x []

  -- and the slot then begins with these bytes
  record Filled (frames : List Frame) (said : List Answer) (bytes : List ℕ) (inbox : List (List ℕ)) (linked : Bool) : Type 0 where
    run : Ran frames said inbox linked
    here : take (length bytes) (get_or run.after p.slot []) ≡ bytes

  -- no frames
  abbrev ran_none : (inbox : List (List ℕ)) (linked : Bool) → Ran [] [] inbox linked
  ran_none inbox linked = record { after = inbox; link = linked; mote = refl; answers = refl; commits = refl; size = refl; others = λ x apart. refl }

  -- one piece, and those behind it
  further : (n page : ℕ) (front rest : List ℕ) (inbox : List (List ℕ)) (linked : Bool) (one : Stored page (take 256 rest) inbox linked)
      → Filled (pieces_of k (page + 1) n (drop 256 rest)) (pieces_stored k (page + 1) n) ((front ++ take 256 rest) ++ drop 256 rest) one.after one.link
      → Filled (pieces_of k page (suc n) rest) (pieces_stored k page (suc n)) (front ++ rest) inbox linked
  further n page front rest inbox linked one later = record {
    run = record {
      after = later.run.after;
      link = later.run.link;
      mote = ap (λ (x : Step). mote_from x.mote more) one.is ∙ later.run.mote;
      answers = ap (λ (x : Step). x.answer ∷ answers_from x.mote more) one.is ∙ ap (λ (said : List Answer). answers.Piece k page ∷ said) later.run.answers;
      commits = commits_none (coming c m inbox linked) (piece_frame k page (take 256 rest)) more (coming c m one.after one.link) (answers.Piece k page) one.is refl
          ∙ later.run.commits;
      size = later.run.size ∙ one.size;
      others = λ x apart. later.run.others x apart ∙ one.others x apart;
    };
    here = subst (λ (b : List ℕ). take (length b) (get_or later.run.after p.slot []) ≡ b)
        (append_assoc front (take 256 rest) (drop 256 rest) ∙ ap (λ (b : List ℕ). front ++ b) (take-append-drop 256 rest)) later.here;
  }
    where
      more : List Frame
      more = pieces_of k (page + 1) n (drop 256 rest)

  -- the pieces from one page on, where what is before them is there
  pieces_run : (n page : ℕ) (front rest : List ℕ) (inbox : List (List ℕ)) (linked : Bool) → slice_get m.placed k ≡ Some p → p.fresh ≡ true
      → p.slot < length inbox → length front + length rest ≡ p.entry.length → n ≡ pages_of rest → (1 ≤ n → length front ≡ 256 * page)
      → take (length front) (get_or inbox p.slot []) ≡ front → Filled (pieces_of k page n rest) (pieces_stored k page n) (front ++ rest) inbox linked
  pieces_run zero page front [] inbox linked at new room whole count begins there =
      record { run = ran_none inbox linked; here = rw (append-nil front) there }
  pieces_run zero page front (x ∷ rest) inbox linked at new room whole count begins there = absurd (omega arith)
  pieces_run (suc n) page front rest inbox linked at new room whole count begins there =
      let piece : List ℕ = take 256 rest in
      let starts : length front ≡ 256 * page = begins (omega arith) in
      let piece_length : length piece ≡ min 256 (length rest) = length-take 256 rest in
      let rest_length : length (drop 256 rest) ≡ length rest - 256 = length-drop 256 rest in
      let some : 256 * n + 1 ≤ length rest = omega arith in
      let fits : is_piece_of p.entry.length page piece ≡ true =
      and_from _ _ (lt-ltb (256 * page) p.entry.length (omega arith)) (eq-eqb (length piece) (min 256 (p.entry.length - 256 * page)) (omega arith)) in
      let cut : length (take (length front) (get_or inbox p.slot [])) ≡ length front = ap (λ (b : List ℕ). length b) there in
      let long : 256 * page ≤ length (get_or inbox p.slot []) = omega (arith, length-take (length front) (get_or inbox p.slot [])) in
      let one : Stored page piece inbox linked = one_piece page piece inbox linked at new room fits (omega arith) (omega arith) long in
      let size : length one.after ≡ length inbox = one.size in
      let both : length (front ++ piece) ≡ length front + length piece = length-append front piece in
      let then_there : take (length (front ++ piece)) (get_or one.after p.slot []) ≡ front ++ piece =
      grown page front piece (get_or inbox p.slot []) (get_or one.after p.slot []) starts there one.here in
      further n page front rest inbox linked one
      (pieces_run n (page + 1) (front ++ piece) (drop 256 rest) one.after one.link at new (omega arith) (omega arith) (omega arith) (λ some. omega arith) then_there)

-- ---- the pieces of all components

-- an entry that is the component's: what the older release hasn't is fresh, and there is a slot for it
pub record Ready (olds : List Delivered) (p : Placed) (d : Delivered) : Type 0 where
  pub entry : p.entry ≡ entry_of d
  pub mark : p.fresh ≡ not (has_version olds d)
  pub small : p.slot < 16

-- where an entry is fresh, the inbox has the package
abbrev pub Came : List (List ℕ) → Placed → Delivered → Type 0
Came inbox p d = p.fresh ≡ true → package_in inbox p ≡ d.bytes

-- so for each entry and its package, in order
abbrev pub ForAll : (Placed → Delivered → Type 0) → List Placed → List Delivered → Type 0
ForAll P [] [] = Unit {0}
ForAll P [] (d ∷ ds) = ⊥
ForAll P (p ∷ ps) [] = ⊥
ForAll P (p ∷ ps) (d ∷ ds) = P p d × ForAll P ps ds

module _ (c : Chosen) (m : StoredRelease) (olds : List Delivered) where
  -- the frames and answers of one component: none where the older release has it
  abbrev frames_for : ℕ → Delivered → List Frame
  frames_for k d = cond (has_version olds d) [] (pieces_of k 0 (pages_of d.bytes) d.bytes)

  abbrev said_for : ℕ → Delivered → List Answer
  said_for k d = cond (has_version olds d) [] (pieces_stored k 0 (pages_of d.bytes))

  -- what the frames of one component do
  record Own (k : ℕ) (p : Placed) (d : Delivered) (frames : List Frame) (said : List Answer) (inbox : List (List ℕ)) (linked : Bool) : Type 0 where
    run : Ran c m k p frames said inbox linked
    here : Came run.after p d

  component_run : (k : ℕ) (p : Placed) (d : Delivered) (inbox : List (List ℕ)) (linked : Bool) → slice_get m.placed k ≡ Some p → 16 ≤ length inbox → Ready olds p d
      → Own k p d (frames_for k d) (said_for k d) inbox linked
  component_run k p d inbox linked at room ready = by (has_version olds d) refl
    where
      width : p.entry.length ≡ length d.bytes
      width = ap (λ (e : Entry). e.length) ready.entry

      by : (b : Bool) → has_version olds d ≡ b
          → Own k p d (cond b [] (pieces_of k 0 (pages_of d.bytes) d.bytes)) (cond b [] (pieces_stored k 0 (pages_of d.bytes))) inbox linked
      by true has = record { run = ran_none c m k p inbox linked; here = λ fresh. absurd (false≢true (sym (ready.mark ∙ ap not has) ∙ fresh)) }
      by false has =
          let low : p.slot < 16 = ready.small in
          let filled = pieces_run c m k p (pages_of d.bytes) 0 [] d.bytes inbox linked at (ready.mark ∙ ap not has) (omega arith) (omega (arith, width)) refl (λ some. refl) refl in
          record { run = filled.run; here = λ fresh. ap (λ (n : ℕ). take n (get_or filled.run.after p.slot [])) width ∙ filled.here }

  -- what all pieces do
  pub record RanAll (frames : List Frame) (said : List Answer) (ps : List Placed) (ds : List Delivered) (inbox : List (List ℕ)) (linked : Bool) : Type 0 where
    pub after : List (List ℕ)
    pub link : Bool
    pub mote : mote_from (coming c m inbox linked) frames ≡ coming c m after link
    pub answers : answers_from (coming c m inbox linked) frames ≡ said
    pub commits : commits_from (coming c m inbox linked) frames ≡ []
    pub others : (x : ℕ) → is_taken (map (λ p. p.slot) ps) x ≡ false → get_or after x [] ≡ get_or inbox x []
    pub here : ForAll (Came after) ps ds

  -- one component, and those behind it
  behind : (k : ℕ) (p : Placed) (ps : List Placed) (d : Delivered) (ds : List Delivered) (inbox : List (List ℕ)) (linked : Bool)
      → is_taken (map (λ p. p.slot) ps) p.slot ≡ false → (one : Own k p d (frames_for k d) (said_for k d) inbox linked)
      → RanAll (pieces_from olds (k + 1) ds) (pieces_answers olds (k + 1) ds) ps ds one.run.after one.run.link
      → RanAll (pieces_from olds k (d ∷ ds)) (pieces_answers olds k (d ∷ ds)) (p ∷ ps) (d ∷ ds) inbox linked
  behind k p ps d ds inbox linked apart one later = record {
    after = later.after;
    link = later.link;
    mote = runs_join.mote (coming c m inbox linked) own rest ∙ ap (λ (s : Mote). mote_from s rest) one.run.mote ∙ later.mote;
    answers = runs_join.answers (coming c m inbox linked) own rest
        ∙ ap (λ (a : List Answer). a ++ answers_from (mote_from (coming c m inbox linked) own) rest) one.run.answers
        ∙ ap (λ (a : List Answer). said_for k d ++ a) (ap (λ (s : Mote). answers_from s rest) one.run.mote ∙ later.answers);
    commits = runs_join.commits (coming c m inbox linked) own rest
        ∙ ap (λ (cs : List Chosen). cs ++ commits_from (mote_from (coming c m inbox linked) own) rest) one.run.commits
        ∙ ap (λ (s : Mote). commits_from s rest) one.run.mote ∙ later.commits;
    others = λ x free. let tests : (eqb p.slot x ≡ false) × (is_taken (map (λ p. p.slot) ps) x ≡ false) = or_parts (eqb p.slot x) _ free in
        later.others x tests.1 ∙ one.run.others x (λ same. eqb-false p.slot x tests.0 (sym same));
    here = ((λ fresh. ap (λ (b : List ℕ). take p.entry.length b) (later.others p.slot apart) ∙ one.here fresh), later.here);
  }
    where
      own : List Frame
      own = frames_for k d

      rest : List Frame
      rest = pieces_from olds (k + 1) ds

  -- the pieces of the components from one on
  pub all_run : (k : ℕ) (ps : List Placed) (ds : List Delivered) (inbox : List (List ℕ)) (linked : Bool)
      → ((j : ℕ) (p : Placed) → slice_get ps j ≡ Some p → slice_get m.placed (k + j) ≡ Some p) → AreDistinct (map (λ p. p.slot) ps) → 16 ≤ length inbox
      → ForAll (Ready olds) ps ds → RanAll (pieces_from olds k ds) (pieces_answers olds k ds) ps ds inbox linked
  all_run k [] [] inbox linked at apart room ready =
      record { after = inbox; link = linked; mote = refl; answers = refl; commits = refl; others = λ x free. refl; here = tt }
  all_run k [] (d ∷ ds) inbox linked at apart room ready = absurd ready
  all_run k (p ∷ ps) [] inbox linked at apart room ready = absurd ready
  all_run k (p ∷ ps) (d ∷ ds) inbox linked at apart room ready =
      let here : slice_get m.placed k ≡ Some p = let sum : k + 0 ≡ k = omega arith in subst (λ (n : ℕ). slice_get m.placed n ≡ Some p) sum (at 0 p refl) in
      let one = component_run k p d inbox linked here room ready.0 in
      behind k p ps d ds inbox linked apart.0 one
      (all_run (k + 1) ps ds one.run.after one.run.link
      (λ j q is. let sum : k + suc j ≡ (k + 1) + j = omega arith in subst (λ (n : ℕ). slice_get m.placed n ≡ Some q) sum (at (suc j) q is))
      apart.1 (let same = one.run.size in omega arith) ready.1)
