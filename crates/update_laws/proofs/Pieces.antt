-- The pieces of packages, one after another, and what the slots then hold.
use Rattle.std.proofs.Common.{◌≡◌, ◌≢◌, ℕ, zero, suc, ◌+◌, ◌-◌, ◌*◌, ◌<◌, ◌≤◌, ◌&&◌, Bool, true, false, not, cond, eqb, ltb, min, List, [], ◌∷◌, ◌++◌, length, take, drop, get_or, set, map, replicate, Some, is_some, slice_get, slice_range, refl, sym, ap, ◌∙◌, subst, arith, get_or-set_same, get_or-set_other, length-set, length-append, append_assoc}
use Rattle.std.proofs.Math.Seq.{take-add, take-append-add}
use Rattle.std.proofs.lemmas.Bool.{cond-true, cond-false, lt-ltb, le-ltb, eq-eqb, and_from, and_right, or_parts, eqb-false}
use Rattle.std.proofs.lemmas.List.{append-nil, length-take, length-drop, length-take-le, take-take, take-append-le, take_at, take-append-drop}
use Rattle.avr_reloc.specs.Field.{AreBytes}
use Rattle.component_package.specs.declared.answer.Answer.{Answer}
use Rattle.component_package.specs.declared.answer.Answer.TheVariants as answers
use Rattle.component_package.specs.declared.manifest.Entry.{Entry}
use Rattle.component_package.specs.packages.Manifest.{StoredRelease, Placed, AreDistinct}
use Rattle.component_package.specs.mote.Store.{held_slot, is_same, is_taken, package_in}
use Rattle.component_package.specs.mote.Page.{filled_page}
use Rattle.component_package.specs.mote.Frames.{Frame}
use Rattle.component_package.specs.mote.Machine.{Mote, Step, step, Chosen, mote_from, answers_from, commits_from, chosen_of, is_piece_of, with_page_of, take_piece_of}
use Rattle.update_laws.specs.Update.{Delivered, entry_of, piece_frame, pages_of, pieces_of, pieces_from, pieces_stored, pieces_answers, has_version}
use Rattle.mote_laws.specs.Sets.{AreByteSlots}
use Rattle.mote_laws.proofs.Sets.{same_lists_are}
use Rattle.mote_laws.proofs.Runs.{runs_join}
use Rattle.mote_laws.proofs.Invariant.{bytes_take, bytes_drop, bytes_page, slots_set}

-- ---- one page

-- a page begins with its bytes
page_front : (bytes : List ℕ) → length bytes ≤ 256 → take (length bytes) (filled_page bytes) ≡ bytes
unfolding filled_page
page_front bytes short = take-take (length bytes) 256 (bytes ++ replicate 256 255) short ∙ take_at bytes (replicate 256 255) (length bytes) refl

-- and so does what follows in a slot where the page is set
page_then : (bytes more : List ℕ) → length bytes ≤ 256 → take (length bytes) (filled_page bytes ++ more) ≡ bytes
unfolding filled_page
page_then bytes more short =
    let long : length bytes ≤ length (take 256 (bytes ++ replicate 256 255)) = omega (arith, length-take 256 (bytes ++ replicate 256 255), length-append bytes (replicate {A = ℕ} 256 255)) in
    take-append-le (length bytes) (take 256 (bytes ++ replicate 256 255)) more long ∙ page_front bytes short

-- a slot with the page set
written : (page : ℕ) (bytes slot : List ℕ) → length bytes ≤ 256 → 256 * page ≤ length slot
    → take (256 * page + length bytes) (with_page_of page bytes slot) ≡ take (256 * page) slot ++ bytes
written page bytes slot short room =
    let front : length (take (256 * page) slot) ≡ 256 * page = length-take-le (256 * page) slot room in
    ap (λ (n : ℕ). take (n + length bytes) (with_page_of page bytes slot)) (sym front)
    ∙ take-append-add (take (256 * page) slot) (filled_page bytes ++ drop (256 * page + 256) slot) (length bytes)
    ∙ ap (λ (b : List ℕ). take (256 * page) slot ++ b) (page_then bytes (drop (256 * page + 256) slot) short)

-- a slot where it is so already
already : (page : ℕ) (bytes slot : List ℕ) → length bytes ≤ 256 → slice_range slot (256 * page) (256 * page + 256) ≡ filled_page bytes
    → take (256 * page + length bytes) slot ≡ take (256 * page) slot ++ bytes
already page bytes slot short same =
    let width : 256 * page + 256 - 256 * page ≡ 256 = omega arith in
    let there : take 256 (drop (256 * page) slot) ≡ filled_page bytes = sym (ap (λ (n : ℕ). take n (drop (256 * page) slot)) width) ∙ same in
    take-add (256 * page) (length bytes) slot
    ∙ ap (λ (b : List ℕ). take (256 * page) slot ++ b)
    (sym (take-take (length bytes) 256 (drop (256 * page) slot) short) ∙ ap (λ (b : List ℕ). take (length bytes) b) there ∙ page_front bytes short)

-- a front that grows by a page
grown : (page : ℕ) (front piece old new : List ℕ) → length front ≡ 256 * page → take (length front) old ≡ front → take (256 * page + length piece) new ≡ take (256 * page) old ++ piece
    → take (length (front ++ piece)) new ≡ front ++ piece
grown page front piece old new starts there more =
    ap (λ (n : ℕ). take n new) (length-append front piece ∙ ap (λ (n : ℕ). n + length piece) starts) ∙ more
    ∙ ap (λ (b : List ℕ). b ++ piece) (ap (λ (n : ℕ). take n old) (sym starts) ∙ there)

-- ---- one piece

-- a mote over the current release c to which m comes in, while no commit stands
abbrev pub coming : StoredRelease → StoredRelease → List (List ℕ) → Bool → Mote
coming c m store linked = record { current = c; incoming = Some m; store = store; linked = linked; standing = false }

-- a step after which no commit stands commits nothing
pub commits_none : (s : Mote) (f : Frame) (fs : List Frame) (t : Mote) (said : Answer) → step s f ≡ record { mote = t; answer = said } → t.standing ≡ false → commits_from s (f ∷ fs) ≡ commits_from t fs
commits_none s f fs t said is calm =
    ap (λ (x : Step). cond (not s.standing && x.mote.standing) (chosen_of x.mote ∷ commits_from x.mote fs) (commits_from x.mote fs)) is
    ∙ cond-false (not s.standing && t.standing) _ _ (and_right (not s.standing) t.standing calm)

module _ (c m : StoredRelease) (k : ℕ) (p : Placed) where
  -- what a piece does: only the slot of its component changes, and its front is then longer by the piece
  record Stored (page : ℕ) (bytes : List ℕ) (store : List (List ℕ)) (linked : Bool) : Type 0 where
    after : List (List ℕ)
    link : Bool
    is : step (coming c m store linked) (piece_frame k page bytes) ≡ record { mote = coming c m after link; answer = answers.Piece k page }
    size : length after ≡ length store
    all : AreByteSlots store → AreByteSlots after
    others : (x : ℕ) → x ≢ p.slot → get_or after x [] ≡ get_or store x []
    here : take (256 * page + length bytes) (get_or after p.slot []) ≡ take (256 * page) (get_or store p.slot []) ++ bytes

  -- a piece that is one, of an entry that isn't held
  one_piece : (page : ℕ) (bytes : List ℕ) (store : List (List ℕ)) (linked : Bool) → slice_get m.placed k ≡ Some p → is_some (held_slot c p.entry) ≡ false
      → p.slot < length store → is_piece_of p.entry.length page bytes ≡ true → AreBytes bytes → 1 ≤ length bytes → length bytes ≤ 256 → 256 * page ≤ length (get_or store p.slot [])
      → Stored page bytes store linked
  one_piece page bytes store linked at new room fits are some short long = by same refl
    where
      slot : List ℕ
      slot = get_or store p.slot []

      same : Bool
      same = is_same (slice_range slot (256 * page) (256 * page + 256)) (filled_page bytes)

      -- up to the last test
      far : step (coming c m store linked) (piece_frame k page bytes) ≡
          cond same (record { mote = coming c m store linked; answer = answers.Piece k page }) (record { mote = coming c m (set store p.slot (with_page_of page bytes slot)) false; answer = answers.Piece k page })
      far =
          cond-false (ltb (length (k ∷ page ∷ bytes)) 3) _ _ (le-ltb (length (k ∷ page ∷ bytes)) 3 (omega arith))
          ∙ ap (take_piece_of (coming c m store linked) (k ∷ page ∷ bytes)) at
          ∙ cond-true (is_piece_of p.entry.length page bytes) _ _ fits
          ∙ cond-false (is_some (held_slot c p.entry)) _ _ new

      by : (b : Bool) → same ≡ b → Stored page bytes store linked
      by true is = record {
        after = store;
        link = linked;
        is = far ∙ cond-true same _ _ is;
        size = refl;
        all = λ all. all;
        others = λ x apart. refl;
        here = already page bytes slot short (same_lists_are _ _ is);
      }
      by false is = record {
        after = set store p.slot (with_page_of page bytes slot);
        link = false;
        is = far ∙ cond-false same _ _ is;
        size = length-set store p.slot (with_page_of page bytes slot);
        all = λ all. slots_set store p.slot (with_page_of page bytes slot) all (bytes_page page bytes slot are (all p.slot));
        others = λ x apart. get_or-set_other store p.slot x (with_page_of page bytes slot) [] apart;
        here = ap (λ (b : List ℕ). take (256 * page + length bytes) b) (get_or-set_same store p.slot (with_page_of page bytes slot) [] room) ∙ written page bytes slot short long;
      }

  -- ---- the pieces of one package

  -- what frames do that change one slot alone: they are answered so, and the slot then begins with these bytes
  record Ran (frames : List Frame) (said : List Answer) (bytes : List ℕ) (store : List (List ℕ)) (linked : Bool) : Type 0 where
    after : List (List ℕ)
    link : Bool
    mote : mote_from (coming c m store linked) frames ≡ coming c m after link
    answers : answers_from (coming c m store linked) frames ≡ said
    commits : commits_from (coming c m store linked) frames ≡ []
    size : length after ≡ length store
    all : AreByteSlots store → AreByteSlots after
    others : (x : ℕ) → x ≢ p.slot → get_or after x [] ≡ get_or store x []
    here : take (length bytes) (get_or after p.slot []) ≡ bytes

  -- no frames
  ran_none : (bytes : List ℕ) (store : List (List ℕ)) (linked : Bool) → take (length bytes) (get_or store p.slot []) ≡ bytes → Ran [] [] bytes store linked
  ran_none bytes store linked there = record { after = store; link = linked; mote = refl; answers = refl; commits = refl; size = refl; all = λ all. all; others = λ x apart. refl; here = there }

  -- one piece, and those behind it
  further : (n page : ℕ) (front rest : List ℕ) (store : List (List ℕ)) (linked : Bool) (one : Stored page (take 256 rest) store linked)
      → Ran (pieces_of k (page + 1) n (drop 256 rest)) (pieces_stored k (page + 1) n) ((front ++ take 256 rest) ++ drop 256 rest) one.after one.link
      → Ran (pieces_of k page (suc n) rest) (pieces_stored k page (suc n)) (front ++ rest) store linked
  further n page front rest store linked one later = record {
    after = later.after;
    link = later.link;
    mote = ap (λ (x : Step). mote_from x.mote (pieces_of k (page + 1) n (drop 256 rest))) one.is ∙ later.mote;
    answers = ap (λ (x : Step). x.answer ∷ answers_from x.mote (pieces_of k (page + 1) n (drop 256 rest))) one.is ∙ ap (λ (said : List Answer). answers.Piece k page ∷ said) later.answers;
    commits = commits_none (coming c m store linked) (piece_frame k page (take 256 rest)) (pieces_of k (page + 1) n (drop 256 rest)) (coming c m one.after one.link) (answers.Piece k page) one.is refl ∙ later.commits;
    size = later.size ∙ one.size;
    all = λ all. later.all (one.all all);
    others = λ x apart. later.others x apart ∙ one.others x apart;
    here = subst (λ (b : List ℕ). take (length b) (get_or later.after p.slot []) ≡ b)
        (append_assoc front (take 256 rest) (drop 256 rest) ∙ ap (λ (b : List ℕ). front ++ b) (take-append-drop 256 rest)) later.here;
  }

  -- the pieces from one page on, where what is before them is there
  pieces_run : (n page : ℕ) (front rest : List ℕ) (store : List (List ℕ)) (linked : Bool) → slice_get m.placed k ≡ Some p → is_some (held_slot c p.entry) ≡ false
      → p.slot < length store → length front + length rest ≡ p.entry.length → AreBytes rest → n ≡ pages_of rest → (1 ≤ n → length front ≡ 256 * page)
      → take (length front) (get_or store p.slot []) ≡ front → Ran (pieces_of k page n rest) (pieces_stored k page n) (front ++ rest) store linked
  pieces_run zero page front [] store linked at new room whole are count begins there =
      ran_none (front ++ []) store linked (rw (append-nil front) there)
  pieces_run zero page front (x ∷ rest) store linked at new room whole are count begins there = absurd (omega arith)
  pieces_run (suc n) page front rest store linked at new room whole are count begins there =
      let piece : List ℕ = take 256 rest in
      let starts : length front ≡ 256 * page = begins (omega arith) in
      let piece_length : length piece ≡ min 256 (length rest) = length-take 256 rest in
      let rest_length : length (drop 256 rest) ≡ length rest - 256 = length-drop 256 rest in
      let some : 256 * n + 1 ≤ length rest = omega arith in
      let fits : is_piece_of p.entry.length page piece ≡ true = and_from _ _ (lt-ltb (256 * page) p.entry.length (omega arith)) (eq-eqb (length piece) (min 256 (p.entry.length - 256 * page)) (omega arith)) in
      let cut : length (take (length front) (get_or store p.slot [])) ≡ length front = ap (λ (b : List ℕ). length b) there in
      let long : 256 * page ≤ length (get_or store p.slot []) = omega (arith, length-take (length front) (get_or store p.slot [])) in
      let one : Stored page piece store linked = one_piece page piece store linked at new room fits (bytes_take 256 rest are) (omega arith) (omega arith) long in
      let size : length one.after ≡ length store = one.size in
      let both : length (front ++ piece) ≡ length front + length piece = length-append front piece in
      let then_there : take (length (front ++ piece)) (get_or one.after p.slot []) ≡ front ++ piece = grown page front piece (get_or store p.slot []) (get_or one.after p.slot []) starts there one.here in
      further n page front rest store linked one
      (pieces_run n (page + 1) (front ++ piece) (drop 256 rest) one.after one.link at new (omega arith) (omega arith) (bytes_drop 256 rest are) (omega arith) (λ some. omega arith) then_there)

-- ---- the pieces of all components

-- an entry that is the component's: what the older release has too is held, and its slot has the package
pub record Ready (c : StoredRelease) (olds : List Delivered) (store : List (List ℕ)) (p : Placed) (d : Delivered) : Type 0 where
  pub entry : p.entry ≡ entry_of d
  pub held : has_version olds d ≡ true → package_in store p ≡ d.bytes
  pub new : has_version olds d ≡ false → is_some (held_slot c p.entry) ≡ false
  pub small : p.slot < 32
  pub are : AreBytes d.bytes

-- the same of all, one by one
abbrev pub AreReady : StoredRelease → List Delivered → List (List ℕ) → List Placed → List Delivered → Type 0
AreReady c olds store [] [] = Unit {0}
AreReady c olds store [] (d ∷ ds) = ⊥
AreReady c olds store (p ∷ ps) [] = ⊥
AreReady c olds store (p ∷ ps) (d ∷ ds) = Ready c olds store p d × AreReady c olds store ps ds

module _ (c m : StoredRelease) (olds : List Delivered) where
  -- another slot's bytes leave these ready
  ready_kept : (x : ℕ) (store after : List (List ℕ)) (ps : List Placed) (ds : List Delivered) → is_taken (map (λ p. p.slot) ps) x ≡ false
      → ((y : ℕ) → y ≢ x → get_or after y [] ≡ get_or store y []) → AreReady c olds store ps ds → AreReady c olds after ps ds
  ready_kept x store after [] [] apart others ready = tt
  ready_kept x store after [] (d ∷ ds) apart others ready = absurd ready
  ready_kept x store after (p ∷ ps) [] apart others ready = absurd ready
  ready_kept x store after (p ∷ ps) (d ∷ ds) apart others ready =
      let tests : (eqb p.slot x ≡ false) × (is_taken (map (λ p. p.slot) ps) x ≡ false) = or_parts (eqb p.slot x) _ apart in
      let same : package_in after p ≡ package_in store p = ap (λ (b : List ℕ). take p.entry.length b) (others p.slot (eqb-false p.slot x tests.0)) in (
        record { entry = ready.0.entry; held = λ has. same ∙ ready.0.held has; new = ready.0.new; small = ready.0.small; are = ready.0.are },
        ready_kept x store after ps ds tests.1 others ready.1,
      )

  -- the pieces of one component, none where it is held
  component_run : (k : ℕ) (p : Placed) (d : Delivered) (store : List (List ℕ)) (linked : Bool) → slice_get m.placed k ≡ Some p → length store ≡ 32 → Ready c olds store p d
      → Ran c m k p (cond (has_version olds d) [] (pieces_of k 0 (pages_of d.bytes) d.bytes)) (cond (has_version olds d) [] (pieces_stored k 0 (pages_of d.bytes))) d.bytes store linked
  component_run k p d store linked at room ready = by (has_version olds d) refl
    where
      width : p.entry.length ≡ length d.bytes
      width = ap (λ (e : Entry). e.length) ready.entry

      by : (b : Bool) → has_version olds d ≡ b → Ran c m k p (cond b [] (pieces_of k 0 (pages_of d.bytes) d.bytes)) (cond b [] (pieces_stored k 0 (pages_of d.bytes))) d.bytes store linked
      by true has = ran_none c m k p d.bytes store linked (ap (λ (n : ℕ). take n (get_or store p.slot [])) (sym width) ∙ ready.held has)
      by false has = pieces_run c m k p (pages_of d.bytes) 0 [] d.bytes store linked at (ready.new has) (let small : p.slot < 32 = ready.small in omega arith) (omega (arith, width)) ready.are refl (λ some. refl) refl

  -- what all pieces do
  pub record RanAll (frames : List Frame) (said : List Answer) (ps : List Placed) (ds : List Delivered) (store : List (List ℕ)) (linked : Bool) : Type 0 where
    pub after : List (List ℕ)
    pub link : Bool
    pub mote : mote_from (coming c m store linked) frames ≡ coming c m after link
    pub answers : answers_from (coming c m store linked) frames ≡ said
    pub commits : commits_from (coming c m store linked) frames ≡ []
    pub size : length after ≡ length store
    pub all : AreByteSlots store → AreByteSlots after
    pub others : (x : ℕ) → is_taken (map (λ p. p.slot) ps) x ≡ false → get_or after x [] ≡ get_or store x []
    pub here : map (package_in after) ps ≡ map (λ d. d.bytes) ds

  -- one component, and those behind it
  behind : (k : ℕ) (p : Placed) (ps : List Placed) (d : Delivered) (ds : List Delivered) (store : List (List ℕ)) (linked : Bool) → is_taken (map (λ p. p.slot) ps) p.slot ≡ false
      → p.entry ≡ entry_of d
      → (one : Ran c m k p (cond (has_version olds d) [] (pieces_of k 0 (pages_of d.bytes) d.bytes)) (cond (has_version olds d) [] (pieces_stored k 0 (pages_of d.bytes))) d.bytes store linked)
      → RanAll (pieces_from olds (k + 1) ds) (pieces_answers olds (k + 1) ds) ps ds one.after one.link
      → RanAll (pieces_from olds k (d ∷ ds)) (pieces_answers olds k (d ∷ ds)) (p ∷ ps) (d ∷ ds) store linked
  behind k p ps d ds store linked apart entry one later = record {
    after = later.after;
    link = later.link;
    mote = runs_join.mote (coming c m store linked) own rest ∙ ap (λ (s : Mote). mote_from s rest) one.mote ∙ later.mote;
    answers = runs_join.answers (coming c m store linked) own rest ∙ ap (λ (a : List Answer). a ++ answers_from (mote_from (coming c m store linked) own) rest) one.answers
        ∙ ap (λ (a : List Answer). said ++ a) (ap (λ (s : Mote). answers_from s rest) one.mote ∙ later.answers);
    commits = runs_join.commits (coming c m store linked) own rest ∙ ap (λ (cs : List Chosen). cs ++ commits_from (mote_from (coming c m store linked) own) rest) one.commits
        ∙ ap (λ (s : Mote). commits_from s rest) one.mote ∙ later.commits;
    size = later.size ∙ one.size;
    all = λ all. later.all (one.all all);
    others = λ x free. let tests : (eqb p.slot x ≡ false) × (is_taken (map (λ p. p.slot) ps) x ≡ false) = or_parts (eqb p.slot x) _ free in
        later.others x tests.1 ∙ one.others x (λ same. eqb-false p.slot x tests.0 (sym same));
    here = (let first : package_in later.after p ≡ d.bytes = ap (λ (n : ℕ). take n (get_or later.after p.slot [])) (ap (λ (e : Entry). e.length) entry)
        ∙ ap (λ (b : List ℕ). take (length d.bytes) b) (later.others p.slot apart) ∙ one.here in
        λ i. first i ∷ later.here i);
  }
    where
      own : List Frame
      own = cond (has_version olds d) [] (pieces_of k 0 (pages_of d.bytes) d.bytes)

      said : List Answer
      said = cond (has_version olds d) [] (pieces_stored k 0 (pages_of d.bytes))

      rest : List Frame
      rest = pieces_from olds (k + 1) ds

  -- the pieces of the components from one on
  pub all_run : (k : ℕ) (ps : List Placed) (ds : List Delivered) (store : List (List ℕ)) (linked : Bool)
      → ((j : ℕ) (p : Placed) → slice_get ps j ≡ Some p → slice_get m.placed (k + j) ≡ Some p) → AreDistinct (map (λ p. p.slot) ps) → length store ≡ 32 → AreReady c olds store ps ds
      → RanAll (pieces_from olds k ds) (pieces_answers olds k ds) ps ds store linked
  all_run k [] [] store linked at apart room ready = record { after = store; link = linked; mote = refl; answers = refl; commits = refl; size = refl; all = λ all. all; others = λ x free. refl; here = refl }
  all_run k [] (d ∷ ds) store linked at apart room ready = absurd ready
  all_run k (p ∷ ps) [] store linked at apart room ready = absurd ready
  all_run k (p ∷ ps) (d ∷ ds) store linked at apart room ready =
      let here : slice_get m.placed k ≡ Some p = let sum : k + 0 ≡ k = omega arith in subst (λ (n : ℕ). slice_get m.placed n ≡ Some p) sum (at 0 p refl) in
      let one = component_run k p d store linked here room ready.0 in
      behind k p ps d ds store linked apart.0 ready.0.entry one
      (all_run (k + 1) ps ds one.after one.link (λ j q is. let sum : k + suc j ≡ (k + 1) + j = omega arith in subst (λ (n : ℕ). slice_get m.placed n ≡ Some q) sum (at (suc j) q is)) apart.1 (one.size ∙ room)
      (ready_kept p.slot store one.after ps ds apart.0 one.others ready.1))
