-- Each step of the install journal keeps a mote sound.
use Rattle.std.proofs.Common.{◌≡◌, ℕ, List, Bool, true, false, cond, set, refl, sym as flip, ap, ◌∙◌, subst, arith}
use Rattle.component_package.specs.mote.Sides.{man, sym, rel, img, sel}
use Rattle.kept_definitions.specs.Stored.{StoredRelease, Stores}
use Rattle.kept_definitions.specs.Kept.{Chosen, components_in}
use Rattle.kept_definitions.specs.Sides.{Parts, is_on_b, chosen_side, other_side, is_pending, kept_set, going_set, set_of}
use Rattle.kept_definitions.specs.Sound.{IsSound, IsInstalled, IsGoing, HoldsSet, HasNoCause, HasLateCause, HasTable, HasList, HasImage, IsNext}
use Rattle.kept_definitions.specs.Headline.{Chooses}
use Rattle.kept_laws.specs.Steps.{with_gate, with_other_side, other_go, chosen_go, ClosingKeeps, WritingKeeps, OpeningKeeps, CommitIsWhole, SelectingKeeps, FinishingKeeps, RestIsFree}
use Rattle.kept_laws.proofs.Runs.{same_front}
use Rattle.kept_laws.proofs.Words.{can_go, goes_as_it_came, comes_to_rest, rests_as_it_went, same_going, still_goes, same_kept, still_installed}

-- the same side and the same set choose the same
pub chooses_kept : (p q : Parts) → chosen_side q ≡ chosen_side p → ((m : StoredRelease) → Stores (chosen_side p) m → set_of q m ≡ set_of p m) → (c : Chosen) → Chooses p c → Chooses q c
chooses_kept p q side sets c chooses = record {
  release = subst (λ (b : List ℕ). Stores b c.release) (flip side) chooses.release;
  set = sets c.release chooses.release ∙ chooses.set;
}

-- where no commit stands the set is the kept one, and else the going one
pub at_rest : (p : Parts) (m : StoredRelease) → is_pending p ≡ false → set_of p m ≡ kept_set p.tables p.prog m
at_rest p m calm = ap (λ (b : Bool). cond b (going_set p.tables p.inbox p.staged m) (kept_set p.tables p.prog m)) calm

pub standing : (p : Parts) (m : StoredRelease) → is_pending p ≡ true → set_of p m ≡ going_set p.tables p.inbox p.staged m
standing p m pending = ap (λ (b : Bool). cond b (going_set p.tables p.inbox p.staged m) (kept_set p.tables p.prog m)) pending

-- ---- gates that are closed

shuts_img : (p : Parts) (b : Bool) → IsSound p → p.gates img ≡ true → IsSound (with_gate img b p)
shuts_img p b sound was = grind arith

shuts_rel : (p : Parts) (b : Bool) → IsSound p → p.gates rel ≡ true → p.gates img ≡ false → IsSound (with_gate rel b p)
shuts_rel p b sound was no_img = grind arith

shuts_sym : (p : Parts) (b : Bool) → IsSound p → p.gates sym ≡ true → p.gates rel ≡ false → p.gates img ≡ false → IsSound (with_gate sym b p)
shuts_sym p b sound was no_rel no_img = grind arith

shuts_man : (p : Parts) (b : Bool) → IsSound p → p.gates man ≡ true → p.gates sym ≡ false → p.gates rel ≡ false → p.gates img ≡ false → IsSound (with_gate man b p)
shuts_man p b sound was no_sym no_rel no_img = grind arith

pub closing_keeps : ClosingKeeps
closing_keeps = record {
  image = λ p b sound was. record { sound = shuts_img p b sound was; chosen = chooses_kept p (with_gate img b p) refl (λ m stores. refl) };
  relocs = λ p b sound was no_img. record { sound = shuts_rel p b sound was no_img; chosen = chooses_kept p (with_gate rel b p) refl (λ m stores. refl) };
  symbols = λ p b sound was no_rel no_img. record { sound = shuts_sym p b sound was no_rel no_img; chosen = chooses_kept p (with_gate sym b p) refl (λ m stores. refl) };
  manifest = λ p b sound was no_sym no_rel no_img. record { sound = shuts_man p b sound was no_sym no_rel no_img; chosen = chooses_kept p (with_gate man b p) refl (λ m stores. refl) };
}

-- ---- pages that are written

writes_side : (p : Parts) (bytes : List ℕ) → IsSound p → is_pending p ≡ false → p.gates man ≡ false → IsSound (with_other_side bytes p)
writes_side p bytes sound calm shut = grind arith

other_written : (p : Parts) (bytes : List ℕ) → chosen_side (with_other_side bytes p) ≡ chosen_side p
other_written p bytes = grind arith

writes_symbols : (p : Parts) (area : List ℕ) → IsSound p → p.gates sym ≡ false → IsSound (record p { symbols = area })
writes_symbols p area sound shut = grind arith

writes_relocs : (p : Parts) (area : List ℕ) → IsSound p → p.gates rel ≡ false → IsSound (record p { relocs = area })
writes_relocs p area sound shut = grind arith

writes_staged : (p : Parts) (pages : List (List ℕ)) → IsSound p → is_pending p ≡ false → p.gates img ≡ false → IsSound (record p { staged = pages })
writes_staged p pages sound calm shut = grind arith

writes_inbox : (p : Parts) (slots : List (List ℕ)) → IsSound p → is_pending p ≡ false → p.gates sym ≡ false → IsSound (record p { inbox = slots })
writes_inbox p slots sound calm shut = grind arith

writes_prog : (p : Parts) (pages : List (List ℕ)) → IsSound p → is_pending p ≡ true → IsSound (record p { prog = pages })
writes_prog p pages sound pending = grind arith

-- a table slot, where the release can go as before
writes_table : (p : Parts) (tables : List (List ℕ)) → IsSound p → is_pending p ≡ true → (IsGoing p.tables p.inbox p.staged (chosen_side p) → IsGoing tables p.inbox p.staged (chosen_side p))
    → IsSound (record p { tables = tables })
writes_table p tables sound pending goes = grind arith

pub writing_keeps : WritingKeeps
writing_keeps = record {
  side = λ p bytes sound calm shut. record { sound = writes_side p bytes sound calm shut; chosen = chooses_kept p (with_other_side bytes p) (other_written p bytes) (λ m stores. refl) };
  symbols = λ p area sound shut. record { sound = writes_symbols p area sound shut; chosen = chooses_kept p (record p { symbols = area }) refl (λ m stores. refl) };
  relocs = λ p area sound shut. record { sound = writes_relocs p area sound shut; chosen = chooses_kept p (record p { relocs = area }) refl (λ m stores. refl) };
  staged = λ p pages sound calm shut. record {
    sound = writes_staged p pages sound calm shut;
    chosen = chooses_kept p (record p { staged = pages }) refl (λ m stores. at_rest (record p { staged = pages }) m calm ∙ flip (at_rest p m calm));
  };
  inbox = λ p slots sound calm shut. record {
    sound = writes_inbox p slots sound calm shut;
    chosen = chooses_kept p (record p { inbox = slots }) refl (λ m stores. at_rest (record p { inbox = slots }) m calm ∙ flip (at_rest p m calm));
  };
  prog = λ p pages sound pending. record {
    sound = writes_prog p pages sound pending;
    chosen = chooses_kept p (record p { prog = pages }) refl (λ m stores. standing (record p { prog = pages }) m pending ∙ flip (standing p m pending));
  };
  table = λ p s bytes sound pending none. record {
    sound = writes_table p (set p.tables s bytes) sound pending (still_goes p.tables p.inbox p.staged s bytes (chosen_side p) none);
    chosen = chooses_kept p (record p { tables = set p.tables s bytes }) refl (λ m stores.
        standing (record p { tables = set p.tables s bytes }) m pending ∙ ap components_in (same_going p.tables p.inbox p.staged s bytes m (none m stores)) ∙ flip (standing p m pending));
  };
}

-- ---- gates that are opened

opens_man : (p : Parts) (b : Bool) → IsSound p → is_pending p ≡ false → p.gates man ≡ false → IsNext (chosen_side p) (other_side p) → IsSound (with_gate man b p)
opens_man p b sound calm shut next = grind arith

opens_sym : (p : Parts) (b : Bool) → IsSound p → is_pending p ≡ false → p.gates sym ≡ false → p.gates man ≡ true
    → HoldsSet p.tables p.prog p.inbox (chosen_side p) (other_side p) → HasLateCause p.tables p.prog p.inbox (chosen_side p) (other_side p)
    → HasTable p.tables p.prog p.inbox (chosen_side p) (other_side p) p.symbols → IsSound (with_gate sym b p)
opens_sym p b sound calm shut man_open set_there cause table = grind arith

opens_rel : (p : Parts) (b : Bool) → IsSound p → is_pending p ≡ false → p.gates rel ≡ false → p.gates sym ≡ true
    → HasNoCause p.tables p.prog p.inbox (chosen_side p) (other_side p) → HasList p.tables p.prog p.inbox (chosen_side p) (other_side p) p.relocs → IsSound (with_gate rel b p)
opens_rel p b sound calm shut merged cause list = grind arith

opens_img : (p : Parts) (b : Bool) → IsSound p → is_pending p ≡ false → p.gates img ≡ false → p.gates rel ≡ true
    → HasImage p.tables p.prog p.inbox (chosen_side p) (other_side p) p.staged → IsSound (with_gate img b p)
opens_img p b sound calm shut listed image = grind arith

pub opening_keeps : OpeningKeeps
opening_keeps = record {
  manifest = λ p b sound calm shut next. record { sound = opens_man p b sound calm shut next; chosen = chooses_kept p (with_gate man b p) refl (λ m stores. refl) };
  symbols = λ p b sound calm shut man_open set_there cause table. record {
    sound = opens_sym p b sound calm shut man_open set_there cause table;
    chosen = chooses_kept p (with_gate sym b p) refl (λ m stores. refl);
  };
  relocs = λ p b sound calm shut merged cause list. record { sound = opens_rel p b sound calm shut merged cause list; chosen = chooses_kept p (with_gate rel b p) refl (λ m stores. refl) };
  image = λ p b sound calm shut listed image. record { sound = opens_img p b sound calm shut listed image; chosen = chooses_kept p (with_gate img b p) refl (λ m stores. refl) };
}

-- ---- a commit

-- what an open image gate vouches for
record Linked (p : Parts) : Type 0 where
  pub installed : IsInstalled p.tables p.prog (chosen_side p)
  pub next : IsNext (chosen_side p) (other_side p)
  pub image : HasImage p.tables p.prog p.inbox (chosen_side p) (other_side p) p.staged

linked : (p : Parts) → IsSound p → is_pending p ≡ false → p.gates img ≡ true → Linked p
linked p sound calm is_open =
    let rest = sound.rest calm in
    let staged = rest.img_open is_open in
    let listed = rest.rel_open staged.listed in
    let merged = rest.sym_open listed.merged in
    record { installed = rest.installed; next = rest.man_open merged.incoming; image = staged.image }

-- the other side can go
goes : (p : Parts) (b : Bool) → IsSound p → is_pending p ≡ false → p.gates img ≡ true → IsGoing p.tables p.inbox p.staged (other_side p) → IsSound (with_gate (other_go p) b p)
goes p b sound calm image can = grind arith

-- where the gate stayed closed the choice stays
stays : (p : Parts) (b : Bool) → is_pending p ≡ false → b ≡ false → (chosen_side (with_gate (other_go p) b p) ≡ chosen_side p) × (is_pending (with_gate (other_go p) b p) ≡ false)
stays p b calm shut = (grind arith, grind arith)

-- where it opened the other side is chosen
brought : (p : Parts) (b : Bool) → is_pending p ≡ false → b ≡ true → (chosen_side (with_gate (other_go p) b p) ≡ other_side p) × (is_pending (with_gate (other_go p) b p) ≡ true)
brought p b calm stands = (grind arith, grind arith)

pub commit_is_whole : CommitIsWhole
commit_is_whole p b sound calm image =
    let q = with_gate (other_go p) b p in
    let l = linked p sound calm image in
    record {
      sound = goes p b sound calm image (can_go p.tables p.prog p.inbox p.staged (chosen_side p) (other_side p) l.installed l.next l.image);
      before = λ shut. let s = stays p b calm shut in chooses_kept p q s.0 (λ m stores. at_rest q m s.1 ∙ flip (at_rest p m calm));
      behind = λ stands c other. let s = brought p b calm stands in record {
        release = subst (λ (bytes : List ℕ). Stores bytes c.release) (flip s.0) other.release;
        set = standing q c.release s.1
            ∙ goes_as_it_came p.tables p.prog p.inbox p.staged (chosen_side p) (other_side p) l.installed l.next l.image other.now other.is_now.release
            (flip (at_rest p other.now.release calm) ∙ other.is_now.set) c.release other.release
            ∙ other.set;
      };
    }

-- ---- the end of an installation

selects : (p : Parts) (b : Bool) → IsSound p → is_pending p ≡ true → IsSound (with_gate sel b p)
selects p b sound pending = grind arith

selected : (p : Parts) (b : Bool) → is_pending p ≡ true → chosen_side (with_gate sel b p) ≡ chosen_side p
selected p b pending = grind arith

pub selecting_keeps : SelectingKeeps
selecting_keeps p b sound pending = record { sound = selects p b sound pending; chosen = chooses_kept p (with_gate sel b p) (selected p b pending) (λ m stores. refl) }

finishes : (p : Parts) (b : Bool) → IsSound p → is_pending p ≡ true → p.gates sel ≡ is_on_b p → p.gates img ≡ false → p.gates rel ≡ false → p.gates sym ≡ false → p.gates man ≡ false
    → IsInstalled p.tables p.prog (chosen_side p) → IsSound (with_gate (chosen_go p) b p)
finishes p b sound pending at no_img no_rel no_sym no_man installed = grind arith

-- the choice stays
pub finished : (p : Parts) (b : Bool) → IsSound p → is_pending p ≡ true → p.gates sel ≡ is_on_b p
    → (chosen_side (with_gate (chosen_go p) b p) ≡ chosen_side p) × (is_pending (with_gate (chosen_go p) b p) ≡ b)
finished p b sound pending at = (grind arith, grind arith)

pub finishing_keeps : FinishingKeeps
finishing_keeps p b sound pending at no_img no_rel no_sym no_man done keeps =
    let q = with_gate (chosen_go p) b p in
    let side = chosen_side p in
    let going = sound.going pending in
    let installed = subst (λ (pages : List (List ℕ)). IsInstalled p.tables pages side) (flip done) (comes_to_rest p.tables p.inbox p.staged side going keeps) in
    let shows = finished p b sound pending at in
    record {
      sound = finishes p b sound pending at no_img no_rel no_sym no_man installed;
      chosen = chooses_kept p q shows.0 (λ m stores. sets b shows.1 m stores);
    }
  where
    sets : (s : Bool) → is_pending (with_gate (chosen_go p) b p) ≡ s → (m : StoredRelease) → Stores (chosen_side p) m → set_of (with_gate (chosen_go p) b p) m ≡ set_of p m
    sets true is m stores = standing (with_gate (chosen_go p) b p) m is ∙ flip (standing p m pending)
    sets false is m stores = at_rest (with_gate (chosen_go p) b p) m is ∙ ap (λ (pages : List (List ℕ)). kept_set p.tables pages m) done
        ∙ rests_as_it_went p.tables p.inbox p.staged (chosen_side p) (sound.going pending) keeps m stores ∙ flip (standing p m pending)

-- ---- what is free

writes_rest : (p : Parts) (inbox tables : List (List ℕ)) → IsSound p → is_pending p ≡ false → p.gates sym ≡ false
    → (IsInstalled p.tables p.prog (chosen_side p) → IsInstalled tables p.prog (chosen_side p)) → IsSound (record p { inbox = inbox; tables = tables })
writes_rest p inbox tables sound calm shut stays_installed = grind arith

pub rest_is_free : RestIsFree
rest_is_free = record {
  keeps = λ p inbox tables sound calm shut same.
      let q = record p { inbox = inbox; tables = tables } in
      record {
        sound = writes_rest p inbox tables sound calm shut (still_installed p.tables tables p.prog (chosen_side p) same);
        chosen = chooses_kept p q refl (λ m stores. at_rest q m calm ∙ ap components_in (same_kept p.tables tables p.prog m (same m stores)) ∙ flip (at_rest p m calm));
      };
  run = same_front;
}
