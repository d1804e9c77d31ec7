use Rattle.std.proofs.Common.{◌≡◌, ℕ, ◌<◌, ◌≤◌, ◌+◌, ◌*◌, ◌/◌, ◌%◌, ◌++◌, ◌∷◌, Bool, cond, eqb, Some, None, List, [], length, get_or, take, refl, sym, ap, ap₂, subst, ◌∙◌, arith, rules}
use Rattle.std.specs.Prelude.{is_some}
use Rattle.std.specs.List.{concat}
use Rattle.std.proofs.lemmas.List.{take_more_set, length-set}
use Rattle.component_package.specs.declared.manifest.Entry.{Entry}
use Rattle.component_package.specs.packages.Reading.{list_of}
use Rattle.kept_definitions.specs.Stored.{Placed, placed_at}
use Rattle.kept_manifests.specs.Steps.{is_place, place_fault}
use Rattle.component_package.proofs.First.{first_fault-at, first_fault-more}
use Rattle.component_package.proofs.StoredLemmas.{first_page_byte}
use Rattle.kept_manifests.specs.declared.pages.SlotManifest.{SlotManifest}
use Rattle.kept_manifests.proofs.StoredLemmas.{placed_in_page}
use Rattle.kept_manifests.proofs.Numbered.{placed_of, entry_at, slot_of, fresh_at, the_placed, list_of_next}
use Rattle.kept_manifests.proofs.pages.places_in.Goals as goal

-- what the place's test says of its fault
place_says : (b : List ℕ) (es : List Entry) (ss : List ℕ) (i : ℕ) (e : Entry) (slot : ℕ) (f t : Bool) → take i es ≡ list_of (entry_at b) i → take i ss ≡ list_of (slot_of b) i
    → placed_at b i ≡ the_placed e slot f → t ≡ is_place (take i es) (take i ss) e slot → place_fault b i ≡ cond t None (Some i)
place_says b es ss i e slot f t entries slots is test =
    ap (λ (q : Placed). cond (is_place (list_of (entry_at b) i) (list_of (slot_of b) i) q.entry q.slot) None (Some i)) is
    ∙ ap₂ (λ (x : List Entry) (y : List ℕ). cond (is_place x y e slot) None (Some i)) (sym entries) (sym slots)
    ∙ ap (λ (u : Bool). cond u None (Some i)) (sym test)

pub returns-then-not-is_place-clause-fault : goal.returns-then-not-is_place-clause-fault
returns-then-not-is_place-clause-fault c =
    let b : List ℕ = concat c.args.pages.now in
    let i : ℕ = c.loop-i.i in
    let lt : i < c.args.count = c.loop-i-test.true in
    let few : c.args.count ≤ 16 = c.requires.count in
    let five : length c.args.pages.now ≡ 5 = search rules in
    let small : i < 16 = omega arith in
    let page : List ℕ = get_or c.args.pages.now (1 + i / 4) [] in
    let slot : ℕ = get_or page (64 * (i % 4) + 38) 0 in
    let mark : Bool = eqb (get_or page (64 * (i % 4) + 39) 0) 1 in
    let read : placed_at b i ≡ the_placed c.entry_in-entry.result slot mark =
    placed_in_page c.args.pages.now i c.requires.sizes five small ∙ ap (λ (e : Entry). the_placed e slot mark) (sym c.entry_in-entry.ensures) in
    let says : place_fault b i ≡ Some i = place_says b c.loop-i.entries c.loop-i.slots i c.entry_in-entry.result slot mark c.is_place.result c.loop-i.invariant.entries c.loop-i.invariant.slots read c.is_place.ensures
    ∙ ap (λ (t : Bool). cond t None (Some i)) c.if-not-is_place.true in
    sym (ap is_some (first_fault-at (place_fault b) c.args.count i i lt c.loop-i.invariant.none says))

pub loop-i-preserved : goal.loop-i-preserved
loop-i-preserved c =
    let b : List ℕ = concat c.args.pages.now in
    let i : ℕ = c.loop-i.i in
    let lt : i < c.args.count = c.loop-i-test.true in
    let few : c.args.count ≤ 16 = c.requires.count in
    let five : length c.args.pages.now ≡ 5 = search rules in
    let small : i < 16 = omega arith in
    let page : List ℕ = get_or c.args.pages.now (1 + i / 4) [] in
    let slot : ℕ = get_or page (64 * (i % 4) + 38) 0 in
    let e : Entry = c.entry_in-entry.result in
    let mark : Bool = eqb (get_or page (64 * (i % 4) + 39) 0) 1 in
    let read : placed_at b i ≡ the_placed e slot mark =
    placed_in_page c.args.pages.now i c.requires.sizes five small ∙ ap (λ (x : Entry). the_placed x slot mark) (sym c.entry_in-entry.ensures) in
    let says : place_fault b i ≡ None = place_says b c.loop-i.entries c.loop-i.slots i e slot mark c.is_place.result c.loop-i.invariant.entries c.loop-i.invariant.slots read c.is_place.ensures
    ∙ ap (λ (t : Bool). cond t None (Some i)) c.if-not-is_place.false in
    let room : length c.loop-i.entries ≡ 16 = c.loop-i.invariant.room in
    let slot_room : length c.loop-i.slots ≡ 16 = c.loop-i.invariant.slot_room in
    let fresh_room : length c.loop-i.fresh ≡ 16 = c.loop-i.invariant.fresh_room in
    record {
      room = length-set c.loop-i.entries i e ∙ room;
      slot_room = length-set c.loop-i.slots i slot ∙ slot_room;
      fresh_room = length-set c.loop-i.fresh i mark ∙ fresh_room;
      entries =
          take_more_set c.loop-i.entries i e (omega arith)
          ∙ ap₂ (λ (xs : List Entry) (x : Entry). xs ++ x ∷ []) c.loop-i.invariant.entries (sym (ap (λ (q : Placed). q.entry) read)) ∙ list_of_next (entry_at b) i;
      slots =
          take_more_set c.loop-i.slots i slot (omega arith)
          ∙ ap₂ (λ (xs : List ℕ) (x : ℕ). xs ++ x ∷ []) c.loop-i.invariant.slots (sym (ap (λ (q : Placed). q.slot) read)) ∙ list_of_next (slot_of b) i;
      fresh =
          take_more_set c.loop-i.fresh i mark (omega arith)
          ∙ ap₂ (λ (xs : List Bool) (x : Bool). xs ++ x ∷ []) c.loop-i.invariant.fresh (sym (ap (λ (q : Placed). q.fresh) read)) ∙ list_of_next (fresh_at b) i;
      none = first_fault-more (place_fault b) i c.loop-i.invariant.none says;
    }

pub returns-clause-placed : goal.returns-clause-placed
returns-clause-placed c =
    let b : List ℕ = concat c.args.pages.now in
    let n : ℕ = c.args.count in
    let end : c.loop-i.i ≡ n = omega (arith, c.loop-i-test.false, c.loop-i.auto.i-end) in
    let entries : take n c.loop-i.entries ≡ list_of (entry_at b) n = subst (λ (k : ℕ). take k c.loop-i.entries ≡ list_of (entry_at b) k) end c.loop-i.invariant.entries in
    let slots : take n c.loop-i.slots ≡ list_of (slot_of b) n = subst (λ (k : ℕ). take k c.loop-i.slots ≡ list_of (slot_of b) k) end c.loop-i.invariant.slots in
    let fresh : take n c.loop-i.fresh ≡ list_of (fresh_at b) n = subst (λ (k : ℕ). take k c.loop-i.fresh ≡ list_of (fresh_at b) k) end c.loop-i.invariant.fresh in
    let m : SlotManifest = record { manifest = record { release = c.u32_in-release.result; count = n; entries = c.loop-i.entries }; slots = c.loop-i.slots; fresh = c.loop-i.fresh } in
    placed_of b m entries slots fresh

pub returns-clause-number : goal.returns-clause-number
returns-clause-number c =
    let ps : List (List ℕ) = c.args.pages.now in
    let five : length ps ≡ 5 = search rules in
    let byte : (k : ℕ) → k < 256 → get_or (get_or ps 0 []) k 0 ≡ get_or (concat ps) k 0 = λ k lt. sym (first_page_byte ps k c.requires.sizes (omega arith) lt) in
    c.u32_in-release.ensures ∙ rw (byte 0 (omega arith), byte 1 (omega arith), byte 2 (omega arith), byte 3 (omega arith)) refl
