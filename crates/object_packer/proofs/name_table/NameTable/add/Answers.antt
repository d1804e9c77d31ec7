use Rattle.std.proofs.Common.{rules, vec_len, ◌≡◌, ℕ, Bool, true, false, Option, Some, None, List, [], ◌∷◌, ◌++◌, length, map, refl, sym, ap, subst, ◌∙◌, bytes_eq}
use Rattle.std.specs.Prelude.{is_some}
use Rattle.std.specs.Borrow.{Bor}
use Rattle.std.specs.List.{list_any}
use Rattle.std.proofs.lemmas.List.{map-append, length-map}
use Rattle.object_packer.specs.NameTable.{place_of_name, Finds}
use Rattle.object_packer.proofs.Places.{has_place, finds_next}
use Rattle.object_packer.proofs.name_table.NameTable.add.Goals as goal

-- whether a name is there
told : (ns : List (List ℕ)) (name : List ℕ) (o : Option ℕ) (b a : Bool) → o ≡ place_of_name ns name → b ≡ is_some o → b ≡ a → list_any (λ n. bytes_eq n name) ns ≡ a
told ns name o b a found is e = sym (has_place ns name) ∙ sym (ap is_some found) ∙ sym is ∙ e

not_there : (o : Option ℕ) (b : Bool) → b ≡ is_some o → b ≡ false → o ≡ None
not_there None b is e = refl
not_there (Some x) b is e = absurd cc

pub returns-then-is_some-clause-names : goal.returns-then-is_some-clause-names
returns-then-is_some-clause-names c =
    let here = told c.args.self.now c.args.name.now c.find.result c.is_some.result true c.find.ensures c.is_some.ensures c.if-is_some.true in
    rw here refl

pub returns-then-is_some-clause-answer : goal.returns-then-is_some-clause-answer
returns-then-is_some-clause-answer c =
    let here = told c.args.self.now c.args.name.now c.find.result c.is_some.result true c.find.ensures c.is_some.ensures c.if-is_some.true in
    rw here refl

-- the names with one more
names_more : (is rs js : List (Bor (List ℕ))) (ns : List (List ℕ)) (x : Bor (List ℕ)) → map (λ n. n.now) is ≡ ns → rs ≡ is → js ≡ rs ++ x ∷ [] → map (λ n. n.now) js ≡ ns ++ x.now ∷ []
names_more is rs js ns x view same more = ap (map (λ n. n.now)) more ∙ map-append (λ n. n.now) rs (x ∷ []) ∙ ap (λ ms. ms ++ x.now ∷ []) (ap (map (λ n. n.now)) same ∙ view)

pub invariant_of-self-2 : goal.invariant_of-self-2
invariant_of-self-2 c =
    let ns = c.args.self.now in
    let name = c.args.name.now in
    let gone : place_of_name ns name ≡ None = sym c.find.ensures ∙ not_there c.find.result c.is_some.result c.is_some.ensures c.if-is_some.false in
    let finds : Finds c.self.inside.places ns = subst (λ ms. Finds c.self.inside.places ms) c.self.view_is c.self.invariant in
    let more = names_more c.self.inside.names.items c.reserve.new.self.items c.push_reserved.new.self.items ns c.args.name c.self.view_is c.in_ok-reserve.ensures.items c.push_reserved.ensures.items in
    let len : vec_len c.reserve.new.self ≡ length c.reserve.new.self.items = search rules in
    let count : c.len-place.result ≡ length ns =
    (c.len-place.ensures ∙ len ∙ ap length c.in_ok-reserve.ensures.items ∙ sym (length-map c.self.inside.names.items (λ n. n.now)) ∙ ap length c.self.view_is) in
    subst (λ ms. Finds c.insert.new.self ms) (sym more) (finds_next c.self.inside.places c.insert.new.self ns name c.len-place.result finds gone count c.in_ok-insert.ensures.updates)

pub returns-clause-names : goal.returns-clause-names
returns-clause-names c =
    let ns = c.args.self.now in
    let gone = told c.args.self.now c.args.name.now c.find.result c.is_some.result false c.find.ensures c.is_some.ensures c.if-is_some.false in
    rw gone (names_more c.self.inside.names.items c.reserve.new.self.items c.push_reserved.new.self.items ns c.args.name c.self.view_is c.in_ok-reserve.ensures.items c.push_reserved.ensures.items)

pub returns-clause-answer : goal.returns-clause-answer
returns-clause-answer c =
    let gone = told c.args.self.now c.args.name.now c.find.result c.is_some.result false c.find.ensures c.is_some.ensures c.if-is_some.false in
    rw gone refl
