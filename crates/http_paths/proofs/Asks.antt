-- What a path asks for, by what is found.
use Rattle.std.proofs.Common.{◌≡◌, ℕ, List, true, false, Some, None, refl, sym, ◌∙◌, subst, Option}
use Rattle.std.specs.Prelude.{IfSome, IsUtf8}
use Rattle.std.specs.Char.{is_ascii}
use Rattle.std.specs.List.{list_all}
use Rattle.std.proofs.lemmas.Str.{IsUtf8-from_ascii}
use Rattle.matchit.specs.Route.{scan}
use Rattle.matchit.specs.Router.{RouteOf}
use Rattle.matchit.specs.Seek.{first}
use Rattle.matchit.specs.Params.{AllText, walk}
use Rattle.matchit.specs.declared.params.Params.{Params}
use Rattle.matchit.specs.Rows.{RowsOf}
use Rattle.http_paths.specs.Routes.{routes}
use Rattle.http_paths.specs.Paths.{parts, parts_held, target_of, asked_from}
use Rattle.http_paths.specs.declared.paths.Route.{Route}
use Rattle.http_paths.proofs.Seeks.{Each, seek_holds}
use Rattle.http_paths.proofs.Texts.{walk_text, all_ascii}

-- the text of a route is ASCII
abbrev pub IsPlain : RouteOf Route → Type 0
IsPlain r = list_all is_ascii r.text ≡ true

pub routes_plain : Each IsPlain routes
unfolding routes scan
routes_plain = (refl, (refl, (refl, (refl, (refl, (refl, tt))))))

-- the parts of a route that is found are texts
pub held_text : (path : List ℕ) (r : RouteOf Route) → list_all is_ascii path ≡ true → first routes path ≡ Some r → AllText (parts path r)
held_text path r ascii found =
    let plain : IfSome (Some r) IsPlain = subst (λ (o : Option (RouteOf Route)). IfSome o IsPlain) found (seek_holds IsPlain 0 routes path routes_plain) in
    walk_text r.pattern r.text path r.names 0 0 (all_ascii r.text plain) (all_ascii path ascii)

pub asked : (path : List ℕ) (r : RouteOf Route) → list_all is_ascii path ≡ true → first routes path ≡ Some r → target_of path ≡ asked_from r.value (parts path r)
asked path r ascii found = rw (ascii, found) refl

pub not_ascii : (path : List ℕ) → list_all is_ascii path ≡ false → target_of path ≡ None
not_ascii path other = rw other refl

pub not_found : (path : List ℕ) → list_all is_ascii path ≡ true → first routes path ≡ None → target_of path ≡ None
not_found path ascii none = rw (ascii, none) refl

pub path_text : (path : List ℕ) → list_all is_ascii path ≡ true → IsUtf8 path
path_text path ascii = IsUtf8-from_ascii path (all_ascii path ascii)

-- the parts that a match holds are texts
pub held_parts : (path text : List ℕ) (rows : RowsOf (RouteOf Route)) (p : Params) (value : Route) → list_all is_ascii path ≡ true → rows ≡ routes → text ≡ path → p.path.now ≡ text
    → first rows text ≡ Some (record { pattern = p.pattern.now; text = p.text.now; names = p.names.now; value = value }) → AllText (parts_held p)
held_parts path text rows p value ascii all same whole found =
    let r : RouteOf Route = record { pattern = p.pattern.now; text = p.text.now; names = p.names.now; value = value } in
    let at_text : first routes text ≡ Some r = subst (λ (rs : RowsOf (RouteOf Route)). first rs text ≡ Some r) all found in
    let at_path : first routes path ≡ Some r = subst (λ (xs : List ℕ). first routes xs ≡ Some r) same at_text in
    subst (λ (xs : List ℕ). AllText (walk p.pattern.now p.text.now xs p.names.now 0 0)) (sym (whole ∙ same)) (held_text path r ascii at_path)
