use Rattle.std.proofs.Common.{◌≡◌, ◌∙◌, ap, ℕ, List, [], ◌∷◌, ◌++◌}
use Rattle.update_laws.specs.Update.{Delivered}
use Rattle.drawn_releases.specs.Generator.{Drawn, with_one, made, package_of}
use Rattle.drawn_releases.proofs.releases.Drawn.make_one.Goals as goal

-- a drawn release of these
abbrev of_parts : List Delivered → ℕ → ℕ → ℕ → Drawn
of_parts packages stop fill state = record { packages = packages; stop = stop; fill = fill; state = state }

pub returns : goal.returns
returns c =
    let inside = c.self.inside in
    let packages : c.append.new.packages.items ≡ inside.packages.items ++ package_of (made c.args.component 1 inside.random) ∷ [] =
    c.in_ok-append.ensures ∙ ap (λ (d : Delivered). inside.packages.items ++ d ∷ []) c.in_ok-made.ensures.package in
    ap (λ (x : List Delivered). of_parts x inside.stop inside.fill c.make.new.random) packages
    ∙ ap (λ (x : ℕ). of_parts (inside.packages.items ++ package_of (made c.args.component 1 inside.random) ∷ []) inside.stop inside.fill x) c.in_ok-made.ensures.state
    ∙ ap (with_one c.args.component) c.self.view_is
