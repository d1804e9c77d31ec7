use Rattle.std.proofs.Common.{◌+◌, ◌≤◌, Bool, sym, subst, arith}
use Rattle.component_package.specs.declared.part.Header.{Header}
use Rattle.component_store.specs.Sets.{length_of_part}
use Rattle.kept_store.specs.Sets.{header_at}
use Rattle.kept_store.proofs.RecordLemmas.{fits_slot}
use Rattle.kept_store.proofs.parts.package_start.Goals as goal

pub returns-then-in_init-clause-room : goal.returns-then-in_init-clause-room
returns-then-in_init-clause-room c =
    let h : Header = header_at c.args.set.now c.args.k in
    let fits = fits_slot c.args.set.now c.args.k c.requires.set c.has_rooms.ensures c.requires.component in
    subst (λ (b : Bool). 32 + h.code + length_of_part h b ≤ 9984) (sym c.if-in_init.true) (omega arith)

pub returns-else-in_init-clause-room : goal.returns-else-in_init-clause-room
returns-else-in_init-clause-room c =
    let h : Header = header_at c.args.set.now c.args.k in
    let fits = fits_slot c.args.set.now c.args.k c.requires.set c.has_rooms.ensures c.requires.component in
    subst (λ (b : Bool). 32 + length_of_part h b ≤ 9984) (sym c.if-in_init.false) (omega arith)
