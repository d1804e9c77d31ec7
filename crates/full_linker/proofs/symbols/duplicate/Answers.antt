use Rattle.std.proofs.Common.{sym, ap, ◌∙◌, rules}
use Rattle.std.specs.Ordering.{nat_cmp}
use Rattle.std.specs.BTreeMap.{IsOrdered}
use Rattle.component_package.specs.link.Link.{first_cause}
use Rattle.full_linker.proofs.Least.{first_duplicate, entries_none, twice_at, pass_over, stop_at}
use Rattle.full_linker.proofs.symbols.duplicate.Goals as goal

pub loop-symbol-preserved : goal.loop-symbol-preserved
loop-symbol-preserved c =
    sym (ap (first_cause twice_at) c.in-Some.ensures.steps ∙ pass_over (c.in-Some.symbol.now, c.in-Some.slot.now) c.next.new.self (sym c.twice.ensures ∙ c.in_default.is)) ∙ c.loop-symbol.invariant

pub returns-in-Some-twice : goal.returns-in-Some-twice
returns-in-Some-twice c = λ set components are.
    let ordered : IsOrdered nat_cmp c.args.slots.now = search rules in (
      first_duplicate set c.args.slots.now _ are ordered (sym c.loop-symbol.invariant ∙ ap (first_cause twice_at) c.in-Some.ensures.steps
          ∙ stop_at (c.in-Some.symbol.now, c.in-Some.slot.now) c.next.new.self (c.in-Some-twice.first, c.in-Some-twice.second) (sym c.twice.ensures ∙ c.in-Some-twice.is)),
      λ e. cc,
    )

pub returns : goal.returns
returns c = λ set components are. entries_none set c.args.slots.now components are (sym c.loop-symbol.invariant ∙ ap (first_cause twice_at) c.in-None.ensures.steps.0)
