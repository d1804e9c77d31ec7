use Rattle.std.proofs.Common.{◌≡◌, ℕ, ◌+◌, true, false, Option, List, length, map, sym, ap, ap₂, ◌∙◌, arith}
use Rattle.object_packer.specs.Names.{names}
use Rattle.component_package.specs.packages.Component.{spelling}
use Rattle.object_packer.specs.Names.{number_in}
use Rattle.object_packer.specs.Packed.{packed}
use Rattle.release_rows.specs.declared.row.SymbolRow.{SymbolRow}
use Rattle.release_rows.specs.declared.change.Effect.TheVariants as effects
use Rattle.release_rows.specs.Tables.{symbol_number}
use Rattle.release_judging.specs.declared.judged.Judged.TheVariants.{Does}
use Rattle.release_versions.specs.Numbers.{numbers_from, rows_from, new_count}
use Rattle.release_versions.specs.Versions.{are_symbols}
use Rattle.release_versions.proofs.Named.{length_numbers}
use Rattle.release_versions.proofs.Judged.{IsKnown, too_many, not_symbols, kept}
use Rattle.release_versions.proofs.version.judge_names.Goals as goal

pub returns-then-count-new_count-gt-MAX_SYMBOLS-clause-judged : goal.returns-then-count-new_count-gt-MAX_SYMBOLS-clause-judged
returns-then-count-new_count-gt-MAX_SYMBOLS-clause-judged g c = λ t told.
    let o = c.args.object.now in
    let is : IsKnown t o c.in_ok-count.count c.in_ok-known.known.items = record {
      count_is = c.in_ok-count.ensures.row t told;
      known_is = c.in_ok-known.ensures.known t (c.in_ok-count.ensures.reads.tables ∙ told) ∙ ap (map (symbol_number t)) c.requires.names;
    } in
    let new : c.new_count.result ≡ new_count c.in_ok-known.known.items = c.new_count.ensures ∙ ap new_count c.deref.ensures.value in
    c.in_ok-refused.ensures ∙ too_many t c.args.name.now o c.args.component c.args.version c.in_ok-count.count c.in_ok-known.known.items is
    (omega (arith, c.if-count-new_count-gt-MAX_SYMBOLS.true, new))

pub returns-then-not-branch-clause-judged : goal.returns-then-not-branch-clause-judged
returns-then-not-branch-clause-judged g c = λ t told.
    let o = c.args.object.now in
    let is : IsKnown t o c.in_ok-count.count c.in_ok-known.known.items = record {
      count_is = c.in_ok-count.ensures.row t told;
      known_is = c.in_ok-known.ensures.known t (c.in_ok-count.ensures.reads.tables ∙ told) ∙ ap (map (symbol_number t)) c.requires.names;
    } in
    let new : c.new_count.result ≡ new_count c.in_ok-known.known.items = c.new_count.ensures ∙ ap new_count c.deref.ensures.value in
    let numbers : c.deref-3.result.now ≡ numbers_from (16 + c.in_ok-count.count) c.in_ok-known.known.items =
    c.deref-3.ensures.value ∙ c.in_ok-numbers.ensures ∙ ap (numbers_from (16 + c.in_ok-count.count)) c.deref-2.ensures.value in
    let bad : are_symbols (numbers_from (16 + c.in_ok-count.count) c.in_ok-known.known.items) ≡ false =
    ap are_symbols (sym numbers) ∙ sym c.in_ok-are_symbols.ensures ∙ c.if-not-branch.true in
    c.in_ok-refused-2.ensures ∙ not_symbols t c.args.name.now o c.args.component c.args.version c.in_ok-count.count c.in_ok-known.known.items is
    (omega (arith, c.if-count-new_count-gt-MAX_SYMBOLS.false, new)) bad

pub keep_version-requires-clause-count : goal.keep_version-requires-clause-count
keep_version-requires-clause-count g c =
    let numbers : c.deref-5.result.now ≡ numbers_from (16 + c.in_ok-count.count) c.in_ok-known.known.items =
    c.deref-5.ensures.value ∙ c.in_ok-numbers.ensures ∙ ap (numbers_from (16 + c.in_ok-count.count)) c.deref-2.ensures.value in
    ap length numbers ∙ length_numbers (16 + c.in_ok-count.count) c.in_ok-known.known.items ∙ c.in_ok-known.ensures.count ∙ ap length c.requires.names

pub returns-clause-judged : goal.returns-clause-judged
returns-clause-judged g c = λ t told.
    let o = c.args.object.now in
    let is : IsKnown t o c.in_ok-count.count c.in_ok-known.known.items = record {
      count_is = c.in_ok-count.ensures.row t told;
      known_is = c.in_ok-known.ensures.known t (c.in_ok-count.ensures.reads.tables ∙ told) ∙ ap (map (symbol_number t)) c.requires.names;
    } in
    let new : c.new_count.result ≡ new_count c.in_ok-known.known.items = c.new_count.ensures ∙ ap new_count c.deref.ensures.value in
    let numbers : c.deref-3.result.now ≡ numbers_from (16 + c.in_ok-count.count) c.in_ok-known.known.items =
    c.deref-3.ensures.value ∙ c.in_ok-numbers.ensures ∙ ap (numbers_from (16 + c.in_ok-count.count)) c.deref-2.ensures.value in
    let given : c.deref-5.result.now ≡ numbers_from (16 + c.in_ok-count.count) c.in_ok-known.known.items =
    c.deref-5.ensures.value ∙ c.in_ok-numbers.ensures ∙ ap (numbers_from (16 + c.in_ok-count.count)) c.deref-2.ensures.value in
    let rows : c.in_ok-symbols.symbols ≡ rows_from (16 + c.in_ok-count.count) (names o) c.in_ok-known.known.items =
    c.in_ok-symbols.ensures ∙ ap₂ (λ (ns : List (List ℕ)) (ks : List (Option ℕ)). rows_from (16 + c.in_ok-count.count) ns ks) c.requires.names c.deref-4.ensures.value in
    let good : are_symbols (numbers_from (16 + c.in_ok-count.count) c.in_ok-known.known.items) ≡ true =
    ap are_symbols (sym numbers) ∙ sym c.in_ok-are_symbols.ensures ∙ c.if-not-branch.false in
    c.in_ok-keep_version.ensures.judged
    ∙ ap₂ (λ (rs : List SymbolRow) (numbers : List ℕ). Does (effects.Version c.args.name.now c.args.component c.args.version rs (spelling (packed o c.args.component c.args.version (number_in (names o) numbers))))) rows given
    ∙ kept t c.args.name.now o c.args.component c.args.version c.in_ok-count.count c.in_ok-known.known.items is (omega (arith, c.if-count-new_count-gt-MAX_SYMBOLS.false, new)) good
