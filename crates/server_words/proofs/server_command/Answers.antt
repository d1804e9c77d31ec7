use Rattle.std.proofs.Common.{◌≡◌, ◌≤◌, [], false, codes, Some, None, ap, ◌∙◌, rules}
use Rattle.std.proofs.lemmas.Result.{IfOk-weaker}
use Rattle.clap.specs.Built.{IsPlainArg}
use Rattle.clap.specs.Facts.{WantsDefault, args_of, groups_of, least_values}
use Rattle.clap.specs.declared.builder.action.ArgAction.TheVariants.{Set}
use Rattle.clap.specs.declared.builder.arg.Arg.{Arg}
use Rattle.clap.specs.declared.builder.command.Command.TheViews.{out-Command}
use Rattle.clap.specs.declared.builder.value_parser.ValueParser.TheVariants as vp
use Rattle.server_words.specs.Offers.{Offers}
use Rattle.server_words.proofs.Offered.{offered}
use Rattle.server_words.proofs.server_command.Goals as goal

pub returns-clause-offers : goal.returns-clause-offers
returns-clause-offers c =
    let start = c.no_binary_name.result in
    let a = c.default_value-option.result in
    let args : args_of start ≡ [] = search rules in
    let groups : groups_of start ≡ [] = search rules in
    let globals : (out-Command start).has_globals ≡ false = search rules in
    let plain : IsPlainArg a = search rules in
    let global : a.global ≡ false = search rules in
    let set : a.action ≡ Some Set = search rules in
    let delimiter : a.val_delim ≡ None = search rules in
    let least : 1 ≤ least_values a = search rules in
    let id : a.id.now ≡ codes "connections" = search rules in
    let read = c.value_parser.ensures.given in
    let parser : a.value_parser ≡ Some (vp.Unsigned 1 1000000) =
    ap (λ (x : Arg). x.value_parser) c.default_value-option.ensures ∙ (read.1 ∙ ap Some (read.2 ∙ c.unsigned.ensures)) in
    let wants : WantsDefault a = search rules in
    IfOk-weaker c.arg.result _ Offers
    (λ cmd added. offered start cmd a added args groups globals plain global set delimiter least id parser wants)
    c.arg.ensures
