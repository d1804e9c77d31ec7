-- For private clauses: the command has one option, and its matches have the option's number.
use Rattle.std.specs.Prelude.{◌≡◌, ◌≤◌, ℕ, List, [], ◌∷◌, false, codes, Some, None}
use Rattle.clap.specs.Facts.{WantsDefault, args_of, groups_of, least_values}
use Rattle.clap.specs.Built.{IsPlainArg}
use Rattle.clap.specs.Matches.{found_of, one_text}
use Rattle.clap.specs.Values.{IsUnsignedIn}
use Rattle.clap.specs.declared.builder.action.ArgAction.TheVariants.{Set}
use Rattle.clap.specs.declared.builder.arg.Arg.{Arg}
use Rattle.clap.specs.declared.builder.command.Command.{Command}
use Rattle.clap.specs.declared.builder.command.Command.TheViews.{out-Command}
use Rattle.clap.specs.declared.builder.value_parser.ValueParser.TheVariants as vp
use Rattle.clap.specs.declared.parser.matches.ArgMatches.{ArgMatches}

-- the command's one argument is the option
pub record Offers (c : Command) : Type 0 where
  pub arg : Arg
  pub args : args_of c ≡ arg ∷ []
  pub groups : groups_of c ≡ []
  pub globals : (out-Command c).has_globals ≡ false
  pub plain : IsPlainArg arg
  pub id : arg.id.now ≡ codes "connections"
  pub action : arg.action ≡ Some Set
  pub delimiter : arg.val_delim ≡ None
  pub least : 1 ≤ least_values arg
  pub parser : arg.value_parser ≡ Some (vp.Unsigned 1 1000000)
  pub defaults : WantsDefault arg

-- the option has a text, and it is a number from 1 to 1,000,000
pub record HasNumber (m : ArgMatches) : Type 0 where
  pub text : List ℕ
  pub given : one_text (found_of m) (codes "connections") ≡ Some text
  pub number : IsUnsignedIn 1 1000000 text
