-- What the words of `release_server` mean.
use Rattle.std.specs.Prelude.{◌≡◌, ◌≢◌, ◌≤◌, ℕ, List, [], ◌∷◌, true, codes, Some, Result, Ok, Err}
use Rattle.std.specs.Str.Parse.{digits_value, without_leading_plus}
use Rattle.clap.specs.Words.{App, Kinds, Rule, matches_of, new_app, new_rule, one_of, with_rule}
use Rattle.clap.specs.declared.builder.action.ArgAction.TheVariants.{Set}
use Rattle.clap.specs.declared.builder.value_parser.ValueParser.TheVariants as vp
use Rattle.server_words.specs.declared.WordsFault.{WordsFault}
use Rattle.server_words.specs.declared.WordsFault.TheVariants.{Refused, Memory}

-- `--connections`, with a number from 1 to 1,000,000; 1000 where it isn't given
abbrev pub connections_rule : Rule
connections_rule = record (new_rule (codes "connections")) {
  long = Some (codes "connections");
  action = Some Set;
  parser = Some (vp.Unsigned 1 1000000);
  defaults = codes "1000" ∷ [];
}

-- the command, whose words begin with no program's name
abbrev pub server_app : App
server_app =
    let plain = new_app (codes "release_server") in
    with_rule (record plain { top = record plain.top { no_binary_name = true } }) connections_rule

-- Ok where no word is at fault, and Refused where one is; want of memory may always come
abbrev pub Answers : {T : Type 0} → Kinds → Result T WordsFault → Type 0
Answers faults (Ok t) = faults ≡ []
Answers faults (Err Refused) = faults ≢ []
Answers faults (Err Memory) = Unit {0}

-- The words ask for so many connections.
pub record Asks (words : List (List ℕ)) (count : ℕ) : Type 0 where
  pub text : List ℕ
  pub given : one_of (codes "connections") (matches_of server_app words) ≡ Some text
  pub is : count ≡ digits_value 10 (without_leading_plus text)
  pub some : 1 ≤ count
  pub few : count ≤ 1000000
