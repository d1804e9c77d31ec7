-- The option of the command: what is made of it, and what its matches have.
use Rattle.std.proofs.Common.{◌≡◌, ◌≤◌, ◌<◌, ◌||◌, ◌∙◌, ℕ, List, [], ◌∷◌, ◌++◌, length, false, true, is_some, codes, Option, Some, None, Result, Ok, Err, refl, sym, ap, subst, arith, inl, inr, slice_index}
use Rattle.std.specs.List.{All, slice_index_or}
use Rattle.std.specs.Str.Parse.{ParsesUnsigned, digits_value, without_leading_plus}
use Rattle.std.proofs.lemmas.List.Elements.{All-nil}
use Rattle.clap.specs.Built.{AddsArg, IsParsedFrom, IsPlain, IsPlainArg}
use Rattle.clap.specs.Facts.{WantsDefault, args_of, groups_of, least_values}
use Rattle.clap.specs.Matches.{ReadsOne, found_of, one_text}
use Rattle.clap.specs.Values.{IsUnsignedIn}
use Rattle.clap.specs.declared.builder.action.ArgAction.TheVariants.{Set}
use Rattle.clap.specs.declared.builder.arg.Arg.{Arg}
use Rattle.clap.specs.declared.builder.command.Command.{Command}
use Rattle.clap.specs.declared.builder.command.Command.TheViews.{out-Command}
use Rattle.clap.specs.declared.builder.value_parser.ValueParser.TheVariants as vp
use Rattle.clap.specs.declared.parser.matches.ArgMatches.{ArgMatches}
use Rattle.clap.specs.Words.{App, Text, HasKind, HasMatchesOf, IsAmong, Kinds, app_of, fault_of, is_simple, is_simple_and_free, kind_of, matches_of, one_of}
use Rattle.clap.specs.declared.error.Error.{Error}
use Rattle.clap.specs.declared.error.kind.ErrorKind.TheVariants.{OutOfMemory}
use Rattle.clap.proofs.WalkLemmas.{one_text-rows}
use Rattle.clap.proofs.CallerLemmas.{added_plain}
use Rattle.server_words.specs.Words.{Answers, server_app}
use Rattle.server_words.specs.declared.WordsFault.{WordsFault}
use Rattle.server_words.specs.declared.WordsFault.TheVariants.{Refused, Memory}
use Rattle.server_words.specs.Offers.{HasNumber, Offers}
use Rattle.server_words.proofs.DefaultReads.{default_reads}

single : (a b : Arg) (rest : List Arg) → rest ≡ [] → rest ++ a ∷ [] ≡ a ∷ []
single a b rest e = rw e refl

pub offered : (start cmd : Command) (a : Arg) → AddsArg start a cmd → args_of start ≡ [] → groups_of start ≡ [] → (out-Command start).has_globals ≡ false
    → IsPlainArg a → a.global ≡ false → a.action ≡ Some Set → a.val_delim ≡ None → 1 ≤ least_values a → a.id.now ≡ codes "connections"
    → a.value_parser ≡ Some (vp.Unsigned 1 1000000) → WantsDefault a → Offers cmd
offered start cmd a added args groups globals plain global set delim least id parser wants =
    let r = added.rules in
    let list : args_of cmd ≡ added.arg ∷ [] = added.args ∙ ap (λ l. l ++ added.arg ∷ []) args in
    let start_plain : IsPlain start = (subst (All IsPlainArg) (sym args) (All-nil IsPlainArg), groups) in
    let plain2 : IsPlain cmd = added_plain start cmd a added start_plain plain in
    let each : All IsPlainArg (added.arg ∷ []) = subst (All IsPlainArg) list plain2.0 in
    record {
      arg = added.arg;
      args = list;
      groups = plain2.1;
      globals = added.globals ∙ (ap (λ b. b || a.global) globals ∙ ap (λ b. false || b) global);
      plain = each 0 added.arg (omega arith);
      id = ap (λ x. x.now) r.id ∙ id;
      action = r.action Set set;
      delimiter = r.val_delim ∙ delim;
      least = r.least set least;
      parser = r.parser (vp.Unsigned 1 1000000) parser;
      defaults = (r.ifs ∙ wants.0, rw (r.defaults wants.1) wants.1);
    }

only_one : (a : Arg) (xs : List Arg) → xs ≡ a ∷ [] → (j : ℕ) → j < length xs → j ≡ 0
only_one a xs list j low =
    let one : j < 1 = subst (λ l. j < length l) list low in
    omega arith

no_help : (t : List ℕ) → t ≡ codes "connections" → (t ≡ codes "help" → ⊥) × (t ≡ codes "version" → ⊥) × (t ≡ [] → ⊥)
no_help t is =
    let at : slice_index t 0 ≡ 99 = rw is refl in (
      λ h. let bad : slice_index t 0 ≡ 104 = rw h refl in absurd (omega arith),
      λ v. let bad : slice_index t 0 ≡ 118 = rw v refl in absurd (omega arith),
      λ e. let bad : slice_index t 0 ≡ 0 = rw e refl in absurd (omega arith),
    )

first_of_one : (a : Arg) (k : ℕ) (d : Arg) → k < length (a ∷ []) → slice_index_or (a ∷ []) k d ≡ a
first_of_one a k d low = let is : k ≡ 0 = omega arith in rw is refl

one_plain : (a : Arg) → IsPlainArg a → All IsPlainArg (a ∷ [])
one_plain a h = λ k d low. subst IsPlainArg (sym (first_of_one a k d low)) h

-- the matches have the option's number
pub number_given : (c : Command) (m : ArgMatches) → Offers c → IsParsedFrom c m → HasNumber m
number_given c m o p =
    let elem : slice_index_or (args_of c) 0 o.arg ≡ o.arg = ap (λ l. slice_index_or l 0 o.arg) o.args in
    let lt : 0 < length (args_of c) = subst (λ l. 0 < length l) (sym o.args) (omega arith) in
    let plain : IsPlain c = (subst (All IsPlainArg) (sym o.args) (one_plain o.arg o.plain), o.groups) in
    let other = no_help o.arg.id.now o.id in
    let id : (slice_index_or (args_of c) 0 o.arg).id.now ≡ o.arg.id.now = ap (λ (x : Arg). x.id.now) elem in
    let got = default_reads c m p plain o.globals 0 o.arg lt
    (subst WantsDefault (sym elem) o.defaults)
    (ap (λ (x : Arg). x.action) elem ∙ o.action)
    (ap (λ (x : Arg). x.val_delim) elem ∙ o.delimiter)
    (subst (λ (x : Arg). 1 ≤ least_values x) (sym elem) o.least)
    (λ j e low same. only_one o.arg (args_of c) o.args j low)
    (λ empty. other.2 (sym id ∙ empty))
    (λ auto. elim auto [ inl h ↦ other.0 (sym id ∙ h) | inr h ↦ other.1 (sym id ∙ h) ])
    (vp.Unsigned 1 1000000) (ap (λ (x : Arg). x.value_parser) elem ∙ o.parser) in
    record {
      text = got.0;
      given = subst (λ (w : List ℕ). one_text (found_of m) w ≡ Some got.0) (id ∙ o.id) got.1;
      number = got.2;
    }

-- a text that is a number in the range reads as it
pub unsigned_read : (E : Type 0) (G : List ℕ → Result ℕ E → Type 0) (low high : ℕ) (t : List ℕ) (r : Option ℕ)
    → ReadsOne G t r → ((u : List ℕ) (x : Result ℕ E) → G u x → ParsesUnsigned 64 10 u x) → IsUnsignedIn low high t
    → r ≡ Some (digits_value 10 (without_leading_plus t))
unsigned_read E G low high t (Some v) read only number = ap Some (only t (Ok v) read).1
unsigned_read E G low high t None read only number = absurd (only t (Err read.0) read.1 (number.0, number.1))

pub some_is : (r : Option ℕ) (n : ℕ) → r ≡ Some n → is_some r ≡ true
some_is r n e = rw e refl

pub same_count : (r : Option ℕ) (v n : ℕ) → r ≡ Some v → r ≡ Some n → v ≡ n
same_count r v n e h = cc

-- words that are taken have no fault
pub no_fault : (c : Command) (words : List Text) → app_of c ≡ server_app → (is_simple_and_free (app_of c) ≡ true → fault_of (app_of c) words ≡ [])
    → fault_of server_app words ≡ []
no_fault c words app h =
    let simple : is_simple_and_free server_app ≡ true = refl in
    subst (λ (a : App). fault_of a words ≡ []) app (h (ap is_simple_and_free app ∙ simple))

-- and words that are refused for another cause than memory have one
pub is_answered : (c : Command) (words : List Text) (e : Error) (f : WordsFault) → app_of c ≡ server_app
    → (is_simple_and_free (app_of c) ≡ true → HasKind (fault_of (app_of c) words) e) → (f ≡ Refused → kind_of e ≡ OutOfMemory → ⊥)
    → Answers {T = ArgMatches} (fault_of server_app words) (Err f)
is_answered c words e Memory app h other = tt
is_answered c words e Refused app h other = λ none.
    let simple : is_simple_and_free server_app ≡ true = refl in
    elim (subst (λ (a : App). HasKind (fault_of a words) e) app (h (ap is_simple_and_free app ∙ simple))) [
      | inl memory ↦ other refl memory
      | inr among ↦ subst (λ (ks : Kinds). IsAmong (kind_of e) ks) none among
    ]

-- the text that the definition gives the option
pub given_by_rows : (m : ArgMatches) (words : List Text) (t : List ℕ) → HasMatchesOf server_app words m
    → one_text (found_of m) (codes "connections") ≡ Some t → one_of (codes "connections") (matches_of server_app words) ≡ Some t
given_by_rows m words t rows given =
    let simple : is_simple server_app ≡ true = refl in
    ap (one_of (codes "connections")) (sym (rows simple).0) ∙ (sym (one_text-rows (found_of m) (codes "connections")) ∙ given)
