use Rattle.std.proofs.Common.{◌≡◌, ◌≤◌, ℕ, arith, subst, sym, map}
use Rattle.std.specs.Str.Parse.{ParsesUnsigned, ExplainsUnsignedError, HasUnsignedDigitsIfOk, digits_value, without_leading_plus}
use Rattle.server_words.proofs.Offered.{unsigned_read, some_is, same_count, given_by_rows}
use Rattle.server_words.proofs.connections.Goals as goal

pub unwrap-count-requires : goal.unwrap-count-requires
unwrap-count-requires g c =
    let n = c.in_ok-matches.ensures.number in
    some_is c.get_one.result _
    (unsigned_read _ (λ bs r. ParsesUnsigned 64 10 bs r × ExplainsUnsignedError 10 bs r × HasUnsignedDigitsIfOk bs r) 1 1000000 n.text
    c.get_one.result (c.get_one.ensures.value n.text n.given) (λ u x h. h.0) n.number)

pub overflow_cast-result : goal.overflow_cast-result
overflow_cast-result g c =
    let n = c.in_ok-matches.ensures.number in
    let read =
    unsigned_read _ (λ bs r. ParsesUnsigned 64 10 bs r × ExplainsUnsignedError 10 bs r × HasUnsignedDigitsIfOk bs r) 1 1000000 n.text
    c.get_one.result (c.get_one.ensures.value n.text n.given) (λ u x h. h.0) n.number in
    let is : c.unwrap-count.result ≡ digits_value 10 (without_leading_plus n.text) = same_count c.get_one.result _ _ c.unwrap-count.ensures read in
    let few : digits_value 10 (without_leading_plus n.text) ≤ 1000000 = n.number.3 in
    omega arith

pub returns-clause-asks : goal.returns-clause-asks
returns-clause-asks g c =
    let n = c.in_ok-matches.ensures.number in
    let read =
    unsigned_read _ (λ bs r. ParsesUnsigned 64 10 bs r × ExplainsUnsignedError 10 bs r × HasUnsignedDigitsIfOk bs r) 1 1000000 n.text
    c.get_one.result (c.get_one.ensures.value n.text n.given) (λ u x h. h.0) n.number in
    let is : c.unwrap-count.result ≡ digits_value 10 (without_leading_plus n.text) = same_count c.get_one.result _ _ c.unwrap-count.ensures read in
    record {
      text = n.text;
      given = given_by_rows c.in_ok-matches.matches (map g.S.AsStr.text c.args.words.now) n.text c.in_ok-matches.ensures.matches n.given;
      is = is;
      some = subst (λ (x : ℕ). 1 ≤ x) (sym is) n.number.2;
      few = subst (λ (x : ℕ). x ≤ 1000000) (sym is) n.number.3;
    }
