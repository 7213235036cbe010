use Rattle.std.proofs.Common.{rules, ◌≡◌, ◌≤◌, ◌+◌, ◌∙◌, ap, length, length-append, arith}
use Rattle.arrayvec.specs.ArrayVec.{array_vec_len}
use Rattle.words.specs.Words.{signed_decimal}
use Rattle.words.proofs.Decimal.{laxity_few}
use Rattle.text.proofs.put_analysis.Goals as goal

pub put_laxity-requires : goal.put_laxity-requires
put_laxity-requires g c =
    let few : length (signed_decimal c.args.laxity) ≤ 20 = laxity_few c.args.laxity (search rules) in
    let behind : array_vec_len c.put_text.new.out ≡ array_vec_len c.put_field.new.out + 8 = ap length c.put_text.ensures ∙ length-append c.put_field.new.out.items _ in
    let front : array_vec_len c.put_field.new.out ≤ array_vec_len c.args.out.now + 12 = omega (arith, c.put_field.ensures.few) in
    search rules

pub returns-clause-upper_bound : goal.returns-clause-upper_bound
returns-clause-upper_bound g c =
    let behind : array_vec_len c.put_text.new.out ≡ array_vec_len c.put_field.new.out + 8 = ap length c.put_text.ensures ∙ length-append c.put_field.new.out.items _ in
    let front : array_vec_len c.put_field.new.out ≤ array_vec_len c.args.out.now + 12 = omega (arith, c.put_field.ensures.few) in
    omega (arith, behind, front, laxity_few c.args.laxity (search rules), c.put_laxity.ensures.exact)
