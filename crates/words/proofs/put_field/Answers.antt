use Rattle.std.proofs.Common.{rules, ◌≡◌, ◌≤◌, ◌+◌, ◌∙◌, ap, length, length-append, arith}
use Rattle.arrayvec.specs.ArrayVec.{array_vec_len}
use Rattle.words.specs.Words.{decimal}
use Rattle.words.proofs.Decimal.{word_few}
use Rattle.words.proofs.put_field.Goals as goal

pub put_digits-requires : goal.put_digits-requires
put_digits-requires g c =
    let few : length (decimal c.into.result) ≤ 5 = word_few c.into.result (omega (arith, c.into.ensures, c.ranges.n.fits)) in
    let behind : array_vec_len c.put_text.new.out ≡ array_vec_len c.args.out.now + length c.args.name.now = ap length c.put_text.ensures ∙ length-append c.args.out.now.items c.args.name.now in
    search rules

pub returns-clause-upper_bound : goal.returns-clause-upper_bound
returns-clause-upper_bound g c =
    let behind : array_vec_len c.put_text.new.out ≡ array_vec_len c.args.out.now + length c.args.name.now = ap length c.put_text.ensures ∙ length-append c.args.out.now.items c.args.name.now in
    omega (arith, behind, word_few c.into.result (omega (arith, c.into.ensures, c.ranges.n.fits)), c.put_digits.ensures.exact, c.requires.name_len_bound)

pub returns-clause-few : goal.returns-clause-few
returns-clause-few g c =
    let behind : array_vec_len c.put_text.new.out ≡ array_vec_len c.args.out.now + length c.args.name.now = ap length c.put_text.ensures ∙ length-append c.args.out.now.items c.args.name.now in
    omega (arith, behind, word_few c.into.result (omega (arith, c.into.ensures, c.ranges.n.fits)), c.put_digits.ensures.exact)
