use Rattle.std.proofs.Common.{rules, ◌≡◌, ◌++◌, ◌∙◌, ap, length, length-append}
use Rattle.words.specs.Words.{decimal}
use Rattle.words.proofs.Decimal.{decimal_is_written, two_put}
use Rattle.words.proofs.put_digits.Goals as goal

pub returns-in_default-clause-exact : goal.returns-in_default-clause-exact
returns-in_default-clause-exact g c =
    let p : c.put_text.new.out.items ≡ c.args.out.now.items ++ decimal c.args.n = search (rules, decimal_is_written) in ap length p ∙ length-append c.args.out.now.items (decimal c.args.n)

pub returns-in-10-to-99-clause-put : goal.returns-in-10-to-99-clause-put
returns-in-10-to-99-clause-put g c = search two_put
