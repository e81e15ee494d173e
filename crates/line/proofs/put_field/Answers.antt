-- `line::put_field` meets its contract. Assumes nothing.
use Rattle.std.proofs.Common.{rules, ◌≡◌, ℕ, ◌<◌, ◌^◌, [], ◌∷◌, decimal}
use mathlib.Core.Path.{sym, ◌∙◌}
use Rattle.std.proofs.lemmas.Fmt.{decimal_from_appends, length-decimal-le}
use Rattle.paper.specs.Line.{digits}
use Rattle.line.proofs.Laws.{put_same, put_after}
use Rattle.line.proofs.put_field.Goals as goal

-- the digits of a number are what the library prints of it
digits_decimal : (n : ℕ) → n < 2 ^ 64 → digits 20 n ≡ decimal n
unfolding digits
digits_decimal n h = decimal_from_appends digits (search rules) 20 n h (search (rules, length-decimal-le 20))

pub returns-clause-put : goal.returns-clause-put
returns-clause-put c =
    let d = digits_decimal c.args.n (search rules) ∙ sym (c.as_bytes.ensures.value ∙ c.format.ensures.text) in
    put_after c.args.out.now c.put-first.new.out c.put.new.out (32 ∷ []) (digits 20 c.args.n) c.args.at c.put-first.result c.put.result c.put-first.ensures
    (put_same _ _ _ _ d c.put.ensures)
