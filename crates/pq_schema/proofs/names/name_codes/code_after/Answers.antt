use Rattle.std.proofs.Common.{◌≡◌, ℕ, ◌-◌, List, length, take, reverse, ap, ◌∙◌, arith}
use Rattle.std.proofs.lemmas.List.{length-reverse, take_all}
use Rattle.pq_schema.specs.aux.NameCodes.{code_from}
use Rattle.pq_schema.proofs.Codes.{code_full, code_step, take_least}
use Rattle.pq_schema.proofs.names.name_codes.code_after.Goals as goal

pub bytes-init : goal.bytes-init
bytes-init c =
    let text = c.args.text.now in
    let least = c.lesser-taken.ensures in
    let none : c.lesser-taken.result - 0 ≡ c.lesser-taken.result = omega arith in
    ap (λ (n : ℕ). code_from c.args.code (take n (reverse (take (length text - 0) text)))) none
    ∙ ap (λ (bytes : List ℕ). code_from c.args.code (take c.lesser-taken.result (reverse bytes))) (take_all (length text - 0) text (omega arith))
    ∙ ap (λ (bytes : List ℕ). code_from c.args.code bytes)
    (take_least c.lesser-taken.result c.args.most (reverse text) least.first (rw (length-reverse text) least.second) (rw (length-reverse text) least.one))

pub bytes-preserved : goal.bytes-preserved
bytes-preserved c = code_step c.bytes.code c.coded-code.result c.args.most c.lesser-taken.result c.bytes.i _ c.args.text.now c.bytes-test.true c.lesser-taken.ensures.second c.coded-code.ensures.code c.bytes.invariant

pub returns : goal.returns
returns c = record { code = code_full c.bytes.code c.lesser-taken.result c.bytes.i _ _ c.bytes-test.false c.bytes.invariant }
