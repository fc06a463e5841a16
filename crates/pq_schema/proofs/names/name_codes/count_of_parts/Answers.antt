use Rattle.std.proofs.Common.{◌≡◌, ◌∙◌, ◌+◌, ◌%◌, ◌^◌, ℕ, List, length, take, ap, arith}
use Rattle.std.specs.List.{concat}
use Rattle.std.proofs.Math.Nat.{mod-add-mod}
use Rattle.std.proofs.lemmas.List.{take_all}
use Rattle.pq_schema.proofs.LastDots.{parts_more}
use Rattle.pq_schema.proofs.names.name_codes.count_of_parts.Goals as goal

pub parts-preserved : goal.parts-preserved
parts-preserved c =
    let parts = c.args.parts.now in
    let i = c.parts.i in
    let bytes = length c.as_str.result.now in
    let more = parts_more parts i c.index-parts-i.result c.parts-test.true in
    let sum : length (concat (take i parts)) + bytes ≡ length (concat (take (i + 1) parts)) =
    omega (arith, more, ap length c.as_str.ensures.same, ap length c.index-parts-i.is) in
    ap (λ (n : ℕ). (n + bytes) % 2 ^ 64) c.parts.invariant
    ∙ mod-add-mod (length (concat (take i parts))) (2 ^ 64) bytes
    ∙ ap (λ (n : ℕ). n % 2 ^ 64) sum

pub returns : goal.returns
returns c =
    record { count = c.parts.invariant ∙ ap (λ (ps : List (List ℕ)). length (concat ps) % 2 ^ 64) (take_all c.parts.i c.args.parts.now c.parts-test.false) }
