use Rattle.std.proofs.Common.{◌≡◌, ℕ, ◌≤◌, List, ◌++◌, length, take, reverse, refl, sym, ap, ◌∙◌, append-nil, arith}
use Rattle.std.specs.List.{concat}
use Rattle.pq_schema.specs.aux.NameCodes.{code_from, tail_code}
use Rattle.pq_schema.proofs.Codes.{code_full, code_piece, none_joined}
use Rattle.pq_schema.proofs.Pieces.{piece_found}
use Rattle.pq_schema.proofs.names.name_codes.code_of_pieces.Goals as goal

pub pieces-init : goal.pieces-init
unfolding tail_code
pieces-init c = refl

pub pieces-preserved : goal.pieces-preserved
pieces-preserved c =
    let new = c.code_after-code.result in
    let front = c.args.head.now ++ concat c.pieces.parts.now in
    let next = code_piece c.pieces.code new c.pieces.left _ front c.pieces.text.now c.code_after-code.ensures.code c.pieces.invariant in
    let last = piece_found c.args.head.now c.pieces.parts.now c.in-Some.before.now c.in-Some.part.now c.as_bytes-text.result.now front
    c.in-Some.ensures.cases.0 (c.as_bytes-text.ensures.value ∙ c.as_str.ensures.same) refl in
    ap (λ (b : List ℕ). code_from new (take c.saturating_sub-left.result (reverse b))) (sym last)
    ∙ ap (λ (n : ℕ). code_from new (take n (reverse front))) c.saturating_sub-left.ensures
    ∙ next

pub returns-then-left-eq0 : goal.returns-then-left-eq0
returns-then-left-eq0 c =
    let new = c.code_after-code.result in
    let front = c.args.head.now ++ concat c.pieces.parts.now in
    let next = code_piece c.pieces.code new c.pieces.left _ front c.pieces.text.now c.code_after-code.ensures.code c.pieces.invariant in
    let all : c.pieces.left ≤ length c.pieces.text.now = omega (arith, c.saturating_sub-left.ensures, c.if-left-eq0.true) in
    record { code = code_full new c.pieces.left (length c.pieces.text.now) _ _ all next }

pub returns-in-None : goal.returns-in-None
returns-in-None c =
    let new = c.code_after-code.result in
    let head = c.args.head.now in
    let front = head ++ concat c.pieces.parts.now in
    let next = code_piece c.pieces.code new c.pieces.left _ front c.pieces.text.now c.code_after-code.ensures.code c.pieces.invariant in
    let alone : front ≡ head = ap (λ (b : List ℕ). head ++ b) (none_joined c.pieces.parts.now c.in-None.ensures.cases) ∙ append-nil head in
    record {
      code = c.code_after.ensures.code
          ∙ ap (λ (b : List ℕ). code_from new (take c.saturating_sub-left.result (reverse b))) (c.as_bytes.ensures.value ∙ sym alone)
          ∙ ap (λ (n : ℕ). code_from new (take n (reverse front))) c.saturating_sub-left.ensures
          ∙ next;
    }
