use Rattle.std.proofs.Common.{sym}
use Rattle.pq_schema.proofs.Pieces.{piece_found, piece_empty}
use Rattle.pq_schema.proofs.names.spelled.Front.split_last.Goals as goal

pub returns-then-not-is_empty-clause-pieces : goal.returns-then-not-is_empty-clause-pieces
returns-then-not-is_empty-clause-pieces c =
    piece_found c.self.inside.head.now c.parts.parts.now c.in-Some.before.now c.in-Some.part.now c.as_str-text.result.now c.args.self.now c.in-Some.ensures.cases.0 c.as_str-text.ensures.same c.parts.invariant

pub parts-preserved : goal.parts-preserved
parts-preserved c =
    piece_empty c.self.inside.head.now c.parts.parts.now c.in-Some.before.now c.in-Some.part.now c.as_str-text.result.now c.args.self.now c.in-Some.ensures.cases.0 c.as_str-text.ensures.same (sym c.if-not-is_empty.ensures) c.parts.invariant
