use Rattle.std.proofs.Common.{◌≡◌, length, arith}
use Rattle.pq_syntax.proofs.Taken.{as_many, taken_words}
use Rattle.pq_syntax.proofs.parser.texts.taken.Goals as goal

pub returns : goal.returns
returns c = λ text ws e.
    let m = as_many text _ _ ws e in
    let all : c.saturating_sub.result ≡ length ws = omega (arith, m, c.saturating_sub.ensures) in
    rw all (taken_words text _ _ ws e)
