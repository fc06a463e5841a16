use Rattle.std.proofs.Common.{sym}
use Rattle.std.specs.Cmp.Lexicographic.{bytes_decides}
use Rattle.pq_schema.proofs.Answered.{known_right}
use Rattle.pq_schema.proofs.search.asked.Asked.known.Goals as goal

pub returns-then-eq : goal.returns-then-eq
returns-then-eq c =
    let a = c.in-Some-get.answer.now in
    record {
      known = λ files lead are. known_right files lead c.deref.result.now c.args.self.now.answers.items c.in-Some.number a c.as_str.result.now c.args.name.now
          c.deref.ensures.value c.in-Some-get.ensures.lookup.3.0 (sym (c.in-Some-get.ensures.lookup.3.1 a)) c.as_str.ensures.same
          ((bytes_decides c.as_str.result.now c.args.name.now).0 (sym c.if-eq.ensures)) are.0;
    }
