use Rattle.std.proofs.Common.{◌≤◌, length, inl, inr, arith}
use Rattle.std.proofs.lemmas.Bool.{cases_lt}
use Rattle.pq_schema.proofs.PartsAlong.{kept_more, meet_more, met_more, met_end, next_start}
use Rattle.pq_schema.proofs.search.along.add_parts.Goals as goal

pub returns-then-at-to-clause-kept : goal.returns-then-at-to-clause-kept
returns-then-at-to-clause-kept c = λ name start there.
    kept_more c.bytes.parts.items c.add_part.new.parts.items _ c.in_ok-add_part.ensures.part name start (c.bytes.invariant.kept name start there)

pub returns-then-at-to-clause-meet : goal.returns-then-at-to-clause-meet
returns-then-at-to-clause-meet c =
    let i = c.bytes.invariant in
    meet_more c.args.root.now c.args.entry.now c.args.parts.now.items c.bytes.parts.items c.add_part.new.parts.items c.args.from c.bytes.start c.bytes.at c.args.to
    c.requires.same i.to i.up c.if-entry-at-ne46.false c.in_ok-add_part.ensures.part i.start i.meet

pub returns-then-at-to-clause-met : goal.returns-then-at-to-clause-met
returns-then-at-to-clause-met c = λ name t low inside p s m.
    let i = c.bytes.invariant in
    let past = c.if-at-eq0.false in
    let over = c.if-at-to.true in
    met_more c.args.root.now c.args.entry.now c.args.parts.now.items c.bytes.parts.items c.add_part.new.parts.items c.args.from c.bytes.start c.bytes.at c.args.to
    c.requires.same i.to i.up c.if-entry-at-ne46.false c.in_ok-add_part.ensures.part i.blank (omega arith) i.met name t low (omega arith) inside p s m

pub bytes-preserved : goal.bytes-preserved
bytes-preserved c =
    let i = c.bytes.invariant in
    let past = c.if-at-eq0.false in
    let before = c.if-at-to.false in
    let low = c.bytes.auto.at in
    let dot = c.if-entry-at-ne46.false in
    record {
      start = next_start c.args.root.now c.args.entry.now c.bytes.start c.bytes.at c.args.to c.requires.same i.to i.up dot c.requires.end (omega arith) (omega arith);
      from = omega arith;
      to = omega arith;
      up = omega arith;
      blank = λ k from below some. absurd (omega arith);
      kept = λ name t there. kept_more c.bytes.parts.items c.add_part.new.parts.items _ c.in_ok-add_part.ensures.part name t (i.kept name t there);
      meet = meet_more c.args.root.now c.args.entry.now c.args.parts.now.items c.bytes.parts.items c.add_part.new.parts.items c.args.from c.bytes.start c.bytes.at c.args.to
          c.requires.same i.to i.up dot c.in_ok-add_part.ensures.part i.start i.meet;
      met = λ name t from below p s m.
          met_more c.args.root.now c.args.entry.now c.args.parts.now.items c.bytes.parts.items c.add_part.new.parts.items c.args.from c.bytes.start c.bytes.at c.args.to
          c.requires.same i.to i.up dot c.in_ok-add_part.ensures.part i.blank (omega arith) i.met name t from (omega arith) (omega arith) p s m;
    }

pub returns-clause-met : goal.returns-clause-met
returns-clause-met c = λ name t low inside p s m.
    let end : length c.args.entry.now ≤ c.bytes.at = c.bytes-test.false in
    elim (cases_lt t c.bytes.start) [
      | inl before ↦ c.bytes.invariant.met name t low before p s m
      | inr late ↦ absurd (met_end c.args.root.now c.args.entry.now c.bytes.start
          (λ i from below some. c.bytes.invariant.blank i from (omega arith) some) name t late p m)
    ]
