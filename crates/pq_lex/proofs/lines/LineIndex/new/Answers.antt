use Rattle.std.proofs.Common.{◌≡◌, ◌+◌, ◌≤◌, ◌==◌, ◌&&◌, List, ℕ, [], ◌∷◌, ◌++◌, cond, length, get_or, refl, ◌∙◌, ap, subst, arith}
use Rattle.std.specs.Bool.{MatchBool}
use Rattle.std.specs.Str.{IsAscii, IsNotAscii}
use Rattle.memchr.specs.Find.{TakesFirst, is_byte2, places}
use Rattle.pq_lex.specs.aux.Kept.{line_mark, marks_of}
use Rattle.pq_lex.specs.aux.LineMarks.{mark}
use Rattle.pq_lex.proofs.Breaks.{all_left, ended, first_line, one_more_line, skipped, taken, whole_text}
use Rattle.pq_lex.proofs.Marked.{none_made, none_marked}
use Rattle.pq_lex.proofs.lines.LineIndex.new.Goals as goal

pub lines-init : goal.lines-init
lines-init c = record {
  within = omega arith;
  made = ap (λ ms. ms ++ mark c.args.text.now 0 ∷ []) (none_made (record { starts = c.in_ok-with_capacity.field-0; ends = c.in_ok-with_capacity-2.field-0; wide = c.new.result }) c.in_ok-with_capacity.ensures) ∙ first_line c.args.text.now;
  marked = none_marked (record { starts = c.in_ok-with_capacity.field-0; ends = c.in_ok-with_capacity-2.field-0; wide = c.new.result }) c.in_ok-with_capacity.ensures c.in_ok-with_capacity-2.ensures c.new.ensures.items;
  left = all_left c.args.text.now c.memchr2_iter-ends.result (c.memchr2_iter-ends.ensures.value ∙ ap (places (is_byte2 10 13)) c.as_bytes-bytes.ensures.value);
}

pub push-requires-clause-within : goal.push-requires-clause-within
push-requires-clause-within c =
    let t = taken c.args.text.now c.lines.start c.in-Some.end c.lines.ends c.next.new.self c.lines.invariant.left c.in-Some.ensures.steps c.if-start-end.true in
    omega (arith, t.inside, ap length c.as_bytes-bytes.ensures.value)

pub push-requires-clause-ascii : goal.push-requires-clause-ascii
push-requires-clause-ascii c h = subst (λ b. MatchBool b (IsAscii c.as_bytes-bytes.result.now) (IsNotAscii c.as_bytes-bytes.result.now)) h c.is_ascii-plain.ensures.cases

pub push-requires-2-clause-ascii : goal.push-requires-2-clause-ascii
push-requires-2-clause-ascii c h = subst (λ b. MatchBool b (IsAscii c.as_bytes-bytes.result.now) (IsNotAscii c.as_bytes-bytes.result.now)) h c.is_ascii-plain.ensures.cases

pub next_start-start-requires : goal.next_start-start-requires
next_start-start-requires c =
    let t = taken c.args.text.now c.lines.start c.in-Some.end c.lines.ends c.next.new.self c.lines.invariant.left c.in-Some.ensures.steps c.if-start-end.true in
    omega (arith, t.inside, ap length c.as_bytes-bytes.ensures.value)

pub lines-preserved-then-start-end : goal.lines-preserved-then-start-end
lines-preserved-then-start-end c =
    let text : List ℕ = c.args.text.now in
    let t = taken text c.lines.start c.in-Some.end c.lines.ends c.next.new.self c.lines.invariant.left c.in-Some.ensures.steps c.if-start-end.true in
    let at = subst (λ b. c.next_start-start.result ≡ cond (get_or b c.in-Some.end 0 == 13 && (get_or b (c.in-Some.end + 1) 0 == 10)) (c.in-Some.end + 2) (c.in-Some.end + 1)) c.as_bytes-bytes.ensures.value c.next_start-start.ensures.is in
    let more = subst (λ b. marks_of c.push.new.self ≡ marks_of c.lines.marks ++ line_mark b c.lines.start c.in-Some.end ∷ []) c.as_bytes-bytes.ensures.value c.in_ok-push.ensures.added in
    record {
      within = subst (λ b. c.next_start-start.result ≤ length b) c.as_bytes-bytes.ensures.value c.next_start-start.ensures.within;
      made = one_more_line (marks_of c.lines.marks) (marks_of c.push.new.self) text c.lines.start c.in-Some.end c.next_start-start.result c.lines.invariant.within t.is t.inside at c.lines.invariant.made more;
      marked = c.in_ok-push.ensures.marked;
      left = t.goes c.next_start-start.result at;
    }

pub lines-preserved : goal.lines-preserved
lines-preserved c = record {
  within = c.lines.invariant.within;
  made = c.lines.invariant.made;
  marked = c.lines.invariant.marked;
  left = skipped c.args.text.now c.lines.start c.in-Some.end c.lines.ends c.next.new.self c.lines.invariant.left c.in-Some.ensures.steps c.if-start-end.false;
}

pub returns : goal.returns
returns c =
    let text : List ℕ = c.args.text.now in
    let steps = subst (λ r. TakesFirst c.lines.ends r c.next.new.self) c.in_default.is c.next.ensures.steps in
    let end = ended text c.lines.start c.lines.ends c.lines.invariant.left steps.0 c.lines.invariant.within in
    let more = subst (λ b. marks_of c.push-2.new.self ≡ marks_of c.lines.marks ++ line_mark b c.lines.start (length b) ∷ []) c.as_bytes-bytes.ensures.value c.in_ok-push-2.ensures.added in
    more ∙ whole_text (marks_of c.lines.marks) text c.lines.start (length text) c.lines.invariant.within end refl c.lines.invariant.made

pub invariant_of-result : goal.invariant_of-result
invariant_of-result c = record { text = c.args.text.now; small = omega (arith, c.as_bytes-bytes.type_inv, ap length c.as_bytes-bytes.ensures.value); is = returns c; marked = c.in_ok-push-2.ensures.marked }
