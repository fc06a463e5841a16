use Rattle.std.proofs.Common.{◌∙◌, ap, drop, arith}
use Rattle.std.proofs.lemmas.List.{length-map}
use Rattle.pq_syntax.specs.Words.{word, words}
use Rattle.pq_syntax.proofs.Showing.{show_all, show_next, show_ends, some_words}
use Rattle.pq_syntax.proofs.SpannedNodes.{words_after}
use Rattle.pq_syntax.proofs.loose.shown_among.Goals as goal

pub tokens-init : goal.tokens-init
tokens-init c = record {
  within = omega arith;
  left = rw (c.new-braces.ensures, c.new-nodes.ensures.items) (show_all c.args.text.now (words c.args.text.now c.args.tokens.now));
}

pub tokens-preserved : goal.tokens-preserved
tokens-preserved c =
    let text = c.args.text.now in
    let tokens = c.args.tokens.now in
    let rest = c.after-rest.result.now in
    record {
      within = c.number_after-at.ensures.within;
      left =
          show_next text (words text tokens) (words text rest) c.tokens.braces c.show_next.new.braces c.tokens.begins c.begins_after-begins.result c.tokens.at c.number_after-at.result
          c.tokens.nodes.items c.show_next.new.nodes.items c.in_ok-sight.sight
          (words_after text c.tokens.at tokens rest c.after-rest.ensures) (some_words text tokens rest c.tokens.at c.after-rest.ensures c.tokens-test.true)
          c.in_ok-sight.ensures.sight c.in_ok-sight.ensures.shown c.in_ok-sight.ensures.turned c.begins_after-begins.ensures
          (c.number_after-at.ensures.left text ∙ ap (λ n. drop n (drop c.tokens.at (words text tokens))) c.taken.ensures)
          c.tokens.invariant.left;
    }

pub returns : goal.returns
returns c =
    let e = length-map c.args.tokens.now (word c.args.text.now) in
    show_ends c.args.text.now (words c.args.text.now c.args.tokens.now) c.tokens.braces c.tokens.begins c.tokens.at c.tokens.nodes.items (omega (arith, e, c.tokens-test.false)) c.tokens.invariant.left
