use Rattle.std.proofs.Common.{◌+◌, ◌-◌, ◌/◌, ◌<◌, [], Some, length, get_or, sym, ap, ◌∙◌, arith}
use Rattle.std.proofs.lemmas.Option.{slice_get-get_or}
use Rattle.pq_names.proofs.OrderLemmas.{less_up_to, greater_from, tied_same}
use Rattle.pq_names.proofs.order.search.Goals as goal

-- the text at the middle is less, and so are those before it
pub loop-low-preserved-in-Less : goal.loop-low-preserved-in-Less
loop-low-preserved-in-Less c =
    let lt = c.loop-low-test.true in
    let within = c.loop-low.invariant.inside in
    record {
      narrow = omega arith;
      inside = within;
      before = less_up_to c.requires c.args.text.now _ (omega arith) (sym c.compare_at.ensures ∙ c.in-Less.is);
      after = c.loop-low.invariant.after;
    }

-- the text at the middle is greater, and so are those after it
pub loop-low-preserved : goal.loop-low-preserved
loop-low-preserved c =
    let lt = c.loop-low-test.true in
    let within = c.loop-low.invariant.inside in
    record {
      narrow = omega arith;
      inside = omega arith;
      before = c.loop-low.invariant.before;
      after = greater_from c.requires c.args.text.now _ (sym c.compare_at.ensures ∙ c.in-Greater.is);
    }

-- the text at the middle is the one that is looked for
pub returns-in-Equal-clause-found : goal.returns-in-Equal-clause-found
returns-in-Equal-clause-found c =
    let lt = c.loop-low-test.true in
    let within = c.loop-low.invariant.inside in
    let middle = c.loop-low.low + (c.loop-low.high - c.loop-low.low) / 2 in
    let inside : middle < length c.args.order.now = omega arith in
    let id = get_or c.args.order.now middle 0 in
    let is_text = tied_same (get_or c.args.texts.now id []) c.args.text.now (sym c.compare_at.ensures ∙ c.in-Equal.is) in
    (inside, slice_get-get_or c.args.texts.now id [] (c.requires.within middle inside) ∙ ap Some is_text)
