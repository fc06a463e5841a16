use Rattle.std.proofs.Common.{◌∙◌, ◌≡◌, ◌++◌, ◌∷◌, [], arith, List, ◌<◌, length, drop, take, ap, sym, subst, slice_get, Some, ◌-◌, get_or}
use Rattle.std.proofs.lemmas.Grind.{common_steps}
use Rattle.std.proofs.lemmas.Result.{IfOk-weaker}
use Rattle.pq_rules.specs.declared.turn.Answer.{Answer}
use Rattle.pq_rules.specs.declared.turn.Answer.TheVariants.{Cycle}
use Rattle.pq_rules.specs.declared.scratch.Frame.{Frame}
use Rattle.pq_rules.specs.Turns.{over}
use Rattle.pq_rules.specs.aux.AnswerTable.{Finished, Placed, finished}
use Rattle.pq_rules.specs.aux.Evaluator.{frame_keys, RotatedToLeast, RingDone}
use Rattle.pq_rules.specs.Relations.{In}
use Rattle.pq_rules.proofs.Weight.{Exact}
use Rattle.pq_rules.proofs.Finding.{same_finished, last_answer}
use Rattle.pq_rules.proofs.Glue.{begun, closed}
use Rattle.pq_rules.proofs.Placed.{placed_frames, placed_begun}
use Rattle.pq_rules.proofs.Stack.{distinct_dropped}
use Rattle.pq_rules.proofs.scratch.ask_first.Goals as goal

pub ring_of-requires-clause-distinct : goal.ring_of-requires-clause-distinct
ring_of-requires-clause-distinct g c =
    let same : c.deref-in-Some.result.now ≡ c.args.stack.now.items ++ c.args.frame ∷ [] = c.deref-in-Some.ensures.value ∙ (c.in_ok-push.ensures {u = tt}).added in
    let cut : take (length c.deref-in-Some.result.now - c.in-Some.place) (drop c.in-Some.place c.deref-in-Some.result.now) ≡ drop c.in-Some.place (c.args.stack.now.items ++ c.args.frame ∷ []) = grind (arith, common_steps, same) in
    rw cut (distinct_dropped c.in-Some.place (c.args.stack.now.items ++ c.args.frame ∷ []) c.requires.going.invariant.distinct)

pub returns-in_ok-answer-in-Some : goal.returns-in_ok-answer-in-Some
returns-in_ok-answer-in-Some g c =
    let m = over g.R.Key.Ord.cmp (g.R.Rules.machine c.args.rules.now) c.args._inputs.now.files in
    let laws = g.met.R.Rules.lawful c.args.rules.now c.args._inputs.now.files in
    let exact : Exact g.R.Key.Ord.cmp = record { total = g.met.R.Key.Ord.total; exact = laws.exact } in
    let all : List (Frame g.row.R-Key.Denot g.row.R-Part.Denot) = c.push.new.items.items in
    let here : c.deref.result.now ≡ all = c.deref.ensures.value in
    let there : c.deref-in-Some.result.now ≡ all = c.deref-in-Some.ensures.value in
    let within : c.in-Some.place < length all = subst (λ (fs : List (Frame g.row.R-Key.Denot g.row.R-Part.Denot)). c.in-Some.place < length fs) here c.in-Some.ensures.found.0 in
    let at : (d : Frame g.row.R-Key.Denot g.row.R-Part.Denot) → (get_or all c.in-Some.place d).key ≡ c.in_ok-asked.asked =
    λ d. subst (λ (fs : List (Frame g.row.R-Key.Denot g.row.R-Part.Denot)). (get_or fs c.in-Some.place d).key ≡ c.in_ok-asked.asked) here (c.in-Some.ensures.found.1 d) in
    let cut : take (length c.deref-in-Some.result.now - c.in-Some.place) (drop c.in-Some.place c.deref-in-Some.result.now) ≡ drop c.in-Some.place all = grind (arith, common_steps, there) in
    let ring : List g.row.R-Key.Denot = c.in_ok-keys-in-Some.keys.items in
    let turned : RotatedToLeast g.R.Key.Ord.cmp (frame_keys (drop c.in-Some.place all)) ring =
    rw cut at (c.in_ok-keys-in-Some.ensures {u = tt}) in
    let answer : Answer g.row.R-Key.Denot g.row.R-Value.Denot = Cycle c.in_ok-ring-in-Some.ring in
    let is_ring : answer ≡ Cycle ring = ap (λ (r : List g.row.R-Key.Denot). Cycle r) (c.in_ok-ring-in-Some.ensures {u = tt}).keys in
    let kept : slice_get c.add.new.self.answers c.in_ok-answer-in-Some.answer ≡ Some answer =
    last_answer c.in_ok-answer-in-Some.answer answer c.args.found.now c.add.new.self c.in_ok-answer-in-Some.ensures.place c.in_ok-answer-in-Some.ensures.answers in
    let same : finished c.add.new.self ≡ finished c.args.found.now =
    same_finished answer c.args.found.now c.add.new.self c.in_ok-answer-in-Some.ensures.answers c.in_ok-answer-in-Some.ensures.places c.in_ok-answer-in-Some.ensures.within in
    IfOk-weaker c.finish_ring.result _ _ (λ _ done.
    let ended : RingDone ring c.in-Some.place (finished c.args.found.now) all (finished c.finish_ring.new.found) c.finish_ring.new.stack.items =
    subst (λ (fs : List (Finished g.row.R-Key.Denot g.row.R-Value.Denot)). RingDone ring c.in-Some.place fs all (finished c.finish_ring.new.found) c.finish_ring.new.stack.items) same
    (done ring (kept ∙ ap (λ (a : Answer g.row.R-Key.Denot g.row.R-Value.Denot). Some a) is_ring)) in
    record {
      goes = closed m (g.R.Rules.reach c.args.rules.now c.args._inputs.now.files) laws exact c.args._root.now
          (finished c.args.found.now) (finished c.finish_ring.new.found) c.args.stack.now.items all c.finish_ring.new.stack.items c.args.frame
          c.in_ok-asked.asked c.in-Some.place ring c.requires.going.invariant (c.in_ok-asked.ensures {u = tt}).copy (c.in_ok-push.ensures {u = tt}).added
          within at turned ended;
      placed = placed_frames g.R.Key.Ord.cmp c.args.found.now.started c.finish_ring.new.found.started c.finish_ring.new.stack.items ended.popped
          (c.args.stack.now.items ++ c.args.frame ∷ []) (c.finish_ring.ensures.started ∙ c.in_ok-answer-in-Some.ensures.started)
          (sym (c.in_ok-push.ensures {u = tt}).added ∙ ended.whole) c.requires.going.placed;
    }) c.finish_ring.ensures.done

pub returns-in_ok-begin-in-None : goal.returns-in_ok-begin-in-None
returns-in_ok-begin-in-None g c =
    let m = over g.R.Key.Ord.cmp (g.R.Rules.machine c.args.rules.now) c.args._inputs.now.files in
    let laws = g.met.R.Rules.lawful c.args.rules.now c.args._inputs.now.files in
    let exact : Exact g.R.Key.Ord.cmp = record { total = g.met.R.Key.Ord.total; exact = laws.exact } in
    let all : List (Frame g.row.R-Key.Denot g.row.R-Part.Denot) = c.push.new.items.items in
    let here : c.deref.result.now ≡ all = c.deref.ensures.value in
    let none : In c.in_ok-asked.asked (frame_keys all) → ⊥ =
    subst (λ (fs : List (Frame g.row.R-Key.Denot g.row.R-Part.Denot)). In c.in_ok-asked.asked (frame_keys fs) → ⊥) here c.in-None.ensures.none in
    let begins = c.in_ok-begin-in-None.ensures {u = tt} in
    let pushed : all ≡ c.args.stack.now.items ++ c.args.frame ∷ [] = (c.in_ok-push.ensures {u = tt}).added in
    record {
      goes = begun m (g.R.Rules.reach c.args.rules.now c.args._inputs.now.files) laws exact c.args._root.now
          (finished c.args.found.now) (finished c.begin.new.found) c.args.stack.now.items all c.begin.new.stack.items c.args.frame
          c.in_ok-asked.asked c.requires.going.invariant (c.in_ok-asked.ensures {u = tt}).copy pushed c.requires.new.high c.requires.new.no_answer
          none (begins.applied c.args._inputs.now.files);
      placed = placed_begun m g.R.Key.Ord.cmp exact c.args.found.now.started c.begin.new.found.started c.in_ok-asked.asked
          (m.start c.in_ok-asked.asked) (finished c.args.found.now) (finished c.begin.new.found) all c.begin.new.stack.items begins.started none
          (begins.applied c.args._inputs.now.files)
          (subst (λ (fs : List (Frame g.row.R-Key.Denot g.row.R-Part.Denot)). Placed g.R.Key.Ord.cmp c.args.found.now.started (frame_keys fs)) (sym pushed) c.requires.going.placed);
    }
