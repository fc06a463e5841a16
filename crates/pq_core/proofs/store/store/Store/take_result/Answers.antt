use Rattle.std.proofs.Common.{sym, []}
use Rattle.pq_rules.proofs.Weight.{Exact}
use Rattle.pq_core.proofs.Changing.{set_back}
use Rattle.pq_core.proofs.RunsKept.{own_ready}
use Rattle.pq_core.proofs.StepOfRun.{began_now, current_here, if_err, on_ok, out_here, still_whole, the_steps, went_on}
use Rattle.pq_core.specs.aux.Inside.{store_of}
use Rattle.pq_core.proofs.store.store.Store.take_result.Goals as goal

pub give-given-requires-clause-out : goal.give-given-requires-clause-out
give-given-requires-clause-out g c =
    let here = sym (rw c.number.ensures at (c.in-Some.ensures {u = tt}).value) in
    let out = rw (← c.self.view_is) at c.requires.out in
    out_here (store_of c.self.inside) c.args.run c.in-Some.taken out.0 here out.1 out.2

pub give-given-requires-clause-rules : goal.give-given-requires-clause-rules
give-given-requires-clause-rules g c =
    (rw (← c.self.view_is) at c.requires.made).0

pub give-given-requires-clause-files : goal.give-given-requires-clause-files
give-given-requires-clause-files g c =
    (rw (← c.self.view_is) at c.requires.made).1

pub give-given-requires-clause-current : goal.give-given-requires-clause-current
give-given-requires-clause-current g c =
    let here = sym (rw c.number.ensures at (c.in-Some.ensures {u = tt}).value) in
    let out = rw (← c.self.view_is) at c.requires.out in
    let is_current = current_here (store_of c.self.inside) c.args.run c.in-Some.taken out.0 out.1 here in
    began_now g.R.Key.Ord.cmp (g.R.Rules.machine c.self.inside.memos.rules) g.M.Stamp.point c.self.inside.stamp (store_of c.self.inside) c.self.invariant c.args.run c.in-Some.taken is_current

pub give-given-requires-clause-ready : goal.give-given-requires-clause-ready
give-given-requires-clause-ready g c =
    let here = sym (rw c.number.ensures at (c.in-Some.ensures {u = tt}).value) in
    let out = rw (← c.self.view_is) at c.requires.out in
    let is_current = current_here (store_of c.self.inside) c.args.run c.in-Some.taken out.0 out.1 here in
    own_ready g.R.Key.Ord.cmp (g.R.Rules.machine c.self.inside.memos.rules) c.self.inside.inputs c.self.inside.memos c.self.inside.claims c.self.inside.runs.items c.args.run c.in-Some.taken here
    (began_now g.R.Key.Ord.cmp (g.R.Rules.machine c.self.inside.memos.rules) g.M.Stamp.point c.self.inside.stamp (store_of c.self.inside) c.self.invariant c.args.run c.in-Some.taken is_current) c.self.invariant.kept c.self.invariant.runs

pub invariant_of-self : goal.invariant_of-self
invariant_of-self g c =
    let here = sym (rw c.number.ensures at (c.in-Some.ensures {u = tt}).value) in
    let out = rw (← c.self.view_is) at c.requires.out in
    let is_current = current_here (store_of c.self.inside) c.args.run c.in-Some.taken out.0 out.1 here in
    let set = set_back c.self.inside.runs c.take.new.self c.put_back.new.self c.args.run c.give-given.new.self (rw c.number.ensures at c.take.ensures.found) c.take.ensures.above
    (rw c.in-Some.is at c.take.ensures.more_room) (rw c.number-in-Some.ensures at c.put_back.ensures.found) c.put_back.ensures.room c.put_back.ensures.above in
    still_whole g.R.Key.Ord.cmp g.R.Rules.machine g.M.Stamp.point c.self.inside.stamp (store_of c.self.inside) c.self.invariant c.give-given.new.memos c.put_back.new.self c.give-given.new.claims c.args.run c.in-Some.taken c.give-given.new.self is_current set c.give-given.ensures.same c.give-given.ensures.stepped
    c.claims_are_sound.ensures.sound c.claims_are_sound-in-Some.ensures.sound

pub returns-in-Some-clause-taken : goal.returns-in-Some-clause-taken
returns-in-Some-clause-taken g c =
    let here = sym (rw c.number.ensures at (c.in-Some.ensures {u = tt}).value) in
    let out = rw (← c.self.view_is) at c.requires.out in
    let is_current = current_here (store_of c.self.inside) c.args.run c.in-Some.taken out.0 out.1 here in
    let set = set_back c.self.inside.runs c.take.new.self c.put_back.new.self c.args.run c.give-given.new.self (rw c.number.ensures at c.take.ensures.found) c.take.ensures.above
    (rw c.in-Some.is at c.take.ensures.more_room) (rw c.number-in-Some.ensures at c.put_back.ensures.found) c.put_back.ensures.room c.put_back.ensures.above in
    let s = the_steps g.R.Key.Ord.cmp g.R.Rules.machine g.M.Stamp.point c.self.inside.stamp (store_of c.self.inside) c.self.invariant c.give-given.new.memos c.put_back.new.self c.give-given.new.claims c.args.run c.in-Some.taken c.give-given.new.self is_current set c.give-given.ensures.same c.give-given.ensures.stepped in
    rw (← c.self.view_is) (on_ok c.give-given.result c.give-given.ensures.taken (λ none. (s, none)))

pub returns-in-Some-clause-refused : goal.returns-in-Some-clause-refused
returns-in-Some-clause-refused g c =
    let here = sym (rw c.number.ensures at (c.in-Some.ensures {u = tt}).value) in
    let out = rw (← c.self.view_is) at c.requires.out in
    let is_current = current_here (store_of c.self.inside) c.args.run c.in-Some.taken out.0 out.1 here in
    let set = set_back c.self.inside.runs c.take.new.self c.put_back.new.self c.args.run c.give-given.new.self (rw c.number.ensures at c.take.ensures.found) c.take.ensures.above
    (rw c.in-Some.is at c.take.ensures.more_room) (rw c.number-in-Some.ensures at c.put_back.ensures.found) c.put_back.ensures.room c.put_back.ensures.above in
    let s = the_steps g.R.Key.Ord.cmp g.R.Rules.machine g.M.Stamp.point c.self.inside.stamp (store_of c.self.inside) c.self.invariant c.give-given.new.memos c.put_back.new.self c.give-given.new.claims c.args.run c.in-Some.taken c.give-given.new.self is_current set c.give-given.ensures.same c.give-given.ensures.stepped in
    rw (← c.self.view_is) (if_err c.args.done c.give-given.result c.give-given.ensures.back c.give-given.ensures.refused (λ still. (s, still)))

pub returns-in-Some-clause-counted : goal.returns-in-Some-clause-counted
returns-in-Some-clause-counted g c =
    let exact : Exact g.R.Key.Ord.cmp = record { total = g.met.R.Key.Ord.total; exact = (g.met.R.Rules.lawful c.self.inside.memos.rules []).exact } in
    let here = sym (rw c.number.ensures at (c.in-Some.ensures {u = tt}).value) in
    let out = rw (← c.self.view_is) at c.requires.out in
    let is_current = current_here (store_of c.self.inside) c.args.run c.in-Some.taken out.0 out.1 here in
    let set = set_back c.self.inside.runs c.take.new.self c.put_back.new.self c.args.run c.give-given.new.self (rw c.number.ensures at c.take.ensures.found) c.take.ensures.above
    (rw c.in-Some.is at c.take.ensures.more_room) (rw c.number-in-Some.ensures at c.put_back.ensures.found) c.put_back.ensures.room c.put_back.ensures.above in
    let s = the_steps g.R.Key.Ord.cmp g.R.Rules.machine g.M.Stamp.point c.self.inside.stamp (store_of c.self.inside) c.self.invariant c.give-given.new.memos c.put_back.new.self c.give-given.new.claims c.args.run c.in-Some.taken c.give-given.new.self is_current set c.give-given.ensures.same c.give-given.ensures.stepped in
    rw (← c.self.view_is) (λ log x. went_on g.R.Key.Ord.cmp g.R.Rules.machine exact (store_of c.self.inside) (record (store_of c.self.inside) { rules = c.give-given.new.memos.rules; places = c.give-given.new.memos.places; runs = c.put_back.new.self; claims = c.give-given.new.claims }) c.args.run s log x)
