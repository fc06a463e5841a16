use Rattle.std.proofs.Common.{sym, []}
use Rattle.pq_rules.proofs.Weight.{Exact}
use Rattle.pq_memo.specs.Table.{memo_at, HasIn}
use Rattle.pq_core.proofs.Changing.{set_back}
use Rattle.pq_core.proofs.RunsKept.{own_ready}
use Rattle.pq_core.proofs.StepOfRun.{began_now, on_err, ready_here, step_counted, step_looked, still_whole, the_steps}
use Rattle.pq_core.proofs.StoreRunning.{run_demands, why_cause}
use Rattle.pq_core.specs.Stores.{held}
use Rattle.pq_core.specs.Told.{told_puts}
use Rattle.pq_core.specs.aux.Inside.{store_of}
use Rattle.pq_core.proofs.store.store.Store.step.Goals as goal

pub look-looked-requires-clause-demand : goal.look-looked-requires-clause-demand
look-looked-requires-clause-demand g c =
    let here = sym (rw c.number.ensures at (c.in-Some.ensures {u = tt}).value) in
    run_demands g.R.Key.Ord.cmp (g.R.Rules.machine c.self.inside.memos.rules) g.M.Stamp.point told_puts (held (store_of c.self.inside)) c.self.invariant.ledger.0 c.args.run c.in-Some.taken c.self.invariant.ledger.1 here

pub look-looked-requires-clause-idle : goal.look-looked-requires-clause-idle
look-looked-requires-clause-idle g c =
    let here = sym (rw c.number.ensures at (c.in-Some.ensures {u = tt}).value) in
    let ready = (rw (← c.self.view_is) at c.requires).ready in
    let is_ready = ready_here g.R.Key.Ord.cmp (g.R.Rules.machine c.self.inside.memos.rules) (store_of c.self.inside) c.args.run c.in-Some.taken ready.0 ready.1 here in
    is_ready.idle

pub look-looked-requires-clause-stale : goal.look-looked-requires-clause-stale
look-looked-requires-clause-stale g c =
    let here = sym (rw c.number.ensures at (c.in-Some.ensures {u = tt}).value) in
    let ready = (rw (← c.self.view_is) at c.requires).ready in
    let is_ready = ready_here g.R.Key.Ord.cmp (g.R.Rules.machine c.self.inside.memos.rules) (store_of c.self.inside) c.args.run c.in-Some.taken ready.0 ready.1 here in
    is_ready.stale

pub look-looked-requires-clause-current : goal.look-looked-requires-clause-current
look-looked-requires-clause-current g c =
    let here = sym (rw c.number.ensures at (c.in-Some.ensures {u = tt}).value) in
    let ready = (rw (← c.self.view_is) at c.requires).ready in
    let is_ready = ready_here g.R.Key.Ord.cmp (g.R.Rules.machine c.self.inside.memos.rules) (store_of c.self.inside) c.args.run c.in-Some.taken ready.0 ready.1 here in
    let is_current = is_ready.current in
    began_now g.R.Key.Ord.cmp (g.R.Rules.machine c.self.inside.memos.rules) g.M.Stamp.point c.self.inside.stamp (store_of c.self.inside) c.self.invariant c.args.run c.in-Some.taken is_current

pub look-looked-requires-clause-ready : goal.look-looked-requires-clause-ready
look-looked-requires-clause-ready g c =
    let here = sym (rw c.number.ensures at (c.in-Some.ensures {u = tt}).value) in
    let ready = (rw (← c.self.view_is) at c.requires).ready in
    let is_ready = ready_here g.R.Key.Ord.cmp (g.R.Rules.machine c.self.inside.memos.rules) (store_of c.self.inside) c.args.run c.in-Some.taken ready.0 ready.1 here in
    let is_current = is_ready.current in
    own_ready g.R.Key.Ord.cmp (g.R.Rules.machine c.self.inside.memos.rules) c.self.inside.inputs c.self.inside.memos c.self.inside.claims c.self.inside.runs.items c.args.run c.in-Some.taken here
    (began_now g.R.Key.Ord.cmp (g.R.Rules.machine c.self.inside.memos.rules) g.M.Stamp.point c.self.inside.stamp (store_of c.self.inside) c.self.invariant c.args.run c.in-Some.taken is_current) c.self.invariant.kept c.self.invariant.runs

pub invariant_of-self : goal.invariant_of-self
invariant_of-self g c =
    let here = sym (rw c.number.ensures at (c.in-Some.ensures {u = tt}).value) in
    let ready = (rw (← c.self.view_is) at c.requires).ready in
    let is_ready = ready_here g.R.Key.Ord.cmp (g.R.Rules.machine c.self.inside.memos.rules) (store_of c.self.inside) c.args.run c.in-Some.taken ready.0 ready.1 here in
    let is_current = is_ready.current in
    let set = set_back c.self.inside.runs c.take.new.self c.put_back.new.self c.args.run c.look-looked.new.self (rw c.number.ensures at c.take.ensures.found) c.take.ensures.above
    (rw c.in-Some.is at c.take.ensures.more_room) (rw c.number-in-Some.ensures at c.put_back.ensures.found) c.put_back.ensures.room c.put_back.ensures.above in
    still_whole g.R.Key.Ord.cmp g.R.Rules.machine g.M.Stamp.point c.self.inside.stamp (store_of c.self.inside) c.self.invariant c.look-looked.new.memos c.put_back.new.self c.look-looked.new.claims c.args.run c.in-Some.taken c.look-looked.new.self is_current set c.look-looked.ensures.same c.look-looked.ensures.stepped
    c.claims_are_sound.ensures.sound c.claims_are_sound-in-Some.ensures.sound

pub returns-in-Some-clause-looked : goal.returns-in-Some-clause-looked
returns-in-Some-clause-looked g c =
    let here = sym (rw c.number.ensures at (c.in-Some.ensures {u = tt}).value) in
    let ready = (rw (← c.self.view_is) at c.requires).ready in
    let is_ready = ready_here g.R.Key.Ord.cmp (g.R.Rules.machine c.self.inside.memos.rules) (store_of c.self.inside) c.args.run c.in-Some.taken ready.0 ready.1 here in
    let is_current = is_ready.current in
    let set = set_back c.self.inside.runs c.take.new.self c.put_back.new.self c.args.run c.look-looked.new.self (rw c.number.ensures at c.take.ensures.found) c.take.ensures.above
    (rw c.in-Some.is at c.take.ensures.more_room) (rw c.number-in-Some.ensures at c.put_back.ensures.found) c.put_back.ensures.room c.put_back.ensures.above in
    let s = the_steps g.R.Key.Ord.cmp g.R.Rules.machine g.M.Stamp.point c.self.inside.stamp (store_of c.self.inside) c.self.invariant c.look-looked.new.memos c.put_back.new.self c.look-looked.new.claims c.args.run c.in-Some.taken c.look-looked.new.self is_current set c.look-looked.ensures.same c.look-looked.ensures.stepped in
    rw (← c.self.view_is)
    (step_looked g.R.Key.Ord.cmp g.R.Rules.machine (store_of c.self.inside) (record (store_of c.self.inside) { rules = c.look-looked.new.memos.rules; places = c.look-looked.new.memos.places; runs = c.put_back.new.self; claims = c.look-looked.new.claims }) c.args.run s c.look-looked.result
    (λ k why w. why_cause g.R.Key.Ord.cmp (g.R.Rules.machine c.self.inside.memos.rules) c.self.inside.inputs (HasIn (memo_at g.R.Key.Ord.cmp c.self.inside.memos.places)) k why
    (c.look_is_right.ensures.fresh c.self.inside.inputs k)
    (λ q. c.look_is_right.ensures.changed c.self.inside.inputs c.now-latest.ensures.counted c.self.invariant.kept k q)
    (c.look_is_right.ensures.ring c.self.inside.inputs k) w)
    c.self.invariant.runs.claimed c.look-looked.ensures.stepped.others c.look-looked.ensures.stepped.ready.stale c.look-looked.ensures.looked)

pub returns-in-Some-clause-refused : goal.returns-in-Some-clause-refused
returns-in-Some-clause-refused g c =
    let here = sym (rw c.number.ensures at (c.in-Some.ensures {u = tt}).value) in
    let ready = (rw (← c.self.view_is) at c.requires).ready in
    let is_ready = ready_here g.R.Key.Ord.cmp (g.R.Rules.machine c.self.inside.memos.rules) (store_of c.self.inside) c.args.run c.in-Some.taken ready.0 ready.1 here in
    let is_current = is_ready.current in
    let set = set_back c.self.inside.runs c.take.new.self c.put_back.new.self c.args.run c.look-looked.new.self (rw c.number.ensures at c.take.ensures.found) c.take.ensures.above
    (rw c.in-Some.is at c.take.ensures.more_room) (rw c.number-in-Some.ensures at c.put_back.ensures.found) c.put_back.ensures.room c.put_back.ensures.above in
    let s = the_steps g.R.Key.Ord.cmp g.R.Rules.machine g.M.Stamp.point c.self.inside.stamp (store_of c.self.inside) c.self.invariant c.look-looked.new.memos c.put_back.new.self c.look-looked.new.claims c.args.run c.in-Some.taken c.look-looked.new.self is_current set c.look-looked.ensures.same c.look-looked.ensures.stepped in
    rw (← c.self.view_is) (on_err c.look-looked.result c.look-looked.ensures.refused (λ none. (s, none)))

pub returns-in-Some-clause-counted : goal.returns-in-Some-clause-counted
returns-in-Some-clause-counted g c =
    let exact : Exact g.R.Key.Ord.cmp = record { total = g.met.R.Key.Ord.total; exact = (g.met.R.Rules.lawful c.self.inside.memos.rules []).exact } in
    let here = sym (rw c.number.ensures at (c.in-Some.ensures {u = tt}).value) in
    let ready = (rw (← c.self.view_is) at c.requires).ready in
    let is_ready = ready_here g.R.Key.Ord.cmp (g.R.Rules.machine c.self.inside.memos.rules) (store_of c.self.inside) c.args.run c.in-Some.taken ready.0 ready.1 here in
    let is_current = is_ready.current in
    let set = set_back c.self.inside.runs c.take.new.self c.put_back.new.self c.args.run c.look-looked.new.self (rw c.number.ensures at c.take.ensures.found) c.take.ensures.above
    (rw c.in-Some.is at c.take.ensures.more_room) (rw c.number-in-Some.ensures at c.put_back.ensures.found) c.put_back.ensures.room c.put_back.ensures.above in
    let s = the_steps g.R.Key.Ord.cmp g.R.Rules.machine g.M.Stamp.point c.self.inside.stamp (store_of c.self.inside) c.self.invariant c.look-looked.new.memos c.put_back.new.self c.look-looked.new.claims c.args.run c.in-Some.taken c.look-looked.new.self is_current set c.look-looked.ensures.same c.look-looked.ensures.stepped in
    rw (← c.self.view_is)
    (λ log x. step_counted g.R.Key.Ord.cmp g.R.Rules.machine exact (store_of c.self.inside) (record (store_of c.self.inside) { rules = c.look-looked.new.memos.rules; places = c.look-looked.new.memos.places; runs = c.put_back.new.self; claims = c.look-looked.new.claims }) c.args.run s c.look-looked.result log c.claims_are_sound-in-Some.ensures.sound c.self.invariant.runs.claimed c.look-looked.ensures.stepped.others
    c.look-looked.ensures.stepped.ready.claimed c.look-looked.ensures.stepped.ready.stale c.look-looked.ensures.looked c.look-looked.ensures.first x)
