use Rattle.std.proofs.Common.{◌≡◌, Some, refl, sym, ◌∙◌}
use Rattle.pq_memo.specs.Table.{memo_at}
use Rattle.pq_core.proofs.Renewed.{same_none_lost}
use Rattle.pq_core.proofs.StepOfRun.{Fits, not_fits, stays_goes, stopped_gives, take_goes, untaken_goes}
use Rattle.pq_core.proofs.StoreAccepting.{false_true}
use Rattle.pq_core.specs.Moves.{out_of}
use Rattle.pq_core.specs.aux.Rising.{found}
use Rattle.pq_core.specs.aux.Runs.{RunView, out_at}
use Rattle.pq_core.specs.aux.RunStates.{IsCurrentRun, IsLate}
use Rattle.pq_core.proofs.store.store.Store.give.Goals as goal

pub returns-then-not-fits-clause-moved : goal.returns-then-not-fits-clause-moved
returns-then-not-fits-clause-moved g c =
    let none : Fits g.R.Key.Ord.cmp (g.R.Rules.machine c.args.self.now.rules) g.M.Stamp.point c.args.self.now c.args.run c.args.done → ⊥ =
    λ f.
    let fits : (run : RunView g.row.R-Key.Denot g.row.R-Part.Denot) × (found c.args.self.now.runs.items c.args.run ≡ Some run) × (c.args.done.run ≡ c.args.run) × (c.args.done.started ≡ run.started) × (out_at run.top ≡ Some (out_of c.args.done)) =
    (f.run, f.here, f.fits.0, f.fits.1, f.fits.2) in
    false_true (sym c.if-not-fits.true ∙ c.fits.ensures.1 (rw (← c.done.view_is) at fits)) in
    stays_goes g.R.Key.Ord.cmp (g.R.Rules.machine c.args.self.now.rules) g.M.Stamp.point c.args.self.now _ (λ l x. (refl, not_fits g.R.Key.Ord.cmp (g.R.Rules.machine c.args.self.now.rules) g.M.Stamp.point c.args.self.now c.args.self.now.rules c.args.run c.args.done none l x, refl))

pub returns-then-is_late-clause-none_lost : goal.returns-then-is_late-clause-none_lost
returns-then-is_late-clause-none_lost g c =
    rw c.end_by.ensures.places (same_none_lost (memo_at g.R.Key.Ord.cmp c.args.self.now.places))

pub end_by-requires : goal.end_by-requires
end_by-requires g c =
    let f = rw c.done.view_is at (c.fits.ensures.0 c.if-not-fits.false) in
    let fits : Fits g.R.Key.Ord.cmp (g.R.Rules.machine c.args.self.now.rules) g.M.Stamp.point c.args.self.now c.args.run c.args.done = record { run = f.0; here = f.1; fits = (f.2, f.3, f.4) } in
    record { may = (fits.run, fits.here, (c.is_late.ensures.late fits.run fits.here).0 c.if-is_late.true) }

pub returns-then-is_late-clause-moved : goal.returns-then-is_late-clause-moved
returns-then-is_late-clause-moved g c =
    let f = rw c.done.view_is at (c.fits.ensures.0 c.if-not-fits.false) in
    let fits : Fits g.R.Key.Ord.cmp (g.R.Rules.machine c.args.self.now.rules) g.M.Stamp.point c.args.self.now c.args.run c.args.done = record { run = f.0; here = f.1; fits = (f.2, f.3, f.4) } in
    stopped_gives g.R.Key.Ord.cmp (g.R.Rules.machine c.args.self.now.rules) g.M.Stamp.point c.args.self.now c.end_by.new.self c.args.self.now.rules c.args.run c.args.done fits c.end_by.ensures.moved

pub take_result-requires-clause-made : goal.take_result-requires-clause-made
take_result-requires-clause-made g c =
    let f = rw c.done.view_is at (c.fits.ensures.0 c.if-not-fits.false) in
    let fits : Fits g.R.Key.Ord.cmp (g.R.Rules.machine c.args.self.now.rules) g.M.Stamp.point c.args.self.now c.args.run c.args.done = record { run = f.0; here = f.1; fits = (f.2, f.3, f.4) } in
    let early : IsLate c.args.self.now fits.run → ⊥ = λ late. false_true (sym c.if-is_late.false ∙ (c.is_late.ensures.late fits.run fits.here).1 late) in
    rw (← c.done.view_is) at (c.requires (fits.fits.1 ∙ c.is_late.ensures.now fits.run fits.here early))

pub take_result-requires-clause-out : goal.take_result-requires-clause-out
take_result-requires-clause-out g c =
    let f = rw c.done.view_is at (c.fits.ensures.0 c.if-not-fits.false) in
    let fits : Fits g.R.Key.Ord.cmp (g.R.Rules.machine c.args.self.now.rules) g.M.Stamp.point c.args.self.now c.args.run c.args.done = record { run = f.0; here = f.1; fits = (f.2, f.3, f.4) } in
    let early : IsLate c.args.self.now fits.run → ⊥ = λ late. false_true (sym c.if-is_late.false ∙ (c.is_late.ensures.late fits.run fits.here).1 late) in
    let out : (run : RunView g.row.R-Key.Denot g.row.R-Part.Denot) × IsCurrentRun c.args.self.now c.args.run run × (out_at run.top ≡ Some (out_of c.args.done)) = (fits.run, record { here = fits.here; early = early }, fits.fits.2) in
    rw (← c.done.view_is) at out

pub returns-in-Ok-clause-moved : goal.returns-in-Ok-clause-moved
returns-in-Ok-clause-moved g c =
    let f = rw c.done.view_is at (c.fits.ensures.0 c.if-not-fits.false) in
    let fits : Fits g.R.Key.Ord.cmp (g.R.Rules.machine c.args.self.now.rules) g.M.Stamp.point c.args.self.now c.args.run c.args.done = record { run = f.0; here = f.1; fits = (f.2, f.3, f.4) } in
    let taken = (c.in-Ok.ensures {u = tt}).taken in
    take_goes g.R.Key.Ord.cmp (g.R.Rules.machine c.args.self.now.rules) g.M.Stamp.point c.args.self.now c.take_result.new.self c.args.self.now.rules c.args.run c.args.done fits taken.0 taken.1

pub returns-in-Err-clause-moved : goal.returns-in-Err-clause-moved
returns-in-Err-clause-moved g c =
    let f = rw c.done.view_is at (c.fits.ensures.0 c.if-not-fits.false) in
    let fits : Fits g.R.Key.Ord.cmp (g.R.Rules.machine c.args.self.now.rules) g.M.Stamp.point c.args.self.now c.args.run c.args.done = record { run = f.0; here = f.1; fits = (f.2, f.3, f.4) } in
    let back = rw c.done.view_is at (c.in-Err.ensures {u = tt}).refused in
    untaken_goes g.R.Key.Ord.cmp (g.R.Rules.machine c.args.self.now.rules) g.M.Stamp.point c.args.self.now c.take_result.new.self c.args.self.now.rules c.args.run c.args.done c.in-Err.made back.0 fits back.1.0 back.1.1
