use Rattle.std.proofs.Common.{subst, Bool, ◌∙◌, ap}
use Rattle.std.specs.Prelude.{Result, Ok}
use Rattle.std.specs.declared.alloc.AllocError.{AllocError}
use Rattle.pq_core.specs.Outboxes.{taken_front}
use Rattle.pq_core.specs.Moves.{Reaches, TakesOut}
use Rattle.pq_play.specs.World.{replies_of, own_point}
use Rattle.pq_play.specs.aux.Running.{done_of}
use Rattle.pq_core.specs.Cores.{StandsFor}
use Rattle.pq_play.proofs.Ruled.{by_rules}
use Rattle.pq_play.proofs.Carrying.{carried_take, carried_left, carried_none}
use Rattle.pq_play.proofs.carry.take.Goals as goal

pub returns-then-out : goal.returns-then-out
returns-then-out g c = λ room w s.
    carried_take room g.R.Key.Ord.cmp (g.R.Rules.machine c.args.rules.now) c.args.rules.now c.args.core.now.rules c.take.new.self.rules (StandsFor g.R.Key.Ord.cmp (g.R.Rules.machine c.args.rules.now) own_point replies_of c.args.core.now) (StandsFor g.R.Key.Ord.cmp (g.R.Rules.machine c.args.rules.now) own_point replies_of c.take.new.self) w c.args.sheet.now.seats.items (done_of c.args.sheet.now.dones) s c.take.ensures.rules
    c.args.client
    (subst (λ (x : Result Bool AllocError). Reaches (TakesOut {A = AllocError} replies_of taken_front c.args.client x) w.ledger (StandsFor g.R.Key.Ord.cmp (g.R.Rules.machine c.args.rules.now) own_point replies_of c.take.new.self)) (c.in_ok-out.was ∙ ap (λ (b : Bool). Ok b) c.if-out.true) (by_rules g.R.Key.Ord.cmp g.R.Rules.machine c.args.core.now.rules c.args.rules.now s.own_same _ c.args.core.now c.take.new.self w.ledger c.take.ensures.moved s.stands))

pub returns-then-left : goal.returns-then-left
returns-then-left g c = λ room w s.
    carried_left room g.R.Key.Ord.cmp (g.R.Rules.machine c.args.rules.now) c.args.rules.now c.args.core.now.rules c.take.new.self.rules (StandsFor g.R.Key.Ord.cmp (g.R.Rules.machine c.args.rules.now) own_point replies_of c.args.core.now) (StandsFor g.R.Key.Ord.cmp (g.R.Rules.machine c.args.rules.now) own_point replies_of c.take.new.self) w c.args.sheet.now.seats.items (done_of c.args.sheet.now.dones) s c.take.ensures.rules
    c.args.client c.take_left.new.seats.items
    (subst (λ (x : Result Bool AllocError). Reaches (TakesOut {A = AllocError} replies_of taken_front c.args.client x) w.ledger (StandsFor g.R.Key.Ord.cmp (g.R.Rules.machine c.args.rules.now) own_point replies_of c.take.new.self)) (c.in_ok-out.was ∙ ap (λ (b : Bool). Ok b) c.if-out.false) (by_rules g.R.Key.Ord.cmp g.R.Rules.machine c.args.core.now.rules c.args.rules.now s.own_same _ c.args.core.now c.take.new.self w.ledger c.take.ensures.moved s.stands))
    (c.in_ok-left.ensures.taken c.if-left.true)

pub returns : goal.returns
returns g c = λ room w s.
    carried_none room g.R.Key.Ord.cmp (g.R.Rules.machine c.args.rules.now) c.args.rules.now c.args.core.now.rules c.take.new.self.rules (StandsFor g.R.Key.Ord.cmp (g.R.Rules.machine c.args.rules.now) own_point replies_of c.args.core.now) (StandsFor g.R.Key.Ord.cmp (g.R.Rules.machine c.args.rules.now) own_point replies_of c.take.new.self) w c.args.sheet.now.seats.items (done_of c.args.sheet.now.dones) s c.take.ensures.rules
    c.args.client c.take_left.new.seats.items
    (subst (λ (x : Result Bool AllocError). Reaches (TakesOut {A = AllocError} replies_of taken_front c.args.client x) w.ledger (StandsFor g.R.Key.Ord.cmp (g.R.Rules.machine c.args.rules.now) own_point replies_of c.take.new.self)) (c.in_ok-out.was ∙ ap (λ (b : Bool). Ok b) c.if-out.false) (by_rules g.R.Key.Ord.cmp g.R.Rules.machine c.args.core.now.rules c.args.rules.now s.own_same _ c.args.core.now c.take.new.self w.ledger c.take.ensures.moved s.stands))
    (c.in_ok-left.ensures.none c.if-left.false)
