use Rattle.std.proofs.Common.{[], refl}
use Rattle.pq_core.proofs.Confirmed.{marked_none, marked_left, marked_next}
use Rattle.pq_core.proofs.runs.confirming.confirm.Goals as goal

pub marks-init : goal.marks-init
marks-init g c = marked_none g.R.Key.Ord.cmp g.R.Rules.machine c.args.inputs.now c.args.claims.now c.args.memos.now c.args.memos.now refl refl c.requires.kept

pub returns-then-not-confirm_slot : goal.returns-then-not-confirm_slot
returns-then-not-confirm_slot g c =
    marked_left g.R.Key.Ord.cmp g.R.Rules.machine c.args.inputs.now c.args.claims.now c.args.memos.now c.marks.memos c.confirm_slot.new.self c.marks.invariant
    c.confirm_slot.ensures.rules (c.confirm_slot.ensures.left c.if-not-confirm_slot.true)

pub returns-in-None : goal.returns-in-None
returns-in-None g c =
    marked_next g.R.Key.Ord.cmp g.R.Rules.machine c.args.inputs.now c.args.claims.now
    (record { total = g.met.R.Key.Ord.total; exact = (g.met.R.Rules.lawful c.args.memos.now.rules []).exact }) c.marks.number c.args.memos.now c.marks.memos
    c.confirm_slot.new.self c.marks.invariant c.confirm_slot.ensures.rules c.confirm_slot.ensures.kept (c.is_free.ensures c.if-not-is_free.false)
    (c.confirm_slot.ensures.confirmed c.if-not-confirm_slot.false)

pub marks-preserved : goal.marks-preserved
marks-preserved g c =
    marked_next g.R.Key.Ord.cmp g.R.Rules.machine c.args.inputs.now c.args.claims.now
    (record { total = g.met.R.Key.Ord.total; exact = (g.met.R.Rules.lawful c.args.memos.now.rules []).exact }) c.marks.number c.args.memos.now c.marks.memos
    c.confirm_slot.new.self c.marks.invariant c.confirm_slot.ensures.rules c.confirm_slot.ensures.kept (c.is_free.ensures c.if-not-is_free.false)
    (c.confirm_slot.ensures.confirmed c.if-not-confirm_slot.false)

pub returns-then-i-eq-PORTION : goal.returns-then-i-eq-PORTION
returns-then-i-eq-PORTION g c =
    marked_next g.R.Key.Ord.cmp g.R.Rules.machine c.args.inputs.now c.args.claims.now
    (record { total = g.met.R.Key.Ord.total; exact = (g.met.R.Rules.lawful c.args.memos.now.rules []).exact }) c.marks.number c.args.memos.now c.marks.memos
    c.confirm_slot.new.self c.marks.invariant c.confirm_slot.ensures.rules c.confirm_slot.ensures.kept (c.is_free.ensures c.if-not-is_free.false)
    (c.confirm_slot.ensures.confirmed c.if-not-confirm_slot.false)
