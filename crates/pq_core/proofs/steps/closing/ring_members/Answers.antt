use Rattle.std.proofs.Common.{rules, ◌≡◌, [], subst, sym, ◌∙◌}
use Rattle.pq_memo.specs.declared.stepping.frame.Frame.{Frame}
use Rattle.pq_memo.specs.Table.{memo_at, HasIn}
use Rattle.pq_memo.specs.Frames.{Awaits}
use Rattle.pq_core.proofs.RingMembers.{made_none, made_next, made_all, member_frame}
use Rattle.pq_core.proofs.RingRuns.{one_frame}
use Rattle.pq_core.proofs.steps.closing.ring_members.Goals as goal

pub keys-init : goal.keys-init
keys-init g c = λ fs keys all.
    let none : c.new-members.result.items ≡ [] = search rules in
    made_none g.R.Key.Ord.cmp (g.R.Rules.machine c.args.memos.now.rules) c.args.inputs.now.history c.args.inputs.now.revision (memo_at g.R.Key.Ord.cmp c.args.memos.now.places)
    c.args.claims.now c.args.runs.now.items c.requires.claimed c.claims_are_sound.ensures.sound c.args.ring.now c.new-members.result.items none fs

pub round_member-requires : goal.round_member-requires
round_member-requires g c =
    let f = member_frame g.R.Key.Ord.cmp (g.R.Rules.machine c.args.memos.now.rules) c.args.inputs.now.history c.args.inputs.now.revision (memo_at g.R.Key.Ord.cmp c.args.memos.now.places)
    c.args.claims.now c.args.runs.now.items c.requires.claimed c.claims_are_sound.ensures.sound c.args.ring.now
    (λ (f : Frame g.row.R-Key.Denot g.row.R-Part.Denot). (q : g.row.R-Key.Denot) × Awaits g.R.Key.Ord.cmp (g.R.Rules.machine c.args.memos.now.rules) c.args.inputs.now.history
    c.args.inputs.now.revision (HasIn (memo_at g.R.Key.Ord.cmp c.args.memos.now.places)) f.key f.stage q)
    c.requires.waits.0 c.keys.i c.index-ring-i.result c.requires.waits.1 c.requires.waits.2 c.requires.waits.3 c.keys-test.true c.index-ring-i.is in
    subst (λ (f : Frame g.row.R-Key.Denot g.row.R-Part.Denot). (q : g.row.R-Key.Denot) × Awaits g.R.Key.Ord.cmp (g.R.Rules.machine c.args.memos.now.rules) c.args.inputs.now.history
    c.args.inputs.now.revision (HasIn (memo_at g.R.Key.Ord.cmp c.args.memos.now.places)) f.key f.stage q)
    (one_frame c.args.runs.now.items c.args.claims.now c.requires.claimed c.claims_are_sound.ensures.sound f.0 c.in-Some.frame.now f.1 c.in-Some.ensures.found.1
    (f.2 ∙ sym c.in-Some.ensures.found.0)) f.3

pub unreachable-requires : goal.unreachable-requires
unreachable-requires g c =
    let f = member_frame g.R.Key.Ord.cmp (g.R.Rules.machine c.args.memos.now.rules) c.args.inputs.now.history c.args.inputs.now.revision (memo_at g.R.Key.Ord.cmp c.args.memos.now.places)
    c.args.claims.now c.args.runs.now.items c.requires.claimed c.claims_are_sound.ensures.sound c.args.ring.now
    (λ (f : Frame g.row.R-Key.Denot g.row.R-Part.Denot). (q : g.row.R-Key.Denot) × Awaits g.R.Key.Ord.cmp (g.R.Rules.machine c.args.memos.now.rules) c.args.inputs.now.history
    c.args.inputs.now.revision (HasIn (memo_at g.R.Key.Ord.cmp c.args.memos.now.places)) f.key f.stage q)
    c.requires.waits.0 c.keys.i c.index-ring-i.result c.requires.waits.1 c.requires.waits.2 c.requires.waits.3 c.keys-test.true c.index-ring-i.is in
    c.in-None.ensures.none f.0 f.1 f.2

pub keys-preserved : goal.keys-preserved
keys-preserved g c = λ fs keys all.
    made_next g.R.Key.Ord.cmp (g.R.Rules.machine c.args.memos.now.rules) c.args.inputs.now.history c.args.inputs.now.revision (memo_at g.R.Key.Ord.cmp c.args.memos.now.places)
    c.args.claims.now c.args.runs.now.items c.requires.claimed c.claims_are_sound.ensures.sound c.args.ring.now
    c.keys.members.items c.push.new.items.items c.in_ok-member-in-Some.member c.keys.i c.index-ring-i.result c.in-Some.frame.now c.keys-test.true c.index-ring-i.is c.in-Some.ensures.found.0
    c.in-Some.ensures.found.1 (c.in_ok-member-in-Some.ensures {u = tt}) (c.in_ok-push-in-Some.ensures {u = tt}).added fs keys all (c.keys.invariant fs keys all)

pub returns : goal.returns
returns g c = λ fs keys all.
    made_all g.R.Key.Ord.cmp (g.R.Rules.machine c.args.memos.now.rules) c.args.inputs.now.history c.args.inputs.now.revision (memo_at g.R.Key.Ord.cmp c.args.memos.now.places)
    c.args.claims.now c.args.runs.now.items c.requires.claimed c.claims_are_sound.ensures.sound c.args.ring.now
    c.keys.members.items c.keys.i c.keys-test.false fs keys (c.keys.invariant fs keys all)
