use Rattle.std.proofs.Common.{Ok, Err}
use Rattle.pq_hall.proofs.PostMoves.{ended_goes, posted_counted, posted_goes, withdrew_goes}
use Rattle.pq_mail.specs.declared.post.Post.TheVariants.{Ask, Edit, Withdraw}
use Rattle.pq_hall.specs.declared.fault.HallFault.TheVariants.{Closed}
use Rattle.pq_hall.specs.declared.posting.Moved.TheVariants.{Accepted, Edited, Withdrawn}
use Rattle.pq_hall.proofs.posting.post_step.Goals as goal

pub returns-in-Ok-clause-counted : goal.returns-in-Ok-clause-counted
returns-in-Ok-clause-counted g c =
    λ log x. posted_counted g.R.Key.Ord.cmp (g.R.Rules.machine c.args.store.now.rules) c.args.store.now c.accept.new.self c.args.client c.args.post (Ask c.in-Ask.request) (Ok (Accepted c.in-Ok.number)) log c.in-Ask.is (c.in-Ok.ensures.counted log x)

pub returns-in-Err-clause-counted : goal.returns-in-Err-clause-counted
returns-in-Err-clause-counted g c =
    λ log x. posted_counted g.R.Key.Ord.cmp (g.R.Rules.machine c.args.store.now.rules) c.args.store.now c.accept.new.self c.args.client c.args.post (Ask c.in-Ask.request) c.not_asked.result log c.in-Ask.is (c.in-Err.ensures.counted log x)

pub returns-in-Ok-edit-clause-counted : goal.returns-in-Ok-edit-clause-counted
returns-in-Ok-edit-clause-counted g c =
    λ log x. posted_counted g.R.Key.Ord.cmp (g.R.Rules.machine c.args.store.now.rules) c.args.store.now c.edit.new.self c.args.client c.args.post (Edit c.in-Edit.change) (Ok (Edited c.in-Ok-edit.revision)) log c.in-Edit.is (c.in-Ok-edit.ensures.counted log x)

pub returns-in-Err-edit-clause-counted : goal.returns-in-Err-edit-clause-counted
returns-in-Err-edit-clause-counted g c =
    λ log x. posted_counted g.R.Key.Ord.cmp (g.R.Rules.machine c.args.store.now.rules) c.args.store.now c.edit.new.self c.args.client c.args.post (Edit c.in-Edit.change) c.not_edited.result log c.in-Edit.is (c.in-Err-edit.ensures.counted log x)

pub returns-in-Ok-withdraw-clause-moved : goal.returns-in-Ok-withdraw-clause-moved
returns-in-Ok-withdraw-clause-moved g c =
    posted_goes g.R.Key.Ord.cmp (g.R.Rules.machine c.args.store.now.rules) g.M.Stamp.point c.args.store.now c.withdraw.new.self c.args.client c.args.post (Withdraw c.in-Withdraw.label) (Ok (Withdrawn c.in-Ok-withdraw.some)) c.in-Withdraw.is
    (withdrew_goes g.R.Key.Ord.cmp (g.R.Rules.machine c.args.store.now.rules) g.M.Stamp.point c.args.store.now c.withdraw.new.self c.args.client c.in-Withdraw.label (Ok c.in-Ok-withdraw.some) c.in-Ok-withdraw.ensures.moved)

pub returns-in-Ok-withdraw-clause-counted : goal.returns-in-Ok-withdraw-clause-counted
returns-in-Ok-withdraw-clause-counted g c =
    λ log x. posted_counted g.R.Key.Ord.cmp (g.R.Rules.machine c.args.store.now.rules) c.args.store.now c.withdraw.new.self c.args.client c.args.post (Withdraw c.in-Withdraw.label) (Ok (Withdrawn c.in-Ok-withdraw.some)) log c.in-Withdraw.is (c.in-Ok-withdraw.ensures.counted log x)

pub returns-in-Err-withdraw-clause-counted : goal.returns-in-Err-withdraw-clause-counted
returns-in-Err-withdraw-clause-counted g c =
    λ log x. posted_counted g.R.Key.Ord.cmp (g.R.Rules.machine c.args.store.now.rules) c.args.store.now c.withdraw.new.self c.args.client c.args.post (Withdraw c.in-Withdraw.label) (Err Closed) log c.in-Withdraw.is (c.in-Err-withdraw.ensures.counted log x)

pub returns-in-End-clause-moved : goal.returns-in-End-clause-moved
returns-in-End-clause-moved g c =
    ended_goes g.R.Key.Ord.cmp (g.R.Rules.machine c.args.store.now.rules) g.M.Stamp.point c.args.store.now c.args.store.now c.args.client c.args.post c.in-End.is
