use Rattle.std.proofs.Common.{◌≡◌, [], sym, ◌∙◌, refl, arith, length}
use Rattle.std.proofs.lemmas.List.{length-map}
use Rattle.std.proofs.lemmas.Bool.{eqb-true}
use Rattle.std.proofs.lemmas.Result.{err_from_is_err_and}
use Rattle.pq_frame.specs.Bodies.{bodies_of}
use Rattle.pq_session.specs.aux.ServerState.{state_of}
use Rattle.pq_session.proofs.Known.{appends_none}
use Rattle.pq_session.proofs.TakeLemmas.{take_fault, take_none, take_fails, take_ends, take_all, take_waiting, none_shown}
use Rattle.pq_session.proofs.run.take_piece.Goals as goal

pub returns-in_err-bodies-clause-takes : goal.returns-in_err-bodies-clause-takes
returns-in_err-bodies-clause-takes g c rest is =
    let p = err_from_is_err_and c.from_residual.result c.from_residual.ensures.1 in
    let fed = rw is at c.in_err-bodies.ensures in
    rw (p.1, p.2) ([], take_fault rest c.args.piece.now (state_of c.args.server.now) c.in_err-bodies.field-0.0 c.feed.new.self fed, appends_none _)

pub returns-in_err-bodies-clause-counts : goal.returns-in_err-bodies-clause-counts
returns-in_err-bodies-clause-counts g c =
    let p = err_from_is_err_and c.from_residual.result c.from_residual.ensures.1 in
    rw (p.1, p.2) (none_shown c.in_err-bodies.field-0.0 _ _ refl)

pub returns-then-is_empty-clause-takes : goal.returns-then-is_empty-clause-takes
returns-then-is_empty-clause-takes g c rest is =
    let fed = rw is at c.in_ok-bodies.ensures in
    let none : length (bodies_of c.in_ok-bodies.bodies.items) ≡ 0 = omega (arith, c.in_ok-bodies.bodies.ok.0, length-map c.in_ok-bodies.bodies.items (λ body. body.items), eqb-true _ 0 (sym c.is_empty.ensures ∙ c.if-is_empty.true)) in
    ([], take_none rest c.args.piece.now (state_of c.args.server.now) (bodies_of c.in_ok-bodies.bodies.items) c.feed.new.self fed none, appends_none _)

pub returns-in_err-status-clause-takes : goal.returns-in_err-status-clause-takes
returns-in_err-status-clause-takes g c rest is =
    let p = err_from_is_err_and c.from_residual-in_err-status.result c.from_residual-in_err-status.ensures.1 in
    let fed = rw is at c.in_ok-bodies.ensures in
    let stop = rw c.deref.ensures.value at c.in_err-status.ensures.err in
    rw (p.1, p.2) (stop.0, take_fails rest c.args.piece.now (state_of c.args.server.now) (state_of c.answer_bodies.new.server) (bodies_of c.in_ok-bodies.bodies.items) c.feed.new.self stop.0 c.in_err-status.field-0.0 fed stop.1, stop.2)

pub returns-in-Some-clause-takes : goal.returns-in-Some-clause-takes
returns-in-Some-clause-takes g c rest is =
    let fed = rw is at c.in_ok-bodies.ensures in
    let done = rw (c.deref.ensures.value, c.in-Some.is) at c.in_ok-status.ensures.ok in
    (done.0, take_ends rest c.args.piece.now (state_of c.args.server.now) (state_of c.answer_bodies.new.server) (bodies_of c.in_ok-bodies.bodies.items) c.feed.new.self done.0 c.in-Some.status fed done.1, done.2)

pub returns-in_err-feed-clause-takes : goal.returns-in_err-feed-clause-takes
returns-in_err-feed-clause-takes g c rest is =
    let p = err_from_is_err_and c.from_residual-in_err-feed.result c.from_residual-in_err-feed.ensures.1 in
    let fed = rw is at c.in_ok-bodies.ensures in
    let done = rw (c.deref.ensures.value, c.in_default.is) at c.in_ok-status.ensures.ok in
    rw (p.1, p.2) (done.0, take_waiting rest c.args.piece.now (state_of c.args.server.now) (state_of c.answer_bodies.new.server) (bodies_of c.in_ok-bodies.bodies.items) c.feed.new.self c.feed-2.new.self c.in_err-feed.field-0.0 done.0 fed done.1 c.in_err-feed.ensures, done.2)

pub returns-in_err-feed-clause-counts : goal.returns-in_err-feed-clause-counts
returns-in_err-feed-clause-counts g c =
    let p = err_from_is_err_and c.from_residual-in_err-feed.result c.from_residual-in_err-feed.ensures.1 in
    let done = c.in_ok-status.ensures.counts in
    rw (p.1, p.2) (none_shown c.in_err-feed.field-0.0 _ _ done)

pub returns-clause-takes : goal.returns-clause-takes
returns-clause-takes g c rest is =
    let fed = rw is at c.in_ok-bodies.ensures in
    let done = rw (c.deref.ensures.value, c.in_default.is) at c.in_ok-status.ensures.ok in
    (done.0, take_all rest c.args.piece.now (state_of c.args.server.now) (state_of c.answer_bodies.new.server) (bodies_of c.in_ok-bodies.bodies.items) (bodies_of c.in_ok-feed.field-0.items) c.feed.new.self c.feed-2.new.self done.0 fed done.1 c.in_ok-feed.ensures, done.2)
