use Rattle.std.proofs.Common.{◌≡◌, drop, string_bytes}
use Rattle.pq_session.specs.Cuts.{after_cuts}
use Rattle.pq_session.proofs.editor.cuts.after_each.Given as goal

abbrev pub invariant-changes : goal.invariant-changes
invariant-changes l = after_cuts (string_bytes l.text) (drop l.k l.changes) ≡ after_cuts l.before l.changes
