use Rattle.std.proofs.lemmas.Result.{IfOk-weaker}
use Rattle.pq_checks.proofs.Joined.{in_turn, last_turn}
use Rattle.pq_checks.proofs.queries.gathered.push_links.Goals as goal

pub returns : goal.returns
returns c = record {
  said = IfOk-weaker c.push_import_faults.result _ _ (λ _ h.
      in_turn c.args.faults.now.items c.push_package_faults.new.faults.items c.push_import_faults.new.faults.items _ _ c.in_ok-push_package_faults.ensures.said
      (last_turn c.push_package_faults.new.faults.items c.push_import_faults.new.faults.items _ (rw (c.ring.ensures.ring) at h))) c.push_import_faults.ensures.said;
}
