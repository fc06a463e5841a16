use Rattle.std.proofs.Common.{◌≡◌, ◌∷◌, [], length, refl, sym, ap, ◌∙◌, append_assoc, length-append, arith}
use Rattle.std.specs.Vec.Iter.{into_iter_items}
use Rattle.pq_inputs.specs.Sources.{Sources, Table, with_file}
use Rattle.pq_server.specs.Library.{lasting}
use Rattle.pq_server.proofs.FillLemmas.{with_none, with_more}
use Rattle.pq_server.proofs.library.filling.filled.Goals as goal

pub files-init : goal.files-init
files-init c =
    let gives = c.into_iter-file-iterator.ensures.into_iter_gives in
    record {
      all = refl;
      left = omega (arith, gives.1, c.args.files.ok.0, ap length gives.0);
      set = ap (λ (t : Table). t.files) c.in-Ok.ensures ∙ sym (with_none []);
      revision = ap (λ (t : Table). t.revision) c.in-Ok.ensures;
      limit = ap (λ (t : Table). t.limit) c.in-Ok.ensures;
    }

pub files-preserved : goal.files-preserved
files-preserved c =
    let so_far = c.files.invariant in
    let file = c.in-Some.file in
    let steps : into_iter_items c.files.file-iterator ≡ file ∷ into_iter_items c.next.new.self = c.in-Some.ensures.steps.0 in
    record {
      all = append_assoc c.files.yielded (file ∷ []) _ ∙ rw (← steps) so_far.all;
      left = omega (arith, so_far.left, c.in-Some.ensures.steps.1, ap length steps);
      set = c.in_ok-set_file.ensures.files
          ∙ ap (λ (s : Sources). with_file s file.0 (lasting file.1)) so_far.set
          ∙ sym (with_more [] c.files.yielded file);
      revision = omega (arith, c.in_ok-set_file.ensures.revision, so_far.revision, length-append c.files.yielded (file ∷ []));
      limit = c.in_ok-set_file.ensures.limit ∙ so_far.limit;
    }
