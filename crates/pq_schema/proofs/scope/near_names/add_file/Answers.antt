use Rattle.std.proofs.Common.{Some, sym, ap, subst, ◌∙◌}
use Rattle.std.proofs.lemmas.Option.{slice_get-get_or, slice_get_past}
use Rattle.std.proofs.lemmas.Result.{on_ok_weaker}
use Rattle.pq_schema.specs.Contents.{Defs}
use Rattle.pq_schema.specs.aux.Index.{IsIndexOf}
use Rattle.pq_schema.proofs.NearNames.{adds_file, adds_none}
use Rattle.pq_schema.proofs.scope.near_names.add_file.Goals as goal

pub returns-in-Some : goal.returns-in-Some
returns-in-Some c =
    let f = c.in-Some.file.now in
    let files = c.args.files.now in
    let at = slice_get-get_or files _ f c.in-Some.ensures.lookup.3.0 ∙ ap Some (sym (c.in-Some.ensures.lookup.3.1 f)) in
    record {
      added = on_ok_weaker c.add_names.result
          (adds_file c.args.names.now.items c.add_names.new.names.items files c.args.place f c.index.result.now at
          (subst (λ (d : Defs). IsIndexOf c.index.result.now d.definitions) c.get-in-Some.ensures.value c.index.ensures.index))
          c.add_names.ensures.added;
    }

pub returns-in-None : goal.returns-in-None
returns-in-None c = record { added = adds_none c.args.names.now.items c.args.files.now c.args.place (slice_get_past c.args.files.now _ c.in-None.ensures.lookup.3) }
